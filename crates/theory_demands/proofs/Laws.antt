-- The laws of a result, and the bound of the looks, of any accepted bytes: each is one theorem. Assumes nothing; demand 3 itself is in
-- Demand3.antt.
use Prim.Native.Nat.{ℕ, ◌+◌, ◌*◌, ◌≤◌}
use native.Mathlib.Nat.{mul-le-mul_left}
use native.Mathlib.Omega.{arith}
use mathlib.Core.List.{List}
use mathlib.Core.Path.{◌≡◌, sym, ap, ◌∙◌, subst}
use lib.ListN.{length}
use borrow.Author.Tests.{leb-true}
use Rattle.records.specs.Bytes.{Bytes}
use Rattle.records.specs.Record.{header_of}
use Rattle.records.specs.Limits.{max_nodes}
use Rattle.records.specs.Tree.{sizes}
use Rattle.records.specs.File.{File, header_for, names_of, scopes_of, frames_of, all_trees, all_declarators, read, print}
use Rattle.records.specs.Refusal.{refusal}
use Rattle.records.specs.declared.layout.Header.{Header}
use Rattle.statements_rules.specs.Fold.{fold_file, Returned, accepted, fold_bytes}
use Rattle.statements_rules.proofs.Totals.{declarators-folded}
use Rattle.statements_rules.proofs.Looks.{file-looks}
use Rattle.records_laws.proofs.Accepted.{Accepted, accepted as rows-passed, has_length}
use Rattle.records_laws.proofs.PrintedFile.{printed_header, printed_names, printed_scopes, printed_frames}
use Rattle.records_laws.proofs.ReadFile.{read_header}
use Rattle.theory_demands.proofs.Demand3.{result-read}
use Rattle.theory_demands.proofs.Limits.{Lower, limits-parts, room-lower}
use Rattle.theory_demands.proofs.Acceptance.{lower, same_names, same-scopes, same-frames, result-accepted}
use Rattle.theory_demands.proofs.ResultBytes.{result_bytes}

-- what is returned of accepted bytes
pub returned : (bytes : List ℕ) (room : ℕ) → refusal bytes room ≡ 0 → fold_bytes bytes room ≡ accepted (fold_file (read bytes))
unfolding fold_bytes
returned bytes room e = rw e

module _ (bytes : List ℕ) (room : ℕ) (e : refusal bytes room ≡ 0) where
  abbrev pub result : List ℕ
  result = (fold_bytes bytes room).result

  abbrev folded : File
  folded = (fold_file (read bytes)).file

  abbrev rows : Accepted bytes room
  rows = rows-passed bytes room e

  -- the result is the fold of the file, printed
  pub result-is : result ≡ print (fold_file (read bytes)).file
  unfolding accepted
  result-is = ap (λ (r : Returned). r.result) (returned bytes room e)

  -- and is read as that
  pub result-reads : read result ≡ (fold_file (read bytes)).file
  result-reads = result-read bytes room e

  -- "The result of an accepted file is accepted with the same room."
  pub accepted-again : refusal result room ≡ 0
  accepted-again = result-accepted bytes room e

  -- so it can be folded again
  pub folds-again : (fold_bytes result room).number ≡ 0
  unfolding accepted
  folds-again = ap (λ (r : Returned). r.number) (returned result room accepted-again)

  -- and is bytes if they were
  pub bytes_again : Bytes bytes → Bytes result
  bytes_again small = result_bytes bytes room small e

  -- the length that is returned is the result's
  pub result-measured : (fold_bytes bytes room).result_length ≡ length result
  unfolding accepted
  result-measured = ap (λ (r : Returned). r.result_length) (returned bytes room e) ∙ sym (ap length result-is)

  counts : Lower (header_of bytes) (header_of result)
  counts = subst (λ h. Lower (header_of bytes) h) (sym (ap header_of result-is ∙ printed_header folded)) (lower bytes room rows)

  -- the room that a result asks for is no more: length + 8 × D never grows
  pub room_most : length result + 8 * (header_of result).declarators ≤ length bytes + 8 * (header_of bytes).declarators
  room_most =
      let x = room-lower (header_of bytes) (header_of result) counts in
      let y = has_length rows in
      let z = has_length (rows-passed result room accepted-again) in
      omega (arith, x, y, z)

  -- "at most length + 8 × D"
  pub length_most : length result ≤ length bytes + 8 * (header_of bytes).declarators
  length_most = omega (arith, room_most)

  -- M + 2D never grows; nor does M + D
  pub nodes-most : (header_of result).nodes + 2 * (header_of result).declarators ≤ (header_of bytes).nodes + 2 * (header_of bytes).declarators
  nodes-most = counts.nodes

  pub nodes_and_declarators : (header_of result).nodes + (header_of result).declarators ≤ (header_of bytes).nodes + (header_of bytes).declarators
  nodes_and_declarators = counts.weight

  -- each fold takes one declarator
  pub declarators-taken : (header_of result).declarators + (fold_bytes bytes room).folds ≡ (header_of bytes).declarators
  unfolding accepted header_for
  declarators-taken =
      let w = ap (λ (r : Returned). r.folds) (returned bytes room e) in
      let x = ap (λ (h : Header). h.declarators) (read_header bytes room rows) in
      let y = ap (λ (bs : List ℕ). (header_of bs).declarators) result-is in
      let z = ap (λ (h : Header). h.declarators) (printed_header folded) in
      let d = declarators-folded (read bytes) in
      omega (arith, w, x, y, z, d)

  -- statements are dropped, but never the last one that is left
  pub statements-most : (header_of result).statements ≤ (header_of bytes).statements
  statements-most = counts.statements

  pub statements_least : 1 ≤ (header_of result).statements
  statements_least = counts.some

  -- "Facts, scopes, frames and options are copied to the result."
  pub names-copied : names_of result ≡ names_of bytes
  names-copied = ap names_of result-is ∙ printed_names folded ∙ same_names bytes room rows

  pub scopes-copied : scopes_of result ≡ scopes_of bytes
  scopes-copied = ap scopes_of result-is ∙ printed_scopes folded ∙ same-scopes bytes room rows

  pub frames-copied : frames_of result ≡ frames_of bytes
  frames-copied = ap frames_of result-is ∙ printed_frames folded ∙ same-frames bytes room rows

  pub options-copied : (header_of result).options ≡ (header_of bytes).options
  options-copied = counts.options

  pub current_scope_copied : (header_of result).current_scope ≡ (header_of bytes).current_scope
  current_scope_copied = counts.current

  pub this_scope_copied : (header_of result).this_scope ≡ (header_of bytes).this_scope
  this_scope_copied = counts.this

  -- "looks never exceed (T + 2D) × 3,000"
  pub file-looks-most : (fold_file (read bytes)).looks ≤ ((header_of bytes).statements + 2 * (header_of bytes).declarators) * max_nodes
  unfolding header_for
  file-looks-most =
      let h = header_of bytes in
      let f = read bytes in
      let e = read_header bytes room rows in
      let t = ap (λ (x : Header). x.statements) e in
      let d = ap (λ (x : Header). x.declarators) e in
      let m = ap (λ (x : Header). x.nodes) e in
      let most = leb-true (h.nodes + 2 * h.declarators) max_nodes (limits-parts h rows.limits).0.nodes in
      let few : sizes (all_trees f.statements) + length (all_declarators f.statements) ≤ max_nodes = omega (arith, d, m, most) in
      let x = mul-le-mul_left (length f.statements + 2 * length (all_declarators f.statements)) few in
      omega (arith, file-looks f, x, t, d)
