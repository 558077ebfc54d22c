-- How long a result is. Assumes nothing.
use mathlib.Core.Path.{◌≡◌, ap}
use mathlib.Core.List.{List}
use Prim.Native.Nat.{ℕ, ◌+◌, ◌*◌, ◌≤◌}
use native.Mathlib.Omega.{arith}
use lib.ListN.{length}
use Rattle.records.specs.Bytes.{Bytes}
use Rattle.records.specs.Tree.{sizes}
use Rattle.records.specs.File.{File, read, print, header_for, all_trees, all_declarators}
use Rattle.records.specs.Refusal.{room_wanted, refusal}
use Rattle.records.specs.declared.layout.Header.{Header}
use Rattle.records_laws.proofs.RoundTrip.{print-read, print-length}
use Rattle.records_laws.proofs.Accepted.{accepted}
use Rattle.records_laws.proofs.ReadFile.{read_header}
use Rattle.walk_rules.specs.Context.{Context, context_of}
use Rattle.statements_rules.specs.Fold.{fold_file, fold_bytes, accepted as returned}
use Rattle.statements_rules.proofs.Totals.{nodes_and_declarators, declarators-folded, statements-kept, context_kept}

module _ (f : File) where
  -- M + 2D never grows
  pub nodes-most : sizes (all_trees (fold_file f).file.statements) + 2 * length (all_declarators (fold_file f).file.statements)
      ≤ sizes (all_trees f.statements) + 2 * length (all_declarators f.statements)
  nodes-most = omega (arith, nodes_and_declarators f, declarators-folded f)

  -- "at most length + 8 × D"
  pub result-length : length (print (fold_file f).file) ≤ length (print f) + 8 * length (all_declarators f.statements)
  unfolding context_of
  result-length =
      let names = ap (λ (c : Context). length c.names) (context_kept f) in
      let scopes = ap (λ (c : Context). length c.scopes) (context_kept f) in
      let frames = ap (λ (c : Context). length c.frames) (context_kept f) in
      omega (arith, print-length f, print-length (fold_file f).file, nodes_and_declarators f, declarators-folded f, statements-kept f, names, scopes, frames)

-- so the result of an accepted file fits the room that row 11 asks for
pub bytes_length : (bs : List ℕ) (room : ℕ) → Bytes bs → refusal bs room ≡ 0 → (fold_bytes bs room).result_length ≤ room_wanted bs
unfolding fold_bytes returned room_wanted header_for
bytes_length bs room small e =
    let declarators = ap (λ (h : Header). h.declarators) (read_header bs room (accepted bs room e)) in
    let same = ap length (print-read bs room small e) in
    rw e (omega (arith, result-length (read bs), declarators, same))
