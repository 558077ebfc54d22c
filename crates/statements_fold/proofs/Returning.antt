-- What the fold returns and writes, from what its parts did.
use Prim.Native.Nat.{ℕ, ◌+◌, ◌*◌, ◌≤◌, ◌<◌}
use native.Mathlib.Omega.{arith}
use mathlib.Core.Bool.{false}
use mathlib.Core.List.{List, []}
use mathlib.Core.Path.{◌≡◌, refl, sym, ap, ◌∙◌, subst}
use lib.ListN.{length, length-map}
use borrow.Author.Tests.{leb-true, le-leb, lt-leb, ltb-false, ne_eqb}
use mir.Syntax.{w16}
use mir.Val.{Fits}
use Rattle.std.specs.Prelude.{Result, Ok, Err}
use Rattle.records.specs.Limits.{max_nodes, max_declarators, max_statements}
use Rattle.records.specs.Header.{outside_limits}
use Rattle.records.specs.Record.{header_of}
use Rattle.records.specs.File.{File, header_for, file_length, read, print}
use Rattle.records.specs.Refusal.{refusal, room_wanted}
use Rattle.records.specs.declared.layout.Header.{Header}
use Rattle.walk_rules.specs.Context.{context_of}
use Rattle.statements_rules.specs.Statements.{statement_of, fold_statements}
use Rattle.statements_rules.specs.Fold.{with_statements, folded_file, fold_file, refused, fold_bytes}
use Rattle.records_laws.proofs.Accepted.{Accepted as Passed, accepted as rows-passed}
use Rattle.records_laws.proofs.PrintedFile.{printed_length}
use Rattle.theory_demands.proofs.Limits.{Lower, limits-parts}
use Rattle.theory_demands.proofs.Acceptance.{lower}
use Rattle.records_refusal.specs.declared.outcome.Refusal.{Refusal}
use Rattle.records_refusal.specs.Number.{row_number}
use Rattle.records_refusal.specs.Passing.{HeaderPasses}
use Rattle.records_refusal.proofs.Rows.{refuses}
use Rattle.records_result.specs.declared.header.Counts.{Counts}
use Rattle.records_result.specs.Header.{result_header}
use Rattle.records_result.specs.Result.{Hold, SameFacts, Stated, PutsResult}
use Rattle.statements.specs.declared.in_order.Totals.{Totals}
use Rattle.statements.specs.State.{most_nodes}
use Rattle.statements.specs.Folds.{Accepted, FoldsFile}
use Rattle.statements_fold.specs.declared.tables.Outcome.{Outcome}
use Rattle.statements_fold.specs.Answer.{numbers, numbers_of, laid_over}
use Rattle.statements_fold.specs.Outcome.{folds, laid_if_room, FoldsRecords}
use Rattle.statements_fold.proofs.Core.{FoldsBytes, by_definition}

-- A file that a row of its header refuses.
pub returns_refused : (bytes : List ℕ) (room : ℕ) (output : List ℕ) (e : Refusal) → row_number e ≡ refusal bytes room → (numbers (Err e) ≡ numbers_of (fold_bytes bytes room)) × (output ≡ laid_over (fold_bytes bytes room) output)
unfolding fold_bytes refused
returns_refused bytes room output e q = rw (← q, ne_eqb (row_number e) 0 (λ z. omega (arith, z, refuses e))) (refl, refl)

-- the counts of a header that passes are within the limits
header_counts : (h : Header) → outside_limits h ≡ false → (most_nodes h ≤ 3000) × (h.declarators ≤ 500) × (h.statements ≤ 500)
header_counts h e =
    let w = (limits-parts h e).0 in
    (leb-true (most_nodes h) max_nodes w.nodes, leb-true h.declarators max_declarators w.declarators, leb-true h.statements max_statements w.statements)

pub header_limits : {bytes : List ℕ} {h : Header} → HeaderPasses bytes h → (most_nodes h ≤ 3000) × (h.declarators ≤ 500) × (h.statements ≤ 500)
header_limits {bytes} {h} p = header_counts h p.limits

-- the counts of the tables, and what the fold comes to
abbrev pub counts_of : Totals → Counts
counts_of t = record { nodes = t.nodes_used; declarators = t.declarators_kept; statements = t.statements_kept }

abbrev outcome : ℕ → Totals → Outcome
outcome n t = record { length = n; folds = t.folds; statements_kept = t.statements_kept; looks = t.looks }

-- the file that the fold comes to
abbrev folded : List ℕ → File
folded bytes = (fold_file (read bytes)).file

same-facts : (bytes : List ℕ) → SameFacts (folded bytes) (read bytes)
unfolding fold_file folded_file with_statements
same-facts bytes = record { options = refl; current_scope = refl; this_scope = refl; names = refl; scopes = refl; frames = refl }

-- as many statements as numbers
same_count : (bytes : List ℕ) → length (folded bytes).statements ≡ length (fold_file (read bytes)).kept
unfolding fold_file folded_file with_statements
same_count bytes =
    let ks = (fold_statements (context_of (read bytes)) 0 [] (read bytes).statements).result in
    length-map ks statement_of ∙ sym (length-map ks (λ k. k.number))

-- A file that is accepted, from the tables that hold the result's statements.
module _ {bytes : List ℕ} (a : Accepted bytes) {nodes declarators statements names₀ names kept : List ℕ} {t : Totals} {rest₁ rest₂ rest₃ : List ℕ} (w : FoldsFile bytes nodes declarators statements names₀ names kept t rest₁ rest₂ rest₃) {h : Header} (q : h ≡ header_of bytes) where
  rows : Passed bytes a.0
  rows = rows-passed bytes a.0 a.1

  stated : Stated (folded bytes).statements nodes declarators statements (counts_of t) rest₁ rest₂ rest₃
  stated = record { trees = w.trees; declared = w.declared; stated = w.stated; used = w.used; many = w.many; listed = w.count }

  -- the counts of the result are no more than those of the file
  counted : (t.nodes_used + 2 * t.declarators_kept ≤ most_nodes h) × (t.declarators_kept ≤ h.declarators) × (t.statements_kept ≤ h.statements)
  unfolding header_for
  counted =
      let l = subst (λ (x : Header). Lower x (header_for (folded bytes))) (sym q) (lower bytes a.0 rows) in
      (omega (arith, l.nodes, w.used, w.many), omega (arith, l.declarators, w.many), omega (arith, l.statements, w.count))

  -- so a header has room for them
  pub countable : Fits w16 t.nodes_used × Fits w16 t.declarators_kept × Fits w16 t.statements_kept
  countable =
      let l = header_counts h (subst (λ (x : Header). outside_limits x ≡ false) (sym q) rows.limits) in
      (omega (arith, l.0, counted.0), omega (arith, l.1, counted.1), omega (arith, l.2, counted.2))

  pub held : 16 * most_nodes h ≤ length nodes → 4 * h.declarators ≤ length declarators → 4 * h.statements ≤ length statements → Hold nodes declarators statements (counts_of t)
  held x y z = (omega (arith, counted.0, x), omega (arith, counted.1, y), omega (arith, counted.2, z))

  same_length : file_length (result_header h (counts_of t)) ≡ length (print (folded bytes))
  unfolding header_for
  same_length =
      let l = lower bytes a.0 rows in
      let n = ap (λ (x : Header). x.names) q in
      let s = ap (λ (x : Header). x.scopes) q in
      let f = ap (λ (x : Header). x.frames) q in
      omega (arith, printed_length (folded bytes), l.names, l.scopes, l.frames, n, s, f, w.used, w.many, w.count)

  module _ {n : ℕ} (en : n ≡ file_length (result_header h (counts_of t))) where
    pub outcome-is : outcome n t ≡ folds (fold_file (read bytes))
    outcome-is = rw (en, same_length, w.folds, w.count, same_count bytes, w.looks) refl

    -- the output where there is no room, and where the result is laid down
    pub unwritten : (output : List ℕ) → length output < n → output ≡ laid_if_room (print (folded bytes)) output
    unwritten output l = rw (lt-leb (length (print (folded bytes))) (length output) (omega (arith, l, en, same_length))) refl

    pub written : (output : List ℕ) {output' : List ℕ} → n ≤ length output → PutsResult bytes nodes declarators statements (counts_of t) output output' → output' ≡ laid_if_room (print (folded bytes)) output
    written output l p =
        rw (le-leb (length (print (folded bytes))) (length output) (omega (arith, l, en, same_length))) (p (folded bytes) rest₁ rest₂ rest₃ (same-facts bytes) stated)

-- What is returned and written, where the output is the room.
module _ (bytes output : List ℕ) where
  long : refusal bytes (length output) ≡ 0 → room_wanted bytes ≤ length output
  long e = ltb-false (length output) (room_wanted bytes) (rows-passed bytes (length output) e).fits

  module _ {output' names names' kept : List ℕ} where
    core : {r : Result Outcome Refusal} → FoldsRecords bytes (length output) output output' names names' kept r → FoldsBytes bytes (length output) output output' r
    core w = by_definition bytes (length output) output long w

    pub written-refused : (e : Refusal) → FoldsRecords bytes (length output) output output' names names' kept (Err e)
        → (numbers (Err e) ≡ numbers_of (fold_bytes bytes (length output))) × (output' ≡ laid_over (fold_bytes bytes (length output)) output)
    written-refused e w = (rw (← (core w).number, ← (core w).measured, ← (core w).folds) refl, (core w).written)

    pub written-folded : {r : Outcome} → FoldsRecords bytes (length output) output output' names names' kept (Ok r)
        → (numbers (Ok (record { length = r.length; folds = r.folds })) ≡ numbers_of (fold_bytes bytes (length output))) × (output' ≡ laid_over (fold_bytes bytes (length output)) output)
    written-folded w = (rw (← (core w).number, ← (core w).measured, ← (core w).folds) refl, (core w).written)
