-- What the passes over all records give, as the rows of the table say it. Assumes nothing.
use mathlib.Core.Path.{◌≡◌, refl, sym, ap, ◌∙◌}
use mathlib.Core.Bool.{Bool, true, false, not, ◌&&◌, and-false, true≢false}
use mathlib.Core.List.{List, [], ◌∷◌}
use Prim.Native.Nat.{ℕ, ◌+◌, ◌-◌, ◌≤◌, ◌<◌}
use native.Mathlib.Omega.{arith}
use lib.ListN.{length, get_or, drop, length-drop}
use lib.Seq.{take_all}
use lib.Dec.{eqb}
use Rattle.records.specs.Records.{records_from, every, every_from}
use Rattle.records.specs.File.{initializers, names_of, declarators_of, statements_of, facts_from, declarators_start}
use Rattle.records.specs.Script.{good_declarator, good_statement, declarator_sum, bad_statements}
use Rattle.records.specs.Record.{header_of, declarator_at}
use Rattle.records.specs.declared.layout.Header.{Header}
use Rattle.records.specs.Tree.{Trees, count, forest_of, closed}
use Rattle.records.specs.Place.{roots_stand, all_placed, expressions, bad_trees}
use Rattle.records.specs.Count.{reads_of, targets_of, good_counts, bad_counts}
use Rattle.records.specs.declared.layout.NameFacts.{NameFacts}
use Rattle.records.specs.declared.layout.NodeRecord.{NodeRecord}
use Rattle.records.specs.declared.layout.DeclaratorRecord.{DeclaratorRecord}
use Rattle.records.specs.declared.layout.StatementRecord.{StatementRecord}
use Rattle.records.proofs.Series.{records-length}
use Rattle.records.proofs.Tests.{one-most}
use Rattle.records_refusal.specs.Scanning.{good_trees}
use Rattle.records_rows.specs.Stack.{entries, entry_at, root_stands}
use Rattle.records_rows.specs.Tally.{Tally}
use Rattle.records_rows.proofs.Forests.{entries-length, roots_entries}
use Rattle.records_rows.proofs.Stacks.{entries_part}

-- no more trees than records
initializers-most : (ds : List DeclaratorRecord) → initializers ds ≤ length ds
unfolding initializers
initializers-most [] = omega arith
initializers-most (d ∷ ds) = omega (arith, one-most (eqb d.present 1), initializers-most ds)

expressions-most : (ss : List StatementRecord) → expressions ss ≤ length ss
unfolding expressions
expressions-most [] = omega arith
expressions-most (s ∷ ss) = omega (arith, one-most (eqb s.kind 5), expressions-most ss)

module _ (len n at r : ℕ) where
  pub initializers-low : (readAt : ℕ → DeclaratorRecord) → r ≡ initializers (records_from readAt len n at) → r ≤ n
  initializers-low readAt e = omega (arith, e, initializers-most (records_from readAt len n at), records-length readAt len n at)

  pub expressions-low : (readAt : ℕ → StatementRecord) → r ≡ expressions (records_from readAt len n at) → r ≤ n
  expressions-low readAt e = omega (arith, e, expressions-most (records_from readAt len n at), records-length readAt len n at)

-- a stack whose entries from the top on are those of a forest
module _ (stack : List ℕ) (top : ℕ) (forest : Trees) (same : drop top stack ≡ entries forest) where
  pub forest_count : length stack - top ≡ count forest
  forest_count = sym (length-drop top stack) ∙ ap length same ∙ entries-length forest

  pub forest_roots : top ≤ length stack → every_from (λ k. root_stands) 0 (records_from (entry_at stack) 1 (length stack - top) top) ≡ roots_stand forest
  forest_roots h =
      rw (entries_part stack (length stack - top) top (omega arith), take_all (length stack - top) (drop top stack) (omega (arith, length-drop top stack)), same)
      (sym (roots_entries 0 forest))

and_turned : (c p a r : Bool) → (c && p && a && r) ≡ (c && a && r && p)
and_turned true true true true = refl
and_turned true true true false = refl
and_turned true true false r = refl
and_turned true false true true = refl
and_turned true false true false = refl
and_turned true false false r = refl
and_turned false p a r = refl

-- row 6
pub statements-judged : (bs : List ℕ) (h : Header) {good_ds good_ss : Bool} {n count : ℕ} {ds : List DeclaratorRecord} {ss : List StatementRecord}
    → h ≡ header_of bs → count ≡ h.declarators → ds ≡ declarators_of bs → ss ≡ statements_of bs
    → good_ds ≡ every (good_declarator (facts_from bs 24 h.names)) ds → good_ss ≡ every good_statement ss → n ≡ declarator_sum ss
    → not (good_ds && good_ss && eqb n count) ≡ bad_statements (names_of bs) (declarators_of bs) (statements_of bs)
unfolding bad_statements names_of declarators_of
statements-judged bs h eh ec eds ess ed es en =
    rw (ed, es, en, ec, eds, ess, eh, records-length (declarator_at bs) 4 (header_of bs).declarators (declarators_start (header_of bs)))

-- row 8 where they do
pub trees-judged : (ds : List DeclaratorRecord) (ss : List StatementRecord) (ns : List NodeRecord) (stack : List ℕ) (top trees : ℕ) {roots : Bool}
    → good_trees ns ≡ true → top ≤ length stack → drop top stack ≡ entries (forest_of ns) → trees ≡ initializers ds + expressions ss
    → roots ≡ every_from (λ k. root_stands) 0 (records_from (entry_at stack) 1 (length stack - top) top)
    → not (eqb (length stack - top) trees && roots) ≡ bad_trees ds ss ns
unfolding bad_trees
trees-judged ds ss ns stack top trees g h same et er =
    rw (er, forest_roots stack top (forest_of ns) same h, forest_count stack top (forest_of ns) same, et)
    (ap not (ap (λ (b : Bool). b && eqb (count (forest_of ns)) (initializers ds + expressions ss) && roots_stand (forest_of ns)) (sym g)
    ∙ and_turned (closed ns) (all_placed (forest_of ns)) (eqb (count (forest_of ns)) (initializers ds + expressions ss)) (roots_stand (forest_of ns))))

unplaced : (c p a r : Bool) → (c && p) ≡ false → true ≡ not (c && a && r && p)
unplaced false p a r e = refl
unplaced true false a r e = sym (ap not (and-false (a && r)))
unplaced true true a r e = absurd (true≢false e)

-- row 8 where the trees don't close or stand
pub trees-bad : (ds : List DeclaratorRecord) (ss : List StatementRecord) (ns : List NodeRecord) → good_trees ns ≡ false → true ≡ bad_trees ds ss ns
unfolding bad_trees
trees-bad ds ss ns e = unplaced (closed ns) (all_placed (forest_of ns)) _ _ e

-- tests that agree on the records of a series
pub every-same : {A : Type 0} (f g : ℕ → A → Bool) (i : ℕ) (xs : List A) → ((k : ℕ) (x : A) → k < i + length xs → f k x ≡ g k x)
    → every_from f i xs ≡ every_from g i xs
unfolding every_from
every-same f g i [] same = refl
every-same f g i (x ∷ xs) same =
    rw (same i x (omega arith), every-same f g (i + 1) xs (λ k y h. same k y (omega arith)))

-- row 10
pub counts-judged : (names : List NameFacts) (forest : Trees) (reads targets : List ℕ) (r : Bool)
    → Tally (λ k. reads_of k forest) reads → Tally (λ k. targets_of k forest) targets
    → r ≡ every_from (λ k n. good_counts n (get_or reads k 0) (get_or targets k 0)) 0 names → length names ≤ length reads → length names ≤ length targets
    → not r ≡ bad_counts names forest
unfolding bad_counts
counts-judged names forest reads targets r tr tt' e lr lt =
    ap not (e ∙ every-same _ _ 0 names (λ k n h. rw (tr k (omega arith), tt' k (omega arith))))
