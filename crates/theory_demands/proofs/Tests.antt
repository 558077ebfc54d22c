-- From sums over a program to the tests of rows 6 to 10.
use Prim.Native.Nat.{ℕ, suc, ◌+◌, ◌≤◌, ◌<◌}
use native.Mathlib.Omega.{arith}
use mathlib.Core.Bool.{Bool, true, false, ◌&&◌, ◌||◌, not}
use mathlib.Core.List.{List, [], ◌∷◌}
use mathlib.Core.Path.{◌≡◌, refl, sym, ◌∙◌, subst}
use lib.ListN.{length, get_or}
use lib.Dec.{eqb, ltb, leb}
use borrow.Author.Tests.{eqb-true, eq-eqb}
use Rattle.records.specs.Flags.{recorded, mutated, unresolved}
use Rattle.records.specs.Limits.{no_number}
use Rattle.records.specs.Records.{every_from, every}
use Rattle.records.specs.Script.{flags_of, good_declarator_of, good_declarator, declares, declared_twice}
use Rattle.records.specs.Node.{good_node}
use Rattle.records.specs.Tree.{Tree, Trees, node, none, more, count, record_of, preorder, preorders}
use Rattle.records.specs.Place.{placed, all_placed, roots_stand}
use Rattle.records.specs.Count.{good_counts}
use Rattle.records.specs.File.{one, Initializer, bare, given, is_given, Declarator, declarator_records}
use Rattle.records.specs.declared.layout.NameFacts.{NameFacts}
use Rattle.records.specs.declared.layout.NodeRecord.{NodeRecord}
use Rattle.records.specs.declared.layout.DeclaratorRecord.{DeclaratorRecord}
use Rattle.records.proofs.Tests.{every-parts, every_more, clash}
use Rattle.theory_preservation.proofs.Tests.{one_on, one-off, one_not}
use Rattle.theory_preservation.proofs.WellMade.{well_made, all_well_made, well-node, well-more}
use Rattle.theory_preservation.proofs.Totals.{total_of, sums}
use Rattle.theory_preservation.proofs.Fit.{fit, misfit, fit_parts}
use Rattle.theory_demands.proofs.Limits.{below}

-- Rows 7 and 8, of trees that are fit.
module _ (names : List NameFacts) where
  pub row-fit : (ts : Trees) → sums (misfit names) ts ≡ 0 → (roots_stand ts ≡ true) × (all_placed ts ≡ true) × (all_well_made names ts ≡ true)
  unfolding sums roots_stand placed well_made
  row-fit none e = (refl, refl, refl)
  row-fit (more t ts) e =
      let (a, b, c, d) = fit_parts names t (one-off (fit names t) (omega (arith, e))) in
      let (x, y, z) = row-fit ts (omega (arith, e)) in
      (rw (c, d, x), rw (a, y), rw (b, z))

  abbrev Good : List NodeRecord → Type 0
  Good ns = every (good_node names) ns ≡ true

  mutual
    unfolding preorder

    tree_good : (t : Tree) (rest : List NodeRecord) → well_made names t ≡ true → Good rest → Good (preorder t rest)
    tree_good (node n kids) rest h g =
        let (a, b) = well-node names n kids h in
        every_more (good_node names) (record_of n (count kids)) (preorders kids rest) a (row_good kids rest b g)

    pub row_good : (ts : Trees) (rest : List NodeRecord) → all_well_made names ts ≡ true → every (good_node names) rest ≡ true → every (good_node names) (preorders ts rest) ≡ true
    row_good none rest h g = g
    row_good (more t ts) rest h g =
        let (a, b) = well-more names t ts h in
        tree_good t (preorders ts rest) a (row_good ts rest b g)

-- Row 6: a name that a declarator may have.
unfoldable pub may_declare : List NameFacts → ℕ → Bool
may_declare names a = eqb a no_number || ltb a (length names) && not (unresolved (flags_of names a))

-- 1 for a name that it may not
abbrev pub misnamed : List NameFacts → ℕ → ℕ
misnamed names a = one (not (may_declare names a))

-- a declarator's mark is 0 or 1
given-known : (i : Initializer) → leb (is_given i) 1 ≡ true
unfolding is_given
given-known bare = refl
given-known (given t) = refl

module _ (names : List NameFacts) where
  abbrev record_for : Declarator → DeclaratorRecord
  record_for d = record { name = d.name; present = is_given d.initializer }

  declarator-is : (d : Declarator) → good_declarator names (record_for d) ≡ may_declare names d.name
  unfolding good_declarator good_declarator_of may_declare
  declarator-is d = rw (given-known d.initializer)

  pub all_named : (ds : List Declarator) → every (good_declarator names) (declarator_records ds) ≡ true → total_of (λ d. misnamed names d.name) (λ t. 0) ds ≡ 0
  unfolding declarator_records total_of
  all_named [] e = refl
  all_named (d ∷ ds) e =
      let (a, b) = every-parts (good_declarator names) (record_for d) (declarator_records ds) e in
      let x = one_not (may_declare names d.name) (sym (declarator-is d) ∙ a) in
      let y = all_named ds b in
      omega (arith, x, y)

  pub named-all : (ds : List Declarator) → total_of (λ d. misnamed names d.name) (λ t. 0) ds ≡ 0 → every (good_declarator names) (declarator_records ds) ≡ true
  unfolding declarator_records total_of every_from
  named-all [] e = refl
  named-all (d ∷ ds) e =
      every_more (good_declarator names) (record_for d) (declarator_records ds) (declarator-is d ∙ one-off (may_declare names d.name) (omega (arith, e))) (named-all ds (omega (arith, e)))

-- Row 9: how often declarators declare a name.
abbrev pub times_declared : ℕ → List Declarator → ℕ
times_declared a ds = total_of (λ d. one (eqb d.name a)) (λ t. 0) ds

declares-none : (a : ℕ) (ds : List Declarator) → times_declared a ds ≡ 0 → declares a (declarator_records ds) ≡ false
unfolding declares declarator_records total_of
declares-none a [] e = refl
declares-none a (d ∷ ds) e = rw (one_on (eqb d.name a) (omega (arith, e)), declares-none a ds (omega (arith, e)))

pub declared-once : (ds : List Declarator) → ((a : ℕ) → eqb a no_number ≡ false → times_declared a ds ≤ 1) → declared_twice (declarator_records ds) ≡ false
unfolding declared_twice declarator_records total_of
declared-once [] h = refl
declared-once (d ∷ ds) h = rw (declared-once ds (λ a n. (let x = h a n in omega (arith, x)))) (first (eqb d.name no_number) refl)
  where
    first : (b : Bool) → eqb d.name no_number ≡ b → (not (eqb d.name no_number) && declares d.name (declarator_records ds) || false) ≡ false
    first true e = rw e
    first false e =
        let x = h d.name e in
        let y : ◌≡◌ {A = ℕ} (one (eqb d.name d.name)) 1 = rw (eq-eqb d.name d.name refl) in
        rw (e, declares-none d.name ds (omega (arith, x, y)))

-- Row 10: fewer reads and targets are good if more were.
none_left : (a b : ℕ) → a ≤ b → eqb b 0 ≡ true → eqb a 0 ≡ true
none_left a b h e = let x = eqb-true b 0 e in eq-eqb a 0 (omega (arith, h, x))

pub counts-less : (n : NameFacts) (reads reads' targets targets' : ℕ) → reads' ≤ reads → targets' ≤ targets → good_counts n reads targets ≡ true → good_counts n reads' targets' ≡ true
unfolding good_counts
counts-less n reads reads' targets targets' h g =
    parts (unresolved n.flags) (recorded n.flags) (leb reads n.reads) (leb reads' n.reads) (leb targets n.writes) (leb targets' n.writes) (eqb targets 0) (eqb targets' 0) (mutated n.flags) (below reads' reads n.reads h) (below targets' targets n.writes g) (none_left targets' targets g)
  where
    parts : (u k a a' b b' c c' m : Bool) → (a ≡ true → a' ≡ true) → (b ≡ true → b' ≡ true) → (c ≡ true → c' ≡ true) → (u || k && a && b || not k && (c || m)) ≡ true → (u || k && a' && b' || not k && (c' || m)) ≡ true
    parts true k a a' b b' c c' m f g h e = refl
    parts false true true a' true b' c c' m f g h e = rw (f refl, g refl)
    parts false true true a' false b' c c' m f g h e = clash false refl e
    parts false true false a' b b' c c' m f g h e = clash false refl e
    parts false false a a' b b' true c' m f g h e = rw (h refl)
    parts false false a a' b b' false c' true f g h e = or_true c'
      where
        or_true : (b : Bool) → (b || true) ≡ true
        or_true true = refl
        or_true false = refl
    parts false false a a' b b' false c' false f g h e = clash false refl e

-- every record of a list is good by its number if each is
pub every-each : {A : Type 0} (good : ℕ → A → Bool) (d : A) (i : ℕ) (xs : List A) → ((k : ℕ) → k < length xs → good (i + k) (get_or xs k d) ≡ true) → every_from good i xs ≡ true
unfolding every_from
every-each good d i [] h = refl
every-each good d i (x ∷ xs) h =
    let z : i + 0 ≡ i = omega arith in
    let a : good i x ≡ true = subst (λ j. good j x ≡ true) z (h 0 (omega arith)) in
    rw a (every-each good d (i + 1) xs (λ k l. (let y : i + suc k ≡ i + 1 + k = omega arith in subst (λ j. good j (get_or xs k d) ≡ true) y (h (suc k) (omega (arith, l))))))
