-- What the rows of the refusal table say of an accepted file, as the fold of a file asks it.
use Prim.Native.Nat.{ℕ, zero, suc, ◌+◌, ◌*◌, ◌≤◌, ◌<◌}
use native.Mathlib.Omega.{arith}
use mathlib.Core.Bool.{Bool, true, false, ◌&&◌, ◌||◌, not}
use mathlib.Core.List.{List, [], ◌∷◌}
use mathlib.Core.Path.{◌≡◌, refl, sym, subst}
use lib.ListN.{length, get_or}
use lib.Dec.{eqb, ltb, leb}
use borrow.Author.Tests.{eqb-true, ne_eqb, ltb-true, ltb-false, leb-true, not-false, not-true}
use Rattle.records.specs.Flags.{recorded, mutated, unresolved, is_eval}
use Rattle.records.specs.Limits.{no_number}
use Rattle.records.specs.Records.{every_from, every}
use Rattle.records.specs.Record.{header_of}
use Rattle.records.specs.Header.{counts_fit, options_known, header_scopes, outside_limits}
use Rattle.records.specs.Facts.{good_unresolved, good_resolved, good_name, good_scope, good_frame, bad_facts}
use Rattle.records.specs.Script.{no_name, flags_of, good_declarator_of, good_declarator, declares, declared_twice}
use Rattle.records.specs.Node.{good_node}
use Rattle.records.specs.Tree.{Tree, Trees, node, none, more, count, record_of, preorder, preorders, forest_of}
use Rattle.records.specs.Place.{root, is_expression, unchained, placed, all_placed, roots_stand}
use Rattle.records.specs.Count.{good_counts, bad_counts, reads_of, targets_of}
use Rattle.records.specs.File.{one, names_of, scopes_of, frames_of, nodes_of, is_given, Declarator, File, read, declarator_records, all_declarators, all_trees}
use Rattle.records.specs.declared.layout.NameFacts.{NameFacts}
use Rattle.records.specs.declared.layout.NodeRecord.{NodeRecord}
use Rattle.records.proofs.Tests.{every-parts, clash, both, neither}
use Rattle.walk_rules.specs.Context.{context_of, facts_of as factsIn}
use Rattle.walk_rules.specs.Unsettled.{is_written, symbol_value_may_change, is_closed_over_block_scoped_read, unsettled, is_import}
use Rattle.walk_rules.specs.Context.{is_script}
use Rattle.theory_runs.specs.Run.{resolved}
use Rattle.theory_runs.specs.Settled.{facts_of, settled}
use Rattle.theory_runs.specs.Shapes.{some_in, some_of, declared_in, declared, eval_whole, some_eval, shape_r}
use Rattle.theory_runs.specs.Facts.{this_unblocked}
use Rattle.records_laws.proofs.Accepted.{Accepted as Passed, good_script, good_nodes, good_trees}
use Rattle.records_laws.proofs.ReadFile.{names_of_length, read-declarators, read-trees, read-nodes}
use Rattle.theory_preservation.proofs.WellMade.{well_made, all_well_made, make_node, make_more}
use Rattle.theory_preservation.proofs.Totals.{total_of, sums, trees, program-sums, program-declarators, declaring}
use Rattle.theory_preservation.proofs.Fine.{Accepted, Fine, unblocked_at}
use Rattle.theory_preservation.proofs.Positions.{somewhere}
use Rattle.theory_preservation.proofs.Fit.{misfit, fit-whole}

-- a record of a list of good ones
pub every-at : {A : Type 0} (good : ℕ → A → Bool) (i : ℕ) (xs : List A) (k : ℕ) (d : A) → every_from good i xs ≡ true → k < length xs → (j : ℕ) → j ≡ i + k → good j (get_or xs k d) ≡ true
unfolding every_from
every-at good i [] k d e h j q = absurd (omega arith)
every-at good i (x ∷ xs) zero d e h j q = let z : j ≡ i = omega arith in subst (λ n. good n x ≡ true) (sym z) (both (good i x) (every_from good (i + 1) xs) e).0
every-at good i (x ∷ xs) (suc k) d e h j q = every-at good (i + 1) xs k d (both (good i x) (every_from good (i + 1) xs) e).1 (omega arith) j (omega arith)

-- behind the last there is none
get_d_out : {A : Type 0} (xs : List A) (k : ℕ) (d : A) → length xs ≤ k → get_or xs k d ≡ d
get_d_out [] k d h = refl
get_d_out (x ∷ xs) zero d h = absurd (omega arith)
get_d_out (x ∷ xs) (suc k) d h = get_d_out xs k d (omega arith)

module _ (names : List NameFacts) where
  well-none : all_well_made names none ≡ true
  unfolding well_made
  well-none = refl

  abbrev Good : List NodeRecord → Type 0
  Good ns = every (good_node names) ns ≡ true

  mutual
    unfolding preorder

    made : (t : Tree) (rest : List NodeRecord) → Good (preorder t rest) → (well_made names t ≡ true) × Good rest
    made (node n kids) rest h =
        let (a, b) = every-parts (good_node names) (record_of n (count kids)) (preorders kids rest) h in
        let (c, d) = all_made kids rest b in
        (make_node names n kids a c, d)

    all_made : (ts : Trees) (rest : List NodeRecord) → Good (preorders ts rest) → (all_well_made names ts ≡ true) × Good rest
    all_made none rest h = (well-none, h)
    all_made (more t ts) rest h =
        let (a, b) = made t (preorders ts rest) h in
        let (c, d) = all_made ts rest b in
        (make_more names t ts a c, d)

  no_misfits : (ts : Trees) → roots_stand ts ≡ true → all_placed ts ≡ true → all_well_made names ts ≡ true → sums (misfit names) ts ≡ 0
  unfolding sums roots_stand placed well_made
  no_misfits none a b c = refl
  no_misfits (more t ts) a b c =
      let (a₁, a₂) = both (is_expression (root t).kind && not (unchained t)) (roots_stand ts) a in
      let (a₃, a₄) = both (is_expression (root t).kind) (not (unchained t)) a₁ in
      let (b₁, b₂) = both (placed t) (all_placed ts) b in
      let (c₁, c₂) = both (well_made names t) (all_well_made names ts) c in
      let h = fit-whole names t b₁ c₁ a₃ (not-true (unchained t) a₄) in
      let g : ◌≡◌ {A = ℕ} (misfit names t) 0 = rw h in
      let i = no_misfits ts a₂ b₂ c₂ in
      omega (arith, g, i)

-- a node somewhere in a row of trees
some-sums : (φ : ℕ → Bool) (ts : Trees) → 1 ≤ sums (λ t. one (somewhere φ t)) ts → some_of (λ n kids. φ n.position) ts ≡ true
unfolding sums some_in
some-sums φ none h = absurd (omega arith)
some-sums φ (more t ts) h = by (somewhere φ t) refl (λ g. some-sums φ ts g)
  where
    by : (b : Bool) → somewhere φ t ≡ b → (1 ≤ sums (λ t. one (somewhere φ t)) ts → some_of (λ n kids. φ n.position) ts ≡ true) → (somewhere φ t || some_of (λ n kids. φ n.position) ts) ≡ true
    by true e n = rw e
    by false e n = rw e (n (let z : ◌≡◌ {A = ℕ} (one (somewhere φ t)) 0 = rw e in omega (arith, z)))

-- initializers that are `eval`
no_evals : (names : List NameFacts) (ds : List Declarator) → some_eval names ds ≡ false → total_of (λ d. one (eval_whole names d.initializer)) (λ t. 0) ds ≡ 0
unfolding some_eval total_of
no_evals names [] e = refl
no_evals names (d ∷ ds) e =
    let (a, b) = neither (eval_whole names d.initializer) (some_eval names ds) e in
    let g : ◌≡◌ {A = ℕ} (one (eval_whole names d.initializer)) 0 = rw a in
    let h = no_evals names ds b in
    omega (arith, g, h)

-- Declarators.
module _ (a : ℕ) where
  undeclared : (ds : List Declarator) → declares a (declarator_records ds) ≡ false → total_of (declaring a) (λ t. 0) ds ≡ 0
  unfolding declares declarator_records total_of
  undeclared [] e = refl
  undeclared (d ∷ ds) e =
      let (x, y) = neither (eqb d.name a) (declares a (declarator_records ds)) e in
      let g : ◌≡◌ {A = ℕ} (one (eqb d.name a)) 0 = rw x in
      let h = undeclared ds y in
      omega (arith, g, h)

  declared-once : (ds : List Declarator) → eqb a no_number ≡ false → declared_twice (declarator_records ds) ≡ false → total_of (declaring a) (λ t. 0) ds ≤ 1
  unfolding declared_twice declarator_records total_of
  declared-once [] n e = omega arith
  declared-once (d ∷ ds) n e =
      let (x, y) = neither (not (eqb d.name no_number) && declares d.name (declarator_records ds)) (declared_twice (declarator_records ds)) e in
      by (eqb d.name a) refl x (declared-once ds n y)
    where
      by : (b : Bool) → eqb d.name a ≡ b → (not (eqb d.name no_number) && declares d.name (declarator_records ds)) ≡ false → total_of (declaring a) (λ t. 0) ds ≤ 1 → one (eqb d.name a) + total_of (declaring a) (λ t. 0) ds ≤ 1
      by true q x h =
          let z : (not (eqb a no_number) && declares a (declarator_records ds)) ≡ false = rw (eqb-true d.name a q) at x in
          let w : declares a (declarator_records ds) ≡ false = rw n at z in
          let u = undeclared ds w in
          let g : ◌≡◌ {A = ℕ} (one (eqb d.name a)) 1 = rw q in
          omega (arith, u, g)
      by false q x h = let g : ◌≡◌ {A = ℕ} (one (eqb d.name a)) 0 = rw q in omega (arith, g, h)

  -- a declared name is one of the file's, and resolved
  declared_good : (names : List NameFacts) (ds : List Declarator) → eqb a no_number ≡ false → every (good_declarator names) (declarator_records ds) ≡ true → declared_in a ds ≡ true → (ltb a (length names) ≡ true) × (unresolved (flags_of names a) ≡ false)
  unfolding declarator_records declared_in
  declared_good names [] n e h = clash false refl h
  declared_good names (d ∷ ds) n e h =
      let (x, y) = every-parts (good_declarator names) (record { name = d.name; present = is_given d.initializer }) (declarator_records ds) e in
      by (eqb d.name a) refl x (λ g. declared_good names ds n y g)
    where
      here : (present : ℕ) → good_declarator names (record { name = a; present = present }) ≡ true → (ltb a (length names) ≡ true) × (unresolved (flags_of names a) ≡ false)
      here present g = told (unfold good_declarator good_declarator_of in (rw n at g))
        where
          told : (leb present 1 && (ltb a (length names) && not (unresolved (flags_of names a)))) ≡ true → (ltb a (length names) ≡ true) × (unresolved (flags_of names a) ≡ false)
          told g =
              let (p, q) = both (ltb a (length names)) (not (unresolved (flags_of names a))) (both (leb present 1) _ g).1 in
              (p, not-true (unresolved (flags_of names a)) q)

      by : (b : Bool) → eqb d.name a ≡ b → good_declarator names (record { name = d.name; present = is_given d.initializer }) ≡ true → (declared_in a ds ≡ true → (ltb a (length names) ≡ true) × (unresolved (flags_of names a) ≡ false)) → (ltb a (length names) ≡ true) × (unresolved (flags_of names a) ≡ false)
      by true q x f = here (is_given d.initializer) (subst (λ n. good_declarator names (record { name = n; present = is_given d.initializer }) ≡ true) (eqb-true d.name a q) x)
      by false q x f = f (rw q at h)

-- A name's facts.
unresolved-off : (x y z : Bool) → (x && y || not x && z) ≡ true → x ≡ false → z ≡ true
unresolved-off true y z e g = clash true g refl
unresolved-off false y z e g = e

-- a resolved name isn't `eval`
plain-name : (scopes : ℕ) (n : NameFacts) → good_name scopes n ≡ true → unresolved n.flags ≡ false → is_eval n.flags ≡ false
unfolding good_name
plain-name scopes n e g =
    let (x, y) = both (ltb n.flags 512) (unresolved n.flags && good_unresolved n || not (unresolved n.flags) && good_resolved scopes n) e in
    let z = unresolved-off (unresolved n.flags) (good_unresolved n) (good_resolved scopes n) y g in
    not-true (is_eval n.flags) (both (not (is_eval n.flags)) (ltb n.scope scopes) (both (not (is_eval n.flags) && ltb n.scope scopes) _ z).0).0

-- the counts of a recorded name, and the targets of one that isn't written
recorded-counts : (n : NameFacts) (reads targets : ℕ) → good_counts n reads targets ≡ true → unresolved n.flags ≡ false → recorded n.flags ≡ true → (reads ≤ n.reads) × (targets ≤ n.writes)
unfolding good_counts
recorded-counts n reads targets e u r =
    let x : (leb reads n.reads && leb targets n.writes || false) ≡ true = rw (u, r) at e in
    let (a, b) = both (leb reads n.reads) (leb targets n.writes) (or_false (leb reads n.reads && leb targets n.writes) x) in
    (leb-true reads n.reads a, leb-true targets n.writes b)
  where
    or_false : (b : Bool) → (b || false) ≡ true → b ≡ true
    or_false true e = refl
    or_false false e = e

unwritten-targets : (b : Bool) (n : NameFacts) (reads targets : ℕ) → recorded n.flags ≡ b → good_counts n reads targets ≡ true → unresolved n.flags ≡ false → is_written n ≡ false → targets ≡ 0
unwritten-targets true n reads targets r e u w =
    let (a, b) = recorded-counts n reads targets e u r in
    let c = ltb-false 0 n.writes (unfold is_written in (rw r at w)) in
    omega arith
unwritten-targets false n reads targets r e u w = eqb-true targets 0 (told (unfold good_counts in (rw (u, r) at e)) (unfold is_written in (rw r at w)))
  where
    told : (eqb targets 0 || mutated n.flags) ≡ true → mutated n.flags ≡ false → eqb targets 0 ≡ true
    told h g = either (eqb targets 0) (mutated n.flags) h g
      where
        either : (x y : Bool) → (x || y) ≡ true → y ≡ false → x ≡ true
        either true y h g = refl
        either false y h g = clash y g h

-- The rows that no accepted file meets.
module _ (bs : List ℕ) (room : ℕ) (a : Passed bs room) where
  abbrev f : File
  f = read bs

  names_are : f.names ≡ names_of bs
  unfolding read
  names_are = refl

  pub good_names : every (good_name (length (scopes_of bs))) (names_of bs) ≡ true
  unfolding bad_facts
  good_names =
      let g = not-false (every (good_name (length (scopes_of bs))) (names_of bs) && every_from good_scope 0 (scopes_of bs) && every (good_frame (length (scopes_of bs))) (frames_of bs)) a.facts in
      (both (every (good_name (length (scopes_of bs))) (names_of bs)) (every_from good_scope 0 (scopes_of bs)) (both (every (good_name (length (scopes_of bs))) (names_of bs) && every_from good_scope 0 (scopes_of bs)) _ g).0).0

  pub few-names : length (names_of bs) ≤ 256
  unfolding outside_limits
  few-names =
      let h = header_of bs in
      let g = not-false (counts_fit h && options_known h && header_scopes h && eqb h.last 0) a.limits in
      let x₁ = (both (counts_fit h) (options_known h) (both (counts_fit h && options_known h) (header_scopes h) (both (counts_fit h && options_known h && header_scopes h) (eqb h.last 0) g).0).0).0 in
      let x₂ = (both _ (leb (h.nodes + 2 * h.declarators) 3000) x₁).0 in
      let x₃ = (both _ (leb h.statements 500) x₂).0 in
      let x₄ = (both _ (leb 1 h.statements) x₃).0 in
      let x₅ = (both _ (leb h.declarators 500) x₄).0 in
      let x₆ = (both _ (leb h.frames 16) x₅).0 in
      let x₇ = (both _ (leb h.scopes 256) x₆).0 in
      let x₈ = (both (leb h.names 256) (leb 1 h.scopes) x₇).0 in
      let y = leb-true h.names 256 x₈ in
      let z = names_of_length bs in
      omega (arith, y, z)

  -- the counts of a name of the file
  pub good_counts_lem : (x : ℕ) → x < length (names_of bs) → good_counts (facts_of f x) (reads_of x (all_trees f.statements)) (targets_of x (all_trees f.statements)) ≡ true
  unfolding bad_counts context_of factsIn read
  good_counts_lem x h =
      rw (read-trees bs room a)
      (every-at (λ name n. good_counts n (reads_of name (forest_of (nodes_of bs))) (targets_of name (forest_of (nodes_of bs)))) 0 (names_of bs) x no_name (not-false (every_from (λ name n. good_counts n (reads_of name (forest_of (nodes_of bs))) (targets_of name (forest_of (nodes_of bs)))) 0 (names_of bs)) a.counts) h x (omega arith))

  -- a recorded name is one of the file's
  pub recorded_in : (x : ℕ) → recorded (facts_of f x).flags ≡ true → x < length (names_of bs)
  recorded_in x e = by (ltb x (length (names_of bs))) refl
    where
      out : length (names_of bs) ≤ x → recorded (facts_of f x).flags ≡ false
      out h = unfold context_of factsIn read in rw (get_d_out (names_of bs) x no_name h)

      by : (b : Bool) → ltb x (length (names_of bs)) ≡ b → x < length (names_of bs)
      by true q = ltb-true x (length (names_of bs)) q
      by false q = clash (recorded (facts_of f x).flags) (out (ltb-false x (length (names_of bs)) q)) e

  facts-flags : (x : ℕ) → (facts_of f x).flags ≡ flags_of f.names x
  unfolding context_of factsIn flags_of
  facts-flags x = refl

  resolved-off : (x : ℕ) → resolved f.names x ≡ true → unresolved (facts_of f x).flags ≡ false
  resolved-off x e = rw (facts-flags x) (not-true (unresolved (flags_of f.names x)) e)

  known-name : (x : ℕ) → eqb x no_number ≡ false → declared f x ≡ true → (resolved f.names x ≡ true) × (is_eval (flags_of f.names x) ≡ false)
  known-name x n e =
      let (p, q) = declared_good x (names_of bs) (all_declarators f.statements) n (rw (read-declarators bs room a) (good_script a).0) e in
      told p q
    where
      told : ltb x (length (names_of bs)) ≡ true → unresolved (flags_of (names_of bs) x) ≡ false → (resolved f.names x ≡ true) × (is_eval (flags_of f.names x) ≡ false)
      told p q = unfold read flags_of in (rw q, plain-name (length (scopes_of bs)) (get_or (names_of bs) x no_name) (every-at (λ i. good_name (length (scopes_of bs))) 0 (names_of bs) x no_name good_names (ltb-true x (length (names_of bs)) p) x (omega arith)) q)

  settled-name : (x : ℕ) → settled f x ≡ true → (eqb no_number x ≡ false) × (targets_of x (all_trees f.statements) ≡ 0)
  settled-name x e = told (parts e)
    where
      parts : settled f x ≡ true → (ltb x (length f.names) ≡ true) × (unsettled (context_of f) x ≡ false)
      parts e = unfold settled in (let (p, q) = both (ltb x (length f.names)) (not (unsettled (context_of f) x)) e in (p, not-true (unsettled (context_of f) x) q))

      reasons : unsettled (context_of f) x ≡ false → (unresolved (facts_of f x).flags ≡ false) × (is_written (facts_of f x) ≡ false)
      reasons q = unfold unsettled symbol_value_may_change in (let (g, h) = neither (unresolved (facts_of f x).flags || symbol_value_may_change (context_of f) (facts_of f x)) (is_closed_over_block_scoped_read (context_of f) (facts_of f x)) q in let (i, j) = neither (unresolved (facts_of f x).flags) (symbol_value_may_change (context_of f) (facts_of f x)) g in (i, (neither (is_import (facts_of f x).flags || is_script (context_of f) && eqb (facts_of f x).scope 0) (is_written (facts_of f x)) j).1))

      told : (ltb x (length f.names) ≡ true) × (unsettled (context_of f) x ≡ false) → (eqb no_number x ≡ false) × (targets_of x (all_trees f.statements) ≡ 0)
      told (p, q) =
          let h : x < length f.names = ltb-true x (length f.names) p in
          let i : x < length (names_of bs) = subst (λ ns. x < length ns) names_are h in
          let k = few-names in
          let (u, w) = reasons q in
          (ne_eqb no_number x (λ z. omega (arith, i, k)), unwritten-targets (recorded (facts_of f x).flags) (facts_of f x) (reads_of x (all_trees f.statements)) (targets_of x (all_trees f.statements)) refl (good_counts_lem x i) u w)

  -- what acceptance says of the names
  pub names-accepted : Accepted f
  names-accepted = record {
    counts = λ x e g. recorded-counts (facts_of f x) (reads_of x (all_trees f.statements)) (targets_of x (all_trees f.statements)) (good_counts_lem x (recorded_in x e)) (resolved-off x g) e;
    once = λ x n. (let h = program-declarators (declaring x) f.statements in let g = declared-once x (all_declarators f.statements) n (rw (read-declarators bs room a) a.once) in omega (arith, h, g));
    known = known-name;
    settled-unaimed = settled-name;
  }

  well : all_well_made (names_of bs) (all_trees f.statements) ≡ true
  well = (all_made (names_of bs) (all_trees f.statements) [] (rw (read-nodes bs room a) (good_nodes a))).0

  stand : (roots_stand (all_trees f.statements) ≡ true) × (all_placed (all_trees f.statements) ≡ true)
  stand = rw (read-trees bs room a) ((good_trees a).2, (good_trees a).3)

  -- every tree is fit
  pub file-fits : trees (misfit f.names) f.statements ≡ 0
  file-fits =
      let h = program-sums (misfit f.names) f.statements in
      let g = no_misfits f.names (all_trees f.statements) stand.0 stand.1 (subst (λ ns. all_well_made ns (all_trees f.statements) ≡ true) (sym names_are) well) in
      omega (arith, h, g)

  -- what it says of the trees; that no initializer is `eval` is shape R
  pub file_fine : shape_r f ≡ false → Fine f f.statements
  file_fine e = record {
    fits = file-fits;
    reads_in = λ x n. omega arith;
    targets_in = λ x n. omega arith;
    declared_in = λ x. omega arith;
    this_in = λ h. unfold this_unblocked in some-sums (unblocked_at f) (all_trees f.statements) (let g = program-sums (λ t. one (somewhere (unblocked_at f) t)) f.statements in omega (arith, h, g));
    no_evals = (let h = program-declarators (λ d. one (eval_whole f.names d.initializer)) f.statements in let g = no_evals f.names (all_declarators f.statements) (plain-file e) in omega (arith, h, g));
  }
    where
      plain-file : shape_r f ≡ false → some_eval f.names (all_declarators f.statements) ≡ false
      plain-file e = unfold shape_r in e
