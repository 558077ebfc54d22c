-- The loop over the declarators: what is left to search, and that the rules say the same of it.
use Prim.Native.Nat.{ℕ, ◌+◌, ◌*◌, ◌-◌, ◌≤◌, ◌<◌}
use native.Mathlib.Omega.{arith}
use mathlib.Core.Bool.{Bool, true, false, ◌&&◌}
use mathlib.Core.List.{List, [], ◌∷◌, ◌++◌, append_assoc, append-nil}
use mathlib.Core.Path.{◌≡◌, refl, sym, ap, ◌∙◌, subst}
use lib.ListN.{length, get_or, length-append}
use Rattle.records.specs.Record.{declarator_at}
use Rattle.records.specs.Tree.{Tree, size}
use Rattle.records.specs.File.{DeclarationKind, Var, Initializer, bare, given, is_given, Declarator, Statement}
use Rattle.records.specs.declared.layout.DeclaratorRecord.{DeclaratorRecord}
use Rattle.records.specs.declared.layout.NodeId.{NodeId}
use Rattle.records.proofs.Tests.{both}
use Rattle.records_table.specs.Laid.{laid}
use Rattle.records_table.proofs.Laid.{laid-length, laid_split}
use Rattle.walk_rules.specs.Context.{Context}
use Rattle.walk_arms.specs.Search.{bare_names}
use Rattle.statements_rules.specs.Declarators.{FromDeclarators, substitute_from_declarators}
use Rattle.statements_rules.specs.Trace.{pure}
use Rattle.statements_search.specs.declared.from_declarator.Tried.{Tried}
use Rattle.statements_search.specs.declared.from_declarators.Searched.{Searched}
use Rattle.statements_search.specs.Kept.{laid_initializer, node_count, bare_initializer, laid_declarators, nodes_in, bare_declarators, Held, folded_names, most_in_use}
use Rattle.statements_progress.specs.Listed.{names_from}
use Rattle.statements_search.specs.Try.{Try, try_from}
use Rattle.statements_search.specs.FromDeclarators.{Standing, StandingDeclarators, CanTry, Stepped, StepLeaves, Tries, CanSearch, Found, SearchesFrom}
use Rattle.statements_rules.proofs.Totals.{total, declarator_size, initializer_size}
use Rattle.statements_progress.proofs.Names.{names_more}
use Rattle.statements_search.proofs.Looks.{declarators-looks}
use Rattle.statements_search.proofs.Steps.{Ends, Folds, step-ends, step-folds, step-size, kept-step_size}

-- The trees of declarators, and the bytes behind them.
initializer_split : (i : Initializer) (x : List ℕ) → laid_initializer i x ≡ laid_initializer i [] ++ x
unfolding laid_initializer
initializer_split bare x = refl
initializer_split (given t) x = laid_split t x

pub declarators_split : (ds : List Declarator) (x : List ℕ) → laid_declarators ds x ≡ laid_declarators ds [] ++ x
unfolding laid_declarators
declarators_split [] x = refl
declarators_split (d ∷ ds) x =
    declarators_split ds (laid_initializer d.initializer x)
    ∙ ap (λ l. laid_declarators ds [] ++ l) (initializer_split d.initializer x)
    ∙ sym (append_assoc (laid_declarators ds []) (laid_initializer d.initializer []) x)
    ∙ ap (λ l. l ++ x) (sym (declarators_split ds (laid_initializer d.initializer [])))

initializer-length : (i : Initializer) (x : List ℕ) → length (laid_initializer i x) ≡ 16 * node_count i + length x
unfolding laid_initializer node_count
initializer-length bare x = omega arith
initializer-length (given t) x = laid-length t x

pub declarators-length : (ds : List Declarator) (x : List ℕ) → length (laid_declarators ds x) ≡ 16 * nodes_in ds + length x
unfolding laid_declarators nodes_in
declarators-length [] x = omega arith
declarators-length (d ∷ ds) x = omega (arith, declarators-length ds (laid_initializer d.initializer x), initializer-length d.initializer x)

-- the nodes of declarators
nodes_of : (i : Initializer) → node_count i ≡ initializer_size i
unfolding node_count initializer_size
nodes_of bare = refl
nodes_of (given t) = refl

pub nodes_in_lem : (ds : List Declarator) → nodes_in ds ≡ total declarator_size ds
unfolding nodes_in total declarator_size
nodes_in_lem [] = refl
nodes_in_lem (d ∷ ds) = omega (arith, nodes_in_lem ds, nodes_of d.initializer)

-- the names of a declarator and of those before it
pub bare-first : (d : Declarator) (ds : List Declarator) (b : Bool) → (bare_declarators (d ∷ ds) && b) ≡ true → (bare_initializer d.initializer ≡ true) × (bare_declarators ds ≡ true) × (b ≡ true)
unfolding bare_declarators
bare-first d ds b h =
    let (x, y) = both (bare_initializer d.initializer && bare_declarators ds) b h in
    let (u, v) = both (bare_initializer d.initializer) (bare_declarators ds) x in
    (u, v, y)

bare-again : (d : Declarator) (ds : List Declarator) (b : Bool) → bare_initializer d.initializer ≡ true → bare_declarators ds ≡ true → b ≡ true → (bare_declarators (d ∷ ds) && b) ≡ true
unfolding bare_declarators
bare-again d ds b x y z = rw (x, y, z) refl

-- A declarator before the tree: its initializer stands before it.
module _ {table records starts : List ℕ} {low many at start used : ℕ} {d : Declarator} {ds : List Declarator} {target : Tree} {pre rest : List ℕ} (w : StandingDeclarators table records starts low many at start used (d ∷ ds) target pre rest) where
  pub first_record : declarator_at records (4 * (many - 1)) ≡ record { name = d.name; present = is_given d.initializer }
  unfolding Held
  first_record = subst (λ k. declarator_at records (4 * k) ≡ record { name = d.name; present = is_given d.initializer }) (omega (arith, w.counted)) w.held.0

  pub first-start : get_or starts (many - 1) 0 ≡ at + nodes_in ds
  unfolding Held
  first-start = subst (λ k. get_or starts k 0 ≡ at + nodes_in ds) (omega (arith, w.counted)) w.held.1

  pub first-stands : Standing table (get_or starts (many - 1) 0) start used d.initializer target (pre ++ laid_declarators ds []) rest
  unfolding laid_declarators nodes_in
  first-stands = record {
    is = w.is ∙ ap (λ l. pre ++ l) (declarators_split ds (laid_initializer d.initializer (laid target rest))) ∙ sym (append_assoc pre (laid_declarators ds []) (laid_initializer d.initializer (laid target rest)));
    begins = length-append pre (laid_declarators ds []) ∙ omega (arith, w.begins, declarators-length ds [], first-start);
    starts = omega (arith, w.starting, first-start);
    ends = w.ends;
    names = let (x, y, z) = bare-first d ds (bare_names target) w.names in rw (x, z) refl;
  }

  -- the initializer was placed: the tree stands behind the declarators before
  pub after-fold : {table' rest' : List ℕ} (t : Tree) (start' used' : ℕ) → table' ≡ (pre ++ laid_declarators ds []) ++ laid t rest' → start' ≡ get_or starts (many - 1) 0 → used' ≡ start' + size t → bare_names t ≡ true
      → StandingDeclarators table' records starts low (many - 1) at start' used' ds t pre rest'
  unfolding Held
  after-fold {table'} {rest'} t start' used' e s u b = record {
    is = e ∙ append_assoc pre (laid_declarators ds []) (laid t rest') ∙ ap (λ l. pre ++ l) (sym (declarators_split ds (laid t rest')));
    begins = w.begins;
    counted = omega (arith, w.counted);
    held = w.held.2;
    starting = s ∙ first-start;
    ends = u;
    names = let (x, y, z) = bare-first d ds (bare_names target) w.names in rw (y, b) refl;
  }

  -- it was not: the tree stands where it stood
  pub after-end : {table' : List ℕ} (t : Tree) → table' ≡ (pre ++ laid_declarators ds []) ++ laid_initializer d.initializer (laid t rest) → table' ≡ pre ++ laid_declarators (d ∷ ds) (laid t rest)
  unfolding laid_declarators
  after-end t e = e ∙ append_assoc pre (laid_declarators ds []) (laid_initializer d.initializer (laid t rest)) ∙ ap (λ l. pre ++ l) (sym (declarators_split ds (laid_initializer d.initializer (laid t rest))))

module _ (ctx : Context) (literal_only : Bool) (records starts : List ℕ) (low : ℕ) where
  abbrev searched : List Statement → DeclarationKind → List Declarator → Tree → FromDeclarators
  searched before kind ds target = substitute_from_declarators ctx before kind literal_only ds target

  abbrev step : Declarator → Tree → Try
  step d target = try_from ctx literal_only d.name d.initializer target

  -- What is left to search: the same comes of it, with the folds and the looks that were made; nodes and declarators haven't grown.
  pub record Going (table : List ℕ) (left begin end folds looks at : ℕ) (pre : List ℕ) (ds : List Declarator) (target : Tree) (ds' : List Declarator) (target' : Tree) (rest' : List ℕ) : Type 0 where
    pub row : StandingDeclarators table records starts low left at begin end ds' target' pre rest'
    pub result : (before : List Statement) (kind : DeclarationKind) → (searched before kind ds target).result ≡ (searched before kind ds' target').result
    pub folded : (before : List Statement) (kind : DeclarationKind) → length (searched before kind ds target).trace ≡ folds + length (searched before kind ds' target').trace
    pub listed : (before : List Statement) (kind : DeclarationKind) → folded_names (searched before kind ds target).trace ≡ names_from records left folds ++ folded_names (searched before kind ds' target').trace
    pub looked : (before : List Statement) (kind : DeclarationKind) → (searched before kind ds target).looks ≡ looks + (searched before kind ds' target').looks
    pub room : end + length ds' ≤ at + nodes_in ds + size target + length ds

  abbrev pub SomeGoing : List ℕ → List ℕ → ℕ → ℕ → ℕ → ℕ → ℕ → ℕ → ℕ → ℕ → Type 0
  SomeGoing table₀ table many start used left begin end folds looks =
      (at : ℕ) (ds : List Declarator) (target : Tree) (pre rest : List ℕ) → StandingDeclarators table₀ records starts low many at start used ds target pre rest
      → (ds' : List Declarator) × (target' : Tree) × (rest' : List ℕ) × Going table left begin end folds looks at pre ds target ds' target' rest'

  pub going-begins : {table : List ℕ} {many start used : ℕ} → SomeGoing table table many start used many start used 0 0
  unfolding names_from
  going-begins at ds target pre rest w = (
    ds,
    target,
    rest,
    record {
      row = w;
      result = λ before kind. refl;
      folded = λ before kind. omega arith;
      listed = λ before kind. refl;
      looked = λ before kind. omega arith;
      room = omega (arith, w.starting, w.ends);
    },
  )

  -- the rules at a declarator that is folded, and at one that ends the search
  module _ (before : List Statement) (kind : DeclarationKind) (d : Declarator) (ds : List Declarator) (target : Tree) where
    folds_of : (step d target).folds ≡ true → Folds d (searched before kind (d ∷ ds) target) (searched before kind ds (step d target).target) (step d target)
    unfolding substitute_from_declarators
    folds_of f = step-folds ctx before kind literal_only d ds target (λ t. substitute_from_declarators ctx before kind literal_only ds t) d.initializer f

    ends_of : (step d target).folds ≡ false → Ends d ds (searched before kind (d ∷ ds) target) (step d target)
    unfolding substitute_from_declarators
    ends_of f = step-ends ctx before kind literal_only d ds target (λ t. substitute_from_declarators ctx before kind literal_only ds t) d.initializer f

    -- the looks of the step are among those of the search
    step-looks : (step d target).looks ≤ (searched before kind (d ∷ ds) target).looks
    step-looks = by (step d target).folds refl
      where
        by : (b : Bool) → (step d target).folds ≡ b → (step d target).looks ≤ (searched before kind (d ∷ ds) target).looks
        by true f = omega (arith, (folds_of f).looks)
        by false f = omega (arith, (ends_of f).looks)

  module _ {table : List ℕ} {left begin end folds looks at : ℕ} {pre : List ℕ} {ds : List Declarator} {target : Tree} where
    -- a declarator was folded
    going_on : {d : Declarator} {ds' : List Declarator} {target' : Tree} {rest' : List ℕ} {table' : List ℕ} {r : Tried} → Going table left begin end folds looks at pre ds target (d ∷ ds') target' rest'
        → Stepped table' (get_or starts (left - 1) 0) d.initializer (pre ++ laid_declarators ds' []) rest' (step d target') r → r.folded ≡ true
        → (rest'' : List ℕ) × Going table' (left - 1) r.tree.0 r.nodes_used (folds + 1) (looks + r.looks) at pre ds target ds' (step d target').target rest''
    unfolding nodes_in
    going_on {d} {ds'} {target'} {rest'} {table'} {r} g x e =
        let f : (step d target').folds ≡ true = sym x.folded ∙ e in
        let (rest'', y, z) = fold-leaves (step d target') f x.leaves in
        let t = (step d target').target in (
          rest'',
          record {
            row = after-fold g.row t r.tree.0 r.nodes_used y z x.used x.names;
            result = λ before kind. g.result before kind ∙ (folds_of before kind d ds' target' f).result-is;
            folded = λ before kind. g.folded before kind ∙ omega (arith, (folds_of before kind d ds' target' f).more-folds);
            listed = λ before kind.
                g.listed before kind
                ∙ ap (λ l. names_from records left folds ++ l) (folds_of before kind d ds' target' f).names
                ∙ names_more records left folds d.name (omega (arith, g.row.counted)) (ap (λ x. x.name) (first_record g.row)) (folded_names (searched before kind ds' t).trace);
            looked = λ before kind. omega (arith, g.looked before kind, (folds_of before kind d ds' target' f).looks, x.looks);
            room = omega (arith, g.room, x.used, z, first-start g.row, step-size ctx literal_only d.name target' d.initializer, g.row.starting, g.row.ends);
          },
        )
      where
        fold-leaves : (step : Try) → step.folds ≡ true → StepLeaves table' (get_or starts (left - 1) 0) d.initializer (pre ++ laid_declarators ds' []) rest' step r
            → (rest'' : List ℕ) × (table' ≡ (pre ++ laid_declarators ds' []) ++ laid step.target rest'') × (r.tree.0 ≡ get_or starts (left - 1) 0)
        fold-leaves step f l = rw f at l

  -- the answer of a search that has come so far
  abbrev come_to : ℕ → NodeId → ℕ → ℕ → ℕ → Searched
  come_to left tree end folds looks = record { declarators_kept = left; tree = tree; nodes_used = end; folds = folds; looks = looks }

  module _ {table : List ℕ} {left : ℕ} (tree : NodeId) {end folds looks at : ℕ} {pre : List ℕ} {ds : List Declarator} {target : Tree} where
    -- the search ended at a declarator
    going-ends : {d : Declarator} {ds' : List Declarator} {target' : Tree} {rest' : List ℕ} {table' : List ℕ} {r : Tried} → Going table left tree.0 end folds looks at pre ds target (d ∷ ds') target' rest'
        → Stepped table' (get_or starts (left - 1) 0) d.initializer (pre ++ laid_declarators ds' []) rest' (step d target') r → r.folded ≡ false
        → (before : List Statement) (kind : DeclarationKind) → Found table' records low at pre (searched before kind ds target) (come_to left tree end folds (looks + r.looks)) rest'
    going-ends {d} {ds'} {target'} {rest'} {table'} {r} g x e before kind =
        let f : (step d target').folds ≡ false = sym x.folded ∙ e in
        let (y, z) = end_leaves (step d target') f x.leaves in
        let t = (step d target').target in
        let k = ends_of before kind d ds' target' f in
        let (u, v, b) = bare-first d ds' (bare_names target') g.row.names in
        let left_is = ap (λ w. w.left) (g.result before kind) ∙ k.left in
        let target_is = ap (λ w. w.target) (g.result before kind) ∙ k.target_is in
        record {
          is = rw (left_is, target_is) (after-end g.row t y);
          many = rw left_is g.row.counted;
          start = rw left_is g.row.starting;
          used = rw target_is (g.row.ends ∙ ap (λ n. tree.0 + n) (sym (kept-step_size ctx literal_only d.name target' d.initializer f)));
          names = rw (left_is, target_is) (bare-again d ds' (bare_names t) u v x.names);
          folded = omega (arith, g.folded before kind, ap length k.none);
          listed = g.listed before kind ∙ ap (λ l. names_from records left folds ++ folded_names l) k.none ∙ append-nil (names_from records left folds);
          looks = omega (arith, g.looked before kind, k.looks, x.looks);
        }
      where
        end_leaves : (step : Try) → step.folds ≡ false → StepLeaves table' (get_or starts (left - 1) 0) d.initializer (pre ++ laid_declarators ds' []) rest' step r
            → (table' ≡ (pre ++ laid_declarators ds' []) ++ laid_initializer d.initializer (laid step.target rest')) × (r.tree.0 ≡ get_or starts (left - 1) 0 + node_count d.initializer)
        end_leaves step f l = rw f at l

    -- no declarator is left
    going-none : {target' : Tree} {rest' : List ℕ} → Going table left tree.0 end folds looks at pre ds target [] target' rest'
        → (before : List Statement) (kind : DeclarationKind) → Found table records low at pre (searched before kind ds target) (come_to left tree end folds looks) rest'
    unfolding substitute_from_declarators pure
    going-none g before kind =
        let e = g.result before kind in
        record {
          is = rw e g.row.is;
          many = rw e g.row.counted;
          start = rw e g.row.starting;
          used = rw e g.row.ends;
          names = rw e g.row.names;
          folded = omega (arith, g.folded before kind);
          listed = g.listed before kind ∙ append-nil (names_from records left folds);
          looks = omega (arith, g.looked before kind);
        }

  -- What is asked and known at a declarator.
  stepped : {table table' : List ℕ} {from begin end : ℕ} {target : Tree} {pre rest : List ℕ} {r : Tried} (d : Declarator) (x : DeclaratorRecord) → x ≡ record { name = d.name; present = is_given d.initializer }
      → Standing table from begin end d.initializer target pre rest → Tries ctx literal_only table table' x from begin end r
      → Stepped table' from d.initializer pre rest (step d target) r
  stepped {table' = table'} {from} {target = target} {pre} {rest} {r} d x e s w =
      subst (λ z. Stepped table' from d.initializer pre rest (try_from ctx literal_only z.name d.initializer target) r) e (w d.initializer target pre rest s (ap (λ z. z.present) e))

  module _ {table₀ table : List ℕ} {many start used left : ℕ} (tree : NodeId) {end folds looks : ℕ} (w : SomeGoing table₀ table many start used left tree.0 end folds looks) (x : DeclaratorRecord) (e : x ≡ declarator_at records (4 * (left - 1))) (l : low < left) where
    pub can_try : CanSearch table₀ records starts low many start used → length table ≡ length table₀ → CanTry table x (get_or starts (left - 1) 0) tree.0 end
    can_try (at, ds, target, pre, rest, s, room, few) k =
        let (ds', target', rest', g) = w at ds target pre rest s in by ds' g
      where
        by : {target' : Tree} {rest' : List ℕ} (ds' : List Declarator) → Going table left tree.0 end folds looks at pre ds target ds' target' rest' → CanTry table x (get_or starts (left - 1) 0) tree.0 end
        by [] g = absurd (omega (arith, g.row.counted, l))
        by {target'} {rest'} (d ∷ ds') g = (d.initializer, target', pre ++ laid_declarators ds' [], rest', first-stands g.row, ap (λ z. z.present) (e ∙ first_record g.row), omega (arith, g.room, s.starting, s.ends, room, k))

    module _ {table' : List ℕ} {r : Tried} (t : Tries ctx literal_only table table' x (get_or starts (left - 1) 0) tree.0 end r) where
      -- the looks so far are among those of the whole search
      pub looks-fit : CanSearch table₀ records starts low many start used → looks + r.looks ≤ most_in_use * most_in_use
      looks-fit (at, ds, target, pre, rest, s, room, few) =
          let (ds', target', rest', g) = w at ds target pre rest s in by ds' g
        where
          by : {target' : Tree} {rest' : List ℕ} (ds' : List Declarator) → Going table left tree.0 end folds looks at pre ds target ds' target' rest' → looks + r.looks ≤ most_in_use * most_in_use
          by [] g = absurd (omega (arith, g.row.counted, l))
          by {target'} (d ∷ ds') g =
              let y = stepped d x (e ∙ first_record g.row) (first-stands g.row) t in
              let m = declarators-looks ctx [] Var literal_only ds target (omega (arith, s.starting, s.ends, few, nodes_in_lem ds)) in
              omega (arith, g.looked [] Var, y.looks, step-looks [] Var d ds' target', m, few)

      pub some-on : r.folded ≡ true → SomeGoing table₀ table' many start used (left - 1) r.tree.0 r.nodes_used (folds + 1) (looks + r.looks)
      some-on h at ds target pre rest s =
          let (ds', target', rest', g) = w at ds target pre rest s in by ds' g
        where
          by : {target' : Tree} {rest' : List ℕ} (ds' : List Declarator) → Going table left tree.0 end folds looks at pre ds target ds' target' rest'
              → (ds'' : List Declarator) × (target'' : Tree) × (rest'' : List ℕ) × Going table' (left - 1) r.tree.0 r.nodes_used (folds + 1) (looks + r.looks) at pre ds target ds'' target'' rest''
          by [] g = absurd (omega (arith, g.row.counted, l))
          by {target'} {rest'} (d ∷ ds') g =
              let (rest'', g') = going_on g (stepped d x (e ∙ first_record g.row) (first-stands g.row) t) h in
              (ds', (step d target').target, rest'', g')

      pub some-ends : {kept : ℕ} → kept ≡ left → r.folded ≡ false → SearchesFrom ctx literal_only table₀ table' records starts low many start used (come_to kept tree end folds (looks + r.looks))
      some-ends q h at ds target pre rest s before kind =
          let (ds', target', rest', g) = w at ds target pre rest s in rw q (by ds' g)
        where
          by : {target' : Tree} {rest' : List ℕ} (ds' : List Declarator) → Going table left tree.0 end folds looks at pre ds target ds' target' rest'
              → (rest'' : List ℕ) × Found table' records low at pre (searched before kind ds target) (come_to left tree end folds (looks + r.looks)) rest''
          by [] g = absurd (omega (arith, g.row.counted, l))
          by {rest' = rest'} (d ∷ ds') g = (rest', going-ends tree g (stepped d x (e ∙ first_record g.row) (first-stands g.row) t) h before kind)

  pub some-none : {table₀ table : List ℕ} {many start used left : ℕ} (tree : NodeId) {end folds looks : ℕ} → SomeGoing table₀ table many start used left tree.0 end folds looks → {kept : ℕ} → kept ≡ left → (low < left → ⊥)
      → SearchesFrom ctx literal_only table₀ table records starts low many start used (come_to kept tree end folds looks)
  some-none {table₀} {table} {left = left} tree {end} {folds} {looks} w q l at ds target pre rest s before kind =
      let (ds', target', rest', g) = w at ds target pre rest s in rw q (by ds' g)
    where
      by : {target' : Tree} {rest' : List ℕ} (ds' : List Declarator) → Going table left tree.0 end folds looks at pre ds target ds' target' rest'
          → (rest'' : List ℕ) × Found table records low at pre (searched before kind ds target) (come_to left tree end folds looks) rest''
      by {rest' = rest'} [] g = (rest', going-none tree g before kind)
      by (d ∷ ds') g = absurd (l (omega (arith, g.row.counted)))
