-- The next tree and the next declarator of the file, taken. Assumes nothing.
use mathlib.Core.Bool.{Bool, true, false}
use mathlib.Core.Path.{◌≡◌, refl, sym, ap, subst, ◌∙◌}
use mathlib.Core.List.{List, [], ◌∷◌, ◌++◌}
use Prim.Native.Nat.{ℕ, ◌+◌, ◌-◌, ◌*◌, ◌≤◌, ◌<◌}
use native.Mathlib.Omega.{arith}
use lib.ListN.{drop}
use Rattle.records.specs.Record.{declarator_at}
use Rattle.records.specs.Tree.{Tree, Trees, node, more, size, sizes, preorder}
use Rattle.records.specs.File.{DeclarationKind, Initializer, bare, given, is_given, Declarator, Statement, initializer_tree, declarators_start}
use Rattle.records.specs.declared.layout.Header.{Header}
use Rattle.records.specs.declared.layout.NodeRecord.{NodeRecord}
use Rattle.records.specs.declared.layout.DeclaratorRecord.{DeclaratorRecord}
use Rattle.walk_rules.specs.Context.{Context}
use Rattle.statements_rules.specs.Trace.{pure}
use Rattle.statements_rules.specs.Declarators.{ended, with_tree, substitute_from_declarators}
use Rattle.statements_rules.specs.Statements.{Kept, substitute_in_statement}
use Rattle.records_table.specs.Overwrites.{Overwrites}
use Rattle.statements_search.specs.declared.from_declarators.Searched.{Searched}
use Rattle.statements_search.specs.declared.in_statement.InStatement.{InStatement}
use Rattle.statements_progress.specs.Listed.{names_from}
use Rattle.statements_search.specs.FromDeclarators.{SearchesFrom}
use Rattle.statements_search.specs.InStatement.{SearchesStatements}
use Rattle.statements_progress.specs.declared.progress.Progress.{Progress}
use Rattle.statements_progress.specs.Pushed.{DeclaratorPushed, declarator_past}
use Rattle.statements.specs.Added.{Adds}
use Rattle.statements.specs.State.{State, holding, following}
use Rattle.statements_progress.specs.Loaded.{Loaded}
use Rattle.statements.specs.Declarators.{record_for, later_tree}
use Rattle.statements.proofs.Adding.{adds_none, adds-from}
use Rattle.statements.proofs.Pushes.{first_record, declarator-state}
use Rattle.statements.proofs.Loads.{progress_is, loaded_state}
use Rattle.statements.proofs.Searches.{searched_past, LooksLeft, folded-statements, searched-statements, added_statements, folded-declarators, searched-declarators, added_declarators}
use Rattle.statements_search.specs.KeptStatements.{tables}

-- a tree has a node
one-node : (t : Tree) → 1 ≤ size t
unfolding size
one-node (node n kids) = omega arith

-- The next tree, loaded.
module _ {file : List ℕ} {h : Header} {nodes records starts statements : List ℕ} {low : ℕ} {p : Progress} {ks : List Kept} {done : List Declarator} {t : Tree} {ts : Trees} {coming : List DeclaratorRecord} {left : ℕ} {rest : List ℕ} {before : List NodeRecord}
    (s : State file h (tables nodes records starts statements) p (holding low ks done bare rest) (following (more t ts) coming left before)) {nodes₁ : List ℕ} {q : Progress} (l : Loaded file h nodes nodes₁ p q) where
  same-folds : q.folds ≡ p.folds
  same-folds = ap (λ (x : Progress). x.folds) (progress_is s l)

  same-looks : q.looks ≡ p.looks
  same-looks = ap (λ (x : Progress). x.looks) (progress_is s l)

  pub looks-left : LooksLeft h q ts
  unfolding sizes
  looks-left = omega (arith, s.room.looked, same-looks, one-node t)

-- The next tree, searched from the statements.
module _ {file : List ℕ} {h : Header} {nodes records starts statements : List ℕ} {p : Progress} {ks : List Kept} {t : Tree} {ts : Trees} {coming : List DeclaratorRecord} {left : ℕ} {rest : List ℕ} {before : List NodeRecord}
    (s : State file h (tables nodes records starts statements) p (holding p.declarators_kept ks [] bare rest) (following (more t ts) coming left before)) {nodes₁ : List ℕ} {q : Progress} (l : Loaded file h nodes nodes₁ p q) where
  pub next_loaded : State file h (tables nodes₁ records starts statements) q (holding q.declarators_kept ks [] (given t) (drop (16 * size t) rest)) (following ts coming left (before ++ preorder t []))
  next_loaded =
      subst (λ (k : ℕ). State file h (tables nodes₁ records starts statements) q (holding k ks [] (given t) (drop (16 * size t) rest)) (following ts coming left (before ++ preorder t [])))
      (sym (ap (λ (x : Progress). x.declarators_kept) (progress_is s l))) (loaded_state s l)

  module _ (ctx : Context) {nodes₂ statements' : List ℕ} {r : InStatement} (e : SearchesStatements ctx (tables nodes₁ records starts statements) (tables nodes₂ records starts statements') q.statements_kept q.declarators_kept q.tree.0 q.nodes_used r) where
    abbrev next_past : Progress
    next_past = searched_past q r.tree r.nodes_used r.declarators_kept r.statements_kept r.folds r.looks

    pub next-searched : (rest' : List ℕ) × (before' : List NodeRecord)
        × State file h (tables nodes₂ records starts statements') next_past (holding r.declarators_kept (substitute_in_statement ctx ks t).result.left [] (given (substitute_in_statement ctx ks t).result.target) rest') (following ts coming left before')
    next-searched =
        let (rest', s') = searched-statements next_loaded ctx e (looks-left s l) in
        (rest', before ++ preorder t [], s')

    pub next-folded : q.declarators_kept ≡ r.declarators_kept + r.folds
    next-folded = folded-statements next_loaded ctx e

    pub next_added : {folded folded' : List ℕ} → Overwrites folded folded' q.folds (names_from records r.declarators_kept (q.declarators_kept - r.declarators_kept)) → Adds folded folded' p next_past (substitute_in_statement ctx ks t)
    next_added o = adds-from (same-folds s l) (same-looks s l) (added_statements next_loaded ctx e o)

-- The next tree, searched from the declarators.
module _ {file : List ℕ} {h : Header} {nodes records starts statements : List ℕ} {low : ℕ} {p : Progress} {ks : List Kept} {done : List Declarator} {t : Tree} {ts : Trees} {coming : List DeclaratorRecord} {left : ℕ} {rest : List ℕ} {before : List NodeRecord}
    (s : State file h (tables nodes records starts statements) p (holding low ks done bare rest) (following (more t ts) coming left before)) {nodes₁ : List ℕ} {q : Progress} (l : Loaded file h nodes nodes₁ p q)
    (ctx : Context) (above : List Statement) (kind : DeclarationKind) where
  abbrev LaterState : List ℕ → Bool → List ℕ → List ℕ → Progress → Type 0
  LaterState nodes₂ searched folded folded' r =
      (rest' : List ℕ) × (before' : List NodeRecord)
      × State file h (tables nodes₂ records starts statements) r (holding low ks (later_tree ctx above kind searched done t).result.left (given (later_tree ctx above kind searched done t).result.target) rest') (following ts coming left before')
      × Adds folded folded' p r (later_tree ctx above kind searched done t)

  pub later-unsearched : (searched : Bool) (folded : List ℕ) → searched ≡ false → LaterState nodes₁ searched folded folded q
  unfolding later_tree pure
  later-unsearched searched folded e = rw e (drop (16 * size t) rest, before ++ preorder t [], loaded_state s l, adds_none (ended t done) (same-folds s l) (same-looks s l) refl refl)

  module _ {nodes₂ : List ℕ} {r : Searched} (g : SearchesFrom ctx false nodes₁ nodes₂ records starts low q.declarators_kept q.tree.0 q.nodes_used r) where
    abbrev later_past : Progress
    later_past = searched_past q r.tree r.nodes_used r.declarators_kept q.statements_kept r.folds r.looks

    pub later-folded : q.declarators_kept ≡ r.declarators_kept + r.folds
    later-folded = folded-declarators (loaded_state s l) ctx g above kind

    pub later-left : (rest' : List ℕ)
        × State file h (tables nodes₂ records starts statements) later_past (holding low ks (substitute_from_declarators ctx above kind false done t).result.left (given (substitute_from_declarators ctx above kind false done t).result.target) rest') (following ts coming left (before ++ preorder t []))
    later-left = searched-declarators (loaded_state s l) ctx g above kind (looks-left s l)

    pub later-searched : (searched : Bool) → searched ≡ true → {folded folded' : List ℕ} → Overwrites folded folded' q.folds (names_from records r.declarators_kept (q.declarators_kept - r.declarators_kept))
        → LaterState nodes₂ searched folded folded' later_past
    unfolding later_tree
    later-searched searched e o =
        let (rest', s') = later-left in
        rw e (rest', before ++ preorder t [], s', adds-from (same-folds s l) (same-looks s l) (added_declarators (loaded_state s l) ctx g above kind o))

-- a declarator with an initializer, or without one
by-initializer : (d : Declarator) (i : Initializer) → d.initializer ≡ i → is_given i ≡ 1 → (t : Tree) × (d.initializer ≡ given t)
unfolding is_given
by-initializer d bare e g = absurd (omega arith)
by-initializer d (given t) e g = (t, e)

no_initializer : (d : Declarator) (i : Initializer) → d.initializer ≡ i → (is_given i ≡ 1 → ⊥) → d.initializer ≡ bare
unfolding is_given
no_initializer d bare e g = e
no_initializer d (given t) e g = absurd (g refl)

-- The next declarator of the file.
module _ {file : List ℕ} {h : Header} {nodes records starts statements : List ℕ} {low : ℕ} {p : Progress} {ks : List Kept} {done : List Declarator} {coming : List DeclaratorRecord} {left : ℕ} {rest : List ℕ} {before : List NodeRecord} (d : Declarator) (ts : Trees)
    (s : State file h (tables nodes records starts statements) p (holding low ks done bare rest) (following (initializer_tree d.initializer ts) (record_for d ∷ coming) left before)) (x : DeclaratorRecord) (ex : x ≡ declarator_at file (declarators_start h + 4 * p.declarators_read)) where
  pub record_is : x ≡ record_for d
  record_is = ex ∙ first_record s.comes.records

  present_is : x.present ≡ is_given d.initializer
  present_is = ap (λ (y : DeclaratorRecord). y.present) record_is

  -- it has an initializer, whose tree is the next
  pub given-tree : x.present ≡ 1 → (t : Tree) × (d.initializer ≡ given t) × State file h (tables nodes records starts statements) p (holding low ks done bare rest) (following (more t ts) (record_for d ∷ coming) left before)
  unfolding initializer_tree
  given-tree g =
      let (t, e) = by-initializer d d.initializer refl (sym present_is ∙ g) in
      (t, e, subst (λ (i : Initializer). State file h (tables nodes records starts statements) p (holding low ks done bare rest) (following (initializer_tree i ts) (record_for d ∷ coming) left before)) e s)

  -- it has none
  pub no_tree : (x.present ≡ 1 → ⊥) → (d.initializer ≡ bare) × State file h (tables nodes records starts statements) p (holding low ks done d.initializer rest) (following ts (record_for d ∷ coming) left before)
  unfolding initializer_tree
  no_tree g =
      let e = no_initializer d d.initializer refl (λ q. g (present_is ∙ q)) in
      let a = subst (λ (i : Initializer). State file h (tables nodes records starts statements) p (holding low ks done bare rest) (following (initializer_tree i ts) (record_for d ∷ coming) left before)) e s in
      (e, subst (λ (i : Initializer). State file h (tables nodes records starts statements) p (holding low ks done i rest) (following ts (record_for d ∷ coming) left before)) (sym e) a)

-- the record of a declarator with another tree
with_record : (d : Declarator) (t t' : Tree) → d.initializer ≡ given t → record_for d ≡ record_for (with_tree d t')
unfolding is_given
with_record d t t' e = λ i. record { name = d.name; present = ap is_given e i }

module _ {file : List ℕ} {h : Header} {nodes records starts statements : List ℕ} {low : ℕ} {p : Progress} {ks : List Kept} {done : List Declarator} {ts : Trees} {coming : List DeclaratorRecord} {left : ℕ} {rest : List ℕ} {before : List NodeRecord} {records' starts' : List ℕ} where
  -- a searched tree is pushed with its declarator
  pub push_given : (d : Declarator) (t t' : Tree) → d.initializer ≡ given t → State file h (tables nodes records starts statements) p (holding low ks done (given t') rest) (following ts (record_for d ∷ coming) left before)
      → (x : DeclaratorRecord) → x ≡ record_for d → DeclaratorPushed records records' starts starts' p.declarators_kept p.tree.0 x
      → State file h (tables nodes records' starts' statements) (declarator_past p) (holding low ks (with_tree d t' ∷ done) bare rest) (following ts coming left before)
  push_given d t t' e s x ex w =
      let a = subst (λ (y : DeclaratorRecord). State file h (tables nodes records starts statements) p (holding low ks done (given t') rest) (following ts (y ∷ coming) left before)) (sym ex) s in
      declarator-state (with_tree d t') a w (ex ∙ with_record d t t' e)

  pub push_bare : (d : Declarator) → State file h (tables nodes records starts statements) p (holding low ks done d.initializer rest) (following ts (record_for d ∷ coming) left before)
      → (x : DeclaratorRecord) → x ≡ record_for d → DeclaratorPushed records records' starts starts' p.declarators_kept p.tree.0 x
      → State file h (tables nodes records' starts' statements) (declarator_past p) (holding low ks (d ∷ done) bare rest) (following ts coming left before)
  push_bare d s x ex w =
      let a = subst (λ (y : DeclaratorRecord). State file h (tables nodes records starts statements) p (holding low ks done d.initializer rest) (following ts (y ∷ coming) left before)) (sym ex) s in
      declarator-state d a w ex

-- a declarator that is to be pushed has room
pub push_room : {file : List ℕ} {h : Header} {nodes records starts statements : List ℕ} {low : ℕ} {p : Progress} {ks : List Kept} {done : List Declarator} {i : Initializer} {ts : Trees} {x : DeclaratorRecord} {coming : List DeclaratorRecord} {left : ℕ} {rest : List ℕ} {before : List NodeRecord}
    → State file h (tables nodes records starts statements) p (holding low ks done i rest) (following ts (x ∷ coming) left before) → (p.declarators_kept + 1 ≤ h.declarators) × (p.declarators_read < 65536)
push_room s = (omega (arith, s.room.declared), omega (arith, s.comes.few))
