-- A statement of the file, folded and pushed. Assumes nothing.
use mathlib.Core.Bool.{Bool, ◌||◌, not}
use mathlib.Core.Path.{◌≡◌, refl, ap, subst, ◌∙◌}
use mathlib.Core.List.{List, [], ◌∷◌, ◌++◌, reverse}
use Prim.Native.Nat.{ℕ, suc, ◌+◌, ◌-◌, ◌≤◌, ◌<◌}
use native.Mathlib.Omega.{arith}
use lib.ListN.{length, length-reverse}
use Rattle.records.specs.Tree.{Tree, more}
use Rattle.records.specs.File.{DeclarationKind, Initializer, bare, given, Declarator, Statement, declaration, expression, other, declaration_kind, kind_number, declarators_in, statement_number, statement_record, initializer_trees, statement_trees, all_trees, declarator_records, all_declarators}
use Rattle.records.specs.declared.layout.Header.{Header}
use Rattle.records.specs.declared.layout.NodeRecord.{NodeRecord}
use Rattle.records.specs.declared.layout.DeclaratorRecord.{DeclaratorRecord}
use Rattle.records.specs.declared.layout.StatementRecord.{StatementRecord}
use Rattle.records_laws.proofs.PrintedStatements.{declarator_records-append, kind-small, kind-back}
use Rattle.walk_rules.specs.Context.{Context}
use Rattle.statements_rules.specs.Trace.{pure, ◌>>=◌}
use Rattle.statements_rules.specs.Declarators.{is_unsearched, is_using}
use Rattle.statements_rules.specs.Statements.{Kept, in_file_order, substitute_in_statement, in_initializer, in_first_declarator, fold_statement}
use Rattle.statements_progress.specs.declared.progress.Progress.{Progress}
use Rattle.statements_progress.specs.Pushed.{StatementPushed, statement_past}
use Rattle.statements.specs.Added.{Adds}
use Rattle.statements.specs.State.{State, holding, following, declarator_tables}
use Rattle.statements.specs.Next.{CanTakeNext, SearchedFromStatements}
use Rattle.statements.specs.Declarators.{CanTakeFirst, TakenFirst, later_declarators, CanTakeAll, TakenAll}
use Rattle.statements.specs.Folds.{Taking, CanFold, Folds}
use Rattle.statements.proofs.Adding.{adds_none, adds_as, adds_then}
use Rattle.statements.proofs.Pushes.{becomes-expression, becomes-other, becomes-declaration, statement-state}
use Rattle.statements.proofs.Definitions.{handle_variable_declaration, fold-empty, handle_expression_statement, fold-other}
use Rattle.statements_search.specs.KeptStatements.{tables}

-- What a statement is, by its record.
pub data Declared (s : StatementRecord) : Statement → Type 0 where
  declared : (kind : DeclarationKind) (d : Declarator) (ds : List Declarator) → s.kind ≡ kind_number kind → s.declarators ≡ suc (length ds) → Declared s (declaration kind (d ∷ ds))

pub data Empty (s : StatementRecord) : Statement → Type 0 where
  empty : (kind : DeclarationKind) → s ≡ statement_record (declaration kind []) → Empty s (declaration kind [])

pub data Expressed : Statement → Type 0 where
  expressed : (t : Tree) → Expressed (expression t)

pub data Other : Statement → Type 0 where
  is-other : Other other

kind-is : (s : StatementRecord) (st : Statement) → s ≡ statement_record st → s.kind ≡ statement_number st
unfolding statement_record
kind-is s st e = ap (λ (r : StatementRecord). r.kind) e

many_is : (s : StatementRecord) (st : Statement) → s ≡ statement_record st → s.declarators ≡ length (declarators_in st)
unfolding statement_record
many_is s st e = ap (λ (r : StatementRecord). r.declarators) e

module _ (s : StatementRecord) where
  pub is_declared : (st : Statement) → s ≡ statement_record st → s.kind < 5 → (s.declarators ≡ 0 → ⊥) → Declared s st
  unfolding statement_number declarators_in
  is_declared (declaration kind []) e k n = absurd (n (many_is s (declaration kind []) e))
  is_declared (declaration kind (d ∷ ds)) e k n = declared kind d ds (kind-is s (declaration kind (d ∷ ds)) e) (many_is s (declaration kind (d ∷ ds)) e)
  is_declared (expression t) e k n = absurd (omega (arith, kind-is s (expression t) e))
  is_declared other e k n = absurd (omega (arith, kind-is s other e))

  pub is-empty : (st : Statement) → s ≡ statement_record st → s.kind < 5 → s.declarators ≡ 0 → Empty s st
  unfolding statement_number declarators_in
  is-empty (declaration kind []) e k n = empty kind e
  is-empty (declaration kind (d ∷ ds)) e k n = absurd (omega (arith, many_is s (declaration kind (d ∷ ds)) e))
  is-empty (expression t) e k n = absurd (omega (arith, kind-is s (expression t) e))
  is-empty other e k n = absurd (omega (arith, kind-is s other e))

  pub is-expressed : (st : Statement) → s ≡ statement_record st → s.kind ≡ 5 → Expressed st
  unfolding statement_number
  is-expressed (declaration kind ds) e k = absurd (omega (arith, kind-is s (declaration kind ds) e, kind-small kind))
  is-expressed (expression t) e k = expressed t
  is-expressed other e k = absurd (omega (arith, kind-is s other e))

  pub is_the_other : (st : Statement) → s ≡ statement_record st → s.kind ≡ 6 → Other st
  unfolding statement_number
  is_the_other (declaration kind ds) e k = absurd (omega (arith, kind-is s (declaration kind ds) e, kind-small kind))
  is_the_other (expression t) e k = absurd (omega (arith, kind-is s (expression t) e))
  is_the_other other e k = is-other

  -- neither an expression nor any other
  pub small-kind : (st : Statement) → s ≡ statement_record st → (s.kind ≡ 5 → ⊥) → (s.kind ≡ 6 → ⊥) → s.kind < 5
  unfolding statement_number
  small-kind (declaration kind ds) e a b = omega (arith, kind-is s (declaration kind ds) e, kind-small kind)
  small-kind (expression t) e a b = absurd (a (kind-is s (expression t) e))
  small-kind other e a b = absurd (b (kind-is s other e))

pub fold-kind : (file : List ℕ) (h : Header) (nodes records starts statements : List ℕ) (s : StatementRecord) (p : Progress) → CanFold file h (tables nodes records starts statements) s p
    → (s.kind ≡ 5 → ⊥) → (s.kind ≡ 6 → ⊥) → s.kind < 5
fold-kind file h nodes records starts statements s p (ks, st, ss, rest, before, a, e) x y = small-kind s st e x y

-- The trees and declarators of a declaration are the next.
module _ {file : List ℕ} {h : Header} {nodes records starts statements : List ℕ} {p : Progress} {ks : List Kept} {rest : List ℕ} {before : List NodeRecord} (kind : DeclarationKind) (ds : List Declarator) (ss : List Statement) where
  declaration-state : Taking file h (tables nodes records starts statements) p ks (declaration kind ds ∷ ss) rest before
      → State file h (tables nodes records starts statements) p (holding p.declarators_kept ks [] bare rest) (following (initializer_trees ds (all_trees ss)) (declarator_records ds ++ declarator_records (all_declarators ss)) (suc (length ss)) before)
  unfolding all_trees statement_trees all_declarators declarators_in
  declaration-state a =
      subst (λ (rs : List DeclaratorRecord). State file h (tables nodes records starts statements) p (holding p.declarators_kept ks [] bare rest) (following (initializer_trees ds (all_trees ss)) rs (suc (length ss)) before))
      (declarator_records-append ds (all_declarators ss)) a

-- so is that of an expression
expression-state : {file : List ℕ} {h : Header} {nodes records starts statements : List ℕ} {p : Progress} {ks : List Kept} {rest : List ℕ} {before : List NodeRecord} (t : Tree) (ss : List Statement)
    → Taking file h (tables nodes records starts statements) p ks (expression t ∷ ss) rest before
    → State file h (tables nodes records starts statements) p (holding p.declarators_kept ks [] bare rest) (following (more t (all_trees ss)) (declarator_records (all_declarators ss)) (suc (length ss)) before)
unfolding all_trees statement_trees all_declarators declarators_in
expression-state t ss a = a

other-state : {file : List ℕ} {h : Header} {nodes records starts statements : List ℕ} {p : Progress} {ks : List Kept} {rest : List ℕ} {before : List NodeRecord} (ss : List Statement)
    → Taking file h (tables nodes records starts statements) p ks (other ∷ ss) rest before
    → State file h (tables nodes records starts statements) p (holding p.declarators_kept ks [] bare rest) (following (all_trees ss) (declarator_records (all_declarators ss)) (suc (length ss)) before)
unfolding all_trees statement_trees all_declarators declarators_in
other-state ss a = a

-- one declarator comes of the first
first-length : (ctx : Context) (ks : List Kept) (d : Declarator) → length (in_first_declarator ctx ks (d ∷ [])).result.target ≡ 1
unfolding in_first_declarator in_initializer pure ◌>>=◌
first-length ctx ks d = by d.initializer
  where
    by : (i : Initializer) → length (in_initializer ctx ks d [] i).result.target ≡ 1
    by bare = refl
    by (given t) = refl

module _ (ctx : Context) (file : List ℕ) (h : Header) (nodes records starts statements : List ℕ) (s : StatementRecord) (p : Progress) where
  -- An empty declaration is pushed.
  pub empty-folds : (statements' folded : List ℕ) (r : Progress) → s.kind < 5 → s.declarators ≡ 0 → StatementPushed statements statements' p.statements_kept s → r ≡ statement_past p
      → Folds ctx file h (tables nodes records starts statements) (tables nodes records starts statements') folded folded s p r
  unfolding initializer_trees declarator_records
  empty-folds statements' folded r k n w er ks st ss rest before a e number = by st (is-empty s st e k n) a
    where
      by : (st : Statement) → Empty s st → Taking file h (tables nodes records starts statements) p ks (st ∷ ss) rest before
          → (rest' : List ℕ) × (before' : List NodeRecord)
          × Taking file h (tables nodes records starts statements') r (fold_statement ctx number ks st).result ss rest' before'
          × Adds folded folded p r (fold_statement ctx number ks st)
      by _ (empty kind e) a =
          let (x, y) = fold-empty ctx ks number kind in
          let b = statement-state number (declaration kind (reverse [])) (becomes-declaration kind []) (declaration-state kind [] ss a) w e in
          (rest, before, rw (er, x) b, adds_none (fold_statement ctx number ks (declaration kind [])) (ap (λ (x : Progress). x.folds) er) (ap (λ (x : Progress). x.looks) er) y.traces y.looks)

  -- Any other statement is pushed.
  pub other-folds : (statements' folded : List ℕ) (r : Progress) → s.kind ≡ 6 → StatementPushed statements statements' p.statements_kept s → r ≡ statement_past p
      → Folds ctx file h (tables nodes records starts statements) (tables nodes records starts statements') folded folded s p r
  other-folds statements' folded r k w er ks st ss rest before a e number = by st (is_the_other s st e k) a e
    where
      by : (st : Statement) → Other st → Taking file h (tables nodes records starts statements) p ks (st ∷ ss) rest before → s ≡ statement_record st
          → (rest' : List ℕ) × (before' : List NodeRecord)
          × Taking file h (tables nodes records starts statements') r (fold_statement ctx number ks st).result ss rest' before'
          × Adds folded folded p r (fold_statement ctx number ks st)
      by _ is-other a e =
          let (x, y) = fold-other ctx ks number in
          let b = statement-state number other becomes-other (other-state ss a) w e in
          (rest, before, rw (er, x) b, adds_none (fold_statement ctx number ks other) (ap (λ (x : Progress). x.folds) er) (ap (λ (x : Progress). x.looks) er) y.traces y.looks)

  -- An expression: its tree can be taken, then it can be pushed.
  module _ (k : s.kind ≡ 5) where
    pub expression-next : CanFold file h (tables nodes records starts statements) s p → CanTakeNext file h (tables nodes records starts statements) p
    expression-next (ks, st, ss, rest, before, a, e) = by st (is-expressed s st e k) a
      where
        by : (st : Statement) → Expressed st → Taking file h (tables nodes records starts statements) p ks (st ∷ ss) rest before → CanTakeNext file h (tables nodes records starts statements) p
        by _ (expressed t) a = (ks, t, all_trees ss, declarator_records (all_declarators ss), suc (length ss), rest, before, expression-state t ss a)

    module _ (nodes₁ records₁ starts₁ statements₁ folded folded' : List ℕ) (l : Progress) (w : SearchedFromStatements ctx file h (tables nodes records starts statements) (tables nodes₁ records₁ starts₁ statements₁) folded folded' p l) where
      pub expression-room : CanFold file h (tables nodes records starts statements) s p → l.statements_kept + 1 ≤ h.statements
      expression-room (ks, st, ss, rest, before, a, e) = by st (is-expressed s st e k) a
        where
          by : (st : Statement) → Expressed st → Taking file h (tables nodes records starts statements) p ks (st ∷ ss) rest before → l.statements_kept + 1 ≤ h.statements
          by _ (expressed t) a =
              let (rest', before', s', f) = w ks t (all_trees ss) (declarator_records (all_declarators ss)) (suc (length ss)) rest before (expression-state t ss a) in
              omega (arith, s'.room.stated)

      pub expression-folds : (statements' : List ℕ) (r : Progress) → StatementPushed statements₁ statements' l.statements_kept s → r ≡ statement_past l
          → Folds ctx file h (tables nodes records starts statements) (tables nodes₁ records₁ starts₁ statements') folded folded' s p r
      unfolding statement_record statement_number declarators_in
      expression-folds statements' r pushed er ks st ss rest before a e number = by st (is-expressed s st e k) a e
        where
          by : (st : Statement) → Expressed st → Taking file h (tables nodes records starts statements) p ks (st ∷ ss) rest before → s ≡ statement_record st
              → (rest' : List ℕ) × (before' : List NodeRecord)
              × Taking file h (tables nodes₁ records₁ starts₁ statements') r (fold_statement ctx number ks st).result ss rest' before'
              × Adds folded folded' p r (fold_statement ctx number ks st)
          by _ (expressed t) a e =
              let (rest', before', s', f) = w ks t (all_trees ss) (declarator_records (all_declarators ss)) (suc (length ss)) rest before (expression-state t ss a) in
              let t' = (substitute_in_statement ctx ks t).result.target in
              let (x, y) = handle_expression_statement ctx ks number t in
              let b = statement-state number (expression t') (becomes-expression t') s' pushed e in
              (rest', before', rw (er, x) b, adds_as (fold_statement ctx number ks (expression t)) (ap (λ (x : Progress). x.folds) er) (ap (λ (x : Progress). x.looks) er) y.traces y.looks f)

  -- A declaration with declarators: the first can be taken, then the others, then it can be pushed.
  module _ (k : s.kind < 5) (number₀ : ℕ) (en₀ : number₀ ≡ s.declarators) (n : number₀ ≡ 0 → ⊥) where
    pub declaration-first : CanFold file h (tables nodes records starts statements) s p → CanTakeFirst file h (tables nodes records starts statements) p
    unfolding initializer_trees declarator_records
    declaration-first (ks, st, ss, rest, before, a, e) = by st (is_declared s st e k (λ q. n (en₀ ∙ q))) a
      where
        by : (st : Statement) → Declared s st → Taking file h (tables nodes records starts statements) p ks (st ∷ ss) rest before → CanTakeFirst file h (tables nodes records starts statements) p
        by _ (declared kind d ds ek en) a =
            (ks, d, initializer_trees ds (all_trees ss), declarator_records ds ++ declarator_records (all_declarators ss), suc (length ss), rest, before, declaration-state kind (d ∷ ds) ss a)

    module _ (nodes₁ records₁ starts₁ statements₁ folded folded₁ : List ℕ) (f : Progress) (first : TakenFirst ctx file h (tables nodes records starts statements) (tables nodes₁ records₁ starts₁ statements₁) folded folded₁ p f) where
      first-state : (kind : DeclarationKind) (d : Declarator) (ds : List Declarator) (ks : List Kept) (ss : List Statement) (rest : List ℕ) (before : List NodeRecord)
          → Taking file h (tables nodes records starts statements) p ks (declaration kind (d ∷ ds) ∷ ss) rest before
          → (rest' : List ℕ) × (before' : List NodeRecord)
          × State file h (tables nodes₁ records₁ starts₁ statements₁) f (holding (f.declarators_kept - 1) (in_first_declarator ctx ks (d ∷ [])).result.left (in_first_declarator ctx ks (d ∷ [])).result.target bare rest') (following (initializer_trees ds (all_trees ss)) (declarator_records ds ++ declarator_records (all_declarators ss)) (suc (length ss)) before')
          × Adds folded folded₁ p f (in_first_declarator ctx ks (d ∷ []))
      unfolding initializer_trees declarator_records
      first-state kind d ds ks ss rest before a =
          first ks d (initializer_trees ds (all_trees ss)) (declarator_records ds ++ declarator_records (all_declarators ss)) (suc (length ss)) rest before (declaration-state kind (d ∷ ds) ss a)

      pub declaration-later : CanFold file h (tables nodes records starts statements) s p → (1 ≤ f.declarators_kept) × CanTakeAll file h (declarator_tables nodes₁ records₁ starts₁) (f.declarators_kept - 1) (number₀ - 1) f
      declaration-later (ks, st, ss, rest, before, a, e) = by st (is_declared s st e k (λ q. n (en₀ ∙ q))) a
        where
          by : (st : Statement) → Declared s st → Taking file h (tables nodes records starts statements) p ks (st ∷ ss) rest before
              → (1 ≤ f.declarators_kept) × CanTakeAll file h (declarator_tables nodes₁ records₁ starts₁) (f.declarators_kept - 1) (number₀ - 1) f
          by _ (declared kind d ds ek en) a =
              let (rest', before', s', m) = first-state kind d ds ks ss rest before a in
              let w = (in_first_declarator ctx ks (d ∷ [])).result in
              (omega (arith, s'.holds.counted, first-length ctx ks d), (statements₁, w.left, w.target, ds, all_trees ss, declarator_records (all_declarators ss), suc (length ss), rest', before', s', omega (arith, en)))

      module _ (searched : Bool) (nodes₂ records₂ starts₂ folded₂ : List ℕ) (l : Progress)
          (later : TakenAll ctx searched file h (declarator_tables nodes₁ records₁ starts₁) (declarator_tables nodes₂ records₂ starts₂) folded₁ folded₂ (f.declarators_kept - 1) (number₀ - 1) f l) where
        later-state : (kind : DeclarationKind) (d : Declarator) (ds : List Declarator) (ks : List Kept) (ss : List Statement) (rest : List ℕ) (before : List NodeRecord)
            → s.declarators ≡ suc (length ds) → Taking file h (tables nodes records starts statements) p ks (declaration kind (d ∷ ds) ∷ ss) rest before
            → let w = in_first_declarator ctx ks (d ∷ []) in
            let v = later_declarators ctx (in_file_order w.result.left) kind searched w.result.target ds in
            (rest' : List ℕ) × (before' : List NodeRecord)
            × State file h (tables nodes₂ records₂ starts₂ statements₁) l (holding (f.declarators_kept - 1) w.result.left v.result bare rest') (following (all_trees ss) (declarator_records (all_declarators ss)) (suc (length ss)) before')
            × Adds folded folded₁ p f w × Adds folded₁ folded₂ f l v
        later-state kind d ds ks ss rest before en a =
            let (rest₁, before₁, s₁, m₁) = first-state kind d ds ks ss rest before a in
            let w = in_first_declarator ctx ks (d ∷ []) in
            let v = later_declarators ctx (in_file_order w.result.left) kind searched w.result.target ds in
            let (rest₂, before₂, s₂, m₂) = later statements₁ w.result.left w.result.target ds (all_trees ss) (declarator_records (all_declarators ss)) (suc (length ss)) rest₁ before₁ s₁ (omega (arith, en)) (in_file_order w.result.left) kind in
            (rest₂, before₂, s₂, m₁, m₂)

        pub declaration-room : CanFold file h (tables nodes records starts statements) s p → (f.declarators_kept - 1 ≤ l.declarators_kept) × (l.declarators_kept ≤ h.declarators) × (l.statements_kept + 1 ≤ h.statements)
        declaration-room (ks, st, ss, rest, before, a, e) = by st (is_declared s st e k (λ q. n (en₀ ∙ q))) a
          where
            by : (st : Statement) → Declared s st → Taking file h (tables nodes records starts statements) p ks (st ∷ ss) rest before
                → (f.declarators_kept - 1 ≤ l.declarators_kept) × (l.declarators_kept ≤ h.declarators) × (l.statements_kept + 1 ≤ h.statements)
            by _ (declared kind d ds ek en) a =
                let (rest', before', s', m₁, m₂) = later-state kind d ds ks ss rest before en a in
                (omega (arith, s'.holds.counted), omega (arith, s'.room.declared), omega (arith, s'.room.stated))

        pub declaration-folds : searched ≡ not (is_unsearched ctx || is_using (declaration_kind s.kind)) → (statements' : List ℕ) (x : StatementRecord) (r : Progress) → x ≡ record { kind = s.kind; zero = 0; declarators = l.declarators_kept - (f.declarators_kept - 1) } → StatementPushed statements₁ statements' l.statements_kept x → r ≡ statement_past l
            → Folds ctx file h (tables nodes records starts statements) (tables nodes₂ records₂ starts₂ statements') folded folded₂ s p r
        unfolding statement_record statement_number declarators_in
        declaration-folds es statements' x r ex pushed er ks st ss rest before a e number = by st (is_declared s st e k (λ q. n (en₀ ∙ q))) a
          where
            by : (st : Statement) → Declared s st → Taking file h (tables nodes records starts statements) p ks (st ∷ ss) rest before
                → (rest' : List ℕ) × (before' : List NodeRecord)
                × Taking file h (tables nodes₂ records₂ starts₂ statements') r (fold_statement ctx number ks st).result ss rest' before'
                × Adds folded folded₂ p r (fold_statement ctx number ks st)
            by _ (declared kind d ds ek en) a =
                let (rest', before', s', m₁, m₂) = later-state kind d ds ks ss rest before en a in
                let w = in_first_declarator ctx ks (d ∷ []) in
                let v = later_declarators ctx (in_file_order w.result.left) kind searched w.result.target ds in
                let many : l.declarators_kept - (f.declarators_kept - 1) ≡ length (reverse v.result) = omega (arith, s'.holds.counted, length-reverse v.result) in
                let is : x ≡ statement_record (declaration kind (reverse v.result)) = ex ∙ (λ i. record { kind = ek i; zero = 0; declarators = many i }) in
                let b = statement-state number (declaration kind (reverse v.result)) (becomes-declaration kind v.result) s' pushed is in
                let same : searched ≡ not (is_unsearched ctx || is_using kind) = es ∙ ap (λ (c : DeclarationKind). not (is_unsearched ctx || is_using c)) (ap declaration_kind ek ∙ kind-back kind) in
                let (u, y, z) = handle_variable_declaration ctx ks number kind d ds searched same in
                (rest', before', rw (er, u) b, adds_as (fold_statement ctx number ks (declaration kind (d ∷ ds))) (ap (λ (x : Progress). x.folds) er) (ap (λ (x : Progress). x.looks) er) refl refl (adds_then (fold_statement ctx number ks (declaration kind (d ∷ ds))) y z m₁ m₂))
