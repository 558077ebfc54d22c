-- Later declarators of a declaration, and the first. Assumes nothing.
use mathlib.Core.Bool.{Bool, false}
use mathlib.Core.Path.{◌≡◌, refl, ap}
use mathlib.Core.List.{List, [], ◌∷◌, ◌++◌}
use Prim.Native.Nat.{ℕ, ◌+◌, ◌-◌, ◌*◌, ◌≤◌, ◌<◌}
use native.Mathlib.Omega.{arith}
use lib.ListN.{length}
use Rattle.records.specs.Record.{declarator_at}
use Rattle.records.specs.Tree.{Trees}
use Rattle.records.specs.File.{DeclarationKind, Var, bare, Declarator, Statement, initializer_trees, declarator_records, declarators_start}
use Rattle.records.specs.declared.layout.Header.{Header}
use Rattle.records.specs.declared.layout.NodeRecord.{NodeRecord}
use Rattle.records.specs.declared.layout.DeclaratorRecord.{DeclaratorRecord}
use Rattle.walk_rules.specs.Context.{Context}
use Rattle.statements_rules.specs.Trace.{Traced, pure, ◌>>=◌}
use Rattle.statements_rules.specs.Statements.{Kept, substitute_in_statement, in_first_declarator}
use Rattle.statements_progress.specs.declared.progress.Progress.{Progress}
use Rattle.statements_progress.specs.Pushed.{DeclaratorPushed, declarator_past}
use Rattle.records_table.specs.Overwrites.{Overwrites}
use Rattle.statements_search.specs.declared.from_declarators.Searched.{Searched}
use Rattle.statements_search.specs.declared.in_statement.InStatement.{InStatement}
use Rattle.statements_search.specs.Kept.{most_in_use}
use Rattle.statements_progress.specs.Listed.{names_from}
use Rattle.statements_search.specs.FromDeclarators.{CanSearch, SearchesFrom}
use Rattle.statements_search.specs.InStatement.{CanSearchStatements, SearchesStatements}
use Rattle.statements.specs.Added.{Adds}
use Rattle.statements.specs.State.{most_nodes, most_looks, Long, State, holding, following, declarator_tables}
use Rattle.statements_progress.specs.Loaded.{HasTree, Loaded}
use Rattle.statements.specs.Next.{CanTakeNext, SearchedFromStatements}
use Rattle.statements.specs.Declarators.{record_for, CanTakeFirst, TakenFirst, later_tree, CanTakeLaterTree, TakenLaterTree, later_declarator, later_declarators, CanTakeLater, TakenLater, CanTakeAll, TakenAll}
use Rattle.statements.proofs.Adding.{adds_none, adds_as, adds_then}
use Rattle.statements.proofs.Taken.{next_loaded, next-searched, next-folded, next_added, later-folded, later-left, record_is, given-tree, no_tree, push_given, push_bare, push_room}
use Rattle.statements.proofs.Loads.{has_tree, loaded_state}
use Rattle.statements.proofs.Searches.{searched_past, can_search-statements, can_search}
use Rattle.statements.proofs.Definitions.{later-given, later-bare, first-given, first-bare}
use Rattle.statements_search.specs.KeptStatements.{tables}

-- What a search has folded and looked at is no more than can be counted and listed.
pub record Fits (h : Header) (q : Progress) (left folds looks : ℕ) : Type 0 where
  pub taken : q.declarators_kept ≡ left + folds
  pub folded : q.folds + folds ≤ h.declarators
  pub looked : q.looks + looks ≤ most_looks * most_in_use

-- The next tree, for some state.
module _ (file : List ℕ) (h : Header) (nodes records starts statements : List ℕ) (p : Progress) where
  pub next-has_tree : CanTakeNext file h (tables nodes records starts statements) p → 16 * most_nodes h ≤ length nodes → HasTree file h nodes p
  next-has_tree (ks, t, ts, coming, left, rest, before, s) l = has_tree s l

  pub next-can_search : CanTakeNext file h (tables nodes records starts statements) p → (nodes₁ : List ℕ) (q : Progress) → Loaded file h nodes nodes₁ p q → length nodes₁ ≡ length nodes → (folded : List ℕ) → Long h (tables nodes records starts statements) folded
      → CanSearchStatements (tables nodes₁ records starts statements) q.statements_kept q.declarators_kept q.tree.0 q.nodes_used × (4 * q.declarators_kept ≤ length records) × (q.declarators_kept ≤ length starts) × (4 * q.statements_kept ≤ length statements)
  next-can_search (ks, t, ts, coming, left, rest, before, s) nodes₁ q l e folded (a, b, c, d, f) =
      let s' = next_loaded s l in
      let m = s'.room in
      (can_search-statements s' (omega arith), omega (arith, m.declared), omega (arith, m.declared), omega (arith, m.stated))

  pub next-declared : CanTakeNext file h (tables nodes records starts statements) p → (nodes₁ : List ℕ) (q : Progress) → Loaded file h nodes nodes₁ p q → q.declarators_kept ≤ h.declarators
  next-declared (ks, t, ts, coming, left, rest, before, s) nodes₁ q l = omega (arith, (next_loaded s l).room.declared)

  pub next_fits : CanTakeNext file h (tables nodes records starts statements) p → (ctx : Context) (nodes₁ : List ℕ) (q : Progress) → Loaded file h nodes nodes₁ p q
      → (nodes₂ statements' : List ℕ) (r : InStatement) → SearchesStatements ctx (tables nodes₁ records starts statements) (tables nodes₂ records starts statements') q.statements_kept q.declarators_kept q.tree.0 q.nodes_used r
      → Fits h q r.declarators_kept r.folds r.looks
  next_fits (ks, t, ts, coming, left, rest, before, s) ctx nodes₁ q l nodes₂ statements' r e =
      let (rest', before', s') = next-searched s l ctx e in
      let m = s'.room in
      record { taken = next-folded s l ctx e; folded = omega (arith, m.declared); looked = omega (arith, m.looked, m.few) }

  pub next-taken : (ctx : Context) (nodes₁ : List ℕ) (q : Progress) → Loaded file h nodes nodes₁ p q
      → (nodes₂ statements' : List ℕ) (r : InStatement) → SearchesStatements ctx (tables nodes₁ records starts statements) (tables nodes₂ records starts statements') q.statements_kept q.declarators_kept q.tree.0 q.nodes_used r
      → (folded folded' : List ℕ) → Overwrites folded folded' q.folds (names_from records r.declarators_kept (q.declarators_kept - r.declarators_kept))
      → SearchedFromStatements ctx file h (tables nodes records starts statements) (tables nodes₂ records starts statements') folded folded' p (searched_past q r.tree r.nodes_used r.declarators_kept r.statements_kept r.folds r.looks)
  next-taken ctx nodes₁ q l nodes₂ statements' r e folded folded' o ks t ts coming left rest before s =
      let (rest', before', s') = next-searched s l ctx e in
      (rest', before', s', next_added s l ctx e o)

-- the same behind declarators
module _ (file : List ℕ) (h : Header) (nodes records starts : List ℕ) (low : ℕ) (p : Progress) where
  pub later-has_tree : CanTakeLaterTree file h (declarator_tables nodes records starts) low p → 16 * most_nodes h ≤ length nodes → HasTree file h nodes p
  later-has_tree (statements, ks, done, t, ts, coming, left, rest, before, s) l = has_tree s l

  pub later-can_search : CanTakeLaterTree file h (declarator_tables nodes records starts) low p → (nodes₁ : List ℕ) (q : Progress) → Loaded file h nodes nodes₁ p q → length nodes₁ ≡ length nodes
      → 16 * most_nodes h ≤ length nodes → 4 * h.declarators ≤ length records → h.declarators ≤ length starts
      → CanSearch nodes₁ records starts low q.declarators_kept q.tree.0 q.nodes_used × (4 * q.declarators_kept ≤ length records) × (q.declarators_kept ≤ length starts)
  later-can_search (statements, ks, done, t, ts, coming, left, rest, before, s) nodes₁ q l e a b c =
      let s' = loaded_state s l in
      let m = s'.room in
      (can_search s' (omega arith), omega (arith, m.declared), omega (arith, m.declared))

  pub later-declared : CanTakeLaterTree file h (declarator_tables nodes records starts) low p → (nodes₁ : List ℕ) (q : Progress) → Loaded file h nodes nodes₁ p q → q.declarators_kept ≤ h.declarators
  later-declared (statements, ks, done, t, ts, coming, left, rest, before, s) nodes₁ q l = omega (arith, (loaded_state s l).room.declared)

  pub later-fits : CanTakeLaterTree file h (declarator_tables nodes records starts) low p → (ctx : Context) (nodes₁ : List ℕ) (q : Progress) → Loaded file h nodes nodes₁ p q
      → (nodes₂ : List ℕ) (r : Searched) → SearchesFrom ctx false nodes₁ nodes₂ records starts low q.declarators_kept q.tree.0 q.nodes_used r
      → Fits h q r.declarators_kept r.folds r.looks
  later-fits (statements, ks, done, t, ts, coming, left, rest, before, s) ctx nodes₁ q l nodes₂ r e =
      let (rest', s') = later-left s l ctx [] Var e in
      let m = s'.room in
      record { taken = later-folded s l ctx [] Var e; folded = omega (arith, m.declared); looked = omega (arith, m.looked, m.few) }

module _ (ctx : Context) (file : List ℕ) (h : Header) (x : DeclaratorRecord) (p : Progress) (ex : x ≡ declarator_at file (declarators_start h + 4 * p.declarators_read)) where
  -- A later declarator with an initializer: its tree can be taken, then it can be pushed.
  module _ (nodes records starts : List ℕ) (low : ℕ) (g : x.present ≡ 1) where
    pub can_take_tree : CanTakeLater file h (declarator_tables nodes records starts) low p → CanTakeLaterTree file h (declarator_tables nodes records starts) low p
    can_take_tree (statements, ks, done, d, ts, coming, left, rest, before, s) =
        let (t, e, s') = given-tree d ts s x ex g in
        (statements, ks, done, t, ts, record_for d ∷ coming, left, rest, before, s')

    module _ (searched : Bool) (nodes₁ records₁ starts₁ folded folded' : List ℕ) (q : Progress) (l : TakenLaterTree ctx searched file h (declarator_tables nodes records starts) (declarator_tables nodes₁ records₁ starts₁) folded folded' low p q) where
      pub can_push_later : CanTakeLater file h (declarator_tables nodes records starts) low p → (q.declarators_kept + 1 ≤ h.declarators) × (q.declarators_read < 65536)
      can_push_later (statements, ks, done, d, ts, coming, left, rest, before, s) =
          let (t, e, s') = given-tree d ts s x ex g in
          let (rest', before', s'', f) = l statements ks done t ts (record_for d ∷ coming) left rest before s' [] Var in
          push_room s''

      pub taken-given : (records' starts' : List ℕ) (r : Progress) → DeclaratorPushed records₁ records' starts₁ starts' q.declarators_kept q.tree.0 x → r ≡ declarator_past q
          → TakenLater ctx searched file h (declarator_tables nodes records starts) (declarator_tables nodes₁ records' starts') folded folded' low p r
      taken-given records' starts' r w er statements ks done d ts coming left rest before s above kind =
          let (t, e, s') = given-tree d ts s x ex g in
          let (rest', before', s'', f) = l statements ks done t ts (record_for d ∷ coming) left rest before s' above kind in
          let a = push_given d t (later_tree ctx above kind searched done t).result.target e s'' x (record_is d ts s x ex) w in
          let (u, v) = later-given ctx above kind searched done d t e in
          (rest', before', rw (er, u) a, adds_as (later_declarator ctx above kind searched done d) (ap (λ (x : Progress). x.folds) er) (ap (λ (x : Progress). x.looks) er) v.traces v.looks f)

  -- without one
  pub taken-bare : (nodes records records' starts starts' folded : List ℕ) (low : ℕ) (searched : Bool) (r : Progress) → (x.present ≡ 1 → ⊥) → DeclaratorPushed records records' starts starts' p.declarators_kept p.tree.0 x → r ≡ declarator_past p
      → TakenLater ctx searched file h (declarator_tables nodes records starts) (declarator_tables nodes records' starts') folded folded low p r
  taken-bare nodes records records' starts starts' folded low searched r g w er statements ks done d ts coming left rest before s above kind =
      let (e, s') = no_tree d ts s x ex g in
      let (u, v) = later-bare ctx above kind searched done d e in
      let a = push_bare d s' x (record_is d ts s x ex) w in
      (rest, before, rw (er, u) a, adds_none (later_declarator ctx above kind searched done d) (ap (λ (x : Progress). x.folds) er) (ap (λ (x : Progress). x.looks) er) v.traces v.looks)

  -- The first declarator of a declaration.
  module _ (nodes records starts statements : List ℕ) (g : x.present ≡ 1) where
    pub can_take_next : CanTakeFirst file h (tables nodes records starts statements) p → CanTakeNext file h (tables nodes records starts statements) p
    can_take_next (ks, d, ts, coming, left, rest, before, s) =
        let (t, e, s') = given-tree d ts s x ex g in
        (ks, t, ts, record_for d ∷ coming, left, rest, before, s')

    module _ (nodes₁ records₁ starts₁ statements₁ folded folded' : List ℕ) (q : Progress) (l : SearchedFromStatements ctx file h (tables nodes records starts statements) (tables nodes₁ records₁ starts₁ statements₁) folded folded' p q) where
      pub can_push_first : CanTakeFirst file h (tables nodes records starts statements) p → (q.declarators_kept + 1 ≤ h.declarators) × (q.declarators_read < 65536)
      can_push_first (ks, d, ts, coming, left, rest, before, s) =
          let (t, e, s') = given-tree d ts s x ex g in
          let (rest', before', s'', f) = l ks t ts (record_for d ∷ coming) left rest before s' in
          push_room s''

      pub first_taken : (records' starts' : List ℕ) (r : Progress) → DeclaratorPushed records₁ records' starts₁ starts' q.declarators_kept q.tree.0 x → r ≡ declarator_past q
          → TakenFirst ctx file h (tables nodes records starts statements) (tables nodes₁ records' starts' statements₁) folded folded' p r
      first_taken records' starts' r w er ks d ts coming left rest before s =
          let (t, e, s') = given-tree d ts s x ex g in
          let (rest', before', s'', f) = l ks t ts (record_for d ∷ coming) left rest before s' in
          let a = push_given d t (substitute_in_statement ctx ks t).result.target e s'' x (record_is d ts s x ex) w in
          let (u, v, m) = first-given ctx ks d t e in
          let low-is : q.declarators_kept + 1 - 1 ≡ q.declarators_kept = omega arith in
          (rest', before', rw (er, u, v, low-is) a, adds_as (in_first_declarator ctx ks (d ∷ [])) (ap (λ (x : Progress). x.folds) er) (ap (λ (x : Progress). x.looks) er) m.traces m.looks f)

  pub first-taken_bare : (nodes records records' starts starts' statements folded : List ℕ) (r : Progress) → (x.present ≡ 1 → ⊥) → DeclaratorPushed records records' starts starts' p.declarators_kept p.tree.0 x → r ≡ declarator_past p
      → TakenFirst ctx file h (tables nodes records starts statements) (tables nodes records' starts' statements) folded folded p r
  first-taken_bare nodes records records' starts starts' statements folded r g w er ks d ts coming left rest before s =
      let (e, s') = no_tree d ts s x ex g in
      let (u, v, m) = first-bare ctx ks d e in
      let a = push_bare d s' x (record_is d ts s x ex) w in
      let low-is : p.declarators_kept + 1 - 1 ≡ p.declarators_kept = omega arith in
      (rest, before, rw (er, u, v, low-is) a, adds_none (in_first_declarator ctx ks (d ∷ [])) (ap (λ (x : Progress). x.folds) er) (ap (λ (x : Progress). x.looks) er) m.traces m.looks)

-- The later declarators, one after the other: what is left of them, from which the same comes.
module _ (ctx : Context) (searched : Bool) (file : List ℕ) (h : Header) (low : ℕ) where
  abbrev later : List Statement → DeclarationKind → List Declarator → List Declarator → Traced (List Declarator)
  later above kind done ds = later_declarators ctx above kind searched done ds

  pub record Going (nodes records starts statements folded₀ folded : List ℕ) (p q : Progress) (ks : List Kept) (done ds : List Declarator) (ts : Trees) (coming : List DeclaratorRecord) (left : ℕ) (above : List Statement) (kind : DeclarationKind) (number : ℕ) (done' ds' : List Declarator) (rest' : List ℕ) (before' : List NodeRecord) : Type 0 where
    pub state : State file h (tables nodes records starts statements) q (holding low ks done' bare rest') (following (initializer_trees ds' ts) (declarator_records ds' ++ coming) left before')
    pub many : length ds' ≡ number
    pub result-is : (later above kind done ds).result ≡ (later above kind done' ds').result
    pub adds : {folded' : List ℕ} {r : Progress} → Adds folded folded' q r (later above kind done' ds') → Adds folded₀ folded' p r (later above kind done ds)

  abbrev pub SomeGoing : List ℕ → List ℕ → List ℕ → List ℕ → ℕ → Progress → List ℕ → List ℕ → List ℕ → List ℕ → ℕ → Progress → Type 0
  SomeGoing nodes₀ records₀ starts₀ folded₀ number₀ p nodes records starts folded number q =
      (statements : List ℕ) (ks : List Kept) (done ds : List Declarator) (ts : Trees) (coming : List DeclaratorRecord) (left : ℕ) (rest : List ℕ) (before : List NodeRecord)
      → State file h (tables nodes₀ records₀ starts₀ statements) p (holding low ks done bare rest) (following (initializer_trees ds ts) (declarator_records ds ++ coming) left before)
      → length ds ≡ number₀ → (above : List Statement) (kind : DeclarationKind)
      → (done' : List Declarator) × (ds' : List Declarator) × (rest' : List ℕ) × (before' : List NodeRecord)
      × Going nodes records starts statements folded₀ folded p q ks done ds ts coming left above kind number done' ds' rest' before'

  pub going-begins : {nodes records starts folded : List ℕ} (number₀ number : ℕ) → number ≡ number₀ → (p : Progress) → SomeGoing nodes records starts folded number₀ p nodes records starts folded number p
  going-begins number₀ number en p statements ks done ds ts coming left rest before s e above kind =
      (done, ds, rest, before, record { state = s; many = omega (arith, e, en); result-is = refl; adds = λ a. a })

  module _ {nodes₀ records₀ starts₀ folded₀ : List ℕ} {number₀ : ℕ} {p : Progress} {nodes records starts folded : List ℕ} {number : ℕ} {q : Progress}
      (i : SomeGoing nodes₀ records₀ starts₀ folded₀ number₀ p nodes records starts folded number q) where
    -- there is one more
    next-state : {statements : List ℕ} {ks : List Kept} {done ds : List Declarator} {ts : Trees} {coming : List DeclaratorRecord} {left : ℕ} {above : List Statement} {kind : DeclarationKind} {done' : List Declarator} (ds' : List Declarator) {rest' : List ℕ} {before' : List NodeRecord}
        → 0 < number → Going nodes records starts statements folded₀ folded p q ks done ds ts coming left above kind number done' ds' rest' before'
        → CanTakeLater file h (declarator_tables nodes records starts) low q
    unfolding initializer_trees declarator_records
    next-state [] l g = absurd (omega (arith, g.many))
    next-state {statements} {ks = ks} {ts = ts} {coming} {left} {done' = done'} (d ∷ ds') {rest'} {before'} l g = (statements, ks, done', d, initializer_trees ds' ts, declarator_records ds' ++ coming, left, rest', before', g.state)

    pub can_go : 0 < number → CanTakeAll file h (declarator_tables nodes₀ records₀ starts₀) low number₀ p → CanTakeLater file h (declarator_tables nodes records starts) low q
    can_go l (statements, ks, done, ds, ts, coming, left, rest, before, s, e) =
        let (done', ds', rest', before', g) = i statements ks done ds ts coming left rest before s e [] Var in
        next-state ds' l g

    module _ {number' : ℕ} (en : number ≡ number' + 1) {nodes' records' starts' folded' : List ℕ} {r : Progress} (w : TakenLater ctx searched file h (declarator_tables nodes records starts) (declarator_tables nodes' records' starts') folded folded' low q r) where
      turn : {statements : List ℕ} {ks : List Kept} {done ds : List Declarator} {ts : Trees} {coming : List DeclaratorRecord} {left : ℕ} {above : List Statement} {kind : DeclarationKind} {done' : List Declarator} (ds' : List Declarator) {rest' : List ℕ} {before' : List NodeRecord}
          → Going nodes records starts statements folded₀ folded p q ks done ds ts coming left above kind number done' ds' rest' before'
          → (done'' : List Declarator) × (ds'' : List Declarator) × (rest'' : List ℕ) × (before'' : List NodeRecord)
          × Going nodes' records' starts' statements folded₀ folded' p r ks done ds ts coming left above kind number' done'' ds'' rest'' before''
      unfolding initializer_trees declarator_records later_declarators ◌>>=◌
      turn [] g = absurd (omega (arith, g.many))
      turn {statements} {ks = ks} {ts = ts} {coming} {left} {above} {kind} {done'} (d ∷ ds') {rest'} {before'} g =
          let v = later_declarator ctx above kind searched done' d in
          let (rest'', before'', s, f) = w statements ks done' d (initializer_trees ds' ts) (declarator_records ds' ++ coming) left rest' before' g.state above kind in (
            v.result,
            ds',
            rest'',
            before'',
            record {
              state = s;
              many = omega (arith, g.many);
              result-is = g.result-is;
              adds = λ a. g.adds (adds_then (later above kind done' (d ∷ ds')) refl refl f a);
            },
          )

      pub going_on : SomeGoing nodes₀ records₀ starts₀ folded₀ number₀ p nodes' records' starts' folded' number' r
      going_on statements ks done ds ts coming left rest before s e above kind =
          let (done', ds', rest', before', g) = i statements ks done ds ts coming left rest before s e above kind in
          turn ds' g

    finished : {statements : List ℕ} {ks : List Kept} {done ds : List Declarator} {ts : Trees} {coming : List DeclaratorRecord} {left : ℕ} {above : List Statement} {kind : DeclarationKind} {done' : List Declarator} (ds' : List Declarator) {rest' : List ℕ} {before' : List NodeRecord}
        → number ≤ 0 → Going nodes records starts statements folded₀ folded p q ks done ds ts coming left above kind number done' ds' rest' before'
        → State file h (tables nodes records starts statements) q (holding low ks (later above kind done ds).result bare rest') (following ts coming left before')
        × Adds folded₀ folded p q (later above kind done ds)
    unfolding initializer_trees declarator_records later_declarators pure
    finished {done' = done'} [] l g = (rw g.result-is g.state, g.adds (adds_none (pure done') refl refl refl refl))
    finished (d ∷ ds') l g = absurd (omega (arith, g.many))

    pub going-ends : number ≤ 0 → TakenAll ctx searched file h (declarator_tables nodes₀ records₀ starts₀) (declarator_tables nodes records starts) folded₀ folded low number₀ p q
    going-ends l statements ks done ds ts coming left rest before s e above kind =
        let (done', ds', rest', before', g) = i statements ks done ds ts coming left rest before s e above kind in
        let (a, b) = finished ds' l g in
        (rest', before', a, b)
