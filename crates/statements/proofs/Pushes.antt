-- A declarator or a statement pushed behind those that are kept. Assumes nothing.
use mathlib.Core.Bool.{true}
use mathlib.Core.Path.{◌≡◌, refl, sym, ap, subst, ◌∙◌}
use mathlib.Core.List.{List, [], ◌∷◌, reverse, reverse-reverse}
use Prim.Native.Nat.{ℕ, suc, ◌+◌, ◌*◌, ◌≤◌}
use native.Mathlib.Omega.{arith}
use lib.ListN.{length, get_or, length-reverse}
use Rattle.records.specs.Record.{declarator_at, statement_at}
use Rattle.records.specs.Records.{records_from}
use Rattle.records.specs.Tree.{Tree, Trees}
use Rattle.records.specs.File.{DeclarationKind, Initializer, bare, given, Declarator, Statement, declaration, expression, other, declarators_in, statement_record}
use Rattle.records.specs.declared.layout.Header.{Header}
use Rattle.records.specs.declared.layout.NodeRecord.{NodeRecord}
use Rattle.records.specs.declared.layout.DeclaratorRecord.{DeclaratorRecord}
use Rattle.records.specs.declared.layout.StatementRecord.{StatementRecord}
use Rattle.statements_rules.specs.Statements.{Kept}
use Rattle.statements_search.specs.Kept.{laid_initializer, node_count, bare_initializer, laid_declarators, nodes_in, bare_declarators, Held}
use Rattle.statements_search.specs.KeptStatements.{laid_statement, nodes_of_statement, bare_statement, laid_kept, nodes_kept, declarators_kept, bare_kept, HeldKept, tables}
use Rattle.statements_search.proofs.KeptRecords.{held_same}
use Rattle.statements_progress.specs.declared.progress.Progress.{Progress}
use Rattle.statements_progress.specs.Pushed.{DeclaratorPushed, StatementPushed, declarator_past, statement_past}
use Rattle.statements.specs.State.{Holds, StandingRecords, State, holding, following}
use Rattle.statements.specs.Declarators.{record_for}

-- The records before a declarator that is written stay as they are.
module _ {records records' starts starts' : List ℕ} {many start : ℕ} {x : DeclaratorRecord} (w : DeclaratorPushed records records' starts starts' many start x) where
  held-still : (low at : ℕ) (ds : List Declarator) → low + length ds ≤ many → Held records starts low at ds → Held records' starts' low at ds
  unfolding Held
  held-still low at [] l h = tt
  held-still low at (d ∷ ds) l h =
      (w.kept (low + length ds) (omega arith) ∙ h.0, w.starts-kept (low + length ds) (omega arith) ∙ h.1, held-still low at ds (omega arith) h.2)

  kept-still : (statements : List ℕ) (ks : List Kept) → declarators_kept ks ≤ many → HeldKept records starts statements ks → HeldKept records' starts' statements ks
  unfolding HeldKept declarators_kept
  kept-still statements [] l h = tt
  kept-still statements (k ∷ ks) l h = (
    h.0,
    held-still (declarators_kept ks) (nodes_kept ks) (reverse (declarators_in k.statement)) (omega (arith, length-reverse (declarators_in k.statement))) h.1,
    kept-still statements ks (omega arith) h.2,
  )

-- A declarator is pushed with the tree that stood behind the others, if it has one.
pushed-declarator : {nodes records records' starts starts' statements : List ℕ} {low : ℕ} {p : Progress} {ks : List Kept} {ds : List Declarator} {rest : List ℕ} {x : DeclaratorRecord} (d : Declarator)
    → Holds (tables nodes records starts statements) p (holding low ks ds d.initializer rest)
    → DeclaratorPushed records records' starts starts' p.declarators_kept p.tree.0 x → x ≡ record_for d
    → Holds (tables nodes records' starts' statements) (declarator_past p) (holding low ks (d ∷ ds) bare rest)
unfolding Held laid_declarators laid_initializer nodes_in node_count bare_declarators bare_initializer
pushed-declarator {records' = records'} {starts' = starts'} {statements} {low} {ks = ks} {ds} d h w e =
    let many = h.counted in
    record {
      is = h.is;
      stated = h.stated;
      declared = h.declared;
      counted = omega (arith, many);
      starting = omega (arith, h.ends, h.starting);
      ends = omega arith;
      kept = kept-still w statements ks (omega (arith, many, h.declared)) h.kept;
      held = (
        subst (λ (k : ℕ). declarator_at records' (4 * k) ≡ record_for d) many (w.last ∙ e),
        subst (λ (k : ℕ). get_or starts' k 0 ≡ nodes_kept ks + nodes_in ds) many (w.start_is ∙ h.starting),
        held-still w low (nodes_kept ks) ds (omega (arith, many)) h.held,
      );
      names = h.names;
      own-names = rw (h.tree-names, h.own-names);
      tree-names = refl;
    }

-- The first of some records, and those behind it.
module _ {A : Type 0} {readAt : List ℕ → ℕ → A} {file : List ℕ} {from number : ℕ} {x : A} {xs : List A} where
  pub first_record : StandingRecords readAt file from number (x ∷ xs) → readAt file (from + 4 * number) ≡ x
  unfolding records_from
  first_record h = let e = h.is in cc

  pub next-records : StandingRecords readAt file from number (x ∷ xs) → StandingRecords readAt file from (number + 1) xs
  unfolding records_from
  next-records h =
      let e = h.is in
      let f : records_from (readAt file) 4 (length xs) (from + 4 * number + 4) ≡ xs = cc in
      record { is = subst (λ (k : ℕ). records_from (readAt file) 4 (length xs) k ≡ xs) (omega arith) f; inside = omega (arith, h.inside) }

module _ {file : List ℕ} {h : Header} {nodes records starts statements : List ℕ} {low : ℕ} {p : Progress} {ks : List Kept} {ds : List Declarator} {ts : Trees} {coming : List DeclaratorRecord} {left : ℕ} {rest : List ℕ} {before : List NodeRecord} where
  -- the next declarator of the file is pushed
  pub declarator-state : {records' starts' : List ℕ} {x : DeclaratorRecord} (d : Declarator) → State file h (tables nodes records starts statements) p (holding low ks ds d.initializer rest) (following ts (x ∷ coming) left before)
      → DeclaratorPushed records records' starts starts' p.declarators_kept p.tree.0 x → x ≡ record_for d
      → State file h (tables nodes records' starts' statements) (declarator_past p) (holding low ks (d ∷ ds) bare rest) (following ts coming left before)
  declarator-state d s w e =
      let c = s.comes in
      let r = s.room in
      record {
        holds = pushed-declarator d s.holds w e;
        comes = record { trees = c.trees; records = next-records c.records; few = omega (arith, c.few); names = c.names };
        room = record { weight = omega (arith, r.weight); declared = omega (arith, r.declared); stated = r.stated; looked = r.looked; few = r.few };
      }

-- What stands behind the statements that are kept, as a statement.
pub record Becomes (s : Statement) (ds : List Declarator) (i : Initializer) : Type 0 where
  pub trees : (rest : List ℕ) → laid_statement s rest ≡ laid_declarators ds (laid_initializer i rest)
  pub nodes : nodes_of_statement s ≡ nodes_in ds + node_count i
  pub declared : reverse (declarators_in s) ≡ ds
  pub names : bare_declarators ds ≡ true → bare_initializer i ≡ true → bare_statement s ≡ true

pub becomes-expression : (t : Tree) → Becomes (expression t) [] (given t)
unfolding laid_statement laid_declarators laid_initializer nodes_of_statement nodes_in node_count declarators_in bare_statement bare_initializer
becomes-expression t = record { trees = λ rest. refl; nodes = omega arith; declared = refl; names = λ a b. b }

pub becomes-other : Becomes other [] bare
unfolding laid_statement laid_declarators laid_initializer nodes_of_statement nodes_in node_count declarators_in bare_statement bare_initializer
becomes-other = record { trees = λ rest. refl; nodes = refl; declared = refl; names = λ a b. refl }

pub becomes-declaration : (kind : DeclarationKind) (ds : List Declarator) → Becomes (declaration kind (reverse ds)) ds bare
unfolding laid_statement laid_initializer nodes_of_statement node_count declarators_in bare_statement bare_initializer
becomes-declaration kind ds =
    let e = reverse-reverse ds in
    record {
      trees = λ rest. ap (λ (l : List Declarator). laid_declarators l rest) e;
      nodes = ap nodes_in e ∙ omega arith;
      declared = e;
      names = λ a b. ap bare_declarators e ∙ a;
    }

pushed-statement : {nodes records starts statements statements' : List ℕ} {low : ℕ} {p : Progress} {ks : List Kept} {ds : List Declarator} {i : Initializer} {rest : List ℕ} {x : StatementRecord} (number : ℕ) (s : Statement)
    → Becomes s ds i → Holds (tables nodes records starts statements) p (holding low ks ds i rest)
    → StatementPushed statements statements' p.statements_kept x → x ≡ statement_record s
    → Holds (tables nodes records starts statements') (statement_past p) (holding p.declarators_kept (record { number = number; statement = s } ∷ ks) [] bare rest)
unfolding laid_kept laid_declarators laid_initializer nodes_kept nodes_in node_count declarators_kept bare_kept bare_declarators bare_initializer HeldKept Held
pushed-statement {records = records} {starts} {statements} {statements'} {low} {p} {ks} {ds} {i} {rest} number s b h w e =
    let many = h.counted in
    let length-is : length (declarators_in s) ≡ length ds = sym (length-reverse (declarators_in s)) ∙ ap length b.declared in
    record {
      is = h.is ∙ ap (laid_kept ks) (sym (b.trees rest));
      stated = omega (arith, h.stated);
      declared = omega (arith, many, h.declared, length-is);
      counted = omega arith;
      starting = omega (arith, h.ends, h.starting, b.nodes);
      ends = omega arith;
      kept = (
        subst (λ (k : ℕ). statement_at statements' (4 * k) ≡ statement_record s) h.stated (w.last ∙ e),
        subst (λ (k : ℕ). Held records starts k (nodes_kept ks) (reverse (declarators_in s))) h.declared (subst (λ (l : List Declarator). Held records starts low (nodes_kept ks) l) (sym b.declared) h.held),
        held_same records starts statements statements' ks (λ i l. w.kept i (omega (arith, l, h.stated))) h.kept,
      );
      held = tt;
      names = rw (b.names h.own-names h.tree-names, h.names);
      own-names = refl;
      tree-names = refl;
    }

module _ {file : List ℕ} {h : Header} {nodes records starts statements : List ℕ} {low : ℕ} {p : Progress} {ks : List Kept} {ds : List Declarator} {i : Initializer} {ts : Trees} {coming : List DeclaratorRecord} {left : ℕ} {rest : List ℕ} {before : List NodeRecord} where
  pub statement-state : {statements' : List ℕ} {x : StatementRecord} (number : ℕ) (s : Statement) → Becomes s ds i
      → State file h (tables nodes records starts statements) p (holding low ks ds i rest) (following ts coming (suc left) before)
      → StatementPushed statements statements' p.statements_kept x → x ≡ statement_record s
      → State file h (tables nodes records starts statements') (statement_past p) (holding p.declarators_kept (record { number = number; statement = s } ∷ ks) [] bare rest) (following ts coming left before)
  statement-state number s b a w e =
      let c = a.comes in
      let r = a.room in
      record {
        holds = pushed-statement number s b a.holds w e;
        comes = record { trees = c.trees; records = c.records; few = c.few; names = c.names };
        room = record { weight = r.weight; declared = r.declared; stated = omega (arith, r.stated); looked = r.looked; few = r.few };
      }
