-- A tree behind what is kept, searched from the statements or from the declarators. Assumes nothing.
use mathlib.Core.Bool.{false}
use mathlib.Core.Path.{◌≡◌, refl, sym, ap, subst, ◌∙◌}
use mathlib.Core.List.{List, []}
use Prim.Native.Nat.{ℕ, ◌+◌, ◌-◌, ◌*◌, ◌≤◌}
use native.Mathlib.Omega.{arith}
use lib.ListN.{length}
use Rattle.records.specs.Tree.{Tree, Trees, sizes}
use Rattle.records.specs.File.{DeclarationKind, given, Declarator, Statement}
use Rattle.records.specs.declared.layout.Header.{Header}
use Rattle.records.specs.declared.layout.NodeId.{NodeId}
use Rattle.records.specs.declared.layout.NodeRecord.{NodeRecord}
use Rattle.records.specs.declared.layout.DeclaratorRecord.{DeclaratorRecord}
use Rattle.records.proofs.Tests.{both}
use Rattle.records_table.specs.Laid.{laid}
use Rattle.records_table.specs.Overwrites.{Overwrites}
use Rattle.walk_arms.specs.Search.{bare_names}
use Rattle.walk_rules.specs.Context.{Context}
use Rattle.statements_rules.specs.Trace.{Traced}
use Rattle.statements_rules.specs.Declarators.{substitute_from_declarators}
use Rattle.statements_rules.specs.Statements.{Kept, substitute_in_statement}
use Rattle.statements_rules.proofs.Totals.{from-declarators, in_statement}
use Rattle.statements_search.specs.declared.from_declarators.Searched.{Searched}
use Rattle.statements_search.specs.declared.in_statement.InStatement.{InStatement}
use Rattle.statements_search.specs.Kept.{laid_initializer, node_count, bare_initializer, laid_declarators, nodes_in, bare_declarators, Held, folded_names}
use Rattle.statements_progress.specs.Listed.{names_from}
use Rattle.statements_search.specs.KeptStatements.{laid_kept, nodes_kept, KeepsBefore, tables}
use Rattle.statements_search.specs.FromDeclarators.{StandingDeclarators, CanSearch, SearchesFrom}
use Rattle.statements_search.specs.InStatement.{CanSearchStatements, SearchesStatements}
use Rattle.statements_search.proofs.KeptRecords.{kept_split, kept-length, kept-total, declarators-total}
use Rattle.statements_search.proofs.Going.{nodes_in_lem}
use Rattle.statements_search.proofs.Looks.{declarators-looks, in_statement-looks}
use Rattle.statements_search.proofs.InStatements.{left_have, held-shorter}
use Rattle.statements_progress.specs.declared.progress.Progress.{Progress}
use Rattle.statements.specs.Added.{Adds}
use Rattle.statements.specs.State.{most_nodes, most_looks, State, holding, following}

-- how far it is after a search of the last tree
abbrev pub searched_past : Progress → NodeId → ℕ → ℕ → ℕ → ℕ → ℕ → Progress
searched_past p tree used many count folds looks = record {
  tree = tree;
  nodes_used = used;
  declarators_kept = many;
  statements_kept = count;
  folds = p.folds + folds;
  looks = p.looks + looks;
  nodes_read = p.nodes_read;
  declarators_read = p.declarators_read;
}

-- room for the looks of one search, before the trees that are still to come
abbrev pub LooksLeft : Header → Progress → Trees → Type 0
LooksLeft h p ts = p.looks + most_looks * sizes ts + most_looks ≤ most_looks * h.nodes

-- The names that a search has folded, listed behind those before.
names-listed : {A : Type 0} {folded folded' : List ℕ} (records : List ℕ) {p r : Progress} (left folds looks : ℕ) (w : Traced A) → Overwrites folded folded' p.folds (names_from records left (p.declarators_kept - left))
    → p.declarators_kept ≡ left + folds → folds ≡ length w.trace → folded_names w.trace ≡ names_from records left folds → looks ≡ w.looks
    → r.folds ≡ p.folds + folds → r.looks ≡ p.looks + looks → Adds folded folded' p r w
names-listed {folded = folded} {folded'} records {p} left folds looks w o n f e l rf rl =
    let m : p.declarators_kept - left ≡ folds = omega (arith, n) in
    record {
      folds = omega (arith, rf, f);
      names = subst (Overwrites folded folded' p.folds) (ap (names_from records left) m ∙ sym e) o;
      looks = omega (arith, rl, l);
    }

-- The search from the statements.
module _ {file : List ℕ} {h : Header} {nodes records starts statements : List ℕ} {p : Progress} {ks : List Kept} {t : Tree} {ts : Trees} {coming : List DeclaratorRecord} {left : ℕ} {rest : List ℕ} {before : List NodeRecord}
    (s : State file h (tables nodes records starts statements) p (holding p.declarators_kept ks [] (given t) rest) (following ts coming left before)) where
  keeps : KeepsBefore (tables nodes records starts statements) p.statements_kept p.declarators_kept p.tree.0 p.nodes_used ks t rest
  unfolding laid_declarators laid_initializer nodes_in node_count bare_initializer
  keeps =
      let o = s.holds in
      record {
        kept = record {
          is = o.is;
          counted = record { statements = o.stated; declarators = o.declared; nodes = omega (arith, o.starting) };
          held = o.kept;
          names = o.names;
        };
        ends = o.ends;
        target-names = o.tree-names;
      }

  pub can_search-statements : 16 * most_nodes h ≤ length nodes → CanSearchStatements (tables nodes records starts statements) p.statements_kept p.declarators_kept p.tree.0 p.nodes_used
  can_search-statements l = (ks, t, rest, keeps, omega (arith, s.room.weight), omega (arith, s.room.weight, s.room.few))

  module _ (ctx : Context) {nodes' statements' : List ℕ} {r : InStatement} (e : SearchesStatements ctx (tables nodes records starts statements) (tables nodes' records starts statements') p.statements_kept p.declarators_kept p.tree.0 p.nodes_used r) where
    abbrev past : Progress
    past = searched_past p r.tree r.nodes_used r.declarators_kept r.statements_kept r.folds r.looks

    -- each fold took a declarator
    pub folded-statements : p.declarators_kept ≡ r.declarators_kept + r.folds
    folded-statements =
        let (rest', f) = e ks t rest keeps in
        omega (arith, (in_statement ctx ks t).fewer, f.folded, f.kept.kept.counted.declarators, s.holds.declared, declarators-total ks, declarators-total (substitute_in_statement ctx ks t).result.left)

    -- the tree stands behind the statements that are left
    pub searched-statements : LooksLeft h p ts → (rest' : List ℕ)
        × State file h (tables nodes' records starts statements') past (holding r.declarators_kept (substitute_in_statement ctx ks t).result.left [] (given (substitute_in_statement ctx ks t).result.target) rest') (following ts coming left before)
    unfolding laid_declarators laid_initializer nodes_in node_count bare_declarators bare_initializer Held
    searched-statements looks =
        let w = (substitute_in_statement ctx ks t).result in
        let (rest', f) = e ks t rest keeps in
        let g = f.kept.kept in
        let n = g.counted in
        let o = s.holds in
        let c = s.comes in
        let m = s.room in
        let l = in_statement ctx ks t in
        let a = kept-total ks in
        let a' = kept-total w.left in
        let b = declarators-total ks in
        let b' = declarators-total w.left in
        let most = in_statement-looks ctx ks t (omega (arith, a, m.weight, m.few, o.ends, o.starting, o.declared)) in (
          rest',
          record {
            holds = record {
              is = g.is;
              stated = n.statements;
              declared = n.declarators;
              counted = omega arith;
              starting = omega (arith, n.nodes);
              ends = f.kept.ends;
              kept = g.held;
              held = tt;
              names = g.names;
              own-names = refl;
              tree-names = f.kept.target-names;
            };
            comes = record { trees = c.trees; records = c.records; few = c.few; names = c.names };
            room = record {
              weight = omega (arith, m.weight, l.lighter, n.declarators, n.nodes, f.kept.ends, o.starting, o.ends, o.declared);
              declared = omega (arith, m.declared, l.fewer, n.declarators, f.folded, o.declared);
              stated = omega (arith, m.stated, l.shorter, n.statements, o.stated);
              looked = omega (arith, looks, f.looks, most, b, m.weight, m.few, o.declared);
              few = m.few;
            };
          },
        )

    pub added_statements : {folded folded' : List ℕ} → Overwrites folded folded' p.folds (names_from records r.declarators_kept (p.declarators_kept - r.declarators_kept)) → Adds folded folded' p past (substitute_in_statement ctx ks t)
    added_statements o =
        let (rest', f) = e ks t rest keeps in
        names-listed records r.declarators_kept r.folds r.looks (substitute_in_statement ctx ks t) o folded-statements f.folded f.listed f.looks refl refl

-- The search from the declarators.
module _ {file : List ℕ} {h : Header} {nodes records starts statements : List ℕ} {low : ℕ} {p : Progress} {ks : List Kept} {ds : List Declarator} {t : Tree} {ts : Trees} {coming : List DeclaratorRecord} {left : ℕ} {rest : List ℕ} {before : List NodeRecord}
    (s : State file h (tables nodes records starts statements) p (holding low ks ds (given t) rest) (following ts coming left before)) where
  standing : StandingDeclarators nodes records starts low p.declarators_kept (nodes_kept ks) p.tree.0 p.nodes_used ds t (laid_kept ks []) rest
  unfolding laid_initializer node_count bare_initializer
  standing =
      let o = s.holds in
      record {
        is = o.is ∙ kept_split ks (laid_declarators ds (laid t rest));
        begins = omega (arith, kept-length ks []);
        counted = o.counted;
        held = o.held;
        starting = o.starting;
        ends = o.ends;
        names = rw (o.own-names, o.tree-names);
      }

  pub can_search : 16 * most_nodes h ≤ length nodes → CanSearch nodes records starts low p.declarators_kept p.tree.0 p.nodes_used
  can_search l = (nodes_kept ks, ds, t, laid_kept ks [], rest, standing, omega (arith, s.room.weight, s.holds.counted), omega (arith, s.room.weight, s.room.few, s.holds.counted))

  module _ (ctx : Context) {nodes' : List ℕ} {r : Searched} (e : SearchesFrom ctx false nodes nodes' records starts low p.declarators_kept p.tree.0 p.nodes_used r) (above : List Statement) (kind : DeclarationKind) where
    abbrev next : Progress
    next = searched_past p r.tree r.nodes_used r.declarators_kept p.statements_kept r.folds r.looks

    -- each fold took a declarator
    pub folded-declarators : p.declarators_kept ≡ r.declarators_kept + r.folds
    folded-declarators =
        let (rest', f) = e (nodes_kept ks) ds t (laid_kept ks []) rest standing above kind in
        omega (arith, (from-declarators ctx above kind false ds t).fewer, f.folded, f.many, s.holds.counted)

    -- the tree stands behind the declarators that are left
    pub searched-declarators : LooksLeft h p ts → (rest' : List ℕ)
        × State file h (tables nodes' records starts statements) next (holding low ks (substitute_from_declarators ctx above kind false ds t).result.left (given (substitute_from_declarators ctx above kind false ds t).result.target) rest') (following ts coming left before)
    unfolding laid_initializer node_count bare_initializer
    searched-declarators looks =
        let w = (substitute_from_declarators ctx above kind false ds t).result in
        let (rest', f) = e (nodes_kept ks) ds t (laid_kept ks []) rest standing above kind in
        let o = s.holds in
        let c = s.comes in
        let m = s.room in
        let l = from-declarators ctx above kind false ds t in
        let a = nodes_in_lem ds in
        let a' = nodes_in_lem w.left in
        let most = declarators-looks ctx above kind false ds t (omega (arith, a, m.weight, m.few, o.ends, o.starting, o.counted)) in
        let (x, y) = both (bare_declarators w.left) (bare_names w.target) f.names in (
          rest',
          record {
            holds = record {
              is = f.is ∙ sym (kept_split ks (laid_declarators w.left (laid w.target rest')));
              stated = o.stated;
              declared = o.declared;
              counted = f.many;
              starting = f.start;
              ends = f.used;
              kept = o.kept;
              held = left_have ctx above kind (Held records starts low (nodes_kept ks)) (held-shorter records starts low (nodes_kept ks)) false ds t o.held;
              names = o.names;
              own-names = x;
              tree-names = y;
            };
            comes = record { trees = c.trees; records = c.records; few = c.few; names = c.names };
            room = record {
              weight = omega (arith, m.weight, l.lighter, f.many, f.start, f.used, o.starting, o.ends, o.counted);
              declared = omega (arith, m.declared, l.fewer, f.many, f.folded, o.counted);
              stated = m.stated;
              looked = omega (arith, looks, f.looks, most, m.weight, m.few, o.counted);
              few = m.few;
            };
          },
        )

    pub added_declarators : {folded folded' : List ℕ} → Overwrites folded folded' p.folds (names_from records r.declarators_kept (p.declarators_kept - r.declarators_kept)) → Adds folded folded' p next (substitute_from_declarators ctx above kind false ds t)
    added_declarators o =
        let (rest', f) = e (nodes_kept ks) ds t (laid_kept ks []) rest standing above kind in
        names-listed records r.declarators_kept r.folds r.looks (substitute_from_declarators ctx above kind false ds t) o folded-declarators f.folded f.listed f.looks refl refl
