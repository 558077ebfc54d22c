-- The next tree of the file, loaded behind what is kept. Assumes nothing.
use mathlib.Core.Path.{◌≡◌, refl, sym, ap, subst, ◌∙◌}
use mathlib.Core.List.{List, [], ◌++◌, append_assoc}
use Prim.Native.Nat.{ℕ, ◌+◌, ◌*◌, ◌≤◌}
use native.Mathlib.Omega.{arith}
use lib.ListN.{length, drop}
use Rattle.records.specs.Tree.{Tree, Trees, more, size, sizes, preorder, preorders}
use Rattle.records.specs.File.{bare, given, Declarator, nodes_start}
use Rattle.records.specs.declared.layout.Header.{Header}
use Rattle.records.specs.declared.layout.NodeRecord.{NodeRecord}
use Rattle.records.specs.declared.layout.DeclaratorRecord.{DeclaratorRecord}
use Rattle.records.proofs.Tests.{both}
use Rattle.records_table.specs.Laid.{laid}
use Rattle.walk_arms.specs.Search.{bare_names, all_bare_names}
use Rattle.statements_rules.specs.Statements.{Kept}
use Rattle.statements_search.specs.Kept.{laid_initializer, node_count, bare_initializer, laid_declarators, nodes_in}
use Rattle.statements_search.specs.KeptStatements.{laid_kept, nodes_kept, tables}
use Rattle.statements_search.proofs.KeptRecords.{kept_split, kept-length}
use Rattle.statements_search.proofs.Going.{declarators_split, declarators-length}
use Rattle.records_table.specs.Loads.{FileTree}
use Rattle.records_table.proofs.FileForest.{first, beyond}
use Rattle.statements_progress.specs.declared.progress.Progress.{Progress}
use Rattle.statements.specs.State.{most_nodes, Holds, State, holding, following}
use Rattle.statements_progress.specs.Loaded.{HasTree, tree_past, Loaded}

-- the bytes of what is kept, before others
abbrev kept_bytes : List Kept → List Declarator → List ℕ
kept_bytes ks ds = laid_kept ks (laid_declarators ds [])

whole_split : (ks : List Kept) (ds : List Declarator) (x : List ℕ) → laid_kept ks (laid_declarators ds x) ≡ kept_bytes ks ds ++ x
whole_split ks ds x =
    kept_split ks (laid_declarators ds x)
    ∙ ap (λ (l : List ℕ). laid_kept ks [] ++ l) (declarators_split ds x)
    ∙ sym (append_assoc (laid_kept ks []) (laid_declarators ds []) x)
    ∙ ap (λ (l : List ℕ). l ++ x) (sym (kept_split ks (laid_declarators ds [])))

whole_length : (ks : List Kept) (ds : List Declarator) → length (kept_bytes ks ds) ≡ 16 * (nodes_kept ks + nodes_in ds)
whole_length ks ds = omega (arith, kept-length ks (laid_declarators ds []), declarators-length ds [])

module _ {file : List ℕ} {h : Header} {nodes records starts statements : List ℕ} {low : ℕ} {p : Progress} {ks : List Kept} {ds : List Declarator} {t : Tree} {ts : Trees} {coming : List DeclaratorRecord} {left : ℕ} {rest : List ℕ} {before : List NodeRecord}
    (s : State file h (tables nodes records starts statements) p (holding low ks ds bare rest) (following (more t ts) coming left before)) where
  -- the tree that is next
  pub next-tree : FileTree file (nodes_start h) p.nodes_read t h.nodes before (preorders ts [])
  next-tree = first s.comes.trees

  pub has_tree : 16 * most_nodes h ≤ length nodes → HasTree file h nodes p
  unfolding sizes
  has_tree l = (t, h.nodes, before, preorders ts [], next-tree, omega (arith, s.room.weight))

  module _ {nodes' : List ℕ} {r : Progress} (l : Loaded file h nodes nodes' p r) where
    stood : nodes ≡ kept_bytes ks ds ++ rest
    unfolding laid_initializer
    stood = s.holds.is ∙ whole_split ks ds rest

    long : length (kept_bytes ks ds) ≡ 16 * p.nodes_used
    unfolding node_count
    long = whole_length ks ds ∙ omega (arith, s.holds.starting, s.holds.ends)

    pub progress_is : r ≡ tree_past p (size t)
    progress_is = (l t h.nodes before (preorders ts []) next-tree (kept_bytes ks ds) rest stood long).0

    holds-tree : Holds (tables nodes' records starts statements) (tree_past p (size t)) (holding low ks ds (given t) (drop (16 * size t) rest))
    unfolding laid_initializer node_count bare_initializer all_bare_names
    holds-tree =
        let o = s.holds in
        let a = o.ends in
        record {
          is = (l t h.nodes before (preorders ts []) next-tree (kept_bytes ks ds) rest stood long).1 ∙ sym (whole_split ks ds (laid t (drop (16 * size t) rest)));
          stated = o.stated;
          declared = o.declared;
          counted = o.counted;
          starting = omega (arith, a, o.starting);
          ends = refl;
          kept = o.kept;
          held = o.held;
          names = o.names;
          own-names = o.own-names;
          tree-names = (both (bare_names t) (all_bare_names ts) s.comes.names).0;
        }

    -- it stands behind what is kept, and the others are still to come
    pub loaded_state : State file h (tables nodes' records starts statements) r (holding low ks ds (given t) (drop (16 * size t) rest)) (following ts coming left (before ++ preorder t []))
    unfolding all_bare_names sizes
    loaded_state =
        let c = s.comes in
        let m = s.room in
        subst (λ (q : Progress). State file h (tables nodes' records starts statements) q (holding low ks ds (given t) (drop (16 * size t) rest)) (following ts coming left (before ++ preorder t []))) (sym progress_is)
        (record {
          holds = holds-tree;
          comes = record { trees = beyond c.trees; records = c.records; few = c.few; names = (both (bare_names t) (all_bare_names ts) c.names).1 };
          room = record { weight = omega (arith, m.weight); declared = m.declared; stated = m.stated; looked = omega (arith, m.looked); few = m.few };
        })
