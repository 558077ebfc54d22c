-- The search of a tree, from what the code did: the tree at a place, the name itself, a tag that stays indirect, and a node
-- whose children were searched. Assumes nothing.
use Prim.Native.Nat.{ℕ, suc, ◌+◌, ◌-◌, ◌*◌, ◌≤◌, ◌<◌}
use native.Mathlib.Omega.{arith}
use mathlib.Core.Bool.{Bool, true, false, ◌&&◌, ◌||◌, not}
use mathlib.Core.List.{List, [], ◌++◌, append_assoc, append-nil}
use mathlib.Core.Path.{◌≡◌, refl, sym, ap, ◌∙◌, subst}
use lib.ListN.{length}
use lib.Dec.{eqb}
use borrow.Author.Tests.{eqb-true}
use Rattle.records.specs.Record.{node_at}
use Rattle.records.specs.Tree.{Node, Tree, Trees, node, none, more, count, size, sizes, joined, record_of, node_of}
use Rattle.records.specs.File.{first_tree}
use Rattle.records.specs.Place.{root, is_expression}
use Rattle.records.specs.declared.layout.NodeId.{NodeId}
use Rattle.records.specs.declared.layout.NodeRecord.{NodeRecord}
use Rattle.records.proofs.Tests.{both, and_left, clash}
use Rattle.records_table.specs.Table.{work_bytes}
use Rattle.records_table.specs.Laid.{laid, laids, At, TreeAt, ForestStands, tree_at, forest_at}
use Rattle.records_laws.proofs.Forests.{sizes-joined}
use Rattle.records_table.proofs.Laid.{room-node, inside, node_at_lem, laid_split, beyond, back}
use Rattle.records_table.proofs.TreesAt.{tree-there, forest_there}
use Rattle.walk_rules.specs.Context.{Context}
use Rattle.walk_rules.specs.Shape.{is, shape, cleared}
use Rattle.walk_rules.specs.Effect.{may_have_side_effects, any_has_side_effects}
use Rattle.walk_rules.specs.Substitute.{Answer as RuleAnswer, replaced, stopped, passed, tag, at as atPosition, preserve_indirect_access, as_tag, in_order, by_plan, of_node, may_pass, is_specific_id, is_member_tag, keeps_callee, keeps_indirect, plan, plan_for, substitute_in_expression, substitute_in_children}
use Rattle.walk_rules.specs.Looks.{own_looks, enters_first, goes_on, is_passed as isOpen, looks_in_expression, looks_in_children}
use Rattle.walk_arms.specs.declared.arms.Plan.{Plan}
use Rattle.walk_arms.specs.declared.arms.Begun.{Begun}
use Rattle.walk_arms.specs.declared.replacement.Replacement.{Replacement}
use Rattle.walk_arms.specs.declared.walked.Answer.{Answer}
use Rattle.walk_arms.specs.declared.walked.Answer.TheVariants.{Replaced, Stopped, Passed}
use Rattle.walk_arms.specs.declared.walked.Walked.{Walked}
use Rattle.walk_arms.specs.Arms.{planned}
use Rattle.walk_arms.specs.Answers.{behind, in_place, put_at, is_name_at, told}
use Rattle.walk_arms.specs.Described.{Describes}
use Rattle.walk_arms.specs.Search.{bare_names, all_bare_names, Searchable, SearchableForest, Did, DidForest, Searches, SearchesForest}
use Rattle.walk_arms.specs.Begins.{behind_forest, Begins, BeginsAt}
use Rattle.walk.proofs.BareNames.{all-bare, bare-node}
use Rattle.walk_arms.proofs.Beginning.{tag-steps}
use Rattle.walk.specs.Node.{OfChildren}
use Rattle.walk.proofs.OfNode.{node_of_lem}
use Rattle.walk.proofs.Putting.{put_first, name-first, behind-besides, behind-told}

-- the names of the last trees of a forest
bare-joined : (ts us : Trees) → all_bare_names (joined ts us) ≡ true → all_bare_names us ≡ true
unfolding joined
bare-joined none us h = h
bare-joined (more t ts) us h = bare-joined ts us (all-bare t (joined ts us) h).1

-- What the code may ask of a searchable tree and forest.
pub searchable-room : {table : List ℕ} {at : ℕ} → Searchable table at → 16 * at + 16 ≤ length table
searchable-room (pre, t, rest, h, b) = room-node h

pub forest_stands : {table : List ℕ} {at many : ℕ} → SearchableForest table at many → ForestStands table at many
forest_stands (pre, ts, rest, h, c, b) = (pre, ts, rest, h, c)

-- What a search did of each tree that may stand at a place, and the tree that stands there.
module _ (ctx : Context) (known : Replacement) (table table' : List ℕ) (at : ℕ) (r : Walked) where
  abbrev pub Seeks : Type 0
  Seeks =
      (replacement : Tree) → Describes known replacement → (pre : List ℕ) (t : Tree) (rest : List ℕ) → TreeAt table at t pre rest → bare_names t ≡ true
      → (held : Tree) × Did table' at t pre rest known.name.0 replacement r.answer r.end.0 (substitute_in_expression ctx known.name.0 replacement t) held
      × (r.looks ≡ looks_in_expression ctx known.name.0 replacement t)

  pub searches : Searchable table at → Seeks → Searches ctx known table table' at r
  searches (pre₀, t₀, rest₀, h₀, b₀) f replacement d pre rest h =
      let (held, x, l) = f replacement d pre (tree_at table at) rest h (subst (λ t. bare_names t ≡ true) (sym (tree-there h₀)) b₀) in
      (subst (λ u. Did table' at (tree_at table at) pre rest known.name.0 replacement r.answer r.end.0 (substitute_in_expression ctx known.name.0 replacement (tree_at table at)) u) (sym (tree-there x.here)) x, l)

  pub sought : Searches ctx known table table' at r → (replacement : Tree) → Describes known replacement → (pre : List ℕ) (t : Tree) (rest : List ℕ) → TreeAt table at t pre rest
      → (held : Tree) × Did table' at t pre rest known.name.0 replacement r.answer r.end.0 (substitute_in_expression ctx known.name.0 replacement t) held
      × (r.looks ≡ looks_in_expression ctx known.name.0 replacement t)
  sought f replacement d pre t rest h =
      subst
      (λ t. TreeAt table at t pre rest → (held : Tree) × Did table' at t pre rest known.name.0 replacement r.answer r.end.0 (substitute_in_expression ctx known.name.0 replacement t) held × (r.looks ≡ looks_in_expression ctx known.name.0 replacement t))
      (tree-there h) (λ h. let (x, l) = f replacement d pre rest h in (tree_at table' at, x, l)) h

-- the forest that stands there
pub there : {table : List ℕ} {at many : ℕ} {ts : Trees} {pre rest : List ℕ} → At table at ts pre rest → count ts ≡ many → forest_at table at many ≡ ts
there {table} {at} {ts = ts} h c = subst (λ k. forest_at table at k ≡ ts) c (forest_there h)

-- the same of a forest
module _ (ctx : Context) (known : Replacement) (table table' : List ℕ) (at many : ℕ) (p : Plan) (r : Walked) where
  abbrev pub SeeksForest : Type 0
  SeeksForest =
      (replacement : Tree) → Describes known replacement → (pre : List ℕ) (ts : Trees) (rest : List ℕ) → At table at ts pre rest → count ts ≡ many → all_bare_names ts ≡ true
      → (held : Trees) × DidForest table' at ts pre rest known.name.0 replacement r.answer r.end.0 (substitute_in_children ctx known.name.0 replacement (planned p) ts) held
      × (r.looks ≡ looks_in_children ctx known.name.0 replacement (planned p) ts)

  pub searches_forest : SearchableForest table at many → SeeksForest → SearchesForest ctx known table table' at many p r
  searches_forest (pre₀, ts₀, rest₀, h₀, c₀, b₀) f replacement d pre rest h =
      let e = there h₀ c₀ in
      let c = ap count e ∙ c₀ in
      let (held, x, l) = f replacement d pre (forest_at table at many) rest h c (subst (λ t. all_bare_names t ≡ true) (sym e) b₀) in
      (subst (λ u. DidForest table' at (forest_at table at many) pre rest known.name.0 replacement r.answer r.end.0 (substitute_in_children ctx known.name.0 replacement (planned p) (forest_at table at many)) u) (sym (there x.here (x.many ∙ c))) x, l)

  pub sought_forest : SearchesForest ctx known table table' at many p r → SeeksForest
  sought_forest f replacement d pre ts rest h c b =
      subst
      (λ ts. At table at ts pre rest → (held : Trees) × DidForest table' at ts pre rest known.name.0 replacement r.answer r.end.0 (substitute_in_children ctx known.name.0 replacement (planned p) ts) held × (r.looks ≡ looks_in_children ctx known.name.0 replacement (planned p) ts))
      (there h c) (λ h. let (x, l) = f replacement d pre rest h in (forest_at table' at many, x, l)) h

-- The name itself: it was found where it stands.
name-kind : (name : ℕ) (m : Node) → is_specific_id name m ≡ true → is 4 m ≡ true
unfolding is_specific_id
name-kind name m h = and_left (is 4 m) (eqb m.label name) h

name-looks : (m : Node) → is 4 m ≡ true → own_looks m ≡ 1
unfolding own_looks is_expression
name-looks m h = rw (eqb-true m.kind 4 h) refl

no_kids : (n : Node) (kids : Trees) → is 4 n ≡ true → bare_names (node n kids) ≡ true → eqb (count kids) 0 ≡ true
no_kids n kids e h = off e (bare-node n kids h).0
  where
    off : {a b : Bool} → a ≡ true → (not a || b) ≡ true → b ≡ true
    off {a} {b} e h = rw e at h

-- the first node, and the first below it
first-node : (at place : ℕ) → place ≡ at → place - at ≡ 0
first-node at place e = omega (arith, e)

second-node : (at place : ℕ) → place ≡ at + 1 → place - at ≡ 1
second-node at place e = omega (arith, e)

module _ (ctx : Context) (known : Replacement) (table : List ℕ) (at : NodeId) (r : Walked) where
  module _ (replacement : Tree) (pre rest : List ℕ) (m : Node) where
    here-did : (kids : Trees) → is_specific_id known.name.0 m ≡ true → bare_names (node m kids) ≡ true → TreeAt table at.0 (node m kids) pre rest → r ≡ record { answer = Replaced at false; end = at; looks = 1 }
        → Did table at.0 (node m kids) pre rest known.name.0 replacement r.answer r.end.0 (substitute_in_expression ctx known.name.0 replacement (node m kids)) (node m kids)
    unfolding told put_at is_name_at substitute_in_expression
    here-did kids h b t e =
        let z = first-node at.0 at.0 refl in
        rw e (record { here = t; says = rw (z, h) refl; besides = (omega arith, rw (z, h) (no_kids m kids (name-kind known.name.0 m h) b)); same = refl })

    here-looks : (kids : Trees) → is_specific_id known.name.0 m ≡ true → eqb (count kids) 0 ≡ true → 1 ≡ looks_in_expression ctx known.name.0 replacement (node m kids)
    unfolding looks_in_expression looks_in_children count
    here-looks none h b = sym (ap (λ k. k + 0) (name-looks m (name-kind known.name.0 m h)))
    here-looks (more t ts) h b = let z = eqb-true (suc (count ts)) 0 b in absurd (omega (arith, z))

  pub here_found : (n : NodeRecord) → n ≡ node_at table (16 * at.0) → is_specific_id known.name.0 (node_of n) ≡ true → r ≡ record { answer = Replaced at false; end = at; looks = 1 } → Seeks ctx known table table at.0 r
  here_found n e h q replacement d pre (node m kids) rest t b =
      let h' = subst (λ z. is_specific_id known.name.0 z ≡ true) (ap node_of (e ∙ node_at_lem t) ∙ node_of_lem m (count kids)) h in
      (node m kids, here-did replacement pre rest m kids h' b t q, ap (λ w. w.looks) q ∙ here-looks replacement pre rest m kids h' (no_kids m kids (name-kind known.name.0 m h') b))

-- A tag that is the name, where a member is placed.
tag-kind : (name : ℕ) (replacement : Tree) (m : Node) (kids : Trees) → keeps_indirect name replacement m kids ≡ true → (is 24 m ≡ true) × (is_specific_id name (root (first_tree kids)) ≡ true)
unfolding keeps_indirect
tag-kind name replacement m kids h =
    let x = both (is 24 m && is_specific_id name (root (first_tree kids))) (is_member_tag replacement) h in
    both (is 24 m) (is_specific_id name (root (first_tree kids))) x.0

tag-cleared : (m : Node) → is 24 m ≡ true → cleared m ≡ m
unfolding cleared
tag-cleared m h = rw (eqb-true m.kind 24 h) refl

tag-looks : (m : Node) → is 24 m ≡ true → own_looks m ≡ 1
unfolding own_looks is_expression
tag-looks m h = rw (eqb-true m.kind 24 h) refl

tag-callee : (replacement : Tree) (m : Node) (kids : Trees) → is 24 m ≡ true → keeps_callee replacement m kids ≡ false
unfolding keeps_callee
tag-callee replacement m kids h = rw (eqb-true m.kind 24 h) refl

tag-plan : (ctx : Context) (name : ℕ) (replacement : Tree) (m : Node) (kids : Trees) → keeps_indirect name replacement m kids ≡ true → plan ctx name replacement (shape m) m kids ≡ tag
unfolding plan plan_for
tag-plan ctx name replacement m kids h = let k = (tag-kind name replacement m kids h).0 in rw (tag-steps m k, tag-callee replacement m kids k, h) refl

module _ (ctx : Context) (name : ℕ) (replacement : Tree) (m x : Node) (xs ts : Trees) (h : is_specific_id name x ≡ true) (k : keeps_indirect name replacement m (more (node x xs) ts) ≡ true) where
  tag-found : is_specific_id name m ≡ false → substitute_in_expression ctx name replacement (node m (more (node x xs) ts)) ≡ replaced (node m (more (preserve_indirect_access (atPosition x.position replacement)) ts))
  unfolding substitute_in_expression substitute_in_children by_plan in_order as_tag of_node
  tag-found n = rw (n, tag-plan ctx name replacement m (more (node x xs) ts) k, h, tag-cleared m (tag-kind name replacement m (more (node x xs) ts) k).0) refl

  tag-looked : eqb (count xs) 0 ≡ true → looks_in_expression ctx name replacement (node m (more (node x xs) ts)) ≡ 2
  unfolding looks_in_expression looks_in_children substitute_in_expression enters_first goes_on isOpen count
  tag-looked b = rw (tag-plan ctx name replacement m (more (node x xs) ts) k, h, tag-looks m (tag-kind name replacement m (more (node x xs) ts) k).0) (ap (λ k. 1 + (k + 0)) (below xs b))
    where
      below : (xs : Trees) → eqb (count xs) 0 ≡ true → own_looks x + looks_in_children ctx name replacement (plan ctx name replacement (shape x) x xs) xs ≡ 1
      below none b = ap (λ k. k + 0) (name-looks x (name-kind name x h))
      below (more y ys) b = let z = eqb-true (suc (count ys)) 0 b in absurd (omega (arith, z))

-- the second node of a tree
module _ (m x : Node) (xs ts : Trees) where
  some-nodes : 0 < size (node x xs)
  unfolding size
  some-nodes = omega arith

  second-put : (put : Node → Tree) → put_at (node m (more (node x xs) ts)) 1 put ≡ node m (more (put x) ts)
  unfolding put_at
  second-put put = ap (node m) (put_first (node x xs) ts 0 some-nodes put)

  second-name : (name : ℕ) → is_name_at name (node m (more (node x xs) ts)) 1 ≡ (is_specific_id name x && eqb (count xs) 0)
  unfolding is_name_at
  second-name name = name-first (node x xs) ts 0 some-nodes name

module _ (ctx : Context) (known : Replacement) (table : List ℕ) (at place : NodeId) (r : Walked) where
  tag-did : (replacement : Tree) (pre rest : List ℕ) (m : Node) (kids : Trees) → place.0 ≡ at.0 + 1 → is_specific_id known.name.0 m ≡ false → keeps_indirect known.name.0 replacement m kids ≡ true → all_bare_names kids ≡ true → TreeAt table at.0 (node m kids) pre rest
      → r ≡ record { answer = Replaced place true; end = place; looks = 2 }
      → Did table at.0 (node m kids) pre rest known.name.0 replacement r.answer r.end.0 (substitute_in_expression ctx known.name.0 replacement (node m kids)) (node m kids)
      × (r.looks ≡ looks_in_expression ctx known.name.0 replacement (node m kids))
  unfolding told first_tree is_specific_id
  tag-did replacement pre rest m none l n k b t e = clash false refl (tag-kind known.name.0 replacement m none k).1
  tag-did replacement pre rest m (more (node x xs) ts) l n k b t e =
      let h = (tag-kind known.name.0 replacement m (more (node x xs) ts) k).1 in
      let z = second-node at.0 place.0 l in
      let c = no_kids x xs (name-kind known.name.0 x h) (all-bare (node x xs) ts b).0 in
      rw e
      (record { here = t; says = rw (z, tag-found ctx known.name.0 replacement m x xs ts h k n) (ap replaced (second-put m x xs ts (in_place true replacement))); besides = (omega (arith, l), rw z (second-name m x xs ts known.name.0 ∙ rw h c)); same = refl }, sym (tag-looked ctx known.name.0 replacement m x xs ts h k c))

  pub tag-here : (n : NodeRecord) (g : Begun) → n ≡ node_at table (16 * at.0) → place.0 ≡ at.0 + 1 → is_specific_id known.name.0 (node_of n) ≡ false → BeginsAt ctx table at.0 known g → g.indirect ≡ true
      → r ≡ record { answer = Replaced place true; end = place; looks = 2 } → Seeks ctx known table table at.0 r
  tag-here n g e l i w k q replacement d pre (node m kids) rest t b =
      let (before, left, x) = w replacement d pre m kids rest t in
      let (y, z) = tag-did replacement pre rest m kids l (subst (λ z. is_specific_id known.name.0 z ≡ false) (ap node_of (e ∙ node_at_lem t) ∙ node_of_lem m (count kids)) i) (sym x.indirect_is ∙ k) (bare-node m kids b).1 t q in
      (node m kids, y, z)

-- Trees that are passed before others.
pub behind_false : (w : Answer) → behind false w ≡ w
behind_false (Replaced place indirect) = refl
behind_false Stopped = refl
behind_false (Passed effect) = refl

pub behind-behind : (a b : Bool) (w : Answer) → behind a (behind b w) ≡ behind (a || b) w
behind-behind a b (Replaced place indirect) = refl
behind-behind a b Stopped = refl
behind-behind true b (Passed effect) = refl
behind-behind false b (Passed effect) = refl

forest_behind_none : (b : RuleAnswer Trees) → behind_forest none b ≡ b
unfolding joined
forest_behind_none (replaced ts) = refl
forest_behind_none (stopped ts) = refl
forest_behind_none passed = refl

forest_behind_more : (t : Tree) (ts left : Trees) (b : RuleAnswer Trees) → in_order t (joined ts left) passed (behind_forest ts b) ≡ behind_forest (more t ts) b
unfolding joined in_order
forest_behind_more t ts left (replaced us) = refl
forest_behind_more t ts left (stopped us) = refl
forest_behind_more t ts left passed = refl

-- the bytes of a forest, behind others
laid_more : (pre : List ℕ) (t : Tree) (ts : Trees) → (pre ++ laid t []) ++ laids ts [] ≡ pre ++ laids (more t ts) []
unfolding laids
laid_more pre t ts = append_assoc pre (laid t []) (laids ts []) ∙ ap (λ l. pre ++ l) (sym (laid_split t (laids ts [])))

past : {table : List ℕ} (before left : Trees) {at : ℕ} {pre rest : List ℕ} → At table at (joined before left) pre rest → At table (at + sizes before) left (pre ++ laids before []) rest
unfolding joined sizes laids
past none left {at} {pre} {rest} h = record { is = h.is ∙ ap (λ l. l ++ laids left rest) (sym (append-nil pre)); starts = ap length (append-nil pre) ∙ omega (arith, h.starts) }
past {table} (more t ts) left {at} {pre} {rest} h =
    subst (λ k. At table k left (pre ++ laid t (laids ts [])) rest) (omega arith)
    (subst (λ l. At table (at + size t + sizes ts) left l rest) (laid_more pre t ts) (past ts left (beyond h)))

module _ (name : ℕ) (replacement : Tree) {table : List ℕ} {rest : List ℕ} {w : Answer} {end : ℕ} {b : RuleAnswer Trees} {held : Trees} where
  behind-trees : (before left : Trees) {at : ℕ} {pre : List ℕ} → DidForest table (at + sizes before) left (pre ++ laids before []) rest name replacement w end b held
      → DidForest table at (joined before left) pre rest name replacement (behind (any_has_side_effects before) w) end (behind_forest before b) (joined before held)
  unfolding joined sizes laids any_has_side_effects count
  behind-trees none left {at} {pre} d =
      rw (behind_false w, forest_behind_none b)
      (subst (λ k. DidForest table k left pre rest name replacement w end b held) (omega arith) (subst (λ l. DidForest table (at + 0) left l rest name replacement w end b held) (append-nil pre) d))
  behind-trees (more t ts) left {at} {pre} d =
      let d' = subst (λ l. DidForest table (at + size t + sizes ts) left l rest name replacement w end b held) (sym (laid_more pre t ts)) (subst (λ k. DidForest table k left (pre ++ laid t (laids ts [])) rest name replacement w end b held) (omega arith) d) in
      let f = behind-trees ts left d' in
      rw (← behind-behind (may_have_side_effects t) (any_has_side_effects ts) w, ← forest_behind_more t ts left b)
      (record {
        here = back f.here;
        says = behind-told name at replacement t (joined ts left) (joined ts held) end (may_have_side_effects t) (behind (any_has_side_effects ts) w) f.besides ∙ ap (in_order t (joined ts left) passed) f.says;
        besides = behind-besides name at replacement t (joined ts left) (joined ts held) end (may_have_side_effects t) refl (behind (any_has_side_effects ts) w) f.besides;
        same = ap (λ k. size t + k) f.same;
        many = ap suc f.many;
      })

-- The search of a node that is not the name: its children, from where the search begins on.
module _ (ctx : Context) (known : Replacement) {table : List ℕ} (table' table'' : List ℕ) (at : ℕ) {g : Begun} (children r : Walked) (n : NodeRecord) (e : n ≡ node_at table (16 * at)) (i : is_specific_id known.name.0 (node_of n) ≡ false) (w : BeginsAt ctx table at known g) (k : g.indirect ≡ false) where
  abbrev head_of : Node → Trees → List ℕ
  head_of m kids = work_bytes (record_of m (count kids))

  module _ (replacement : Tree) (d : Describes known replacement) (pre rest : List ℕ) (m : Node) (kids before left held : Trees) (x : Begins ctx at known g replacement m kids before left) where
    kids-did : DidForest table' g.next.0 left ((pre ++ head_of m kids) ++ laids before []) rest known.name.0 replacement children.answer children.end.0 (substitute_in_children ctx known.name.0 replacement (planned g.plan) left) held
        → DidForest table' (at + 1) kids (pre ++ head_of m kids) rest known.name.0 replacement (behind g.effect children.answer) children.end.0 (substitute_in_children ctx known.name.0 replacement (plan ctx known.name.0 replacement (shape m) m kids) kids) (joined before held)
    kids-did y =
        let y' = behind-trees known.name.0 replacement before left (subst (λ k. DidForest table' k left ((pre ++ head_of m kids) ++ laids before []) rest known.name.0 replacement children.answer children.end.0 (substitute_in_children ctx known.name.0 replacement (planned g.plan) left) held) x.next-is y) in
        rw (x.rule k, x.effect_is) (subst (λ ts. DidForest table' (at + 1) ts (pre ++ head_of m kids) rest known.name.0 replacement (behind (any_has_side_effects before) children.answer) children.end.0 (behind_forest before (substitute_in_children ctx known.name.0 replacement (planned g.plan) left)) (joined before held)) (sym x.whole) y')

    left_at : TreeAt table at (node m kids) pre rest → At table g.next.0 left ((pre ++ head_of m kids) ++ laids before []) rest
    left_at t = subst (λ k. At table k left ((pre ++ head_of m kids) ++ laids before []) rest) (sym x.next-is) (past before left (subst (λ ts. At table (at + 1) ts (pre ++ head_of m kids) rest) x.whole (inside t)))

  node-rule : (replacement : Tree) (m : Node) (kids : Trees) → is_specific_id known.name.0 m ≡ false
      → of_node m kids (may_pass ctx known.name.0 replacement (shape m) m kids) (substitute_in_children ctx known.name.0 replacement (plan ctx known.name.0 replacement (shape m) m kids) kids) ≡ substitute_in_expression ctx known.name.0 replacement (node m kids)
  unfolding substitute_in_expression
  node-rule replacement m kids j = rw j refl

  node-looks : (replacement : Tree) (m : Node) (kids : Trees) → own_looks m + looks_in_children ctx known.name.0 replacement (plan ctx known.name.0 replacement (shape m) m kids) kids ≡ looks_in_expression ctx known.name.0 replacement (node m kids)
  unfolding looks_in_expression
  node-looks replacement m kids = refl

  pub node-searched : SeeksForest ctx known table table' g.next.0 g.trees g.plan children → OfChildren ctx table' table'' at n g known children r → Seeks ctx known table table'' at r
  node-searched v o replacement d pre (node m kids) rest t b =
      let (before, left, x) = w replacement d pre m kids rest t in
      let (held, y, l) = v replacement d ((pre ++ head_of m kids) ++ laids before []) left rest (left_at replacement d pre rest m kids before left none x t) (sym x.many) (bare-joined before left (subst (λ ts. all_bare_names ts ≡ true) x.whole (bare-node m kids b).1)) in
      let j : is_specific_id known.name.0 m ≡ false = subst (λ c. is_specific_id known.name.0 c ≡ false) (ap node_of (e ∙ node_at_lem t) ∙ node_of_lem m (count kids)) i in
      let (held', u, q) = o replacement d pre m kids rest _ (joined before held) (e ∙ node_at_lem t) x.shape_is x.stops-is (kids-did replacement d pre rest m kids before left held x y) in
      (held', subst (λ a. Did table'' at (node m kids) pre rest known.name.0 replacement r.answer r.end.0 a held') (node-rule replacement m kids j) u, q ∙ ap (λ z. own_looks m + z) (l ∙ sym (x.looks k)) ∙ node-looks replacement m kids)

-- the children that are left: they stand behind the node, and are fewer nodes
pub begun_forest : (ctx : Context) {known : Replacement} {table : List ℕ} {at : ℕ} {g : Begun} → BeginsAt ctx table at known g → (replacement : Tree) → Describes known replacement → Searchable table at → SearchableForest table g.next.0 g.trees × (sizes (forest_at table g.next.0 g.trees) < size (tree_at table at)) × (at + 1 ≤ g.next.0)
unfolding size
begun_forest ctx {known} {table} {at} {g} w replacement d (pre, node m kids, rest, t, b) =
    let (before, left, x) = w replacement d pre m kids rest t in
    let h = subst (λ k. At table k left ((pre ++ work_bytes (record_of m (count kids))) ++ laids before []) rest) (sym x.next-is) (past before left (subst (λ ts. At table (at + 1) ts (pre ++ work_bytes (record_of m (count kids))) rest) x.whole (inside t))) in (
      (_, left, rest, h, sym x.many, bare-joined before left (subst (λ ts. all_bare_names ts ≡ true) x.whole (bare-node m kids b).1)),
      rw (there h (sym x.many), tree-there t) (omega (arith, ap sizes x.whole, sizes-joined before left)),
      omega (arith, x.next-is),
    )
