-- Where a search enters the first child of a node and this is the name: the node evaluates it for its value, and of what the
-- initializer gives in its place it keeps the value alone.
use Prim.Native.Nat.{ℕ}
use mathlib.Core.Bool.{Bool, true, false, cond, ◌&&◌, ◌||◌, and_assoc}
use mathlib.Core.Path.{◌≡◌, refl, sym, ◌∙◌}
use lib.Dec.{eqb}
use borrow.Author.Tests.{not-true}
use Rattle.records.specs.Flags.{computed}
use Rattle.records.specs.Node.{is_chain_element}
use Rattle.records.specs.Tree.{Node, Tree, Trees, node, more}
use Rattle.records.specs.File.{first_tree}
use Rattle.records.specs.Place.{root, stand_under}
use Rattle.records.proofs.Tests.{clash, neither}
use Rattle.walk_rules.specs.Context.{Context}
use Rattle.walk_rules.specs.Effect.{may_have_side_effects}
use Rattle.walk_rules.specs.Shape.{is_member_expression, Choice as Way, never as always, skips, cuts, picks, Shape, constant as literal, identifier, target_name as aim, leaf as lone, chain as links, import, delete, sequence as row, property as pair, stopping, assignment as assigning, steps}
use Rattle.walk_rules.specs.Substitute.{Plan, all, first, nothing, value as behind, test, branches, tag, is_specific_id, keeps_callee, is_member_tag, keeps_indirect, stops_at_target, plan_for, plan}
use Rattle.theory_runs.specs.Hand.{Beside, nothing as nothing-beside, bare_eval, target_name as aTarget, opaque_target, member}
use Rattle.theory_runs.specs.Step.{Role, value}
use Rattle.theory_runs.specs.Form.{is, cleared, is_delete, Form, chain, property, importing, sequence, stepping, never, logical, conditional, optionally, order, is_chain, is_plain, is_assignment, first_role}
use Rattle.theory_runs.specs.Run.{kept}
use Rattle.theory_preservation.proofs.Tests.{and_off, and_on, and_mid, same_cond}
use Rattle.theory_preservation.proofs.Tables.{choosing, form_of, shape_kinds}
use Rattle.theory_preservation.proofs.Entered as E
use Rattle.theory_preservation.proofs.ByKind.{other-kind, link_not, stopping_not, chain_child}

undelete : (n : Node) → is 9 n ≡ false → is_delete (cleared n) ≡ false
unfolding is_delete cleared
undelete n e = rw e

kept-none : {Value : Type 0} (f : Form) (n : Node) (b : Beside Value) → is 14 n ≡ false → is 24 n ≡ false → is_delete n ≡ false → is_assignment f ≡ false → is_chain f ≡ false → kept f n b ≡ nothing-beside
unfolding kept
kept-none f n nothing-beside a b c d e = refl
kept-none f n bare_eval a b c d e = rw a
kept-none f n (aTarget t) a b c d e = rw d
kept-none f n (opaque_target l) a b c d e = rw d
kept-none f n (member o k) a b c d e = rw (a, b, c, d, e)

-- what a first child is evaluated for
plain_not : (f : Form) → is_assignment f ≡ false → is_plain f ≡ false
unfolding is_assignment is_plain
plain_not f e = (neither (is_plain f) _ e).0

pub value_of_value : (f : Form) (n : Node) → is_assignment f ≡ false → is_delete n ≡ false → first_role f n value ≡ value
unfolding first_role
value_of_value f n e g = rw (plain_not f e, g) (same_cond (is_chain f) value)

pub value_of_all : (f : Form) (n : Node) → is_assignment f ≡ false → is_delete n ≡ false → is_chain f ≡ false → (role : Role) → first_role f n role ≡ value
unfolding first_role
value_of_all f n e g h role = rw (plain_not f e, g, h)

module _ (v : ℕ) (r : Tree) where
  abbrev spills : Tree → Bool
  spills t = E.spills v r t

  abbrev Entering : Form → Node → Tree → Type 0
  Entering f n t = E.Entering v r f n t

  -- nothing but the value is kept where r gives a member
  pub kept-value : {Value : Type 0} (f : Form) (n : Node) (t : Tree) → Entering f n t → is_specific_id v (root t) ≡ true → is_member_tag r ≡ true → (b : Beside Value) → kept f n b ≡ nothing-beside
  kept-value f n t e g h b =
      let s : spills t ≡ true = rw (g, h) in
      kept-none f n b (and_on (is 14 n) (spills t) s e.uncalled) (and_on (is 24 n) (spills t) s e.untagged) e.undeleted e.unassigned (and_on (is_chain f) (is_specific_id v (root t)) g e.unchained)

  -- what each plan says of a node and its first child
  abbrev pub Enters : Plan → Form → Node → Tree → Type 0
  Enters all f n t = Entering f n t
  Enters first f n t = Entering f n t
  Enters nothing f n t = Unit {0}
  Enters behind f n t = Unit {0}
  Enters test f n t = Entering f n t
  Enters branches f n t = ⊥
  Enters tag f n t = (is_specific_id v (root t) ≡ true) × (is_delete n ≡ false) × (is_assignment f ≡ false) × (is_chain f ≡ false)

  of_others : (f : Form) (n : Node) (t : Tree) → is 14 n ≡ false → is 24 n ≡ false → is 9 n ≡ false → is_assignment f ≡ false → is_chain f ≡ false → Entering f (cleared n) t
  of_others f n t a b c d e = record {
    uncalled = unfold cleared in rw a;
    untagged = unfold cleared in rw b;
    undeleted = undelete n c;
    unassigned = d;
    unchained = rw e;
  }

  -- a kind that keeps nothing of its first child
  of_kind : (f : Form) (n : Node) (k : ℕ) (t : Tree) → is k n ≡ true → eqb k 14 ≡ false → eqb k 24 ≡ false → eqb k 9 ≡ false → is_assignment f ≡ false → is_chain f ≡ false → Entering f (cleared n) t
  of_kind f n k t e a b c d g = of_others f n t (other-kind n k 14 e a) (other-kind n k 24 e b) (other-kind n k 9 e c) d g

  -- the child of a chain is no name
  unnamed_child : (n : Node) (t : Tree) (ts : Trees) → is 13 n ≡ true → stand_under n 0 (more t ts) ≡ true → is_specific_id v (root t) ≡ false
  unfolding is_specific_id
  unnamed_child n t ts e h = not_name (root t) (chain_child n t ts e h)
    where
      not_name : (k : Node) → is_chain_element k.kind ≡ true → (is 4 k && eqb k.label v) ≡ false
      not_name k g = rw (link_not k 4 g refl refl refl refl)

  of_chain : (n : Node) (t : Tree) (ts : Trees) → is 13 n ≡ true → stand_under n 0 (more t ts) ≡ true → Entering chain (cleared n) t
  unfolding is_assignment is_chain order
  of_chain n t ts e h = record {
    uncalled = unfold cleared in rw (other-kind n 13 14 e refl);
    untagged = unfold cleared in rw (other-kind n 13 24 e refl);
    undeleted = undelete n (other-kind n 13 9 e refl);
    unassigned = refl;
    unchained = unnamed_child n t ts e h;
  }

  -- a called name keeps its place
  member-root : (t : Tree) → (is_member_expression (root t) || is 13 (root t)) ≡ false → is_member_tag t ≡ false
  unfolding is_member_tag
  member-root (node n ts) e = let (p, q) = neither (is_member_expression n) (is 13 n) e in rw (p, q)

  call_by : (x y z b : Bool) (t : Tree) → ((x || y) && z && b) ≡ false → (is_member_expression (root r) || is 13 (root r)) ≡ z → is 4 (root t) ≡ b → (x && spills t) ≡ false
  unfolding is_specific_id
  call_by false y z b t e g h = refl
  call_by true y true true t e g h = clash true e refl
  call_by true y true false t e g h = rw h
  call_by true y false b t e g h = rw (member-root r g) (and_off (is 4 (root t) && eqb (root t).label v) false refl)

  called : (n : Node) (t : Tree) (ts : Trees) → keeps_callee r n (more t ts) ≡ false → (is 14 n && spills t) ≡ false
  unfolding keeps_callee first_tree
  called n t ts e = call_by (is 14 n) (is 15 n) (is_member_expression (root r) || is 13 (root r)) (is 4 (root t)) t e refl refl

  tag-enters : (b : Bool) (n : Node) (t : Tree) (ts : Trees) → keeps_indirect v r n (more t ts) ≡ b → (is 14 n && spills t) ≡ false → is_delete (cleared n) ≡ false → Enters (cond b tag all) (stepping never) (cleared n) t
  unfolding keeps_indirect first_tree is_assignment is_chain order
  tag-enters true n t ts e h d = (and_mid (is 24 n) (is_specific_id v (root t)) (is_member_tag r) e, d, refl, refl)
  tag-enters false n t ts e h d = record {
    uncalled = unfold cleared in h;
    untagged = unfold cleared in sym (and_assoc (is 24 n) (is_specific_id v (root t)) (is_member_tag r)) ∙ e;
    undeleted = d;
    unassigned = refl;
    unchained = refl;
  }

  either-enters : (b : Bool) (p q : Plan) (f : Form) (n : Node) (t : Tree) → Enters p f n t → Enters q f n t → Enters (cond b p q) f n t
  either-enters true p q f n t x y = x
  either-enters false p q f n t x y = y

  of_link : (n : Node) (t : Tree) → (is_member_expression n || is 14 n) ≡ true → (is 14 n && spills t) ≡ false → Entering (stepping optionally) (cleared n) t
  unfolding is_assignment is_chain order
  of_link n t e h = record {
    uncalled = unfold cleared in h;
    untagged = unfold cleared in rw (link_not n 24 e refl refl refl refl);
    undeleted = undelete n (link_not n 9 e refl refl refl refl);
    unassigned = refl;
    unchained = refl;
  }

  module _ (ctx : Context) where
    way_enters : (w : Way) (n : Node) (t : Tree) (ts : Trees) → shape_kinds (steps w) n ≡ true → (is 14 n && spills t) ≡ false → Enters (plan_for ctx v r w n (more t ts)) (stepping (choosing w)) (cleared n) t
    unfolding plan_for shape_kinds choosing is_assignment is_chain order
    way_enters always n t ts k h = tag-enters (keeps_indirect v r n (more t ts)) n t ts refl h (unfold is_delete cleared in not-true _ k)
    way_enters skips n t ts k h = let e = of_kind (stepping logical) n 17 t k refl refl refl refl refl in either-enters (may_have_side_effects r) first all (stepping logical) (cleared n) t e e
    way_enters cuts n t ts k h = let e = of_link n t k h in either-enters (may_have_side_effects r) first all (stepping optionally) (cleared n) t e e
    way_enters picks n t ts k h = let e = of_kind (stepping conditional) n 19 t k refl refl refl refl refl in either-enters (may_have_side_effects r) first test (stepping conditional) (cleared n) t e e

    callee-enters : (b : Bool) (w : Way) (n : Node) (t : Tree) (ts : Trees) → keeps_callee r n (more t ts) ≡ b → shape_kinds (steps w) n ≡ true → Enters (cond b nothing (plan_for ctx v r w n (more t ts))) (stepping (choosing w)) (cleared n) t
    callee-enters true w n t ts e k = tt
    callee-enters false w n t ts e k = way_enters w n t ts k (called n t ts e)

    pub plan-enters : (sh : Shape) (n : Node) (t : Tree) (ts : Trees) → shape_kinds sh n ≡ true → stand_under n 0 (more t ts) ≡ true → Enters (plan ctx v r sh n (more t ts)) (form_of sh) (cleared n) t
    unfolding plan shape_kinds form_of choosing is_assignment is_chain order
    plan-enters literal n t ts k p = tt
    plan-enters identifier n t ts k p = tt
    plan-enters aim n t ts k p = tt
    plan-enters lone n t ts k p = tt
    plan-enters links n t ts k p = of_chain n t ts k p
    plan-enters import n t ts k p = of_kind importing n 8 t k refl refl refl refl refl
    plan-enters delete n t ts k p = tt
    plan-enters row n t ts k p = of_kind sequence n 28 t k refl refl refl refl refl
    plan-enters pair n t ts k p = either-enters (computed n.flags) nothing all property (cleared n) t tt (of_kind property n 26 t k refl refl refl refl refl)
    plan-enters stopping n t ts k p = of_others (stepping never) n t (stopping_not n 14 k refl refl) (stopping_not n 24 k refl refl) (stopping_not n 9 k refl refl) refl refl
    plan-enters (assigning c) n t ts k p = either-enters (stops_at_target ctx r c (first_tree (more t ts))) nothing behind _ (cleared n) t tt tt
    plan-enters (steps w) n t ts k p = callee-enters (keeps_callee r n (more t ts)) w n t ts refl k
