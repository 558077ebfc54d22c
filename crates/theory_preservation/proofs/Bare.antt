-- An expression that is neither `eval` nor a member, nor a chain over one, gives nothing beside its value.
use mathlib.Core.Bool.{Bool, true, false, cond, ◌&&◌, ◌||◌}
use mathlib.Core.List.{List}
use mathlib.Core.Path.{◌≡◌, refl, ap, ◌∙◌}
use borrow.Author.Tests.{eqb-true}
use Rattle.records.specs.Flags.{is_eval}
use Rattle.records.specs.Script.{flags_of}
use Rattle.records.specs.Tree.{Node, Tree, Trees, node, none, more}
use Rattle.records.specs.Place.{root, is_expression, stand_under, placed}
use Rattle.records.specs.File.{first_tree}
use Rattle.records.specs.declared.layout.NameFacts.{NameFacts}
use Rattle.records.proofs.Tests.{clash, both, neither}
use Rattle.walk_rules.specs.Shape.{is_member_expression}
use Rattle.walk_rules.specs.Substitute.{is_member_tag}
use Rattle.theory_runs.specs.Hand.{Beside, nothing, bare_eval, Given, first_or}
use Rattle.theory_runs.specs.Step.{Role}
use Rattle.theory_runs.specs.Meaning.{Meaning}
use Rattle.theory_runs.specs.Form.{is, cleared, form}
use Rattle.theory_runs.specs.State.{State}
use Rattle.theory_runs.specs.Run.{kept, beside, run}
use Rattle.theory_runs.specs.InHand.{same_beside, is_nothing, beside_of, first_of}
use Rattle.theory_preservation.proofs.Tests.{and_then, by_or}
use Rattle.theory_preservation.proofs.Ends.{ends-map}
use Rattle.theory_preservation.proofs.Passing.{Only}
use Rattle.theory_preservation.proofs.Kept.{under}
use Rattle.theory_preservation.proofs.ByKind.{name-test, chain-test, expression_not, link_call, chain_child}
use Rattle.theory_preservation.proofs.Besides.{same-nothing, nothing_is}
use Rattle.theory_preservation.proofs.Hands.{given-fits}

module _ (names : List NameFacts) where
  abbrev Nothing : Tree → Type 0
  Nothing t = beside_of names t ≡ nothing

  eval_by : (x y : Bool) → (x && y) ≡ false → (b : Beside (Unit {0})) → b ≡ nothing → cond x (cond y bare_eval nothing) b ≡ nothing
  eval_by true true e b g = clash true e refl
  eval_by true false e b g = refl
  eval_by false y e b g = g

  cond_none : (x : Bool) (b : Beside (Unit {0})) → (x ≡ true → b ≡ nothing) → cond x b nothing ≡ nothing
  cond_none true b h = h refl
  cond_none false b h = refl

  kept-nothing : (n : Node) → kept {Value = Unit {0}} (form n) n nothing ≡ nothing
  unfolding kept
  kept-nothing n = refl

  -- a call gives nothing
  call-nothing : (t : Tree) → is 14 (root t) ≡ true → Nothing t
  unfolding beside_of beside cleared
  call-nothing (node n ts) e = rw (name-test n, chain-test n, eqb-true n.kind 14 e)

  chain-nothing : (n : Node) (ts : Trees) → is 13 n ≡ true → stand_under n 0 ts ≡ true → is_member_expression (root (first_tree ts)) ≡ false → (first_or tt (first_of names (cleared n) ts)).beside ≡ nothing
  unfolding beside_of first_tree first_or
  chain-nothing n none e p g = refl
  chain-nothing n (more t ts) e p g = ap (kept (form (cleared n)) (cleared n)) (call-nothing t (link_call (root t) (chain_child n t ts e p) g)) ∙ kept-nothing (cleared n)

  pub gives_nothing : (t : Tree) → placed t ≡ true → is_expression (root t).kind ≡ true → (is 4 (root t) && is_eval (flags_of names (root t).label)) ≡ false → is_member_tag t ≡ false → Nothing t
  unfolding beside_of beside cleared is_member_tag
  gives_nothing (node n ts) p x e g =
      let (a, b) = neither (is_member_expression n) (is 13 n && is_member_expression (root (first_tree ts))) g in
      let (c, d) = neither (is 10 n || is 11 n) (is 12 n) a in
      let (h, i) = neither (is 10 n) (is 11 n) c in
      rw (name-test n, chain-test n)
      (eval_by (is 4 n) (is_eval (flags_of names n.label)) e _
      (rw (expression_not n.kind 29 x refl refl, expression_not n.kind 30 x refl refl, h, i, d) (cond_none (is 13 n) (first_or tt (first_of names (cleared n) ts)).beside (λ q. chain-nothing n ts q (under n ts p).0 (and_then (is 13 n) _ q b)))))

  module _ {Value Rest : Type 0} (m : Meaning Value Rest) where
    none-given : (t : Tree) (b : Beside Value) → Nothing t → (same_beside (beside_of names t) b || is 13 (root t) && is_nothing b) ≡ true → b ≡ nothing
    none-given t b e h =
        nothing_is b (by_or (same_beside (beside_of names t) b) (is 13 (root t) && is_nothing b) (λ q. same-nothing (beside_of names t) b e q) (λ q. (both (is 13 (root t)) (is_nothing b) q).1) h)

    -- such an expression, run
    pub bare-run : (t : Tree) → placed t ≡ true → is_expression (root t).kind ≡ true → (is 4 (root t) && is_eval (flags_of names (root t).label)) ≡ false → is_member_tag t ≡ false → (role : Role) (s : State Value Rest) → Only (λ (x : Given Value). x.beside ≡ nothing) (run names m t role s)
    bare-run t p x e g role s = ends-map (given-fits Value names m t role s) (λ y s' h. none-given t y.beside (gives_nothing t p x e g) h) (λ s' u. tt) (λ u. u)
