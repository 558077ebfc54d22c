-- What is known of a node over its first child, where a search enters this and it is the name.
use Prim.Native.Nat.{ℕ}
use mathlib.Core.Bool.{Bool, false, ◌&&◌}
use mathlib.Core.Path.{◌≡◌}
use Rattle.records.specs.Tree.{Node, Tree}
use Rattle.records.specs.Place.{root}
use Rattle.walk_rules.specs.Substitute.{is_specific_id, is_member_tag}
use Rattle.theory_runs.specs.Form.{is, is_delete, Form, is_chain, is_assignment}

module _ (v : ℕ) (r : Tree) where
  -- the tree is the name, and in its place r gives a member
  abbrev pub spills : Tree → Bool
  spills t = is_specific_id v (root t) && is_member_tag r

  -- what is known of a node over its first child, where the search enters this
  pub record Entering (f : Form) (n : Node) (t : Tree) : Type 0 where
    pub uncalled : (is 14 n && spills t) ≡ false
    pub untagged : (is 24 n && spills t) ≡ false
    pub undeleted : is_delete n ≡ false
    pub unassigned : is_assignment f ≡ false
    pub unchained : (is_chain f && is_specific_id v (root t)) ≡ false
