-- The effects of a forest. Assumes nothing.
use mathlib.Core.Path.{◌≡◌, refl, sym}
use mathlib.Core.Bool.{Bool, true, false, ◌||◌}
use Rattle.records.specs.Tree.{Trees, none, more, joined}
use Rattle.walk_rules.specs.Effect.{may_have_side_effects, any_has_side_effects}

pub or_assoc : (a b c : Bool) → ((a || b) || c) ≡ (a || (b || c))
or_assoc true b c = refl
or_assoc false b c = refl

-- a node's effect, moved from its tree to what was passed before it
pub or_passed : (effect own kids after : Bool) → ((effect || own) || (kids || after)) ≡ (effect || ((own || kids) || after))
or_passed true own kids after = refl
or_passed false own kids after = sym (or_assoc own kids after)

-- two forests joined
pub effects-joined : (ts us : Trees) → any_has_side_effects (joined ts us) ≡ (any_has_side_effects ts || any_has_side_effects us)
unfolding joined any_has_side_effects
effects-joined none us = refl
effects-joined (more t ts) us = rw (effects-joined ts us) (sym (or_assoc (may_have_side_effects t) _ _))
