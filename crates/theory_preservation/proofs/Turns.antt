-- What a plan needs of the choice that a node makes before its other children.
use mathlib.Core.Bool.{Bool, true, false}
use mathlib.Core.Path.{◌≡◌}
use Rattle.walk_rules.specs.Substitute.{Plan, next}
use Rattle.theory_runs.specs.Form.{Choice, never, logical, conditional, optionally, Form, choice_of}
use Rattle.theory_runs.specs.Run.{Turn, all, skipped, second, third}
use Rattle.theory_preservation.proofs.Setting.{Setting}
use Rattle.theory_preservation.proofs.Passing.{Unchanging}
use Rattle.theory_preservation.proofs.Placing as P

-- the turns that a choice may lead to
unfoldable pub lets : Choice → Turn → Bool
lets never all = true
lets never skipped = false
lets never second = false
lets never third = false
lets logical all = true
lets logical skipped = true
lets logical second = false
lets logical third = false
lets conditional all = false
lets conditional skipped = false
lets conditional second = true
lets conditional third = true
lets optionally all = true
lets optionally skipped = false
lets optionally second = false
lets optionally third = false

module _ {Value Rest : Type 0} (σ : Setting Value Rest) where
  -- what a plan needs of the choice
  pub data Turns (p : Plan) (f : Form) : Type 0 where
    straight : choice_of f ≡ never → P.Meant σ (next p) all → Turns p f
    choose : Unchanging σ → ((w : Turn) → lets (choice_of f) w ≡ true → P.Meant σ (next p) w) → Turns p f
