-- The answers that a pattern leaves out. Assumes nothing.
use mathlib.Core.Bool.{Bool, false}
use mathlib.Core.Path.{◌≡◌, refl}
use Rattle.walk_arms.specs.declared.walked.Answer.{Answer}
use Rattle.walk_arms.specs.declared.walked.Answer.TheVariants.{Replaced, Stopped, Passed}
use Rattle.records.specs.declared.layout.NodeId.{NodeId}
use Rattle.walk_arms.specs.Answers.{is_passed, is_replaced}

-- replaced or stopped
pub unpassed : (w : Answer) → ((effect : Bool) → w ≡ Passed effect → ⊥) → is_passed w ≡ false
unpassed (Replaced place indirect) h = refl
unpassed Stopped h = refl
unpassed (Passed effect) h = absurd (h effect refl)

-- stopped or passed
pub unreplaced : (w : Answer) → ((place : NodeId) (indirect : Bool) → w ≡ Replaced place indirect → ⊥) → is_replaced w ≡ false
unreplaced (Replaced place indirect) h = absurd (h place indirect refl)
unreplaced Stopped h = refl
unreplaced (Passed effect) h = refl
