-- Tests: what is known of two of them together, and of the numbers 1 and 0 that stand for them.
use Prim.Native.Nat.{◌≤◌}
use native.Mathlib.Omega.{arith}
use mathlib.Core.Bool.{Bool, true, false, cond, ◌&&◌, ◌||◌, not}
use mathlib.Core.Path.{◌≡◌, refl, sym, ◌∙◌}
use Rattle.records.specs.File.{one}
use Rattle.records.proofs.Tests.{both}

pub and_mid : (x y z : Bool) → (x && y && z) ≡ true → y ≡ true
and_mid x y z e = (both x y (both (x && y) z e).0).1

pub and_off : (x y : Bool) → y ≡ false → (x && y) ≡ false
and_off true y e = e
and_off false y e = refl

pub and_then : (x y : Bool) → x ≡ true → (x && y) ≡ false → y ≡ false
and_then true y e g = g
and_then false y e g = cc

pub and_on : (x y : Bool) → y ≡ true → (x && y) ≡ false → x ≡ false
and_on true y g e = sym g ∙ e
and_on false y g e = refl

pub or_left : (x y : Bool) → x ≡ true → (x || y) ≡ true
or_left true y e = refl
or_left false y e = cc

pub or_right : (x y : Bool) → y ≡ true → (x || y) ≡ true
or_right true y e = refl
or_right false y e = e

pub by_or : {A : Type 0} (x y : Bool) → (x ≡ true → A) → (y ≡ true → A) → (x || y) ≡ true → A
by_or true y f g e = f refl
by_or false y f g e = g e

pub same_cond : {A : Type 0} (b : Bool) (x : A) → cond b x x ≡ x
same_cond true x = refl
same_cond false x = refl

-- The number of a test, and of its contrary.
pub one_on : (b : Bool) → one b ≡ 0 → b ≡ false
one_on true e = absurd (omega arith)
one_on false e = refl

pub one-off : (b : Bool) → one (not b) ≡ 0 → b ≡ true
one-off true e = refl
one-off false e = absurd (omega arith)

pub one_none : (b : Bool) → b ≡ false → one b ≡ 0
one_none b e = rw e

pub one_not : (b : Bool) → b ≡ true → one (not b) ≡ 0
one_not b e = rw e

pub one_of : (b : Bool) → b ≡ true → 1 ≤ one b
one_of b e = rw e (omega arith)
