-- What is read before a place is the same whatever stands from there on.
use mathlib.Core.Path.{◌≡◌, sym, ◌∙◌}
use mathlib.Core.List.{List, ◌++◌}
use Prim.Native.Nat.{ℕ, ◌<◌}
use lib.ListN.{length, get_or, get_or-append}

pub byte-before : (p x y : List ℕ) (i : ℕ) → i < length p → get_or (p ++ x) i 0 ≡ get_or (p ++ y) i 0
byte-before p x y i h = get_or-append p x 0 i h ∙ sym (get_or-append p y 0 i h)
