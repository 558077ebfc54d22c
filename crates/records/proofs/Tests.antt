-- Tests that hold: of two, of three, of every record. Assumes nothing.
use mathlib.Core.Path.{◌≡◌, refl, sym, ap, ap₂, ◌∙◌}
use mathlib.Core.Bool.{Bool, true, false, ◌&&◌, ◌||◌, and_assoc, true≢false, false≢true}
use mathlib.Core.List.{List, [], ◌∷◌, ◌++◌}
use Prim.Native.Nat.{ℕ, ◌+◌, ◌≤◌}
use native.Mathlib.Omega.{arith}
use lib.ListN.{take, drop, take-append-drop}
use Rattle.records.specs.Records.{every, every_from}
use Rattle.records.specs.File.{one}

-- both of two tests that hold together
pub both : (a b : Bool) → (a && b) ≡ true → (a ≡ true) × (b ≡ true)
both true b h = (refl, h)
both false b h = absurd (false≢true h)

pub and_left : (a b : Bool) → (a && b) ≡ true → a ≡ true
and_left a b h = (both a b h).0

pub and_right : (a b : Bool) → (a && b) ≡ true → b ≡ true
and_right a b h = (both a b h).1

-- all of three
pub all_three : (a b c : Bool) → (a && b && c) ≡ true → (a ≡ true) × (b ≡ true) × (c ≡ true)
all_three a b c h = let p = both (a && b) c h in let q = both a b p.0 in (q.0, q.1, p.1)

-- neither of two, if none holds
pub neither : (a b : Bool) → (a || b) ≡ false → (a ≡ false) × (b ≡ false)
neither true b h = absurd (true≢false h)
neither false b h = (refl, h)

-- a test counts for 1 at most
pub one-most : (b : Bool) → one b ≤ 1
one-most true = omega arith
one-most false = omega arith

-- no test both holds and fails
pub clash : {A : Type 0} (b : Bool) → b ≡ false → b ≡ true → A
clash b e g = absurd (true≢false (sym g ∙ e))

module _ {A : Type 0} (good : A → Bool) where
  -- a test of each record by itself doesn't see its number
  pub every-from : (i j : ℕ) (xs : List A) → every_from (λ n. good) i xs ≡ every_from (λ n. good) j xs
  unfolding every_from
  every-from i j [] = refl
  every-from i j (x ∷ xs) = ap (λ (b : Bool). good x && b) (every-from (i + 1) (j + 1) xs)

  -- every record: the first and the others
  pub every_cons : (x : A) (xs : List A) → every good (x ∷ xs) ≡ (good x && every good xs)
  unfolding every_from
  every_cons x xs = ap (λ (b : Bool). good x && b) (every-from 1 0 xs)

  -- if every record is good, the first is, and the others are
  pub every-parts : (x : A) (xs : List A) → every good (x ∷ xs) ≡ true → (good x ≡ true) × (every good xs ≡ true)
  every-parts x xs h = both (good x) (every good xs) (sym (every_cons x xs) ∙ h)

  -- and the other way round
  pub every_more : (x : A) (xs : List A) → good x ≡ true → every good xs ≡ true → every good (x ∷ xs) ≡ true
  every_more x xs h hs = every_cons x xs ∙ ap₂ ◌&&◌ h hs

  -- every record of two lists
  pub every_append : (xs ys : List A) → every good (xs ++ ys) ≡ (every good xs && every good ys)
  unfolding every_from
  every_append [] ys = refl
  every_append (x ∷ xs) ys = rw (every_cons x (xs ++ ys), every_cons x xs, every_append xs ys, and_assoc)

  -- if every record is good, the first k are, and those behind them
  pub every-cut : (k : ℕ) (xs : List A) → every good xs ≡ true → (every good (take k xs) ≡ true) × (every good (drop k xs) ≡ true)
  every-cut k xs h = both (every good (take k xs)) (every good (drop k xs)) (sym (every_append (take k xs) (drop k xs)) ∙ ap (every good) (take-append-drop k xs) ∙ h)

-- if every record passes a test, every one passes a weaker one
pub every_weaker : {A : Type 0} (good fair : A → Bool) → ((x : A) → good x ≡ true → fair x ≡ true) → (xs : List A) → every good xs ≡ true → every fair xs ≡ true
unfolding every_from
every_weaker good fair w [] h = refl
every_weaker good fair w (x ∷ xs) h =
    let p = every-parts good x xs h in
    every_more fair x xs (w x p.0) (every_weaker good fair w xs p.1)
