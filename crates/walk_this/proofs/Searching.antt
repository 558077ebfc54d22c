-- Frames that are searched from the last. Assumes nothing.
use mathlib.Core.Path.{◌≡◌, refl, sym, ap, ◌∙◌}
use mathlib.Core.Bool.{Bool, true, false, not, ◌&&◌, or-true}
use mathlib.Core.List.{List, [], ◌∷◌, ◌++◌, append-nil, append_assoc}
use Prim.Native.Nat.{ℕ, ◌+◌, ◌*◌, ◌≤◌}
use native.Mathlib.Omega.{arith}
use lib.Dec.{eqb}
use lib.ListN.{length, get_or}
use lib.Seq.{ext_get_or}
use Rattle.records.specs.Limits.{no_number}
use Rattle.records.specs.Records.{records_from, every, every_from}
use Rattle.records.specs.declared.layout.Frame.{Frame}
use Rattle.records.proofs.Series.{record_at, records-length}
use Rattle.records.proofs.Tests.{neither, every_cons}
use Rattle.walk_rules.specs.This.{has_owner, frames_from_owner, is_initialised_at, this_blocks}

abbrev pub uninitialised : ℕ → List Frame → Bool
uninitialised position fs = every (λ f. not (is_initialised_at position f)) fs

-- The frames in front are left to search. None of those behind has the scope; `waits` says that none of them was initialised.
pub record Searched (scope position : ℕ) (frames front : List Frame) (waits : Bool) : Type 0 where
  pub behind : List Frame
  pub whole : frames ≡ front ++ behind
  pub unowned : has_owner scope behind ≡ false
  pub judged : waits ≡ uninitialised position behind

-- no frame counts where none has the scope
none_owned : (scope : ℕ) (fs : List Frame) → has_owner scope fs ≡ false → frames_from_owner scope fs ≡ []
unfolding has_owner frames_from_owner
none_owned scope [] e = refl
none_owned scope (f ∷ fs) e = let p = neither (eqb f.scope scope) (has_owner scope fs) e in rw (p.0, p.1)

-- where some frame of the last ones has the scope, only those count
owner_kept : (scope : ℕ) (front behind : List Frame) → has_owner scope behind ≡ true
    → (has_owner scope (front ++ behind) ≡ true) × (frames_from_owner scope (front ++ behind) ≡ frames_from_owner scope behind)
unfolding has_owner frames_from_owner
owner_kept scope [] behind e = (e, refl)
owner_kept scope (f ∷ front) behind e =
    let later = owner_kept scope front behind e in (rw later.0 (or-true (eqb f.scope scope)), rw later.0 later.1)

module _ {scope position : ℕ} {frames : List Frame} where
  pub searched-none : Searched scope position frames frames true
  unfolding has_owner every_from
  searched-none = record { behind = []; whole = sym (append-nil frames); unowned = refl; judged = refl }

  module _ (front : List Frame) (f : Frame) {waits b : Bool} (p : Searched scope position frames (front ++ f ∷ []) waits) (eb : b ≡ is_initialised_at position f) where
    pub searched_more : eqb f.scope scope ≡ false → Searched scope position frames front (not b && waits)
    unfolding has_owner
    searched_more e = record {
      behind = f ∷ p.behind;
      whole = p.whole ∙ append_assoc front (f ∷ []) p.behind;
      unowned = rw e p.unowned;
      judged = rw (eb, p.judged) (sym (every_cons (λ g. not (is_initialised_at position g)) f p.behind));
    }

    -- the last frame that has the scope is found
    pub searched-found : eqb f.scope scope ≡ true → eqb scope no_number ≡ false → (not b && waits) ≡ this_blocks scope frames position
    unfolding this_blocks has_owner frames_from_owner
    searched-found e n =
        let kept = owner_kept scope front (f ∷ p.behind) (rw e refl) in
        rw (n, p.whole, append_assoc front (f ∷ []) p.behind, kept.1, p.unowned, e, eb, p.judged) (sym (every_cons (λ g. not (is_initialised_at position g)) f p.behind))

  -- no frame has it
  pub searched-all : (front : List Frame) {waits : Bool} → length front ≤ 0 → Searched scope position frames front waits → eqb scope no_number ≡ false
      → true ≡ this_blocks scope frames position
  unfolding this_blocks every_from
  searched-all [] over p n = rw (n, none_owned scope frames (rw p.whole p.unowned)) refl
  searched-all (f ∷ front) over p n = absurd (omega (arith, over))

-- the elements of a list are its records
pub records_of_list : {A : Type 0} (d : A) (xs : List A) → records_from (λ i. get_or xs i d) 1 (length xs) 0 ≡ xs
records_of_list d xs =
    let long = records-length (λ i. get_or xs i d) 1 (length xs) 0 in
    ext_get_or d (records_from (λ i. get_or xs i d) 1 (length xs) 0) xs long (λ i h.
    let at : 0 + 1 * i ≡ i = omega arith in record_at (λ k. get_or xs k d) 1 (length xs) i 0 d (omega (arith, h, long)) ∙ ap (λ (k : ℕ). get_or xs k d) at)
