-- one more record behind those that fill the first i places
use mathlib.Core.Path.{◌≡◌, refl, sym, ap, ap₂, ◌∙◌}
use mathlib.Core.List.{List, [], ◌∷◌, ◌++◌}
use Prim.Native.Nat.{ℕ, suc, ◌+◌, ◌*◌, ◌<◌}
use native.Mathlib.Omega.{arith}
use lib.ListN.{length, take, set, length-set}
use lib.Seq.{take-suc-set}
use Rattle.records.specs.Record.{frame_at}
use Rattle.records.specs.Records.{records_from}
use Rattle.walk_this.proofs.LastRecord.{last_record}
use Rattle.walk_this.proofs.body_frames.frames_of.Goals as goal

put-more : {A : Type 0} (readAt : ℕ → A) (len from i : ℕ) (xs : List A) (x : A) → i < length xs → take i xs ≡ records_from readAt len i from → x ≡ readAt (from + len * i)
    → take (i + 1) (set xs i x) ≡ records_from readAt len (i + 1) from
put-more readAt len from i xs x h e ex =
    let k : i + 1 ≡ suc i = omega arith in
    rw k (take-suc-set xs i x h) ∙ ap₂ ◌++◌ e (ap (λ y. y ∷ []) ex) ∙ sym (last_record readAt len i from)

pub loop-i-init : goal.loop-i-init
unfolding records_from
loop-i-init c = (omega arith, refl, refl)

pub loop-i-preserved : goal.loop-i-preserved
loop-i-preserved c =
    let l = c.loop-i in
    (omega arith, length-set l.frames l.i c.frame_at.result ∙ l.invariant.1, put-more (frame_at _) 8 _ l.i l.frames c.frame_at.result (omega arith) l.invariant.2 c.frame_at.ensures.result)
