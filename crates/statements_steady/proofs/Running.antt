-- The runs of a repeat, over the buffers. Assumes nothing.
use Prim.Native.Nat.{ℕ, suc, ◌+◌, ◌-◌, ◌≤◌, ◌<◌}
use native.Mathlib.Omega.{arith}
use mathlib.Core.Bool.{Bool, true, false, cond}
use mathlib.Core.List.{List, [], ◌∷◌, ◌++◌}
use mathlib.Core.Path.{◌≡◌, refl, sym, ap, ap₂, ◌∙◌, subst}
use lib.ListN.{length, take, drop, length-append}
use lib.Seq.{length-take-le, take-append_seam}
use lib.Dec.{eqb}
use lib.Pointwise.{pointwise}
use borrow.Author.Tests.{ltb-false}
use Rattle.std.specs.Prelude.{Ok, Err}
use Rattle.records.specs.Record.{header_of}
use Rattle.records.specs.Refusal.{refusal, room_wanted}
use Rattle.records.specs.declared.layout.Header.{Header}
use Rattle.records_refusal.specs.declared.outcome.Refusal.{Refusal}
use Rattle.records_refusal.specs.Number.{row_number}
use Rattle.records_refusal.specs.Passing.{HeaderPasses}
use Rattle.records_refusal.proofs.Rows.{refuses}
use Rattle.records_laws.proofs.Accepted.{accepted as rows-passed}
use Rattle.statements_rules.specs.Fold.{Returned, fold_bytes}
use Rattle.statements_rules.specs.Steady.{same_bytes, Repeated, at_rest, run_before, steady_bytes}
use Rattle.theory_demands.proofs.Laws.{accepted-again, result-measured, room_most, declarators-taken}
use Rattle.theory_steady.proofs.Repeat.{reached, runs-most, by_runs}
use Rattle.statements_fold.specs.declared.tables.Outcome.{Outcome}
use Rattle.statements_fold.specs.Answer.{laid_into, laid_over}
use Rattle.statements_fold.proofs.Core.{number_is, FoldsBytes}
use Rattle.statements_fold.proofs.Returning.{header_limits}
use Rattle.statements_steady.specs.declared.run.Run.{Run}
use Rattle.statements_steady.specs.Answer.{numbers, numbers_of}
use Rattle.statements_steady.specs.Run.{run_of, Runs}

-- the test of bytes is the library's
same_is : (bs cs : List ℕ) → pointwise eqb bs cs ≡ same_bytes bs cs
unfolding same_bytes
same_is [] [] = refl
same_is [] (c ∷ cs) = refl
same_is (b ∷ bs) [] = refl
same_is (b ∷ bs) (c ∷ cs) = rw (same_is bs cs) refl

-- one run, by what the core did and the comparison of its result with the bytes
pub run_refused : {bs output output' : List ℕ} {room : ℕ} (e : Refusal) → FoldsBytes bs room output output' (Err e) → Runs bs room (Err e)
run_refused e w = w.number

pub run_is : {bs output output' : List ℕ} {room : ℕ} {r : Outcome} {steady : Bool} → FoldsBytes bs room output output' (Ok r) → steady ≡ pointwise eqb (take r.length output') bs
    → Runs bs room (Ok (record { length = r.length; folds = r.folds; steady = steady }))
run_is {bs} {output' = output'} {r = r} w s =
    (w.number, rw (s ∙ same_is (take r.length output') bs, w.result, w.measured, w.folds) refl)

-- a run of accepted bytes isn't refused
pub none-refused : {A : Type 0} (bs : List ℕ) {cs : List ℕ} (room : ℕ) (e : Refusal) → row_number e ≡ refusal bs room → bs ≡ cs → refusal cs room ≡ 0 → A
none-refused bs room e q t z = absurd (omega (arith, q, ap (λ (x : List ℕ). refusal x room) t, z, refuses e))

-- a header that passes is the bytes' own
pub own-header : {bs : List ℕ} {h : Header} → HeaderPasses bs h → HeaderPasses bs (header_of bs)
own-header {bs} p = subst (HeaderPasses bs) p.is p

-- a repeat behind so many folds and runs
abbrev after : ℕ → ℕ → Repeated → Repeated
after folds runs v = record { number = v.number; result_length = v.result_length; folds = v.folds + folds; runs = v.runs + runs; result = v.result }

after_run : (folds runs : ℕ) (w : Returned) (v : Repeated) → after folds runs (run_before w v) ≡ after (folds + w.folds) (runs + 1) v
unfolding run_before
after_run folds runs w v =
    ap₂ (λ k n. record { number = v.number; result_length = v.result_length; folds = k; runs = n; result = v.result })
    (let e : w.folds + v.folds + folds ≡ v.folds + (folds + w.folds) = omega arith in e)
    (let e : suc v.runs + runs ≡ v.runs + (runs + 1) = omega arith in e)

-- Where a repeat stands: the bytes that the last run left, what the runs so far folded and how many there were, whether the last
-- of them left the bytes as they were; and what is still to come.
pub record Repeating (file : List ℕ) (room : ℕ) (bs : List ℕ) (folds runs : ℕ) (steady : Bool) : Type 0 where
  pub accepted : refusal bs room ≡ 0
  pub lower : room_wanted bs ≤ room_wanted file
  pub taken : (header_of bs).declarators + folds ≡ (header_of file).declarators
  pub rest : steady_bytes file room ≡ after folds runs (cond steady (at_rest bs) (steady_bytes bs room))

module _ (file : List ℕ) (room : ℕ) where
  begins : refusal file room ≡ 0 → Repeating file room file 0 0 false
  begins e =
      let v = steady_bytes file room in
      record {
        accepted = e;
        lower = omega arith;
        taken = omega arith;
        rest = ap₂ (λ k n. record { number = v.number; result_length = v.result_length; folds = k; runs = n; result = v.result })
            (let e : v.folds ≡ v.folds + 0 = omega arith in e)
            (let e : v.runs ≡ v.runs + 0 = omega arith in e);
      }

  run_on : {bs : List ℕ} {folds runs : ℕ} → Repeating file room bs folds runs false
      → Repeating file room (fold_bytes bs room).result (folds + (fold_bytes bs room).folds) (runs + 1) (same_bytes (fold_bytes bs room).result bs)
  unfolding room_wanted
  run_on {bs = bs} {folds = folds} {runs = runs} h =
      let w = fold_bytes bs room in
      let e = h.accepted in
      record {
        accepted = accepted-again bs room e;
        lower = let x = room_most bs room e in let y = h.lower in omega (arith, x, y);
        taken = let x = declarators-taken bs room e in let y = h.taken in omega (arith, x, y);
        rest = h.rest ∙ ap (after folds runs) (by_runs bs room e) ∙ after_run folds runs w (cond (same_bytes w.result bs) (at_rest w.result) (steady_bytes w.result room));
      }

  -- there is a run to come
  runs-left : {bs : List ℕ} {folds runs : ℕ} → Repeating file room bs folds runs false → runs < (steady_bytes file room).runs
  runs-left {bs = bs} h =
      let x = ap (λ (v : Repeated). v.runs) h.rest in
      let y = (reached bs room h.accepted).some in
      omega (arith, x, y)

-- The same over the buffers: what the last run left is at the start of `next`.
pub record Looping (file : List ℕ) (room : ℕ) (current₀ next₀ current next : List ℕ) (l folds runs : ℕ) (steady : Bool) : Type 0 where
  pub file-accepted : refusal file room ≡ 0
  pub same-current : length current ≡ length current₀
  pub same_next : length next ≡ length next₀
  pub within : l ≤ length next
  pub state : Repeating file room (take l next) folds runs steady

-- a run's result, laid down
laid-result : (bs : List ℕ) (room : ℕ) (next : List ℕ) {next' : List ℕ} → refusal bs room ≡ 0 → next' ≡ laid_over (fold_bytes bs room) next
    → ((fold_bytes bs room).result_length ≤ length next') × (take (fold_bytes bs room).result_length next' ≡ (fold_bytes bs room).result)
laid-result bs room next e w =
    let result = (fold_bytes bs room).result in
    let m = result-measured bs room e in
    let many = ap length w ∙ length-append result (drop (length result) next) in
    (omega (arith, m, many), rw (m, w) (take-append_seam result (drop (length result) next)))

-- what was copied to another buffer
pub copied : (next current : List ℕ) {current' : List ℕ} (l : ℕ) → l ≤ length next → current' ≡ take l next ++ drop (length (take l next)) current
    → take l current' ≡ take l next
copied next current l h e =
    let bs = take l next in
    let n : length bs ≡ l = length-take-le l next h in
    ap (take l) e
    ∙ ap (λ k. take k (bs ++ drop (length bs) current)) (sym n)
    ∙ take-append_seam bs (drop (length bs) current)

module _ {file : List ℕ} {room : ℕ} where
  -- the first run
  pub first_run : (current next : List ℕ) {next' : List ℕ} {r : Run} → (0 ≡ (fold_bytes file room).number) × (r ≡ run_of file room) → next' ≡ laid_over (fold_bytes file room) next
      → Looping file room current next' current next' r.length r.folds 1 r.steady
  first_run current next {next' = next'} (z, er) en =
      let e : refusal file room ≡ 0 = sym (number_is file room) ∙ sym z in
      let (l, t) = laid-result file room next e en in
      let zero : 0 + (fold_bytes file room).folds ≡ (fold_bytes file room).folds = omega arith in
      let s = run_on file room (begins file room e) in
      rw er
      (record {
        file-accepted = e;
        same-current = refl;
        same_next = refl;
        within = l;
        state = rw t (subst (λ k. Repeating file room (fold_bytes file room).result k 1 (same_bytes (fold_bytes file room).result file)) zero s);
      })

  module _ {current₀ next₀ current next : List ℕ} {l folds runs : ℕ} {steady : Bool} (h : Looping file room current₀ next₀ current next l folds runs steady) where
    measured : length (take l next) ≡ l
    measured = length-take-le l next h.within

    -- what the last run left is no longer than the room that the file wants
    pub fits : (l ≤ room_wanted file) × (l ≤ room)
    unfolding room_wanted
    fits =
        let x = h.state.lower in
        let y = ltb-false room (room_wanted (take l next)) (rows-passed (take l next) room h.state.accepted).fits in
        (omega (arith, x, measured), omega (arith, y, measured))

    module _ (on : steady ≡ false) where
      going : Repeating file room (take l next) folds runs false
      going = subst (Repeating file room (take l next) folds runs) on h.state

      -- another run, of a copy
      module _ (bs : List ℕ) {r : Run} (t : bs ≡ take l next) (er : r ≡ run_of bs room) where
        er' : r ≡ run_of (take l next) room
        er' = er ∙ ap (λ (bs : List ℕ). run_of bs room) t

        pub next-run : {current' next' : List ℕ} → next' ≡ laid_over (fold_bytes bs room) next → length current' ≡ length current → length next' ≡ length next
            → Looping file room current₀ next₀ current' next' r.length (folds + r.folds) (runs + 1) r.steady
        next-run en lc ln =
            let (k, q) = laid-result (take l next) room next h.state.accepted (en ∙ ap (λ (bs : List ℕ). laid_over (fold_bytes bs room) next) t) in
            rw er'
            (record {
              file-accepted = h.file-accepted;
              same-current = lc ∙ h.same-current;
              same_next = ln ∙ h.same_next;
              within = k;
              state = rw q (run_on file room going);
            })

        -- its sums
        pub folds-few : HeaderPasses file (header_of file) → folds + r.folds ≤ 500
        folds-few p =
            let x = (run_on file room going).taken in
            let y = (header_limits p).1 in
            let z = ap (λ (x : Run). x.folds) er' in
            omega (arith, x, y, z)

      pub runs-few : HeaderPasses file (header_of file) → runs + 1 ≤ 502
      runs-few p =
          let x = runs-left file room going in
          let y = runs-most file room h.file-accepted in
          let z = (header_limits p).1 in
          omega (arith, x, y, z)

      pub runs_fall : (steady_bytes file room).runs - (runs + 1) < (steady_bytes file room).runs - runs
      runs_fall = let x = runs-left file room going in omega (arith, x)

    -- the last run is over
    pub all-run : steady ≡ true → (output : List ℕ) {output' : List ℕ} → output' ≡ take l next ++ drop (length (take l next)) output
        → (numbers (Ok (record { length = l; folds = folds; runs = runs })) ≡ numbers_of (steady_bytes file room)) × (output' ≡ laid_into (steady_bytes file room).result output)
    unfolding at_rest
    all-run off output e =
        let done = subst (Repeating file room (take l next) folds runs) off h.state in
        let f : 0 + folds ≡ folds = omega arith in
        let n : 0 + runs ≡ runs = omega arith in
        rw (done.rest, f, n, measured) (refl, rw measured at e)
