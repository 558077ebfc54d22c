-- What the repeat returns and writes of a refused file, what else holds of it, and the room that it wants. Assumes nothing.
use Prim.Native.Nat.{ℕ, ◌+◌, ◌*◌, ◌≤◌}
use native.Mathlib.Omega.{arith}
use mathlib.Core.Bool.{Bool, true, false}
use mathlib.Core.List.{List}
use mathlib.Core.Path.{◌≡◌, refl, ap}
use lib.Dec.{eqb}
use borrow.Author.Tests.{eqb-true, ne_eqb, leb-true}
use Rattle.records.specs.Limits.{max_names, max_scopes, max_frames, max_nodes, max_statements, max_room}
use Rattle.records.specs.Record.{header_of}
use Rattle.records.specs.Refusal.{refusal, room_wanted}
use Rattle.records.specs.declared.layout.Header.{Header}
use Rattle.std.specs.Prelude.{Err}
use Rattle.records_refusal.specs.declared.outcome.Refusal.{Refusal}
use Rattle.records_refusal.specs.Number.{row_number}
use Rattle.records_refusal.specs.Passing.{HeaderPasses}
use Rattle.records_refusal.proofs.Rows.{refuses}
use Rattle.records_refusal.proofs.Limits.{length_said}
use Rattle.statements_rules.specs.Steady.{refused_repeat, steady_bytes}
use Rattle.theory_demands.proofs.Limits.{limits-parts}
use Rattle.theory_steady.proofs.Repeat.{reached, runs-most, result-steady, more-runs, until_refused}
use Rattle.statements_fold.specs.Answer.{laid_into}
use Rattle.statements_steady.specs.Answer.{numbers, numbers_of}
use Rattle.statements_steady.specs.Laws.{SteadyLaws}

-- a file that is refused
pub all-refused : (file : List ℕ) (room : ℕ) (output : List ℕ) (e : Refusal) → row_number e ≡ refusal file room
    → (numbers (Err e) ≡ numbers_of (steady_bytes file room)) × (output ≡ laid_into (steady_bytes file room).result output)
unfolding steady_bytes refused_repeat
all-refused file room output e q = rw (← q, ne_eqb (row_number e) 0 (λ z. omega (arith, z, refuses e))) (refl, refl)

-- what holds of every file
runs-bound : (file : List ℕ) (room : ℕ) → (steady_bytes file room).runs ≤ (header_of file).declarators + 2
runs-bound file room = by (eqb (refusal file room) 0) refl
  where
    by : (b : Bool) → eqb (refusal file room) 0 ≡ b → (steady_bytes file room).runs ≤ (header_of file).declarators + 2
    by true e = runs-most file room (eqb-true (refusal file room) 0 e)
    by false e = rw (until_refused file room e) (unfold refused_repeat in omega arith)

pub laws : (file : List ℕ) (room : ℕ) → SteadyLaws file room
laws file room = record {
  runs = runs-bound file room;
  enough = λ e most l. more-runs file room e most l;
  steady = λ e. result-steady file room e;
  accepted = λ e. (reached file room e).accepted;
}

-- no file within the limits wants more room
pub room_limit : {bs : List ℕ} {h : Header} → HeaderPasses bs h → room_wanted bs ≤ max_room
unfolding room_wanted
room_limit {bs} {h} p =
    let w = (limits-parts h p.limits).0 in
    let a = leb-true h.names max_names w.names in
    let b = leb-true h.scopes max_scopes w.scopes in
    let c = leb-true h.frames max_frames w.frames in
    let d = leb-true (h.nodes + 2 * h.declarators) max_nodes w.nodes in
    let e = leb-true h.statements max_statements w.statements in
    let l = length_said bs h p.measured in
    omega (arith, a, b, c, d, e, l, ap (λ (x : Header). x.declarators) p.is)
