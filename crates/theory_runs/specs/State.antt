-- Where a run is, and how a part of it comes out.
use Rattle.std.specs.Prelude.{List}
use Rattle.theory_runs.specs.Store.{Store}
use Rattle.theory_runs.specs.Step.{Step}

-- "The list holds marked steps and import steps in the order made", here the last one first; the values that statements gave
-- stand the same way.
pub record Log (Value : Type 0) : Type 0 where
  pub steps : List (Step Value)
  pub values : List Value

pub record State (Value Rest : Type 0) : Type 0 where
  pub store : Store Value Rest
  pub log : Log Value

-- A part of a run gives something; or cuts short the chain that it stands in; or stops the run: "a run that stops ends its
-- list with that step".
pub data Out (Value Rest A : Type 0) : Type 0 where
  gave : A → State Value Rest → Out Value Rest A
  cut : State Value Rest → Out Value Rest A
  stop : Log Value → Out Value Rest A

-- a part of a run, from any state
abbrev pub Part : Type 0 → Type 0 → Type 0 → Type 0
Part Value Rest A = State Value Rest → Out Value Rest A

-- how one part came out, and then another that has what it gave
unfoldable pub bind : {Value Rest A B : Type 0} → Out Value Rest A → (A → Part Value Rest B) → Out Value Rest B
bind (gave a s) next = next a s
bind (cut s) next = cut s
bind (stop l) next = stop l
