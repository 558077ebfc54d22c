use Prim.Native.Nat.{◌-◌}
use Rattle.statements_rules.specs.Steady.{steady_bytes}
use Rattle.statements_steady.proofs.Running.{Looping}
use Rattle.statements_steady.proofs.repeat.repeat_over.Given as goal

abbrev pub invariant-loop-steady : goal.invariant-loop-steady
invariant-loop-steady l = Looping l.headed.file.bytes.now l.room l.initial.current l.initial.next l.current l.next l.length l.folds l.runs l.steady

abbrev pub decreases-loop-steady : goal.decreases-loop-steady
decreases-loop-steady l = (steady_bytes l.headed.file.bytes.now l.room).runs - l.runs
