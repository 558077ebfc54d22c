-- The numbers of the exported answers.
use Rattle.statements_fold.specs.Answer.{Numbers}
use Rattle.statements_steady.specs.Answer.{Numbers as SteadyNumbers}
use Rattle.statements_measure.specs.Measure.{Numbers as MeasureNumbers}
use Rattle.wsf.specs.declared.WsfAnswer.{WsfAnswer}
use Rattle.wsf.specs.declared.steady.WsfSteady.{WsfSteady}
use Rattle.wsf.specs.declared.measure.WsfMeasure.{WsfMeasure}

abbrev pub answer_numbers : WsfAnswer → Numbers
answer_numbers a = record { number = a.number; result_length = a.length; folds = a.folds }

abbrev pub steady_numbers : WsfSteady → SteadyNumbers
steady_numbers a = record { number = a.number; result_length = a.length; folds = a.folds; runs = a.runs }

abbrev pub measure_numbers : WsfMeasure → MeasureNumbers
measure_numbers a = record { number = a.number; result_length = a.length; looks = a.looks }
