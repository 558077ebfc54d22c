-- Two changes that no run sees: the shorthands that a stopped search cleared, and an empty declaration that was dropped.
use mathlib.Core.List.{List, [], ◌∷◌, ◌++◌}
use mathlib.Core.Path.{◌≡◌, sym, ap, ◌∙◌}
use Rattle.records.specs.File.{Statement, declaration}
use Rattle.records.specs.declared.layout.NameFacts.{NameFacts}
use Rattle.walk_rules.specs.Context.{Context}
use Rattle.theory_runs.specs.Step.{value}
use Rattle.theory_runs.specs.Meaning.{Meaning}
use Rattle.theory_runs.specs.State.{State, bind}
use Rattle.theory_runs.specs.Script.{run_declarators, run_statement, run_statements}
use Rattle.theory_preservation.proofs.Passing.{bind-same, gave-bind}
use Rattle.theory_preservation.proofs.Stopped.{stopped-same}
use Rattle.theory_preservation.proofs.Site.{at_site, statements-append}
use Rattle.theory_preservation.proofs.Places.{declarators_at, statements_at, behind, place-run}
use Rattle.theory_preservation.proofs.Moves.{StopAt, DropAt}

module _ {Value Rest : Type 0} (names : List NameFacts) (m : Meaning Value Rest) (ctx : Context) (P Q : List Statement) (s : State Value Rest) where
  -- a search that stopped: the program runs the same
  pub stop-same : StopAt ctx P Q → run_statements names m P s ≡ run_statements names m Q s
  stop-same move =
      ap (λ X. run_statements names m X s) move.from
      ∙ at_site names m move.before move.kind move.earlier (declarators_at move.place move.old) (statements_at move.place move.old move.after) s
      ∙ bind-same (run_statements names m (move.before ++ (declaration move.kind move.earlier ∷ [])) s) _ _ (λ u s'.
      place-run names m move.kind move.place move.after move.old s'
      ∙ ap (λ o. bind o (λ x s''. behind names m move.kind move.place move.after x.value s'')) (sym (stopped-same names m ctx move.name move.initial move.old move.new move.ended value s'))
      ∙ sym (place-run names m move.kind move.place move.after move.new s'))
      ∙ sym (at_site names m move.before move.kind move.earlier (declarators_at move.place move.new) (statements_at move.place move.new move.after) s)
      ∙ ap (λ X. run_statements names m X s) (sym move.into)

  empty-run : (move : DropAt ctx P Q) (s' : State Value Rest) → run_statements names m (declaration move.kind [] ∷ move.after) s' ≡ run_statements names m move.after s'
  unfolding run_statements run_statement run_declarators
  empty-run move s' = gave-bind tt s' (λ u s''. run_statements names m move.after s'')

  -- an empty declaration that was dropped: the program runs the same
  pub drop-same : DropAt ctx P Q → run_statements names m P s ≡ run_statements names m Q s
  drop-same move =
      ap (λ X. run_statements names m X s) move.from
      ∙ statements-append names m move.before (declaration move.kind [] ∷ move.after) s
      ∙ bind-same (run_statements names m move.before s) _ _ (λ u s'. empty-run move s')
      ∙ sym (statements-append names m move.before move.after s)
      ∙ ap (λ X. run_statements names m X s) (sym move.into)
