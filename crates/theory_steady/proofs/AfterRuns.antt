-- The run of an accepted file and the run of what is left of it after any number of folds are the same. Assumes nothing.
use Prim.Native.Nat.{ℕ, zero, suc}
use mathlib.Core.Bool.{Bool, true, false, ◌&&◌, not}
use mathlib.Core.List.{List, [], ◌∷◌, ◌++◌}
use mathlib.Core.Path.{◌≡◌, refl, sym, ◌∙◌, subst}
use Rattle.records.specs.File.{File, read}
use Rattle.records.specs.Refusal.{refusal}
use Rattle.records.proofs.Tests.{clash}
use Rattle.statements_rules.specs.Trace.{Fold}
use Rattle.statements_rules.specs.Fold.{fold_file, fold_bytes}
use Rattle.theory_runs.specs.Store.{Store}
use Rattle.theory_runs.specs.Meaning.{Meaning}
use Rattle.theory_runs.specs.Script.{End, stopped, ended, Ran, run_file}
use Rattle.theory_runs.specs.Shapes.{declared, shape_r}
use Rattle.theory_runs.specs.Facts.{Each, FoldKeeps, Facts}
use Rattle.theory_runs.specs.Demand.{folded, SameEnd, both_stopped, both-ended, SameRun, Unchanged}
use Rattle.records_laws.proofs.Accepted.{accepted as rows-passed}
use Rattle.theory_preservation.proofs.Unchanged.{fold-unchanged}
use Rattle.theory_demands.proofs.Rows.{names-accepted, file_fine}
use Rattle.theory_demands.proofs.Laws.{result-reads, accepted-again}
use Rattle.theory_runs.specs.Steady.{folds_of}
use Rattle.theory_steady.proofs.Reach.{file_after}
use Rattle.theory_steady.proofs.FactsPassed.{declared-back, plain-result, facts-passed}

-- One file, its result, and what that comes to: no name is declared on the way.
not_folded : (x y z : Bool) → (y ≡ true → x ≡ true) → (z ≡ true → y ≡ true) → (x && not z) ≡ false → ((x && not y) ≡ false) × ((y && not z) ≡ false)
not_folded true true true h k e = (refl, refl)
not_folded true true false h k e = clash true e refl
not_folded true false true h k e = clash false refl (k refl)
not_folded true false false h k e = clash true e refl
not_folded false true z h k e = clash false refl (h refl)
not_folded false false z h k e = (refl, refl)

abbrev Declares : File → File → Type 0
Declares f g = (a : ℕ) → declared g a ≡ true → declared f a ≡ true

module _ (f g h : File) (x : Declares f g) (y : Declares g h) where
  folded-parts : (a : ℕ) → folded f h a ≡ false → (folded f g a ≡ false) × (folded g h a ≡ false)
  unfolding folded
  folded-parts a e = not_folded (declared f a) (declared g a) (declared h a) (x a) (y a) e

  then-end : {Value Rest : Type 0} {a b c : End Value Rest} → SameEnd f g a b → SameEnd g h b c → SameEnd f h a c
  then-end both_stopped both_stopped = both_stopped
  then-end (both-ended n r) (both-ended n' r') = both-ended (λ a e. n a (folded-parts a e).0 ∙ n' a (folded-parts a e).1) (r ∙ r')

  -- two runs that are the same, one after the other
  pub then_same : {Value Rest : Type 0} {a b c : Ran Value Rest} → SameRun f g a b → SameRun g h b c → SameRun f h a c
  then_same s t = record { steps = s.steps ∙ t.steps; values = s.values ∙ t.values; end = then-end s.end t.end }

same_end : {Value Rest : Type 0} (f : File) (a : End Value Rest) → SameEnd f f a a
same_end f stopped = both_stopped
same_end f (ended s) = both-ended (λ a e. refl) refl

pub same-run : {Value Rest : Type 0} (f : File) (a : Ran Value Rest) → SameRun f f a a
same-run f a = record { steps = refl; values = refl; end = same_end f a.end }

each-parts : {A : Type 0} (P : A → Type 0) (xs ys : List A) → Each P (xs ++ ys) → Each P xs × Each P ys
each-parts P [] ys h = (tt, h)
each-parts P (x ∷ xs) ys (p, h) = let (a, b) = each-parts P xs ys h in ((p, a), b)

declared-after : (runs : ℕ) (f : File) → Declares f (file_after runs f)
unfolding file_after
declared-after zero f a e = e
declared-after (suc runs) f a e = declared-back f a (declared-after runs (fold_file f).file a e)

first-facts : {Value Rest : Type 0} (f : File) (trace φs : List Fold) (m : Meaning Value Rest) (start : Store Value Rest) → Facts f trace m start → Each (FoldKeeps f.names m start) φs → Facts f φs m start
first-facts f trace φs m start facts kept = record {
  reads_hidden = facts.reads_hidden;
  chooses_hidden = facts.chooses_hidden;
  acts_hidden = facts.acts_hidden;
  writes_hidden = facts.writes_hidden;
  settled-kept = facts.settled-kept;
  this-kept = facts.this-kept;
  targets-kept = kept;
}

-- The claim after any number of runs.
pub unchanged-after : (runs : ℕ) (bytes : List ℕ) (room : ℕ) → refusal bytes room ≡ 0 → shape_r (read bytes) ≡ false → Unchanged (read bytes) (file_after runs (read bytes)) (folds_of runs (read bytes))
unfolding file_after folds_of
unchanged-after zero bytes room e plain Value Rest m start facts = same-run (read bytes) (run_file m (read bytes) start)
unchanged-after (suc runs) bytes room e plain Value Rest m start facts =
    let f = read bytes in
    let g = (fold_file f).file in
    let rows = rows-passed bytes room e in
    let files = result-reads bytes room e in
    let (a, b) = each-parts (FoldKeeps f.names m start) (fold_file f).trace (folds_of runs g) facts.targets-kept in
    let one = fold-unchanged f (names-accepted bytes room rows) (file_fine bytes room rows plain) Value Rest m start (first-facts f _ (fold_file f).trace m start facts a) in
    let others : Unchanged g (file_after runs g) (folds_of runs g) =
    subst (λ h. Unchanged h (file_after runs h) (folds_of runs h)) files
    (unchanged-after runs (fold_bytes bytes room).result room (accepted-again bytes room e) (subst (λ h. shape_r h ≡ false) (sym files) (plain-result bytes room e plain))) in
    then_same f g (file_after runs g) (declared-back f) (declared-after runs g) one (others Value Rest m start (facts-passed bytes room e plain m start _ (folds_of runs g) facts b))
