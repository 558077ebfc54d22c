-- Files with a direct eval, a pattern or a kind 6 statement, and a meaning in which these set every name, and read v or don't.
-- Where they read v, the facts aren't true of it for a file that has such a call or statement; asked of every step, and not of
-- the file's alone, they wouldn't be for Witness's file either. Where a pattern and a kind 6 statement only set names, they
-- are. Assumes nothing.
use Prim.Native.Nat.{ℕ}
use mathlib.Core.Bool.{Bool, true, false, cond}
use mathlib.Core.List.{List, [], ◌∷◌, ◌++◌}
use mathlib.Core.Path.{◌≡◌, refl}
use native.Mathlib.Omega.{arith}
use Rattle.records.specs.Limits.{no_number}
use Rattle.records.specs.Count.{name_read, uses_in}
use Rattle.records.specs.Refusal.{refusal}
use Rattle.records.specs.File.{Const, given, Statement, declaration, expression, other, File, initializer_tree, initializer_trees, statement_trees, all_trees, print}
use Rattle.walk_rules.specs.Context.{context_of, facts_of}
use Rattle.statements_rules.specs.Trace.{Fold}
use Rattle.statements_rules.specs.Fold.{fold_file}
use Rattle.statements_rules.proofs.Computed.{computed}
use Rattle.theory_runs.specs.Store.{Store, set}
use Rattle.theory_runs.specs.Hand.{bare_eval, Given, first_or}
use Rattle.theory_runs.specs.Step.{value, Origin, of_node, of_other, Step}
use Rattle.theory_runs.specs.Meaning.{Act, done, stops, Meaning}
use Rattle.theory_runs.specs.Makes.{Asked, choice, step, makes, makes_act}
use Rattle.theory_runs.specs.Facts.{reads_stand, through_by, through, AgreeBut, ActsAlike, both-done, both-stop, Facts}
use Rattle.theory_runs.proofs.Witness.{name, call, facts, file_of, statements, trace, Bench, is_direct, is_free, bench, start, made, Unread, true_of, kept_here}

-- Every name is set to 0; v is read or not.
unfoldable pub resets : Bool → Meaning ℕ Bench
resets read = record {
  undefined = 0;
  constant = λ x. 0;
  reads = λ x s. cond read (s.names 0) 0;
  chooses = λ x s. false;
  acts = λ x s. done (cond read (s.names 0) 0) (record { names = λ a. 0; rest = s.rest });
}

-- a direct eval without arguments, and a kind 6 statement's step
abbrev eval_step : Step ℕ
eval_step = record { origin = of_node 14 0 1 value; hand = record { value = 0; beside = bare_eval } ∷ [] }

abbrev other_step : Step ℕ
other_step = record { origin = of_other; hand = [] }

-- what `acts_hidden` asks of a step for v, where v is read
abbrev Alike : Step ℕ → Type 0
Alike x = (s s' : Store ℕ Bench) → AgreeBut 0 s s' → ActsAlike 0 ((bench (resets true)).acts x s) ((bench (resets true)).acts x s')

unfoldable given_by : Act ℕ Bench → ℕ
given_by (done w s) = w
given_by stops = 0

same-given : {a : ℕ} {x y : Act ℕ Bench} → ActsAlike a x y → given_by x ≡ given_by y
unfolding given_by
same-given (both-done h) = refl
same-given both-stop = refl

-- It isn't true of a step that gives what v holds: 10 in one store, 11 in the other.
not_alike : (x : Step ℕ) → is_free x.origin x.hand ≡ true → Alike x → ⊥
unfolding bench resets set given_by
not_alike x e h =
    let z : ◌≡◌ {A = ℕ} 10 11 = rw e at (same-given (h start (set 0 11 start) (record { names = λ n d. rw d; rest = refl }))) in
    omega arith

eval_not_alike : Alike eval_step → ⊥
unfolding is_free is_direct first_or
eval_not_alike h = not_alike eval_step refl h

other_not_alike : Alike other_step → ⊥
unfolding is_free
other_not_alike h = not_alike other_step refl h

-- So asked of every step `acts_hidden` isn't true of this meaning, for any file in which the reads of v all stand.
too_many : ((x : Step ℕ) → through 0 x ≡ false → Alike x) → ⊥
unfolding through_by
too_many h = other_not_alike (h other_step refl)

-- Three accepted files: Witness's script with a kind 6 statement at its end; with `eval();` there, where name 4 is `eval`,
-- unresolved; with `const {..} = o;` and a kind 6 statement.
abbrev with_other : File
with_other = file_of facts (statements ++ other ∷ [])

abbrev with_eval : File
with_eval = file_of (facts ++ record { flags = 384; scope = no_number; reads = 0; writes = 0 } ∷ []) (statements ++ expression (call 4) ∷ [])

abbrev binding : List Statement
binding = statements ++ declaration Const (record { name = no_number; initializer = given (name 3) } ∷ []) ∷ other ∷ []

all-accepted : (refusal (print with_other) 1000 ≡ 0) × (refusal (print with_eval) 1000 ≡ 0) × (refusal (print (file_of facts binding)) 1000 ≡ 0)
unfolding computed
all-accepted = (refl, refl, refl)

-- Where v is read: its one read stands in the first two, as it does in Witness's file, and each makes its step.
reads-stand : (reads_stand with_other 0 ≡ true) × (reads_stand with_eval 0 ≡ true) × (reads_stand (file_of facts statements) 0 ≡ true)
unfolding reads_stand context_of facts_of name_read uses_in initializer_tree initializer_trees statement_trees all_trees
reads-stand = (refl, refl, refl)

makes-other : makes_act with_other other_step ≡ true
unfolding made
makes-other = refl

makes_eval : makes_act with_eval eval_step ≡ true
unfolding made
makes_eval = refl

pub other_not_met : (folds : List Fold) → Facts with_other folds (bench (resets true)) start → ⊥
unfolding through_by
other_not_met folds h = other_not_alike (h.acts_hidden 0 reads-stand.0 other_step makes-other refl)

pub eval_not_met : (folds : List Fold) → Facts with_eval folds (bench (resets true)) start → ⊥
unfolding through_by
eval_not_met folds h = eval_not_alike (h.acts_hidden 0 reads-stand.1 eval_step makes_eval refl)

-- Where v isn't read, a pattern and a kind 6 statement may set it, and every other name: "makes a marked step, which may also
-- bind names".
binding-no_eval : (d : Asked) (o : Origin) (w : ℕ) (hs : List (Given ℕ)) → makes d (file_of facts binding) (record { origin = o; hand = record { value = w; beside = bare_eval } ∷ hs }) ≡ false
unfolding made
binding-no_eval choice o w hs = refl
binding-no_eval (step b) o w hs = refl

unread : (d : Asked) (x : Step ℕ) → Unread (resets false) d x
unfolding resets
unread choice x = λ a s s' g. refl
unread (step false) x = λ a s s' g. refl
unread (step true) x = λ a s s' g. both-done (record { names = λ n e. refl; rest = g.rest })

pub binding-met : Facts (file_of facts binding) trace (bench (resets false)) start
binding-met = true_of (resets false) facts binding binding-no_eval (λ d x k e. unread d x) trace (kept_here (resets false), tt)

-- these are the folds made in it
binding-folds : (fold_file (file_of facts binding)).trace ≡ trace
unfolding computed
binding-folds = refl
