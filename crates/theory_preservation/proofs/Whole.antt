-- The fold of a file keeps its run: all moves together.
use Prim.Native.Nat.{ℕ, ◌≤◌}
use native.Mathlib.Omega.{arith}
use mathlib.Core.Bool.{Bool, true, false, cond}
use mathlib.Core.List.{List, [], ◌∷◌, reverse}
use mathlib.Core.Path.{◌≡◌, refl, sym, ap, ◌∙◌, subst, fun_ext}
use lib.Dec.{eqb}
use borrow.Author.Tests.{eqb-true}
use Rattle.records.specs.File.{Statement, File}
use Rattle.records.proofs.Tests.{clash}
use Rattle.walk_rules.specs.Context.{context_of}
use Rattle.statements_rules.specs.Trace.{Fold}
use Rattle.statements_rules.specs.Fold.{folded_file, with_statements, fold_file}
use Rattle.theory_runs.specs.Store.{Store, set}
use Rattle.theory_runs.specs.Meaning.{Meaning}
use Rattle.theory_runs.specs.State.{Log, State, Out, gave, cut, stop}
use Rattle.theory_runs.specs.Script.{run_statements, begin, stopped, ended, whole, ran, run_file}
use Rattle.theory_runs.specs.Shapes.{declared}
use Rattle.theory_runs.specs.Facts.{Each, FoldKeeps}
use Rattle.theory_runs.specs.Demand.{folded, both_stopped, both-ended, SameRun}
use Rattle.theory_preservation.proofs.OfAll.{FactsOfAll}
use Rattle.theory_preservation.proofs.Frame.{Shift, moved, shifted}
use Rattle.theory_preservation.proofs.Passing.{Put}
use Rattle.theory_preservation.proofs.Moves.{Moves, done, fold, stop as halt, drop, file-moves}
use Rattle.theory_preservation.proofs.Totals.{declarations, declaring}
use Rattle.theory_preservation.proofs.Fine.{Accepted, Fine}
use Rattle.theory_preservation.proofs.FineKept.{stop_fine, drop_fine}
use Rattle.theory_preservation.proofs.FoldKept.{fold-kept, fold_fine, declared-there, gone}
use Rattle.theory_preservation.proofs.Unseen.{stop-same, drop-same}
use Rattle.theory_preservation.proofs.Declared.{declared-none}
use Rattle.theory_preservation.proofs.Sums.{fold-declared, stop-declared, drop-sum}

erase_at : {Value : Type 0} (x y : Bool) (u w z : Value) → (x ≡ false → y ≡ false) → cond x u (cond y w z) ≡ cond x u z
erase_at true y u w z h = refl
erase_at false true u w z h = clash true (h refl) refl
erase_at false false u w z h = refl

-- the values of some names forgotten
module _ {Value Rest : Type 0} (V' : ℕ → Bool) (u : Value) where
  unfoldable Erase : Shift Value Rest
  Erase = record { on = λ s. record { names = λ n. cond (V' n) u (s.names n); rest = s.rest }; to = λ l. l }

  erase_put : (v : ℕ) (w : Value) (s : State Value Rest) → V' v ≡ true → moved Erase (moved (Put v w) s) ≡ moved Erase s
  unfolding moved Erase Put set
  erase_put v w s e = λ i. record { store = record { names = fun_ext (λ n. erase_at (V' n) (eqb n v) u w (s.store.names n) (other n)) i; rest = s.store.rest }; log = s.log }
    where
      other : (n : ℕ) → V' n ≡ false → eqb n v ≡ false
      other n g = by (eqb n v) refl
        where
          by : (b : Bool) → eqb n v ≡ b → eqb n v ≡ false
          by true q = clash (V' n) g (subst (λ x. V' x ≡ true) (sym (eqb-true n v q)) e)
          by false q = q

  erase_shift : {A : Type 0} (v : ℕ) (w : Value) (o : Out Value Rest A) → V' v ≡ true → shifted Erase (shifted (Put v w) o) ≡ shifted Erase o
  unfolding shifted
  erase_shift v w (gave a s) e = ap (gave a) (erase_put v w s e)
  erase_shift v w (cut s) e = ap cut (erase_put v w s e)
  erase_shift v w (stop l) e = unfold Put in refl

  erase_same : {A : Type 0} (v : ℕ) (w : Value) (o o' : Out Value Rest A) → V' v ≡ true → shifted (Put v w) o ≡ shifted (Put v w) o' → shifted Erase o ≡ shifted Erase o'
  erase_same v w o o' e h = sym (erase_shift v w o e) ∙ ap (shifted Erase) h ∙ erase_shift v w o' e

-- no move declares a name
module _ (f : File) (a : ℕ) where
  moves-declared : {P Q : List Statement} {φs : List Fold} → Moves (context_of f) P Q φs → declarations a Q ≤ declarations a P
  moves-declared (done e g) = rw e (omega arith)
  moves-declared (fold M φ ψs m e k) = let x = fold-declared m a in let y = moves-declared k in omega (arith, x, y)
  moves-declared (halt M m k) = let x = stop-declared m a in let y = moves-declared k in omega (arith, x, y)
  moves-declared (drop M m k) = let x = drop-sum m (declaring a) (λ t. 0) in let y = moves-declared k in omega (arith, x, y)

-- the folded names are declared in the file, and not in what is left
abbrev Gone : File → List Statement → Fold → Type 0
Gone f Q φ = (declared f φ.name ≡ true) × (declarations φ.name Q ≡ 0)

module _ (f : File) (accepted : Accepted f) where
  all-gone : {P Q : List Statement} {φs : List Fold} → Moves (context_of f) P Q φs → Fine f P → Each (Gone f Q) φs
  all-gone (done e g) fine = rw g tt
  all-gone {P = P} (fold M φ ψs m e k) fine = rw e ((declared-there f P M φ m accepted fine, (let x = moves-declared f φ.name k in let y = gone f P M φ m accepted fine in omega (arith, x, y))), all-gone k (fold_fine f P M φ m accepted fine))
  all-gone {P = P} (halt M m k) fine = all-gone k (stop_fine f P M m fine)
  all-gone {P = P} (drop M m k) fine = all-gone k (drop_fine f P M m fine)

  module _ {Value Rest : Type 0} {trace : List Fold} (m : Meaning Value Rest) (start : Store Value Rest) (facts : FactsOfAll f trace m start) (V' : ℕ → Bool) where
    abbrev runs : List Statement → Out Value Rest (Unit {0})
    runs P = run_statements f.names m P (begin start)

    all-kept : {P Q : List Statement} {φs : List Fold} → Moves (context_of f) P Q φs → Fine f P → Each (FoldKeeps f.names m start) φs → Each (λ φ. V' φ.name ≡ true) φs → shifted (Erase V' m.undefined) (runs P) ≡ shifted (Erase V' m.undefined) (runs Q)
    all-kept (done e g) fine h n = rw e
    all-kept {P = P} {Q = Q} (fold M φ ψs v e k) fine h n =
        let (h₁, h₂) = subst (λ x. Each (FoldKeeps f.names m start) x) e h in
        let (n₁, n₂) = subst (λ x. Each (λ φ. V' φ.name ≡ true) x) e n in
        erase_same V' m.undefined φ.name m.undefined (runs P) (runs M) n₁ (fold-kept f P M φ v accepted fine m start facts h₁)
        ∙ all-kept k (fold_fine f P M φ v accepted fine) h₂ n₂
    all-kept {P = P} (halt M v k) fine h n = ap (shifted (Erase V' m.undefined)) (stop-same f.names m (context_of f) P M (begin start) v) ∙ all-kept k (stop_fine f P M v fine) h n
    all-kept {P = P} (drop M v k) fine h n = ap (shifted (Erase V' m.undefined)) (drop-same f.names m (context_of f) P M (begin start) v) ∙ all-kept k (drop_fine f P M v fine) h n

-- From outcomes that are the same but for some names to runs that are the same.
module _ {Value Rest : Type 0} (f g : File) (u : Value) where
  abbrev erased : Shift Value Rest
  erased = Erase (folded f g) u

  names_same : (s s' : State Value Rest) → moved erased s ≡ moved erased s' → (a : ℕ) → folded f g a ≡ false → s.store.names a ≡ s'.store.names a
  unfolding moved Erase
  names_same s s' e a h = rw h at (ap (λ (s : State Value Rest). s.store.names a) e)

  rest-same : (s s' : State Value Rest) → moved erased s ≡ moved erased s' → s.store.rest ≡ s'.store.rest
  unfolding moved Erase
  rest-same s s' e = ap (λ (s : State Value Rest). s.store.rest) e

  log-same : (s s' : State Value Rest) → moved erased s ≡ moved erased s' → s.log ≡ s'.log
  unfolding moved Erase
  log-same s s' e = ap (λ (s : State Value Rest). s.log) e

  ended_same : (s s' : State Value Rest) → moved erased s ≡ moved erased s' → SameRun f g (whole s.log (ended s.store)) (whole s'.log (ended s'.store))
  unfolding whole
  ended_same s s' e = record { steps = ap (λ (l : Log Value). reverse l.steps) (log-same s s' e); values = ap (λ (l : Log Value). reverse l.values) (log-same s s' e); end = both-ended (names_same s s' e) (rest-same s s' e) }

  stopped-same : (l l' : Log Value) → l ≡ l' → SameRun f g (whole {Rest = Rest} l stopped) (whole l' stopped)
  unfolding whole
  stopped-same l l' e = record { steps = ap (λ (l : Log Value). reverse l.steps) e; values = ap (λ (l : Log Value). reverse l.values) e; end = both_stopped }

  ran-same : (o o' : Out Value Rest (Unit {0})) → shifted erased o ≡ shifted erased o' → SameRun f g (ran o) (ran o')
  unfolding ran shifted
  ran-same (gave a s) (gave b s') e = let q : moved erased s ≡ moved erased s' = cc in ended_same s s' q
  ran-same (gave a s) (cut s') e = absurd (let z : ◌≡◌ {A = ℕ} 0 1 = cc in omega arith)
  ran-same (gave a s) (stop l) e = absurd (let z : ◌≡◌ {A = ℕ} 0 1 = cc in omega arith)
  ran-same (cut s) (gave b s') e = absurd (let z : ◌≡◌ {A = ℕ} 0 1 = cc in omega arith)
  ran-same (cut s) (cut s') e = let q : moved erased s ≡ moved erased s' = cc in ended_same s s' q
  ran-same (cut s) (stop l) e = absurd (let z : ◌≡◌ {A = ℕ} 0 1 = cc in omega arith)
  ran-same (stop l) (gave b s') e = absurd (let z : ◌≡◌ {A = ℕ} 0 1 = cc in omega arith)
  ran-same (stop l) (cut s) e = absurd (let z : ◌≡◌ {A = ℕ} 0 1 = cc in omega arith)
  ran-same (stop l) (stop l') e = stopped-same l l' (unfold Erase in (let q : l ≡ l' = cc in q))

folded-by : (f g : File) (a : ℕ) → declared f a ≡ true → declared g a ≡ false → folded f g a ≡ true
unfolding folded
folded-by f g a e h = rw (e, h)

gone-folded : (f g : File) (φs : List Fold) → Each (Gone f g.statements) φs → Each (λ φ. folded f g φ.name ≡ true) φs
gone-folded f g [] h = tt
gone-folded f g (φ ∷ φs) ((a, b), h) = (folded-by f g φ.name a (declared-none φ.name g.statements b), gone-folded f g φs h)

-- The runs of a file and of its result are the same for a meaning whose every step keeps the facts.
pub same_of_all : (f : File) → Accepted f → Fine f f.statements → {Value Rest : Type 0} (m : Meaning Value Rest) (start : Store Value Rest) → FactsOfAll f (fold_file f).trace m start → SameRun f (fold_file f).file (run_file m f start) (run_file m (fold_file f).file start)
same_of_all f accepted fine m start facts =
    same-file (ran-same f g m.undefined (run_statements f.names m f.statements (begin start)) (run_statements f.names m g.statements (begin start))
    (all-kept f accepted m start facts (folded f g) (file-moves f) fine facts.targets-kept (gone-folded f g (fold_file f).trace (all-gone f accepted (file-moves f) fine))))
  where
    g : File
    g = (fold_file f).file

    same-file : SameRun f g (ran (run_statements f.names m f.statements (begin start))) (ran (run_statements f.names m g.statements (begin start))) → SameRun f g (run_file m f start) (run_file m g start)
    same-file h = unfold run_file fold_file folded_file with_statements in h
