-- A search that stops has changed nothing that a run sees.
use Prim.Native.Nat.{ℕ}
use native.Mathlib.Omega.{arith}
use mathlib.Core.List.{List}
use mathlib.Core.Path.{◌≡◌, refl}
use Rattle.records.specs.Tree.{Node, Tree, Trees, node}
use Rattle.records.specs.declared.layout.NameFacts.{NameFacts}
use Rattle.walk_rules.specs.Context.{Context}
use Rattle.walk_rules.specs.Shape.{cleared as walked}
use Rattle.walk_rules.specs.Substitute.{stopped, substitute_in_expression}
use Rattle.theory_runs.specs.Step.{Role, value}
use Rattle.theory_runs.specs.Meaning.{Meaning}
use Rattle.theory_runs.specs.Form.{cleared, Form, form}
use Rattle.theory_runs.specs.State.{State}
use Rattle.theory_runs.specs.Run.{Turn, then, run, run_children, run_others}
use Rattle.theory_preservation.proofs.Tables.{walked_cleared, cleared-once}
use Rattle.theory_preservation.proofs.Same.{others_same, children-same, node-same}
use Rattle.theory_preservation.proofs.Turned.{Turned, same, here, apart, under, AllTurned, no_more, both, stopped-turned}

module _ {Value Rest : Type 0} (names : List NameFacts) (m : Meaning Value Rest) where
  abbrev S : Type 0
  S = State Value Rest

  again : (n : Node) (ts ts' : Trees) → ((f : Form) (n : Node) (role : Role) (s : S) → run_children names m ts' f n role s ≡ run_children names m ts f n role s) → (role : Role) (s : S) → run names m (node (walked n) ts') role s ≡ run names m (node n ts) role s
  unfolding run
  again n ts ts' h role s = rw (walked_cleared n, cleared-once n) (node-same names m (form (cleared n)) (cleared n) role (run_children names m ts (form (cleared n)) (cleared n) role) (run_children names m ts' (form (cleared n)) (cleared n) role) (λ s. h (form (cleared n)) (cleared n) role s) s)

  module _ {v : ℕ} {r : Tree} where
    mutual
      pub run-same : {k : ℕ} {t t' : Tree} → Turned v r k t t' → k ≡ 0 → (role : Role) (s : S) → run names m t' role s ≡ run names m t role s
      run-same (same e p) z role s = rw p
      run-same (here e g p) z role s = absurd (omega arith)
      run-same (apart t' e g h p) z role s = absurd (omega arith)
      run-same (under {n = n} {ts = ts} ts' h p) z role s = rw p (again n ts ts' (λ f n role s. row_same h z f n role s) role s)

      row_same : {k : ℕ} {ts ts' : Trees} → AllTurned v r k ts ts' → k ≡ 0 → (f : Form) (n : Node) (role : Role) (s : S) → run_children names m ts' f n role s ≡ run_children names m ts f n role s
      row_same (no_more e) z f n role s = refl
      row_same (both {t = t} {t' = t'} {ts = ts} {ts' = ts'} i j e h g) z f n role s = children-same names m t t' ts ts' f n (λ role s. run-same h (omega arith) role s) (λ w s. rest-same g (omega arith) w s) role s

      rest-same : {k : ℕ} {ts ts' : Trees} → AllTurned v r k ts ts' → k ≡ 0 → (w : Turn) (s : S) → run_others names m ts' w s ≡ run_others names m ts w s
      rest-same (no_more e) z w s = refl
      rest-same (both {t = t} {t' = t'} {ts = ts} {ts' = ts'} i j e h g) z w s = others_same names m t t' ts ts' w (λ s. run-same h (omega arith) value s) (λ s. rest-same g (omega arith) (then w) s) s

  -- the tree that a stopped search left runs as the tree did
  pub stopped-same : (ctx : Context) (v : ℕ) (r t t' : Tree) → substitute_in_expression ctx v r t ≡ stopped t' → (role : Role) (s : S) → run names m t' role s ≡ run names m t role s
  stopped-same ctx v r t t' e = run-same (stopped-turned ctx v r t t' e) refl
