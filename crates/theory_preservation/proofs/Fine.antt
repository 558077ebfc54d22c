-- What acceptance says of a file's names, and what every program on the way keeps of the file.
use Prim.Native.Nat.{ℕ, ◌≤◌}
use mathlib.Core.Bool.{Bool, true, false, ◌&&◌, ◌||◌, not}
use mathlib.Core.List.{List}
use mathlib.Core.Path.{◌≡◌}
use lib.Dec.{eqb, ltb}
use borrow.Author.Tests.{ltb-false, not-false}
use Rattle.records.specs.Flags.{recorded, is_eval}
use Rattle.records.specs.Limits.{no_number}
use Rattle.records.specs.Script.{flags_of}
use Rattle.records.specs.Tree.{Tree}
use Rattle.records.specs.Count.{reads_of, targets_of}
use Rattle.records.specs.File.{one, Statement, File, all_trees}
use Rattle.records.specs.declared.layout.NameFacts.{NameFacts}
use Rattle.records.proofs.Tests.{neither}
use Rattle.walk_rules.specs.Context.{Context, facts_of as factsIn}
use Rattle.walk_rules.specs.Effect.{is_literal_value}
use Rattle.statements_rules.specs.Declarators.{ends_search, is_catch_variable, is_implicitly_observable, name_needs_to_be_kept}
use Rattle.theory_runs.specs.Run.{resolved}
use Rattle.theory_runs.specs.Settled.{facts_of, settled, this_blocks}
use Rattle.theory_runs.specs.Shapes.{declared, eval_whole}
use Rattle.theory_runs.specs.Facts.{this_unblocked}
use Rattle.theory_preservation.proofs.Uses.{reads, targets}
use Rattle.theory_preservation.proofs.Totals.{total, trees, declarations}
use Rattle.theory_preservation.proofs.Fit.{misfit}
use Rattle.theory_preservation.proofs.Positions.{somewhere}

-- the initializers that are `eval`
abbrev pub evals : List NameFacts → List Statement → ℕ
evals names P = total (λ d. one (eval_whole names d.initializer)) (λ t. 0) P

-- whether a position leaves `this` unblocked, and the trees with a node at such a position
abbrev pub unblocked_at : File → ℕ → Bool
unblocked_at f p = not (this_blocks f p)

abbrev pub unblocked_trees : File → List Statement → ℕ
unblocked_trees f P = trees (λ t. one (somewhere (unblocked_at f) t)) P

-- What acceptance says of a file's names.
pub record Accepted (f : File) : Type 0 where
  pub counts : (a : ℕ) → recorded (facts_of f a).flags ≡ true → resolved f.names a ≡ true → (reads_of a (all_trees f.statements) ≤ (facts_of f a).reads) × (targets_of a (all_trees f.statements) ≤ (facts_of f a).writes)
  pub once : (a : ℕ) → eqb a no_number ≡ false → declarations a f.statements ≤ 1
  pub known : (a : ℕ) → eqb a no_number ≡ false → declared f a ≡ true → (resolved f.names a ≡ true) × (is_eval (flags_of f.names a) ≡ false)
  pub settled-unaimed : (a : ℕ) → settled f a ≡ true → (eqb no_number a ≡ false) × (targets_of a (all_trees f.statements) ≡ 0)

-- What programs on the way keep of it.
pub record Fine (f : File) (P : List Statement) : Type 0 where
  pub fits : trees (misfit f.names) P ≡ 0
  pub reads_in : (a : ℕ) → eqb no_number a ≡ false → trees (reads a) P ≤ trees (reads a) f.statements
  pub targets_in : (a : ℕ) → eqb no_number a ≡ false → trees (targets a) P ≤ trees (targets a) f.statements
  pub declared_in : (a : ℕ) → declarations a P ≤ declarations a f.statements
  pub this_in : 1 ≤ unblocked_trees f P → this_unblocked f ≡ true
  pub no_evals : evals f.names P ≡ 0

-- what the search asks of a declarator's name
pub searched-name : (ctx : Context) (lit : Bool) (name : ℕ) (r : Tree) → ends_search ctx lit name r ≡ false → (eqb name no_number ≡ false) × (recorded (factsIn ctx name).flags ≡ true) × ((factsIn ctx name).reads ≤ 1) × ((factsIn ctx name).writes ≤ 0)
unfolding ends_search
searched-name ctx lit name r e =
    let n : NameFacts = factsIn ctx name in
    let (x₁, y₁) = neither (eqb name no_number || is_catch_variable n.flags || name_needs_to_be_kept ctx r || not (recorded n.flags) || is_implicitly_observable n.flags || ltb 1 n.reads || ltb 0 n.writes) (lit && not (is_literal_value false r)) e in
    let (x₂, y₂) = neither (eqb name no_number || is_catch_variable n.flags || name_needs_to_be_kept ctx r || not (recorded n.flags) || is_implicitly_observable n.flags || ltb 1 n.reads) (ltb 0 n.writes) x₁ in
    let (x₃, y₃) = neither (eqb name no_number || is_catch_variable n.flags || name_needs_to_be_kept ctx r || not (recorded n.flags) || is_implicitly_observable n.flags) (ltb 1 n.reads) x₂ in
    let (x₄, y₄) = neither (eqb name no_number || is_catch_variable n.flags || name_needs_to_be_kept ctx r || not (recorded n.flags)) (is_implicitly_observable n.flags) x₃ in
    let (x₅, y₅) = neither (eqb name no_number || is_catch_variable n.flags || name_needs_to_be_kept ctx r) (not (recorded n.flags)) x₄ in
    let (x₆, y₆) = neither (eqb name no_number || is_catch_variable n.flags) (name_needs_to_be_kept ctx r) x₅ in
    let (x₇, y₇) = neither (eqb name no_number) (is_catch_variable n.flags) x₆ in
    (x₇, not-false (recorded n.flags) y₅, ltb-false 1 n.reads y₃, ltb-false 0 n.writes y₂)
