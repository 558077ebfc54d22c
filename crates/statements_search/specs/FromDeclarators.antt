-- What the search from declarators does in the work table.
use Rattle.std.specs.Prelude.{ℕ, ◌+◌, ◌*◌, ◌≤◌, Bool, true, cond, ◌&&◌, List, ◌++◌, ◌≡◌, length}
use Rattle.records.specs.Tree.{Tree, size}
use Rattle.records.specs.File.{DeclarationKind, Initializer, is_given, Declarator, Statement}
use Rattle.records.specs.declared.layout.DeclaratorRecord.{DeclaratorRecord}
use Rattle.records_table.specs.Laid.{laid}
use Rattle.walk_rules.specs.Context.{Context}
use Rattle.walk_arms.specs.Search.{bare_names}
use Rattle.statements_rules.specs.Declarators.{FromDeclarators, substitute_from_declarators}
use Rattle.statements_search.specs.declared.from_declarator.Tried.{Tried}
use Rattle.statements_search.specs.declared.from_declarators.Searched.{Searched}
use Rattle.statements_search.specs.Kept.{laid_initializer, node_count, bare_initializer, laid_declarators, nodes_in, bare_declarators, Held, folded_names, most_in_use}
use Rattle.statements_progress.specs.Listed.{names_from}
use Rattle.statements_search.specs.Try.{Try, try_from}

-- Behind some bytes stand a declarator's initializer, if it has one, and the tree that is searched.
pub record Standing (table : List ℕ) (from start used : ℕ) (initializer : Initializer) (target : Tree)
    (pre rest : List ℕ) : Type 0 where
  pub is : table ≡ pre ++ laid_initializer initializer (laid target rest)
  pub begins : length pre ≡ 16 * from
  pub starts : start ≡ from + node_count initializer
  pub ends : used ≡ start + size target
  pub names : (bare_initializer initializer && bare_names target) ≡ true

-- so it is for some declarator with this record, and there is room for one more node
abbrev pub CanTry : List ℕ → DeclaratorRecord → ℕ → ℕ → ℕ → Type 0
CanTry table d from start used =
    (initializer : Initializer) × (target : Tree) × (pre : List ℕ) × (rest : List ℕ)
    × Standing table from start used initializer target pre rest
    × (d.present ≡ is_given initializer) × (16 * used + 16 ≤ length table)

-- what one step leaves: the tree in the declarator's place if it was folded, else behind it
abbrev pub StepLeaves : List ℕ → ℕ → Initializer → List ℕ → List ℕ → Try → Tried → Type 0
StepLeaves table from initializer pre rest step r =
    cond step.folds
    ((rest' : List ℕ) × (table ≡ pre ++ laid step.target rest') × (r.tree.0 ≡ from))
    ((table ≡ pre ++ laid_initializer initializer (laid step.target rest)) × (r.tree.0 ≡ from + node_count initializer))

pub record Stepped (table : List ℕ) (from : ℕ) (initializer : Initializer) (pre rest : List ℕ) (step : Try)
    (r : Tried) : Type 0 where
  pub folded : r.folded ≡ step.folds
  pub leaves : StepLeaves table from initializer pre rest step r
  pub used : r.nodes_used ≡ r.tree.0 + size step.target
  pub names : bare_names step.target ≡ true
  pub looks : r.looks ≡ step.looks

abbrev pub Tries : Context → Bool → List ℕ → List ℕ → DeclaratorRecord → ℕ → ℕ → ℕ → Tried → Type 0
Tries ctx literal_only table table' d from start used r =
    (initializer : Initializer) (target : Tree) (pre rest : List ℕ) → Standing table from start used initializer target pre rest
    → d.present ≡ is_given initializer
    → Stepped table' from initializer pre rest (try_from ctx literal_only d.name initializer target) r

-- Behind some bytes stand the trees of declarators, the last first, and the tree that is searched.
pub record StandingDeclarators (table records starts : List ℕ) (low many at start used : ℕ) (ds : List Declarator) (target : Tree)
    (pre rest : List ℕ) : Type 0 where
  pub is : table ≡ pre ++ laid_declarators ds (laid target rest)
  pub begins : length pre ≡ 16 * at
  pub counted : many ≡ low + length ds
  pub held : Held records starts low at ds
  pub starting : start ≡ at + nodes_in ds
  pub ends : used ≡ start + size target
  pub names : (bare_declarators ds && bare_names target) ≡ true

-- so it is for some, with room for a node more for each of them, and not too many
abbrev pub CanSearch : List ℕ → List ℕ → List ℕ → ℕ → ℕ → ℕ → ℕ → Type 0
CanSearch table records starts low many start used =
    (at : ℕ) × (ds : List Declarator) × (target : Tree) × (pre : List ℕ) × (rest : List ℕ)
    × StandingDeclarators table records starts low many at start used ds target pre rest × (16 * used + 16 * length ds ≤ length table)
    × (used + length ds ≤ most_in_use)

-- The search of a tree from declarators has done as the rules say; those that were folded are the last.
pub record Found (table records : List ℕ) (low at : ℕ) (pre : List ℕ) (w : FromDeclarators) (r : Searched)
    (rest : List ℕ) : Type 0 where
  pub is : table ≡ pre ++ laid_declarators w.result.left (laid w.result.target rest)
  pub many : r.declarators_kept ≡ low + length w.result.left
  pub start : r.tree.0 ≡ at + nodes_in w.result.left
  pub used : r.nodes_used ≡ r.tree.0 + size w.result.target
  pub names : (bare_declarators w.result.left && bare_names w.result.target) ≡ true
  pub folded : r.folds ≡ length w.trace
  pub listed : folded_names w.trace ≡ names_from records r.declarators_kept r.folds
  pub looks : r.looks ≡ w.looks

abbrev pub SearchesFrom : Context → Bool → List ℕ → List ℕ → List ℕ → List ℕ → ℕ → ℕ → ℕ → ℕ → Searched → Type 0
SearchesFrom ctx literal_only table table' records starts low many start used r =
    (at : ℕ) (ds : List Declarator) (target : Tree) (pre rest : List ℕ)
    → StandingDeclarators table records starts low many at start used ds target pre rest
    → (before : List Statement) (kind : DeclarationKind)
    → (rest' : List ℕ) × Found table' records low at pre (substitute_from_declarators ctx before kind literal_only ds target) r rest'
