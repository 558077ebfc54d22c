-- The search of a tree from the declarators before it, and within a declaration
-- (src/peephole/minimize_statements.rs 1167-1270).
use Rattle.std.specs.Prelude.{ℕ, Bool, true, false, cond, ◌&&◌, ◌||◌, not, List, [], ◌∷◌, ◌++◌, reverse, eqb, ltb}
use Rattle.records.specs.Limits.{no_number}
use Rattle.records.specs.Flags.{bit, recorded, anonymous}
use Rattle.records.specs.Tree.{Tree, node}
use Rattle.records.specs.File.{DeclarationKind, Var, Let, Const, Using, AwaitUsing, Initializer, bare, given, Declarator, Statement, declaration}
use Rattle.walk_rules.specs.Context.{Context, is_script, keep_function_names, keep_class_names, facts_of}
use Rattle.walk_rules.specs.Unsettled.{scope_of}
use Rattle.walk_rules.specs.Shape.{is}
use Rattle.walk_rules.specs.Effect.{is_literal_value}
use Rattle.walk_rules.specs.Substitute.{Answer, replaced, stopped, passed, substitute_in_expression}
use Rattle.walk_rules.specs.Looks.{looks_in_expression}
use Rattle.statements_rules.specs.Trace.{Fold, Traced, pure, ◌>>=◌, looked, folded}

-- name facts: bits 2 catch, 5 implicitly observable
abbrev pub is_catch_variable : ℕ → Bool
is_catch_variable flags = bit 4 flags

abbrev pub is_implicitly_observable : ℕ → Bool
is_implicitly_observable flags = bit 32 flags

-- scope flags: bit 1 direct eval
abbrev pub contains_direct_eval : ℕ → Bool
contains_direct_eval flags = bit 2 flags

-- `is_script_root_scope`
unfoldable pub is_script_root_scope : Context → Bool
is_script_root_scope ctx = is_script ctx && eqb ctx.current_scope 0

-- where no search is made
unfoldable pub is_unsearched : Context → Bool
is_unsearched ctx = is_script_root_scope ctx || contains_direct_eval (scope_of ctx.scopes ctx.current_scope).flags

-- `is_using`
unfoldable pub is_using : DeclarationKind → Bool
is_using Var = false
is_using Let = false
is_using Const = false
is_using Using = true
is_using AwaitUsing = true

-- `is_expression_whose_name_needs_to_be_kept`: an anonymous class (3) or function (2), by the options
unfoldable pub name_needs_to_be_kept : Context → Tree → Bool
name_needs_to_be_kept ctx (node n kids) =
    anonymous n.flags && (is 3 n && keep_class_names ctx || is 2 n && keep_function_names ctx)

-- The tests that end the search at a declarator with an initializer, in the Rust's order: no plain name; `is_catch_variable`;
-- the name kept; no value record; `is_implicitly_observable`; `has_multiple_reads`; `has_writes`; `non_scoped_literal_only`.
unfoldable pub ends_search : Context → Bool → ℕ → Tree → Bool
ends_search ctx literal_only name initializer =
    eqb name no_number
    || is_catch_variable (facts_of ctx name).flags
    || name_needs_to_be_kept ctx initializer
    || not (recorded (facts_of ctx name).flags)
    || is_implicitly_observable (facts_of ctx name).flags
    || ltb 1 (facts_of ctx name).reads
    || ltb 0 (facts_of ctx name).writes
    || literal_only && not (is_literal_value false initializer)

-- what a search leaves: what was searched, and what stands before it, the last first
pub record Searched (T A : Type 0) : Type 0 where
  pub target : T
  pub left : List A

abbrev pub ended : {T A : Type 0} → T → List A → Traced (Searched T A)
ended target left = pure (record { target = target; left = left })

-- the declarator with another tree for its initializer
abbrev pub with_tree : Declarator → Tree → Declarator
with_tree d t = record { name = d.name; initializer = given t }

-- the search of a tree from declarators
abbrev pub FromDeclarators : Type 0
FromDeclarators = Traced (Searched Tree Declarator)

-- the declarators of one declaration, before which these statements stand
module _ (ctx : Context) (before : List Statement) (kind : DeclarationKind) where
  -- the fold of a declarator's initializer into a tree, where these declarators stand before it, the last first
  unfoldable pub fold_of : ℕ → Tree → List Declarator → Tree → Fold
  fold_of name initializer earlier target =
      record { name = name; initializer = initializer; into = target; before = before ++ (declaration kind (reverse earlier) ∷ []) }

  -- by the answer: the search goes on with the declarators before if the initializer was placed, "replaced == Some(true)"
  unfoldable pub after_answer : Declarator → Tree → List Declarator → Tree → Answer Tree → (Tree → FromDeclarators) → FromDeclarators
  after_answer d initializer earlier target (replaced t) onward = folded (fold_of d.name initializer earlier target) (onward t)
  after_answer d initializer earlier target (stopped t) onward = ended t (d ∷ earlier)
  after_answer d initializer earlier target passed onward = ended target (d ∷ earlier)

  -- a declarator, by its initializer
  unfoldable pub from_declarator : Bool → Declarator → Initializer → List Declarator → Tree → (Tree → FromDeclarators) → FromDeclarators
  from_declarator literal_only d bare earlier target onward = ended target (d ∷ earlier)
  from_declarator literal_only d (given initializer) earlier target onward =
      cond (ends_search ctx literal_only d.name initializer) (ended target (d ∷ earlier))
      (looked target (looks_in_expression ctx d.name initializer target)
      (after_answer d initializer earlier target (substitute_in_expression ctx d.name initializer target) onward))

  -- `substitute_single_use_symbol_in_expression_from_declarators`, the last declarator first
  unfoldable pub substitute_from_declarators : Bool → List Declarator → Tree → FromDeclarators
  substitute_from_declarators literal_only [] target = ended target []
  substitute_from_declarators literal_only (d ∷ earlier) target =
      from_declarator literal_only d d.initializer earlier target (λ t. substitute_from_declarators literal_only earlier t)

  -- a declarator behind others, the last of them first: its initializer is searched, if it has one
  unfoldable pub within_declarator : List Declarator → Declarator → Initializer → Traced (List Declarator)
  within_declarator earlier d bare = pure (d ∷ earlier)
  within_declarator earlier d (given initializer) = do
    w ← substitute_from_declarators false earlier initializer
    pure (with_tree d w.target ∷ w.left)

  -- the declarators in order, behind those that are done
  unfoldable pub within_declarators : List Declarator → List Declarator → Traced (List Declarator)
  within_declarators earlier [] = pure (reverse earlier)
  within_declarators earlier (d ∷ ds) = do
    earlier' ← within_declarator earlier d d.initializer
    within_declarators earlier' ds

  -- `substitute_single_use_symbol_within_declaration`; before the first declarator stands none
  unfoldable pub substitute_within_declaration : List Declarator → Traced (List Declarator)
  substitute_within_declaration ds = cond (is_unsearched ctx || is_using kind) (pure ds) (within_declarators [] ds)
