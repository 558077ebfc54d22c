use Prim.Native.Nat.{ℕ, ◌+◌, ◌*◌, ◌≤◌}
use mathlib.Core.Bool.{Bool, true}
use mathlib.Core.List.{List}
use mathlib.Core.Path.{◌≡◌, sym, ap, ◌∙◌, refl}
use lib.Dec.{eqb}
use lib.ListN.{length}
use Rattle.records.specs.Tree.{Tree}
use Rattle.records.specs.File.{read}
use Rattle.records_table.specs.Laid.{TreeAt, Stands}
use Rattle.walk_rules.specs.Context.{context_of}
use Rattle.walk_arms.specs.Described.{Describes}
use Rattle.walk_arms.specs.Search.{Searchable}
use Rattle.walk.proofs.OtherAnswers.{unreplaced}
use Rattle.statements_rules.specs.Declarators.{ends_search}
use Rattle.statements_declarator.specs.declared.declarator_parts.Initializer.TheVariants.{Given}
use Rattle.statements_declarator.specs.Cases.{initializer_of}
use Rattle.statements_declarator.proofs.Cases.{is-given, is-bare, is_name}
use Rattle.statements_declarator.proofs.Ending.{options_are, facts_are, pattern_ends, unrecorded_ends, test-ends}
use Rattle.statements_declarator.proofs.Describing.{root_is}
use Rattle.statements_search.proofs.Trying.{try_bare, try_ended, try_stopped, try_folded, holds-name, can_at, can_try_at, tried_at}
use Rattle.statements_search.proofs.from_declarator.substitute_single_use_symbol_in_expression_from_declarator.Goals.{In-Given, After-ends_search, After-describe-replacement}
use Rattle.statements_search.proofs.from_declarator.substitute_single_use_symbol_in_expression_from_declarator.Goals as goal

-- the initializer begins where the code says, and may be asked of
given : (c : In-Given) → initializer_of c.args.d c.args.from ≡ Given c.in-Given.initializer
given c = sym c.initializer_of.ensures.result ∙ c.in-Given.is

can : (c : In-Given) → Stands c.args.nodes.now c.in-Given.initializer.0 × Searchable c.args.nodes.now c.args.tree.0 × (16 * c.args.nodes_used + 16 ≤ length c.args.nodes.now)
can c = can_at c.args.d c.args.from (given c) c.requires.tree

present : (c : In-Given) → eqb c.args.d.present 1 ≡ true
present c = (is-given c.args.d c.args.from (given c)).0

-- the test of the rules, by the code's
ends : (c : After-ends_search) {b : Bool} → c.ends_search.result ≡ b → (pre : List ℕ) (t : Tree) (rest : List ℕ) → TreeAt c.args.nodes.now c.in-Given.initializer.0 t pre rest
    → ends_search (context_of (read c.args.file.now.bytes.now)) c.args.literal_only c.args.d.name t ≡ b
ends c e pre t rest h =
    test-ends (context_of (read c.args.file.now.bytes.now)) c.args.literal_only c.args.d t c.args.file.now.header c.work_node-root.result (sym c.plain_name.ensures.result ∙ c.in-Name.is) (facts_are c.args.file.now.bytes.now _ c.facts_of-n.ensures.result)
    (sym c.value_record.ensures.result ∙ c.in-Recorded.is) (options_are c.args.file.now.bytes.now c.args.file.now.whole.0) (root_is c.work_node-root.ensures.result t h) c.ends_search.ensures.result
    ∙ e

-- what the search knows of the initializer, and its name
describes : (c : After-describe-replacement) (pre : List ℕ) (t : Tree) (rest : List ℕ) → TreeAt c.args.nodes.now c.in-Given.initializer.0 t pre rest → Describes c.describe-replacement.result t
describes c pre t rest h = (c.describe-replacement.ensures.described pre t rest h).0

named : (c : After-describe-replacement) → Stands c.args.nodes.now c.in-Given.initializer.0 → c.describe-replacement.result.name.0 ≡ c.args.d.name
named c (pre, t, rest, h) = ap (λ x. x.0) (c.describe-replacement.ensures.described pre t rest h).1 ∙ (is_name c.args.d (sym c.plain_name.ensures.result ∙ c.in-Name.is)).1

pub returns-in_default : goal.returns-in_default
returns-in_default c = record { tried = try_bare (context_of (read c.args.file.now.bytes.now)) c.args.literal_only c.args.nodes.now c.args.d c.args.from.0 c.args.tree c.args.nodes_used (is-bare c.args.d _ (sym c.initializer_of.ensures.result ∙ c.in_default.is)) c.kept.ensures.result }

pub returns-in_default-plain_name : goal.returns-in_default-plain_name
returns-in_default-plain_name c = record {
  tried = tried_at c.args.d c.args.from (given (goal.at.returns-in_default-plain_name c).In-Given) (context_of (read c.args.file.now.bytes.now)) c.args.literal_only
      (try_ended (context_of (read c.args.file.now.bytes.now)) c.args.literal_only c.args.nodes.now c.args.d c.in-Given.initializer.0 c.args.tree c.args.nodes_used (present (goal.at.returns-in_default-plain_name c).In-Given)
      (λ pre t rest h. pattern_ends (context_of (read c.args.file.now.bytes.now)) c.args.literal_only c.args.d t (sym c.plain_name.ensures.result ∙ c.in_default-plain_name.is)) c.kept-in_default-plain_name.ensures.result);
}

pub returns-in_default-value_record : goal.returns-in_default-value_record
returns-in_default-value_record c = record {
  tried = tried_at c.args.d c.args.from (given (goal.at.returns-in_default-value_record c).In-Given) (context_of (read c.args.file.now.bytes.now)) c.args.literal_only
      (try_ended (context_of (read c.args.file.now.bytes.now)) c.args.literal_only c.args.nodes.now c.args.d c.in-Given.initializer.0 c.args.tree c.args.nodes_used (present (goal.at.returns-in_default-value_record c).In-Given)
      (λ pre t rest h. unrecorded_ends (context_of (read c.args.file.now.bytes.now)) c.args.literal_only c.args.d t (sym c.plain_name.ensures.result ∙ c.in-Name.is) (facts_are c.args.file.now.bytes.now _ c.facts_of-n.ensures.result) (sym c.value_record.ensures.result ∙ c.in_default-value_record.is)) c.kept-in_default-value_record.ensures.result);
}

pub returns-then-ends_search : goal.returns-then-ends_search
returns-then-ends_search c = record {
  tried = tried_at c.args.d c.args.from (given (goal.at.returns-then-ends_search c).In-Given) (context_of (read c.args.file.now.bytes.now)) c.args.literal_only
      (try_ended (context_of (read c.args.file.now.bytes.now)) c.args.literal_only c.args.nodes.now c.args.d c.in-Given.initializer.0 c.args.tree c.args.nodes_used (present (goal.at.returns-then-ends_search c).In-Given)
      (ends (goal.at.returns-then-ends_search c).After-ends_search c.if-ends_search.true) c.kept-then-ends_search.ensures.result);
}

pub describe-replacement-requires : goal.describe-replacement-requires
describe-replacement-requires c = record { tree = (can (goal.at.describe-replacement-requires c).In-Given).0 }

pub substitute_single_use_symbol_in_expression-w-requires-clause-tree : goal.substitute_single_use_symbol_in_expression-w-requires-clause-tree
substitute_single_use_symbol_in_expression-w-requires-clause-tree c = (can (goal.at.substitute_single_use_symbol_in_expression-w-requires-clause-tree c).In-Given).1

pub substitute_single_use_symbol_in_expression-w-requires-clause-described : goal.substitute_single_use_symbol_in_expression-w-requires-clause-described
substitute_single_use_symbol_in_expression-w-requires-clause-described c =
    let (pre, t, rest, h) = (can (goal.at.substitute_single_use_symbol_in_expression-w-requires-clause-described c).In-Given).0 in
    (t, describes (goal.at.substitute_single_use_symbol_in_expression-w-requires-clause-described c).After-describe-replacement pre t rest h)

pub returns-in_default-answer : goal.returns-in_default-answer
returns-in_default-answer c = record {
  tried = tried_at c.args.d c.args.from (given (goal.at.returns-in_default-answer c).In-Given) (context_of (read c.args.file.now.bytes.now)) c.args.literal_only
      (try_stopped (context_of (read c.args.file.now.bytes.now)) c.args.literal_only c.args.nodes.now _ c.args.d c.in-Given.initializer.0 c.args.tree c.args.nodes_used c.describe-replacement.result c.substitute_single_use_symbol_in_expression-w.result (named (goal.at.returns-in_default-answer c).After-describe-replacement (can (goal.at.returns-in_default-answer c).In-Given).0)
      (present (goal.at.returns-in_default-answer c).In-Given) (ends (goal.at.returns-in_default-answer c).After-ends_search c.if-ends_search.false) (describes (goal.at.returns-in_default-answer c).After-describe-replacement) c.substitute_single_use_symbol_in_expression-w.ensures.result (unreplaced c.substitute_single_use_symbol_in_expression-w.result.answer c.in_default-answer.not-Replaced) c.kept-in_default-answer.ensures.result);
}

pub splice-left-requires-clause-name : goal.splice-left-requires-clause-name
splice-left-requires-clause-name c =
    holds-name (context_of (read c.args.file.now.bytes.now)) c.args.literal_only c.args.nodes.now _ c.args.d c.in-Given.initializer.0 c.args.tree c.args.nodes_used c.describe-replacement.result c.substitute_single_use_symbol_in_expression-w.result (named (goal.at.splice-left-requires-clause-name c).After-describe-replacement (can (goal.at.splice-left-requires-clause-name c).In-Given).0) _ _ c.in-Replaced.is
    (can_try_at c.args.d c.args.from (given (goal.at.splice-left-requires-clause-name c).In-Given) c.requires.tree) (present (goal.at.splice-left-requires-clause-name c).In-Given) (describes (goal.at.splice-left-requires-clause-name c).After-describe-replacement) c.substitute_single_use_symbol_in_expression-w.ensures.result

pub returns : goal.returns
returns c = record {
  tried = tried_at c.args.d c.args.from (given (goal.at.returns c).In-Given) (context_of (read c.args.file.now.bytes.now)) c.args.literal_only
      (try_folded (context_of (read c.args.file.now.bytes.now)) c.args.literal_only c.args.nodes.now _ c.args.d c.in-Given.initializer.0 c.args.tree c.args.nodes_used c.describe-replacement.result c.substitute_single_use_symbol_in_expression-w.result (named (goal.at.returns c).After-describe-replacement (can (goal.at.returns c).In-Given).0) _ _ c.in-Replaced.is
      (present (goal.at.returns c).In-Given) (ends (goal.at.returns c).After-ends_search c.if-ends_search.false) (describes (goal.at.returns c).After-describe-replacement) c.substitute_single_use_symbol_in_expression-w.ensures.result c.splice-left.ensures.result c.folded.ensures.result refl);
}
