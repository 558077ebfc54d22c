use Rattle.statements_declarator.proofs.Ending.{rest-ends}
use Rattle.statements_declarator.proofs.ends.ends_search.Goals as goal

pub returns : goal.returns
returns c = record { result = rw (c.is_catch_variable.ensures.result, c.is_implicitly_observable.ensures.result) (rest-ends c.args.h c.args.name c.args.reads c.args.writes c.args.root c.args.literal_only _ c.is_expression_whose_name_needs_to_be_kept.ensures.result) }
