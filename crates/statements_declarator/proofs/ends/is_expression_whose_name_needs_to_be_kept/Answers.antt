use Rattle.statements_declarator.proofs.Ending.{name-kept}
use Rattle.statements_declarator.proofs.ends.is_expression_whose_name_needs_to_be_kept.Goals as goal

pub returns : goal.returns
returns c = record { result = rw (c.is_anonymous.ensures.result, c.keeps_class_names.ensures.result, c.keeps_function_names.ensures.result) (name-kept c.args.h c.args.root) }
