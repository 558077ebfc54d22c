use Rattle.statements_declarator.proofs.Searched.{by-scope}
use Rattle.statements_declarator.proofs.unsearched.is_unsearched.Goals as goal

pub returns : goal.returns
returns c = record { result = rw (c.is_script.ensures.result, c.has_direct_eval.ensures.result) (by-scope c.args.file.now.bytes.now c.args.file.now.header c.scope_of-s.result c.args.file.now.whole.0 c.scope_of-s.ensures.result) }
