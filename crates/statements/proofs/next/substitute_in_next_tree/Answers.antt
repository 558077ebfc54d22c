use native.Mathlib.Omega.{arith}
use Rattle.records.specs.File.{read}
use Rattle.walk_rules.specs.Context.{context_of}
use Rattle.statements.proofs.Going.{next-has_tree, next-can_search, next-declared, next_fits, next-taken}
use Rattle.statements.proofs.next.substitute_in_next_tree.Goals as goal

pub load_next-l-requires : goal.load_next-l-requires
load_next-l-requires c = record { tree = next-has_tree c.args.file.now.bytes.now c.args.file.now.header c.args.tables.now.nodes.now c.args.tables.now.declarators.now c.args.tables.now.starts.now c.args.tables.now.statements.now c.args.p c.requires.state c.requires.room.0 }

pub substitute_single_use_symbol_in_statement-r-requires : goal.substitute_single_use_symbol_in_statement-r-requires
substitute_single_use_symbol_in_statement-r-requires c =
    let (x, y, z, w) = next-can_search c.args.file.now.bytes.now c.args.file.now.header c.args.tables.now.nodes.now c.args.tables.now.declarators.now c.args.tables.now.starts.now c.args.tables.now.statements.now c.args.p c.requires.state _ c.load_next-l.result c.load_next-l.ensures.loaded (omega arith) c.args.folded.now c.requires.room in
    record {
      tree = rw c.from-target.ensures x;
      declarators = rw c.from-target.ensures y;
      starts = rw c.from-target.ensures z;
      statements = w;
    }

pub list_folded-requires : goal.list_folded-requires
list_folded-requires c =
    let f = next_fits c.args.file.now.bytes.now c.args.file.now.header c.args.tables.now.nodes.now c.args.tables.now.declarators.now c.args.tables.now.starts.now c.args.tables.now.statements.now c.args.p c.requires.state (context_of (read c.args.file.now.bytes.now)) _ c.load_next-l.result c.load_next-l.ensures.loaded _ _ c.substitute_single_use_symbol_in_statement-r.result (rw c.from-target.ensures at c.substitute_single_use_symbol_in_statement-r.ensures.searched) in
    let d = next-declared c.args.file.now.bytes.now c.args.file.now.header c.args.tables.now.nodes.now c.args.tables.now.declarators.now c.args.tables.now.starts.now c.args.tables.now.statements.now c.args.p c.requires.state _ c.load_next-l.result c.load_next-l.ensures.loaded in
    let (n, r, s, t, l) = c.requires.room in
    record {
      many = omega (arith, f.taken);
      declarators = omega (arith, d, r);
      room = omega (arith, f.taken, f.folded, l);
    }

pub overflow_add-result : goal.overflow_add-result
overflow_add-result c =
    let f = next_fits c.args.file.now.bytes.now c.args.file.now.header c.args.tables.now.nodes.now c.args.tables.now.declarators.now c.args.tables.now.starts.now c.args.tables.now.statements.now c.args.p c.requires.state (context_of (read c.args.file.now.bytes.now)) _ c.load_next-l.result c.load_next-l.ensures.loaded _ _ c.substitute_single_use_symbol_in_statement-r.result (rw c.from-target.ensures at c.substitute_single_use_symbol_in_statement-r.ensures.searched) in
    omega (arith, f.folded, c.well_formed)

pub overflow_add-result-2 : goal.overflow_add-result-2
overflow_add-result-2 c =
    let f = next_fits c.args.file.now.bytes.now c.args.file.now.header c.args.tables.now.nodes.now c.args.tables.now.declarators.now c.args.tables.now.starts.now c.args.tables.now.statements.now c.args.p c.requires.state (context_of (read c.args.file.now.bytes.now)) _ c.load_next-l.result c.load_next-l.ensures.loaded _ _ c.substitute_single_use_symbol_in_statement-r.result (rw c.from-target.ensures at c.substitute_single_use_symbol_in_statement-r.ensures.searched) in
    omega (arith, f.looked)

pub returns-clause-searched : goal.returns-clause-searched
returns-clause-searched c = next-taken c.args.file.now.bytes.now c.args.file.now.header c.args.tables.now.nodes.now c.args.tables.now.declarators.now c.args.tables.now.starts.now c.args.tables.now.statements.now c.args.p (context_of (read c.args.file.now.bytes.now)) _ c.load_next-l.result c.load_next-l.ensures.loaded _ _ c.substitute_single_use_symbol_in_statement-r.result (rw c.from-target.ensures at c.substitute_single_use_symbol_in_statement-r.ensures.searched) _ _ c.list_folded.ensures.listed
