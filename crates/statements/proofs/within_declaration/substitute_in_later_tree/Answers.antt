use native.Mathlib.Omega.{arith}
use borrow.Author.Tests.{not-true, not-false}
use Rattle.records.specs.File.{read}
use Rattle.walk_rules.specs.Context.{context_of}
use Rattle.statements.proofs.Taken.{later-unsearched, later-searched}
use Rattle.statements.proofs.Going.{later-has_tree, later-can_search, later-declared, later-fits}
use Rattle.statements.proofs.within_declaration.substitute_in_later_tree.Goals as goal

pub load_next-l-requires : goal.load_next-l-requires
load_next-l-requires c = record { tree = later-has_tree c.args.file.now.bytes.now c.args.file.now.header c.args.tables.now.nodes.now c.args.tables.now.declarators.now c.args.tables.now.starts.now c.args.d.first c.args.p c.requires.state c.requires.room.0 }

pub returns-then-not-d-clause-taken : goal.returns-then-not-d-clause-taken
returns-then-not-d-clause-taken c = λ statements ks done t ts coming left rest before s above kind. later-unsearched s c.load_next-l.ensures.loaded (context_of (read c.args.file.now.bytes.now)) above kind c.args.d.searched c.args.folded.now (not-true _ c.if-not-d.true)

pub substitute_single_use_symbol_in_expression_from_declarators-r-requires : goal.substitute_single_use_symbol_in_expression_from_declarators-r-requires
substitute_single_use_symbol_in_expression_from_declarators-r-requires c =
    let (x, y, z) = later-can_search c.args.file.now.bytes.now c.args.file.now.header c.args.tables.now.nodes.now c.args.tables.now.declarators.now c.args.tables.now.starts.now c.args.d.first c.args.p c.requires.state _ c.load_next-l.result c.load_next-l.ensures.loaded (omega arith) c.requires.room.0 c.requires.room.1 c.requires.room.2 in
    record {
      tree = rw c.from-target.ensures x;
      declarators = rw c.from-target.ensures y;
      starts = rw c.from-target.ensures z;
    }

pub list_folded-requires : goal.list_folded-requires
list_folded-requires c =
    let f = later-fits c.args.file.now.bytes.now c.args.file.now.header c.args.tables.now.nodes.now c.args.tables.now.declarators.now c.args.tables.now.starts.now c.args.d.first c.args.p c.requires.state (context_of (read c.args.file.now.bytes.now)) _ c.load_next-l.result c.load_next-l.ensures.loaded _ c.substitute_single_use_symbol_in_expression_from_declarators-r.result (rw c.from-target.ensures at c.substitute_single_use_symbol_in_expression_from_declarators-r.ensures.searched) in
    let d = later-declared c.args.file.now.bytes.now c.args.file.now.header c.args.tables.now.nodes.now c.args.tables.now.declarators.now c.args.tables.now.starts.now c.args.d.first c.args.p c.requires.state _ c.load_next-l.result c.load_next-l.ensures.loaded in
    record {
      many = omega (arith, f.taken);
      declarators = omega (arith, d, c.requires.room.1);
      room = omega (arith, f.taken, f.folded, c.requires.room.3);
    }

pub overflow_add-result : goal.overflow_add-result
overflow_add-result c =
    let f = later-fits c.args.file.now.bytes.now c.args.file.now.header c.args.tables.now.nodes.now c.args.tables.now.declarators.now c.args.tables.now.starts.now c.args.d.first c.args.p c.requires.state (context_of (read c.args.file.now.bytes.now)) _ c.load_next-l.result c.load_next-l.ensures.loaded _ c.substitute_single_use_symbol_in_expression_from_declarators-r.result (rw c.from-target.ensures at c.substitute_single_use_symbol_in_expression_from_declarators-r.ensures.searched) in
    omega (arith, f.folded, c.well_formed)

pub overflow_add-result-2 : goal.overflow_add-result-2
overflow_add-result-2 c =
    let f = later-fits c.args.file.now.bytes.now c.args.file.now.header c.args.tables.now.nodes.now c.args.tables.now.declarators.now c.args.tables.now.starts.now c.args.d.first c.args.p c.requires.state (context_of (read c.args.file.now.bytes.now)) _ c.load_next-l.result c.load_next-l.ensures.loaded _ c.substitute_single_use_symbol_in_expression_from_declarators-r.result (rw c.from-target.ensures at c.substitute_single_use_symbol_in_expression_from_declarators-r.ensures.searched) in
    omega (arith, f.looked)

pub returns-clause-taken : goal.returns-clause-taken
returns-clause-taken c = λ statements ks done t ts coming left rest before s above kind. later-searched s c.load_next-l.ensures.loaded (context_of (read c.args.file.now.bytes.now)) above kind (rw c.from-target.ensures at c.substitute_single_use_symbol_in_expression_from_declarators-r.ensures.searched) c.args.d.searched (not-false _ c.if-not-d.false) c.list_folded.ensures.listed
