-- The definitions that compute where `computed` is unfolded: all that a fold of bytes comes to.
use Rattle.records.specs.Bytes.{u16_at, u32_at}
use Rattle.records.specs.Records.{records_from, bytes_of, every_from}
use Rattle.records.specs.Record.{header_of, header_bytes, name_at, name_bytes, scope_at, scope_bytes, frame_at, frame_bytes, node_at, node_bytes, declarator_at, declarator_bytes, statement_at, statement_bytes}
use Rattle.records.specs.Tree.{count, size, firsts, others, record_of, preorder, node_of, grown, forest_of, closed}
use Rattle.records.specs.File.{names_of, scopes_of, frames_of, nodes_of, declarators_of, statements_of, first_tree, initializers, read_declarators, declaration_kind, read_statement, trees_of, read_statements, read, is_given, declarator_records, kind_number, declarators_in, statement_number, statement_record, statement_records, all_declarators, initializer_tree, initializer_trees, statement_trees, all_trees, header_for, print}
use Rattle.records.specs.Header.{not_a_record_file, other_version, outside_limits, other_length}
use Rattle.records.specs.Facts.{good_name, good_scope, good_frame, bad_facts}
use Rattle.records.specs.Script.{flags_of, good_declarator_of, good_declarator, good_statement, declarator_sum, bad_statements, declares, declared_twice}
use Rattle.records.specs.Node.{fewest, most, good_children, good_flags, may_mark, good_node_of, good_node, bad_nodes}
use Rattle.records.specs.Place.{is_expression, may_stand, unchained, may_be_unchained, stand_under, placed, roots_stand, expressions, bad_trees}
use Rattle.records.specs.Count.{target_name, first_target, name_read, uses_in, good_counts, bad_counts}
use Rattle.records.specs.Refusal.{room_wanted, refusal}
use Rattle.walk_rules.specs.Context.{context_of}
use Rattle.walk_rules.proofs.Computed.{computed as searchComputed}
use Rattle.statements_rules.specs.Trace.{pure, ◌>>=◌, looked, folded}
use Rattle.statements_rules.specs.Declarators.{is_script_root_scope, is_unsearched, is_using, name_needs_to_be_kept, ends_search, fold_of, after_answer, from_declarator, substitute_from_declarators, within_declarator, within_declarators, substitute_within_declaration}
use Rattle.statements_rules.specs.Statements.{after_declarators, from_statement, from_statements, substitute_in_statement, in_initializer, in_first_declarator, fold_statement, fold_statements}
use Rattle.statements_rules.specs.Fold.{with_statements, folded_file, fold_file, refused, accepted, fold_bytes}

unfoldable pub computed : Unit {0}
unfolding searchComputed u16_at u32_at records_from bytes_of every_from header_of header_bytes name_at name_bytes scope_at
    scope_bytes frame_at frame_bytes node_at node_bytes declarator_at declarator_bytes statement_at statement_bytes count size
    firsts others record_of preorder node_of grown forest_of closed names_of scopes_of frames_of nodes_of declarators_of
    statements_of first_tree initializers read_declarators declaration_kind read_statement trees_of read_statements read
    is_given declarator_records kind_number declarators_in statement_number statement_record statement_records all_declarators
    initializer_tree initializer_trees statement_trees all_trees header_for print not_a_record_file other_version outside_limits
    other_length good_name good_scope good_frame bad_facts flags_of good_declarator_of good_declarator good_statement
    declarator_sum bad_statements declares declared_twice fewest most good_children good_flags may_mark good_node_of good_node
    bad_nodes is_expression may_stand unchained may_be_unchained stand_under placed roots_stand expressions bad_trees target_name
    first_target name_read uses_in good_counts bad_counts room_wanted refusal context_of pure ◌>>=◌ looked folded is_script_root_scope is_unsearched
    is_using name_needs_to_be_kept ends_search fold_of after_answer from_declarator substitute_from_declarators within_declarator
    within_declarators substitute_within_declaration after_declarators from_statement from_statements substitute_in_statement
    in_initializer in_first_declarator fold_statement fold_statements with_statements folded_file fold_file refused accepted
    fold_bytes
computed = tt
