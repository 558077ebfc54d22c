-- What is printed of a file that was read: its header, its parts. Assumes nothing.
use mathlib.Core.Path.{◌≡◌, sym, ap, ◌∙◌}
use mathlib.Core.Bool.{true, ◌&&◌, ◌||◌, not}
use mathlib.Core.List.{List, [], ◌++◌, append-nil}
use Prim.Native.Nat.{ℕ}
use native.Mathlib.Omega.{arith}
use lib.Dec.{ltb, leb}
use lib.ListN.{length, drop, drop_of_length-le}
use Rattle.records.specs.Bytes.{Bytes}
use Rattle.records.specs.Limits.{name_length, scope_length, frame_length, node_length, declarator_length, statement_length}
use Rattle.records.specs.Records.{bytes_of}
use Rattle.records.specs.Record.{header_of, name_at, name_bytes, scope_at, scope_bytes, frame_at, frame_bytes, node_at, node_bytes, declarator_at, declarator_bytes, statement_at, statement_bytes}
use Rattle.records.specs.Tree.{Trees, sizes, preorders, forest_of}
use Rattle.records.specs.File.{read, header_for, all_trees, all_declarators, declarator_records, statement_records, names_of, scopes_of, frames_of, nodes_of, declarators_of, statements_of, names_start, scopes_start, frames_start, nodes_start, declarators_start, statements_start, file_length}
use Rattle.records.specs.Script.{good_declarator, good_declarator_of}
use Rattle.records.specs.Node.{is_named, good_node, good_node_of}
use Rattle.records.specs.declared.layout.NodeRecord.{NodeRecord}
use Rattle.records.specs.declared.layout.DeclaratorRecord.{DeclaratorRecord}
use Rattle.records.specs.declared.layout.NameFacts.{NameFacts}
use Rattle.records.proofs.Series.{records-length}
use Rattle.records.proofs.Tests.{both, every_weaker}
use Rattle.records_laws.proofs.Preorder.{zeroed, preorders_forest_of-alone, sizes-forest_of}
use Rattle.records_laws.proofs.Series.{print-all}
use Rattle.records_laws.proofs.Formats.{name-reads, name_prints, scope-reads, scope_prints, frame-reads, frame_prints, node-reads, node_prints, declarator-reads, declarator_prints, statement-reads, statement_prints}
use Rattle.records_laws.proofs.PrintedStatements.{declarator_records-length, statement_records-length}
use Rattle.records_laws.proofs.ReadStatements.{present_known, AllAgain, statements-again}
use Rattle.records_laws.proofs.Accepted.{Accepted, has_version, last_zero, good_script, good_nodes, good_trees}

-- There are as many records as the header counts:
module _ (bs : List ℕ) where
  -- names
  pub names_of_length : length (names_of bs) ≡ (header_of bs).names
  unfolding names_of
  names_of_length = records-length (name_at bs) name_length (header_of bs).names (names_start (header_of bs))

  -- scopes
  pub scopes_of-length : length (scopes_of bs) ≡ (header_of bs).scopes
  unfolding scopes_of
  scopes_of-length = records-length (scope_at bs) scope_length (header_of bs).scopes (scopes_start (header_of bs))

  -- frames
  pub frames_of-length : length (frames_of bs) ≡ (header_of bs).frames
  unfolding frames_of
  frames_of-length = records-length (frame_at bs) frame_length (header_of bs).frames (frames_start (header_of bs))

  -- nodes
  pub nodes_of-length : length (nodes_of bs) ≡ (header_of bs).nodes
  unfolding nodes_of
  nodes_of-length = records-length (node_at bs) node_length (header_of bs).nodes (nodes_start (header_of bs))

  -- declarators
  pub declarators_of-length : length (declarators_of bs) ≡ (header_of bs).declarators
  unfolding declarators_of
  declarators_of-length = records-length (declarator_at bs) declarator_length (header_of bs).declarators (declarators_start (header_of bs))

  -- statements
  pub statements_of-length : length (statements_of bs) ≡ (header_of bs).statements
  unfolding statements_of
  statements_of-length = records-length (statement_at bs) statement_length (header_of bs).statements (statements_start (header_of bs))

-- The parts are the bytes behind the header, if those are as many as the header says.
pub parts_again : (bs : List ℕ) → Bytes bs → length bs ≡ file_length (header_of bs)
    → bytes_of name_bytes (names_of bs)
    ++ (bytes_of scope_bytes (scopes_of bs)
    ++ (bytes_of frame_bytes (frames_of bs)
    ++ (bytes_of node_bytes (nodes_of bs)
    ++ (bytes_of declarator_bytes (declarators_of bs)
    ++ bytes_of statement_bytes (statements_of bs)))))
    ≡ drop (names_start (header_of bs)) bs
unfolding names_of scopes_of frames_of nodes_of declarators_of statements_of
parts_again bs small e =
    let h = header_of bs in
    let names = print-all name-reads name_prints bs small h.names (names_start h) (omega arith) in
    let scopes = print-all scope-reads scope_prints bs small h.scopes (scopes_start h) (omega arith) in
    let frames = print-all frame-reads frame_prints bs small h.frames (frames_start h) (omega arith) in
    let nodes = print-all node-reads node_prints bs small h.nodes (nodes_start h) (omega arith) in
    let declarators = print-all declarator-reads declarator_prints bs small h.declarators (declarators_start h) (omega arith) in
    let statements = print-all statement-reads statement_prints bs small h.statements (statements_start h) (omega arith) in
    let end : drop (file_length h) bs ≡ [] = drop_of_length-le bs {i = file_length h} (omega arith) in
    rw (← names, ← scopes, ← frames, ← nodes, ← declarators, ← statements, end, append-nil)

-- a good node's zero field is zero, and a good declarator's mark is known
node-zeroed : (names : List NameFacts) (n : NodeRecord) → good_node names n ≡ true → zeroed n ≡ true
unfolding good_node good_node_of
node-zeroed names n h =
    (both (leb n.kind 30 && (not (is_named n.kind) || ltb n.label (length names))) _ (both _ _ (both _ _ (both _ _ (both _ _ h).0).0).0).0).1

declarator-known : (names : List NameFacts) (d : DeclaratorRecord) → good_declarator names d ≡ true → present_known d ≡ true
unfolding good_declarator good_declarator_of
declarator-known names d h = (both (present_known d) _ h).0

-- The file that is read of accepted bytes has what stands there:
module _ (bs : List ℕ) (room : ℕ) (a : Accepted bs room) where
  -- records, declarators and trees of the statements
  stated : AllAgain (statements_of bs) (declarators_of bs) (forest_of (nodes_of bs))
  stated =
      let known = every_weaker (good_declarator (names_of bs)) present_known (declarator-known (names_of bs)) (declarators_of bs) (good_script a).0 in
      statements-again (statements_of bs) (declarators_of bs) (forest_of (nodes_of bs)) (good_script a).1 known (good_script a).2 (good_trees a).1

  -- the records of its statements
  pub read-statements : statement_records (read bs).statements ≡ statements_of bs
  unfolding read
  read-statements = stated.same

  -- those of its declarators
  pub read-declarators : declarator_records (all_declarators (read bs).statements) ≡ declarators_of bs
  unfolding read
  read-declarators = stated.declared

  -- its trees
  pub read-trees : all_trees (read bs).statements ≡ forest_of (nodes_of bs)
  unfolding read
  read-trees = stated.trees

  -- the records of its nodes
  pub read-nodes : preorders (all_trees (read bs).statements) [] ≡ nodes_of bs
  read-nodes =
      let zeroes = every_weaker (good_node (names_of bs)) zeroed (node-zeroed (names_of bs)) (nodes_of bs) (good_nodes a) in
      ap (λ (ts : Trees). preorders ts []) read-trees ∙ preorders_forest_of-alone (nodes_of bs) (good_trees a).0 zeroes

  nodes-counted : sizes (all_trees (read bs).statements) ≡ (header_of bs).nodes
  nodes-counted = ap sizes read-trees ∙ sizes-forest_of (nodes_of bs) ∙ nodes_of-length bs

  declarators-counted : length (all_declarators (read bs).statements) ≡ (header_of bs).declarators
  declarators-counted = sym (declarator_records-length (all_declarators (read bs).statements)) ∙ ap length read-declarators ∙ declarators_of-length bs

  statements-counted : length (read bs).statements ≡ (header_of bs).statements
  statements-counted = sym (statement_records-length (read bs).statements) ∙ ap length read-statements ∙ statements_of-length bs

  -- its header
  pub read_header : header_for (read bs) ≡ header_of bs
  unfolding header_for read
  read_header = λ i. record {
    options = (header_of bs).options;
    version = sym (has_version a) i;
    names = names_of_length bs i;
    scopes = scopes_of-length bs i;
    frames = frames_of-length bs i;
    nodes = nodes-counted i;
    declarators = declarators-counted i;
    statements = statements-counted i;
    current_scope = (header_of bs).current_scope;
    this_scope = (header_of bs).this_scope;
    last = sym (last_zero a) i;
  }
