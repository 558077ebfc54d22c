-- What is read of a printed file: its header, its parts, its statements; and its length. Assumes nothing.
use mathlib.Core.Path.{◌≡◌, refl, sym, ap, ◌∙◌}
use mathlib.Core.List.{List, [], ◌++◌, append-nil}
use Prim.Native.Nat.{ℕ}
use native.Mathlib.Nat.{add-zero}
use native.Mathlib.Omega.{arith}
use lib.ListN.{length, drop, length-append}
use lib.Seq.{drop_at}
use Rattle.records.specs.Limits.{header_length}
use Rattle.records.specs.Records.{bytes_of}
use Rattle.records.specs.Record.{header_of, header_bytes, name_bytes, scope_bytes, frame_bytes, node_bytes, declarator_bytes, statement_bytes}
use Rattle.records.specs.Tree.{sizes, preorders, forest_of}
use Rattle.records.specs.File.{File, read_statements, names_of, scopes_of, frames_of, nodes_of, declarators_of, statements_of, names_start, scopes_start, frames_start, nodes_start, declarators_start, statements_start, file_length, header_for, all_trees, all_declarators, declarator_records, statement_records, print}
use Rattle.records.specs.declared.layout.NodeRecord.{NodeRecord}
use Rattle.records.specs.declared.layout.DeclaratorRecord.{DeclaratorRecord}
use Rattle.records.specs.declared.layout.StatementRecord.{StatementRecord}
use Rattle.records_laws.proofs.Preorder.{preorders-length, forest_of_preorders-alone}
use Rattle.records_laws.proofs.Series.{bytes_of_length, read_all, behind-all}
use Rattle.records_laws.proofs.Formats.{header_length_lem, header_back, name-reads, scope-reads, frame-reads, node-reads, declarator-reads, statement-reads}
use Rattle.records_laws.proofs.PrintedStatements.{declarator_records-length, statement_records-length, statements-read}

module _ (f : File) where
  -- the records of the parts
  abbrev node_records : List NodeRecord
  node_records = preorders (all_trees f.statements) []

  abbrev declarators : List DeclaratorRecord
  declarators = declarator_records (all_declarators f.statements)

  abbrev statements : List StatementRecord
  statements = statement_records f.statements

  -- the bytes behind each part
  abbrev behind_declarators : List ℕ
  behind_declarators = bytes_of statement_bytes statements

  abbrev behind_nodes : List ℕ
  behind_nodes = bytes_of declarator_bytes declarators ++ behind_declarators

  abbrev behind_frames : List ℕ
  behind_frames = bytes_of node_bytes node_records ++ behind_nodes

  abbrev behind_scopes : List ℕ
  behind_scopes = bytes_of frame_bytes f.frames ++ behind_frames

  abbrev behind_names : List ℕ
  behind_names = bytes_of scope_bytes f.scopes ++ behind_scopes

  abbrev behind_header : List ℕ
  behind_header = bytes_of name_bytes f.names ++ behind_names

  -- the header that is read is the one that was printed
  pub printed_header : header_of (print f) ≡ header_for f
  unfolding print
  printed_header = header_back (header_for f) behind_header

  -- the header counts the records
  nodes-counted : length node_records ≡ (header_for f).nodes
  unfolding header_for
  nodes-counted = preorders-length (all_trees f.statements) [] ∙ add-zero (sizes (all_trees f.statements))

  declarators-counted : length declarators ≡ (header_for f).declarators
  unfolding header_for
  declarators-counted = declarator_records-length (all_declarators f.statements)

  statements-counted : length statements ≡ (header_for f).statements
  unfolding header_for
  statements-counted = statement_records-length f.statements

  -- each part stands where the header says
  names_stand : drop (names_start (header_for f)) (print f) ≡ behind_header
  unfolding print
  names_stand = drop_at (header_bytes (header_for f)) behind_header header_length (header_length_lem (header_for f))

  scopes-stand : drop (scopes_start (header_for f)) (print f) ≡ behind_names
  unfolding header_for
  scopes-stand = behind-all name-reads (print f) (names_start (header_for f)) behind_names f.names (header_for f).names refl names_stand

  frames-stand : drop (frames_start (header_for f)) (print f) ≡ behind_scopes
  unfolding header_for
  frames-stand = behind-all scope-reads (print f) (scopes_start (header_for f)) behind_scopes f.scopes (header_for f).scopes refl scopes-stand

  nodes-stand : drop (nodes_start (header_for f)) (print f) ≡ behind_frames
  unfolding header_for
  nodes-stand = behind-all frame-reads (print f) (frames_start (header_for f)) behind_frames f.frames (header_for f).frames refl frames-stand

  declarators-stand : drop (declarators_start (header_for f)) (print f) ≡ behind_nodes
  declarators-stand = behind-all node-reads (print f) (nodes_start (header_for f)) behind_nodes node_records (header_for f).nodes nodes-counted nodes-stand

  statements-stand : drop (statements_start (header_for f)) (print f) ≡ behind_declarators
  statements-stand = behind-all declarator-reads (print f) (declarators_start (header_for f)) behind_declarators declarators (header_for f).declarators declarators-counted declarators-stand

  -- so each part is read: the names
  pub printed_names : names_of (print f) ≡ f.names
  unfolding names_of header_for
  printed_names = rw printed_header (read_all name-reads (print f) (names_start (header_for f)) behind_names f.names (header_for f).names refl names_stand)

  -- the scopes
  pub printed_scopes : scopes_of (print f) ≡ f.scopes
  unfolding scopes_of header_for
  printed_scopes = rw printed_header (read_all scope-reads (print f) (scopes_start (header_for f)) behind_scopes f.scopes (header_for f).scopes refl scopes-stand)

  -- the frames
  pub printed_frames : frames_of (print f) ≡ f.frames
  unfolding frames_of header_for
  printed_frames = rw printed_header (read_all frame-reads (print f) (frames_start (header_for f)) behind_frames f.frames (header_for f).frames refl frames-stand)

  -- the nodes
  pub printed_nodes : nodes_of (print f) ≡ preorders (all_trees f.statements) []
  unfolding nodes_of
  printed_nodes = rw printed_header (read_all node-reads (print f) (nodes_start (header_for f)) behind_nodes node_records (header_for f).nodes nodes-counted nodes-stand)

  -- the declarators
  pub printed_declarators : declarators_of (print f) ≡ declarator_records (all_declarators f.statements)
  unfolding declarators_of
  printed_declarators =
      rw printed_header (read_all declarator-reads (print f) (declarators_start (header_for f)) behind_declarators declarators (header_for f).declarators declarators-counted declarators-stand)

  -- the statements' records
  pub printed_statements : statements_of (print f) ≡ statement_records f.statements
  unfolding statements_of
  printed_statements =
      rw printed_header (read_all statement-reads (print f) (statements_start (header_for f)) [] statements (header_for f).statements statements-counted (statements-stand ∙ sym (append-nil behind_declarators)))

  -- its trees
  pub printed_forest : forest_of (nodes_of (print f)) ≡ all_trees f.statements
  printed_forest = ap forest_of printed_nodes ∙ forest_of_preorders-alone (all_trees f.statements)

  -- and its statements
  pub printed_stated : read_statements (statements_of (print f)) (declarators_of (print f)) (forest_of (nodes_of (print f))) ≡ f.statements
  printed_stated = rw (printed_statements, printed_declarators, printed_forest) (statements-read f.statements)

  -- a file is as long as its header says
  pub printed_length : length (print f) ≡ file_length (header_for f)
  unfolding print header_for
  printed_length =
      simp (
        length-append,
        header_length_lem,
        bytes_of_length name-reads,
        bytes_of_length scope-reads,
        bytes_of_length frame-reads,
        bytes_of_length node-reads,
        bytes_of_length declarator-reads,
        bytes_of_length statement-reads,
      )
      (omega (arith, nodes-counted, declarators-counted, statements-counted))
