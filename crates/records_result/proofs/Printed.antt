-- What is laid down is the print of the file. Assumes nothing.
use mathlib.Core.Path.{◌≡◌, sym, ap, ◌∙◌}
use mathlib.Core.List.{List, [], ◌++◌, append_assoc, append-nil}
use Prim.Native.Nat.{ℕ, ◌+◌, ◌-◌, ◌*◌}
use native.Mathlib.Nat.{add-zero}
use native.Mathlib.Omega.{arith}
use borrow.Rule.Slice.PartMut.{mid_of, put_mid}
use lib.ListN.{length, take, drop, length-append, length-drop}
use lib.Seq.{take_at, length-take-le}
use Rattle.records.specs.Bytes.{Bytes}
use Rattle.records.specs.Record.{header_of, header_bytes, name_bytes, scope_bytes, frame_bytes, node_at, node_bytes, declarator_bytes, statement_bytes}
use Rattle.records.specs.Records.{records_from, bytes_of}
use Rattle.records.specs.Tree.{sizes, preorders}
use Rattle.records.specs.File.{File, read, print, header_for, names_of, scopes_of, frames_of, names_start, scopes_start, frames_start, nodes_start, file_length, all_trees, all_declarators, declarator_records, statement_records}
use Rattle.records.specs.declared.layout.Header.{Header}
use Rattle.records_laws.proofs.Formats.{header_length_lem, name-reads, name_prints, scope-reads, scope_prints, frame-reads, frame_prints, declarator-reads, statement-reads}
use Rattle.records_laws.proofs.PrintedFile.{printed_length}
use Rattle.records_laws.proofs.PrintedStatements.{declarator_records-length, statement_records-length}
use Rattle.records_laws.proofs.Preorder.{preorders-length}
use Rattle.records_laws.proofs.ReadFile.{names_of_length, scopes_of-length, frames_of-length}
use Rattle.records_laws.proofs.Series.{bytes_of_length, read_all, print-all}
use Rattle.records.proofs.Putting.{put_next}
use Rattle.records_table.proofs.Laid.{work_reads, laids-preorders}
use Rattle.records_result.specs.declared.header.Counts.{Counts}
use Rattle.records_result.specs.Header.{result_header}
use Rattle.records_result.specs.Result.{SameFacts, Stated, PutsResult}

-- the facts of a file, as it has them behind its header
abbrev fact_bytes : File → List ℕ
fact_bytes f = bytes_of name_bytes f.names ++ (bytes_of scope_bytes f.scopes ++ bytes_of frame_bytes f.frames)

module _ (bs : List ℕ) (small : Bytes bs) (long : length bs ≡ file_length (header_of bs)) where
  -- they stand there
  facts-stand : drop 24 bs ≡ fact_bytes (read bs) ++ drop (nodes_start (header_of bs)) bs
  unfolding read names_of scopes_of frames_of
  facts-stand =
      let h = header_of bs in
      let names = print-all name-reads name_prints bs small h.names (names_start h) (omega arith) in
      let scopes = print-all scope-reads scope_prints bs small h.scopes (scopes_start h) (omega arith) in
      let frames = print-all frame-reads frame_prints bs small h.frames (frames_start h) (omega arith) in
      rw (← names, ← scopes, ← frames, append_assoc, append_assoc)

  facts-long : length (fact_bytes (read bs)) ≡ nodes_start (header_of bs) - 24
  unfolding read
  facts-long =
      omega (
        arith,
        length-append (bytes_of name_bytes (names_of bs)) (bytes_of scope_bytes (scopes_of bs) ++ bytes_of frame_bytes (frames_of bs)),
        length-append (bytes_of scope_bytes (scopes_of bs)) (bytes_of frame_bytes (frames_of bs)),
        bytes_of_length name-reads (names_of bs),
        bytes_of_length scope-reads (scopes_of bs),
        bytes_of_length frame-reads (frames_of bs),
        names_of_length bs,
        scopes_of-length bs,
        frames_of-length bs,
      )

  facts-taken : take (nodes_start (header_of bs) - 24) (drop 24 bs) ≡ fact_bytes (read bs)
  facts-taken = ap (take (nodes_start (header_of bs) - 24)) facts-stand ∙ take_at (fact_bytes (read bs)) _ _ facts-long

-- Statements that stand in the tables: what is laid down of each table is what the print has of them.
module _ (f : File) {nodes declarators statements : List ℕ} {counts : Counts} {rest₁ rest₂ rest₃ : List ℕ} (s : Stated f.statements nodes declarators statements counts rest₁ rest₂ rest₃) where
  nodes-read : records_from (node_at nodes) 16 counts.nodes 0 ≡ preorders (all_trees f.statements) []
  nodes-read =
      let ts = all_trees f.statements in
      read_all work_reads nodes 0 rest₁ (preorders ts []) counts.nodes (preorders-length ts [] ∙ add-zero (sizes ts) ∙ sym s.used) (s.trees ∙ laids-preorders ts rest₁)

  declarators-taken : take (4 * counts.declarators) declarators ≡ bytes_of declarator_bytes (declarator_records (all_declarators f.statements))
  declarators-taken =
      let ds = all_declarators f.statements in
      ap (take (4 * counts.declarators)) s.declared
      ∙ take_at (bytes_of declarator_bytes (declarator_records ds)) rest₂ (4 * counts.declarators)
      (omega (arith, bytes_of_length declarator-reads (declarator_records ds), declarator_records-length ds, s.many))

  statements-taken : take (4 * counts.statements) statements ≡ bytes_of statement_bytes (statement_records f.statements)
  statements-taken =
      ap (take (4 * counts.statements)) s.stated
      ∙ take_at (bytes_of statement_bytes (statement_records f.statements)) rest₃ (4 * counts.statements)
      (omega (arith, bytes_of_length statement-reads (statement_records f.statements), statement_records-length f.statements, s.listed))

  module _ (bs : List ℕ) (same : SameFacts f (read bs)) where
    -- the header is the one that says what the file has
    header_same : result_header (header_of bs) counts ≡ header_for f
    unfolding header_for read
    header_same = λ i. record {
      options = sym same.options i;
      version = 1;
      names = sym (ap length same.names ∙ names_of_length bs) i;
      scopes = sym (ap length same.scopes ∙ scopes_of-length bs) i;
      frames = sym (ap length same.frames ∙ frames_of-length bs) i;
      nodes = s.used i;
      declarators = s.many i;
      statements = s.listed i;
      current_scope = sym same.current_scope i;
      this_scope = sym same.this_scope i;
      last = 0;
    }

    -- so the length is the print's
    result-long : file_length (result_header (header_of bs) counts) ≡ length (print f)
    result-long = ap (λ (h : Header). file_length h) header_same ∙ sym (printed_length f)

    -- and so are the parts, one behind the other
    result_printed : Bytes bs → length bs ≡ file_length (header_of bs) → (rest : List ℕ)
        → header_bytes (result_header (header_of bs) counts)
        ++ (take (nodes_start (header_of bs) - 24) (drop 24 bs)
        ++ (bytes_of node_bytes (records_from (node_at nodes) 16 counts.nodes 0)
        ++ (take (4 * counts.declarators) declarators
        ++ (take (4 * counts.statements) statements ++ rest))))
        ≡ print f ++ rest
    unfolding print
    result_printed small long rest =
        rw (header_same, facts-taken bs small long, nodes-read, declarators-taken, statements-taken, ← same.names, ← same.scopes, ← same.frames) (simp append_assoc)

-- The header and the facts up to `end`, and behind them what the tables hold: the result is put.
module _ (bs nodes declarators statements : List ℕ) (counts : Counts) (out₀ : List ℕ) where
  abbrev table_bytes : List ℕ → List ℕ
  table_bytes rest =
      bytes_of node_bytes (records_from (node_at nodes) 16 counts.nodes 0) ++ (take (4 * counts.declarators) declarators ++ (take (4 * counts.statements) statements ++ rest))

  pub result-put : (h header : Header) (end : ℕ) {out ys : List ℕ} → Bytes bs → h ≡ header_of bs → length bs ≡ file_length h
      → header ≡ result_header h counts → end ≡ nodes_start header
      → out ≡ header_bytes header ++ (take (end - 24) (drop 24 bs) ++ drop end out₀)
      → ys ≡ table_bytes (drop (12 * counts.nodes + 4 * counts.declarators + 4 * counts.statements) (mid_of end (length out - end) out))
      → PutsResult bs nodes declarators statements counts out₀ (put_mid end (length out - end) out ys)
  result-put h header end {out} {ys} small eh long er ee p q f rest₁ rest₂ rest₃ same s =
      let facts = take (end - 24) (drop 24 bs) in
      let tables = table_bytes [] in
      let header_is : header ≡ result_header (header_of bs) counts = er ∙ ap (λ (h : Header). result_header h counts) eh in
      let end_is : end ≡ nodes_start (header_of bs) = ee ∙ ap (λ (h : Header). nodes_start h) header_is in
      let last = file_length (result_header (header_of bs) counts) in
      let bs-long : length bs ≡ file_length (header_of bs) = long ∙ ap (λ (h : Header). file_length h) eh in
      let facts-length : length facts ≡ end - 24 = length-take-le (end - 24) (drop 24 bs) (omega (arith, length-drop 24 bs)) in
      let put = put_next out₀ (header_bytes header ++ facts) tables end (12 * counts.nodes + 4 * counts.declarators + 4 * counts.statements) last
      (omega (arith, length-append (header_bytes header) facts, header_length_lem header, facts-length)) (omega (arith, end_is))
      (p ∙ sym (append_assoc (header_bytes header) facts (drop end out₀))) (q ∙ simp (append_assoc, append-nil)) in
      let flat : (header_bytes header ++ facts) ++ (tables ++ drop last out₀) ≡ header_bytes header ++ (facts ++ table_bytes (drop last out₀)) = simp (append_assoc, append-nil) in
      let printed : header_bytes header ++ (facts ++ table_bytes (drop last out₀)) ≡ print f ++ drop last out₀ = rw (header_is, end_is) (result_printed f s bs same small bs-long (drop last out₀)) in
      put ∙ flat ∙ printed ∙ ap (λ (k : ℕ). print f ++ drop k out₀) (result-long f s bs same)
