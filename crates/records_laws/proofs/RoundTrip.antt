-- The round trip: a file and its bytes say the same. Assumes nothing.
use mathlib.Core.Path.{◌≡◌}
use mathlib.Core.List.{List}
use Prim.Native.Nat.{ℕ, ◌+◌, ◌*◌}
use lib.ListN.{length}
use Rattle.records.specs.Bytes.{Bytes}
use Rattle.records.specs.Tree.{sizes}
use Rattle.records.specs.File.{File, read, print, header_for, all_trees, all_declarators}
use Rattle.records.specs.Refusal.{refusal}
use Rattle.records_laws.proofs.Formats.{header_again}
use Rattle.records_laws.proofs.Accepted.{accepted, has_header, has_length}
use Rattle.records_laws.proofs.PrintedFile.{printed_header, printed_names, printed_scopes, printed_frames, printed_stated, printed_length}
use Rattle.records_laws.proofs.ReadFile.{parts_again, read-statements, read-declarators, read-nodes, read_header}

-- What is read of a printed file is the file, whatever it holds.
pub read-print : (f : File) → read (print f) ≡ f
unfolding read header_for
read-print f = λ i. record {
  options = (printed_header f i).options;
  current_scope = (printed_header f i).current_scope;
  this_scope = (printed_header f i).this_scope;
  names = printed_names f i;
  scopes = printed_scopes f i;
  frames = printed_frames f i;
  statements = printed_stated f i;
}

-- What is printed of the file that is read of accepted bytes is those bytes.
pub print-read : (bs : List ℕ) (room : ℕ) → Bytes bs → refusal bs room ≡ 0 → print (read bs) ≡ bs
unfolding print read
print-read bs room small e =
    let a = accepted bs room e in
    let h = has_header a in
    rw (read_header bs room a, read-nodes bs room a, read-declarators bs room a, read-statements bs room a, parts_again bs small (has_length a))
    (header_again bs small h.0 h.1 h.2 h.3)

-- The length of a printed file, by the counts of the file.
pub print-length : (f : File)
    → length (print f) ≡ 24 + 12 * length f.names + 4 * length f.scopes + 8 * length f.frames + 12 * sizes (all_trees f.statements)
    + 4 * length (all_declarators f.statements) + 4 * length f.statements
unfolding header_for
print-length f = printed_length f
