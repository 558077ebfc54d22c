-- What is known of a file that rows 1, 3, 4 or 6 don't refuse. Assumes nothing.
use mathlib.Core.Path.{◌≡◌, refl}
use mathlib.Core.Bool.{Bool, true, false, not, ◌&&◌, ◌||◌}
use mathlib.Core.List.{List}
use Prim.Native.Nat.{ℕ, ◌+◌, ◌*◌, ◌≤◌}
use native.Mathlib.Omega.{arith}
use lib.ListN.{length}
use lib.Dec.{eqb, ltb, leb}
use borrow.Author.Tests.{not-false, ltb-true, ltb-false, lt-ltb, leb-true, eqb-true}
use Rattle.records.specs.Limits.{no_number}
use Rattle.records.specs.Records.{every}
use Rattle.records.specs.Flags.{unresolved}
use Rattle.records.specs.Record.{header_of, name_at}
use Rattle.records.specs.File.{file_length, names_of, declarators_of, statements_of}
use Rattle.records.specs.Header.{not_a_record_file, outside_limits, other_length, counts_fit, options_known, header_scopes}
use Rattle.records.specs.Script.{good_declarator, good_declarator_of, good_statement, flags_of, bad_statements}
use Rattle.records.specs.declared.layout.Header.{Header}
use Rattle.records.specs.declared.layout.NameFacts.{NameFacts}
use Rattle.records.specs.declared.layout.DeclaratorRecord.{DeclaratorRecord}
use Rattle.records.specs.declared.layout.StatementRecord.{StatementRecord}
use Rattle.records.proofs.Series.{records-length}
use Rattle.records.proofs.Tests.{and_left, and_right, neither, every_weaker}
use Rattle.records_rows.specs.Tally.{fits}

-- row 1
pub long-enough : (bs : List ℕ) → not_a_record_file bs ≡ false → 24 ≤ length bs
unfolding not_a_record_file
long-enough bs e = ltb-false (length bs) 24 (neither (ltb (length bs) 24) _ e).0

-- row 3
counts-fit : (h : Header) → outside_limits h ≡ false → counts_fit h ≡ true
unfolding outside_limits
counts-fit h e =
    and_left (counts_fit h) (options_known h) (and_left (counts_fit h && options_known h) (header_scopes h) (and_left (counts_fit h && options_known h && header_scopes h) _ (not-false _ e)))

pub names-fit : (h : Header) → outside_limits h ≡ false → h.names ≤ 256
names-fit h e =
    leb-true h.names 256
    (and_left (leb h.names 256) (leb 1 h.scopes)
    (and_left _ (leb h.scopes 256)
    (and_left _ (leb h.frames 16)
    (and_left _ (leb h.declarators 500)
    (and_left _ (leb 1 h.statements)
    (and_left _ (leb h.statements 500)
    (and_left _ (leb (h.nodes + 2 * h.declarators) 3000) (counts-fit h e))))))))

pub nodes-fit : (h : Header) → outside_limits h ≡ false → h.nodes ≤ 3000
nodes-fit h e =
    let all = leb-true (h.nodes + 2 * h.declarators) 3000
    (and_right (leb h.names 256 && leb 1 h.scopes && leb h.scopes 256 && leb h.frames 16 && leb h.declarators 500 && leb 1 h.statements && leb h.statements 500)
    (leb (h.nodes + 2 * h.declarators) 3000) (counts-fit h e)) in
    omega (arith, all)

-- row 4
pub length_said : (bs : List ℕ) (h : Header) → other_length bs h ≡ false → length bs ≡ file_length h
unfolding other_length
length_said bs h e = eqb-true _ _ (not-false _ e)

-- row 6
name-fits : (a n : ℕ) (u : Bool) → n ≤ 256 → (b : Bool) → (b || ltb a n && u) ≡ true → (b || ltb a 256) ≡ true
name-fits a n u h true e = refl
name-fits a n u h false e = lt-ltb a 256 (let l = ltb-true a n (and_left (ltb a n) u e) in omega (arith, l, h))

declarator-fits : (names : List NameFacts) → length names ≤ 256 → (d : DeclaratorRecord) → good_declarator names d ≡ true → fits d ≡ true
unfolding good_declarator good_declarator_of fits
declarator-fits names h d e =
    name-fits d.name (length names) (not (unresolved (flags_of names d.name))) h (eqb d.name no_number) (and_right (leb d.present 1) _ e)

declarators-fit : (names : List NameFacts) (ds : List DeclaratorRecord) (ss : List StatementRecord) → length names ≤ 256 → bad_statements names ds ss ≡ false → every fits ds ≡ true
unfolding bad_statements
declarators-fit names ds ss h e =
    every_weaker (good_declarator names) fits (declarator-fits names h) ds
    (and_left (every (good_declarator names) ds) (every good_statement ss) (and_left (every (good_declarator names) ds && every good_statement ss) _ (not-false _ e)))

-- of a file whose header is within its limits
pub file-declarators_fit : (bs : List ℕ) (h : Header) → h ≡ header_of bs → outside_limits h ≡ false
    → bad_statements (names_of bs) (declarators_of bs) (statements_of bs) ≡ false → every fits (declarators_of bs) ≡ true
unfolding names_of
file-declarators_fit bs h eh e b =
    declarators-fit (names_of bs) (declarators_of bs) (statements_of bs)
    (rw (records-length (name_at bs) 12 (header_of bs).names 24, ← eh) (names-fit h e)) b
