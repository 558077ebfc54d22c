-- The six kinds of record and the header, each read from its bytes and printed to them. The laws of `Series`
-- say so where they stand: `read_one_in node-reads pre n rest` is that `node_at (pre ++ (node_bytes n ++ rest)) (length pre)`
-- is n, and `print-one node-reads node_prints` the other way round. Assumes nothing.
use mathlib.Core.Path.{◌≡◌, refl, sym, ap, ◌∙◌}
use mathlib.Core.List.{List, ◌∷◌, ◌++◌}
use Prim.Native.Nat.{ℕ, zero, suc, ◌+◌, ◌≤◌}
use native.Mathlib.Nat.{add-zero, add-suc, suc-add}
use native.Mathlib.Omega.{arith}
use lib.ListN.{length, get_or, drop}
use lib.Seq.{drop-cons, get_or-drop}
use Rattle.records.specs.Bytes.{u16_at, u32_at, Bytes}
use Rattle.records.specs.Limits.{header_length, name_length, scope_length, frame_length, node_length, declarator_length, statement_length}
use Rattle.records.specs.Record.{header_of, header_bytes, name_at, name_bytes, scope_at, scope_bytes, frame_at, frame_bytes, node_at, node_bytes, declarator_at, declarator_bytes, statement_at, statement_bytes}
use Rattle.records.specs.declared.layout.Header.{Header}
use Rattle.records_laws.proofs.Numbers.{u16_drop, u32_drop, u16_whole, u32_whole, u16_again, u32_again}
use Rattle.records_laws.proofs.Series.{Reads, Prints}

-- n bytes from number i on, before others
listed : List ℕ → ℕ → ℕ → List ℕ → List ℕ
listed bs zero i rest = rest
listed bs (suc n) i rest = get_or bs i 0 ∷ listed bs n (suc i) rest

-- bytes from a place on, the first n of them one by one
listed-drop : (bs : List ℕ) (n i : ℕ) → i + n ≤ length bs → listed bs n i (drop (i + n) bs) ≡ drop i bs
unfolding listed
listed-drop bs zero i h = rw add-zero
listed-drop bs (suc n) i h =
    ap (λ (l : List ℕ). get_or bs i 0 ∷ l) (rw (add-suc, ← suc-add) (listed-drop bs n (suc i) (omega arith))) ∙ sym (drop-cons bs i 0 (omega arith))

-- what is read from a place on, and of a number's own bytes
ruleset onward-rules = (u16_drop, u32_drop, get_or-drop, add-zero)

ruleset whole-rules = (u16_whole, u32_whole)

-- Name facts.
pub name-reads : Reads name_at name_bytes name_length
unfolding name_at name_bytes
name-reads = record { measured = λ x. refl; onward = λ bs at. simp onward-rules; back = λ x rest. unfold u16_at u32_at in simp whole-rules }

pub name_prints : Prints name_at name_bytes name_length
unfolding name_at name_bytes listed
name_prints = record { again = λ bs b h. (λ k. u16_again bs b 0 k ++ u16_again bs b 2 k ++ u32_again bs b 4 k ++ u32_again bs b 8 k ++ drop name_length bs) ∙ listed-drop bs name_length 0 h }

-- A scope.
pub scope-reads : Reads scope_at scope_bytes scope_length
unfolding scope_at scope_bytes
scope-reads = record { measured = λ x. refl; onward = λ bs at. simp onward-rules; back = λ x rest. unfold u16_at u32_at in simp whole-rules }

pub scope_prints : Prints scope_at scope_bytes scope_length
unfolding scope_at scope_bytes listed
scope_prints = record { again = λ bs b h. (λ k. u16_again bs b 0 k ++ u16_again bs b 2 k ++ drop scope_length bs) ∙ listed-drop bs scope_length 0 h }

-- A frame.
pub frame-reads : Reads frame_at frame_bytes frame_length
unfolding frame_at frame_bytes
frame-reads = record { measured = λ x. refl; onward = λ bs at. simp onward-rules; back = λ x rest. unfold u16_at u32_at in simp whole-rules }

pub frame_prints : Prints frame_at frame_bytes frame_length
unfolding frame_at frame_bytes listed
frame_prints = record { again = λ bs b h. (λ k. u16_again bs b 0 k ++ u16_again bs b 2 k ++ u32_again bs b 4 k ++ drop frame_length bs) ∙ listed-drop bs frame_length 0 h }

-- A node.
pub node-reads : Reads node_at node_bytes node_length
unfolding node_at node_bytes
node-reads = record { measured = λ x. refl; onward = λ bs at. simp onward-rules; back = λ x rest. unfold u16_at u32_at in simp whole-rules }

pub node_prints : Prints node_at node_bytes node_length
unfolding node_at node_bytes listed
node_prints = record { again = λ bs b h. (λ k. (get_or bs 0 0 ∷ get_or bs 1 0 ∷ u16_again bs b 2 k ++ u16_again bs b 4 k ++ u16_again bs b 6 k ++ u32_again bs b 8 k) ++ drop node_length bs) ∙ listed-drop bs node_length 0 h }

-- A declarator.
pub declarator-reads : Reads declarator_at declarator_bytes declarator_length
unfolding declarator_at declarator_bytes
declarator-reads = record { measured = λ x. refl; onward = λ bs at. simp onward-rules; back = λ x rest. unfold u16_at u32_at in simp whole-rules }

pub declarator_prints : Prints declarator_at declarator_bytes declarator_length
unfolding declarator_at declarator_bytes listed
declarator_prints = record { again = λ bs b h. (λ k. u16_again bs b 0 k ++ u16_again bs b 2 k ++ drop declarator_length bs) ∙ listed-drop bs declarator_length 0 h }

-- A statement.
pub statement-reads : Reads statement_at statement_bytes statement_length
unfolding statement_at statement_bytes
statement-reads = record { measured = λ x. refl; onward = λ bs at. simp onward-rules; back = λ x rest. unfold u16_at u32_at in simp whole-rules }

pub statement_prints : Prints statement_at statement_bytes statement_length
unfolding statement_at statement_bytes listed
statement_prints = record { again = λ bs b h. (λ k. (get_or bs 0 0 ∷ get_or bs 1 0 ∷ u16_again bs b 2 k) ++ drop statement_length bs) ∙ listed-drop bs statement_length 0 h }

-- The header is 24 bytes.
pub header_length_lem : (h : Header) → length (header_bytes h) ≡ header_length
unfolding header_bytes
header_length_lem h = refl

-- what is read of its bytes is the header
pub header_back : (h : Header) (rest : List ℕ) → header_of (header_bytes h ++ rest) ≡ h
unfolding header_of header_bytes u16_at
header_back h rest = simp whole-rules

-- the bytes of a header that is read are those that stand there, if the letters are `WSF`
pub header_again : (bs : List ℕ) → Bytes bs → header_length ≤ length bs → get_or bs 0 0 ≡ 87 → get_or bs 1 0 ≡ 83 → get_or bs 2 0 ≡ 70
    → header_bytes (header_of bs) ++ drop header_length bs ≡ bs
unfolding header_of header_bytes listed
header_again bs b h w s f =
    (λ k.
    (sym w k ∷ sym s k ∷ sym f k ∷ get_or bs 3 0 ∷ u16_again bs b 4 k ++ u16_again bs b 6 k ++ u16_again bs b 8 k ++ u16_again bs b 10 k
    ++ u16_again bs b 12 k ++ u16_again bs b 14 k ++ u16_again bs b 16 k ++ u16_again bs b 18 k ++ u16_again bs b 20 k ++ u16_again bs b 22 k)
    ++ drop header_length bs)
    ∙ listed-drop bs header_length 0 h
