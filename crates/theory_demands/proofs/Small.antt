-- Lists of bytes, and records whose numbers fit their bytes.
use Prim.Native.Nat.{ℕ, zero, suc, ◌+◌, ◌/◌, ◌%◌, ◌≤◌, ◌<◌}
use native.Mathlib.Omega.{arith}
use mathlib.Core.Bool.{Bool, true, false, ◌&&◌, ◌||◌, not}
use mathlib.Core.List.{List, [], ◌∷◌, ◌++◌}
use mathlib.Core.Path.{◌≡◌, refl}
use lib.ListN.{length, get_or}
use lib.Dec.{eqb, ltb, leb}
use borrow.Author.Tests.{eqb-true, leb-true, ltb-true}
use Rattle.records.specs.Bytes.{Bytes, u32_at, u16_bytes, u32_bytes}
use Rattle.records.specs.Flags.{unresolved, marked}
use Rattle.records.specs.Limits.{no_number, no_position}
use Rattle.records.specs.Records.{every, every_from, records_from, bytes_of}
use Rattle.records.specs.Record.{name_at, name_bytes, scope_at, scope_bytes, frame_at, frame_bytes, node_bytes, declarator_bytes, statement_bytes}
use Rattle.records.specs.Script.{flags_of, good_declarator_of, good_declarator, good_statement, declarator_sum}
use Rattle.records.specs.Node.{is_named, fewest, most, good_children, good_flags, may_mark, good_node_of, good_node}
use Rattle.records.specs.declared.layout.NameFacts.{NameFacts}
use Rattle.records.specs.declared.layout.NodeRecord.{NodeRecord}
use Rattle.records.specs.declared.layout.DeclaratorRecord.{DeclaratorRecord}
use Rattle.records.specs.declared.layout.StatementRecord.{StatementRecord}
use Rattle.records.proofs.Tests.{both, all_three, every-parts, clash}
use Rattle.records_laws.proofs.Numbers.{u16_fits}
use Rattle.theory_preservation.proofs.Tests.{by_or}
use Rattle.theory_demands.proofs.Narrow.{narrow_record}

pub data Small : List ℕ → Type 0 where
  end : Small []
  byte : {bs : List ℕ} (b : ℕ) → b < 256 → Small bs → Small (b ∷ bs)

pub small-append : (xs ys : List ℕ) → Small xs → Small ys → Small (xs ++ ys)
small-append [] ys end g = g
small-append (x ∷ xs) ys (byte b a h) g = byte b a (small-append xs ys h g)

pub small_bytes : (bs : List ℕ) → Small bs → Bytes bs
small_bytes [] end i = omega arith
small_bytes (b ∷ bs) (byte c a h) zero = a
small_bytes (b ∷ bs) (byte c a h) (suc i) = small_bytes bs h i

-- the bytes of a number of two before others; of four
pub two : {rest : List ℕ} (n : ℕ) → n < 65536 → Small rest → Small (u16_bytes n ++ rest)
two n h r = byte (n % 256) (omega arith) (byte (n / 256) (omega arith) r)

pub four : {rest : List ℕ} (n : ℕ) → n < 4294967296 → Small rest → Small (u32_bytes n ++ rest)
four n h r = byte (n % 256) (omega arith) (byte (n / 256 % 256) (omega arith) (byte (n / 65536 % 256) (omega arith) (byte (n / 16777216) (omega arith) r)))

-- Records, one after the other: each is good, or each was read of bytes.
module _ {A : Type 0} (bytes : A → List ℕ) where
  pub all_small : (good : A → Bool) → ((x : A) → good x ≡ true → Small (bytes x)) → (xs : List A) → every good xs ≡ true → Small (bytes_of bytes xs)
  unfolding bytes_of
  all_small good h [] e = end
  all_small good h (x ∷ xs) e = let (a, b) = every-parts good x xs e in small-append (bytes x) (bytes_of bytes xs) (h x a) (all_small good h xs b)

  pub read_small : (readAt : ℕ → A) (len n at : ℕ) → ((i : ℕ) → Small (bytes (readAt i))) → Small (bytes_of bytes (records_from readAt len n at))
  unfolding records_from bytes_of
  read_small readAt len zero at h = end
  read_small readAt len (suc n) at h = small-append (bytes (readAt at)) (bytes_of bytes (records_from readAt len n (at + len))) (h at) (read_small readAt len n (at + len) h)

module _ (bs : List ℕ) (small : Bytes bs) where
  pub u32_fits : (i : ℕ) → u32_at bs i < 4294967296
  unfolding u32_at
  u32_fits i = omega (arith, u16_fits bs small i, u16_fits bs small (i + 2))

  pub name-small : (i : ℕ) → Small (name_bytes (name_at bs i))
  unfolding name_bytes name_at
  name-small i = two _ (u16_fits bs small i) (two _ (u16_fits bs small (i + 2)) (four _ (u32_fits (i + 4)) (four _ (u32_fits (i + 8)) end)))

  pub scope-small : (i : ℕ) → Small (scope_bytes (scope_at bs i))
  unfolding scope_bytes scope_at
  scope-small i = two _ (u16_fits bs small i) (two _ (u16_fits bs small (i + 2)) end)

  pub frame_small : (i : ℕ) → Small (frame_bytes (frame_at bs i))
  unfolding frame_bytes frame_at
  frame_small i = two _ (u16_fits bs small i) (two _ (u16_fits bs small (i + 2)) (four _ (u32_fits (i + 4)) end))

-- A good node whose label and position fit.
get_d_most : (xs : List ℕ) (n : ℕ) → every (λ m. leb m n) xs ≡ true → (k : ℕ) → get_or xs k 0 ≤ n
get_d_most [] n e k = omega arith
get_d_most (x ∷ xs) n e zero = leb-true x n (every-parts (λ m. leb m n) x xs e).0
get_d_most (x ∷ xs) n e (suc k) = get_d_most xs n (every-parts (λ m. leb m n) x xs e).1 k

children-fit : (n : NodeRecord) → good_children n ≡ true → n.children < 65536
unfolding good_children
children-fit n e =
    let (a, b, c) = all_three (leb (get_or fewest n.kind 0) n.children) (leb n.children (get_or most n.kind 0)) _ e in
    let d = leb-true n.children (get_or most n.kind 0) b in
    let m = get_d_most most 65535 (unfold most every_from in refl) n.kind in
    omega (arith, d, m)

flags-fit : (n : NodeRecord) → good_flags n ≡ true → n.flags < 128
flags-fit n e = by (ltb n.flags 128) refl
  where
    by : (b : Bool) → ltb n.flags 128 ≡ b → n.flags < 128
    by true q = ltb-true n.flags 128 q
    by false q = clash false refl (unfold good_flags in (rw q at e))

-- what a good node says of its bytes
module _ (names : List NameFacts) (n : NodeRecord) (e : good_node names n ≡ true) where
  node-parts : (n.kind ≤ 30) × (n.zero ≡ 0) × (n.flags < 128) × (n.children < 65536)
  unfolding good_node good_node_of
  node-parts =
      let kinds = leb n.kind 30 && (not (is_named n.kind) || ltb n.label (length names)) in
      let (a, children) = both _ (good_children n) e in
      let (b, mark) = both _ (not (marked n.flags) || may_mark (flags_of names n.label) n) a in
      let (c, flags) = both _ (good_flags n) b in
      let (d, position) = both _ (not (eqb n.position no_position)) c in
      let (k, none) = both kinds (eqb n.zero 0) d in
      (leb-true n.kind 30 (both (leb n.kind 30) _ k).0, eqb-true n.zero 0 none, flags-fit n flags, children-fit n children)

  pub node-small : narrow_record n ≡ true → Small (node_bytes n)
  unfolding node_bytes narrow_record
  node-small h =
      let (kind, none, flags, children) = node-parts in
      let (label, position) = both (ltb n.label 65536) (ltb n.position 4294967296) h in
      byte n.kind (omega (arith, kind))
      (byte n.flags (omega (arith, flags))
      (two n.label (ltb-true n.label 65536 label)
      (two n.children children
      (two n.zero (omega (arith, none))
      (four n.position (ltb-true n.position 4294967296 position) end)))))

-- A good declarator, where the names are few.
pub declarator-small : (names : List NameFacts) → length names ≤ 256 → (d : DeclaratorRecord) → good_declarator names d ≡ true → Small (declarator_bytes d)
unfolding good_declarator good_declarator_of declarator_bytes
declarator-small names few d e =
    let (a, b) = both (leb d.present 1) _ e in
    let p = leb-true d.present 1 a in
    let q = by_or (eqb d.name no_number) _ (λ x. none-fits x) (λ x. name-fits x) b in
    two d.name q (two d.present (omega (arith, p)) end)
  where
    none-fits : eqb d.name no_number ≡ true → d.name < 65536
    none-fits x = let y = eqb-true d.name no_number x in omega (arith, y)

    name-fits : (ltb d.name (length names) && not (unresolved (flags_of names d.name))) ≡ true → d.name < 65536
    name-fits x = let y = ltb-true d.name (length names) (both (ltb d.name (length names)) _ x).0 in omega (arith, y, few)

-- Good statements, with few declarators in all.
statement-small : (s : StatementRecord) → good_statement s ≡ true → s.declarators ≤ 500 → Small (statement_bytes s)
unfolding good_statement statement_bytes
statement-small s e h =
    let (a, b, c) = all_three (leb s.kind 6) (eqb s.zero 0) (ltb s.kind 5 || eqb s.declarators 0) e in
    let k = leb-true s.kind 6 a in
    let z = eqb-true s.zero 0 b in
    byte s.kind (omega (arith, k)) (byte s.zero (omega (arith, z)) (two s.declarators (omega (arith, h)) end))

pub statements-small : (ss : List StatementRecord) → every good_statement ss ≡ true → declarator_sum ss ≤ 500 → Small (bytes_of statement_bytes ss)
unfolding bytes_of declarator_sum
statements-small [] e h = end
statements-small (s ∷ ss) e h =
    let (a, b) = every-parts good_statement s ss e in
    small-append (statement_bytes s) (bytes_of statement_bytes ss) (statement-small s a (omega (arith, h))) (statements-small ss b (omega (arith, h)))
