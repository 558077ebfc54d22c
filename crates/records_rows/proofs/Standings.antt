-- Children by sets of entries. Assumes nothing.
use mathlib.Core.Path.{◌≡◌, refl, sym, ap, ap₂, ◌∙◌}
use mathlib.Core.Bool.{Bool, true, false, ◌&&◌, ◌||◌, and-false}
use mathlib.Core.List.{List, ◌∷◌}
use Prim.Native.Nat.{ℕ, zero, suc, ◌+◌, ◌-◌, ◌*◌, ◌/◌, ◌%◌, ◌≤◌, ◌<◌}
use native.Mathlib.Omega.{arith}
use lib.ListN.{length, get_or, take, drop, length-drop}
use lib.Seq.{drop-cons}
use lib.Dec.{eqb, eqb-suc-zero}
use borrow.Author.Tests.{eqb-true, ne_eqb, le-leb, lt-leb}
use Rattle.records.specs.Flags.{optional, shorthand}
use Rattle.records.specs.Sets.{is_in}
use Rattle.records.specs.Records.{records_from, every_from}
use Rattle.records.specs.Node.{is_chain_element}
use Rattle.records.specs.Place.{is_expression, may_stand, may_be_unchained}
use Rattle.records.specs.declared.layout.NodeRecord.{NodeRecord}
use Rattle.records.proofs.Sets.{all_below, below, same, same_true}
use Rattle.records_rows.specs.Stack.{entry, entry_at, entry_unchained, child_stands, first_unchained, children_stand, node_entry, Low, in_sets}
use Rattle.records_rows.specs.Standing.{standing}
use Rattle.records_rows.proofs.Stacks.{entries_part}

-- only the bit of a shorthand is asked of the flags, and of a child's number only whether it is the first
same-stand : (kind f g i j e : ℕ) → f / 16 % 2 ≡ g / 16 % 2 → eqb i 0 ≡ eqb j 0 → child_stands kind f i e ≡ child_stands kind g j e
unfolding child_stands may_stand may_be_unchained
same-stand kind f g i j e ef ei = rw (ef, ei)

-- under no shorthand the flags aren't asked
plain-stand : (kind f i e : ℕ) → (eqb kind 26 && shorthand f) ≡ false → child_stands kind f i e ≡ child_stands kind 0 i e
unfolding child_stands may_stand
plain-stand kind f i e h = rw (h, and-false (eqb kind 26))

pub no_short : (kind f : ℕ) → shorthand f ≡ false → (eqb kind 26 && shorthand f) ≡ false
no_short kind f h = rw (h, and-false (eqb kind 26))

pub no_property : (kind f : ℕ) → (kind ≡ 26 → ⊥) → (eqb kind 26 && shorthand f) ≡ false
no_property kind f h = rw (ne_eqb kind 26 h)

-- a set that holds what stands under a kind and flags as the first child, and one for a later child
module _ (kind f first later : ℕ) (firsts : (e : ℕ) → e < 64 → is_in first e ≡ child_stands kind f 0 e)
    (laters : (e : ℕ) → e < 64 → is_in later e ≡ child_stands kind f 1 e) where
  each : (i e : ℕ) → e < 64 → in_sets first later i e ≡ child_stands kind f i e
  unfolding in_sets
  each zero e l = firsts e l
  each (suc i) e l = rw (eqb-suc-zero i) (laters e l) ∙ sym (same-stand kind f f (suc i) 1 e refl (eqb-suc-zero i))

  every_child : (stack : List ℕ) (count i top : ℕ) → Low stack top
      → every_from (in_sets first later) i (records_from (entry_at stack) 1 count top) ≡ every_from (child_stands kind f) i (records_from (entry_at stack) 1 count top)
  unfolding every_from records_from entry_at
  every_child stack zero i top low = refl
  every_child stack (suc k) i top low =
      ap₂ ◌&&◌ (each i (get_or stack top 0) (low top (omega arith))) (every_child stack k (i + 1) (top + 1) (λ j h. low j (omega arith)))

-- the sets of the table
first-set : (k e : ℕ) → k ≤ 30 → e < 64 → is_in (get_or standing (2 * k) 0) e ≡ child_stands k 0 0 e
unfolding all_below same is_in child_stands may_stand is_expression may_be_unchained standing
first-set k e h l =
    same_true _ _
    (below 64 (λ e. same (is_in (get_or standing (2 * k) 0) e) (child_stands k 0 0 e))
    (below 31 (λ k. all_below 64 (λ e. same (is_in (get_or standing (2 * k) 0) e) (child_stands k 0 0 e))) refl k (omega arith)) e l)

later-set : (k e : ℕ) → k ≤ 30 → e < 64 → is_in (get_or standing (2 * k + 1) 0) e ≡ child_stands k 0 1 e
unfolding all_below same is_in child_stands may_stand is_expression may_be_unchained standing
later-set k e h l =
    same_true _ _
    (below 64 (λ e. same (is_in (get_or standing (2 * k + 1) 0) e) (child_stands k 0 1 e))
    (below 31 (λ k. all_below 64 (λ e. same (is_in (get_or standing (2 * k + 1) 0) e) (child_stands k 0 1 e))) refl k (omega arith)) e l)

module _ (n : NodeRecord) (stack : List ℕ) (top children : ℕ) (ec : children ≡ n.children) where
  -- no children, and fewer trees than children
  pub stands-leaf : children ≡ 0 → true ≡ children_stand n (drop top stack)
  unfolding children_stand every_from
  stands-leaf e = rw (← ec, e, le-leb 0 (length (drop top stack)) (omega arith))

  pub stands-short : length stack - top < children → false ≡ children_stand n (drop top stack)
  unfolding children_stand
  stands-short h = rw (lt-leb n.children (length (drop top stack)) (omega (arith, ec, length-drop top stack)))

  module _ (found : children ≤ length stack - top) (low : Low stack top) (r : Bool) where
    stands_by : (first later : ℕ) → ((e : ℕ) → e < 64 → is_in first e ≡ child_stands n.kind n.flags 0 e)
        → ((e : ℕ) → e < 64 → is_in later e ≡ child_stands n.kind n.flags 1 e)
        → r ≡ every_from (in_sets first later) 0 (records_from (entry_at stack) 1 children top) → top ≤ length stack → r ≡ children_stand n (drop top stack)
    unfolding children_stand
    stands_by first later fs ls er t =
        er ∙ every_child n.kind n.flags first later fs ls stack children 0 top low
        ∙ rw (entries_part stack children top (omega arith), ← ec, le-leb children (length (drop top stack)) (omega (arith, length-drop top stack)))

    pub stands_plain : (sets : List ℕ) (kind : ℕ) → sets ≡ standing → n.kind ≤ 30 → kind ≡ n.kind → (eqb n.kind 26 && shorthand n.flags) ≡ false
        → r ≡ every_from (in_sets (get_or sets (2 * kind) 0) (get_or sets (2 * kind + 1) 0)) 0 (records_from (entry_at stack) 1 children top)
        → top ≤ length stack → r ≡ children_stand n (drop top stack)
    stands_plain sets kind es k ek h = stands_by (get_or sets (2 * kind) 0) (get_or sets (2 * kind + 1) 0)
        (λ e l. rw (es, ek) (first-set n.kind e k l ∙ sym (plain-stand n.kind n.flags 0 e h)))
        (λ e l. rw (es, ek) (later-set n.kind e k l ∙ sym (plain-stand n.kind n.flags 1 e h)))

    -- a shorthand
    name-stands : (i e : ℕ) → all_below 64 (λ e. same (is_in 256 e) (child_stands 26 16 i e)) ≡ true → n.kind ≡ 26 → n.flags / 16 % 2 ≡ 1 → e < 64
        → is_in 256 e ≡ child_stands n.kind n.flags i e
    name-stands i e t k f l =
        same_true (is_in 256 e) (child_stands 26 16 i e) (below 64 (λ e. same (is_in 256 e) (child_stands 26 16 i e)) t e l)
        ∙ sym (ap (λ (m : ℕ). child_stands m n.flags i e) k ∙ same-stand 26 n.flags 16 i i e f refl)

    pub stands-name : n.kind ≡ 26 → shorthand n.flags ≡ true → r ≡ every_from (in_sets 256 256) 0 (records_from (entry_at stack) 1 children top)
        → top ≤ length stack → r ≡ children_stand n (drop top stack)
    unfolding all_below same is_in child_stands may_stand is_expression may_be_unchained
    stands-name k f =
        let bit = eqb-true (n.flags / 16 % 2) 1 f in
        stands_by 256 256 (λ e l. name-stands 0 e refl k bit l) (λ e l. name-stands 1 e refl k bit l)

-- the first child is held against one set, the others against the other
module _ (stack : List ℕ) (first later : ℕ) where
  later-sets : (n i at : ℕ) → 1 ≤ i → every_from (λ k. is_in later) i (records_from (entry_at stack) 1 n at) ≡ every_from (in_sets first later) i (records_from (entry_at stack) 1 n at)
  unfolding every_from records_from in_sets
  later-sets zero i at h = refl
  later-sets (suc n) i at h = rw (ne_eqb i 0 (λ z. omega arith)) (ap (λ (b : Bool). is_in later (entry_at stack at) && b) (later-sets n (i + 1) (at + 1) (omega arith)))

  children : (count top : ℕ) → 1 ≤ count → (is_in first (get_or stack top 0) && every_from (λ k. is_in later) 1 (records_from (entry_at stack) 1 (count - 1) (top + 1)))
      ≡ every_from (in_sets first later) 0 (records_from (entry_at stack) 1 count top)
  unfolding every_from records_from in_sets entry_at
  children zero top h = absurd (omega arith)
  children (suc n) top h = let e : suc n - 1 ≡ n = omega arith in rw e (ap (λ (b : Bool). is_in first (get_or stack top 0) && b) (later-sets n 1 (top + 1) (omega arith)))

  module _ (count top : ℕ) (some : 1 ≤ count) {r : Bool} (er : r ≡ is_in first (get_or stack top 0)) where
    pub first-in : r ≡ true → {rest : Bool} → rest ≡ every_from (λ k. is_in later) 1 (records_from (entry_at stack) 1 (count - 1) (top + 1))
        → rest ≡ every_from (in_sets first later) 0 (records_from (entry_at stack) 1 count top)
    first-in h e = e ∙ rw (← children count top some, ← er, h)

    pub first_out : r ≡ false → r ≡ every_from (in_sets first later) 0 (records_from (entry_at stack) 1 count top)
    first_out h = rw (← children count top some, ← er, h)

unchained_of : (many e : ℕ) (es : List ℕ) → (many ≡ 0 → ⊥) → first_unchained (take many (e ∷ es)) ≡ entry_unchained e
unfolding first_unchained
unchained_of zero e es h = absurd (h refl)
unchained_of (suc k) e es h = refl

module _ (n : NodeRecord) (stack : List ℕ) (top : ℕ) where
  pub entry-leaf : n.children ≡ 0 → entry n.kind (is_chain_element n.kind && (optional n.flags || false)) ≡ node_entry n (drop top stack)
  unfolding node_entry first_unchained
  entry-leaf e = rw e

  pub entry_parent : (n.children ≡ 0 → ⊥) → top < length stack
      → entry n.kind (is_chain_element n.kind && (optional n.flags || entry_unchained (get_or stack top 0))) ≡ node_entry n (drop top stack)
  unfolding node_entry
  entry_parent some b = rw (drop-cons stack top 0 b, unchained_of n.children (get_or stack top 0) (drop (suc top) stack) some)
