-- The bytes of a tree around a name in it, and those of the tree with another one in the name's place. Assumes nothing.
use Prim.Native.Nat.{ℕ, zero, suc, ◌-◌, ◌*◌}
use native.Mathlib.Omega.{arith}
use mathlib.Core.Bool.{Bool, true, false, cond}
use mathlib.Core.List.{List, [], ◌++◌, append_assoc}
use mathlib.Core.Path.{◌≡◌, refl, sym, ap, ◌∙◌}
use lib.ListN.{length, length-append}
use lib.Dec.{eqb, ltb}
use borrow.Author.Tests.{eqb-true, ltb-false}
use Rattle.records.specs.Tree.{Node, Tree, Trees, node, none, more, count, size, record_of}
use Rattle.records.proofs.Tests.{and_right, clash}
use Rattle.records_table.specs.Table.{work_bytes}
use Rattle.records_table.specs.Laid.{laid, laids}
use Rattle.records_table.proofs.Laid.{laid-length, laid_split, laids_split, work_length}
use Rattle.walk_rules.specs.Substitute.{is_specific_id}
use Rattle.walk_arms.specs.Answers.{put_at, put_in, is_name_at, is_name_in}

-- the tree stands around the record of the name `n`
pub record Hole (t : Tree) (k : ℕ) (n : Node) (between after : List ℕ) : Type 0 where
  pub holds : (x : List ℕ) → laid t x ≡ between ++ (work_bytes (record_of n 0) ++ (after ++ x))
  pub becomes : (put : Node → Tree) (x : List ℕ) → laid (put_at t k put) x ≡ between ++ laid (put n) (after ++ x)
  pub stands : length between ≡ 16 * k

-- so does a forest
record HoleIn (ts : Trees) (k : ℕ) (n : Node) (between after : List ℕ) : Type 0 where
  holds : (x : List ℕ) → laids ts x ≡ between ++ (work_bytes (record_of n 0) ++ (after ++ x))
  becomes : (put : Node → Tree) (x : List ℕ) → laids (put_in ts k put) x ≡ between ++ laid (put n) (after ++ x)
  many : (put : Node → Tree) → count (put_in ts k put) ≡ count ts
  stands : length between ≡ 16 * k

abbrev pub SomeHole : Tree → ℕ → Type 0
SomeHole t k = (n : Node) × (between : List ℕ) × (after : List ℕ) × Hole t k n between after

abbrev SomeHoleIn : Trees → ℕ → Type 0
SomeHoleIn ts k = (n : Node) × (between : List ℕ) × (after : List ℕ) × HoleIn ts k n between after

-- the name itself
here : (n : Node) (kids : Trees) → eqb (count kids) 0 ≡ true → SomeHole (node n kids) zero
unfolding laid laids put_at count
here n none h = (n, [], [], record { holds = λ x. refl; becomes = λ put x. refl; stands = refl })
here n (more t ts) h = let z = eqb-true (suc (count ts)) 0 h in absurd (omega (arith, z))

-- below a node
below : (n : Node) (kids : Trees) (k : ℕ) → SomeHoleIn kids k → SomeHole (node n kids) (suc k)
unfolding laid put_at
below n kids k (m, between, after, h) = (
  m,
  work_bytes (record_of n (count kids)) ++ between,
  after,
  record {
    holds = λ x. ap (λ l. work_bytes (record_of n (count kids)) ++ l) (h.holds x) ∙ sym (append_assoc (work_bytes (record_of n (count kids))) between (work_bytes (record_of m 0) ++ (after ++ x)));
    becomes = λ put x. rw (h.many put, h.becomes put x) (sym (append_assoc (work_bytes (record_of n (count kids))) between (laid (put m) (after ++ x))));
    stands = omega (arith, length-append (work_bytes (record_of n (count kids))) between, work_length (record_of n (count kids)), h.stands);
  },
)

-- in the first tree of a forest, or behind it
module _ (t : Tree) (ts : Trees) (k : ℕ) where
  in_first : ltb k (size t) ≡ true → SomeHole t k → SomeHoleIn (more t ts) k
  unfolding laids put_in count
  in_first b (m, between, after, h) = (
    m,
    between,
    after ++ laids ts [],
    record {
      holds = λ x. h.holds (laids ts x) ∙ ap (λ l. between ++ (work_bytes (record_of m 0) ++ l)) (behind x);
      becomes = λ put x. rw b (h.becomes put (laids ts x) ∙ ap (λ l. between ++ laid (put m) l) (behind x));
      many = λ put. rw b refl;
      stands = h.stands;
    },
  )
    where
      behind : (x : List ℕ) → after ++ laids ts x ≡ (after ++ laids ts []) ++ x
      behind x = ap (λ l. after ++ l) (laids_split ts x) ∙ sym (append_assoc after (laids ts []) x)

  in_others : ltb k (size t) ≡ false → SomeHoleIn ts (k - size t) → SomeHoleIn (more t ts) k
  unfolding laids put_in count
  in_others b (m, between, after, h) = (
    m,
    laid t [] ++ between,
    after,
    record {
      holds = λ x. laid_split t (laids ts x) ∙ ap (λ l. laid t [] ++ l) (h.holds x) ∙ sym (append_assoc (laid t []) between (work_bytes (record_of m 0) ++ (after ++ x)));
      becomes = λ put x. rw b (laid_split t (laids (put_in ts (k - size t) put) x) ∙ ap (λ l. laid t [] ++ l) (h.becomes put x) ∙ sym (append_assoc (laid t []) between (laid (put m) (after ++ x))));
      many = λ put. rw b (ap suc (h.many put));
      stands = omega (arith, length-append (laid t []) between, laid-length t [], h.stands, ltb-false k (size t) b);
    },
  )

  in_row : (b : Bool) (x y : Bool) → ltb k (size t) ≡ b → (x ≡ true → SomeHole t k) → (y ≡ true → SomeHoleIn ts (k - size t)) → cond b x y ≡ true → SomeHoleIn (more t ts) k
  in_row true x y e f g h = in_first e (f h)
  in_row false x y e f g h = in_others e (g h)

module _ (name : ℕ) where
  mutual
    unfolding is_name_at is_name_in

    pub name_hole : (t : Tree) (k : ℕ) → is_name_at name t k ≡ true → SomeHole t k
    name_hole (node n kids) zero h = here n kids (and_right (is_specific_id name n) (eqb (count kids) 0) h)
    name_hole (node n kids) (suc k) h = below n kids k (names_hole kids k h)

    names_hole : (ts : Trees) (k : ℕ) → is_name_in name ts k ≡ true → SomeHoleIn ts k
    names_hole none k h = clash false refl h
    names_hole (more t ts) k h = in_row t ts k (ltb k (size t)) (is_name_at name t k) (is_name_in name ts (k - size t)) refl (λ x. name_hole t k x) (λ x. names_hole ts (k - size t) x) h
