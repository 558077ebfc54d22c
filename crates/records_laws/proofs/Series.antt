-- Records of a kind, read from bytes and printed to them, one by one and one after the other. Assumes nothing.
use mathlib.Core.Path.{◌≡◌, refl, sym, ap, ap₂, ◌∙◌}
use mathlib.Core.List.{List, [], ◌∷◌, ◌++◌, append_assoc}
use Prim.Native.Nat.{ℕ, zero, suc, ◌+◌, ◌*◌, ◌≤◌}
use native.Mathlib.Nat.{zero-add, add-zero, suc-add, mul-zero}
use native.Mathlib.Omega.{arith}
use lib.ListN.{length, drop, length-append, length-drop}
use lib.Seq.{drop-drop, drop_at, drop-append_seam}
use Rattle.records.specs.Bytes.{Bytes}
use Rattle.records.specs.Records.{records_from, bytes_of}
use Rattle.records_laws.proofs.Numbers.{bytes_drop}

-- the places of records behind one
next_place : (at len n : ℕ) → at + len * suc n ≡ at + len + len * n
next_place at len n = omega arith

-- Records of len bytes. What is read at a place is read of the bytes from there on, and what is read of a record's own
-- bytes is the record.
pub record Reads {A : Type 0} (readAt : List ℕ → ℕ → A) (bytes : A → List ℕ) (len : ℕ) : Type 0 where
  pub measured : (x : A) → length (bytes x) ≡ len
  pub onward : (bs : List ℕ) (at : ℕ) → readAt bs at ≡ readAt (drop at bs) 0
  pub back : (x : A) (rest : List ℕ) → readAt (bytes x ++ rest) 0 ≡ x

-- Every one of the len bytes is read: the bytes of what is read are those that stood there.
pub record Prints {A : Type 0} (readAt : List ℕ → ℕ → A) (bytes : A → List ℕ) (len : ℕ) : Type 0 where
  pub again : (bs : List ℕ) → Bytes bs → len ≤ length bs → bytes (readAt bs 0) ++ drop len bs ≡ bs

module _ {A : Type 0} {readAt : List ℕ → ℕ → A} {bytes : A → List ℕ} {len : ℕ} (r : Reads readAt bytes len) where
  -- a longer record that begins with this one, as a node's with an end behind it, is read alike
  pub longer : (tail : A → List ℕ) (more : ℕ) → ((x : A) → length (tail x) ≡ more) → Reads readAt (λ x. bytes x ++ tail x) (len + more)
  longer tail more e = record {
    measured = λ x. omega (arith, length-append (bytes x) (tail x), r.measured x, e x);
    onward = r.onward;
    back = λ x rest. rw (append_assoc (bytes x) (tail x) rest) (r.back x (tail x ++ rest));
  }

  -- the bytes of records are as many as their lengths
  pub bytes_of_length : (xs : List A) → length (bytes_of bytes xs) ≡ len * length xs
  unfolding bytes_of
  bytes_of_length [] = omega arith
  bytes_of_length (x ∷ xs) = omega (arith, length-append (bytes x) (bytes_of bytes xs), r.measured x, bytes_of_length xs)

  -- a record that stands at a place is read there
  module _ (bs : List ℕ) (at : ℕ) (rest : List ℕ) where
    pub read_one : (x : A) → drop at bs ≡ bytes x ++ rest → readAt bs at ≡ x
    read_one x e = r.onward bs at ∙ ap (λ (l : List ℕ). readAt l 0) e ∙ r.back x rest

    -- and behind it stands what followed
    pub behind-one : (x : A) → drop at bs ≡ bytes x ++ rest → drop (at + len) bs ≡ rest
    behind-one x e = sym (drop-drop len at bs) ∙ ap (drop len) e ∙ drop_at (bytes x) rest len (r.measured x)

  -- n records that stand one after the other are read there
  pub read_all : (bs : List ℕ) (at : ℕ) (rest : List ℕ) (xs : List A) (n : ℕ) → length xs ≡ n → drop at bs ≡ bytes_of bytes xs ++ rest → records_from (readAt bs) len n at ≡ xs
  unfolding records_from bytes_of
  read_all bs at rest [] zero e h = refl
  read_all bs at rest [] (suc n) e h = absurd (omega arith)
  read_all bs at rest (x ∷ xs) zero e h = absurd (omega arith)
  read_all bs at rest (x ∷ xs) (suc n) e h =
      let h' : drop at bs ≡ bytes x ++ (bytes_of bytes xs ++ rest) = h ∙ append_assoc (bytes x) (bytes_of bytes xs) rest in
      ap₂ ◌∷◌ (read_one bs at (bytes_of bytes xs ++ rest) x h') (read_all bs (at + len) rest xs n (omega arith) (behind-one bs at (bytes_of bytes xs ++ rest) x h'))

  -- and behind them stands what followed
  pub behind-all : (bs : List ℕ) (at : ℕ) (rest : List ℕ) (xs : List A) (n : ℕ) → length xs ≡ n → drop at bs ≡ bytes_of bytes xs ++ rest → drop (at + len * n) bs ≡ rest
  behind-all bs at rest xs n e h =
      sym (drop-drop (len * n) at bs) ∙ ap (drop (len * n)) h ∙ drop_at (bytes_of bytes xs) rest (len * n) (bytes_of_length xs ∙ ap (λ (k : ℕ). len * k) e)

  -- a record is read behind other bytes
  pub read_one_in : (pre : List ℕ) (x : A) (rest : List ℕ) → readAt (pre ++ (bytes x ++ rest)) (length pre) ≡ x
  read_one_in pre x rest = read_one (pre ++ (bytes x ++ rest)) (length pre) rest x (drop-append_seam pre (bytes x ++ rest))

  module _ (p : Prints readAt bytes len) (bs : List ℕ) (small : Bytes bs) where
    -- the bytes of a record that is read are those that stand there
    pub print-one : (at : ℕ) → at + len ≤ length bs → bytes (readAt bs at) ++ drop (at + len) bs ≡ drop at bs
    print-one at h = rw (r.onward bs at, ← drop-drop len at bs) (p.again (drop at bs) (bytes_drop at bs small) (omega (arith, length-drop at bs)))

    -- and so are those of n records one after the other
    pub print-all : (n at : ℕ) → at + len * n ≤ length bs → bytes_of bytes (records_from (readAt bs) len n at) ++ drop (at + len * n) bs ≡ drop at bs
    unfolding records_from bytes_of
    print-all zero at h = rw (mul-zero, add-zero)
    print-all (suc n) at h =
        let onward = print-all n (at + len) (omega (arith, next_place at len n)) in
        rw (next_place at len n, append_assoc, onward) (print-one at (omega (arith, next_place at len n)))

-- n records and k more behind them
pub records_from_add : {A : Type 0} (readAt : ℕ → A) (len n k at : ℕ) → records_from readAt len (n + k) at ≡ records_from readAt len n at ++ records_from readAt len k (at + len * n)
unfolding records_from
records_from_add readAt len zero k at = rw (zero-add, mul-zero, add-zero)
records_from_add readAt len (suc n) k at = rw (suc-add, next_place at len n) (ap (◌∷◌ (readAt at)) (records_from_add readAt len n k (at + len)))
