-- A fold adds no use of any name: what the tree and the initializer had, less the name's read.
use Prim.Native.Nat.{ℕ, zero, suc, ◌+◌, ◌≤◌}
use native.Mathlib.Omega.{arith}
use mathlib.Core.Bool.{Bool, true, false, cond}
use mathlib.Core.Path.{◌≡◌, refl, ap}
use lib.Dec.{eqb, ltb}
use borrow.Author.Tests.{eqb-true, ne_eqb}
use Rattle.records.specs.Limits.{no_number}
use Rattle.records.specs.Tree.{Node, Tree, Trees, node, none, more}
use Rattle.records.specs.Place.{root, is_expression}
use Rattle.records.specs.Count.{target_name, first_target, name_read, uses_in, uses_of}
use Rattle.records.proofs.Tests.{clash}
use Rattle.walk_rules.specs.Shape.{is, cleared}
use Rattle.walk_rules.specs.Substitute.{at, preserve_indirect_access, is_specific_id}
use Rattle.theory_preservation.proofs.Tests.{by_or}
use Rattle.theory_preservation.proofs.At.{placed_at}
use Rattle.theory_preservation.proofs.Uses.{reads, all_reads, targets, specific, specific-read}
use Rattle.theory_preservation.proofs.Turned.{Turned, same, here, apart, under, AllTurned, no_more, both}

-- so often a number
unfoldable pub times : ℕ → ℕ → ℕ
times zero c = 0
times (suc k) c = c + times k c

pub no_times : (c : ℕ) → times 0 c ≡ 0
unfolding times
no_times c = refl

pub one_time : (c : ℕ) → times 1 c ≡ c
unfolding times
one_time c = omega arith

times-sum : (i j c : ℕ) → times (i + j) c ≡ times i c + times j c
unfolding times
times-sum zero j c = let z : 0 + j ≡ j = omega arith in rw z (omega arith)
times-sum (suc i) j c = let h = times-sum i j c in let z : suc i + j ≡ suc (i + j) = omega arith in rw z (omega (arith, h))

-- the nodes that `preserve_indirect_access` puts in
abbrev pub zero_at : ℕ → Node
zero_at p = record { kind = 1; flags = 0; label = 65535; position = p }

abbrev pub sequence_at : ℕ → Node
sequence_at p = record { kind = 28; flags = 0; label = 0; position = p }

-- Each node names the name that `named` gives; where v stood, at least `gain` is lost.
module _ (v : ℕ) (r : Tree) (named : Node → Trees → ℕ) (a gain : ℕ)
    (moved : (p : ℕ) (n : Node) (ts : Trees) → named (placed_at p n) ts ≡ named n ts)
    (kept : (k : ℕ) (n : Node) (ts ts' : Trees) → AllTurned v r k ts ts' → named (cleared n) ts' ≡ named n ts)
    (bare : (p : ℕ) (ts : Trees) → (eqb (named (zero_at p) none) a ≡ false) × (eqb (named (sequence_at p) ts) a ≡ false))
    (lost : (n : Node) (ts : Trees) → is_specific_id v n ≡ true → gain ≤ cond (eqb (named n ts) a) 1 0) where
  abbrev uses : Tree → ℕ
  uses t = uses_in named a t

  abbrev all_uses : Trees → ℕ
  all_uses ts = uses_of named a ts

  at-uses : (p : ℕ) (t : Tree) → uses (at p t) ≡ uses t
  unfolding uses_in at
  at-uses p (node n ts) = ap (λ x. cond (eqb x a) 1 0 + all_uses ts) (unfold placed_at in moved p n ts)

  here-uses : (n : Node) (ts : Trees) (k : ℕ) → k ≡ 1 → is_specific_id v n ≡ true → uses (at n.position r) + times k gain ≤ uses (node n ts) + times k (uses r)
  unfolding uses_in
  here-uses n ts k e g =
      let h = at-uses n.position r in
      let l = lost n ts g in
      let x : times k gain ≡ gain = (unfold times in rw e (omega arith)) in
      let y : times k (uses r) ≡ uses r = (unfold times in rw e (omega arith)) in
      omega (arith, h, l, x, y)

  apart-is : (t : Tree) → uses (preserve_indirect_access t) ≡ uses t
  unfolding uses_in preserve_indirect_access
  apart-is (node n ts) = let (p, q) = bare n.position (more (node (zero_at n.position) none) (more (node n ts) none)) in rw (p, q) (omega arith)

  under-is : (k : ℕ) (n : Node) (ts ts' : Trees) → AllTurned v r k ts ts' → (b c : ℕ) → all_uses ts' + b ≤ all_uses ts + c → uses (node (cleared n) ts') + b ≤ uses (node n ts) + c
  unfolding uses_in
  under-is k n ts ts' h b c g = let e = kept k n ts ts' h in let z : ◌≡◌ {A = ℕ} (cond (eqb (named (cleared n) ts') a) 1 0) (cond (eqb (named n ts) a) 1 0) = rw e in omega (arith, z, g)

  none-uses : (k : ℕ) → k ≡ 0 → (c d : ℕ) → times k c ≤ d
  unfolding times
  none-uses k e c d = rw e (omega arith)

  both-uses : (t t' : Tree) (ts ts' : Trees) (k i j : ℕ) → k ≡ i + j → uses t' + times i gain ≤ uses t + times i (uses r) → all_uses ts' + times j gain ≤ all_uses ts + times j (uses r) → all_uses (more t' ts') + times k gain ≤ all_uses (more t ts) + times k (uses r)
  unfolding uses_in
  both-uses t t' ts ts' k i j e h g =
      let x : times k gain ≡ times i gain + times j gain = rw e (times-sum i j gain) in
      let y : times k (uses r) ≡ times i (uses r) + times j (uses r) = rw e (times-sum i j (uses r)) in
      omega (arith, x, y, h, g)

  mutual
    pub turned-uses : {k : ℕ} {t u : Tree} → Turned v r k t u → uses u + times k gain ≤ uses t + times k (uses r)
    turned-uses (same {k = k} {t = t} e p) = rw p (let x = none-uses k e gain 0 in omega (arith, x))
    turned-uses (here {k = k} {n = n} {ts = ts} e g p) = rw p (here-uses n ts k e g)
    turned-uses (apart {k = k} {t = t} t' e g h p) = rw (p, apart-is t') (turned-uses h)
    turned-uses (under {k = k} {n = n} {ts = ts} ts' h p) = rw p (under-is k n ts ts' h (times k gain) (times k (uses r)) (rows-uses h))

    pub rows-uses : {k : ℕ} {ts us : Trees} → AllTurned v r k ts us → all_uses us + times k gain ≤ all_uses ts + times k (uses r)
    rows-uses (no_more {k = k} e) = let x = none-uses k e gain 0 in omega (arith, x)
    rows-uses (both {k = k} {t = t} {t' = t'} {ts = ts} {ts' = ts'} i j e h g) = both-uses t t' ts ts' k i j e (turned-uses h) (rows-uses g)

not_target : (kind : ℕ) → is_expression kind ≡ true → eqb kind 29 ≡ false
unfolding is_expression
not_target kind e = ne_eqb kind 29 (λ q. by_or (ltb kind 25) (eqb kind 28) (λ g. clash (ltb 29 25) refl (rw q at g)) (λ g. clash (eqb 29 28) refl (rw q at g)) e)

at_target : (p : ℕ) (t : Tree) → target_name (root (at p t)) ≡ target_name (root t)
unfolding at target_name
at_target p (node n ts) = refl

apart-target : (t : Tree) → target_name (root (preserve_indirect_access t)) ≡ no_number
unfolding preserve_indirect_access target_name
apart-target (node n ts) = refl

name-target : (v : ℕ) (n : Node) → is_specific_id v n ≡ true → target_name n ≡ no_number
unfolding target_name
name-target v n e = rw (specific v n e).0

clear_target : (n : Node) → target_name (cleared n) ≡ target_name n
unfolding cleared target_name
clear_target n = refl

expression-target : (t : Tree) → is_expression (root t).kind ≡ true → target_name (root t) ≡ no_number
unfolding target_name
expression-target t e = rw (not_target (root t).kind e)

module _ (v : ℕ) (r : Tree) (fit : is_expression (root r).kind ≡ true) where
  root-target : {k : ℕ} {t u : Tree} → Turned v r k t u → target_name (root u) ≡ target_name (root t)
  root-target (same e p) = rw p
  root-target (here {n = n} e g p) = rw (p, at_target n.position r, expression-target r fit, name-target v n g)
  root-target (apart {t = t} t' e g h p) = rw (p, apart-target t', name-target v (root t) g)
  root-target (under {n = n} ts' h p) = rw (p, clear_target n)

  first-target : {k : ℕ} {ts us : Trees} → AllTurned v r k ts us → first_target us ≡ first_target ts
  unfolding first_target
  first-target (no_more e) = refl
  first-target (both i j e h g) = root-target h

  -- the flags of an assignment are never cleared
  clear_read : (n : Node) (ts ts' : Trees) → first_target ts' ≡ first_target ts → name_read (cleared n) ts' ≡ name_read n ts
  clear_read n ts ts' e = by (is 26 n) refl
    where
      by : (b : Bool) → is 26 n ≡ b → name_read (cleared n) ts' ≡ name_read n ts
      by true q = unfold name_read cleared in rw (eqb-true n.kind 26 q)
      by false q = unfold name_read cleared in rw (q, e)

  read-moved : (p : ℕ) (n : Node) (ts : Trees) → name_read (placed_at p n) ts ≡ name_read n ts
  unfolding name_read placed_at
  read-moved p n ts = refl

  target-moved : (p : ℕ) (n : Node) (ts : Trees) → target_name (placed_at p n) ≡ target_name n
  unfolding target_name placed_at
  target-moved p n ts = refl

  module _ (a : ℕ) (known : eqb no_number a ≡ false) where
    read-bare : (p : ℕ) (ts : Trees) → (eqb (name_read (zero_at p) none) a ≡ false) × (eqb (name_read (sequence_at p) ts) a ≡ false)
    unfolding name_read
    read-bare p ts = (known, known)

    target-bare : (p : ℕ) (ts : Trees) → (eqb (target_name (zero_at p)) a ≡ false) × (eqb (target_name (sequence_at p)) a ≡ false)
    unfolding target_name
    target-bare p ts = (known, known)

    read_lost : (n : Node) (ts : Trees) → is_specific_id v n ≡ true → cond (eqb v a) 1 0 ≤ cond (eqb (name_read n ts) a) 1 0
    unfolding name_read
    read_lost n ts e = let (p, q) = specific v n e in rw (p, q) (omega arith)

    -- reads and targets, where r was placed so often
    pub turned-reads : {k : ℕ} {t u : Tree} → Turned v r k t u → reads a u + times k (cond (eqb v a) 1 0) ≤ reads a t + times k (reads a r)
    turned-reads h = turned-uses v r name_read a (cond (eqb v a) 1 0) read-moved (λ k n ts ts' g. clear_read n ts ts' (first-target g)) read-bare read_lost h

    pub turned-targets : {k : ℕ} {t u : Tree} → Turned v r k t u → targets a u ≤ targets a t + times k (targets a r)
    turned-targets {k = k} h = let x = turned-uses v r (λ n ts. target_name n) a 0 target-moved (λ k n ts ts' g. clear_target n) target-bare (λ n ts e. omega arith) h in omega (arith, x)

root-read : (v : ℕ) (t : Tree) → is_specific_id v (root t) ≡ true → 1 ≤ reads v t
root-read v (node n ts) e = specific-read v n ts e

module _ (v : ℕ) (r : Tree) where
  mutual
    unfolding uses_in

    -- as often as r was placed, v was read
    pub found : {k : ℕ} {t u : Tree} → Turned v r k t u → k ≤ reads v t
    found (same e p) = omega arith
    found (here {n = n} {ts = ts} e g p) = let x = specific-read v n ts g in omega (arith, x)
    found (apart {t = t} t' e g h p) = let x = root-read v t g in omega (arith, x)
    found (under ts' h p) = let x = found_all h in omega (arith, x)

    found_all : {k : ℕ} {ts us : Trees} → AllTurned v r k ts us → k ≤ all_reads v ts
    found_all (no_more e) = omega arith
    found_all (both i j e h g) = let x = found h in let y = found_all g in omega (arith, x, y)
