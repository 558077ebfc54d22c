-- Forests: how many trees, how many nodes, two joined, one cut in two. Assumes nothing.
use mathlib.Core.Path.{◌≡◌, refl, sym, ap, ◌∙◌}
use Prim.Native.Nat.{ℕ, zero, suc, ◌+◌, ◌-◌, ◌≤◌}
use native.Mathlib.Nat.{zero-add, suc-add}
use native.Mathlib.Omega.{arith}
use Rattle.records.specs.Tree.{Trees, node, none, more, count, size, sizes, joined, firsts, others}

-- a forest joined to an empty one
pub joined-none : (ts : Trees) → joined ts none ≡ ts
unfolding joined
joined-none none = refl
joined-none (more t ts) = ap (more t) (joined-none ts)

-- two forests joined have as many trees as both
pub count-joined : (ts us : Trees) → count (joined ts us) ≡ count ts + count us
unfolding count joined
count-joined none us = omega arith
count-joined (more t ts) us = omega (arith, count-joined ts us)

-- and as many nodes
pub sizes-joined : (ts us : Trees) → sizes (joined ts us) ≡ sizes ts + sizes us
unfolding sizes joined
sizes-joined none us = omega arith
sizes-joined (more t ts) us = omega (arith, sizes-joined ts us)

-- every tree has a node
pub count-sizes : (ts : Trees) → count ts ≤ sizes ts
unfolding count size sizes
count-sizes none = omega arith
count-sizes (more (node n kids) ts) = omega (arith, count-sizes ts)

-- an empty forest is `none`
pub count_zero : (ts : Trees) → count ts ≡ 0 → ts ≡ none
unfolding count
count_zero none e = refl
count_zero (more t ts) e = absurd (omega arith)

-- the first of two forests that were joined
pub firsts-joined : (ts us : Trees) → firsts (count ts) (joined ts us) ≡ ts
unfolding count joined firsts
firsts-joined none us = refl
firsts-joined (more t ts) us = ap (more t) (firsts-joined ts us)

-- and the second
pub others-joined : (ts us : Trees) → others (count ts) (joined ts us) ≡ us
unfolding count joined others
others-joined none us = refl
others-joined (more t ts) us = others-joined ts us

-- a forest cut in two, and joined again
pub joined-cut : (k : ℕ) (ts : Trees) → joined (firsts k ts) (others k ts) ≡ ts
unfolding joined firsts others
joined-cut zero ts = refl
joined-cut (suc k) none = refl
joined-cut (suc k) (more t ts) = ap (more t) (joined-cut k ts)

-- the first k trees are k
pub count-firsts : (k : ℕ) (ts : Trees) → k ≤ count ts → count (firsts k ts) ≡ k
unfolding count firsts
count-firsts zero ts h = refl
count-firsts (suc k) none h = absurd (omega arith)
count-firsts (suc k) (more t ts) h = ap suc (count-firsts k ts (omega arith))

-- the others are as many as are left
pub count-others : (k : ℕ) (ts : Trees) → count (others k ts) ≡ count ts - k
unfolding count others
count-others zero ts = omega arith
count-others (suc k) none = omega arith
count-others (suc k) (more t ts) = omega (arith, count-others k ts)

-- every node stands before the cut or behind it
pub sizes-cut : (k : ℕ) (ts : Trees) → sizes (firsts k ts) + sizes (others k ts) ≡ sizes ts
sizes-cut k ts = omega (arith, sizes-joined (firsts k ts) (others k ts), ap sizes (joined-cut k ts))

-- the trees behind none
pub others_zero : (ts : Trees) → others 0 ts ≡ ts
unfolding others
others_zero ts = refl

-- an empty forest has no others
pub others-none : (k : ℕ) → others k none ≡ none
unfolding others
others-none zero = refl
others-none (suc k) = refl

-- the others of the others
pub others-others : (j k : ℕ) (ts : Trees) → others k (others j ts) ≡ others (j + k) ts
unfolding others
others-others zero k ts = rw zero-add
others-others (suc j) k none = others-none k ∙ sym (others-none (suc j + k))
others-others (suc j) k (more t ts) = rw suc-add (others-others j k ts)
