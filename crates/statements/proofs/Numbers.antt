-- The numbers of the statements that are kept. Assumes nothing.
use mathlib.Core.Bool.{Bool, true, false, cond}
use mathlib.Core.Path.{◌≡◌, refl, sym, ap, ◌∙◌}
use mathlib.Core.List.{List, [], ◌∷◌, ◌++◌, append_assoc, append-nil, map, reverse, reverse_aux}
use Prim.Native.Nat.{ℕ, ◌-◌, ◌≤◌, ◌<◌}
use native.Mathlib.Omega.{arith}
use lib.ListN.{length, get_or, set, take}
use lib.Seq.{take-suc, get_or-set_same, get_or-set_other}
use Rattle.records.specs.Tree.{Tree}
use Rattle.records.specs.File.{DeclarationKind, Initializer, bare, given, Declarator, Statement, declaration, expression, other}
use Rattle.walk_rules.specs.Context.{Context}
use Rattle.statements_rules.specs.Trace.{pure, ◌>>=◌}
use Rattle.statements_rules.specs.Declarators.{is_unsearched, is_using, ended}
use Rattle.statements_rules.specs.Statements.{Kept, FromStatements, after_declarators, from_statement, from_statements, substitute_in_statement, in_initializer, in_first_declarator, fold_statement}
use Rattle.statements.specs.Numbers.{Numbered}

-- A search keeps the first of the statements, each with its number.
module _ (ctx : Context) (kept : List ℕ) where
  after-declarators : (k : Kept) (kind : DeclarationKind) (earlier : List Kept) (target : Tree) (left : List Declarator) (onward : Tree → FromStatements) → Numbered kept (k ∷ earlier)
      → ((t : Tree) → Numbered kept (onward t).result.left) → Numbered kept (after_declarators ctx k kind earlier target left onward).result.left
  unfolding after_declarators pure Numbered
  after-declarators k kind earlier target [] onward n h = h target
  after-declarators k kind earlier target (d ∷ ds) onward n h = n

  or_ended : (b : Bool) (ks : List Kept) (target : Tree) (w : FromStatements) → Numbered kept ks → Numbered kept w.result.left → Numbered kept (cond b (ended target ks) w).result.left
  unfolding pure
  or_ended true ks target w n h = n
  or_ended false ks target w n h = h

  from-statement : (k : Kept) (s : Statement) (earlier : List Kept) (target : Tree) (onward : Tree → FromStatements) → Numbered kept (k ∷ earlier)
      → ((t : Tree) → Numbered kept (onward t).result.left) → Numbered kept (from_statement ctx k s earlier target onward).result.left
  unfolding from_statement ◌>>=◌
  from-statement k (declaration kind ds) earlier target onward n h =
      or_ended (is_using kind) (k ∷ earlier) target _ n (after-declarators k kind earlier _ _ onward n h)
  from-statement k (expression t) earlier target onward n h = unfold pure in n
  from-statement k other earlier target onward n h = unfold pure in n

  from-statements : (ks : List Kept) (target : Tree) → Numbered kept ks → Numbered kept (from_statements ctx ks target).result.left
  unfolding from_statements
  from-statements [] target n = unfold pure in n
  from-statements (k ∷ ks) target n = from-statement k k.statement ks target _ n (λ t. from-statements ks t (unfold Numbered in n.1))

  in_statement : (ks : List Kept) (target : Tree) → Numbered kept ks → Numbered kept (substitute_in_statement ctx ks target).result.left
  unfolding substitute_in_statement
  in_statement ks target n = or_ended (is_unsearched ctx) ks target _ n (from-statements ks target n)

  in_first : (ks : List Kept) (ds : List Declarator) → Numbered kept ks → Numbered kept (in_first_declarator ctx ks ds).result.left
  unfolding in_first_declarator in_initializer pure ◌>>=◌
  in_first ks [] n = n
  in_first ks (d ∷ ds) n = by d.initializer
    where
      by : (i : Initializer) → Numbered kept (in_initializer ctx ks d ds i).result.left
      by bare = n
      by (given t) = in_statement ks t n

  -- the statement that was folded comes behind those that its search has left
  data Last (number : ℕ) : List Kept → Type 0 where
    last : (s : Statement) (left : List Kept) → Numbered kept left → Last number (record { number = number; statement = s } ∷ left)

  is_last : (number : ℕ) (ks : List Kept) (st : Statement) → Numbered kept ks → Last number (fold_statement ctx number ks st).result
  unfolding fold_statement pure ◌>>=◌
  is_last number ks (declaration kind ds) n = last _ _ (in_first ks ds n)
  is_last number ks (expression t) n = last _ _ (in_statement ks t n)
  is_last number ks other n = last _ _ n

-- an entry behind them may change
numbered_still : (kept : List ℕ) (at number : ℕ) (ks : List Kept) → length ks ≤ at → Numbered kept ks → Numbered (set kept at number) ks
unfolding Numbered
numbered_still kept at number [] l n = tt
numbered_still kept at number (k ∷ ks) l n =
    (get_or-set_other kept at (length ks) number 0 (λ q. omega (arith, q, l)) ∙ n.0, numbered_still kept at number ks (omega arith) n.1)

-- the number of a statement that was folded, written as the last
pub number-written : (ctx : Context) (kept : List ℕ) (number : ℕ) (ks : List Kept) (st : Statement) (count : ℕ) → Numbered kept ks → count ≡ length (fold_statement ctx number ks st).result → count ≤ length kept
    → (0 < count) × Numbered (set kept (count - 1) number) (fold_statement ctx number ks st).result
unfolding Numbered
number-written ctx kept number ks st count n e l = by (fold_statement ctx number ks st).result (is_last ctx kept number ks st n) e
  where
    by : (ls : List Kept) → Last ctx kept number ls → count ≡ length ls → (0 < count) × Numbered (set kept (count - 1) number) ls
    by _ (last s left n) e =
        let at : count - 1 ≡ length left = omega (arith, e) in
        let own = ap (λ (k : ℕ). get_or (set kept (count - 1) number) k 0) (sym at) ∙ get_or-set_same kept (count - 1) number 0 (omega (arith, e, l)) in
        (omega (arith, e), (own, numbered_still kept (count - 1) number left (omega (arith, at)) n))

-- the numbers in file order
numbers_onto : (kept : List ℕ) (ks ls : List Kept) → length ks ≤ length kept → Numbered kept ks → take (length ks) kept ++ map (λ k. k.number) ls ≡ map (λ k. k.number) (reverse_aux ks ls)
unfolding Numbered
numbers_onto kept [] ls l n = refl
numbers_onto kept (k ∷ ks) ls l n =
    ap (λ (x : List ℕ). x ++ map (λ k. k.number) ls) (take-suc kept (length ks) 0 (omega arith))
    ∙ append_assoc (take (length ks) kept) (get_or kept (length ks) 0 ∷ []) (map (λ k. k.number) ls)
    ∙ ap (λ (x : ℕ). take (length ks) kept ++ (x ∷ map (λ k. k.number) ls)) n.0
    ∙ numbers_onto kept ks (k ∷ ls) (omega arith) n.1

pub numbers_are : (kept : List ℕ) (ks : List Kept) → length ks ≤ length kept → Numbered kept ks → take (length ks) kept ≡ map (λ k. k.number) (reverse ks)
numbers_are kept ks l n = sym (append-nil (take (length ks) kept)) ∙ numbers_onto kept ks [] l n
