-- Folds, their names and looks that are added, one part of the work after the other. Assumes nothing.
use mathlib.Core.Path.{◌≡◌, refl, sym, ap, ◌∙◌, subst}
use mathlib.Core.List.{List, [], ◌++◌, map-append}
use Prim.Native.Nat.{ℕ, ◌+◌, ◌≤◌}
use native.Mathlib.Omega.{arith}
use lib.ListN.{length, take, drop, length-append, length-map, take-append-drop}
use lib.Seq.{length-take-le}
use Rattle.records_table.specs.Overwrites.{Overwrites}
use Rattle.statements_rules.specs.Trace.{Fold, Traced}
use Rattle.statements_progress.specs.declared.progress.Progress.{Progress}
use Rattle.statements_progress.proofs.Listing.{none_written, both-written}
use Rattle.statements_search.specs.Kept.{folded_names}
use Rattle.statements.specs.Added.{Adds}

-- the whole list, where its first entries were written
pub written-first : (l l' xs : List ℕ) → Overwrites l l' 0 xs → length xs ≤ length l → l' ≡ xs ++ drop (length xs) l
written-first l l' xs o h = o [] (take (length xs) l) (drop (length xs) l) (sym (take-append-drop (length xs) l)) refl (length-take-le (length xs) l h)

-- nothing is added
pub adds_none : {A : Type 0} {folded : List ℕ} {p r : Progress} (w : Traced A) → r.folds ≡ p.folds → r.looks ≡ p.looks → w.trace ≡ [] → w.looks ≡ 0 → Adds folded folded p r w
adds_none {folded = folded} {p} {r} w f l t n = record {
  folds = omega (arith, f, ap length t);
  names = subst (λ (x : List Fold). Overwrites folded folded p.folds (folded_names x)) (sym t) (none_written folded p.folds);
  looks = omega (arith, l, n);
}

-- the same is added, come so far
pub adds_as : {A B : Type 0} {folded folded' : List ℕ} {p q r : Progress} {w : Traced A} (v : Traced B) → r.folds ≡ q.folds → r.looks ≡ q.looks → v.trace ≡ w.trace → v.looks ≡ w.looks
    → Adds folded folded' p q w → Adds folded folded' p r v
adds_as {folded = folded} {folded'} {p} v f l t n a = record {
  folds = omega (arith, f, ap length t, a.folds);
  names = subst (λ (x : List Fold). Overwrites folded folded' p.folds (folded_names x)) (sym t) a.names;
  looks = omega (arith, l, n, a.looks);
}

pub adds-from : {A : Type 0} {folded folded' : List ℕ} {p q r : Progress} {w : Traced A} → q.folds ≡ p.folds → q.looks ≡ p.looks → Adds folded folded' q r w → Adds folded folded' p r w
adds-from {folded = folded} {folded'} {w = w} f l a = record {
  folds = omega (arith, f, a.folds);
  names = subst (λ (n : ℕ). Overwrites folded folded' n (folded_names w.trace)) f a.names;
  looks = omega (arith, l, a.looks);
}

-- one after the other
pub adds_then : {A B C : Type 0} {folded folded₁ folded₂ : List ℕ} {p q r : Progress} {w : Traced A} {v : Traced B} (u : Traced C) → u.trace ≡ w.trace ++ v.trace → u.looks ≡ w.looks + v.looks
    → Adds folded folded₁ p q w → Adds folded₁ folded₂ q r v → Adds folded folded₂ p r u
adds_then {folded = folded} {folded₂ = folded₂} {p} {q} {w = w} {v} u t n a b = record {
  folds = omega (arith, a.folds, b.folds, ap length t, length-append w.trace v.trace);
  names = subst (Overwrites folded folded₂ p.folds) (sym (ap folded_names t ∙ map-append (λ f. f.name) w.trace v.trace))
      (both-written p.folds q.folds (folded_names w.trace) (folded_names v.trace) (omega (arith, a.folds, length-map w.trace (λ f. f.name))) a.names b.names);
  looks = omega (arith, a.looks, b.looks, n);
}
