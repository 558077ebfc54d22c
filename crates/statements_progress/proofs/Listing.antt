-- The list of folded names, entry after entry. Assumes nothing.
use mathlib.Core.Path.{◌≡◌, sym, ap, ap₂, ◌∙◌, subst}
use mathlib.Core.List.{List, [], ◌∷◌, ◌++◌, append_assoc}
use Prim.Native.Nat.{ℕ, ◌+◌, ◌-◌, ◌*◌, ◌≤◌, ◌<◌}
use native.Mathlib.Omega.{arith}
use lib.ListN.{length, set, length-append}
use lib.Seq.{set_at}
use Rattle.records.specs.Record.{declarator_at}
use Rattle.records.specs.declared.layout.DeclaratorRecord.{DeclaratorRecord}
use Rattle.records_table.specs.Overwrites.{Overwrites}
use Rattle.records_table.proofs.Overwriting.{two-written}
use Rattle.statements_progress.specs.Listed.{names_from}
use Rattle.statements_progress.proofs.Names.{names_split, names-length}

-- The list: nothing written, an entry written, two blocks one behind the other.
pub none_written : (l : List ℕ) (a : ℕ) → Overwrites l l a []
none_written l a p [] s e hp hx = e
none_written l a p (x ∷ xs) s e hp hx = absurd (omega arith)

entry-written : (l : List ℕ) (a v : ℕ) → Overwrites l (set l a v) a (v ∷ [])
entry-written l a v p [] s e hp hx = absurd (omega arith)
entry-written l a v p (x ∷ []) s e hp hx = ap (λ (k : List ℕ). set k a v) e ∙ set_at p x s v a hp
entry-written l a v p (x ∷ y ∷ xs) s e hp hx = absurd (omega arith)

pub both-written : {l l₁ l₂ : List ℕ} (a b : ℕ) (xs ys : List ℕ) → b ≡ a + length xs → Overwrites l l₁ a xs → Overwrites l₁ l₂ b ys → Overwrites l l₂ a (xs ++ ys)
both-written a b xs ys e o₁ o₂ p x s is hp hx =
    two-written a b xs ys e o₁ o₂ p x s is hp (hx ∙ length-append xs ys) ∙ ap (λ (k : List ℕ). p ++ k) (sym (append_assoc xs ys s))

-- One name more, before the others, is listed behind them.
name-listed : {l l' : List ℕ} (records : List ℕ) (folds last many next : ℕ) (d : DeclaratorRecord) → 0 < last → last ≤ many → next ≡ folds + (many - last)
    → d ≡ declarator_at records (4 * (last - 1)) → Overwrites l l' folds (names_from records last (many - last))
    → Overwrites l (set l' next d.name) folds (names_from records (last - 1) (many - (last - 1)))
unfolding names_from
name-listed {l} {l'} records folds last many next d some most e r o =
    let n = many - last in
    let more : many - (last - 1) ≡ n + 1 = omega arith in
    let up : last - 1 + 1 ≡ last = omega arith in
    let at : last - 1 + 0 ≡ last - 1 = omega arith in
    let is : names_from records (last - 1) (many - (last - 1)) ≡ names_from records last n ++ (d.name ∷ []) =
    ap (names_from records (last - 1)) more
    ∙ names_split records (last - 1) n 1
    ∙ ap₂ (λ (k : ℕ) (x : DeclaratorRecord). names_from records k n ++ (x.name ∷ [])) up (ap (λ (k : ℕ). declarator_at records (4 * k)) at ∙ sym r) in
    subst (Overwrites l (set l' next d.name) folds) (sym is)
    (both-written folds next (names_from records last n) (d.name ∷ []) (omega (arith, e, names-length records last n)) o (entry-written l' next d.name))

-- Where the loop that lists names is: those from number `last` on are listed.
pub record Listing (records : List ℕ) (left many folds : ℕ) (folded₀ folded : List ℕ) (last : ℕ) : Type 0 where
  pub low : left ≤ last
  pub names : Overwrites folded₀ folded folds (names_from records last (many - last))

pub listing_begins : (records : List ℕ) (left many folds : ℕ) (folded : List ℕ) → left ≤ many → Listing records left many folds folded folded many
unfolding names_from
listing_begins records left many folds folded l =
    let none : many - many ≡ 0 = omega arith in
    record { low = l; names = rw none (none_written folded folds) }

module _ {records : List ℕ} {left many folds : ℕ} {folded₀ folded : List ℕ} {last : ℕ} (g : Listing records left many folds folded₀ folded last) where
  pub listing_on : (d : DeclaratorRecord) (next : ℕ) → next ≡ folds + (many - last) → last ≤ many → left < last → d ≡ declarator_at records (4 * (last - 1)) → Listing records left many folds folded₀ (set folded next d.name) (last - 1)
  listing_on d next i m l e = record {
    low = omega arith;
    names = name-listed records folds last many next d (omega (arith, l)) m i e g.names;
  }

  pub listing_ends : last ≤ left → Overwrites folded₀ folded folds (names_from records left (many - left))
  listing_ends l = subst (λ (k : ℕ). Overwrites folded₀ folded folds (names_from records k (many - k))) (omega (arith, l, g.low)) g.names
