-- Statements that are kept: their bytes, and the declarators of the last. Assumes nothing.
use mathlib.Core.Bool.{false}
use mathlib.Core.Path.{◌≡◌, refl, sym, ap, subst, ◌∙◌}
use mathlib.Core.List.{List, [], ◌∷◌, ◌++◌, reverse, append_assoc}
use Prim.Native.Nat.{ℕ, ◌+◌, ◌*◌, ◌-◌, ◌≤◌, ◌<◌}
use native.Mathlib.Omega.{arith}
use lib.ListN.{length, length-reverse}
use Rattle.records.specs.Record.{statement_at, statement_bytes}
use Rattle.records.specs.Tree.{Tree}
use Rattle.records.specs.File.{DeclarationKind, Var, Let, Const, Using, AwaitUsing, kind_number, Declarator, Statement, declaration, expression, other, declarators_in, statement_number, statement_record}
use Rattle.records.specs.declared.layout.StatementRecord.{StatementRecord}
use Rattle.records.proofs.Tests.{both}
use Rattle.records_laws.proofs.Formats.{statement-reads}
use Rattle.records_table.specs.Laid.{laid}
use Rattle.records_table.proofs.Laid.{laid-length, laid_split}
use Rattle.records_table.specs.Overwrites.{Overwrites}
use Rattle.statements_rules.specs.Declarators.{is_using}
use Rattle.statements_rules.specs.Statements.{Kept}
use Rattle.statements_rules.proofs.Totals.{total, total_reverse, declarator_size, weight, kept_weight, kept_declarators}
use Rattle.statements_search.specs.Kept.{laid_declarators, bare_declarators, Held}
use Rattle.statements_search.specs.KeptStatements.{laid_statement, nodes_of_statement, bare_statement, laid_kept, nodes_kept, declarators_kept, bare_kept, HeldKept, KeepsBefore, tables}
use Rattle.statements_search.specs.FromDeclarators.{StandingDeclarators}
use Rattle.statements_search.proofs.Going.{declarators_split, declarators-length, nodes_in_lem}
use Rattle.statements_progress.proofs.Written.{statement-before, written}

-- the trees of statements, and the bytes behind them
statement_split : (s : Statement) (x : List ℕ) → laid_statement s x ≡ laid_statement s [] ++ x
unfolding laid_statement
statement_split (declaration kind ds) x = declarators_split (reverse ds) x
statement_split (expression t) x = laid_split t x
statement_split other x = refl

pub kept_split : (ks : List Kept) (x : List ℕ) → laid_kept ks x ≡ laid_kept ks [] ++ x
unfolding laid_kept
kept_split [] x = refl
kept_split (k ∷ ks) x =
    kept_split ks (laid_statement k.statement x)
    ∙ ap (λ l. laid_kept ks [] ++ l) (statement_split k.statement x)
    ∙ sym (append_assoc (laid_kept ks []) (laid_statement k.statement []) x)
    ∙ ap (λ l. l ++ x) (sym (kept_split ks (laid_statement k.statement [])))

statement-length : (s : Statement) (x : List ℕ) → length (laid_statement s x) ≡ 16 * nodes_of_statement s + length x
unfolding laid_statement nodes_of_statement
statement-length (declaration kind ds) x = declarators-length (reverse ds) x
statement-length (expression t) x = laid-length t x
statement-length other x = omega arith

pub kept-length : (ks : List Kept) (x : List ℕ) → length (laid_kept ks x) ≡ 16 * nodes_kept ks + length x
unfolding laid_kept nodes_kept
kept-length [] x = omega arith
kept-length (k ∷ ks) x = omega (arith, kept-length ks (laid_statement k.statement x), statement-length k.statement x)

-- the nodes and declarators of what is kept, as sums
statement-total : (s : Statement) → nodes_of_statement s + length (declarators_in s) ≡ weight s
unfolding nodes_of_statement declarators_in weight
statement-total (declaration kind ds) = omega (arith, nodes_in_lem (reverse ds), total_reverse declarator_size ds)
statement-total (expression t) = omega arith
statement-total other = refl

pub kept-total : (ks : List Kept) → nodes_kept ks + declarators_kept ks ≡ total kept_weight ks
unfolding nodes_kept declarators_kept total kept_weight
kept-total [] = refl
kept-total (k ∷ ks) = omega (arith, kept-total ks, statement-total k.statement)

pub declarators-total : (ks : List Kept) → declarators_kept ks ≡ total kept_declarators ks
unfolding declarators_kept total kept_declarators
declarators-total [] = refl
declarators-total (k ∷ ks) = omega (arith, declarators-total ks)

-- a declaration with its number in the file
abbrev pub kept_declaration : ℕ → DeclarationKind → List Declarator → Kept
kept_declaration number kind ds = record { number = number; statement = declaration kind ds }

-- The last statement, where its record is that of a declaration.
pub data Last (s : StatementRecord) : List Kept → Type 0 where
  declared : (number : ℕ) (kind : DeclarationKind) (ds : List Declarator) (ks : List Kept)
      → s ≡ statement_record (declaration kind ds) → Last s (kept_declaration number kind ds ∷ ks)

-- it is no using, by its kind
pub no_using : {s : StatementRecord} (kind : DeclarationKind) (ds : List Declarator) → s ≡ statement_record (declaration kind ds) → s.kind ≤ 2 → is_using kind ≡ false
unfolding statement_record statement_number kind_number is_using
no_using {s} kind ds e h = by kind (omega (arith, h, ap (λ (r : StatementRecord). r.kind) e))
  where
    by : (kind : DeclarationKind) → kind_number kind ≤ 2 → is_using kind ≡ false
    by Var h = refl
    by Let h = refl
    by Const h = refl
    by Using h = absurd (omega arith)
    by AwaitUsing h = absurd (omega arith)

last_of : (s : StatementRecord) (number : ℕ) (x : Statement) (ks : List Kept) → s ≡ statement_record x → s.kind < 5
    → Last s (record { number = number; statement = x } ∷ ks)
unfolding statement_record statement_number
last_of s number (declaration kind ds) ks e h = declared number kind ds ks e
last_of s number (expression t) ks e h =
    let k : s.kind ≡ 5 = ap (λ (r : StatementRecord). r.kind) e in
    absurd (omega (arith, h, k))
last_of s number other ks e h =
    let k : s.kind ≡ 6 = ap (λ (r : StatementRecord). r.kind) e in
    absurd (omega (arith, h, k))

module _ {table records starts statements : List ℕ} {count many start used : ℕ} {target : Tree} {rest : List ℕ} where
  -- the record of the last statement
  pub last_record : (k : Kept) (ks : List Kept) → KeepsBefore (tables table records starts statements) count many start used (k ∷ ks) target rest
      → statement_at statements (4 * (count - 1)) ≡ statement_record k.statement
  unfolding HeldKept
  last_record k ks h =
      let c = h.kept.counted.statements in
      ap (statement_at statements) (omega (arith, c)) ∙ h.kept.held.0

  pub last : (ks : List Kept) → KeepsBefore (tables table records starts statements) count many start used ks target rest
      → (s : StatementRecord) → s ≡ statement_at statements (4 * (count - 1)) → 0 < count → s.kind < 5 → Last s ks
  last [] h s e p t = let c = h.kept.counted.statements in absurd (omega arith)
  last (k ∷ ks) h s e p t = last_of s k.number k.statement ks (e ∙ last_record k ks h) t

  -- its declarators
  pub row : (number : ℕ) (kind : DeclarationKind) (ds : List Declarator) (ks : List Kept) (low : ℕ)
      → KeepsBefore (tables table records starts statements) count many start used (kept_declaration number kind ds ∷ ks) target rest
      → low ≡ many - length ds
      → (low ≡ declarators_kept ks) × StandingDeclarators table records starts low many (nodes_kept ks) start used (reverse ds) target (laid_kept ks []) rest
  unfolding laid_kept laid_statement declarators_kept declarators_in nodes_kept nodes_of_statement bare_kept bare_statement HeldKept
  row number kind ds ks low h e =
      let m = h.kept.counted.declarators in
      let n = h.kept.counted.nodes in
      let b = both (bare_declarators (reverse ds)) (bare_kept ks) h.kept.names in
      let l : low ≡ declarators_kept ks = omega (arith, m, e) in (
        l,
        record {
          is = h.kept.is ∙ kept_split ks (laid_declarators (reverse ds) (laid target rest));
          begins = omega (arith, kept-length ks []);
          counted = omega (arith, m, e, length-reverse ds);
          held = subst (λ (x : ℕ). Held records starts x (nodes_kept ks) (reverse ds)) (sym l) h.kept.held.1;
          starting = n;
          ends = h.ends;
          names = rw (b.0, h.target-names);
        },
      )

-- statements whose records are read as before are held as before
pub held_same : (records starts statements statements' : List ℕ) (ks : List Kept)
    → ((i : ℕ) → i < length ks → statement_at statements' (4 * i) ≡ statement_at statements (4 * i))
    → HeldKept records starts statements ks → HeldKept records starts statements' ks
unfolding HeldKept
held_same records starts statements statements' [] e h = tt
held_same records starts statements statements' (k ∷ ks) e h = (e (length ks) (omega arith) ∙ h.0, h.1, held_same records starts statements statements' ks (λ i l. e i (omega arith)) h.2)

-- a record written behind them is read there
pub held-written : (records starts : List ℕ) {statements statements' : List ℕ} (ks : List Kept) (at : ℕ) (s : StatementRecord)
    → at ≡ 4 * length ks → at + 4 ≤ length statements → Overwrites statements statements' at (statement_bytes s) → HeldKept records starts statements ks
    → (statement_at statements' (4 * length ks) ≡ s) × HeldKept records starts statements' ks
held-written records starts {statements} {statements'} ks at s e l o h =
    let (x, y) = written statement-reads statement-before s at (length ks) e l o in
    (x, held_same records starts statements statements' ks y h)
