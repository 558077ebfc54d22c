-- The search of a tree from the statements before it. Assumes nothing.
use mathlib.Core.Bool.{Bool, true, false, cond}
use mathlib.Core.Path.{◌≡◌, refl, sym, ap, ap₂, subst, ◌∙◌}
use mathlib.Core.List.{List, [], ◌∷◌, ◌++◌, reverse, reverse-reverse, append_assoc, append-nil, map-append}
use Prim.Native.Nat.{ℕ, ◌+◌, ◌*◌, ◌-◌, ◌/◌, ◌%◌, ◌≤◌, ◌<◌}
use native.Mathlib.Omega.{arith}
use lib.ListN.{length, length-append, length-reverse}
use lib.Dec.{eqb}
use Rattle.std.proofs.lemmas.List.{nil_from_length}
use Rattle.records.specs.Record.{header_of, statement_at, statement_bytes}
use Rattle.records.specs.Tree.{Tree}
use Rattle.records.specs.File.{DeclarationKind, Var, Let, Const, Using, AwaitUsing, kind_number, Initializer, bare, given, Declarator, Statement, declaration, expression, other, declarators_in, statement_number, statement_record, read}
use Rattle.records.specs.declared.layout.Header.{Header}
use Rattle.records.specs.declared.layout.NodeId.{NodeId}
use Rattle.records.specs.declared.layout.StatementRecord.{StatementRecord}
use Rattle.records.proofs.Tests.{both}
use Rattle.records_table.specs.Laid.{laid}
use Rattle.walk_rules.specs.Context.{Context, context_of, non_scoped_literal_only}
use Rattle.walk_rules.specs.Substitute.{Answer, replaced, stopped, passed, substitute_in_expression}
use Rattle.records_table.specs.Overwrites.{Overwrites}
use Rattle.walk_arms.specs.Search.{bare_names}
use Rattle.statements_rules.specs.Trace.{Fold, pure, ◌>>=◌, looked, folded}
use Rattle.statements_rules.specs.Declarators.{is_unsearched, is_using, ends_search, ended, FromDeclarators, after_answer, from_declarator, substitute_from_declarators}
use Rattle.statements_rules.specs.Statements.{Kept, in_file_order, FromStatements, after_declarators, from_statement, from_statements, substitute_in_statement}
use Rattle.statements_rules.proofs.Totals.{from-declarators}
use Rattle.statements_search.specs.declared.from_declarators.Searched.{Searched}
use Rattle.statements_search.specs.declared.in_statement.InStatement.{InStatement}
use Rattle.statements_search.specs.Kept.{laid_declarators, nodes_in, bare_declarators, Held, folded_names, most_in_use}
use Rattle.statements_progress.specs.Listed.{names_from}
use Rattle.statements_search.specs.KeptStatements.{laid_statement, nodes_of_statement, bare_statement, laid_kept, nodes_kept, declarators_kept, bare_kept, HeldKept, KeepsBefore, tables}
use Rattle.statements_search.specs.FromDeclarators.{CanSearch, Found, SearchesFrom}
use Rattle.statements_search.specs.InStatement.{CanSearchStatements, SearchedStatements, SearchesStatements}
use Rattle.statements_progress.proofs.Names.{names_split}
use Rattle.statements_search.proofs.Looks.{in_statement-looks}
use Rattle.statements_search.proofs.Going.{nodes_in_lem}
use Rattle.statements_search.proofs.KeptRecords.{kept_split, kept-total, declarators-total, kept_declaration, Last, declared, no_using, last_record, last, row, held-written}

-- The declarators that a search leaves are the first of those that it was given: what holds of these, and of the earlier ones
-- wherever it holds of some, holds of those that are left.
module _ (ctx : Context) (before : List Statement) (kind : DeclarationKind) (P : List Declarator → Type 0)
    (shorter : (d : Declarator) (ds : List Declarator) → P (d ∷ ds) → P ds) where
  after-answer : (d : Declarator) (initializer : Tree) (earlier : List Declarator) (target : Tree) (a : Answer Tree) (onward : Tree → FromDeclarators)
      → P (d ∷ earlier) → ((t : Tree) → P (onward t).result.left) → P (after_answer ctx before kind d initializer earlier target a onward).result.left
  unfolding after_answer folded pure
  after-answer d initializer earlier target (replaced t) onward p h = h t
  after-answer d initializer earlier target (stopped t) onward p h = p
  after-answer d initializer earlier target passed onward p h = p

  unless : (b : Bool) (d : Declarator) (earlier : List Declarator) (target : Tree) (w : FromDeclarators)
      → P (d ∷ earlier) → P w.result.left → P (cond b (ended target (d ∷ earlier)) w).result.left
  unfolding pure
  unless true d earlier target w p h = p
  unless false d earlier target w p h = h

  from-declarator : (literal_only : Bool) (d : Declarator) (i : Initializer) (earlier : List Declarator) (target : Tree) (onward : Tree → FromDeclarators)
      → P (d ∷ earlier) → ((t : Tree) → P (onward t).result.left) → P (from_declarator ctx before kind literal_only d i earlier target onward).result.left
  unfolding from_declarator looked pure
  from-declarator literal_only d bare earlier target onward p h = p
  from-declarator literal_only d (given t) earlier target onward p h =
      unless (ends_search ctx literal_only d.name t) d earlier target _ p
      (after-answer d t earlier target (substitute_in_expression ctx d.name t target) onward p h)

  pub left_have : (literal_only : Bool) (ds : List Declarator) (target : Tree) → P ds → P (substitute_from_declarators ctx before kind literal_only ds target).result.left
  unfolding substitute_from_declarators pure
  left_have literal_only [] target p = p
  left_have literal_only (d ∷ ds) target p =
      from-declarator literal_only d d.initializer ds target _ p (λ t. left_have literal_only ds t (shorter d ds p))

pub held-shorter : (records starts : List ℕ) (low at : ℕ) (d : Declarator) (ds : List Declarator) → Held records starts low at (d ∷ ds) → Held records starts low at ds
unfolding Held
held-shorter records starts low at d ds h = h.2

-- the names that were folded, and those that a search has folded behind them
names_further : (records : List ℕ) (many folds : ℕ) (r : Searched) (trace rest : List Fold) → folded_names trace ≡ names_from records r.declarators_kept r.folds → many ≡ r.declarators_kept + r.folds
    → names_from records r.declarators_kept (folds + r.folds) ++ folded_names rest ≡ names_from records many folds ++ folded_names (trace ++ rest)
names_further records many folds r trace rest e n =
    ap (λ l. l ++ folded_names rest) (names_split records r.declarators_kept folds r.folds)
    ∙ append_assoc (names_from records (r.declarators_kept + r.folds) folds) (names_from records r.declarators_kept r.folds) (folded_names rest)
    ∙ ap₂ (λ (k : ℕ) (l : List ℕ). names_from records k folds ++ (l ++ folded_names rest)) (sym n) (sym e)
    ∙ ap (λ l. names_from records many folds ++ l) (sym (map-append (λ f. f.name) trace rest))

-- option bit 3
pub literal-bit : (file : List ℕ) (h : Header) → h ≡ header_of file → eqb (h.options / 8 % 2) 1 ≡ non_scoped_literal_only (context_of (read file))
unfolding context_of read
literal-bit file h e = ap (λ (x : Header). eqb (x.options / 8 % 2) 1) e

-- a declaration by the declarators that are left
module _ (ctx : Context) (k : Kept) (kind : DeclarationKind) (earlier : List Kept) (target : Tree) where
  none_left : (ds : List Declarator) (onward : Tree → FromStatements) → ds ≡ [] → after_declarators ctx k kind earlier target ds onward ≡ onward target
  unfolding after_declarators
  none_left ds onward e = rw e

  some_left : (ds : List Declarator) (onward : Tree → FromStatements) → 0 < length ds
      → after_declarators ctx k kind earlier target ds onward ≡ ended target (kept_declaration k.number kind (reverse ds) ∷ earlier)
  unfolding after_declarators
  some_left [] onward h = absurd (omega arith)
  some_left (d ∷ ds) onward h = refl

-- the search from a declaration that is no using
module _ (ctx : Context) (number : ℕ) (kind : DeclarationKind) (ds : List Declarator) (ks : List Kept) (target : Tree) where
  abbrev pub from_last : FromDeclarators
  from_last = substitute_from_declarators ctx (in_file_order ks) kind (non_scoped_literal_only ctx) (reverse ds) target

  abbrev search : FromStatements
  search = from_statements ctx (kept_declaration number kind ds ∷ ks) target

  -- if all its declarators are folded, it goes on with the statements before
  goes_on : is_using kind ≡ false → from_last.result.left ≡ []
      → (search.result ≡ (from_statements ctx ks from_last.result.target).result)
      × (search.trace ≡ from_last.trace ++ (from_statements ctx ks from_last.result.target).trace)
      × (search.looks ≡ from_last.looks + (from_statements ctx ks from_last.result.target).looks)
  unfolding from_statements from_statement ◌>>=◌
  goes_on u e =
      let a = none_left ctx (kept_declaration number kind ds) kind ks from_last.result.target from_last.result.left (λ t. from_statements ctx ks t) e in
      (rw (u, a), rw (u, a), rw (u, a))

  -- its own looks are among those of the search
  looks_among : is_using kind ≡ false → from_last.looks ≤ search.looks
  unfolding from_statements from_statement ◌>>=◌
  looks_among u = rw u (omega arith)

  -- else it ends there
  ends-here : is_using kind ≡ false → 0 < length from_last.result.left
      → (search.result ≡ record { target = from_last.result.target; left = kept_declaration number kind (reverse from_last.result.left) ∷ ks })
      × (search.trace ≡ from_last.trace) × (search.looks ≡ from_last.looks)
  unfolding from_statements from_statement ◌>>=◌ pure
  ends-here u e =
      let a = some_left ctx (kept_declaration number kind ds) kind ks from_last.result.target from_last.result.left (λ t. from_statements ctx ks t) e in
      (rw (u, a), rw (u, a) (append-nil from_last.trace), rw (u, a) (omega arith))

-- the answer of a search that has come so far
abbrev come_to : ℕ → ℕ → NodeId → ℕ → ℕ → ℕ → InStatement
come_to count many tree used folds looks =
    record { statements_kept = count; declarators_kept = many; tree = tree; nodes_used = used; folds = folds; looks = looks }

-- Where the loop is: what it has left to do gives, with what it has done, the whole search.
pub record Goes (ctx : Context) (table records starts statements : List ℕ) (count many start used folds looks : ℕ) (w : FromStatements) (ks : List Kept) (target : Tree) (rest : List ℕ) : Type 0 where
  pub kept : KeepsBefore (tables table records starts statements) count many start used ks target rest
  pub result : (from_statements ctx ks target).result ≡ w.result
  pub folded : folds + length (from_statements ctx ks target).trace ≡ length w.trace
  pub listed : names_from records many folds ++ folded_names (from_statements ctx ks target).trace ≡ folded_names w.trace
  pub looked : looks + (from_statements ctx ks target).looks ≡ w.looks

-- at the start it has done nothing
pub begins : {ctx : Context} {table records starts statements : List ℕ} {count many start used : ℕ} {ks : List Kept} {target : Tree} {rest : List ℕ}
    → is_unsearched ctx ≡ false → KeepsBefore (tables table records starts statements) count many start used ks target rest
    → Goes ctx table records starts statements count many start used 0 0 (substitute_in_statement ctx ks target) ks target rest
unfolding substitute_in_statement names_from
begins u h = record { kept = h; result = rw u; folded = rw u (omega arith); listed = rw u; looked = rw u (omega arith) }

-- where no search is made, all stays
pub unsearched : (ctx : Context) {table records starts statements : List ℕ} {count many : ℕ} (tree : NodeId) {used : ℕ} {ks : List Kept} {target : Tree} {rest : List ℕ}
    → is_unsearched ctx ≡ true → KeepsBefore (tables table records starts statements) count many tree.0 used ks target rest
    → SearchedStatements (tables table records starts statements) (substitute_in_statement ctx ks target) (come_to count many tree used 0 0) rest
unfolding substitute_in_statement pure names_from
unsearched ctx tree u h = record { kept = rw u h; folded = rw u refl; listed = rw u refl; looks = rw u refl }

-- a using ends the search, and so does what is no declaration
using_ends : (kind : DeclarationKind) → 2 < kind_number kind → is_using kind ≡ true
unfolding kind_number is_using
using_ends Var h = absurd (omega arith)
using_ends Let h = absurd (omega arith)
using_ends Const h = absurd (omega arith)
using_ends Using h = refl
using_ends AwaitUsing h = refl

statement-ends : (ctx : Context) (number : ℕ) (x : Statement) (ks : List Kept) (target : Tree) → 2 < statement_number x
    → from_statements ctx (record { number = number; statement = x } ∷ ks) target ≡ ended target (record { number = number; statement = x } ∷ ks)
unfolding from_statements from_statement statement_number
statement-ends ctx number (declaration kind ds) ks target h = rw (using_ends kind h)
statement-ends ctx number (expression t) ks target h = refl
statement-ends ctx number other ks target h = refl

-- the result, where a tree and statements are left
gives : {table records starts statements : List ℕ} {count many : ℕ} (tree : NodeId) {used folds looks : ℕ} {ks : List Kept} {target : Tree} {rest : List ℕ} (w : FromStatements)
    → KeepsBefore (tables table records starts statements) count many tree.0 used ks target rest → record { target = target; left = ks } ≡ w.result
    → folds ≡ length w.trace → folded_names w.trace ≡ names_from records many folds → looks ≡ w.looks
    → SearchedStatements (tables table records starts statements) w (come_to count many tree used folds looks) rest
gives {table} {records} {starts} {statements} {count} {many} tree {used} {rest = rest} w h e f n l =
    record { kept = subst (λ x. KeepsBefore (tables table records starts statements) count many tree.0 used x.left x.target rest) e h; folded = f; listed = n; looks = l }

module _ {ctx : Context} {table records starts statements : List ℕ} {count many : ℕ} (tree : NodeId) {used folds looks : ℕ} {w : FromStatements} {target : Tree} {rest : List ℕ} where
  -- where nothing is left to do, it has done as the rules say
  ends_with : {ks : List Kept} → Goes ctx table records starts statements count many tree.0 used folds looks w ks target rest
      → from_statements ctx ks target ≡ ended target ks
      → SearchedStatements (tables table records starts statements) w (come_to count many tree used folds looks) rest
  unfolding pure
  ends_with {ks} g e =
      let f : length (from_statements ctx ks target).trace ≡ 0 = ap (λ (x : FromStatements). length x.trace) e in
      let l : (from_statements ctx ks target).looks ≡ 0 = ap (λ (x : FromStatements). x.looks) e in
      gives tree w g.kept (sym (ap (λ (x : FromStatements). x.result) e) ∙ g.result) (omega (arith, f, g.folded))
      (sym g.listed ∙ ap (λ (x : FromStatements). names_from records many folds ++ folded_names x.trace) e ∙ append-nil (names_from records many folds)) (omega (arith, l, g.looked))

  -- so at the first statement
  pub ends-first : (ks : List Kept) → Goes ctx table records starts statements count many tree.0 used folds looks w ks target rest → count ≤ 0
      → SearchedStatements (tables table records starts statements) w (come_to count many tree used folds looks) rest
  unfolding from_statements
  ends-first [] g h = ends_with g refl
  ends-first (k ∷ ks) g h = let c = g.kept.kept.counted.statements in absurd (omega arith)

  -- and at a statement that ends the search
  pub ends_at : (ks : List Kept) → Goes ctx table records starts statements count many tree.0 used folds looks w ks target rest
      → (s : StatementRecord) → s ≡ statement_at statements (4 * (count - 1)) → 0 < count → 2 < s.kind
      → SearchedStatements (tables table records starts statements) w (come_to count many tree used folds looks) rest
  unfolding statement_record
  ends_at [] g s e p h = let c = g.kept.kept.counted.statements in absurd (omega arith)
  ends_at (k ∷ ks) g s e p h =
      let n : s.kind ≡ statement_number k.statement = ap (λ (r : StatementRecord). r.kind) (e ∙ last_record k ks g.kept) in
      ends_with g (statement-ends ctx k.number k.statement ks target (omega (arith, n, h)))

-- what is kept when the declarators of the last statement have been searched
module _ {table table' records starts statements : List ℕ} {count many start used low number : ℕ} {kind : DeclarationKind} {ds : List Declarator} {ks : List Kept}
    {target : Tree} {rest : List ℕ} (h : KeepsBefore (tables table records starts statements) count many start used (kept_declaration number kind ds ∷ ks) target rest)
    (low-is : low ≡ declarators_kept ks) where
  -- without it, if none are left
  keeps-others : {w : FromDeclarators} {r : Searched} {rest' : List ℕ} → Found table' records low (nodes_kept ks) (laid_kept ks []) w r rest'
      → w.result.left ≡ []
      → KeepsBefore (tables table' records starts statements) (count - 1) r.declarators_kept r.tree.0 r.nodes_used ks w.result.target rest'
  unfolding laid_declarators nodes_in bare_declarators HeldKept bare_kept bare_statement
  keeps-others {w} {r} {rest'} f e =
      let c = h.kept.counted.statements in
      let t = w.result.target in
      let is : table' ≡ laid_kept ks [] ++ laid t rest' = f.is ∙ ap (λ l. laid_kept ks [] ++ laid_declarators l (laid t rest')) e in
      let many : r.declarators_kept ≡ low + 0 = f.many ∙ ap (λ l. low + length l) e in
      let start : r.tree.0 ≡ nodes_kept ks + 0 = f.start ∙ ap (λ l. nodes_kept ks + nodes_in l) e in
      record {
        kept = record {
          is = is ∙ sym (kept_split ks (laid t rest'));
          counted = record { statements = omega arith; declarators = omega (arith, many, low-is); nodes = omega (arith, start) };
          held = h.kept.held.2;
          names = (both (bare_declarators (reverse ds)) (bare_kept ks) h.kept.names).1;
        };
        ends = f.used;
        target-names = (both (bare_declarators w.result.left) (bare_names t) f.names).1;
      }

  -- with the declarators that are left, if its record is written anew
  keeps_it : {statements' : List ℕ} {w : FromDeclarators} {r : Searched} {rest' : List ℕ}
      → Found table' records low (nodes_kept ks) (laid_kept ks []) w r rest' → Held records starts low (nodes_kept ks) w.result.left
      → Overwrites statements statements' (4 * (count - 1)) (statement_bytes (record { kind = kind_number kind; zero = 0; declarators = r.declarators_kept - low }))
      → 4 * count ≤ length statements
      → KeepsBefore (tables table' records starts statements') count r.declarators_kept r.tree.0 r.nodes_used (kept_declaration number kind (reverse w.result.left) ∷ ks) w.result.target rest'
  unfolding laid_kept laid_statement declarators_kept declarators_in nodes_kept nodes_of_statement bare_kept bare_statement HeldKept statement_record statement_number
  keeps_it {w = w} {r} {rest'} f held o room =
      let left = w.result.left in
      let t = w.result.target in
      let c = h.kept.counted.statements in
      let b = both (bare_declarators left) (bare_names t) f.names in
      let n = length-reverse left in
      let many_is : r.declarators_kept - low ≡ length (reverse left) = omega (arith, f.many, n) in
      let x = held-written records starts ks (4 * (count - 1)) _ (omega arith) (omega arith) o h.kept.held.2 in
      record {
        kept = record {
          is = f.is ∙ sym (kept_split ks (laid_declarators left (laid t rest'))) ∙ rw (reverse-reverse left);
          counted = record { statements = c; declarators = omega (arith, f.many, low-is, n); nodes = rw (reverse-reverse left) f.start };
          held = (x.0 ∙ rw many_is, rw (reverse-reverse left, ← low-is) held, x.1);
          names = rw (reverse-reverse left, b.0) (both (bare_declarators (reverse ds)) (bare_kept ks) h.kept.names).1;
        };
        ends = f.used;
        target-names = b.1;
      }

-- the declarators of the last statement can be searched
module _ {table records starts statements : List ℕ} {count many start used : ℕ} {target : Tree} {rest : List ℕ} {s : StatementRecord} where
  counted : {ks : List Kept} → KeepsBefore (tables table records starts statements) count many start used ks target rest → Last s ks → s.declarators ≤ many
  unfolding statement_record declarators_in declarators_kept
  counted h (declared number kind ds ks d) =
      let n : s.declarators ≡ length ds = ap (λ (x : StatementRecord). x.declarators) d in
      omega (arith, n, h.kept.counted.declarators)

  can_search : {low : ℕ} {ks : List Kept} → KeepsBefore (tables table records starts statements) count many start used ks target rest → Last s ks
      → low ≡ many - s.declarators → 16 * used + 16 * many ≤ length table → used + many ≤ most_in_use → CanSearch table records starts low many start used
  unfolding statement_record declarators_in
  can_search {low} h (declared number kind ds ks d) e room few =
      let t = (row number kind ds ks low h (e ∙ ap (λ (x : StatementRecord). many - x.declarators) d)).1 in
      (nodes_kept ks, reverse ds, target, laid_kept ks [], rest, t, omega (arith, room, t.counted), omega (arith, few, t.counted))

module _ (ctx : Context) {table table' records starts statements : List ℕ} {count many start used low : ℕ} {target : Tree} {rest : List ℕ}
    {r : Searched} (after : SearchesFrom ctx (non_scoped_literal_only ctx) table table' records starts low many start used r) where
  -- what is found for the last statement
  found : (number : ℕ) (kind : DeclarationKind) (ds : List Declarator) (ks : List Kept)
      → KeepsBefore (tables table records starts statements) count many start used (kept_declaration number kind ds ∷ ks) target rest
      → low ≡ many - length ds
      → (rest' : List ℕ) × Found table' records low (nodes_kept ks) (laid_kept ks []) (from_last ctx number kind ds ks target) r rest'
  found number kind ds ks h e =
      after (nodes_kept ks) (reverse ds) target (laid_kept ks []) rest (row number kind ds ks low h e).1 (in_file_order ks) kind

  -- The search takes no more nodes than it takes declarators, and a declarator for each fold.
  pub fewer : {s : StatementRecord} {ks : List Kept} → KeepsBefore (tables table records starts statements) count many start used ks target rest → Last s ks → low ≡ many - s.declarators
      → (r.nodes_used + r.declarators_kept ≤ used + many) × (r.folds + r.declarators_kept ≡ many) × (low ≤ r.declarators_kept)
  unfolding statement_record declarators_in
  fewer h (declared number kind ds ks d) e =
      let w = from_last ctx number kind ds ks target in
      let l : low ≡ many - length ds = e ∙ ap (λ (x : StatementRecord). many - x.declarators) d in
      let f = (found number kind ds ks h l).1 in
      let t = (row number kind ds ks low h l).1 in
      let m = from-declarators ctx (in_file_order ks) kind (non_scoped_literal_only ctx) (reverse ds) target in (
        omega (arith, f.many, f.start, f.used, t.counted, t.starting, t.ends, m.lighter, nodes_in_lem (reverse ds), nodes_in_lem w.result.left),
        omega (arith, f.many, f.folded, t.counted, m.fewer),
        omega (arith, f.many),
      )

  -- the looks so far are among those of the whole search
  pub seen : {folds looks : ℕ} {w : FromStatements} {s : StatementRecord} {ks : List Kept} → Goes ctx table records starts statements count many start used folds looks w ks target rest
      → Last s ks → s.kind ≤ 2 → low ≡ many - s.declarators → looks + r.looks ≤ w.looks
  unfolding statement_record declarators_in
  seen g (declared number kind ds ks d) p e =
      let l : low ≡ many - length ds = e ∙ ap (λ (x : StatementRecord). many - x.declarators) d in
      let f = (found number kind ds ks g.kept l).1 in
      omega (arith, g.looked, f.looks, looks_among ctx number kind ds ks target (no_using kind ds d p))

  -- all its declarators are folded: the search goes on with the statements before
  pub drops : {folds looks : ℕ} {w : FromStatements} {s : StatementRecord} {ks : List Kept}
      → Goes ctx table records starts statements count many start used folds looks w ks target rest → Last s ks → s.kind ≤ 2 → low ≡ many - s.declarators → r.declarators_kept ≤ low
      → (ks' : List Kept) × (target' : Tree) × (rest' : List ℕ)
      × Goes ctx table' records starts statements (count - 1) r.declarators_kept r.tree.0 r.nodes_used (folds + r.folds) (looks + r.looks) w ks' target' rest'
  unfolding statement_record declarators_in
  drops {folds} g (declared number kind ds ks d) p e n =
      let v = from_last ctx number kind ds ks target in
      let l : low ≡ many - length ds = e ∙ ap (λ (x : StatementRecord). many - x.declarators) d in
      let f = found number kind ds ks g.kept l in
      let z : v.result.left ≡ [] = nil_from_length v.result.left (omega (arith, f.1.many, n)) in
      let o = goes_on ctx number kind ds ks target (no_using kind ds d p) z in
      let t = (from_statements ctx ks v.result.target).trace in
      let m = (fewer g.kept (declared number kind ds ks d) e).1 in (
        ks,
        v.result.target,
        f.0,
        record {
          kept = keeps-others g.kept (row number kind ds ks low g.kept l).0 f.1 z;
          result = sym o.0 ∙ g.result;
          folded = omega (arith, ap length o.1, length-append v.trace t, f.1.folded, g.folded);
          listed = names_further records many folds r v.trace t f.1.listed (omega (arith, m)) ∙ ap (λ x. names_from records many folds ++ folded_names x) (sym o.1) ∙ g.listed;
          looked = omega (arith, o.2, f.1.looks, g.looked);
        },
      )

  -- some are left: the search ends, and the record is written anew
  pub keeps : {statements' : List ℕ} {folds looks : ℕ} (w : FromStatements) {s : StatementRecord} {ks : List Kept}
      → Goes ctx table records starts statements count many start used folds looks w ks target rest → Last s ks → s.kind ≤ 2 → low ≡ many - s.declarators → low < r.declarators_kept
      → Overwrites statements statements' (4 * (count - 1)) (statement_bytes (record { kind = s.kind; zero = 0; declarators = r.declarators_kept - low }))
      → 4 * count ≤ length statements
      → (rest' : List ℕ) × SearchedStatements (tables table' records starts statements') w (come_to count r.declarators_kept r.tree r.nodes_used (folds + r.folds) (looks + r.looks)) rest'
  unfolding statement_record declarators_in statement_number
  keeps {statements'} {folds} w g (declared number kind ds ks d) p e n o room =
      let v = from_last ctx number kind ds ks target in
      let l : low ≡ many - length ds = e ∙ ap (λ (x : StatementRecord). many - x.declarators) d in
      let f = found number kind ds ks g.kept l in
      let t = row number kind ds ks low g.kept l in
      let z : 0 < length v.result.left = omega (arith, f.1.many, n) in
      let x = ends-here ctx number kind ds ks target (no_using kind ds d p) z in
      let held = left_have ctx (in_file_order ks) kind (Held records starts low (nodes_kept ks)) (held-shorter records starts low (nodes_kept ks)) (non_scoped_literal_only ctx) (reverse ds) target t.1.held in
      let o' = subst (λ (y : StatementRecord). Overwrites statements statements' (4 * (count - 1)) (statement_bytes (record { kind = y.kind; zero = 0; declarators = r.declarators_kept - low }))) d o in
      let m = (fewer g.kept (declared number kind ds ks d) e).1 in
      let listed =
      names_further records many folds r v.trace [] f.1.listed (omega (arith, m))
      ∙ ap (λ y. names_from records many folds ++ folded_names y) (append-nil v.trace ∙ sym x.1)
      ∙ g.listed in (
        f.0,
        gives r.tree w (keeps_it g.kept t.0 f.1 held o' room) (sym x.0 ∙ g.result) (omega (arith, ap length x.1, f.1.folded, g.folded))
            (sym (sym (append-nil (names_from records r.declarators_kept (folds + r.folds))) ∙ listed)) (omega (arith, x.2, f.1.looks, g.looked)),
      )

-- The loop's invariant: the room, the declarators that were folded, and where the loop is, for all statements
-- that it may have begun with.
pub record Turn (ctx : Context) (table₀ table records starts statements₀ statements : List ℕ) (count many start used kept left begin end folds looks : ℕ) : Type 0 where
  pub room : 16 * end + 16 * left ≤ length table
  pub few : end + left ≤ most_in_use
  pub folded : folds + left ≡ many
  pub goes : (ks : List Kept) (target : Tree) (rest : List ℕ) → KeepsBefore (tables table₀ records starts statements₀) count many start used ks target rest
      → (ks' : List Kept) × (target' : Tree) × (rest' : List ℕ)
      × Goes ctx table records starts statements kept left begin end folds looks (substitute_in_statement ctx ks target) ks' target' rest'

pub first-turn : {ctx : Context} {table records starts statements : List ℕ} {count many start used : ℕ} → is_unsearched ctx ≡ false
    → CanSearchStatements (tables table records starts statements) count many start used
    → Turn ctx table table records starts statements statements count many start used count many start used 0 0
first-turn u c = record {
  room = c.4;
  few = c.5;
  folded = omega arith;
  goes = λ ks target rest h. (ks, target, rest, begins u h);
}

module _ {ctx : Context} {table₀ table records starts statements₀ statements : List ℕ} {count many start used kept left : ℕ} (tree : NodeId) {end folds looks : ℕ}
    (i : Turn ctx table₀ table records starts statements₀ statements count many start used kept left tree.0 end folds looks) where
  -- no statement is left
  pub at_first : {number : ℕ} → number ≡ kept → kept ≤ 0
      → SearchesStatements ctx (tables table₀ records starts statements₀) (tables table records starts statements) count many start used (come_to number left tree end folds looks)
  at_first q n = rw q (λ ks target rest h. let g = i.goes ks target rest h in (g.2, ends-first tree g.0 g.3 n))

  module _ (s : StatementRecord) (s-is : s ≡ statement_at statements (4 * (kept - 1))) (some : 0 < kept) where
    -- the statement ends the search
    pub at-end : {number : ℕ} → number ≡ kept → 2 < s.kind
        → SearchesStatements ctx (tables table₀ records starts statements₀) (tables table records starts statements) count many start used (come_to number left tree end folds looks)
    at-end q n = rw q (λ ks target rest h. let g = i.goes ks target rest h in (g.2, ends_at tree g.0 g.3 s s-is some n))

    -- it is a declaration
    module _ (plain : s.kind ≤ 2) where
      declares : s.kind < 5
      declares = omega (arith, plain)

      module _ (c : CanSearchStatements (tables table₀ records starts statements₀) count many start used) where
        pub fewer-declared : s.declarators ≤ left
        fewer-declared = let g = (i.goes c.0 c.1 c.2 c.3).3 in counted g.kept (last _ g.kept s s-is some declares)

        pub searchable : {low : ℕ} → low ≡ left - s.declarators → CanSearch table records starts low left tree.0 end
        searchable e = let g = (i.goes c.0 c.1 c.2 c.3).3 in can_search g.kept (last _ g.kept s s-is some declares) e i.room i.few

      module _ {literal_only : Bool} {table' : List ℕ} {low : ℕ} {r : Searched} (literal-is : literal_only ≡ non_scoped_literal_only ctx) (low-is : low ≡ left - s.declarators)
          (searches : SearchesFrom ctx literal_only table table' records starts low left tree.0 end r) where
        after : SearchesFrom ctx (non_scoped_literal_only ctx) table table' records starts low left tree.0 end r
        after = subst (λ b. SearchesFrom ctx b table table' records starts low left tree.0 end r) literal-is searches

        pub found-fewer : CanSearchStatements (tables table₀ records starts statements₀) count many start used
            → (r.nodes_used + r.declarators_kept ≤ end + left) × (r.folds + r.declarators_kept ≡ left) × (low ≤ r.declarators_kept)
        found-fewer c = let g = (i.goes c.0 c.1 c.2 c.3).3 in fewer ctx after g.kept (last _ g.kept s s-is some declares) low-is

        pub looks-fit : CanSearchStatements (tables table₀ records starts statements₀) count many start used → looks + r.looks ≤ most_in_use * most_in_use
        looks-fit (ks, target, rest, h, room, few) =
            let g = (i.goes ks target rest h).3 in
            let n = h.kept.counted in
            omega
            (arith, seen ctx after g (last _ g.kept s s-is some declares) plain low-is, in_statement-looks ctx ks target (omega (arith, few, h.ends, n.nodes, n.declarators, kept-total ks)), declarators-total ks, n.declarators, few)

        -- it is searched: all its declarators were folded
        pub next-turn : CanSearchStatements (tables table₀ records starts statements₀) count many start used → length table' ≡ length table → r.declarators_kept ≤ low
            → Turn ctx table₀ table' records starts statements₀ statements count many start used (kept - 1) r.declarators_kept r.tree.0 r.nodes_used (folds + r.folds) (looks + r.looks)
        next-turn c l n =
            let f = found-fewer c in
            record {
              room = omega (arith, l, f.0, i.room);
              few = omega (arith, f.0, i.few);
              folded = omega (arith, f.1, i.folded);
              goes = λ ks target rest h.
                  let g = i.goes ks target rest h in
                  drops ctx after g.3 (last g.0 g.3.kept s s-is some declares) plain low-is n;
            }

        -- some were not
        pub at-kept : {statements' : List ℕ} {number : ℕ} → number ≡ kept → low < r.declarators_kept
            → Overwrites statements statements' (4 * (kept - 1)) (statement_bytes (record { kind = s.kind; zero = 0; declarators = r.declarators_kept - low }))
            → 4 * kept ≤ length statements
            → SearchesStatements ctx (tables table₀ records starts statements₀) (tables table' records starts statements') count many start used (come_to number r.declarators_kept r.tree r.nodes_used (folds + r.folds) (looks + r.looks))
        at-kept q n o l = rw q (λ ks target rest h.
            let g = i.goes ks target rest h in
            keeps ctx after (substitute_in_statement ctx ks target) g.3 (last g.0 g.3.kept s s-is some declares) plain low-is n o l)
