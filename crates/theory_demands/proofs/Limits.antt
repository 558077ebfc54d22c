-- Rows 3 and 11: the counts of a result stay within the limits, and it asks for no more room.
use Prim.Native.Nat.{ℕ, ◌+◌, ◌*◌, ◌≤◌}
use native.Mathlib.Omega.{arith}
use mathlib.Core.Bool.{true, false, ◌&&◌}
use mathlib.Core.List.{List, [], ◌∷◌}
use mathlib.Core.Path.{◌≡◌, refl}
use lib.ListN.{length, length-map, length-reverse}
use lib.Dec.{eqb, leb}
use borrow.Author.Tests.{leb-true, le-leb, not-false}
use Rattle.records.specs.Limits.{max_names, min_scopes, max_scopes, max_frames, max_declarators, min_statements, max_statements, max_nodes}
use Rattle.records.specs.File.{Statement, declaration, expression, other, File, header_for, file_length}
use Rattle.records.specs.Header.{counts_fit, options_known, header_scopes, outside_limits}
use Rattle.records.specs.declared.layout.Header.{Header}
use Rattle.records.proofs.Tests.{both, all_three}
use Rattle.walk_rules.specs.Context.{Context, context_of}
use Rattle.statements_rules.specs.Trace.{pure, ◌>>=◌}
use Rattle.statements_rules.specs.Statements.{Kept, statement_of, fold_statement, fold_statements}
use Rattle.statements_rules.specs.Fold.{with_statements, folded_file, fold_file}
use Rattle.statements_rules.proofs.Totals.{nodes_and_declarators, declarators-folded, statements-kept}
use Rattle.statements_rules.proofs.Lengths.{nodes-most}

-- A header with the facts of another, and counts that are no more.
pub record Lower (h h' : Header) : Type 0 where
  pub options : h'.options ≡ h.options
  pub names : h'.names ≡ h.names
  pub scopes : h'.scopes ≡ h.scopes
  pub frames : h'.frames ≡ h.frames
  pub current : h'.current_scope ≡ h.current_scope
  pub this : h'.this_scope ≡ h.this_scope
  pub last : h'.last ≡ h.last
  pub declarators : h'.declarators ≤ h.declarators
  pub some : 1 ≤ h'.statements
  pub statements : h'.statements ≤ h.statements
  pub nodes : h'.nodes + 2 * h'.declarators ≤ h.nodes + 2 * h.declarators
  pub weight : h'.nodes + h'.declarators ≤ h.nodes + h.declarators

-- what is no more than a number within a limit is within it
pub below : (a b c : ℕ) → a ≤ b → leb b c ≡ true → leb a c ≡ true
below a b c h e = let x = leb-true b c e in le-leb a c (omega (arith, h, x))

-- the limits, one by one
pub record Within (h : Header) : Type 0 where
  pub names : leb h.names max_names ≡ true
  pub scope : leb min_scopes h.scopes ≡ true
  pub scopes : leb h.scopes max_scopes ≡ true
  pub frames : leb h.frames max_frames ≡ true
  pub declarators : leb h.declarators max_declarators ≡ true
  pub some : leb min_statements h.statements ≡ true
  pub statements : leb h.statements max_statements ≡ true
  pub nodes : leb (h.nodes + 2 * h.declarators) max_nodes ≡ true

within : (h : Header) → counts_fit h ≡ true → Within h
within h e =
    let (x₁, nodes) = both _ (leb (h.nodes + 2 * h.declarators) max_nodes) e in
    let (x₂, statements) = both _ (leb h.statements max_statements) x₁ in
    let (x₃, some) = both _ (leb min_statements h.statements) x₂ in
    let (x₄, declarators) = both _ (leb h.declarators max_declarators) x₃ in
    let (x₅, frames) = both _ (leb h.frames max_frames) x₄ in
    let (x₆, scopes) = both _ (leb h.scopes max_scopes) x₅ in
    let (names, scope) = both (leb h.names max_names) (leb min_scopes h.scopes) x₆ in
    record { names = names; scope = scope; scopes = scopes; frames = frames; declarators = declarators; some = some; statements = statements; nodes = nodes }

counts-lower : (h h' : Header) → Lower h h' → Within h → counts_fit h' ≡ true
counts-lower h h' l w =
    rw (
      l.names,
      l.scopes,
      l.frames,
      w.names,
      w.scope,
      w.scopes,
      w.frames,
      below h'.declarators h.declarators max_declarators l.declarators w.declarators,
      le-leb 1 h'.statements l.some,
      below h'.statements h.statements max_statements l.statements w.statements,
      below (h'.nodes + 2 * h'.declarators) (h.nodes + 2 * h.declarators) max_nodes l.nodes w.nodes,
    )

-- row 3, part by part
pub limits-parts : (h : Header) → outside_limits h ≡ false → Within h × (options_known h ≡ true) × (header_scopes h ≡ true) × (eqb h.last 0 ≡ true)
unfolding outside_limits
limits-parts h e =
    let (x, scopes, last) = all_three (counts_fit h && options_known h) (header_scopes h) (eqb h.last 0) (not-false _ e) in
    let (counts, options) = both (counts_fit h) (options_known h) x in
    (within h counts, options, scopes, last)

pub limits-some : (h : Header) → outside_limits h ≡ false → 1 ≤ h.statements
limits-some h e = leb-true 1 h.statements (limits-parts h e).0.some

pub limits-lower : (h h' : Header) → Lower h h' → outside_limits h ≡ false → outside_limits h' ≡ false
unfolding outside_limits
limits-lower h h' l e =
    let (counts, options, scopes, last) = limits-parts h e in
    rw (counts-lower h h' l counts, l.options, options, l.current, l.this, l.scopes, scopes, l.last, last)

-- The statement that was searched last is always kept.
abbrev Some : {A : Type 0} → List A → Type 0
Some xs = 1 ≤ length xs

module _ (ctx : Context) where
  one_kept : (number : ℕ) (earlier : List Kept) (s : Statement) → Some (fold_statement ctx number earlier s).result
  unfolding fold_statement pure ◌>>=◌
  one_kept number earlier (declaration kind ds) = omega arith
  one_kept number earlier (expression t) = omega arith
  one_kept number earlier other = omega arith

  some-kept : (number : ℕ) (earlier : List Kept) (ss : List Statement) → Some earlier → Some (fold_statements ctx number earlier ss).result
  unfolding fold_statements pure ◌>>=◌
  some-kept number earlier [] h = let x = length-reverse earlier in omega (arith, h, x)
  some-kept number earlier (s ∷ ss) h = some-kept (number + 1) (fold_statement ctx number earlier s).result ss (one_kept number earlier s)

  any-kept : (number : ℕ) (ss : List Statement) → Some ss → Some (fold_statements ctx number [] ss).result
  unfolding fold_statements ◌>>=◌
  any-kept number [] h = absurd (omega arith)
  any-kept number (s ∷ ss) h = some-kept (number + 1) (fold_statement ctx number [] s).result ss (one_kept number [] s)

pub statements-some : (f : File) → 1 ≤ length f.statements → 1 ≤ length (fold_file f).file.statements
unfolding fold_file folded_file with_statements
statements-some f h =
    let x = any-kept (context_of f) 0 f.statements h in
    let y = length-map (fold_statements (context_of f) 0 [] f.statements).result statement_of in
    omega (arith, x, y)

pub header_lower : (f : File) → 1 ≤ length f.statements → Lower (header_for f) (header_for (fold_file f).file)
unfolding header_for
header_lower f h = record {
  options = unfold fold_file folded_file with_statements in refl;
  names = unfold fold_file folded_file with_statements in refl;
  scopes = unfold fold_file folded_file with_statements in refl;
  frames = unfold fold_file folded_file with_statements in refl;
  current = unfold fold_file folded_file with_statements in refl;
  this = unfold fold_file folded_file with_statements in refl;
  last = refl;
  declarators = omega (arith, declarators-folded f);
  some = statements-some f h;
  statements = statements-kept f;
  nodes = nodes-most f;
  weight = nodes_and_declarators f;
}

-- length + 8 × D never grows
pub room-lower : (h h' : Header) → Lower h h' → file_length h' + 8 * h'.declarators ≤ file_length h + 8 * h.declarators
room-lower h h' l = omega (arith, l.names, l.scopes, l.frames, l.weight, l.statements)
