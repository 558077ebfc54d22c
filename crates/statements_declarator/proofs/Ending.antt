-- The end of the search at a declarator, by the cases and the test that the code takes. Assumes nothing.
use Prim.Native.Nat.{ℕ}
use native.Mathlib.Omega.{arith}
use mathlib.Core.Bool.{Bool, true, false, ◌&&◌, ◌||◌, not, or-true}
use mathlib.Core.List.{List}
use mathlib.Core.Path.{◌≡◌, refl, sym, ap, ◌∙◌}
use lib.Dec.{eqb, ltb}
use lib.ListN.{get_or}
use Rattle.records.specs.Limits.{no_number}
use Rattle.records.specs.Flags.{bit, anonymous, recorded}
use Rattle.records.specs.Record.{header_of}
use Rattle.records.specs.Tree.{Tree, node, node_of}
use Rattle.records.specs.Place.{root}
use Rattle.records.specs.File.{names_of, read}
use Rattle.records.specs.Script.{no_name}
use Rattle.records.specs.declared.layout.Header.{Header}
use Rattle.records.specs.declared.layout.NameId.{NameId}
use Rattle.records.specs.declared.layout.NameFacts.{NameFacts}
use Rattle.records.specs.declared.layout.NodeRecord.{NodeRecord}
use Rattle.records.specs.declared.layout.DeclaratorRecord.{DeclaratorRecord}
use Rattle.walk_rules.specs.Context.{Context, context_of, facts_of}
use Rattle.walk_rules.specs.Effect.{is_literal_value}
use Rattle.statements_rules.specs.Declarators.{is_catch_variable, is_implicitly_observable, name_needs_to_be_kept, ends_search}
use Rattle.statements_declarator.specs.declared.declarator_parts.PlainName.TheVariants.{Name, Pattern}
use Rattle.statements_declarator.specs.declared.declarator_parts.ValueRecord.TheVariants.{Recorded, Unrecorded}
use Rattle.statements_declarator.specs.Cases.{plain_name, value_record}
use Rattle.statements_declarator.specs.Ends.{KeepsName, Ends}
use Rattle.statements_declarator.proofs.Cases.{is_name, is_pattern_lem, is-recorded, is_unrecorded_lem}

-- the options of a file
pub options_are : (bs : List ℕ) {h : Header} → h ≡ header_of bs → (context_of (read bs)).options ≡ h.options
unfolding context_of read
options_are bs e = ap (λ (x : Header). x.options) (sym e)

-- the facts of a name of a file
pub facts_are : (bs : List ℕ) (k : ℕ) {x : NameFacts} → x ≡ get_or (names_of bs) k no_name → x ≡ facts_of (context_of (read bs)) k
unfolding context_of read facts_of names_of
facts_are bs k e = e

-- the name of an initializer, kept or not
pub name-kept : (h : Header) (n : NodeRecord) → KeepsName h n (anonymous n.flags && (eqb n.kind 3 && bit 4 h.options || eqb n.kind 2 && bit 2 h.options))
unfolding name_needs_to_be_kept node_of
name-kept h n ctx o (node m kids) e = rw (e, o) refl

-- two tests that are known, and one that never holds
without : (a k o x y l b : Bool) → (a || k || o || x || y || l && not b) ≡ (false || a || k || not true || o || x || y || l && not (b || false && true))
without a k o x y l b = grind arith

-- the tests behind the name and the value record
pub rest-ends : (h : Header) (facts : NameFacts) (reads writes : ℕ) (n : NodeRecord) (literal_only kept : Bool) → KeepsName h n kept
    → Ends h facts reads writes n literal_only
    (is_catch_variable facts.flags || kept || is_implicitly_observable facts.flags || ltb 1 reads || ltb 0 writes || literal_only && not (eqb n.kind 1))
unfolding ends_search is_literal_value node_of
rest-ends h facts reads writes n literal_only kept k ctx o name plain f r (node m kids) e =
    let (g, x, y) = is-recorded facts r in
    rw (k ctx o (node m kids) e, f, plain, g, x, y, e)
    (without (is_catch_variable facts.flags) (name_needs_to_be_kept ctx (node (node_of n) kids)) (is_implicitly_observable facts.flags) (ltb 1 reads) (ltb 0 writes) literal_only (eqb n.kind 1))

-- The whole: a pattern ends the search, so does a name with no value record, and else the test does.
module _ (ctx : Context) (literal_only : Bool) (d : DeclaratorRecord) (initializer : Tree) where
  pub pattern_ends : plain_name d ≡ Pattern → ends_search ctx literal_only d.name initializer ≡ true
  unfolding ends_search
  pattern_ends e = rw (is_pattern_lem d e) refl

  pub unrecorded_ends : {name : NameId} {facts : NameFacts} → plain_name d ≡ Name name → facts ≡ facts_of ctx name.0 → value_record facts ≡ Unrecorded
      → ends_search ctx literal_only d.name initializer ≡ true
  unfolding ends_search
  unrecorded_ends {name} {facts} p f r =
      let g : recorded (facts_of ctx d.name).flags ≡ false = rw (← (is_name d p).1, ← f) (is_unrecorded_lem facts r) in
      rw (g, or-true (eqb d.name no_number || is_catch_variable (facts_of ctx d.name).flags || name_needs_to_be_kept ctx initializer)) refl

  pub test-ends : {name : NameId} {facts : NameFacts} {reads writes : ℕ} (h : Header) (n : NodeRecord) {b : Bool}
      → plain_name d ≡ Name name → facts ≡ facts_of ctx name.0 → value_record facts ≡ Recorded reads writes
      → ctx.options ≡ h.options → root initializer ≡ node_of n → Ends h facts reads writes n literal_only b
      → ends_search ctx literal_only d.name initializer ≡ b
  test-ends h n p f r o e t =
      let (x, y) = is_name d p in sym (t ctx o d.name x (ap (facts_of ctx) (sym y) ∙ sym f) r initializer e)
