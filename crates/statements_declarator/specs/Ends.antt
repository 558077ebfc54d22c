-- The tests that end the search at a declarator, of what the code reads.
use Rattle.std.specs.Prelude.{ℕ, Bool, false, ◌≡◌, eqb}
use Rattle.records.specs.Limits.{no_number}
use Rattle.records.specs.Tree.{Tree, node_of}
use Rattle.records.specs.Place.{root}
use Rattle.records.specs.declared.layout.Header.{Header}
use Rattle.records.specs.declared.layout.NameFacts.{NameFacts}
use Rattle.records.specs.declared.layout.NodeRecord.{NodeRecord}
use Rattle.walk_rules.specs.Context.{Context, facts_of}
use Rattle.statements_rules.specs.Declarators.{name_needs_to_be_kept, ends_search}
use Rattle.statements_declarator.specs.declared.declarator_parts.ValueRecord.TheVariants.{Recorded}
use Rattle.statements_declarator.specs.Cases.{value_record}

-- whether the name of a tree with this root is kept
abbrev pub KeepsName : Header → NodeRecord → Bool → Type 0
KeepsName h n r =
    (ctx : Context) → ctx.options ≡ h.options → (initializer : Tree) → root initializer ≡ node_of n
    → r ≡ name_needs_to_be_kept ctx initializer

-- whether the search ends at a plain name with this value record, whose initializer has this root
abbrev pub Ends : Header → NameFacts → ℕ → ℕ → NodeRecord → Bool → Bool → Type 0
Ends h facts reads writes n literal_only r =
    (ctx : Context) → ctx.options ≡ h.options → (name : ℕ) → eqb name no_number ≡ false → facts_of ctx name ≡ facts
    → value_record facts ≡ Recorded reads writes → (initializer : Tree) → root initializer ≡ node_of n
    → r ≡ ends_search ctx literal_only name initializer
