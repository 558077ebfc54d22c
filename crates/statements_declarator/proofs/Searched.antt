-- Where no search is made: by the scope, by the kind of declaration. Assumes nothing.
use Prim.Native.Nat.{ℕ}
use native.Mathlib.Omega.{arith}
use mathlib.Core.Bool.{◌&&◌, ◌||◌}
use mathlib.Core.List.{List}
use mathlib.Core.Path.{◌≡◌, refl}
use lib.Dec.{eqb, leb}
use lib.ListN.{get_or}
use Rattle.records.specs.Flags.{bit}
use Rattle.records.specs.Facts.{no_scope}
use Rattle.records.specs.Record.{header_of}
use Rattle.records.specs.File.{scopes_of, read, declaration_kind}
use Rattle.records.specs.declared.layout.Header.{Header}
use Rattle.records.specs.declared.layout.Scope.{Scope}
use Rattle.walk_rules.specs.Context.{context_of}
use Rattle.walk_rules.specs.Unsettled.{scope_of}
use Rattle.statements_rules.specs.Declarators.{is_script_root_scope, contains_direct_eval, is_unsearched, is_using}

pub by-scope : (bs : List ℕ) (h : Header) (s : Scope) → h ≡ header_of bs → s ≡ get_or (scopes_of bs) h.current_scope no_scope
    → (bit 1 h.options && eqb h.current_scope 0 || contains_direct_eval s.flags) ≡ is_unsearched (context_of (read bs))
unfolding is_unsearched is_script_root_scope context_of read scope_of
by-scope bs h s e f = rw (f, e) refl

-- "3 using, 4 await using"
pub from-three : (k : ℕ) → leb 3 k ≡ is_using (declaration_kind k)
unfolding declaration_kind is_using
from-three k = grind arith
