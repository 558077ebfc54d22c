-- The facts of a name in a file's records, and a scope. Assumes nothing.
use mathlib.Core.Path.{◌≡◌, sym, ap, ◌∙◌}
use mathlib.Core.Bool.{Bool}
use mathlib.Core.List.{List}
use Prim.Native.Nat.{ℕ, ◌+◌, ◌*◌, ◌≤◌, ◌<◌}
use native.Mathlib.Omega.{arith}
use lib.ListN.{length, get_or, get_or-eq_default}
use Rattle.records.specs.Record.{header_of, name_at, scope_at}
use Rattle.records.specs.Records.{records_from}
use Rattle.records.specs.File.{scopes_of, scopes_start}
use Rattle.records.specs.Facts.{no_scope}
use Rattle.records.specs.Script.{flags_of, no_name, good_declarator, good_declarator_of}
use Rattle.records.specs.Node.{good_node, good_node_of}
use Rattle.records.specs.declared.layout.Header.{Header}
use Rattle.records.specs.declared.layout.NameFacts.{NameFacts}
use Rattle.records.specs.declared.layout.Scope.{Scope}
use Rattle.records.specs.declared.layout.DeclaratorRecord.{DeclaratorRecord}
use Rattle.records.specs.declared.layout.NodeRecord.{NodeRecord}
use Rattle.records.proofs.Series.{record_at, records-length}

module _ (bs : List ℕ) (names k : ℕ) where
  -- a name below N has the facts of its record
  pub name-known : (at : ℕ) (x : NameFacts) → k < names → at ≡ 24 + 12 * k → x ≡ name_at bs at → x ≡ get_or (records_from (name_at bs) 12 names 24) k no_name
  name-known at x h e ex = ex ∙ ap (name_at bs) e ∙ sym (record_at (name_at bs) 12 names k 24 no_name h)

  -- any other has those of no name
  pub name-none : names ≤ k → no_name ≡ get_or (records_from (name_at bs) 12 names 24) k no_name
  name-none h = sym (get_or-eq_default (records_from (name_at bs) 12 names 24) no_name (omega (arith, records-length (name_at bs) 12 names 24)))

module _ (bs : List ℕ) (h : Header) (eh : h ≡ header_of bs) where
  pub scopes-length : length (scopes_of bs) ≡ h.scopes
  unfolding scopes_of
  scopes-length = records-length (scope_at bs) 4 (header_of bs).scopes (scopes_start (header_of bs)) ∙ ap (λ (x : Header). x.scopes) (sym eh)

  -- a scope of the file, and any other
  pub scope-known : (k at : ℕ) (x : Scope) → k < h.scopes → at ≡ scopes_start h + 4 * k → x ≡ scope_at bs at → x ≡ get_or (scopes_of bs) k no_scope
  unfolding scopes_of
  scope-known k at x hk ea ex = ex ∙ rw (ea, eh) (sym (record_at (scope_at bs) 4 (header_of bs).scopes k (scopes_start (header_of bs)) _ (rw eh at hk)))

  pub scope-none : (k : ℕ) → h.scopes ≤ k → no_scope ≡ get_or (scopes_of bs) k no_scope
  scope-none k hk = sym (get_or-eq_default (scopes_of bs) _ (omega (arith, scopes-length)))

-- a record that is judged by the number of names and what is known of its name
module _ (bs : List ℕ) (names : ℕ) (r : Bool) where
  pub declarator-judged : {facts : NameFacts} (d : DeclaratorRecord) → facts ≡ get_or (records_from (name_at bs) 12 names 24) d.name no_name
      → r ≡ good_declarator_of names facts.flags d → r ≡ good_declarator (records_from (name_at bs) 12 names 24) d
  unfolding good_declarator flags_of
  declarator-judged d e er = er ∙ rw (records-length (name_at bs) 12 names 24, e)

  pub node-judged : {flags : ℕ} (n : NodeRecord) → flags ≡ flags_of (records_from (name_at bs) 12 names 24) n.label → r ≡ good_node_of names flags n
      → r ≡ good_node (records_from (name_at bs) 12 names 24) n
  unfolding good_node
  node-judged n e er = er ∙ rw (records-length (name_at bs) 12 names 24, e)
