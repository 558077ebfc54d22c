-- The header and the six kinds of record of document 01's "File" to "Declarators and statements": where each field
-- stands, and the bytes of each.
use Rattle.std.specs.Prelude.{ℕ, ◌+◌, List, ◌∷◌, ◌++◌, get_or}
use Rattle.records.specs.Bytes.{u16_at, u32_at, u16_bytes, u32_bytes}
use Rattle.records.specs.declared.layout.Header.{Header}
use Rattle.records.specs.declared.layout.NameFacts.{NameFacts}
use Rattle.records.specs.declared.layout.Scope.{Scope}
use Rattle.records.specs.declared.layout.Frame.{Frame}
use Rattle.records.specs.declared.layout.NodeRecord.{NodeRecord}
use Rattle.records.specs.declared.layout.DeclaratorRecord.{DeclaratorRecord}
use Rattle.records.specs.declared.layout.StatementRecord.{StatementRecord}

-- Header, 24 bytes: letters `WSF`, options u8, version u16, the counts N, S, F, M, D, T, the current scope, the `this`
-- scope, a zero u16.
unfoldable pub header_of : List ℕ → Header
header_of bs = record {
  options = get_or bs 3 0;
  version = u16_at bs 4;
  names = u16_at bs 6;
  scopes = u16_at bs 8;
  frames = u16_at bs 10;
  nodes = u16_at bs 12;
  declarators = u16_at bs 14;
  statements = u16_at bs 16;
  current_scope = u16_at bs 18;
  this_scope = u16_at bs 20;
  last = u16_at bs 22;
}

unfoldable pub header_bytes : Header → List ℕ
header_bytes h =
    87 ∷ 83 ∷ 70 ∷ h.options ∷ u16_bytes h.version ++ u16_bytes h.names ++ u16_bytes h.scopes ++ u16_bytes h.frames
    ++ u16_bytes h.nodes ++ u16_bytes h.declarators ++ u16_bytes h.statements ++ u16_bytes h.current_scope
    ++ u16_bytes h.this_scope ++ u16_bytes h.last

-- Name facts, 12 bytes: flags u16, scope u16, reads u32, writes u32.
unfoldable pub name_at : List ℕ → ℕ → NameFacts
name_at bs at = record { flags = u16_at bs at; scope = u16_at bs (at + 2); reads = u32_at bs (at + 4); writes = u32_at bs (at + 8) }

unfoldable pub name_bytes : NameFacts → List ℕ
name_bytes n = u16_bytes n.flags ++ u16_bytes n.scope ++ u32_bytes n.reads ++ u32_bytes n.writes

-- Scope, 4 bytes: parent u16, flags u16.
unfoldable pub scope_at : List ℕ → ℕ → Scope
scope_at bs at = record { parent = u16_at bs at; flags = u16_at bs (at + 2) }

unfoldable pub scope_bytes : Scope → List ℕ
scope_bytes s = u16_bytes s.parent ++ u16_bytes s.flags

-- Frame, 8 bytes: scope u16, zero u16, `this` initialised at u32.
unfoldable pub frame_at : List ℕ → ℕ → Frame
frame_at bs at = record { scope = u16_at bs at; zero = u16_at bs (at + 2); initialised = u32_at bs (at + 4) }

unfoldable pub frame_bytes : Frame → List ℕ
frame_bytes f = u16_bytes f.scope ++ u16_bytes f.zero ++ u32_bytes f.initialised

-- Node, 12 bytes: kind u8, flags u8, label u16, children u16, zero u16, position u32.
unfoldable pub node_at : List ℕ → ℕ → NodeRecord
node_at bs at = record {
  kind = get_or bs at 0;
  flags = get_or bs (at + 1) 0;
  label = u16_at bs (at + 2);
  children = u16_at bs (at + 4);
  zero = u16_at bs (at + 6);
  position = u32_at bs (at + 8);
}

unfoldable pub node_bytes : NodeRecord → List ℕ
node_bytes n = n.kind ∷ n.flags ∷ u16_bytes n.label ++ u16_bytes n.children ++ u16_bytes n.zero ++ u32_bytes n.position

-- Declarator, 4 bytes: name u16 (65535 pattern), initializer present u16.
unfoldable pub declarator_at : List ℕ → ℕ → DeclaratorRecord
declarator_at bs at = record { name = u16_at bs at; present = u16_at bs (at + 2) }

unfoldable pub declarator_bytes : DeclaratorRecord → List ℕ
declarator_bytes d = u16_bytes d.name ++ u16_bytes d.present

-- Statement, 4 bytes: kind u8, zero u8, declarators u16.
unfoldable pub statement_at : List ℕ → ℕ → StatementRecord
statement_at bs at = record { kind = get_or bs at 0; zero = get_or bs (at + 1) 0; declarators = u16_at bs (at + 2) }

unfoldable pub statement_bytes : StatementRecord → List ℕ
statement_bytes s = s.kind ∷ s.zero ∷ u16_bytes s.declarators
