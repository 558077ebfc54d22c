-- The facts of a name, as they are read of a file. Assumes nothing.
use Prim.Native.Nat.{ℕ}
use mathlib.Core.List.{List}
use mathlib.Core.Path.{◌≡◌, refl, ◌∙◌}
use lib.ListN.{get_or}
use Rattle.records.specs.Record.{header_of, name_at}
use Rattle.records.specs.Records.{records_from}
use Rattle.records.specs.Script.{no_name}
use Rattle.records.specs.File.{names_of, read}
use Rattle.records.specs.declared.layout.NameFacts.{NameFacts}
use Rattle.records.specs.declared.layout.Header.{Header}
use Rattle.walk_rules.specs.Context.{context_of, facts_of}

pub facts-read : (bs : List ℕ) {h : Header} → h ≡ header_of bs → {x : NameFacts} (k : ℕ) → x ≡ get_or (records_from (name_at bs) 12 h.names 24) k no_name
    → x ≡ facts_of (context_of (read bs)) k
unfolding facts_of context_of read names_of
facts-read bs eh k e = e ∙ rw eh refl
