-- What the search reads of a file beside its statements: the parameter `ctx` of the Rust's functions
-- (src/peephole/minimize_statements.rs 1277-1283, src/peephole/mod.rs 194-305).
use Rattle.std.specs.Prelude.{ℕ, Bool, List, get_or}
use Rattle.records.specs.Flags.{bit}
use Rattle.records.specs.Script.{no_name}
use Rattle.records.specs.File.{File}
use Rattle.records.specs.declared.layout.NameFacts.{NameFacts}
use Rattle.records.specs.declared.layout.Scope.{Scope}
use Rattle.records.specs.declared.layout.Frame.{Frame}

pub record Context : Type 0 where
  pub options : ℕ
  pub current_scope : ℕ
  pub this_scope : ℕ
  pub names : List NameFacts
  pub scopes : List Scope
  pub frames : List Frame

unfoldable pub context_of : File → Context
context_of f = record {
  options = f.options;
  current_scope = f.current_scope;
  this_scope = f.this_scope;
  names = f.names;
  scopes = f.scopes;
  frames = f.frames;
}

-- "Options bits: 0 script, 1 keep function names, 2 keep class names, 3 literal only at statement level"
abbrev pub is_script : Context → Bool
is_script ctx = bit 1 ctx.options

abbrev pub keep_function_names : Context → Bool
keep_function_names ctx = bit 2 ctx.options

abbrev pub keep_class_names : Context → Bool
keep_class_names ctx = bit 4 ctx.options

abbrev pub non_scoped_literal_only : Context → Bool
non_scoped_literal_only ctx = bit 8 ctx.options

-- the facts of a name
unfoldable pub facts_of : Context → ℕ → NameFacts
facts_of ctx name = get_or ctx.names name no_name
