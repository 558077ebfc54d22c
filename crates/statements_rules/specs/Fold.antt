-- The fold of a file, and of its bytes.
use Rattle.std.specs.Prelude.{ℕ, cond, List, [], map, length, eqb}
use Rattle.records.specs.File.{Statement, File, read, print}
use Rattle.records.specs.Refusal.{refusal}
use Rattle.walk_rules.specs.Context.{context_of}
use Rattle.statements_rules.specs.Trace.{Fold, Traced}
use Rattle.statements_rules.specs.Statements.{Kept, statement_of, fold_statements}

-- "Facts, scopes, frames and options are copied to the result."
unfoldable pub with_statements : File → List Statement → File
with_statements f ss = record {
  options = f.options;
  current_scope = f.current_scope;
  this_scope = f.this_scope;
  names = f.names;
  scopes = f.scopes;
  frames = f.frames;
  statements = ss;
}

-- the file that is left, the folds in order, the numbers that its statements had, and the looks
pub record Folded : Type 0 where
  pub file : File
  pub trace : List Fold
  pub kept : List ℕ
  pub looks : ℕ

unfoldable pub folded_file : File → Traced (List Kept) → Folded
folded_file f w = record {
  file = with_statements f (map statement_of w.result);
  trace = w.trace;
  kept = map (λ k. k.number) w.result;
  looks = w.looks;
}

unfoldable pub fold_file : File → Folded
fold_file f = folded_file f (fold_statements (context_of f) 0 [] f.statements)

-- What is returned: the number of the table's row, 0 if none holds (document 01 leaves that number free); the result's
-- length, the declarators folded; and the result.
pub record Returned : Type 0 where
  pub number : ℕ
  pub result_length : ℕ
  pub folds : ℕ
  pub result : List ℕ

-- "A refusal returns length 0, folds 0."
unfoldable pub refused : ℕ → Returned
refused number = record { number = number; result_length = 0; folds = 0; result = [] }

-- "Otherwise: result length, declarators folded"
unfoldable pub accepted : Folded → Returned
accepted w = record { number = 0; result_length = length (print w.file); folds = length w.trace; result = print w.file }

-- the fold of some bytes, with so much room for the result
unfoldable pub fold_bytes : List ℕ → ℕ → Returned
fold_bytes bs room = cond (eqb (refusal bs room) 0) (accepted (fold_file (read bs))) (refused (refusal bs room))
