use Rattle.std.proofs.Common.{rules}
use Prim.Native.Nat.{ℕ}
use mathlib.Core.List.{List}
use mathlib.Core.Path.{refl, ap, ◌∙◌}
use native.Mathlib.Omega.{arith}
use lib.ListN.{get_or, length-set}
use Rattle.statements.proofs.Slices.{same_slices, slices-then}
use Rattle.statements.proofs.Sequence.{ordered_begins, ordered_inside, can_fold, ordered_on, ordered_ends}
use Rattle.statements.proofs.in_order.fold_statements.Goals as goal

pub loop-i-init : goal.loop-i-init
loop-i-init c = record {
  slices = same_slices;
  folded = refl;
  kept = refl;
  ordered = ordered_begins c.args.file.now.bytes.now c.args.file.now.header c.args.nodes.now c.args.declarators.now c.args.starts.now c.args.statements.now c.args.folded.now c.args.kept.now c.args.file.now.header.statements c.requires.accepted c.args.file.now.whole.0 refl;
}

pub overflow_add-from : goal.overflow_add-from
overflow_add-from c =
    let x = ordered_inside c.args.file.now.bytes.now c.args.file.now.header (omega (arith, c.from-i-end.ensures)) _ (ap (λ (l : List ℕ). get_or l 5 0) c.part_offsets-parts.ensures.result) c.loop-i.invariant.ordered in
    omega (arith, x)

pub statement_at-s-requires : goal.statement_at-s-requires
statement_at-s-requires c =
    let x = ordered_inside c.args.file.now.bytes.now c.args.file.now.header (omega (arith, c.from-i-end.ensures)) _ (ap (λ (l : List ℕ). get_or l 5 0) c.part_offsets-parts.ensures.result) c.loop-i.invariant.ordered in
    record { room = omega (arith, x) }

pub fold_statement-p-requires : goal.fold_statement-p-requires
fold_statement-p-requires c = record {
  room = (omega (arith, c.requires.room, c.loop-i.invariant.slices), omega (arith, c.requires.room, c.loop-i.invariant.slices), omega (arith, c.requires.room, c.loop-i.invariant.slices), omega (arith, c.requires.room, c.loop-i.invariant.slices), omega (arith, c.requires.room, c.loop-i.invariant.folded));
  state = can_fold c.args.file.now.bytes.now c.args.file.now.header (omega (arith, c.from-i-end.ensures)) _ (ap (λ (l : List ℕ). get_or l 5 0) c.part_offsets-parts.ensures.result) c.statement_at-s.result c.statement_at-s.ensures.result c.loop-i.invariant.ordered;
}

pub overflow_sub-last : goal.overflow_sub-last
overflow_sub-last c =
    let (some, few, on) = ordered_on c.args.file.now.bytes.now c.args.file.now.header (omega (arith, c.from-i-end.ensures)) _ (ap (λ (l : List ℕ). get_or l 5 0) c.part_offsets-parts.ensures.result) c.statement_at-s.result c.statement_at-s.ensures.result c.fold_statement-p.ensures.folds (omega (arith, c.requires.kept, c.loop-i.invariant.kept)) c.loop-i.invariant.ordered in
    omega (arith, some)

pub offset_bounds-kept-last : goal.offset_bounds-kept-last
offset_bounds-kept-last c =
    let (some, few, on) = ordered_on c.args.file.now.bytes.now c.args.file.now.header (omega (arith, c.from-i-end.ensures)) _ (ap (λ (l : List ℕ). get_or l 5 0) c.part_offsets-parts.ensures.result) c.statement_at-s.result c.statement_at-s.ensures.result c.fold_statement-p.ensures.folds (omega (arith, c.requires.kept, c.loop-i.invariant.kept)) c.loop-i.invariant.ordered in
    omega (arith, some, few, c.loop-i.invariant.kept, c.well_formed)

pub bounds-kept-last : goal.bounds-kept-last
bounds-kept-last c =
    let (some, few, on) = ordered_on c.args.file.now.bytes.now c.args.file.now.header (omega (arith, c.from-i-end.ensures)) _ (ap (λ (l : List ℕ). get_or l 5 0) c.part_offsets-parts.ensures.result) c.statement_at-s.result c.statement_at-s.ensures.result c.fold_statement-p.ensures.folds (omega (arith, c.requires.kept, c.loop-i.invariant.kept)) c.loop-i.invariant.ordered in
    omega (arith, some, few)

pub loop-i-preserved : goal.loop-i-preserved
loop-i-preserved c =
    let (some, few, on) = ordered_on c.args.file.now.bytes.now c.args.file.now.header (omega (arith, c.from-i-end.ensures)) _ (ap (λ (l : List ℕ). get_or l 5 0) c.part_offsets-parts.ensures.result) c.statement_at-s.result c.statement_at-s.ensures.result c.fold_statement-p.ensures.folds (omega (arith, c.requires.kept, c.loop-i.invariant.kept)) c.loop-i.invariant.ordered in
    record {
      slices = slices-then c.loop-i.invariant.slices c.fold_statement-p.ensures.slices;
      folded = c.fold_statement-p.auto.folded ∙ c.loop-i.invariant.folded;
      kept = length-set c.loop-i.kept _ _ ∙ c.loop-i.invariant.kept;
      ordered = on;
    }

pub returns : goal.returns
returns c =
    record { folded = ordered_ends c.args.file.now.bytes.now c.args.file.now.header (search rules) (search rules) (search rules) (omega (arith, c.from-i-end.ensures)) (omega (arith, c.requires.room, c.loop-i.invariant.slices), omega (arith, c.requires.room, c.loop-i.invariant.slices), omega (arith, c.requires.room, c.loop-i.invariant.slices), omega (arith, c.requires.room, c.loop-i.invariant.slices), omega (arith, c.requires.room)) (omega (arith, c.requires.kept, c.loop-i.invariant.kept)) (λ i. omega (arith, c.type_inv.declarators i)) (λ i. omega (arith, c.type_inv.statements i)) c.loop-i.invariant.ordered }
