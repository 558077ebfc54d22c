use mathlib.Core.Path.{◌≡◌, refl, sym, ap, subst, ◌∙◌}
use mathlib.Core.List.{List}
use mathlib.Core.Bool.{false}
use Prim.Native.Nat.{ℕ}
use native.Mathlib.Omega.{arith}
use lib.ListN.{get_or, length-set}
use Rattle.records_refusal.specs.Scanning.{good_first}
use Rattle.records_refusal.proofs.Scans.{scanned_none, scanned_more, reads-few, targets-few, ends_bad, breaks, breaks-at, kind-low, parent_unnamed, compound-kind, found, behind, ends, ends-at}
use Rattle.records_refusal.proofs.scan.scan_trees.Goals as goal

pub loop-left-init : goal.loop-left-init
loop-left-init c = record { scan = scanned_none; stacked = refl; counted = refl; aimed = refl }

pub returns-then-not-node_is_good : goal.returns-then-not-node_is_good
returns-then-not-node_is_good c = record {
  pass = subst (λ (from : ℕ). good_first c.args.file.now.bytes.now c.args.file.now.header.names from c.args.count ≡ false) (ap (λ (parts : List ℕ). get_or parts 3 0) c.part_offsets-parts.ensures.result)
      (ends_bad c.loop-left.invariant.scan _ _ (omega (arith, c.loop-left-test.true)) c.node_at-n.ensures.result (sym c.node_is_good.ensures.result ∙ c.if-not-node_is_good.true));
}

pub node_stands-requires-clause-kind : goal.node_stands-requires-clause-kind
node_stands-requires-clause-kind c = kind-low c.loop-left.invariant.scan _ _ (omega (arith, c.loop-left-test.true)) c.node_at-n.ensures.result (sym c.node_is_good.ensures.result ∙ c.if-not-node_is_good.false)

pub returns-then-not-node_stands : goal.returns-then-not-node_stands
returns-then-not-node_stands c = record {
  pass = breaks-at (ap (λ (parts : List ℕ). get_or parts 3 0) c.part_offsets-parts.ensures.result)
      (breaks c.loop-left.invariant.scan _ _ (omega (arith, c.loop-left-test.true)) c.node_at-n.ensures.result (sym c.node_is_good.ensures.result ∙ c.if-not-node_is_good.false) (sym c.node_stands.ensures.result ∙ c.if-not-node_stands.true) c.requires.reads c.requires.targets);
}

pub node_entry-entry-requires : goal.node_entry-entry-requires
node_entry-entry-requires c = record { children = found c.loop-left.invariant.scan _ _ (omega (arith, c.loop-left-test.true)) c.node_at-n.ensures.result (sym c.node_is_good.ensures.result ∙ c.if-not-node_is_good.false) (sym c.node_stands.ensures.result ∙ c.if-not-node_stands.false) }

pub bounds-stack-top : goal.bounds-stack-top
bounds-stack-top c = omega (arith, found c.loop-left.invariant.scan _ _ (omega (arith, c.loop-left-test.true)) c.node_at-n.ensures.result (sym c.node_is_good.ensures.result ∙ c.if-not-node_is_good.false) (sym c.node_stands.ensures.result ∙ c.if-not-node_stands.false), c.loop-left.invariant.scan.grown.room, c.loop-left.invariant.stacked)

pub count_uses-requires-clause-names : goal.count_uses-requires-clause-names
count_uses-requires-clause-names c = parent_unnamed c.loop-left.invariant.scan _ _ (omega (arith, c.loop-left-test.true)) c.node_at-n.ensures.result (sym c.node_is_good.ensures.result ∙ c.if-not-node_is_good.false)

pub count_uses-requires-clause-compound : goal.count_uses-requires-clause-compound
count_uses-requires-clause-compound c = compound-kind c.loop-left.invariant.scan _ _ (omega (arith, c.loop-left-test.true)) c.node_at-n.ensures.result (sym c.node_is_good.ensures.result ∙ c.if-not-node_is_good.false)

pub count_uses-requires-clause-next : goal.count_uses-requires-clause-next
count_uses-requires-clause-next c s = omega (arith, behind c.loop-left.invariant.scan _ _ (omega (arith, c.loop-left-test.true)) c.node_at-n.ensures.result (sym c.node_is_good.ensures.result ∙ c.if-not-node_is_good.false) (sym c.node_stands.ensures.result ∙ c.if-not-node_stands.false) s, ap (λ (parts : List ℕ). get_or parts 3 0) c.part_offsets-parts.ensures.result)

pub count_uses-requires-clause-reads : goal.count_uses-requires-clause-reads
count_uses-requires-clause-reads c k = omega (arith, c.loop-left-test.true, reads-few c.loop-left.invariant.scan c.requires.reads k)

pub count_uses-requires-clause-targets : goal.count_uses-requires-clause-targets
count_uses-requires-clause-targets c k = omega (arith, c.loop-left-test.true, targets-few c.loop-left.invariant.scan c.requires.targets k)

pub loop-left-preserved : goal.loop-left-preserved
loop-left-preserved c = record {
  scan = scanned_more c.loop-left.invariant.scan _ _ (omega (arith, c.loop-left-test.true)) c.node_at-n.ensures.result (sym c.node_is_good.ensures.result ∙ c.if-not-node_is_good.false) (sym c.node_stands.ensures.result ∙ c.if-not-node_stands.false) _ _ _ _
      (omega (arith, c.loop-left.invariant.stacked)) c.node_entry-entry.ensures.result (omega (arith, c.loop-left.invariant.scan.grown.room, c.loop-left.invariant.stacked)) (omega arith) (omega arith) c.count_uses.ensures.reads c.count_uses.ensures.targets;
  stacked = simp length-set c.loop-left.invariant.stacked;
  counted = omega (arith, c.loop-left.invariant.counted);
  aimed = omega (arith, c.loop-left.invariant.aimed);
}

pub returns : goal.returns
returns c = record { pass = ends-at (ap (λ (parts : List ℕ). get_or parts 3 0) c.part_offsets-parts.ensures.result) (ends c.loop-left.invariant.scan (omega (arith, c.loop-left-test.false)) (omega (arith, c.loop-left.invariant.scan.grown.inside, c.loop-left.invariant.stacked))) }
