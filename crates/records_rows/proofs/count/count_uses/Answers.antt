use mathlib.Core.Path.{sym, ap, ◌∙◌}
use Prim.Native.Nat.{◌+◌}
use native.Mathlib.Omega.{arith}
use Rattle.records.specs.Record.{node_at}
use Rattle.records.specs.Tree.{node_of}
use Rattle.records.specs.Count.{target_name}
use Rattle.records.specs.declared.layout.NodeRecord.{NodeRecord}
use Rattle.records_rows.proofs.Naming.{read_name, read-leaf, read_plain, read-compound, target-named, target_none, target-unnamed, none-used}
use Rattle.records_rows.proofs.count.count_uses.Goals as goal

pub returns-then-n-eq-NAME : goal.returns-then-n-eq-NAME
returns-then-n-eq-NAME c = record {
  reads = rw (read_name c.args.n (target_name (node_of (node_at c.args.file.now (c.args.at + 12)))) c.if-n-eq-NAME.true) c.add_use.ensures.uses;
  targets = none-used _ c.args.targets.now (target_none c.args.n (λ e. omega (arith, e, c.if-n-eq-NAME.true))) c.requires.places.1;
}

pub returns-then-n-eq-TARGET_NAME : goal.returns-then-n-eq-TARGET_NAME
returns-then-n-eq-TARGET_NAME c = record {
  reads = none-used _ c.args.reads.now (read-leaf c.args.n (target_name (node_of (node_at c.args.file.now (c.args.at + 12)))) c.if-n-eq-NAME.false c.if-n-eq0.true) c.requires.places.0;
  targets = rw (target-named c.args.n c.if-n-eq-TARGET_NAME.true) c.add_use-then-n-eq-TARGET_NAME.ensures.uses;
}

pub returns-then-n-eq0 : goal.returns-then-n-eq0
returns-then-n-eq0 c = record {
  reads = none-used _ c.args.reads.now (read-leaf c.args.n (target_name (node_of (node_at c.args.file.now (c.args.at + 12)))) c.if-n-eq-NAME.false c.if-n-eq0.true) c.requires.places.0;
  targets = none-used _ c.args.targets.now (target_none c.args.n c.if-n-eq-TARGET_NAME.false) c.requires.places.1;
}

pub returns-in-Some : goal.returns-in-Some
returns-in-Some c = let u = c.requires.names (omega (arith, c.if-n-eq0.false)) in let f = sym c.is_compound.ensures.result ∙ c.if-is_compound.true in
    record {
      reads = rw (read-compound c.args.n (target_name (node_of (node_at c.args.file.now (c.args.at + 12)))) c.if-n-eq0.false (c.requires.compound f) f ∙ ap (λ (m : NodeRecord). target_name (node_of m)) (sym c.node_at.ensures.result) ∙ sym c.in-Some.ensures.result) c.add_use-in-Some.ensures.uses;
      targets = none-used _ c.args.targets.now (target-unnamed c.args.n u) c.requires.places.1;
    }

pub returns-in_default : goal.returns-in_default
returns-in_default c = let u = c.requires.names (omega (arith, c.if-n-eq0.false)) in let f = sym c.is_compound.ensures.result ∙ c.if-is_compound.true in
    record {
      reads = none-used _ c.args.reads.now (read-compound c.args.n (target_name (node_of (node_at c.args.file.now (c.args.at + 12)))) c.if-n-eq0.false (c.requires.compound f) f ∙ ap (λ (m : NodeRecord). target_name (node_of m)) (sym c.node_at.ensures.result) ∙ c.in_default.ensures.result) c.requires.places.0;
      targets = none-used _ c.args.targets.now (target-unnamed c.args.n u) c.requires.places.1;
    }

pub returns-else-is_compound : goal.returns-else-is_compound
returns-else-is_compound c = let u = c.requires.names (omega (arith, c.if-n-eq0.false)) in
    record {
      reads = none-used _ c.args.reads.now (read_plain c.args.n (target_name (node_of (node_at c.args.file.now (c.args.at + 12)))) u (sym c.is_compound.ensures.result ∙ c.if-is_compound.false)) c.requires.places.0;
      targets = none-used _ c.args.targets.now (target-unnamed c.args.n u) c.requires.places.1;
    }
