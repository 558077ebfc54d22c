use mathlib.Core.Path.{refl, sym, ◌∙◌}
use Rattle.records_rows.specs.Standing.{standing}
use Rattle.records_rows.proofs.Standings.{stands-leaf, stands-short, stands_plain, stands-name, no_short, no_property}
use Rattle.records_rows.proofs.tree.node_stands.Goals as goal
use Rattle.records_rows.proofs.tree.node_stands.Goals.{then-n-eq-PROPERTY+else-is_shorthand, else-n-eq-PROPERTY}

pub returns-then-children-eq0 : goal.returns-then-children-eq0
returns-then-children-eq0 c = record { result = stands-leaf c.args.n c.args.stack.now c.args.top _ c.from-children.ensures c.if-children-eq0.true }

pub returns-then-stack-top : goal.returns-then-stack-top
returns-then-stack-top c = record { result = stands-short c.args.n c.args.stack.now c.args.top _ c.from-children.ensures c.if-stack-top.true }

pub returns-then-is_shorthand : goal.returns-then-is_shorthand
returns-then-is_shorthand c = record { result = stands-name c.args.n c.args.stack.now c.args.top _ c.from-children.ensures c.if-stack-top.false c.requires.entries _ c.if-n-eq-PROPERTY.true (sym c.is_shorthand.ensures.result ∙ c.if-is_shorthand.true) c.children_stand.ensures.result c.requires.top }

pub returns : goal.returns
unfolding standing
returns c = record {
  result = stands_plain c.args.n c.args.stack.now c.args.top _ c.from-children.ensures c.if-stack-top.false c.requires.entries _ _ c.from-first.result refl c.requires.kind c.from-first.ensures
      (elim c.if-n-eq-PROPERTY.branch [ then-n-eq-PROPERTY+else-is_shorthand w ↦ no_short c.args.n.kind c.args.n.flags (sym w.is_shorthand.ensures.result ∙ w.if-is_shorthand.false) | else-n-eq-PROPERTY w ↦ no_property c.args.n.kind c.args.n.flags w.if-n-eq-PROPERTY.false ])
      c.children_stand-2.ensures.result c.requires.top;
}
