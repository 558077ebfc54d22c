use native.Mathlib.Omega.{arith}
use mathlib.Core.Bool.{Bool, ◌&&◌, not}
use lib.Dec.{eqb}
use mathlib.Core.Path.{sym, ap, ◌∙◌, subst}
use borrow.Author.Tests.{eq-eqb}
use Rattle.records.specs.File.{read}
use Rattle.records.specs.Place.{is_expression}
use Rattle.walk_rules.specs.Context.{context_of}
use Rattle.walk_arms.specs.Arms.{Reorders}
use Rattle.walk.proofs.Leaves.{leaf-moved, leaf-settled, leaf-constant}
use Rattle.std.proofs.Common.{ap, not}
use Rattle.walk.proofs.small.passes_leaf.Goals as goal

pub returns-then-can_reorder : goal.returns-then-can_reorder
returns-then-can_reorder c = record { result = λ h. leaf-moved (context_of (read c.args.file.now.bytes.now)) c.args.replacement c.args.n c.if-n-ne0.false (sym c.is_specific_id.ensures.result ∙ c.if-is_specific_id.false) c.args.acts c.requires.effect (subst (λ b. Reorders c.args.replacement c.args.acts b) c.if-can_reorder.true c.can_reorder.ensures.result) (ap (λ (b : Bool). b && not (eqb c.args.n.kind 20)) (sym (c.is_expression.ensures.result ∙ ap is_expression c.from.ensures)) ∙ h) }

pub returns-then-n-eq-NAME : goal.returns-then-n-eq-NAME
returns-then-n-eq-NAME c = record { result = λ h. leaf-settled (context_of (read c.args.file.now.bytes.now)) c.args.replacement c.args.n c.if-n-ne0.false (sym c.is_specific_id.ensures.result ∙ c.if-is_specific_id.false) (eq-eqb c.args.n.kind 4 c.if-n-eq-NAME.true) (ap not (sym c.identifier_read_blocks_reorder.ensures.result) ∙ h) }

pub returns-in-1 : goal.returns-in-1
returns-in-1 c = record { result = λ h. leaf-constant (context_of (read c.args.file.now.bytes.now)) c.args.replacement c.args.n c.if-n-ne0.false (sym c.is_specific_id.ensures.result ∙ c.if-is_specific_id.false) (grind (arith)) }
