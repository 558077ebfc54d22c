-- The slices that are lent. Assumes nothing.
use mathlib.Core.Path.{refl, ◌∙◌}
use Rattle.statements.specs.declared.tables.Tables.{Tables}
use Rattle.statements.specs.State.{SameSlices}

pub same_slices : {t : Tables} → SameSlices t t
same_slices = record {
  nodes = refl;
  declarators = refl;
  starts = refl;
  statements = refl;
  nodes-length = refl;
  declarators-length = refl;
  starts-length = refl;
  statements-length = refl;
}

pub slices-then : {t u v : Tables} → SameSlices t u → SameSlices u v → SameSlices t v
slices-then a b = record {
  nodes = b.nodes ∙ a.nodes;
  declarators = b.declarators ∙ a.declarators;
  starts = b.starts ∙ a.starts;
  statements = b.statements ∙ a.statements;
  nodes-length = b.nodes-length ∙ a.nodes-length;
  declarators-length = b.declarators-length ∙ a.declarators-length;
  starts-length = b.starts-length ∙ a.starts-length;
  statements-length = b.statements-length ∙ a.statements-length;
}
