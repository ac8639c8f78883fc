use Rattle.std.proofs.Common.{◌≡◌, ◌-◌}
use Rattle.mol_resolve_rules.specs.ProgramViews.{seen}
use Rattle.mol_scope.specs.types.Items.{item_at}
use Rattle.mol_scope.proofs.types.items.item_at.Given as goal

abbrev pub invariant-loop-dimension : goal.invariant-loop-dimension
invariant-loop-dimension l = item_at l.fn.dimensions (seen l.fn.ty) ≡ item_at (l.dimensions - l._dimension) (seen l.at)
