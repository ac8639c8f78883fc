use Rattle.std.proofs.Common.{take}
use Rattle.mol_resolve_classes.specs.namesakes.Groups.{AreFound}
use Rattle.mol_resolve_classes.proofs.namesakes.namesakes.groups_of.Given as goal

abbrev pub invariant-loop-declaration : goal.invariant-loop-declaration
invariant-loop-declaration l = AreFound (take l.declaration-index l.declared) l.groups
