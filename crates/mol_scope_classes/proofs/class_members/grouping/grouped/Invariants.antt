use Rattle.std.proofs.Common.{take}
use Rattle.mol_scope_classes.proofs.class_members_lemmas.Grouped.{AreSoFar}
use Rattle.mol_scope_classes.proofs.class_members.grouping.grouped.Given as goal

abbrev pub invariant-loop-id : goal.invariant-loop-id
invariant-loop-id l = AreSoFar l.table (take l.id-index l.id-items) l.groups.entries
