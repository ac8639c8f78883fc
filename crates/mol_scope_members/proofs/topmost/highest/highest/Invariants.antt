use Rattle.std.proofs.Common.{take}
use Rattle.mol_scope_members.specs.topmost.Highest.{AreHighest}
use Rattle.mol_scope_members.proofs.topmost.highest.highest.Given as goal

abbrev pub invariant-loop-id : goal.invariant-loop-id
invariant-loop-id l = AreHighest l.table (take l.id-index l.ids) l.tops.entries
