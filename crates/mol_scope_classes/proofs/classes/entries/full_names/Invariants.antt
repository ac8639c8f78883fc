use Rattle.std.proofs.Common.{◌≡◌, map, filter_map, take}
use Rattle.mol_resolve_rules.specs.ProgramReaders.{class_at}
use Rattle.mol_scope_classes.specs.classes.ClassEntries.{class_entry}
use Rattle.mol_scope_classes.proofs.classes.entries.full_names.Given as goal

abbrev pub invariant-loop-id : goal.invariant-loop-id
invariant-loop-id l = l.entries.items ≡ map class_entry (filter_map (class_at l.table) (take l.id-index l.id-items))
