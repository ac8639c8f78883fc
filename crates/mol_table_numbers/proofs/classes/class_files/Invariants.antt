use Rattle.std.proofs.Common.{◌≡◌, map, take}
use Rattle.std.specs.List.{filter}
use Rattle.mol_table_numbers.specs.ClassFiles.{file_at, file_of}
use Rattle.mol_table.specs.Maps.{program_in}
use Rattle.mol_table_rules.specs.Renumber.{is_living_class}
use Rattle.mol_table_numbers.proofs.classes.class_files.Given as goal

abbrev pub invariant-loop-id : goal.invariant-loop-id
invariant-loop-id l = map file_of l.files.items ≡ map (file_at (program_in l.maps)) (filter (is_living_class (program_in l.maps)) (take l.id-index l.id-items))
