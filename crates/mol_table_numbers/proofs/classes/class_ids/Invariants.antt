use Rattle.std.proofs.Common.{◌≡◌, map, take}
use Rattle.mol_table_numbers.specs.declared.classes.ClassFile.{ClassFile}
use Rattle.mol_table_numbers.proofs.classes.class_ids.Given as goal

abbrev pub invariant-loop-file : goal.invariant-loop-file
invariant-loop-file l = l.ids.items ≡ map (λ (file : ClassFile). file.class) (take l.file-index l.files)
