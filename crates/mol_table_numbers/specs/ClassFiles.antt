-- Classes by the paths of their files, as the code has them.
use Rattle.std.specs.Prelude.{ℕ, List}
use Rattle.std.specs.Ordering.{nat_cmp, on, then_cmp}
use Rattle.std.specs.Cmp.Lexicographic.{slice_cmp}
use Rattle.std.specs.declared.cmp.Ordering.{Ordering}
use Rattle.mol_base.specs.Order.{id_cmp}
use Rattle.mol_base.specs.declared.ident.Id.{Id}
use Rattle.mol_table_rules.specs.Program.{Program}
use Rattle.mol_table_rules.specs.Renumber.{path_at}
use Rattle.mol_table_numbers.specs.declared.classes.ClassFile.{ClassFile}

-- a path and a class
pub record FileKey : Type 0 where
  pub path : List ℕ
  pub class : Id

abbrev pub key_cmp : FileKey → FileKey → Ordering
key_cmp = then_cmp (on (λ file. file.path) (slice_cmp nat_cmp)) (on (λ file. file.class) id_cmp)

abbrev pub file_of : ClassFile → FileKey
file_of file = record { path = file.path.items; class = file.class }

abbrev pub file_at : Program → Id → FileKey
file_at program class = record { path = path_at program class; class = class }
