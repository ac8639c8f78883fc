-- Methods that live and have no topmost declaration.
use Rattle.std.specs.Prelude.{Bool, false, ◌&&◌, not, Option, Some, is_some}
use Rattle.std.specs.FinMap.{get}
use Rattle.mol_base.specs.declared.ident.Id.{Id}
use Rattle.mol_table_rules.specs.Life.{lives}
use Rattle.mol_table_rules.specs.Program.{Program}
use Rattle.mol_table_rules.specs.Renumber.{topmost}
use Rattle.mol_values_types.specs.declared.known.Known.{Known}
use Rattle.mol_values_types.specs.declared.known.Known.TheVariants as knowns

-- where the identity is known as this
abbrev pub is_apart_as : Program → Id → Option Known → Bool
is_apart_as program id (Some (knowns.Method kind)) = lives program id && not (is_some (topmost program id))
is_apart_as program id known = false

abbrev pub is_apart : Program → Id → Bool
is_apart program id = is_apart_as program id (get program.known id)
