-- How the classes of a program stand in an index.
use Rattle.std.specs.Prelude.{◌≡◌, ℕ, ◌<◌, ◌^◌, List, [], length, map}
use Rattle.jav_names.specs.Types.{full_name}
use Rattle.jav_names.specs.Views.{ViewClass}
use Rattle.mol_base.specs.declared.ident.Id.{Id}
use Rattle.jav_names.specs.id_index.Seeking.{FindsSame}
use Rattle.jav_names.specs.declared.id_index.entry.Entry.{Entry}
use Rattle.mol_resolve_rules.specs.ProgramViews.{program_view}
use Rattle.mol_table_rules.specs.Program.{Program, package_at, name_at}

-- a class has no owner
abbrev pub no_owner : Id
no_owner = record { tag = []; num = 0 }

-- a class as its cells say it
abbrev pub class_as : Program → Id → ViewClass Id
class_as program id = record { key = id; «package» = package_at program id; name = name_at program id }

-- a class, by its full name
abbrev pub class_entry : ViewClass Id → Entry
class_entry class = record { owner = no_owner; arity = 0; name = full_name class; id = class.key }

-- The index finds the first class of a full name, and there are so many classes.
pub record AreIndexed (program : Program) (by_full_name : List Entry) (count : ℕ) : Type 0 where
  pub classes : FindsSame by_full_name (map class_entry (program_view program).classes.items)
  pub counted : count ≡ length (program_view program).classes.items
  pub few : count < 2 ^ 63
