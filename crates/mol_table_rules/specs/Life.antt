-- What lives.
use Rattle.std.specs.Prelude.{Bool, false, ◌&&◌, Option, None, Some, is_some}
use Rattle.std.specs.List.{list_any}
use Rattle.std.specs.FinMap.{get, entries}
use Rattle.mol_base.specs.declared.ident.Id.{Id}
use Rattle.mol_table_rules.specs.Program.{Program, same_id, living_at, params_at}
use Rattle.mol_values_types.specs.declared.known.Known.{Known}
use Rattle.mol_values_types.specs.declared.known.Known.TheVariants as knowns

-- whether something is known as a declaration of this method
abbrev pub is_decl_of : Id → Known → Bool
is_decl_of method (knowns.Decl own) = same_id method own
is_decl_of method other = false

-- whether this is a living declaration of the method
abbrev pub is_living_decl : Program → Id → Id × Known → Bool
is_living_decl program method entry = is_decl_of method entry.1 && living_at program entry.0

-- whether a method lives: whether any declaration of it does
abbrev pub lives_method : Program → Id → Bool
lives_method program method = list_any (is_living_decl program method) (entries program.known)

-- whether a parameter is in the present list of a method
abbrev pub lists : Program → Id → Id → Bool
lists program method id = list_any (λ param. same_id id param.id) (params_at program method)

abbrev pub lives_as : Program → Id → Option Known → Bool
lives_as program id None = false
lives_as program id (Some (knowns.Method kind)) = lives_method program id
lives_as program id (Some (knowns.Param method)) = lives_method program method && lists program method id
lives_as program id (Some other) = living_at program id

-- A class, declaration or field lives where its cell `live` is yes, a method where one of its declarations lives, and a
-- parameter where it is in the list of a living method.
abbrev pub lives : Program → Id → Bool
lives program id = lives_as program id (get program.known id)

-- what is known of an entity; a parameter is none
abbrev pub entity_in : Option Known → Option Known
entity_in None = None
entity_in (Some (knowns.Param method)) = None
entity_in (Some known) = Some known

-- whether this is an entity, and lives: a parameter is none
abbrev pub is_living_entity : Program → Id → Bool
is_living_entity program id = is_some (entity_in (get program.known id)) && lives program id
