-- What source files add to a table: each class, field, method and declaration, with what its cells are to hold.
use Rattle.std.specs.Prelude.{◌≡◌, ◌≢◌, Bool, true, false, List, Option, Some, None, option_map, if◌then◌else◌, filter_map, Contains}
use Rattle.std.specs.List.{All, AllPairs}
use Rattle.mol_resolve_rules.specs.Expected.{known_of, value_of}
use Rattle.mol_resolve_rules.specs.Files.{Files}
use Rattle.mol_resolve_rules.specs.Numbering.{Numbered, numbered_param, in_order, id_at}
use Rattle.mol_table_rules.specs.Program.{Program, nothing}
use Rattle.mol_table_rules.specs.Writes.{with_entities}
use Rattle.mol_table_rules.specs.declared.entity.NewEntity.{NewEntity}
use Rattle.mol_values_types.specs.Slots.{kind_of_known, slots_of}
use Rattle.mol_values_types.specs.declared.known.Known.{Known}

-- A parameter becomes known with the list of its method, and is not added by itself.
abbrev pub is_added : Numbered → Bool
is_added (numbered_param key place) = false
is_added item = true

-- What is known so is added under its number, with its values in the order of the slots.
abbrev pub entity_as : Files → Numbered → Known → NewEntity
entity_as files item known = record {
  id = id_at files item;
  kind = kind_of_known known;
  values = filter_map (value_of files item) (slots_of (kind_of_known known));
}

abbrev pub entity_of : Files → Numbered → Option NewEntity
entity_of files item = if is_added item then option_map (entity_as files item) (known_of files item) else None

-- in the order of their numbers
abbrev pub plain_entities : Files → List NewEntity
plain_entities files = filter_map (entity_of files) (in_order files)

-- These are the entities of the files, each once, in any order.
pub record AreEntities (files : Files) (entities : List NewEntity) : Type 0 where
  pub each : All (λ entity. (item : Numbered) × Contains (in_order files) item × (entity_of files item ≡ Some entity)) entities
  pub whole : (item : Numbered) (entity : NewEntity) → Contains (in_order files) item → entity_of files item ≡ Some entity
      → Contains entities entity
  pub once : AllPairs (λ first second. first.id ≢ second.id) entities

-- the program that files say
abbrev pub plain_program : Files → Program
plain_program files = with_entities nothing (plain_entities files)
