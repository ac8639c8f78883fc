-- What `set` and `add` leave.
use Rattle.std.specs.Prelude.{◌≡◌, ◌≢◌, List, [], ◌∷◌, map, None, cond}
use Rattle.std.specs.List.{All, AllPairs}
use Rattle.std.specs.FinMap.{get, insert, contains_key}
use Rattle.mol_base.specs.declared.ident.Id.{Id}
use Rattle.mol_table_rules.specs.Program.{Program, Knowns, cell}
use Rattle.mol_table_rules.specs.Rules.{IsProgram}
use Rattle.mol_values_types.specs.Slots.{slot_of, slots_of}
use Rattle.mol_values_types.specs.declared.cell.Cell.{Cell}
use Rattle.mol_table_rules.specs.declared.entity.NewEntity.{NewEntity}
use Rattle.mol_values_types.specs.declared.kind.Kind.{Kind}
use Rattle.mol_values_types.specs.declared.kind.Kind.TheVariants as kinds
use Rattle.mol_values_types.specs.declared.known.Known.{Known}
use Rattle.mol_values_types.specs.declared.known.Known.TheVariants as knowns
use Rattle.mol_values_types.specs.declared.param.Param.{Param}
use Rattle.mol_values_types.specs.declared.value.Value.{Value}
use Rattle.mol_values_types.specs.declared.value.Value.TheVariants as values

-- an identity that is not known is known as this; one that is known stays as it was
abbrev pub kept_or : Knowns → Id → Known → Knowns
kept_or known id what = cond (contains_key known id) known (insert known id what)

-- the parameters that a method lists become known as its own, where they are not known
abbrev pub with_params : Knowns → Id → List Param → Knowns
with_params known method [] = known
with_params known method (param ∷ params) = with_params (kept_or known param.id (knowns.Param method)) method params

-- What is known once a cell of an identity has this value: a method with its kind, a declaration with its method, and the
-- parameters of a list.
abbrev pub known_by : Knowns → Id → Value → Knowns
known_by known id (values.Kind kind) = insert known id (knowns.Method kind)
known_by known id (values.Method method) = insert known id (knowns.Decl method)
known_by known id (values.Params params) = with_params known id params
known_by known id value = known

-- a program with this value in a cell
abbrev pub with_value : Program → Cell → Value → Program
with_value program at value = record { cells = insert program.cells at value; known = known_by program.known at.id value }

-- a program with these values for an identity, each in the slot of its form
abbrev pub with_values : Program → Id → List Value → Program
with_values program id [] = program
with_values program id (value ∷ values) = with_values (with_value program (cell id (slot_of value)) value) id values

-- Classes and fields are known as what they are; methods and declarations by their values.
abbrev pub known_as : Knowns → Id → Kind → Knowns
known_as known id kinds.Class = insert known id knowns.Class
known_as known id kinds.Field = insert known id knowns.Field
known_as known id kind = known

abbrev pub with_entity : Program → NewEntity → Program
with_entity program entity = with_values (record program { known = known_as program.known entity.id entity.kind }) entity.id entity.values

-- a program with these entities
abbrev pub with_entities : Program → List NewEntity → Program
with_entities program [] = program
with_entities program (entity ∷ entities) = with_entities (with_entity program entity) entities

-- it is no parameter, and its values are those of its kind in the order of the slots
pub record AreOfKind (entity : NewEntity) : Type 0 where
  pub entity_kind : entity.kind ≢ kinds.Param
  pub values : map slot_of entity.values ≡ slots_of entity.kind

-- entities that may be added together: their values are of their kinds, their identities are not known and differ, and the
-- rules hold afterwards
pub record AreNew (program : Program) (entities : List NewEntity) : Type 0 where
  pub kinds : All AreOfKind entities
  pub unknown : All (λ entity. get program.known entity.id ≡ None) entities
  pub differ : AllPairs (λ first second. first.id ≢ second.id) entities
  pub rules : IsProgram (with_entities program entities)
