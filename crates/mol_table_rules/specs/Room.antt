-- How many values entities have, and how much values make known, at most.
use Rattle.std.specs.Prelude.{◌≡◌, ◌≢◌, ℕ, ◌+◌, List, [], ◌∷◌, length, None, IsSome}
use Rattle.std.specs.List.{All, AllByRecursion}
use Rattle.std.specs.FinMap.{get}
use Rattle.mol_base.specs.declared.ident.Id.{Id}
use Rattle.mol_table_rules.specs.Life.{entity_in}
use Rattle.mol_table_rules.specs.Program.{Knowns}
use Rattle.mol_table_rules.specs.declared.entity.NewEntity.{NewEntity}
use Rattle.mol_values_types.specs.declared.param.Param.{Param}
use Rattle.mol_values_types.specs.declared.value.Value.{Value}
use Rattle.mol_values_types.specs.declared.value.Value.TheVariants as values

-- all of these are known
abbrev pub AreKnown : Knowns → List Param → Type 0
AreKnown known params = All (λ (param : Param). IsSome (get known param.id)) params

-- what a value in a cell of this identity makes known is known already
abbrev pub NamesKnown : Knowns → Id → Value → Type 0
NamesKnown known id (values.Kind kind) = IsSome (get known id)
NamesKnown known id (values.Method method) = IsSome (get known id)
NamesKnown known id (values.Params params) = AreKnown known params
NamesKnown known id value = Unit {0}

-- how many identities a value makes known, at most
abbrev pub names_in : Value → ℕ
names_in (values.Kind kind) = 1
names_in (values.Method method) = 1
names_in (values.Params params) = length params
names_in value = 0

abbrev pub names_among : List Value → ℕ
names_among [] = 0
names_among (value ∷ values) = names_in value + names_among values

-- how many values entities have together, and how many identities they make known, at most
abbrev pub values_in : List NewEntity → ℕ
values_in [] = 0
values_in (entity ∷ entities) = length entity.values + values_in entities

abbrev pub names_of : List NewEntity → ℕ
names_of [] = 0
names_of (entity ∷ entities) = (1 + names_among entity.values) + names_of entities

-- none of these is known as an entity
abbrev pub AreFresh : Knowns → List NewEntity → Type 0
AreFresh known entities = AllByRecursion (λ (entity : NewEntity). entity_in (get known entity.id) ≡ None) entities

-- no entity has the identity of a later one
abbrev pub AreApart : List NewEntity → Type 0
AreApart [] = Unit {0}
AreApart (entity ∷ entities) = AllByRecursion (λ (other : NewEntity). entity.id ≢ other.id) entities × AreApart entities
