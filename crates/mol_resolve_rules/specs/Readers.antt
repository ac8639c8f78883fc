-- Where trees are read: the classes and members that there are, what their identities are, and the place of the tree among them.
use Rattle.std.specs.Prelude.{Bool, List, map}
use Rattle.mol_base.specs.declared.ident.Id.{Id}
use Rattle.jav_names.specs.DottedNames.{Name, Names}
use Rattle.jav_names.specs.Types.{Header}
use Rattle.jav_names.specs.Variables.{Place}
use Rattle.jav_names.specs.Views.{ViewType, ViewDeclaration, View}
use Rattle.mol_resolve_rules.specs.Locals.{Locals, names_in_scope}

-- The identities of classes and members by their keys, and those of the method of a declaration and of its parameters, in order.
pub record Ids (C M : Type 0) : Type 0 where
  pub class_id : C → Id
  pub member_id : M → Id
  pub method_id : ViewDeclaration C M → Id
  pub param_ids : ViewDeclaration C M → List Id

pub record Parameter (C : Type 0) : Type 0 where
  pub name : Name
  pub type : ViewType C
  pub id : Id

-- A place where the parameters of a method or constructor are in scope; a first value of a field has none. `super(..)` is read in a
-- constructor alone.
pub record Reader (C M : Type 0) : Type 0 where
  pub view : View C M
  pub ids : Ids C M
  pub header : Header C
  pub class : C
  pub params : List (Parameter C)
  pub in_constructor : Bool

abbrev pub param_names : {C M : Type 0} → Reader C M → Names
param_names {C} reader = map (λ (param : Parameter C). param.name) reader.params

abbrev pub place_of : {C M : Type 0} → Reader C M → Locals C → Place C
place_of reader locals = record {
  header = reader.header;
  class = reader.class;
  locals = names_in_scope locals;
  params = param_names reader;
}
