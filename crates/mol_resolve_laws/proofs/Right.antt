-- Where trees are read as a program wants them: what their names are found to be passes a test of mentions.
use Rattle.std.proofs.Common.{◌≡◌, ◌≢◌, Bool, true, List, ◌++◌, Contains, refl, ◌∙◌}
use Rattle.std.proofs.lemmas.Bool.{and_from}
use Rattle.std.specs.List.{list_all}
use Rattle.std.proofs.lemmas.List.Folds.{list_all-append}
use Rattle.mol_base.specs.declared.ident.Id.{Id}
use Rattle.jav_names.specs.Ancestors.{HasClass}
use Rattle.jav_names.specs.DottedNames.{Name}
use Rattle.jav_names.specs.Types.{OwnStands}
use Rattle.jav_names.specs.Views.{ViewField, static_method, constructor, ViewDeclaration, IsOrdered}
use Rattle.mol_resolve_rules.specs.Readers.{Reader}
use Rattle.mol_table_rules.specs.Mentions.{Role, Mention, a_class, a_field, a_called_method, a_static_method, a_constructor, a_param, named}
use Rattle.mol_values_types.specs.TokenForms.{is_dotted}

abbrev pub Passes : (Mention → Bool) → List Mention → Type 0
Passes test mentions = list_all test mentions ≡ true

abbrev pub Takes : (Mention → Bool) → Role → Id → Type 0
Takes test role id = test (record { role = role; id = id }) ≡ true

pub record ReadsRightly {C M : Type 0} (test : Mention → Bool) (reader : Reader C M) : Type 0 where
  pub ordered : IsOrdered reader.view
  pub own : OwnStands reader.view.classes reader.header
  pub imports : (import : Name) → Contains reader.header.imports import → is_dotted import ≡ true
  pub classes : (class : C) → HasClass reader.view.classes class → Takes test a_class (reader.ids.class_id class)
  pub fields : (field : ViewField C M) → Contains reader.view.fields field → Takes test a_field (reader.ids.member_id field.key)
  pub methods : (declared : ViewDeclaration C M) → Contains reader.view.declarations declared → declared.kind ≢ constructor
      → Takes test a_called_method (reader.ids.method_id declared)
  pub static_methods : (declared : ViewDeclaration C M) → Contains reader.view.declarations declared → declared.kind ≡ static_method
      → Takes test a_static_method (reader.ids.method_id declared)
  pub constructors : (declared : ViewDeclaration C M) → Contains reader.view.declarations declared → declared.kind ≡ constructor
      → Takes test a_constructor (reader.ids.method_id declared)
  pub params : (id : Id) → Takes test a_param id

module _ (test : Mention → Bool) where
  pub passes-both : (xs ys : List Mention) → Passes test xs → Passes test ys → Passes test (xs ++ ys)
  passes-both xs ys first second = list_all-append test xs ys ∙ and_from _ _ first second

  pub passes-named : (role : Role) (id : Id) → Takes test role id → Passes test (named role id)
  passes-named role id takes = and_from _ true takes refl
