-- What going up from a class finds is what the rules find.
use Rattle.std.proofs.Common.{◌≡◌, ℕ, zero, suc, length, Option, Some, None, option_map, refl, ◌∙◌, ap, bytes_eq}
use Rattle.jav_scope.proofs.Climbing.{climb-way}
use Rattle.jav_scope.proofs.FoundMembers.{object-or}
use Rattle.jav_scope.specs.Answers.{answered, or_of_object}
use Rattle.jav_scope.specs.Climbs.{above, found_first, look_from, climb}
use Rattle.jav_names.specs.DottedNames.{Name}
use Rattle.jav_names.specs.LookUps.{way, ends_outside, nearest, field_from, is_method, method_from}
use Rattle.jav_names.specs.Members.{is_object_method}
use Rattle.jav_names.specs.Views.{ViewField, ViewDeclaration, View, AreOrdered, Found, found, outside, not_found}
use Rattle.mol_base.specs.declared.ident.Id.{Id}
use Rattle.mol_scope_members.specs.declaring.Indexed.{declared_field, declared_method}
use Rattle.mol_resolve_rules.proofs.ProgramsViewed.{programs_viewed}
use Rattle.mol_resolve_rules.specs.ProgramViews.{program_view}
use Rattle.mol_table_rules.specs.Program.{Program}

module _ {C M X R : Type 0} (view : View C M) (key : X → R) (here : C → Option X) where
  -- what is found in each class is found in the nearest, whatever is told of it
  pub climb-mapped : (steps : ℕ) (class : C)
      → answered (λ (r : R). r) (climb steps view (λ c. option_map key (here c)) class) ≡ answered key (climb steps view here class)
  climb-mapped zero class = refl
  climb-mapped (suc steps) class = by (here class) (climb-mapped steps) where
    by_above : (up : Found C) → ((next : C) → answered (λ (r : R). r) (climb steps view (λ c. option_map key (here c)) next)
        ≡ answered key (climb steps view here next))
        → answered (λ (r : R). r) (look_from up (climb steps view (λ c. option_map key (here c))))
        ≡ answered key (look_from up (climb steps view here))
    by_above (found next) more = more next
    by_above outside more = refl
    by_above not_found more = refl

    by : (o : Option X) → ((next : C) → answered (λ (r : R). r) (climb steps view (λ c. option_map key (here c)) next)
        ≡ answered key (climb steps view here next))
        → answered (λ (r : R). r)
        (found_first (option_map key o) (look_from (above view class) (climb steps view (λ c. option_map key (here c)))))
        ≡ answered key (found_first o (look_from (above view class) (climb steps view here)))
    by (Some x) more = refl
    by None more = by_above (above view class) more

module _ (program : Program) (class : Id) (name : Name) where
  abbrev view : View Id Id
  view = program_view program

  abbrev steps : ℕ
  steps = suc (length view.classes.items)

  classes-ordered : AreOrdered view.classes
  classes-ordered = (programs_viewed.ordered program).classes

  pub field-found : answered (λ (id : Id). id)
      (climb steps view (λ c. option_map (λ field. field.key) (declared_field view c name)) class)
      ≡ answered (λ field. field.key) (field_from view class name)
  field-found =
      climb-mapped view (λ (field : ViewField Id Id). field.key) (λ c. declared_field view c name) steps class
      ∙ ap (answered (λ (field : ViewField Id Id). field.key))
      (climb-way view classes-ordered (λ (field : ViewField Id Id). field.owner) (λ field. bytes_eq field.name name) view.fields class)

  pub method-found : (arity : ℕ) → or_of_object (is_object_method name arity) (answered (λ (id : Id). id)
      (climb steps view (λ c. option_map (λ declared. declared.key) (declared_method view c name arity)) class))
      ≡ answered (λ declared. declared.key) (method_from view class name arity)
  method-found arity =
      ap (or_of_object (is_object_method name arity)) (
      climb-mapped view (λ (declared : ViewDeclaration Id Id). declared.key) (λ c. declared_method view c name arity) steps class
      ∙ ap (answered (λ (declared : ViewDeclaration Id Id). declared.key))
      (climb-way view classes-ordered (λ (declared : ViewDeclaration Id Id). declared.owner) (is_method name arity) view.declarations class)
      )
      ∙ object-or (λ (declared : ViewDeclaration Id Id). declared.key)
      (nearest view (λ declared. declared.owner) (is_method name arity) view.declarations (way view class))
      (ends_outside view class) (is_object_method name arity)
