-- What is found of the members of a program stands in it, static or not as its cells say.
use Rattle.std.proofs.Common.{◌≡◌, ◌⊎◌, inl, inr, ℕ, Bool, true, false, cond, List, [], ◌∷◌, Option, Some, None, option_map, Contains, refl, sym, ap, subst}
use Rattle.std.specs.FinMap.{get, entries}
use Rattle.std.specs.List.{AllByRecursion}
use Rattle.jav_names.proofs.FoundNames.{names_stand}
use Rattle.jav_names.proofs.Lists.{stands_where, stands_nowhere}
use Rattle.jav_names.proofs.NamesAnswered.{names_answered}
use Rattle.jav_names.specs.DottedNames.{Name}
use Rattle.jav_names.specs.LookUps.{constructor_from, field_from, method_from, super_method}
use Rattle.jav_names.specs.Members.{default_constructor, ReadsConstructor, ReadsField, ReadsMethod, ReadsSuperMethod}
use Rattle.jav_names.specs.Views.{IsOrdered, View, ViewDeclaration, ViewField, found}
use Rattle.mol_scope.specs.asked.Places.{IsFoundIn}
use Rattle.mol_base.specs.Modifiers.{has}
use Rattle.mol_base.specs.Order.{id_cmp-total, id_cmp-IsAntisymmetric}
use Rattle.mol_base.specs.declared.ident.Id.{Id}
use Rattle.mol_resolve_rules.proofs.ProgramsViewed.{programs_viewed}
use Rattle.mol_resolve_rules.proofs.Stands.{from_some}
use Rattle.mol_resolve_rules.specs.ProgramViews.{declaration_of, field_of, kind_in, living_declaration, living_field, method_at, method_in, program_view, words_in}
use Rattle.mol_table_rules.proofs.Counts.{each_found}
use Rattle.mol_table_rules.specs.Program.{Program, living_at, owner_at, value_at}
use Rattle.mol_values_types.specs.declared.cell.Slot.TheVariants as slots
use Rattle.mol_values_types.specs.declared.known.Known.{Known}
use Rattle.mol_values_types.specs.declared.known.Known.TheVariants as knowns

of-all : {X : Type 0} (P : X → Type 0) (xs : List X) → AllByRecursion P xs → (x : X) → Contains xs x → P x
of-all P [] all x stands = absurd (stands_nowhere x stands)
of-all P (y ∷ xs) all x stands = by (stands_where y x xs stands) (of-all P xs all.1 x) where
  by : (y ≡ x) ⊎ Contains xs x → (Contains xs x → P x) → P x
  by (inl same) more = subst P same all.0
  by (inr later) more = more later

module _ (program : Program) where
  abbrev view : View Id Id
  view = program_view program

  ordered : IsOrdered view
  ordered = programs_viewed.ordered program

  entry-known : (entry : Id × Known) → Contains (entries program.known) entry → get program.known entry.0 ≡ Some entry.1
  entry-known entry stands = of-all (λ (e : Id × Known). get program.known e.0 ≡ Some e.1) (entries program.known)
      (each_found id_cmp-total id_cmp-IsAntisymmetric program.known) entry stands

  -- ---- whether they are static

  abbrev pub is_static_field : Id → Bool
  is_static_field field = has (words_in (value_at program field slots.Words)) "static"

  field-made : (entry : Id × Known) (field : ViewField Id Id) → living_field program entry ≡ Some field
      → field.is_static ≡ is_static_field field.key
  field-made (id, knowns.Field) field is = by (living_at program id) (owner_at program id) is where
    by : (lives : Bool) (owner : Option Id) → cond lives (option_map (field_of program id) owner) None ≡ Some field
        → field.is_static ≡ is_static_field field.key
    by true (Some owner) is =
        let same : field_of program id owner ≡ field = cc in
        subst (λ (f : ViewField Id Id). f.is_static ≡ is_static_field f.key) same refl
    by true None is = absurd cc
    by false owner is = absurd cc
  field-made (id, knowns.Class) field is = absurd cc
  field-made (id, knowns.Method kind) field is = absurd cc
  field-made (id, knowns.Decl method) field is = absurd cc
  field-made (id, knowns.Param method) field is = absurd cc

  pub field-static : (field : ViewField Id Id) → Contains view.fields field → field.is_static ≡ is_static_field field.key
  field-static field stands =
      let made = from_some (living_field program) (entries program.known) field stands in field-made made.0 field made.2

  declaration-made : (entry : Id × Known) (declared : ViewDeclaration Id Id) → get program.known entry.0 ≡ Some entry.1
      → living_declaration program entry ≡ Some declared → declared.kind ≡ kind_in (get program.known (method_at program declared.key))
  declaration-made (id, knowns.Decl method) declared known is = by (living_at program id) (owner_at program id) is where
    by : (lives : Bool) (owner : Option Id) → cond lives (option_map (declaration_of program id method) owner) None ≡ Some declared
        → declared.kind ≡ kind_in (get program.known (method_at program declared.key))
    by true (Some owner) is =
        let same : declaration_of program id method owner ≡ declared = cc in
        subst (λ (d : ViewDeclaration Id Id). d.kind ≡ kind_in (get program.known (method_at program d.key))) same
        (ap (λ m. kind_in (get program.known m)) (sym (ap (method_in id) known)))
    by true None is = absurd cc
    by false owner is = absurd cc
  declaration-made (id, knowns.Class) declared known is = absurd cc
  declaration-made (id, knowns.Method kind) declared known is = absurd cc
  declaration-made (id, knowns.Field) declared known is = absurd cc
  declaration-made (id, knowns.Param method) declared known is = absurd cc

  pub declaration-kind : (declared : ViewDeclaration Id Id) → Contains view.declarations declared
      → declared.kind ≡ kind_in (get program.known (method_at program declared.key))
  declaration-kind declared stands =
      let made = from_some (living_declaration program) (entries program.known) declared stands in
      declaration-made made.0 declared (entry-known made.0 made.1) made.2

  -- ---- that they stand in the program

  module _ (class : Id) where
    pub field-stands : (name : Name) (field : ViewField Id Id) → field_from view class name ≡ found field → Contains view.fields field
    field-stands name field is = ((names_stand Id Id).fields view class name field
        (subst (ReadsField view class name) is ((names_answered Id Id).fields view class name ordered).holds)).stands

    pub method-stands : (name : Name) (arity : ℕ) → IsFoundIn program (method_from view class name arity)
    method-stands name arity declared is = ((names_stand Id Id).methods view class name arity declared
        (subst (ReadsMethod view class name arity) is ((names_answered Id Id).methods view class name arity ordered).holds)).stands

    pub super_method-stands : (name : Name) (arity : ℕ) → IsFoundIn program (super_method view class name arity)
    super_method-stands name arity declared is = ((names_stand Id Id).super_methods view class name arity declared
        (subst (ReadsSuperMethod view class name arity) is
        ((names_answered Id Id).super_methods view class name arity ordered).holds)).2.stands

    own : (arity : ℕ) (of_class : Id) → ReadsConstructor view class arity (found (default_constructor of_class)) → of_class ≡ class
    own arity of_class (ReadsConstructor.by_default default) = refl

    -- a default constructor is that of the class itself
    pub default-own : (arity : ℕ) (of_class : Id) → constructor_from view class arity ≡ found (default_constructor of_class)
        → of_class ≡ class
    default-own arity of_class is = own arity of_class
        (subst (ReadsConstructor view class arity) is ((names_answered Id Id).constructors view class arity ordered).holds)
