-- The views of two such programs differ in the superclasses of what does not live alone.
use Rattle.std.proofs.Common.{Bool, None, Option, Some, ap, false, length, option_map, refl, subst, sym, true, true≢false, ◌∙◌, ◌≡◌}
use Rattle.std.specs.FinMap.{get, entries}
use Rattle.std.specs.List.{filter_map}
use Rattle.std.specs.Ordering.{is_eq}
use Rattle.std.specs.Prelude.{if◌then◌else◌, ◌&&◌}
use Rattle.jav_names.specs.LookUps.{has_class}
use Rattle.jav_names.specs.OnValues.{StaticType, class_value}
use Rattle.jav_names.specs.Views.{ViewClass, ViewField, ViewDeclaration}
use Rattle.mol_base.specs.Modifiers.{has as has_word}
use Rattle.mol_base.specs.Order.{id_cmp}
use Rattle.mol_base.specs.declared.ident.Id.{Id}
use Rattle.mol_resolve_rules.specs.ProgramViews.{living_class, living_field, living_declaration, field_of, declaration_of, superclass_at, superclass_in, program_view, kind_in, field_type_in, result_in, words_in}
use Rattle.mol_table_rules.specs.Life.{lives_as}
use Rattle.mol_table_rules.specs.Program.{Program, value_at, living_at, name_at, name_in, owner_at, owner_in, params_in, package_at}
use Rattle.mol_table_rules.specs.Renumber.{is_class}
use Rattle.mol_values_types.specs.declared.cell.Slot.{Slot}
use Rattle.mol_values_types.specs.declared.cell.Slot.TheVariants as slots
use Rattle.mol_values_types.specs.declared.known.Known.{Known}
use Rattle.mol_values_types.specs.declared.known.Known.TheVariants as knowns
use Rattle.mol_resolve_rules.proofs.Stands.{from_some, in_some}
use Rattle.mol_table_rules.proofs.Living.{id_tied, same_id-own}
use Rattle.mol_table_rules.proofs.TidyRules.{and-both}
use Rattle.mol_faults_laws.proofs.sameness_lemmas.Alike.{cells-same, class-lives, declaration-lives, field-lives, known-same, living-same, method-lives, name-same, owner-same, package-same}
use Rattle.mol_faults_laws.proofs.sameness_lemmas.Entities.{entry-known, entry-stands, made-alike}
use Rattle.mol_faults_laws.proofs.sameness_lemmas.Lists.{any-found, any-stands}
use Rattle.mol_faults_laws.proofs.sameness_lemmas.Twins.{IsGoodClass, IsGoodValue, Twins}
use Rattle.mol_faults_laws.proofs.sameness_lemmas.Views.{with_superclass, StandsValue}

module _ (P Q : Program) (twins : Twins P Q) where
  abbrev class_made : Program → Id → Bool → Option (ViewClass Id)
  class_made program id b = if b then Some (record { key = id; «package» = package_at program id; name = name_at program id }) else None

  pub entity-class : (id : Id) (known : Known) → get P.known id ≡ Some known → living_class P (id, known) ≡ living_class Q (id, known)
  entity-class id knowns.Class is = by (living_at P id) refl ∙ ap (class_made Q id) (living-same P Q twins.alike id) where
    by : (b : Bool) → living_at P id ≡ b → class_made P id (living_at P id) ≡ class_made Q id (living_at P id)
    by true living =
        let lives = ap (lives_as P id) is ∙ living in
        let packages = package-same P Q twins.alike id lives in
        let names = name-same P Q twins.alike id lives in
        let made : ◌≡◌ {A = ViewClass Id} (record { key = id; «package» = package_at P id; name = name_at P id })
        (record { key = id; «package» = package_at Q id; name = name_at Q id }) =
        λ i. record { key = id; «package» = packages i; name = names i } in
        ap (λ (c : ViewClass Id). if living_at P id then Some c else None) made
    by false dead = ap (class_made P id) dead ∙ sym (ap (class_made Q id) dead)
  entity-class id (knowns.Method kind) is = refl
  entity-class id (knowns.Decl method) is = refl
  entity-class id knowns.Field is = refl
  entity-class id (knowns.Param method) is = refl

  abbrev field_made : Program → Id → Bool → Option (ViewField Id Id)
  field_made program id b = if b then option_map (field_of program id) (owner_at program id) else None

  pub entity-field : (id : Id) (known : Known) → get P.known id ≡ Some known → living_field P (id, known) ≡ living_field Q (id, known)
  entity-field id knowns.Field is = by (living_at P id) refl ∙ ap (field_made Q id) (living-same P Q twins.alike id) where
    by : (b : Bool) → living_at P id ≡ b → field_made P id (living_at P id) ≡ field_made Q id (living_at P id)
    by true living =
        let cell = λ (slot : Slot). cells-same P Q twins.alike id slot (field-lives P Q twins.alike id is living) in
        let made : (o : Option Id) → option_map (field_of P id) o ≡ option_map (field_of Q id) o = same-made cell in
        let owners = ap owner_in (cell slots.Owner) in
        λ i. if living_at P id then (made (owner_at P id) ∙ ap (option_map (field_of Q id)) owners) i else None
      where
        same-made : ((slot : Slot) → value_at P id slot ≡ value_at Q id slot) → (o : Option Id)
            → option_map (field_of P id) o ≡ option_map (field_of Q id) o
        same-made cell None = refl
        same-made cell (Some owner) = λ i. Some (record {
          key = id;
          owner = owner;
          name = name_in (cell slots.Name i);
          is_static = has_word (words_in (cell slots.Words i)) "static";
          type = field_type_in (cell slots.Value i);
        })
    by false dead = ap (field_made P id) dead ∙ sym (ap (field_made Q id) dead)
  entity-field id knowns.Class is = refl
  entity-field id (knowns.Method kind) is = refl
  entity-field id (knowns.Decl method) is = refl
  entity-field id (knowns.Param method) is = refl

  abbrev declaration_made : Program → Id → Id → Bool → Option (ViewDeclaration Id Id)
  declaration_made program id method b = if b then option_map (declaration_of program id method) (owner_at program id) else None

  pub entity-declaration : (id : Id) (known : Known) → get P.known id ≡ Some known
      → living_declaration P (id, known) ≡ living_declaration Q (id, known)
  entity-declaration id (knowns.Decl method) is = by (living_at P id) refl
      ∙ ap (declaration_made Q id method) (living-same P Q twins.alike id) where
        by : (b : Bool) → living_at P id ≡ b → declaration_made P id method (living_at P id) ≡ declaration_made Q id method (living_at P id)
        by true living =
            let cell = λ (slot : Slot). cells-same P Q twins.alike method slot (method-lives P Q twins.alike id method is living) in
            let made : (o : Option Id) → option_map (declaration_of P id method) o ≡ option_map (declaration_of Q id method) o =
            same-made cell in
            let owners = owner-same P Q twins.alike id (declaration-lives P Q twins.alike id method is living) in
            λ i. if living_at P id then (made (owner_at P id) ∙ ap (option_map (declaration_of Q id method)) owners) i else None
          where
            kinds : kind_in (get P.known method) ≡ kind_in (get Q.known method)
            kinds = known-same P Q twins.alike kind_in (λ own. refl) method

            same-made : ((slot : Slot) → value_at P method slot ≡ value_at Q method slot) → (o : Option Id)
                → option_map (declaration_of P id method) o ≡ option_map (declaration_of Q id method) o
            same-made cell None = refl
            same-made cell (Some owner) = λ i. Some (record {
              key = id;
              owner = owner;
              name = name_in (cell slots.Name i);
              arity = length (params_in (cell slots.Params i));
              kind = kinds i;
              result = result_in (cell slots.Result i);
            })
        by false dead = ap (declaration_made P id method) dead ∙ sym (ap (declaration_made Q id method) dead)
  entity-declaration id knowns.Class is = refl
  entity-declaration id (knowns.Method kind) is = refl
  entity-declaration id knowns.Field is = refl
  entity-declaration id (knowns.Param method) is = refl

  -- it differs in the superclasses of what does not live alone
  pub view-same : program_view Q ≡ with_superclass (program_view P) (superclass_at Q)
  view-same =
      let classes = made-alike P Q twins.alike.knows (living_class P) (living_class Q) (λ id own. refl) (λ id own. refl)
      (λ id known is also entity. entity-class id known is) in
      let fields = made-alike P Q twins.alike.knows (living_field P) (living_field Q) (λ id own. refl) (λ id own. refl)
      (λ id known is also entity. entity-field id known is) in
      let declarations = made-alike P Q twins.alike.knows (living_declaration P) (living_declaration Q) (λ id own. refl) (λ id own. refl)
      (λ id known is also entity. entity-declaration id known is) in
      λ i. record {
        classes = record { cmp = id_cmp; items = sym classes i };
        member_cmp = id_cmp;
        fields = sym fields i;
        declarations = sym declarations i;
        superclass = superclass_at Q;
      }

-- the classes of the view are those that live
module _ (P : Program) where
  pub class-has : (class : Id) → IsGoodClass P class → has_class (program_view P).classes class ≡ true
  class-has class good =
      let parts = and-both (is_class (get P.known class)) (living_at P class) good in
      any-stands (λ (c : ViewClass Id). is_eq (id_cmp c.key class)) (filter_map (living_class P) (entries P.known))
      (record { key = class; «package» = package_at P class; name = name_at P class })
      (in_some (living_class P) (entries P.known) (class, knowns.Class)
      (record { key = class; «package» = package_at P class; name = name_at P class })
      (entry-stands P class knowns.Class (class-is parts.0))
      (ap {A = Bool} {B = Option (ViewClass Id)} (λ b. if b then Some
      (record { key = class; «package» = package_at P class; name = name_at P class }) else None) parts.1))
      (same_id-own class)
    where
      class-is : is_class (get P.known class) ≡ true → get P.known class ≡ Some knowns.Class
      class-is is = by (get P.known class) is where
        by : (o : Option Known) → is_class o ≡ true → o ≡ Some knowns.Class
        by None is = absurd (true≢false (sym is))
        by (Some knowns.Class) is = refl
        by (Some (knowns.Method kind)) is = absurd (true≢false (sym is))
        by (Some (knowns.Decl method)) is = absurd (true≢false (sym is))
        by (Some knowns.Field) is = absurd (true≢false (sym is))
        by (Some (knowns.Param method)) is = absurd (true≢false (sym is))

  class-made : (entry : Id × Known) (class : ViewClass Id) → get P.known entry.0 ≡ Some entry.1 → living_class P entry ≡ Some class
      → IsGoodClass P class.key
  class-made (id, knowns.Class) class known is = by (living_at P id) refl is where
    by : (b : Bool) → living_at P id ≡ b
        → (if b then Some (record { key = id; «package» = package_at P id; name = name_at P id }) else None) ≡ Some class
        → IsGoodClass P class.key
    by true living is =
        let same : ◌≡◌ {A = ViewClass Id} (record { key = id; «package» = package_at P id; name = name_at P id }) class = cc in
        let all : is_class (get P.known id) ≡ true = ap is_class known in
        subst (λ (c : ViewClass Id). IsGoodClass P c.key) same (λ i. all i && living i)
    by false dead is = absurd cc
  class-made (id, knowns.Method kind) class known is = absurd cc
  class-made (id, knowns.Decl method) class known is = absurd cc
  class-made (id, knowns.Field) class known is = absurd cc
  class-made (id, knowns.Param method) class known is = absurd cc

  pub has-good : (class : Id) → has_class (program_view P).classes class ≡ true → IsGoodClass P class
  has-good class has =
      let found = any-found (λ (c : ViewClass Id). is_eq (id_cmp c.key class)) (filter_map (living_class P) (entries P.known)) has in
      let made = from_some (living_class P) (entries P.known) found.0 found.1 in
      subst (IsGoodClass P) (id_tied found.0.key class found.2) (class-made made.0 found.0 (entry-known P made.0 made.1) made.2)

module _ (P Q : Program) (twins : Twins P Q) where
  pub superclass-same : (class : Id) → has_class (program_view P).classes class ≡ true → superclass_at P class ≡ superclass_at Q class
  superclass-same class has =
      ap superclass_in (cells-same P Q twins.alike class slots.Super (class-lives P Q twins.alike class (has-good P class has)))

  pub value-stands : (type : StaticType Id) → IsGoodValue P type → StandsValue (program_view P) type
  value-stands (class_value class) good = class-has P class good
  value-stands type good = tt {0}
