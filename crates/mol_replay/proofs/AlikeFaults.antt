-- Programs that hold alike what faults are said over have the same faults.
use Rattle.std.proofs.Common.{◌≡◌, ◌∙◌, ◌⊎◌, inl, inr, sym, ap, subst, ℕ, Bool, List, [], ◌∷◌, map, length, Option, None, Some, Contains}
use Rattle.std.specs.FinMap.{get}
use Rattle.jav_names.specs.DottedNames.{Name, Names, joined}
use Rattle.jav_names.specs.Members.{is_object_method}
use Rattle.mol_base.specs.declared.ident.Id.{Id}
use Rattle.mol_faults.specs.First.{IsFirst}
use Rattle.mol_resolve_rules.specs.ResolveFaults.{BeginsWith}
use Rattle.mol_spell_rules.specs.Clean.{Clean}
use Rattle.mol_spell_rules.specs.FaultList.{Fault, IsFault, by_absence, by_address, by_local, by_outside_name, by_override, by_package, by_place, by_reading}
use Rattle.mol_spell_rules.specs.LocalClashes.{IsRepeated, clashes_in}
use Rattle.mol_spell_rules.specs.NameFaults.{AreAlike, ClashesInBody, FalseOverride, IsLivingDeclaration, IsProperAncestor, LocalClash, Misread, MisreadIn, OutsideName, PackageIsClass, param_names}
use Rattle.mol_spell_rules.specs.Writers.{full_of, program_class}
use Rattle.mol_spell_rules.specs.references.References.{Target}
use Rattle.mol_table_rules.specs.Ancestors.{is_on_way}
use Rattle.mol_table_rules.specs.Faults.{Apart, Missing, SameAddress, address, is_there, is_topmost}
use Rattle.mol_table_rules.specs.Life.{is_living_entity, lives, lives_method}
use Rattle.mol_table_rules.specs.Mentions.{Mention, Role}
use Rattle.mol_table_rules.specs.Program.{Program, living_at, name_at, owner_at, package_at, params_at, value_at}
use Rattle.mol_table_rules.specs.Renumber.{is_living_class}
use Rattle.mol_table_rules.specs.Tidy.{references, tidy}
use Rattle.mol_values_types.specs.declared.cell.Cell.{Cell}
use Rattle.mol_values_types.specs.declared.cell.Slot.TheVariants as slots
use Rattle.mol_values_types.specs.declared.iblock.IBody.{IBody}
use Rattle.mol_values_types.specs.declared.kind.MethodKind.{MethodKind}
use Rattle.mol_values_types.specs.declared.param.Param.{Param}
use Rattle.mol_values_types.specs.declared.value.Value.{Value}
use Rattle.mol_values_types.specs.declared.value.Value.TheVariants as values

-- What faults are said over is held alike; bodies may differ in what declares nothing, and values in what tidying makes one.
pub record Alike (one two : Program) : Type 0 where
  pub known : (id : Id) → get one.known id ≡ get two.known id
  pub living : (id : Id) → living_at one id ≡ living_at two id
  pub alive : (id : Id) → lives one id ≡ lives two id
  pub method_alive : (id : Id) → lives_method one id ≡ lives_method two id
  pub entity_alive : (id : Id) → is_living_entity one id ≡ is_living_entity two id
  pub class_alive : (id : Id) → is_living_class one id ≡ is_living_class two id
  pub packages : (id : Id) → package_at one id ≡ package_at two id
  pub names : (id : Id) → name_at one id ≡ name_at two id
  pub owners : (id : Id) → owner_at one id ≡ owner_at two id
  pub params : (id : Id) → params_at one id ≡ params_at two id
  pub addresses : (id : Id) → address one id ≡ address two id
  pub ways : (class above : Id) → is_on_way one class above ≡ is_on_way two class above
  pub topmost : (method decl : Id) → is_topmost one method decl ≡ is_topmost two method decl
  pub there : (owner : Id) (role : Role) (id : Id) → is_there one owner role id ≡ is_there two owner role id
  pub fixed : (method : Id) (is : Bool) → value_at one method slots.Fixed ≡ Some (values.Fixed is)
      → value_at two method slots.Fixed ≡ Some (values.Fixed is)
  pub refers : (at : Cell) (value : Value) → value_at one at.id at.slot ≡ Some value
      → (other : Value) × (value_at two at.id at.slot ≡ Some other) × (references one value ≡ references two other)
  pub bodies : (decl : Id) (body : IBody) → value_at one decl slots.Body ≡ Some (values.Body (Some body))
      → (other : IBody) × (value_at two decl slots.Body ≡ Some (values.Body (Some other)))
      × ((names : Names) → clashes_in names body.block ≡ clashes_in names other.block)
  pub tidied : tidy one ≡ tidy two

module _ (one two : Program) (alike : Alike one two) where
  -- # Each kind

  address-kept : (first second : Id) → SameAddress one first second → SameAddress two first second
  address-kept first second is = record {
    ordered = is.ordered;
    first_lives = sym (alike.alive first) ∙ is.first_lives;
    second_lives = sym (alike.alive second) ∙ is.second_lives;
    shared = is.shared;
    first_has = sym (alike.addresses first) ∙ is.first_has;
    second_has = sym (alike.addresses second) ∙ is.second_has;
  }

  declaration-kept : (declaration method owner : Id) (kind : MethodKind) → IsLivingDeclaration one declaration method owner kind
      → IsLivingDeclaration two declaration method owner kind
  declaration-kept declaration method owner kind is = record {
    declares = sym (alike.known declaration) ∙ is.declares;
    declaration_lives = sym (alike.living declaration) ∙ is.declaration_lives;
    is_kind = sym (alike.known method) ∙ is.is_kind;
    owned = sym (alike.owners declaration) ∙ is.owned;
  }

  ancestor-kept : (class above : Id) → IsProperAncestor one class above → IsProperAncestor two class above
  ancestor-kept class above is = record { on_way = sym (alike.ways class above) ∙ is.on_way; apart = is.apart }

  methods-kept : (first second : Id) → AreAlike one first second → AreAlike two first second
  methods-kept first second are = record {
    apart = are.apart;
    named = sym (alike.names first) ∙ are.named ∙ alike.names second;
    as_many = ap length (sym (alike.params first)) ∙ are.as_many ∙ ap length (alike.params second);
  }

  related-kept : (first second : Id) → IsProperAncestor one first second ⊎ IsProperAncestor one second first
      → IsProperAncestor two first second ⊎ IsProperAncestor two second first
  related-kept first second (inl is) = inl (ancestor-kept first second is)
  related-kept first second (inr is) = inr (ancestor-kept second first is)

  override-kept : (first second : Id) → FalseOverride one first second → FalseOverride two first second
  override-kept first second is = record {
    ordered = is.ordered;
    first_method = is.first_method;
    second_method = is.second_method;
    first_owner = is.first_owner;
    second_owner = is.second_owner;
    first_kind = is.first_kind;
    second_kind = is.second_kind;
    first_lives = declaration-kept first is.first_method is.first_owner is.first_kind is.first_lives;
    second_lives = declaration-kept second is.second_method is.second_owner is.second_kind is.second_lives;
    first_is_method = is.first_is_method;
    second_is_method = is.second_is_method;
    alike = methods-kept is.first_method is.second_method is.alike;
    related = related-kept is.first_owner is.second_owner is.related;
  }

  apart-kept : (method : Id) → Apart one method → Apart two method
  apart-kept method is = record {
    method_lives = sym (alike.method_alive method) ∙ is.method_lives;
    none_topmost = λ decl. sym (alike.topmost method decl) ∙ is.none_topmost decl;
  }

  outside-kept : (method : Id) → OutsideName one method → OutsideName two method
  outside-kept method is = record {
    kind = is.kind;
    is_kind = sym (alike.known method) ∙ is.is_kind;
    is_method = is.is_method;
    method_lives = sym (alike.method_alive method) ∙ is.method_lives;
    fixed = is.fixed;
    holds = alike.fixed method is.fixed is.holds;
    differs = λ same. is.differs (same ∙ sym (λ i. is_object_method (alike.names method i) (length (alike.params method i))));
  }

  missing-kept : (at : Cell) (target : Id) → Missing one at target → Missing two at target
  missing-kept at target is =
      let other = alike.refers at is.value is.holds in
      let mention : Mention = record { role = is.role; id = target } in
      record {
        owner_lives = sym (alike.entity_alive at.id) ∙ is.owner_lives;
        value = other.0;
        holds = other.1;
        role = is.role;
        refers = subst (λ (mentioned : List Mention). Contains mentioned mention) other.2 is.refers;
        gone = sym (alike.there at.id is.role target) ∙ is.gone;
      }

  misread-kept : (at : Cell) (number : ℕ) (target : Target) → Misread one at number target → Misread two at number target
  misread-kept at number target is = record {
    class = is.class;
    misread = subst (λ (tidied : Program). MisreadIn tidied is.class at number target) alike.tidied is.misread;
  }

  params-named : (method : Id) → param_names one method ≡ param_names two method
  params-named method = ap (map (λ (param : Param). param.name)) (alike.params method)

  clash-kept : (declaration method : Id) (name : Name)
      → IsRepeated (param_names one method) name ⊎ ClashesInBody one declaration method name
      → IsRepeated (param_names two method) name ⊎ ClashesInBody two declaration method name
  clash-kept declaration method name (inl repeated) =
      inl (subst (λ (names : Names). IsRepeated names name) (params-named method) repeated)
  clash-kept declaration method name (inr clashes) =
      let other = alike.bodies declaration clashes.body clashes.holds in
      let same = other.2 (param_names one method) ∙ ap (λ (names : Names). clashes_in names other.0.block) (params-named method) in
      inr (record { body = other.0; holds = other.1; clashes = subst (λ (names : Names). Contains names name) same clashes.clashes })

  local-kept : (at : Cell) (name : Name) → LocalClash one at name → LocalClash two at name
  local-kept at name is = record {
    declaration = is.declaration;
    method = is.method;
    is = is.is;
    declares = sym (alike.known is.declaration) ∙ is.declares;
    declaration_lives = sym (alike.living is.declaration) ∙ is.declaration_lives;
    clashes = clash-kept is.declaration is.method name is.clashes;
  }

  full-named : (class : Id) → full_of one (program_class class) ≡ full_of two (program_class class)
  full-named class = λ i. joined (alike.packages class i) (alike.names class i ∷ [])

  inside-kept : (class inside : Id)
      → (package_at one inside ≡ full_of one (program_class class)) ⊎ BeginsWith (package_at one inside) (full_of one (program_class class))
      → (package_at two inside ≡ full_of two (program_class class)) ⊎ BeginsWith (package_at two inside) (full_of two (program_class class))
  inside-kept class inside (inl is) = inl (sym (alike.packages inside) ∙ is ∙ full-named class)
  inside-kept class inside (inr begins) =
      inr (subst (λ (text : Name). BeginsWith text (full_of two (program_class class))) (alike.packages inside)
      (subst (λ (full : Name). BeginsWith (package_at one inside) full) (full-named class) begins))

  package-kept : (class inside : Id) → PackageIsClass one class inside → PackageIsClass two class inside
  package-kept class inside is = record {
    class_lives = sym (alike.class_alive class) ∙ is.class_lives;
    inside_lives = sym (alike.class_alive inside) ∙ is.inside_lives;
    is = inside-kept class inside is.is;
  }

  -- # All kinds

  pub fault-kept : (fault : Fault) → IsFault one fault → IsFault two fault
  fault-kept fault (by_address is) = by_address (address-kept _ _ is)
  fault-kept fault (by_override is) = by_override (override-kept _ _ is)
  fault-kept fault (by_place is) = by_place (apart-kept _ is)
  fault-kept fault (by_outside_name is) = by_outside_name (outside-kept _ is)
  fault-kept fault (by_absence is) = by_absence (missing-kept _ _ is)
  fault-kept fault (by_reading is) = by_reading (misread-kept _ _ _ is)
  fault-kept fault (by_local is) = by_local (local-kept _ _ is)
  fault-kept fault (by_package is) = by_package (package-kept _ _ is)

module _ (one two : Program) (forth : Alike one two) (back : Alike two one) where
  clean-kept : Clean one → Clean two
  clean-kept clean = record {
    addresses = λ first second is. clean.addresses first second (address-kept two one back first second is);
    overrides = λ first second is. clean.overrides first second (override-kept two one back first second is);
    together = λ method is. clean.together method (apart-kept two one back method is);
    names = λ method is. clean.names method (outside-kept two one back method is);
    present = λ at target is. clean.present at target (missing-kept two one back at target is);
    read = λ at number target is. clean.read at number target (misread-kept two one back at number target is);
    locals = λ at name is. clean.locals at name (local-kept two one back at name is);
    packages = λ class inside is. clean.packages class inside (package-kept two one back class inside is);
  }

  -- the first fault of the one is that of the other, or both are clean
  pub first-kept : (first : Option Fault) → IsFirst one first → IsFirst two first
  first-kept None clean = clean-kept clean
  first-kept (Some fault) is = record {
    is = fault-kept one two forth fault is.is;
    before_all = λ later has. is.before_all later (fault-kept two one back later has);
  }
