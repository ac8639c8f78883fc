-- What the rules on names find in source files stands there.
use Rattle.std.proofs.Common.{◌≡◌, ℕ, List, None, Some, Contains, refl, subst, sym, ap, ◌∙◌}
use Rattle.jav_names.specs.DottedNames.{Name}
use Rattle.jav_names.specs.LookUps.{constructor_from, field_from, method_from}
use Rattle.jav_names.specs.Members.{Constructor, ReadsConstructor, ReadsField, ReadsMethod, declared_constructor, default_constructor}
use Rattle.jav_names.specs.UnitViews.{MemberKey}
use Rattle.jav_names.specs.Views.{Found, IsOrdered, View, ViewDeclaration, ViewField, found, not_found, outside}
use Rattle.jav_names.proofs.FoundNames.{names_stand}
use Rattle.jav_names.proofs.NamesAnswered.{names_answered}
use Rattle.jav_names.proofs.UnitsViewed.{units_viewed}
use Rattle.jav_scope.specs.Answers.{answered, constructor_ref, declaration_ref, field_ref}
use Rattle.jav_scope.specs.Entries.{units_of, view_in}
use Rattle.jav_scope.specs.declared.found.Found.TheVariants as answer
use Rattle.jav_scope.specs.declared.found.MemberRef.{MemberRef}
use Rattle.jav_scope.specs.declared.source.SourceUnit.{SourceUnit}
use Rattle.mol_base.specs.declared.ident.Id.{Id}
use Rattle.mol_resolve_members.specs.found.Found.{Answers, IsConstructor, IsMethod}
use Rattle.mol_resolve_members.specs.declared.found.found_member.FoundConstructor.TheVariants as constructor
use Rattle.mol_resolve_members.specs.declared.found.found_member.FoundMethod.{FoundMethod}
use Rattle.mol_resolve_members.specs.places.Listings.{HasMember}
use Rattle.mol_resolve_members.specs.sources.Sources.{files_of}
use Rattle.mol_resolve_rules.specs.Numbering.{ids_of}
use Rattle.mol_resolve_members.proofs.found_lemmas.MemberRows.{declared-there, field-there}

abbrev Declaration : Type 0
Declaration = ViewDeclaration ℕ MemberKey

module _ (sources : List SourceUnit) (class : ℕ) where
  abbrev view : View ℕ MemberKey
  view = view_in sources

  ordered : IsOrdered view
  ordered = units_viewed.ordered (units_of sources)

  pub field-stands : (name : Name) (field : ViewField ℕ MemberKey) → field_from view class name ≡ found field → Contains view.fields field
  field-stands name field is = ((names_stand ℕ MemberKey).fields view class name field
      (subst (ReadsField view class name) is ((names_answered ℕ MemberKey).fields view class name ordered).holds)).stands

  -- so where one is found there is such a member
  pub field-member : (name : Name) (at : MemberRef) → answer.Found at ≡ answered field_ref (field_from view class name)
      → HasMember sources at
  field-member name at = by (field_from view class name) refl where
    by : (read : Found (ViewField ℕ MemberKey)) → field_from view class name ≡ read → answer.Found at ≡ answered field_ref read
        → HasMember sources at
    by (found field) is found_it =
        field-there sources at field (field-stands name field is) (let same : at ≡ field_ref field = cc in same)
    by outside is found_it = absurd cc
    by not_found is found_it = absurd cc

  module _ (name : Name) (arity : ℕ) (declared : Declaration) (is : method_from view class name arity ≡ found declared) where
    reads : ReadsMethod view class name arity (found declared)
    reads = subst (ReadsMethod view class name arity) is ((names_answered ℕ MemberKey).methods view class name arity ordered).holds

    pub method-stands : Contains view.declarations declared
    method-stands = ((names_stand ℕ MemberKey).methods view class name arity declared reads).stands

    pub method-takes : declared.arity ≡ arity
    method-takes = ((names_stand ℕ MemberKey).methods view class name arity declared reads).is_method.takes

  pub method-member : (name : Name) (arity : ℕ) (at : MemberRef)
      → answer.Found at ≡ answered declaration_ref (method_from view class name arity) → HasMember sources at
  method-member name arity at = by (method_from view class name arity) refl where
    by : (read : Found Declaration) → method_from view class name arity ≡ read → answer.Found at ≡ answered declaration_ref read
        → HasMember sources at
    by (found declared) is found_it = declared-there sources at declared (method-stands name arity declared is)
        (let same : at ≡ declaration_ref declared = cc in same)
    by outside is found_it = absurd cc
    by not_found is found_it = absurd cc

  -- a constructor is a declaration that takes so many arguments, or the default one of the class
  abbrev pub IsMade : ℕ → Constructor ℕ MemberKey → Type 0
  IsMade arity (declared_constructor declared) = Contains view.declarations declared × (declared.arity ≡ arity)
  IsMade arity (default_constructor of_class) = of_class ≡ class

  made : (arity : ℕ) (constructor : Constructor ℕ MemberKey) → ReadsConstructor view class arity (found constructor)
      → IsMade arity constructor
  made arity constructor (ReadsConstructor.declared least) = (least.here, least.holds.takes)
  made arity constructor (ReadsConstructor.by_default default) = refl

  pub constructor-made : (arity : ℕ) (constructor : Constructor ℕ MemberKey) → constructor_from view class arity ≡ found constructor
      → IsMade arity constructor
  constructor-made arity constructor is = made arity constructor
      (subst (ReadsConstructor view class arity) is ((names_answered ℕ MemberKey).constructors view class arity ordered).holds)

  pub constructor-member : (arity : ℕ) (at : MemberRef)
      → answer.Found (Some at) ≡ answered constructor_ref (constructor_from view class arity) → HasMember sources at
  constructor-member arity at = by (constructor_from view class arity) refl where
    by : (read : Found (Constructor ℕ MemberKey)) → constructor_from view class arity ≡ read
        → answer.Found (Some at) ≡ answered constructor_ref read → HasMember sources at
    by (found (declared_constructor declared)) is found_it =
        declared-there sources at declared (constructor-made arity (declared_constructor declared) is).0
        (let same : at ≡ declaration_ref declared = cc in same)
    by (found (default_constructor of_class)) is found_it = absurd cc
    by outside is found_it = absurd cc
    by not_found is found_it = absurd cc

  -- a constructor as it is found
  pub as-declared : (arity : ℕ) (at : MemberRef) (kept : FoundMethod)
      → answer.Found (Some at) ≡ answered constructor_ref (constructor_from view class arity)
      → ((declared : Declaration) → Contains view.declarations declared → at ≡ declaration_ref declared → arity ≡ declared.arity
      → IsMethod sources declared kept)
      → Answers (IsConstructor sources) (answer.Found (constructor.Declared kept)) (constructor_from view class arity)
  as-declared arity at kept found_it of_it = by (constructor_from view class arity) refl found_it where
    by : (read : Found (Constructor ℕ MemberKey)) → constructor_from view class arity ≡ read
        → answer.Found (Some at) ≡ answered constructor_ref read
        → Answers (IsConstructor sources) (answer.Found (constructor.Declared kept)) read
    by (found (declared_constructor declared)) is found_it =
        let there = constructor-made arity (declared_constructor declared) is in
        of_it declared there.0 (let same : at ≡ declaration_ref declared = cc in same) (sym there.1)
    by (found (default_constructor of_class)) is found_it = absurd cc
    by outside is found_it = absurd cc
    by not_found is found_it = absurd cc

  pub as-default : (arity : ℕ) (id : Id) → answer.Found None ≡ answered constructor_ref (constructor_from view class arity)
      → id ≡ (ids_of (files_of sources)).class_id class
      → Answers (IsConstructor sources) (answer.Found (constructor.Default id)) (constructor_from view class arity)
  as-default arity id found_it identity = by (constructor_from view class arity) refl found_it where
    by : (read : Found (Constructor ℕ MemberKey)) → constructor_from view class arity ≡ read
        → answer.Found None ≡ answered constructor_ref read
        → Answers (IsConstructor sources) (answer.Found (constructor.Default id)) read
    by (found (declared_constructor declared)) is found_it = absurd cc
    by (found (default_constructor of_class)) is found_it =
        identity ∙ sym (ap (ids_of (files_of sources)).class_id (constructor-made arity (default_constructor of_class) is))
    by outside is found_it = absurd cc
    by not_found is found_it = absurd cc
