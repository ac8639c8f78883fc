-- What there is above a class, as the list of superclasses has it.
use Rattle.std.proofs.Common.{◌≡◌, ℕ, true, List, length, map, Option, Some, None, option_map, Contains, slice_get, refl, sym, ◌∙◌, ap, subst}
use Rattle.std.specs.Option.{option_flatten}
use Rattle.std.proofs.lemmas.List.{length-map}
use Rattle.std.proofs.lemmas.List.FromFn.{length-enumerate_from}
use Rattle.std.proofs.lemmas.Option.{slice_get-map, slice_get_within, get_or_from_slice_get}
use Rattle.jav_tree.specs.declared.types.TypeName.{TypeName}
use Rattle.jav_tree.specs.declared.types.TypeName.TheFolds.{ind-TypeName, map-TypeName}
use Rattle.jav_tree.specs.declared.types.TypeName.TheOpen.{TypeName-F}
use Rattle.jav_tree.specs.declared.types.TypeName.TheVariants as types
use Rattle.jav_tree.specs.declared.types.TypeName.TheViews.{roll-TypeName}
use Rattle.jav_tree.specs.declared.unit.Unit.{Unit}
use Rattle.jav_names.specs.Ancestors.{HasClass}
use Rattle.jav_names.specs.DottedNames.{Name, Names, cut}
use Rattle.jav_names.specs.LookUps.{has_class, class_in, is_outside, found_or, type_named}
use Rattle.jav_names.specs.TypeTexts.{type_of, type_in}
use Rattle.jav_names.specs.Types.{TypeReading, class_read, imported, written, no_type, ReadsType}
use Rattle.jav_names.specs.UnitViews.{numbered, classes_of, header_of, superclass_of, view_of}
use Rattle.jav_names.specs.Views.{ViewType}
use Rattle.jav_names.proofs.FoundNames.{types_stand}
use Rattle.jav_names.proofs.NamesAnswered.{types_answered}
use Rattle.jav_names.proofs.UnitsOrdered.{classes_of-ordered}
use Rattle.jav_names.proofs.UnitsViewed.{units_viewed}
use Rattle.jav_names.proofs.Ways.{has_class-decides}
use Rattle.jav_names.proofs.WrittenTypes.{type_in-Prim, type_in-Named, type_in-ArrayOf, type_in-Void}
use Rattle.jav_scope.specs.Answers.{answered, type_answered, superclass_answered}
use Rattle.jav_scope.specs.Climbs.{above}
use Rattle.jav_scope.specs.Entries.{units_of, classes_in}
use Rattle.jav_scope.specs.Scopes.{superclasses_in}
use Rattle.jav_scope.specs.declared.found.Found.{Found}
use Rattle.jav_scope.specs.declared.found.Found.TheVariants as answer
use Rattle.jav_scope.specs.declared.source.SourceUnit.{SourceUnit}

-- a type's name as what a class extends
pub named-superclass : (read : TypeReading ℕ) → type_answered read ≡ superclass_answered (Some (type_of read))
named-superclass (class_read class) = refl
named-superclass (imported import rest) = refl
named-superclass (written text) = refl
named-superclass no_type = refl

module _ (units : List Unit) where
  abbrev Agrees : Option (ViewType ℕ) → Type 0
  Agrees type = superclass_answered type ≡ answered (λ number. number) (found_or (class_in (classes_of units) type) (is_outside type))

  module _ (unit : ℕ × Unit) (stands : Contains (numbered units) unit) where
    -- the class that a type's name reads as is one of the view
    known : (first : Name) (rest : Names) (class : ℕ) → type_named (classes_of units) (header_of unit) first rest ≡ class_read class
        → has_class (classes_of units) class ≡ true
    known first rest class is =
        let reads = ((types_answered ℕ).types (classes_of units) (header_of unit) first rest (classes_of-ordered units)).holds in
        let has : HasClass (classes_of units) class = (types_stand ℕ).types (classes_of units) (header_of unit) first rest class
        (units_viewed.own_classes units unit stands) (subst (ReadsType (classes_of units) (header_of unit) first rest) is reads) in
        (has_class-decides (classes_of units) (classes_of-ordered units) class).1 has

    abbrev Extended : TypeName → Type 0
    Extended ty = Agrees (Some (type_in (classes_of units) (header_of unit) ty))

    by_reading : (read : TypeReading ℕ) → ((class : ℕ) → read ≡ class_read class → has_class (classes_of units) class ≡ true)
        → Agrees (Some (type_of read))
    by_reading (class_read class) has = rw (has class refl) refl
    by_reading (imported import rest) has = refl
    by_reading (written text) has = refl
    by_reading no_type has = refl

    of_layer : (x : TypeName-F ((ty : TypeName) × Extended ty)) → Extended (roll-TypeName (map-TypeName _ _ (λ p. p.0) x))
    of_layer (TypeName-F.Prim text) = rw (types.rolls-Prim text, type_in-Prim (classes_of units) (header_of unit) text) refl
    of_layer (TypeName-F.Named text) = rw (types.rolls-Named text, type_in-Named (classes_of units) (header_of unit) text) (
        by_reading (type_named (classes_of units) (header_of unit) (cut text).first (cut text).rest)
        (known (cut text).first (cut text).rest)
        )
    of_layer (TypeName-F.ArrayOf item) = rw (types.rolls-ArrayOf item.0, type_in-ArrayOf (classes_of units) (header_of unit) item.0) refl
    of_layer TypeName-F.Void = rw (types.rolls-Void, type_in-Void (classes_of units) (header_of unit)) refl

    extended : (ty : TypeName) → Extended ty
    extended = ind-TypeName Extended (λ x y is. subst (λ z. Extended (roll-TypeName z)) is (of_layer y))

    agrees : (parent : Option TypeName) → Agrees (option_map (type_in (classes_of units) (header_of unit)) parent)
    agrees None = refl
    agrees (Some ty) = extended ty

  abbrev listed : ℕ × Unit → Found ℕ
  listed unit = superclass_answered (superclass_of (classes_of units) unit)

  module _ (number : ℕ) where
    agrees-at : (o : Option (ℕ × Unit)) → slice_get (numbered units) number ≡ o
        → Agrees (option_flatten (option_map (superclass_of (classes_of units)) o))
    agrees-at None is = refl
    agrees-at (Some unit) is = agrees unit (
      number,
      slice_get_within (numbered units) number unit is,
      get_or_from_slice_get (numbered units) number unit unit is,
    ) unit.1.class.parent

    in-view : Agrees ((view_of units).superclass number)
    in-view = subst Agrees (sym (ap option_flatten (slice_get-map (superclass_of (classes_of units)) (numbered units) number)))
        (agrees-at (slice_get (numbered units) number) refl)

    listed-is : (o : Option (ℕ × Unit)) (f : Found ℕ) → option_map listed o ≡ Some f
        → f ≡ superclass_answered (option_flatten (option_map (superclass_of (classes_of units)) o))
    listed-is None f is = absurd cc
    listed-is (Some unit) f is = let same : listed unit ≡ f = cc in sym same

    pub above-there : (f : Found ℕ) → slice_get (map listed (numbered units)) number ≡ Some f → f
        ≡ answered (λ number. number) (above (view_of units) number)
    above-there f is =
        listed-is (slice_get (numbered units) number) f (sym (slice_get-map listed (numbered units) number) ∙ is)
        ∙ agrees-at (slice_get (numbered units) number) refl
        ∙ (λ i. answered (λ number. number) (found_or
        (class_in (classes_of units) (option_flatten (sym (slice_get-map (superclass_of (classes_of units)) (numbered units) number) i)))
        (is_outside (option_flatten (sym (slice_get-map (superclass_of (classes_of units)) (numbered units) number) i)))))

    pub above-nowhere : slice_get (map listed (numbered units)) number ≡ None → answer.NotFound
        ≡ answered (λ number. number) (above (view_of units) number)
    above-nowhere is = by_unit (slice_get (numbered units) number) refl (sym (slice_get-map listed (numbered units) number) ∙ is) where
      by_unit : (o : Option (ℕ × Unit)) → slice_get (numbered units) number ≡ o → option_map listed o ≡ None
          → answer.NotFound ≡ answered (λ number. number) (above (view_of units) number)
      by_unit None none is =
          let no_type : (view_of units).superclass number ≡ None =
          ap option_flatten (slice_get-map (superclass_of (classes_of units)) (numbered units) number
          ∙ ap (option_map (superclass_of (classes_of units))) none) in
          (λ i. answered (λ number. number) (found_or (class_in (classes_of units) (sym no_type i)) (is_outside (sym no_type i))))
      by_unit (Some unit) some is = absurd cc

-- there are as many as files
pub counted : (sources : List SourceUnit) → length (superclasses_in sources) ≡ length sources
counted sources =
    length-map (numbered (units_of sources)) (λ unit. superclass_answered (superclass_of (classes_in sources) unit))
    ∙ length-enumerate_from 0 (units_of sources) ∙ length-map sources (λ (s : SourceUnit). s.unit)
