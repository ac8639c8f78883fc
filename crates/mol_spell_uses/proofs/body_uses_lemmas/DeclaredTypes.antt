-- What the type of a declaration uses, by what it is, wherever it is printed.
use Rattle.std.proofs.Common.{◌≡◌, false, List, [], ◌∷◌, refl, sym, ap, ◌∙◌}
use Rattle.mol_base.specs.declared.ident.Id.{Id}
use Rattle.mol_spell_uses.specs.body_uses.PartUses.{declared_uses}
use Rattle.jav_names.specs.DottedNames.{Name}
use Rattle.mol_resolve_rules.specs.Locals.{Locals}
use Rattle.mol_spell_rules.specs.SpelledTypes.{SpelledType, spelled_type, type_step}
use Rattle.mol_spell_rules.specs.Writers.{Use, Writer, hides_none, importable_use, outside_import, program_class, written_use}
use Rattle.mol_spell_uses.specs.uses.Uses.{uses_of}
use Rattle.mol_values_types.specs.declared.itype.IType.{IType}
use Rattle.mol_values_types.specs.declared.itype.IType.TheFolds.{fold-roll-IType, map-IType}
use Rattle.mol_values_types.specs.declared.itype.IType.TheOpen.{IType-F}
use Rattle.mol_values_types.specs.declared.itype.IType.TheVariants as kinds
use Rattle.mol_values_types.specs.declared.itype.IType.TheViews.{roll-IType}

module _ (writer : Writer) (locals : Locals Id) (type : IType) where
  abbrev Uses : List Use → Type 0
  Uses uses = declared_uses writer locals type ≡ uses

  abbrev spelled : IType → SpelledType
  spelled = spelled_type writer hides_none locals

  abbrev step : IType-F SpelledType → SpelledType
  step = type_step writer hides_none locals

  by_kind : (x : IType-F IType) (uses : List Use) → type ≡ roll-IType x → uses_of (step (map-IType _ _ spelled x)).references ≡ uses
      → Uses uses
  by_kind x uses is made = ap (declared_uses writer locals) is
      ∙ ap (λ (part : SpelledType). uses_of part.references) (fold-roll-IType SpelledType step x) ∙ made

  pub uses-Boolean : type ≡ kinds.Boolean → Uses []
  uses-Boolean is = by_kind IType-F.Boolean [] (is ∙ sym kinds.rolls-Boolean) refl

  pub uses-Byte : type ≡ kinds.Byte → Uses []
  uses-Byte is = by_kind IType-F.Byte [] (is ∙ sym kinds.rolls-Byte) refl

  pub uses-Short : type ≡ kinds.Short → Uses []
  uses-Short is = by_kind IType-F.Short [] (is ∙ sym kinds.rolls-Short) refl

  pub uses-Char : type ≡ kinds.Char → Uses []
  uses-Char is = by_kind IType-F.Char [] (is ∙ sym kinds.rolls-Char) refl

  pub uses-Int : type ≡ kinds.Int → Uses []
  uses-Int is = by_kind IType-F.Int [] (is ∙ sym kinds.rolls-Int) refl

  pub uses-Long : type ≡ kinds.Long → Uses []
  uses-Long is = by_kind IType-F.Long [] (is ∙ sym kinds.rolls-Long) refl

  pub uses-Void : type ≡ kinds.Void → Uses []
  uses-Void is = by_kind IType-F.Void [] (is ∙ sym kinds.rolls-Void) refl

  pub uses-Class : (class : Id) → type ≡ kinds.Class class → Uses (importable_use (program_class class) false ∷ [])
  uses-Class class is = by_kind (IType-F.Class class) _ (is ∙ sym (kinds.rolls-Class class)) refl

  pub uses-Imported : (full rest : Name) → type ≡ kinds.Imported full rest → Uses (importable_use (outside_import full) false ∷ [])
  uses-Imported full rest is = by_kind (IType-F.Imported full rest) _ (is ∙ sym (kinds.rolls-Imported full rest)) refl

  pub uses-Written : (text : Name) → type ≡ kinds.Written text → Uses (written_use text ∷ [])
  uses-Written text is = by_kind (IType-F.Written text) _ (is ∙ sym (kinds.rolls-Written text)) refl

  pub uses-Array : (item : IType) → type ≡ kinds.Array item → Uses (declared_uses writer locals item)
  uses-Array item is = by_kind (IType-F.Array item) _ (is ∙ sym (kinds.rolls-Array item)) refl
