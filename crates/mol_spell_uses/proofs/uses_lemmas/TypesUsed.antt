-- What a type in an expression uses, by what it is.
use Rattle.std.proofs.Common.{◌≡◌, List, [], ◌∷◌, refl, sym, ap, ◌∙◌}
use Rattle.mol_base.specs.declared.ident.Id.{Id}
use Rattle.jav_names.specs.DottedNames.{Name}
use Rattle.mol_resolve_rules.specs.Locals.{Locals}
use Rattle.mol_spell_rules.specs.SpelledExpressions.{hides}
use Rattle.mol_spell_rules.specs.SpelledTypes.{SpelledType, spelled_type, type_step}
use Rattle.mol_spell_rules.specs.Writers.{Use, Writer, outside_import, program_class, written_use}
use Rattle.mol_spell_uses.specs.uses.Uses.{named_use, type_uses, uses_of}
use Rattle.mol_values_types.specs.declared.itype.IType.{IType}
use Rattle.mol_values_types.specs.declared.itype.IType.TheFolds.{fold-roll-IType, map-IType}
use Rattle.mol_values_types.specs.declared.itype.IType.TheOpen.{IType-F}
use Rattle.mol_values_types.specs.declared.itype.IType.TheVariants as kinds
use Rattle.mol_values_types.specs.declared.itype.IType.TheViews.{roll-IType}

module _ (writer : Writer) (locals : Locals Id) (type : IType) where
  abbrev Uses : List Use → Type 0
  Uses uses = type_uses writer locals type ≡ uses

  by_kind : (x : IType-F IType) (uses : List Use) → type ≡ roll-IType x
      → uses_of (type_step writer (hides writer locals) locals
      (map-IType _ _ (spelled_type writer (hides writer locals) locals) x)).references ≡ uses
      → Uses uses
  by_kind x uses is made = ap (type_uses writer locals) is
      ∙ ap (λ (part : SpelledType). uses_of part.references)
      (fold-roll-IType SpelledType (type_step writer (hides writer locals) locals) x) ∙ made

  pub uses-Boolean : type ≡ kinds.Boolean → Uses []
  uses-Boolean is = by_kind IType-F.Boolean [] (is ∙ sym kinds.rolls-Boolean) refl

  pub uses-Byte : type ≡ kinds.Byte → Uses []
  uses-Byte is = by_kind IType-F.Byte [] (is ∙ sym kinds.rolls-Byte) refl

  pub uses-Short : type ≡ kinds.Short → Uses []
  uses-Short is = by_kind IType-F.Short [] (is ∙ sym kinds.rolls-Short) refl

  pub uses-Char : type ≡ kinds.Char → Uses []
  uses-Char is = by_kind IType-F.Char [] (is ∙ sym kinds.rolls-Char) refl

  pub uses-Int : type ≡ kinds.Int → Uses []
  uses-Int is = by_kind IType-F.Int [] (is ∙ sym kinds.rolls-Int) refl

  pub uses-Long : type ≡ kinds.Long → Uses []
  uses-Long is = by_kind IType-F.Long [] (is ∙ sym kinds.rolls-Long) refl

  pub uses-Void : type ≡ kinds.Void → Uses []
  uses-Void is = by_kind IType-F.Void [] (is ∙ sym kinds.rolls-Void) refl

  pub uses-Class : (class : Id) → type ≡ kinds.Class class → Uses (named_use writer locals (program_class class))
  uses-Class class is = by_kind (IType-F.Class class) _ (is ∙ sym (kinds.rolls-Class class)) refl

  pub uses-Imported : (full rest : Name) → type ≡ kinds.Imported full rest → Uses (named_use writer locals (outside_import full))
  uses-Imported full rest is = by_kind (IType-F.Imported full rest) _ (is ∙ sym (kinds.rolls-Imported full rest)) refl

  pub uses-Written : (text : Name) → type ≡ kinds.Written text → Uses (written_use text ∷ [])
  uses-Written text is = by_kind (IType-F.Written text) _ (is ∙ sym (kinds.rolls-Written text)) refl

  pub uses-Array : (item : IType) → type ≡ kinds.Array item → Uses (type_uses writer locals item)
  uses-Array item is = by_kind (IType-F.Array item) _ (is ∙ sym (kinds.rolls-Array item)) refl
