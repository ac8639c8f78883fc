-- The names in a type, by what it is.
use Rattle.std.proofs.Common.{◌≡◌, Bool, List, [], ◌∷◌, Some, sym, ◌∙◌, ap}
use Rattle.mol_base.specs.declared.ident.Id.{Id}
use Rattle.jav_names.specs.DottedNames.{Name}
use Rattle.jav_names.specs.TypeTexts.{imported_text}
use Rattle.mol_faults_expr.specs.References.{type_references}
use Rattle.mol_spell_rules.specs.references.References.{Target, class_target, outside_target}
use Rattle.mol_resolve_rules.specs.Locals.{Locals}
use Rattle.mol_spell_rules.specs.SpelledTypes.{SpelledType, spelled_type, type_step}
use Rattle.mol_spell_rules.specs.Writers.{Importable, Reference, Use, Writer, outside_import, program_class, spelled, text_of, type_asked, use_of, written_use}
use Rattle.mol_values_types.specs.declared.itype.IType.{IType}
use Rattle.mol_values_types.specs.declared.itype.IType.TheFolds.{fold-roll-IType, map-IType}
use Rattle.mol_values_types.specs.declared.itype.IType.TheOpen.{IType-F}
use Rattle.mol_values_types.specs.declared.itype.IType.TheVariants as kinds
use Rattle.mol_values_types.specs.declared.itype.IType.TheViews.{roll-IType}
use Rattle.mol_spell_expr.specs.Importables.{hides_at}
use Rattle.mol_spell_expr.specs.declared.type_place.TypePlace.{TypePlace}

module _ (writer : Writer) (locals : Locals Id) (place : TypePlace) where
  abbrev hidden : Name → Bool
  hidden = hides_at writer locals place

  abbrev of : IType → List Reference
  of = type_references writer locals place

  -- the name of a type
  abbrev pub named : Target → Name → Use → Reference
  named target text used = record { target = target; asked = type_asked text; uses = Some used; locals = locals }

  -- what may be imported, and the names that follow it
  abbrev pub importable : Target → Importable → Name → Reference
  importable target what rest =
      named target (imported_text (text_of (spelled writer hidden what)) rest) (use_of writer hidden what)

  made : (x : IType-F IType) → of (roll-IType x) ≡ (type_step writer hidden locals
      (map-IType _ _ (spelled_type writer hidden locals) x)).references
  made x = ap (λ (part : SpelledType). part.references)
      (fold-roll-IType SpelledType (type_step writer hidden locals) x)

  pub names-Boolean : of kinds.Boolean ≡ []
  names-Boolean = ap of (sym kinds.rolls-Boolean) ∙ made IType-F.Boolean

  pub names-Byte : of kinds.Byte ≡ []
  names-Byte = ap of (sym kinds.rolls-Byte) ∙ made IType-F.Byte

  pub names-Short : of kinds.Short ≡ []
  names-Short = ap of (sym kinds.rolls-Short) ∙ made IType-F.Short

  pub names-Char : of kinds.Char ≡ []
  names-Char = ap of (sym kinds.rolls-Char) ∙ made IType-F.Char

  pub names-Int : of kinds.Int ≡ []
  names-Int = ap of (sym kinds.rolls-Int) ∙ made IType-F.Int

  pub names-Long : of kinds.Long ≡ []
  names-Long = ap of (sym kinds.rolls-Long) ∙ made IType-F.Long

  pub names-Void : of kinds.Void ≡ []
  names-Void = ap of (sym kinds.rolls-Void) ∙ made IType-F.Void

  pub names-Class : (class : Id) → of (kinds.Class class) ≡ importable (class_target class) (program_class class) [] ∷ []
  names-Class class = ap of (sym (kinds.rolls-Class class)) ∙ made (IType-F.Class class)

  pub names-Imported : (full rest : Name) → of (kinds.Imported full rest)
      ≡ importable (outside_target (imported_text full rest)) (outside_import full) rest ∷ []
  names-Imported full rest = ap of (sym (kinds.rolls-Imported full rest)) ∙ made (IType-F.Imported full rest)

  pub names-Written : (text : Name) → of (kinds.Written text) ≡ named (outside_target text) text (written_use text) ∷ []
  names-Written text = ap of (sym (kinds.rolls-Written text)) ∙ made (IType-F.Written text)

  pub names-Array : (item : IType) → of (kinds.Array item) ≡ of item
  names-Array item = ap of (sym (kinds.rolls-Array item)) ∙ made (IType-F.Array item)
