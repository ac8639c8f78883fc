-- A type as it is written is what its parts read as.
use Rattle.std.proofs.Common.{◌≡◌, sym, ◌∙◌, ap}
use Rattle.jav_tree.specs.declared.types.TypeName.{TypeName}
use Rattle.jav_tree.specs.declared.types.TypeName.TheVariants as types
use Rattle.jav_tree.specs.declared.types.TypeName.TheOpen.{TypeName-F}
use Rattle.jav_tree.specs.declared.types.TypeName.TheFolds.{fold-roll-TypeName}
use Rattle.jav_names.specs.DottedNames.{Name, cut}
use Rattle.jav_names.specs.TypeTexts.{ReadsTypeText, type_of, type_step, type_in}
use Rattle.jav_names.specs.Types.{Header, TypeReading}
use Rattle.jav_names.specs.Views.{ViewType, primitive_type, void_type, array_type, Classes, AreOrdered}
use Rattle.jav_names.proofs.ReadTypes.{type-answered}

module _ {C : Type 0} (classes : Classes C) (header : Header C) where
  pub type_in-Prim : (text : Name) → type_in classes header (types.Prim text) ≡ primitive_type text
  type_in-Prim text = ap (type_in classes header) (sym (types.rolls-Prim text))
      ∙ fold-roll-TypeName (ViewType C) (type_step classes header) (TypeName-F.Prim text)

  pub type_in-Named : (text : Name) → type_in classes header (types.Named text) ≡ type_step classes header (TypeName-F.Named text)
  type_in-Named text = ap (type_in classes header) (sym (types.rolls-Named text))
      ∙ fold-roll-TypeName (ViewType C) (type_step classes header) (TypeName-F.Named text)

  pub type_in-ArrayOf : (item : TypeName) → type_in classes header (types.ArrayOf item) ≡ array_type (type_in classes header item)
  type_in-ArrayOf item = ap (type_in classes header) (sym (types.rolls-ArrayOf item))
      ∙ fold-roll-TypeName (ViewType C) (type_step classes header) (TypeName-F.ArrayOf item)

  pub type_in-Void : type_in classes header types.Void ≡ void_type
  type_in-Void =
      ap (type_in classes header) (sym types.rolls-Void) ∙ fold-roll-TypeName (ViewType C) (type_step classes header) TypeName-F.Void

pub type_in-named : {C : Type 0} (classes : Classes C) (header : Header C) (text : Name) (reading : TypeReading C) → AreOrdered classes
    → ReadsTypeText classes header text reading → type_in classes header (types.Named text) ≡ type_of reading
type_in-named classes header text reading ordered reads =
    type_in-Named classes header text
    ∙ ap type_of (sym ((type-answered classes ordered header (cut text).first (cut text).rest).only reading reads))
