-- Types of a program as they are written (JLS 4, 6.5.5).
use Rattle.std.specs.Prelude.{Bool, List, [], ◌∷◌, Some, codes}
use Prim.Native.String.{String}
use Rattle.mol_base.specs.declared.ident.Id.{Id}
use Rattle.mol_spell_rules.specs.references.References.{Target, class_target, outside_target}
use Rattle.mol_values_types.specs.declared.itype.IType.{IType, fold-IType}
use Rattle.mol_values_types.specs.declared.itype.IType.TheOpen.{IType-F}
use Rattle.jav_tree.specs.declared.types.TypeName.{TypeName}
use Rattle.jav_tree.specs.declared.types.TypeName.TheVariants as types
use Rattle.jav_names.specs.DottedNames.{Name}
use Rattle.jav_names.specs.TypeTexts.{imported_text}
use Rattle.mol_resolve_rules.specs.Locals.{Locals}
use Rattle.mol_spell_rules.specs.Writers.{Importable, program_class, outside_import, Writer, spelled, text_of, Use, use_of, written_use, type_asked, Reference}

-- a type as it is written, and the references in it
pub record SpelledType : Type 0 where
  pub tree : TypeName
  pub references : List Reference

-- in this file, where these names are hidden and these locals are declared
module _ (writer : Writer) (hides : Name → Bool) (locals : Locals Id) where
  abbrev pub primitive : String → SpelledType
  primitive word = record { tree = types.Prim (codes word); references = [] }

  abbrev pub named : Target → Name → Use → SpelledType
  named target text used = record {
    tree = types.Named text;
    references = record { target = target; asked = type_asked text; uses = Some used; locals = locals } ∷ [];
  }

  -- what may be imported, and the names that follow it
  abbrev pub importable : Target → Importable → Name → SpelledType
  importable target what rest = named target (imported_text (text_of (spelled writer hides what)) rest) (use_of writer hides what)

  abbrev pub type_step : IType-F SpelledType → SpelledType
  type_step IType-F.Boolean = primitive "boolean"
  type_step IType-F.Byte = primitive "byte"
  type_step IType-F.Short = primitive "short"
  type_step IType-F.Char = primitive "char"
  type_step IType-F.Int = primitive "int"
  type_step IType-F.Long = primitive "long"
  type_step IType-F.Void = record { tree = types.Void; references = [] }
  type_step (IType-F.Class class) = importable (class_target class) (program_class class) []
  type_step (IType-F.Imported import rest) = importable (outside_target (imported_text import rest)) (outside_import import) rest
  type_step (IType-F.Written text) = named (outside_target text) text (written_use text)
  type_step (IType-F.Array item) = record { tree = types.ArrayOf item.tree; references = item.references }

  abbrev pub spelled_type : IType → SpelledType
  spelled_type = fold-IType SpelledType type_step
