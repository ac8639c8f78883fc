-- The words of a type.
use Rattle.std.specs.Prelude.{List, [], ◌∷◌, codes}
use Rattle.mol_base.specs.Identity.{spelled_id}
use Rattle.mol_values_types.specs.declared.itype.IType.{IType, fold-IType}
use Rattle.mol_values_types.specs.declared.itype.IType.TheOpen.{IType-F}
use Rattle.mol_log_words.specs.Words.{Word}

abbrev pub type_step : IType-F (List Word) → List Word
type_step IType-F.Boolean = codes "boolean" ∷ []
type_step IType-F.Byte = codes "byte" ∷ []
type_step IType-F.Short = codes "short" ∷ []
type_step IType-F.Char = codes "char" ∷ []
type_step IType-F.Int = codes "int" ∷ []
type_step IType-F.Long = codes "long" ∷ []
type_step IType-F.Void = codes "void" ∷ []
type_step (IType-F.Class id) = codes "class" ∷ spelled_id id ∷ []
type_step (IType-F.Imported full rest) = codes "imported" ∷ full ∷ rest ∷ []
type_step (IType-F.Written name) = codes "written" ∷ name ∷ []
type_step (IType-F.Array item) = codes "array" ∷ item

abbrev pub type_words : IType → List Word
type_words = fold-IType (List Word) type_step
