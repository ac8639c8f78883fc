-- The text of a type (JLS 4.2, 4.3, 10.1).
use Rattle.std.specs.Prelude.{List, ◌++◌, codes, ℕ}
use Rattle.jav_tree.specs.declared.types.TypeName.{TypeName, fold-TypeName}
use Rattle.jav_tree.specs.declared.types.TypeName.TheOpen.{TypeName-F}

abbrev pub type_text_step : TypeName-F (List ℕ) → List ℕ
type_text_step (TypeName-F.Prim name) = name
type_text_step (TypeName-F.Named name) = name
type_text_step (TypeName-F.ArrayOf item) = item ++ codes "[]"
type_text_step TypeName-F.Void = codes "void"

abbrev pub type_text : TypeName → List ℕ
type_text = fold-TypeName (List ℕ) type_text_step
