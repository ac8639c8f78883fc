-- The word form of types as a function.
use Rattle.std.specs.Prelude.{ℕ, zero, suc, true, false}
use Rattle.mol_base.specs.Spelled.{id_of}
use Rattle.mol_values_types.specs.declared.itype.IType.{IType}
use Rattle.mol_values_types.specs.declared.itype.IType.TheVariants as types
use Rattle.mol_log_words.specs.Words.{has_form}
use Rattle.mol_log_words.specs.Reader.{Parser, ◌>>=◌, pure, refuse, take, passing}
use Rattle.mol_log_words.specs.TypeHeads.{type_head_of}
use Rattle.mol_log_words.specs.declared.type_role.TypeRole.{TypeRole}
use Rattle.mol_log_words.specs.declared.type_role.TypeRole.TheVariants.{Value}
use Rattle.mol_log_words.specs.declared.text_form.TextForm.TheVariants.{Dotted, Rest}
use Rattle.mol_log_words.specs.declared.type_head.TypeHead.{TypeHead}
use Rattle.mol_log_words.specs.declared.type_head.TypeHead.TheVariants as head

-- what follows the first word; `item` reads the items of an array
abbrev pub type_by : Parser IType → TypeHead → Parser IType
type_by item head.Boolean = pure types.Boolean
type_by item head.Byte = pure types.Byte
type_by item head.Short = pure types.Short
type_by item head.Char = pure types.Char
type_by item head.Int = pure types.Int
type_by item head.Long = pure types.Long
type_by item head.Void = pure types.Void
type_by item head.Class = do
  id ← take id_of
  pure (types.Class id)
type_by item head.Imported = do
  full ← take (passing (has_form Dotted))
  rest ← take (passing (has_form Rest))
  pure (types.Imported full rest)
type_by item head.Written = do
  name ← take (passing (has_form Dotted))
  pure (types.Written name)
type_by item head.Array = do
  t ← item
  pure (types.Array t)

-- a type that may stand here, with at most k dimensions
unfoldable pub type_name : TypeRole → ℕ → Parser IType
type_name role zero = take (type_head_of role false) >>= type_by refuse
type_name role (suc k) = take (type_head_of role true) >>= type_by (type_name Value k)

-- the items of an array with at most k dimensions
unfoldable pub items : ℕ → Parser IType
items zero = refuse
items (suc k) = type_name Value k
