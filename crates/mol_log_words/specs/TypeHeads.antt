-- The words with which types begin, and which types may stand where.
use Rattle.std.specs.Prelude.{Bool, true, false, ◌&&◌, List, [], ◌∷◌, Option, codes}
use Rattle.mol_log_words.specs.Words.{Word, kept}
use Rattle.mol_log_words.specs.Heads.{named}
use Rattle.mol_log_words.specs.declared.type_role.TypeRole.{TypeRole}
use Rattle.mol_log_words.specs.declared.type_role.TypeRole.TheVariants as role
use Rattle.mol_log_words.specs.declared.type_head.TypeHead.{TypeHead}
use Rattle.mol_log_words.specs.declared.type_head.TypeHead.TheVariants.{Boolean, Byte, Short, Char, Int, Long, Void, Class, Imported, Written}
use Rattle.mol_log_words.specs.declared.type_head.TypeHead.TheVariants.{Array}

abbrev pub type_spelled : TypeHead → Word
type_spelled Boolean = codes "boolean"
type_spelled Byte = codes "byte"
type_spelled Short = codes "short"
type_spelled Char = codes "char"
type_spelled Int = codes "int"
type_spelled Long = codes "long"
type_spelled Void = codes "void"
type_spelled Class = codes "class"
type_spelled Imported = codes "imported"
type_spelled Written = codes "written"
type_spelled Array = codes "array"

abbrev pub type_heads : List TypeHead
type_heads = Boolean ∷ Byte ∷ Short ∷ Char ∷ Int ∷ Long ∷ Void ∷ Class ∷ Imported ∷ Written ∷ Array ∷ []

unfoldable pub any_type_head : Word → Option TypeHead
any_type_head word = named type_spelled type_heads word

-- a class outside
abbrev pub is_outside : TypeHead → Bool
is_outside Imported = true
is_outside Written = true
is_outside head = false

-- what may be a superclass (JLS 8.1.4)
abbrev pub is_parent : TypeHead → Bool
is_parent Class = true
is_parent head = is_outside head

abbrev pub is_array : TypeHead → Bool
is_array Array = true
is_array head = false

-- `void` is no type of a value (JLS 8.4.5)
abbrev pub is_value : TypeHead → Bool
is_value Void = false
is_value head = true

-- the items of an array before all its brackets (JLS 15.10.1)
abbrev pub is_item : TypeHead → Bool
is_item Array = false
is_item head = is_value head

-- which types may stand where
abbrev pub allows_type : TypeRole → TypeHead → Bool
allows_type role.Value head = is_value head
allows_type role.Result head = true
allows_type role.Super head = is_parent head
allows_type role.Outside head = is_outside head
allows_type role.Item head = is_item head
allows_type role.Array head = is_array head

-- an array only where a dimension is left
abbrev pub has_room : Bool → TypeHead → Bool
has_room deeper Array = deeper
has_room deeper head = true

abbrev pub type_fits : TypeRole → Bool → TypeHead → Bool
type_fits role deeper head = allows_type role head && has_room deeper head

abbrev pub type_head_of : TypeRole → Bool → Word → Option TypeHead
type_head_of role deeper word = kept (type_fits role deeper) (any_type_head word)
