-- The word form of types: which words spell which type.
use Rattle.std.specs.Prelude.{◌≡◌, ℕ, suc, true, List, [], ◌∷◌, codes, Some}
use Rattle.mol_base.specs.Limits.{max_items}
use Rattle.mol_base.specs.Spelled.{id_of}
use Rattle.mol_base.specs.declared.ident.Id.{Id}
use Rattle.mol_values_types.specs.declared.itype.IType.{IType}
use Rattle.mol_values_types.specs.declared.itype.IType.TheVariants as types
use Rattle.mol_log_words.specs.Words.{Word, has_form}
use Rattle.mol_log_words.specs.TypeHeads.{allows_type}
use Rattle.mol_log_words.specs.declared.type_role.TypeRole.{TypeRole}
use Rattle.mol_log_words.specs.declared.type_role.TypeRole.TheVariants.{Value}
use Rattle.mol_log_words.specs.declared.text_form.TextForm.TheVariants.{Dotted, Rest}
use Rattle.mol_log_words.specs.declared.type_head.TypeHead.TheVariants as head

-- the greatest number of dimensions of an array (JVMS 4.11)
abbrev pub most_dimensions : ℕ
most_dimensions = max_items

-- IsType r k t ts: the words ts spell the type t, which may stand at a place of the role r and has at most k dimensions
pub data IsType : TypeRole → ℕ → IType → List Word → Type 0 where
  boolean : {r : TypeRole} {k : ℕ} → allows_type r head.Boolean ≡ true → IsType r k types.Boolean (codes "boolean" ∷ [])
  byte : {r : TypeRole} {k : ℕ} → allows_type r head.Byte ≡ true → IsType r k types.Byte (codes "byte" ∷ [])
  short : {r : TypeRole} {k : ℕ} → allows_type r head.Short ≡ true → IsType r k types.Short (codes "short" ∷ [])
  char : {r : TypeRole} {k : ℕ} → allows_type r head.Char ≡ true → IsType r k types.Char (codes "char" ∷ [])
  int : {r : TypeRole} {k : ℕ} → allows_type r head.Int ≡ true → IsType r k types.Int (codes "int" ∷ [])
  long : {r : TypeRole} {k : ℕ} → allows_type r head.Long ≡ true → IsType r k types.Long (codes "long" ∷ [])
  void : {r : TypeRole} {k : ℕ} → allows_type r head.Void ≡ true → IsType r k types.Void (codes "void" ∷ [])
  class : {r : TypeRole} {k : ℕ} {id : Id} {w : Word} → allows_type r head.Class ≡ true → id_of w ≡ Some id
      → IsType r k (types.Class id) (codes "class" ∷ w ∷ [])
  imported : {r : TypeRole} {k : ℕ} {full rest : Word} → allows_type r head.Imported ≡ true → has_form Dotted full ≡ true
      → has_form Rest rest ≡ true
      → IsType r k (types.Imported full rest) (codes "imported" ∷ full ∷ rest ∷ [])
  written : {r : TypeRole} {k : ℕ} {name : Word} → allows_type r head.Written ≡ true → has_form Dotted name ≡ true
      → IsType r k (types.Written name) (codes "written" ∷ name ∷ [])
  array : {r : TypeRole} {k : ℕ} {t : IType} {ts : List Word} → allows_type r head.Array ≡ true → IsType Value k t ts
      → IsType r (suc k) (types.Array t) (codes "array" ∷ ts)
