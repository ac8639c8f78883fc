-- Names that no primitive type has.
use Rattle.std.proofs.Common.{◌≡◌, ◌≢◌, ◌∙◌, [], ◌∷◌, List, Some, None, option_map, find, bytes_eq, codes, cond, Bool, refl, sym, ap}
use Prim.Native.String.{String}
use Rattle.std.proofs.lemmas.Slice.Eq.{bytes_eq-Decides}
use Rattle.jav_names.proofs.Lists.{Decides-fails}
use Rattle.jav_names.specs.DottedNames.{Name}
use Rattle.mol_resolve_rules.specs.ReadTypes.{primitive_tree}
use Rattle.mol_values_types.specs.declared.itype.IType.{IType}
use Rattle.mol_values_types.specs.declared.itype.IType.TheVariants as types

abbrev Primitives : Type 0
Primitives = List (String × IType)

module _ (name : Name) where
  abbrev named : String × IType → Bool
  named primitive = bytes_eq (codes primitive.0) name

  -- where it is not the first of some, and none of the rest
  not-first : (first : String × IType) (rest : Primitives) → name ≢ codes first.0 → find named rest ≡ None
      → find named (first ∷ rest) ≡ None
  not-first first rest differs none =
      ap (λ is. cond is (Some first) (find named rest))
      (Decides-fails (bytes_eq-Decides (codes first.0) name) (λ is. differs (sym is))) ∙ none

  abbrev from_long : Primitives
  from_long = ("long", types.Long) ∷ []

  abbrev from_int : Primitives
  from_int = ("int", types.Int) ∷ from_long

  abbrev from_char : Primitives
  from_char = ("char", types.Char) ∷ from_int

  abbrev from_short : Primitives
  from_short = ("short", types.Short) ∷ from_char

  abbrev from_byte : Primitives
  from_byte = ("byte", types.Byte) ∷ from_short

  pub not-primitive : name ≢ codes "boolean" → name ≢ codes "byte" → name ≢ codes "short" → name ≢ codes "char" → name ≢ codes "int"
      → name ≢ codes "long" → None ≡ primitive_tree name
  not-primitive boolean byte short char int long =
      sym (ap (option_map (λ (primitive : String × IType). primitive.1))
      (not-first ("boolean", types.Boolean) from_byte boolean (not-first ("byte", types.Byte) from_short byte
      (not-first ("short", types.Short) from_char short (not-first ("char", types.Char) from_int char
      (not-first ("int", types.Int) from_long int (not-first ("long", types.Long) [] long refl)))))))
