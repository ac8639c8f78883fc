-- Names with dots, and types (JLS 4, 6.5, 10.1).
use Rattle.std.specs.Prelude.{◌≡◌, ℕ, zero, suc, ◌≤◌, List, [], ◌∷◌, ◌++◌, codes, Bool, true, false}
use Rattle.mol_base.specs.Token.{Token}
use Rattle.mol_base.specs.declared.token_kind.TokenKind.TheVariants as kind
use Rattle.jav_tree.specs.declared.types.TypeName.{TypeName, out-TypeName}
use Rattle.jav_tree.specs.declared.types.TypeName.TheOpen.{TypeName-F}
use Rattle.jav_tree.specs.declared.types.TypeName.TheVariants as ty
use Rattle.jav_tree.specs.Tokens.{IsSymbol, IsName}

-- the keyword of a primitive type; `float` and `double` are none here
pub data IsPrimitive : Token → Type 0 where
  boolean : {t : Token} → t.kind ≡ kind.Keyword → t.text ≡ codes "boolean" → IsPrimitive t
  byte : {t : Token} → t.kind ≡ kind.Keyword → t.text ≡ codes "byte" → IsPrimitive t
  short : {t : Token} → t.kind ≡ kind.Keyword → t.text ≡ codes "short" → IsPrimitive t
  char : {t : Token} → t.kind ≡ kind.Keyword → t.text ≡ codes "char" → IsPrimitive t
  int : {t : Token} → t.kind ≡ kind.Keyword → t.text ≡ codes "int" → IsPrimitive t
  long : {t : Token} → t.kind ≡ kind.Keyword → t.text ≡ codes "long" → IsPrimitive t

-- Qualified q ts: names joined by dots; q is the text without spaces.
pub data Qualified : List ℕ → List Token → Type 0 where
  name : {t : Token} → IsName t → Qualified t.text (t ∷ [])
  dotted : {dot t : Token} {q : List ℕ} {ts : List Token} → Qualified q ts → IsSymbol "." dot → IsName t
      → Qualified (q ++ codes "." ++ t.text) (ts ++ dot ∷ t ∷ [])

-- BaseType ty ts: a type without brackets.
pub data BaseType : TypeName → List Token → Type 0 where
  primitive : {t : Token} → IsPrimitive t → BaseType (ty.Prim t.text) (t ∷ [])
  named : {q : List ℕ} {ts : List Token} → Qualified q ts → BaseType (ty.Named q) ts

-- Brackets n ts: n pairs of empty brackets.
pub data Brackets : ℕ → List Token → Type 0 where
  none : Brackets zero []
  pair : {left right : Token} {n : ℕ} {ts : List Token} → IsSymbol "[" left → IsSymbol "]" right → Brackets n ts
      → Brackets (suc n) (left ∷ right ∷ ts)

-- the array type with n pairs of brackets after this type
abbrev pub array_of : ℕ → TypeName → TypeName
array_of zero base = base
array_of (suc n) base = ty.ArrayOf (array_of n base)

-- WholeType limit ty ts: a type with at most `limit` pairs of brackets.
pub data WholeType (limit : ℕ) : TypeName → List Token → Type 0 where
  whole : {base : TypeName} {n : ℕ} {ts us : List Token} → BaseType base ts → Brackets n us → n ≤ limit
      → WholeType limit (array_of n base) (ts ++ us)

-- whether a type is primitive, and no array of one
abbrev pub primitive_case : TypeName-F TypeName → Bool
primitive_case (TypeName-F.Prim text) = true
primitive_case (TypeName-F.Named text) = false
primitive_case (TypeName-F.ArrayOf item) = false
primitive_case TypeName-F.Void = false

abbrev pub is_primitive : TypeName → Bool
is_primitive to = primitive_case (out-TypeName to)
