-- Types of the grammar: what they may be, and how many pairs of brackets they have.
use Rattle.std.proofs.Common.{◌≡◌, ℕ, zero, suc, ◌≤◌, List, [], ◌∷◌, true, refl, sym, ap, ◌∙◌, arith}
use Rattle.mol_base.specs.Token.{Token}
use Rattle.mol_base.specs.Among.{among}
use Rattle.jav_tree.specs.declared.types.TypeName.{TypeName}
use Rattle.jav_tree.specs.declared.types.TypeName.TheVariants as ty
use Rattle.jav_tree.specs.declared.types.TypeName.TheOpen.{TypeName-F}
use Rattle.jav_tree.specs.declared.types.TypeName.TheFolds.{fold-roll-TypeName}
use Rattle.jav_tree.specs.PrintableExpressions.{TypeUses, type_uses, type_uses_step}
use Rattle.jav_tree.specs.Types.{IsPrimitive, Qualified, BaseType, Brackets, WholeType, array_of}
use Rattle.jav_tree.specs.Types as types
use Rattle.jav_tree.specs.Widths.{type_width, type_width_step}
use Rattle.jav_print_laws.proofs.printable_lemmas.Names.{Known, split, dotted_is}

-- # What a type may be

uses-Prim : (text : List ℕ) → type_uses (ty.Prim text) ≡ type_uses_step (TypeName-F.Prim text)
uses-Prim text = ap type_uses (sym (ty.rolls-Prim text)) ∙ fold-roll-TypeName _ type_uses_step (TypeName-F.Prim text)

uses-Named : (q : List ℕ) → type_uses (ty.Named q) ≡ type_uses_step (TypeName-F.Named q)
uses-Named q = ap type_uses (sym (ty.rolls-Named q)) ∙ fold-roll-TypeName _ type_uses_step (TypeName-F.Named q)

uses-ArrayOf : (item : TypeName) → type_uses (ty.ArrayOf item) ≡ type_uses_step (TypeName-F.ArrayOf (type_uses item))
uses-ArrayOf item = ap type_uses (sym (ty.rolls-ArrayOf item)) ∙ fold-roll-TypeName _ type_uses_step (TypeName-F.ArrayOf item)

uses-Void : type_uses ty.Void ≡ type_uses_step TypeName-F.Void
uses-Void = ap type_uses (sym ty.rolls-Void) ∙ fold-roll-TypeName _ type_uses_step TypeName-F.Void

-- any type
pub record IsAnyType (to : TypeName) : Type 0 where
  pub type : (type_uses to).is_type ≡ true
  pub result : (type_uses to).is_result ≡ true

-- a type without brackets
pub record IsBase (to : TypeName) : Type 0 where
  pub base : (type_uses to).is_base ≡ true
  pub any : IsAnyType to

primitive_is : (t : Token) → IsPrimitive t → among ("boolean" ∷ "byte" ∷ "short" ∷ "char" ∷ "int" ∷ "long" ∷ []) t.text ≡ true
primitive_is t (types.boolean _ e) = rw e refl
primitive_is t (types.byte _ e) = rw e refl
primitive_is t (types.short _ e) = rw e refl
primitive_is t (types.char _ e) = rw e refl
primitive_is t (types.int _ e) = rw e refl
primitive_is t (types.long _ e) = rw e refl

pub class_is : {q : List ℕ} {ts : List Token} → Qualified q ts → Known ts → (type_uses (ty.Named q)).is_class ≡ true
class_is {q} d k = ap (λ (u : TypeUses). u.is_class) (uses-Named q) ∙ dotted_is d k

pub base_is : {base : TypeName} {ts : List Token} → BaseType base ts → Known ts → IsBase base
base_is (types.primitive {t} is) k =
    let e = uses-Prim t.text in let h = primitive_is t is in
    record { base = ap (λ (u : TypeUses). u.is_base) e ∙ h; any = record { type = ap (λ (u : TypeUses). u.is_type) e ∙ h; result = ap (λ (u : TypeUses). u.is_result) e ∙ h } }
base_is (types.named {q} d) k =
    let e = uses-Named q in let h = dotted_is d k in
    record { base = ap (λ (u : TypeUses). u.is_base) e ∙ h; any = record { type = ap (λ (u : TypeUses). u.is_type) e ∙ h; result = ap (λ (u : TypeUses). u.is_result) e ∙ h } }

of_array : (item : TypeName) → IsAnyType item → IsAnyType (ty.ArrayOf item)
of_array item is = let e = uses-ArrayOf item in record { type = ap (λ (u : TypeUses). u.is_type) e ∙ is.type; result = ap (λ (u : TypeUses). u.is_result) e ∙ is.type }

pub arrays_are : (n : ℕ) (base : TypeName) → IsAnyType base → IsAnyType (array_of n base)
arrays_are zero base is = is
arrays_are (suc n) base is = of_array (array_of n base) (arrays_are n base is)

pub array_is : (n : ℕ) (base : TypeName) → IsAnyType base → (type_uses (array_of (suc n) base)).is_array ≡ true
array_is n base is = ap (λ (u : TypeUses). u.is_array) (uses-ArrayOf (array_of n base)) ∙ (arrays_are n base is).type

pub whole_is : {limit : ℕ} {to : TypeName} {ts : List Token} → WholeType limit to ts → Known ts → IsAnyType to
whole_is (types.whole {base} {n} {ts} {us} b _ _) k = arrays_are n base (base_is b (split ts us k).0).any

pub void_is : (type_uses ty.Void).is_result ≡ true
void_is = ap (λ (u : TypeUses). u.is_result) uses-Void

-- # How many pairs of brackets a type has

width-Prim : (text : List ℕ) → type_width (ty.Prim text) ≡ 0
width-Prim text = ap type_width (sym (ty.rolls-Prim text)) ∙ fold-roll-TypeName _ type_width_step (TypeName-F.Prim text)

width-Named : (q : List ℕ) → type_width (ty.Named q) ≡ 0
width-Named q = ap type_width (sym (ty.rolls-Named q)) ∙ fold-roll-TypeName _ type_width_step (TypeName-F.Named q)

width-ArrayOf : (item : TypeName) → type_width (ty.ArrayOf item) ≡ suc (type_width item)
width-ArrayOf item = ap type_width (sym (ty.rolls-ArrayOf item)) ∙ fold-roll-TypeName _ type_width_step (TypeName-F.ArrayOf item)

pub width-Void : type_width ty.Void ≡ 0
width-Void = ap type_width (sym ty.rolls-Void) ∙ fold-roll-TypeName _ type_width_step TypeName-F.Void

base_width : {base : TypeName} {ts : List Token} → BaseType base ts → type_width base ≡ 0
base_width (types.primitive {t} _) = width-Prim t.text
base_width (types.named {q} _) = width-Named q

pub array_width : {base : TypeName} {ts : List Token} (n : ℕ) → BaseType base ts → type_width (array_of n base) ≡ n
array_width zero b = base_width b
array_width {base} (suc n) b = width-ArrayOf (array_of n base) ∙ ap suc (array_width n b)

pub whole_width : {limit : ℕ} {to : TypeName} {ts : List Token} → WholeType limit to ts → type_width to ≤ limit
whole_width (types.whole {n = n} b _ few) = omega (arith, array_width n b)
