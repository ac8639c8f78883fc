-- Types that words spell have the forms of the types in values.
use Rattle.std.proofs.Common.{◌≡◌, ◌⊎◌, inl, inr, ℕ, ◌+◌, ◌≤◌, List, Bool, true, false, refl, sym, ap, ◌∙◌, arith}
use Rattle.std.specs.Prelude.{◌&&◌, ◌||◌, nat_le}
use Rattle.std.proofs.lemmas.Bool.Decides.{nat_tests}
use Rattle.mol_table_rules.specs.TypeForms.{named_step, dimensions_step, dimensions, void_step, array_step, outside_step, class_step}
use Rattle.mol_table_rules.specs.TypeForms.{is_type, is_void, is_result, is_array, is_outside_class, is_class}
use Rattle.mol_values_types.specs.declared.itype.IType.{IType, fold-IType}
use Rattle.mol_values_types.specs.declared.itype.IType.TheFolds.{fold-roll-IType, map-IType}
use Rattle.mol_values_types.specs.declared.itype.IType.TheOpen.{IType-F}
use Rattle.mol_values_types.specs.declared.itype.IType.TheVariants as types
use Rattle.mol_values_types.specs.declared.itype.IType.TheViews.{roll-IType}
use Rattle.mol_log_words.specs.TypeHeads.{allows_type}
use Rattle.mol_log_words.specs.Types.{IsType, most_dimensions, boolean, byte, short, char, int, long, void, class, imported, written, array}
use Rattle.mol_log_words.specs.Words.{Word}
use Rattle.mol_log_words.specs.declared.type_head.TypeHead.TheVariants as head
use Rattle.mol_log_words.specs.declared.type_role.TypeRole.{TypeRole}
use Rattle.mol_log_words.specs.declared.type_role.TypeRole.TheVariants.{Value, Result, Super, Outside, Item, Array}

-- ---- tests that hold

pub and-of : (a b : Bool) → a ≡ true → b ≡ true → (a && b) ≡ true
and-of a b x y = ap (λ c. c && b) x ∙ y

pub or-left : (a b : Bool) → a ≡ true → (a || b) ≡ true
or-left a b x = ap (λ c. c || b) x

pub or-right : (a b : Bool) → b ≡ true → (a || b) ≡ true
or-right true b x = refl
or-right false b x = x

never : {A : Type 0} {b : Bool} → b ≡ true → b ≡ false → A
never holds fails = let clash = sym holds ∙ fails in absurd cc

most : (n k : ℕ) → n ≤ k → nat_le n k ≡ true
most n k small = grind (arith, nat_tests)

-- ---- what a fold makes of a type

folded : {A : Type 0} (step : IType-F A → A) {ty : IType} (x : IType-F IType) → roll-IType x ≡ ty
    → fold-IType A step ty ≡ step (map-IType _ _ (fold-IType A step) x)
folded {A = A} step x is = ap (fold-IType A step) (sym is) ∙ fold-roll-IType A step x

-- its names have their forms, and there is no `void` in it
named : {r : TypeRole} {k : ℕ} {t : IType} {ts : List Word} → IsType r k t ts → allows_type r head.Void ≡ false
    → fold-IType Bool named_step t ≡ true
named (boolean a) value = folded named_step IType-F.Boolean types.rolls-Boolean
named (byte a) value = folded named_step IType-F.Byte types.rolls-Byte
named (short a) value = folded named_step IType-F.Short types.rolls-Short
named (char a) value = folded named_step IType-F.Char types.rolls-Char
named (int a) value = folded named_step IType-F.Int types.rolls-Int
named (long a) value = folded named_step IType-F.Long types.rolls-Long
named (void a) value = never a value
named (class {id = id} a i) value = folded named_step (IType-F.Class id) (types.rolls-Class id)
named (imported {full = full} {rest = rest} a f g) value =
    folded named_step (IType-F.Imported full rest) (types.rolls-Imported full rest) ∙ and-of _ _ f g
named (written {name = name} a f) value = folded named_step (IType-F.Written name) (types.rolls-Written name) ∙ f
named (array {t = t} a x) value = folded named_step (IType-F.Array t) (types.rolls-Array t) ∙ named x refl

none : (t : IType) (k : ℕ) → dimensions t ≡ 0 → dimensions t ≤ k
none t k e = omega (arith, e)

-- it has at most so many dimensions
dims : {r : TypeRole} {k : ℕ} {t : IType} {ts : List Word} → IsType r k t ts → dimensions t ≤ k
dims (boolean a) = none _ _ (folded dimensions_step IType-F.Boolean types.rolls-Boolean)
dims (byte a) = none _ _ (folded dimensions_step IType-F.Byte types.rolls-Byte)
dims (short a) = none _ _ (folded dimensions_step IType-F.Short types.rolls-Short)
dims (char a) = none _ _ (folded dimensions_step IType-F.Char types.rolls-Char)
dims (int a) = none _ _ (folded dimensions_step IType-F.Int types.rolls-Int)
dims (long a) = none _ _ (folded dimensions_step IType-F.Long types.rolls-Long)
dims (void a) = none _ _ (folded dimensions_step IType-F.Void types.rolls-Void)
dims (class {id = id} a i) = none _ _ (folded dimensions_step (IType-F.Class id) (types.rolls-Class id))
dims (imported {full = full} {rest = rest} a f g) =
    none _ _ (folded dimensions_step (IType-F.Imported full rest) (types.rolls-Imported full rest))
dims (written {name = name} a f) = none _ _ (folded dimensions_step (IType-F.Written name) (types.rolls-Written name))
dims (array {t = t} a x) =
    let more : dimensions (types.Array t) ≡ dimensions t + 1 = folded dimensions_step (IType-F.Array t) (types.rolls-Array t) in
    omega (arith, dims x, more)

-- ---- what may stand where

typed : {r : TypeRole} {t : IType} {ts : List Word} → IsType r most_dimensions t ts → allows_type r head.Void ≡ false → is_type t ≡ true
typed {t = t} x value = and-of _ _ (named x value) (most (dimensions t) 255 (dims x))

pub value_type : {t : IType} {ts : List Word} → IsType Value most_dimensions t ts → is_type t ≡ true
value_type x = typed x refl

void_or_value : {k : ℕ} {t : IType} {ts : List Word} → IsType Result k t ts → (is_void t ≡ true) ⊎ IsType Value k t ts
void_or_value (boolean a) = inr (boolean refl)
void_or_value (byte a) = inr (byte refl)
void_or_value (short a) = inr (short refl)
void_or_value (char a) = inr (char refl)
void_or_value (int a) = inr (int refl)
void_or_value (long a) = inr (long refl)
void_or_value (void a) = inl (folded void_step IType-F.Void types.rolls-Void)
void_or_value (class a i) = inr (class refl i)
void_or_value (imported a f g) = inr (imported refl f g)
void_or_value (written a f) = inr (written refl f)
void_or_value (array a x) = inr (array refl x)

pub result_type : {t : IType} {ts : List Word} → IsType Result most_dimensions t ts → is_result t ≡ true
result_type {t = t} {ts = ts} x = by (void_or_value x) where
  by : (is_void t ≡ true) ⊎ IsType Value most_dimensions t ts → is_result t ≡ true
  by (inl is) = or-left (is_void t) (is_type t) is
  by (inr y) = or-right (is_void t) (is_type t) (value_type y)

outside : {k : ℕ} {t : IType} {ts : List Word} → IsType Outside k t ts → fold-IType Bool outside_step t ≡ true
outside (boolean a) = never a refl
outside (byte a) = never a refl
outside (short a) = never a refl
outside (char a) = never a refl
outside (int a) = never a refl
outside (long a) = never a refl
outside (void a) = never a refl
outside (class a i) = never a refl
outside (imported {full = full} {rest = rest} a f g) = folded outside_step (IType-F.Imported full rest) (types.rolls-Imported full rest)
outside (written {name = name} a f) = folded outside_step (IType-F.Written name) (types.rolls-Written name)
outside (array a x) = never a refl

pub outside_type : {t : IType} {ts : List Word} → IsType Outside most_dimensions t ts → is_outside_class t ≡ true
outside_type x = and-of _ _ (outside x) (typed x refl)

pub parent_type : {t : IType} {ts : List Word} → IsType Super most_dimensions t ts → is_class t ≡ true
parent_type (boolean a) = never a refl
parent_type (byte a) = never a refl
parent_type (short a) = never a refl
parent_type (char a) = never a refl
parent_type (int a) = never a refl
parent_type (long a) = never a refl
parent_type (void a) = never a refl
parent_type (class {id = id} a i) = or-left _ _ (folded class_step (IType-F.Class id) (types.rolls-Class id))
parent_type (imported a f g) = or-right _ _ (outside_type (imported refl f g))
parent_type (written a f) = or-right _ _ (outside_type (written refl f))
parent_type (array a x) = never a refl

pub item_type : {t : IType} {ts : List Word} → IsType Item most_dimensions t ts → is_type t ≡ true
item_type x = typed x refl

pub no_array : {k : ℕ} {t : IType} {ts : List Word} → IsType Item k t ts → is_array t ≡ false
no_array (boolean a) = folded array_step IType-F.Boolean types.rolls-Boolean
no_array (byte a) = folded array_step IType-F.Byte types.rolls-Byte
no_array (short a) = folded array_step IType-F.Short types.rolls-Short
no_array (char a) = folded array_step IType-F.Char types.rolls-Char
no_array (int a) = folded array_step IType-F.Int types.rolls-Int
no_array (long a) = folded array_step IType-F.Long types.rolls-Long
no_array (void a) = never a refl
no_array (class {id = id} a i) = folded array_step (IType-F.Class id) (types.rolls-Class id)
no_array (imported {full = full} {rest = rest} a f g) = folded array_step (IType-F.Imported full rest) (types.rolls-Imported full rest)
no_array (written {name = name} a f) = folded array_step (IType-F.Written name) (types.rolls-Written name)
no_array (array a x) = never a refl

pub array_type : {t : IType} {ts : List Word} → IsType Array most_dimensions t ts → is_type t ≡ true
array_type x = typed x refl

pub an_array : {k : ℕ} {t : IType} {ts : List Word} → IsType Array k t ts → is_array t ≡ true
an_array (boolean a) = never a refl
an_array (byte a) = never a refl
an_array (short a) = never a refl
an_array (char a) = never a refl
an_array (int a) = never a refl
an_array (long a) = never a refl
an_array (void a) = never a refl
an_array (class a i) = never a refl
an_array (imported a f g) = never a refl
an_array (written a f) = never a refl
an_array (array {t = t} a x) = folded array_step (IType-F.Array t) (types.rolls-Array t)
