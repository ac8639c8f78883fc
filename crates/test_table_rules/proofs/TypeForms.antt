-- Types that have their form, and such that have none.
use Rattle.std.specs.Prelude.{◌≡◌, ℕ, ◌+◌, Bool, true, false, ◌&&◌, ◌||◌, nat_le, List, []}
use Rattle.std.proofs.Common.{refl, sym, ap, ◌∙◌}
use Rattle.mol_base.specs.declared.ident.Id.{Id}
use Rattle.mol_values_types.specs.TokenForms.{is_dotted, is_empty}
use Rattle.mol_table_rules.specs.TypeForms.{array_step, class_step, dimensions, dimensions_step, is_array, is_class}
use Rattle.mol_table_rules.specs.TypeForms.{is_outside_class, is_result, is_type, is_void, named_step, outside_step, void_step}
use Rattle.mol_values_types.specs.declared.itype.IType.{IType, fold-IType}
use Rattle.mol_values_types.specs.declared.itype.IType.TheFolds.{fold-roll-IType, map-IType}
use Rattle.mol_values_types.specs.declared.itype.IType.TheOpen.{IType-F}
use Rattle.mol_values_types.specs.declared.itype.IType.TheVariants as types
use Rattle.mol_values_types.specs.declared.itype.IType.TheViews.{roll-IType}
use Rattle.test_table_rules.proofs.Given.{both, never}
use Rattle.test_table_rules.proofs.TokenForms.{no_dotted}

-- what a fold makes of a type
pub folded : {A : Type 0} (step : IType-F A → A) (ty : IType) (x : IType-F IType) → roll-IType x ≡ ty
    → fold-IType A step ty ≡ step (map-IType _ _ (fold-IType A step) x)
folded {A = A} step ty x is = ap (fold-IType A step) (sym is) ∙ fold-roll-IType A step x

abbrev is_named : IType → Bool
is_named = fold-IType Bool named_step

-- names that are none, and few dimensions
unnamed : (ty : IType) → is_named ty ≡ false → is_type ty ≡ false
unnamed ty none = ap (λ b. b && nat_le (dimensions ty) 255) none

-- ---- a type names classes outside by dotted names, and has no `void` in it

named-void : is_named types.Void ≡ false
named-void = folded named_step types.Void IType-F.Void types.rolls-Void

named-int : is_named types.Int ≡ true
named-int = folded named_step types.Int IType-F.Int types.rolls-Int

pub no_void : is_type types.Void ≡ false
no_void = unnamed types.Void named-void

array_of_void : is_type (types.Array types.Void) ≡ false
array_of_void =
    unnamed (types.Array types.Void)
    (folded named_step (types.Array types.Void) (IType-F.Array types.Void) (types.rolls-Array types.Void) ∙ named-void)

no_written_name : is_type (types.Written []) ≡ false
no_written_name =
    unnamed (types.Written []) (folded named_step (types.Written []) (IType-F.Written []) (types.rolls-Written []) ∙ no_dotted)

no_imported_name : (rest : List ℕ) → is_type (types.Imported [] rest) ≡ false
no_imported_name rest =
    unnamed (types.Imported [] rest)
    (folded named_step (types.Imported [] rest) (IType-F.Imported [] rest) (types.rolls-Imported [] rest)
    ∙ ap (λ b. b && (is_empty rest || is_dotted rest)) no_dotted)

pub int_type : is_type types.Int ≡ true
int_type = both _ _ named-int (ap (λ n. nat_le n 255) (folded dimensions_step types.Int IType-F.Int types.rolls-Int))

-- ---- it has at most 255 dimensions

array-dimensions : (item : IType) (n : ℕ) → dimensions item ≡ n → dimensions (types.Array item) ≡ n + 1
array-dimensions item n is =
    folded dimensions_step (types.Array item) (IType-F.Array item) (types.rolls-Array item) ∙ ap (λ m. m + 1) is

-- one more than 255
too_many_dimensions : (item : IType) → dimensions item ≡ 255 → is_type (types.Array item) ≡ false
too_many_dimensions item is =
    ap (λ n. is_named (types.Array item) && nat_le n 255) (array-dimensions item 255 is) ∙ never (is_named (types.Array item))

pub int_array : is_type (types.Array types.Int) ≡ true
int_array =
    both _ _ (folded named_step (types.Array types.Int) (IType-F.Array types.Int) (types.rolls-Array types.Int) ∙ named-int)
    (ap (λ n. nat_le n 255) (array-dimensions types.Int 0 (folded dimensions_step types.Int IType-F.Int types.rolls-Int)))

-- ---- `void` is a result

pub int_result : is_result types.Int ≡ true
int_result = second (is_void types.Int) _ int_type where
  second : (a b : Bool) → b ≡ true → (a || b) ≡ true
  second true b is = refl
  second false b is = is

pub no_void_int : is_void types.Int ≡ false
no_void_int = folded void_step types.Int IType-F.Int types.rolls-Int

pub void_result : is_void types.Void ≡ true
void_result = folded void_step types.Void IType-F.Void types.rolls-Void

array_of_void_result : is_result (types.Array types.Void) ≡ false
array_of_void_result =
    ap (λ b. b || is_type (types.Array types.Void))
    (folded void_step (types.Array types.Void) (IType-F.Array types.Void) (types.rolls-Array types.Void))
    ∙ array_of_void

-- ---- a superclass is a class

pub no_outside : is_outside_class types.Int ≡ false
no_outside = ap (λ b. b && is_type types.Int) (folded outside_step types.Int IType-F.Int types.rolls-Int)

pub no_class : is_class types.Int ≡ false
no_class = ap (λ b. b || is_outside_class types.Int) (folded class_step types.Int IType-F.Int types.rolls-Int) ∙ no_outside

pub class_of_the_program : (id : Id) → is_class (types.Class id) ≡ true
class_of_the_program id =
    ap (λ b. b || is_outside_class (types.Class id)) (folded class_step (types.Class id) (IType-F.Class id) (types.rolls-Class id))

-- ---- arrays

pub no_array : is_array types.Int ≡ false
no_array = folded array_step types.Int IType-F.Int types.rolls-Int

pub an_array : is_array (types.Array types.Int) ≡ true
an_array = folded array_step (types.Array types.Int) (IType-F.Array types.Int) (types.rolls-Array types.Int)
