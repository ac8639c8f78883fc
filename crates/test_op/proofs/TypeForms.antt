-- The types that are read have their forms.
use Rattle.std.specs.Prelude.{◌≡◌, ℕ, Bool, true, false, ◌&&◌, ◌||◌, nat_le, List}
use Rattle.std.proofs.Common.{refl, sym, ap, ◌∙◌}
use Rattle.mol_base.specs.declared.ident.Id.{Id}
use Rattle.mol_values_types.specs.TokenForms.{is_dotted}
use Rattle.mol_table_rules.specs.TypeForms.{class_step, dimensions_step, is_class, is_outside_class, is_result, is_type, is_void}
use Rattle.mol_table_rules.specs.TypeForms.{named_step, void_step}
use Rattle.mol_values_types.specs.declared.itype.IType.{IType, fold-IType}
use Rattle.mol_values_types.specs.declared.itype.IType.TheFolds.{fold-roll-IType, map-IType}
use Rattle.mol_values_types.specs.declared.itype.IType.TheOpen.{IType-F}
use Rattle.mol_values_types.specs.declared.itype.IType.TheVariants as types
use Rattle.mol_values_types.specs.declared.itype.IType.TheViews.{roll-IType}

-- what a fold makes of a type
folded : {A : Type 0} (step : IType-F A → A) (ty : IType) (x : IType-F IType) → roll-IType x ≡ ty
    → fold-IType A step ty ≡ step (map-IType _ _ (fold-IType A step) x)
folded {A = A} step ty x is = ap (fold-IType A step) (sym is) ∙ fold-roll-IType A step x

-- what is named and has no dimensions
plain_type : (ty : IType) → fold-IType Bool named_step ty ≡ true → fold-IType ℕ dimensions_step ty ≡ 0 → is_type ty ≡ true
plain_type ty is none = (λ i. is i && nat_le (none i) 255)

pub int_type : is_type types.Int ≡ true
int_type =
    plain_type types.Int (folded named_step types.Int IType-F.Int types.rolls-Int)
    (folded dimensions_step types.Int IType-F.Int types.rolls-Int)

pub long_type : is_type types.Long ≡ true
long_type =
    plain_type types.Long (folded named_step types.Long IType-F.Long types.rolls-Long)
    (folded dimensions_step types.Long IType-F.Long types.rolls-Long)

pub class_type : (id : Id) → is_type (types.Class id) ≡ true
class_type id =
    plain_type (types.Class id) (folded named_step (types.Class id) (IType-F.Class id) (types.rolls-Class id))
    (folded dimensions_step (types.Class id) (IType-F.Class id) (types.rolls-Class id))

pub written_type : (name : List ℕ) → is_dotted name ≡ true → is_type (types.Written name) ≡ true
written_type name dotted =
    plain_type (types.Written name) (folded named_step (types.Written name) (IType-F.Written name) (types.rolls-Written name) ∙ dotted)
    (folded dimensions_step (types.Written name) (IType-F.Written name) (types.rolls-Written name))

pub ruleset read_types = (int_type, long_type, class_type, written_type)

pub class_is_class : (id : Id) → is_class (types.Class id) ≡ true
class_is_class id =
    ap (λ b. b || is_outside_class (types.Class id)) (folded class_step (types.Class id) (IType-F.Class id) (types.rolls-Class id))

pub void_result : is_result types.Void ≡ true
void_result = ap (λ b. b || is_type types.Void) (folded void_step types.Void IType-F.Void types.rolls-Void)

pub type_result : (ty : IType) → is_type ty ≡ true → is_result ty ≡ true
type_result ty is = ap (λ b. is_void ty || b) is ∙ or-true (is_void ty) where
  or-true : (b : Bool) → (b || true) ≡ true
  or-true true = refl
  or-true false = refl
