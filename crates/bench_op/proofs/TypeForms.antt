-- `int` is a type, and `void` a result.
use Rattle.std.specs.Prelude.{◌≡◌, ℕ, Bool, true, ◌&&◌, ◌||◌, nat_le}
use Rattle.std.proofs.Common.{sym, ap, ◌∙◌}
use Rattle.mol_table_rules.specs.TypeForms.{dimensions_step, is_result, is_type, named_step, void_step}
use Rattle.mol_values_types.specs.declared.itype.IType.{IType, fold-IType}
use Rattle.mol_values_types.specs.declared.itype.IType.TheFolds.{fold-roll-IType, map-IType}
use Rattle.mol_values_types.specs.declared.itype.IType.TheOpen.{IType-F}
use Rattle.mol_values_types.specs.declared.itype.IType.TheVariants as types
use Rattle.mol_values_types.specs.declared.itype.IType.TheViews.{roll-IType}

-- what a fold makes of a type
folded : {A : Type 0} (step : IType-F A → A) (ty : IType) (x : IType-F IType) → roll-IType x ≡ ty
    → fold-IType A step ty ≡ step (map-IType _ _ (fold-IType A step) x)
folded {A = A} step ty x is = ap (fold-IType A step) (sym is) ∙ fold-roll-IType A step x

pub int_type : is_type types.Int ≡ true
int_type = λ i. folded named_step types.Int IType-F.Int types.rolls-Int i
    && nat_le (folded dimensions_step types.Int IType-F.Int types.rolls-Int i) 255

pub void_result : is_result types.Void ≡ true
void_result = ap (λ b. b || is_type types.Void) (folded void_step types.Void IType-F.Void types.rolls-Void)
