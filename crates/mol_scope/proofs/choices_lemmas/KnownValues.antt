-- In a program no static type is unread.
use Rattle.std.proofs.Common.{◌≡◌, ℕ, zero, suc, false, ◌||◌, refl, ap, subst, ◌∙◌}
use Rattle.jav_names.specs.StaticTypes.{is_unread, are_unread}
use Rattle.jav_names.specs.Views.{ViewType}
use Rattle.mol_base.specs.declared.ident.Id.{Id}
use Rattle.mol_resolve_rules.specs.ProgramViews.{seen, seen_step}
use Rattle.mol_resolve_rules.specs.ReadTrees.{arrays}
use Rattle.mol_scope.specs.types.Kept.{view_value}
use Rattle.mol_scope.specs.declared.types.static_type.StaticType.{StaticType}
use Rattle.mol_scope.specs.declared.types.static_type.StaticType.TheVariants as static
use Rattle.mol_values_types.specs.declared.itype.IType.{IType}
use Rattle.mol_values_types.specs.declared.itype.IType.TheFolds.{fold-roll-IType, ind-IType, map-IType}
use Rattle.mol_values_types.specs.declared.itype.IType.TheOpen.{IType-F}
use Rattle.mol_values_types.specs.declared.itype.IType.TheViews.{roll-IType}

abbrev IsKnown : IType → Type 0
IsKnown type = is_unread (seen type) ≡ false

from : (x : IType-F IType) → is_unread (seen_step (map-IType _ _ seen x)) ≡ false → IsKnown (roll-IType x)
from x known = ap is_unread (fold-roll-IType (ViewType Id) seen_step x) ∙ known

layer : (y : IType-F ((type : IType) × IsKnown type)) → IsKnown (roll-IType (map-IType _ _ (λ p. p.0) y))
layer (IType-F.Array item) = from (IType-F.Array item.0) item.1
layer IType-F.Boolean = from IType-F.Boolean refl
layer IType-F.Byte = from IType-F.Byte refl
layer IType-F.Short = from IType-F.Short refl
layer IType-F.Char = from IType-F.Char refl
layer IType-F.Int = from IType-F.Int refl
layer IType-F.Long = from IType-F.Long refl
layer IType-F.Void = from IType-F.Void refl
layer (IType-F.Class class) = from (IType-F.Class class) refl
layer (IType-F.Imported import rest) = from (IType-F.Imported import rest) refl
layer (IType-F.Written text) = from (IType-F.Written text) refl

type-known : (type : IType) → is_unread (seen type) ≡ false
type-known = ind-IType IsKnown (λ x y is. subst (λ z. IsKnown (roll-IType z)) is (layer y))

arrays-known : (count : ℕ) (type : IType) → is_unread (arrays count (seen type)) ≡ false
arrays-known zero type = type-known type
arrays-known (suc count) type = arrays-known count type

pub values-known : (first second : StaticType) → are_unread (view_value first) (view_value second) ≡ false
values-known (static.Array first more) (static.Array second further) =
    λ i. arrays-known more first.now i || arrays-known further second.now i
values-known static.Primitive static.Primitive = refl
values-known static.Null static.Null = refl
values-known static.Void static.Void = refl
values-known static.Mixed static.Mixed = refl
values-known static.Outside static.Outside = refl
values-known (static.Class class) (static.Class further) = refl
values-known first second = refl
