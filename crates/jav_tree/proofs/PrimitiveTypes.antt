-- Which types are primitive, case by case.
use Rattle.std.proofs.Common.{◌≡◌, ℕ, List, true, false, refl}
use Rattle.jav_tree.specs.declared.types.TypeName.{TypeName}
use Rattle.jav_tree.specs.declared.types.TypeName.TheVariants as ty
use Rattle.jav_tree.specs.Types.{is_primitive}

pub primitive-Prim : (text : List ℕ) → is_primitive (ty.Prim text) ≡ true
unfolding Rattle.jav_tree.specs.declared.types.TypeName.TheViews.out-TypeName denote.Hole.Carrier.out
primitive-Prim text = refl

pub primitive-Named : (q : List ℕ) → is_primitive (ty.Named q) ≡ false
unfolding Rattle.jav_tree.specs.declared.types.TypeName.TheViews.out-TypeName denote.Hole.Carrier.out
primitive-Named q = refl

pub primitive-ArrayOf : (item : TypeName) → is_primitive (ty.ArrayOf item) ≡ false
unfolding Rattle.jav_tree.specs.declared.types.TypeName.TheViews.out-TypeName denote.Hole.Carrier.out
primitive-ArrayOf item = refl

pub primitive-Void : is_primitive ty.Void ≡ false
unfolding Rattle.jav_tree.specs.declared.types.TypeName.TheViews.out-TypeName denote.Hole.Carrier.out
primitive-Void = refl
