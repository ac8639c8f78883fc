-- An entry with the key that is looked for has what the map has there.
use Rattle.std.proofs.Common.{◌≡◌, ◌∙◌, sym, subst, refl, Bool, true, List, Some}
use Rattle.std.specs.declared.cmp.Ordering.{Ordering}
use Rattle.std.specs.declared.cmp.Ordering.TheVariants.{Less, Equal, Greater}
use Rattle.std.specs.Ordering.{eq_by_cmp, is_eq}
use Rattle.std.specs.Cmp.{IsTotalOrder}
use Rattle.std.specs.Map.{lookup}
use Rattle.std.specs.FinMap.{IsAntisymmetric, get, from_entries}
use Rattle.mol_values_types.proofs.Lookups.{get_is}

tied-equal : (o : Ordering) → is_eq o ≡ true → o ≡ Equal
tied-equal Less e = absurd cc
tied-equal Equal e = refl
tied-equal Greater e = absurd cc

pub entry-found : {K X : Type 0} (R : K → K → Ordering) (eq : K → K → Bool) → ((x y : K) → eq x y ≡ eq_by_cmp R x y) → IsTotalOrder R → IsAntisymmetric R
    → (es : List (K × X)) (at key : K) (x : X) → lookup (eq at) es ≡ Some x → eq at key ≡ true → Some x ≡ get (from_entries {R = R} es) key
entry-found R eq ties total same es at key x is tied =
    subst (λ k. Some x ≡ get (from_entries {R = R} es) k) (same at key (tied-equal (R at key) (sym (ties at key) ∙ tied)))
    (sym is ∙ get_is R eq ties total at es)
