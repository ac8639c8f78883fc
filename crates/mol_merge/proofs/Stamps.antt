-- The stamps of last writers, in order.
use Rattle.std.proofs.Common.{◌≡◌, ◌∙◌, ◌<◌, ◌+◌, ℕ, Bool, true, List, [], ◌∷◌, ◌++◌, Contains, length, take, get_or, append_assoc, append-nil, rules, sym, ap}
use Rattle.std.proofs.lemmas.List.{take_more}
use Rattle.std.specs.Cmp.Rules.{comparing}
use Rattle.std.specs.List.{flat_map}
use Rattle.std.specs.List.Sorted.{IsStrictlySortedBy}
use Rattle.std.specs.Option.{option_to_list}
use Rattle.std.specs.Ordering.{eq_by_cmp}
use Rattle.std.specs.Prelude.{◌↔◌, Option}
use Rattle.jav_names.specs.Views.{IsKeyOrder}
use Rattle.mol_base.specs.Order.{stamp_cmp, stamp_cmp-total, stamp_cmp-IsAntisymmetric}
use Rattle.mol_base.specs.contracts.ident.StampPartialEq as stamps
use Rattle.mol_base.specs.declared.ident.Stamp.{Stamp}
use Rattle.mol_spell_rules.proofs.SetItems.{set-is}
use Rattle.mol_spell_rules.specs.Sets.{as_set}
use Rattle.mol_table_rules.proofs.Counts.{tied}

pub stamp_order : IsKeyOrder stamp_cmp
stamp_order = record { total = stamp_cmp-total; same = stamp_cmp-IsAntisymmetric }

flat-push : {X Y : Type 0} (f : X → List Y) (xs : List X) (x : X) → flat_map f (xs ++ x ∷ []) ≡ flat_map f xs ++ f x
flat-push f [] x = append-nil (f x)
flat-push f (y ∷ xs) x = ap (λ rest. f y ++ rest) (flat-push f xs x) ∙ sym (append_assoc (f y) (flat_map f xs) (f x))

-- what one item more gives comes last
pub flat-more : {X Y : Type 0} (f : X → List Y) (xs : List X) (i : ℕ) (d : X) → i < length xs
    → flat_map f (take (i + 1) xs) ≡ flat_map f (take i xs) ++ f (get_or xs i d)
flat-more f xs i d within = ap (flat_map f) (take_more xs i d within) ∙ flat-push f (take i xs) (get_or xs i d)

pub flat-next : {X Y : Type 0} (f : X → List Y) (xs : List X) (i : ℕ) (x : X) → i < length xs → x ≡ get_or xs i x
    → flat_map f (take (i + 1) xs) ≡ flat_map f (take i xs) ++ f x
flat-next f xs i x within is = flat-more f xs i x within ∙ ap (λ y. flat_map f (take i xs) ++ f y) (sym is)

-- what two give comes one behind the other
pub two-added : {X : Type 0} (before first second : List X) (one other : Option X) → first ≡ before ++ option_to_list one
    → second ≡ first ++ option_to_list other → second ≡ before ++ (option_to_list one ++ option_to_list other)
two-added before first second one other is then =
    then ∙ ap (λ xs. xs ++ option_to_list other) is ∙ append_assoc before (option_to_list one) (option_to_list other)

-- ---- stamps in order, each once

abbrev stamp_eq : Stamp → Stamp → Bool
stamp_eq = stamps.TheImpl.eq-value.it

stamp_ties : (x y : Stamp) → stamp_eq x y ≡ eq_by_cmp stamp_cmp x y
stamp_ties = search (comparing, rules) depth 9

pub same-stamp : (first second : Stamp) → stamp_eq first second ≡ true → first ≡ second
same-stamp first second is =
    stamp_cmp-IsAntisymmetric first second (tied (stamp_cmp first second) (sym (stamp_ties first second) ∙ is))

pub in-order-is : (found kept ordered : List Stamp) → kept ≡ found → IsStrictlySortedBy stamp_cmp ordered
    → ((stamp : Stamp) → Contains ordered stamp ↔ Contains kept stamp) → ordered ≡ as_set stamp_cmp found
in-order-is found kept ordered is up same =
    sym (set-is stamp_cmp stamp_order kept ordered up (λ stamp. ((same stamp).1, (same stamp).0))) ∙ ap (as_set stamp_cmp) is
