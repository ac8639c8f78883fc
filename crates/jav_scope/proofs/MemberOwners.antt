-- The owner of a member of source files is the class whose number is in its key.
use Rattle.std.proofs.Common.{◌≡◌, ℕ, ◌+◌, Bool, true, false, cond, List, [], ◌∷◌, Option, Some, None, option_map, find, flat_map, filter_map, refl, ap, subst}
use Rattle.std.specs.List.{AllByRecursion, enumerate_from, cons_option}
use Rattle.jav_tree.specs.declared.unit.Member.{Member}
use Rattle.jav_tree.specs.declared.unit.Member.TheVariants as member
use Rattle.jav_tree.specs.declared.unit.Unit.{Unit}
use Rattle.jav_names.specs.UnitViews.{MemberKey, numbered, field_in, declaration_in, view_of, classes_of}
use Rattle.jav_names.specs.Views.{ViewField, ViewDeclaration, Classes}
use Rattle.jav_names.proofs.UnitsOrdered.{each-append}

-- P holds of all that members are made into
module _ {X : Type 0} (P : X → Type 0) (made : ℕ × Unit → ℕ × Member → Option X)
    (holds : (unit : ℕ × Unit) (at : ℕ × Member) (x : X) → made unit at ≡ Some x → P x) where
  of-members : (unit : ℕ × Unit) (n : ℕ) (members : List Member) → AllByRecursion P (filter_map (made unit) (enumerate_from n members))
  of-members unit n [] = tt
  of-members unit n (m ∷ members) = by_made (made unit (n, m)) refl (of-members unit (n + 1) members) where
    by_made : (o : Option X) → made unit (n, m) ≡ o → AllByRecursion P (filter_map (made unit) (enumerate_from (n + 1) members))
        → AllByRecursion P (cons_option o (filter_map (made unit) (enumerate_from (n + 1) members)))
    by_made None is rest = rest
    by_made (Some x) is rest = (holds unit (n, m) x is, rest)

  of-units : (n : ℕ) (units : List Unit)
      → AllByRecursion P (flat_map (λ (unit : ℕ × Unit). filter_map (made unit) (numbered unit.1.class.members)) (enumerate_from n units))
  of-units n [] = tt
  of-units n (unit ∷ units) = each-append P (filter_map (made (n, unit)) (numbered unit.class.members))
      (flat_map (λ (unit : ℕ × Unit). filter_map (made unit) (numbered unit.1.class.members)) (enumerate_from (n + 1) units))
      (of-members (n, unit) 0 unit.class.members) (of-units (n + 1) units)

-- what is found is made into the same, where that is the same of each
pub same-of_found : {X Y : Type 0} (P : X → Type 0) (f g : X → Y) → ((x : X) → P x → f x ≡ g x) → (p : X → Bool) (xs : List X)
    → AllByRecursion P xs
    → option_map f (find p xs) ≡ option_map g (find p xs)
same-of_found P f g same p [] all = refl
same-of_found {X} {Y} P f g same p (x ∷ xs) all = by_test (p x) (same-of_found P f g same p xs all.1) where
  by_test : (b : Bool) → option_map f (find p xs) ≡ option_map g (find p xs)
      → option_map f (cond b (Some x) (find p xs)) ≡ option_map g (cond b (Some x) (find p xs))
  by_test true more = ap Some (same x all.0)
  by_test false more = more

abbrev pub FieldOwned : ViewField ℕ MemberKey → Type 0
FieldOwned field = field.owner ≡ field.key.unit

abbrev pub DeclarationOwned : ViewDeclaration ℕ MemberKey → Type 0
DeclarationOwned declared = declared.owner ≡ declared.key.unit

-- a fact of what is there is one of what equals it
of-same : {X : Type 0} (P : X → Type 0) (x y : X) → Some x ≡ Some y → P x → P y
of-same P x y is of-x = subst P (let same : x ≡ y = cc in same) of-x

of-field : (classes : Classes ℕ) (unit : ℕ × Unit) (at : ℕ × Member) (x : ViewField ℕ MemberKey) → field_in classes unit at ≡ Some x
    → FieldOwned x
of-field classes unit (n, member.Field field) x is = of-same FieldOwned _ x is refl
of-field classes unit (n, member.Method method) x is = absurd cc
of-field classes unit (n, member.Ctor declared) x is = absurd cc

of-declaration : (classes : Classes ℕ) (unit : ℕ × Unit) (at : ℕ × Member) (x : ViewDeclaration ℕ MemberKey)
    → declaration_in classes unit at ≡ Some x
    → DeclarationOwned x
of-declaration classes unit (n, member.Field field) x is = absurd cc
of-declaration classes unit (n, member.Method method) x is = of-same DeclarationOwned _ x is refl
of-declaration classes unit (n, member.Ctor declared) x is = of-same DeclarationOwned _ x is refl

pub fields-owned : (units : List Unit) → AllByRecursion FieldOwned (view_of units).fields
fields-owned units = of-units FieldOwned (field_in (classes_of units)) (of-field (classes_of units)) 0 units

pub declarations-owned : (units : List Unit) → AllByRecursion DeclarationOwned (view_of units).declarations
declarations-owned units = of-units DeclarationOwned (declaration_in (classes_of units)) (of-declaration (classes_of units)) 0 units
