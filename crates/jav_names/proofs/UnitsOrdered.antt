-- The view of source files is in the order of its keys.
use Rattle.std.proofs.Common.{◌≡◌, ℕ, ◌+◌, ◌<◌, ◌≤◌, List, [], ◌∷◌, ◌++◌, map, Option, Some, None, flat_map, filter_map, refl, sym, ◌∙◌, ap, arith, Ordering, Less, Equal, Greater, nat_cmp}
use Rattle.std.specs.FinMap.{IsAntisymmetric, nat_cmp-IsAntisymmetric}
use Rattle.std.specs.List.{AllByRecursion, enumerate_from, cons_option}
use Rattle.std.specs.List.Sorted.{IsStrictlySortedBy}
use Rattle.std.specs.Ordering.{on, ordering_then}
use Rattle.std.proofs.lemmas.Bool.{lt-ltb}
use Rattle.std.proofs.lemmas.Cmp.{on_total, then_total, nat_cmp_total, tied_itself}
use Rattle.jav_tree.specs.declared.unit.Member.{Member}
use Rattle.jav_tree.specs.declared.unit.Member.TheVariants as member
use Rattle.jav_tree.specs.declared.unit.Unit.{Unit as Source}
use Rattle.jav_names.specs.UnitViews.{MemberKey, member_key_cmp, class_of, classes_of, field_in, declaration_in, view_of}
use Rattle.jav_names.specs.Views.{ViewClass, ViewField, ViewDeclaration, IsKeyOrder, AreOrdered, IsOrdered, Classes}

-- ---- the orders of keys

pub nat_cmp-IsKeyOrder : IsKeyOrder nat_cmp
nat_cmp-IsKeyOrder = record { total = nat_cmp_total; same = nat_cmp-IsAntisymmetric }

pub member_key_cmp-IsKeyOrder : IsKeyOrder member_key_cmp
member_key_cmp-IsKeyOrder =
    record { total = then_total (on_total (λ key. key.unit) nat_cmp_total) (on_total (λ key. key.member) nat_cmp_total); same = same } where
      then_both : (a b : Ordering) → ordering_then a b ≡ Equal → (a ≡ Equal) × (b ≡ Equal)
      then_both Less b e = absurd cc
      then_both Equal b e = (refl, e)
      then_both Greater b e = absurd cc

      same : IsAntisymmetric member_key_cmp
      same x y tied =
          let parts = then_both (nat_cmp x.unit y.unit) (nat_cmp x.member y.member) tied in
          let unit = nat_cmp-IsAntisymmetric x.unit y.unit parts.0 in
          let number = nat_cmp-IsAntisymmetric x.member y.member parts.1 in
          λ i. record { unit = unit i; member = number i }

less : (a b : ℕ) → a < b → nat_cmp a b ≡ Less
less a b below = rw (lt-ltb a b below) refl

-- ---- lists that ascend

-- weaker facts, and facts of each
pub each-weaker : {X : Type 0} (P Q : X → Type 0) → ((x : X) → P x → Q x) → (xs : List X) → AllByRecursion P xs → AllByRecursion Q xs
each-weaker P Q weaker [] all = tt
each-weaker P Q weaker (x ∷ xs) all = (weaker x all.0, each-weaker P Q weaker xs all.1)

pub each-append : {X : Type 0} (P : X → Type 0) (front back : List X) → AllByRecursion P front → AllByRecursion P back
    → AllByRecursion P (front ++ back)
each-append P [] back of-front of-back = of-back
each-append P (x ∷ front) back of-front of-back = (of-front.0, each-append P front back of-front.1 of-back)

pub ascending-append : {X : Type 0} (cmp : X → X → Ordering) (xs ys : List X) → IsStrictlySortedBy cmp xs → IsStrictlySortedBy cmp ys
    → AllByRecursion (λ x. AllByRecursion (λ y. cmp x y ≡ Less) ys) xs → IsStrictlySortedBy cmp (xs ++ ys)
unfolding IsStrictlySortedBy
ascending-append cmp [] ys up-xs up-ys below = up-ys
ascending-append {X} cmp (x ∷ xs) ys up-xs up-ys below =
    (each-append (λ y. cmp x y ≡ Less) xs ys up-xs.0 below.0, ascending-append cmp xs ys up-xs.1 up-ys below.1)

-- ---- classes

classes-from : (n : ℕ) (units : List Source) → AllByRecursion (λ (c : ViewClass ℕ). n ≤ c.key) (map class_of (enumerate_from n units))
classes-from n [] = tt
classes-from n (u ∷ units) = (
  omega arith,
  each-weaker (λ (c : ViewClass ℕ). n + 1 ≤ c.key) (λ (c : ViewClass ℕ). n ≤ c.key) (λ c above. omega (arith, above))
      (map class_of (enumerate_from (n + 1) units)) (classes-from (n + 1) units),
)

classes-ascend : (n : ℕ) (units : List Source)
    → IsStrictlySortedBy (on (λ (c : ViewClass ℕ). c.key) nat_cmp) (map class_of (enumerate_from n units))
unfolding IsStrictlySortedBy
classes-ascend n [] = tt
classes-ascend n (u ∷ units) = (
  each-weaker (λ (c : ViewClass ℕ). n + 1 ≤ c.key) (λ (c : ViewClass ℕ). nat_cmp n c.key ≡ Less)
      (λ c above. less n c.key (omega (arith, above)))
      (map class_of (enumerate_from (n + 1) units)) (classes-from (n + 1) units),
  classes-ascend (n + 1) units,
)

pub classes_of-ordered : (units : List Source) → AreOrdered (classes_of units)
classes_of-ordered units = record { order = nat_cmp-IsKeyOrder; ascending = classes-ascend 0 units }

-- ---- members

-- Members of a file that are made of its numbered members, each with the file's number and its own.
module _ {X : Type 0} (key : X → MemberKey) where
  -- a member of this file, with at least this number
  abbrev IsFrom : ℕ → ℕ → X → Type 0
  IsFrom unit n x = ((key x).unit ≡ unit) × (n ≤ (key x).member)

  less-member : (x y : X) → (key x).unit ≡ (key y).unit → (key x).member < (key y).member → on key member_key_cmp x y ≡ Less
  less-member x y same below = rw (same, tied_itself nat_cmp_total (key y).unit) (less (key x).member (key y).member below)

  less-unit : (x y : X) → (key x).unit < (key y).unit → on key member_key_cmp x y ≡ Less
  less-unit x y below = rw (less (key x).unit (key y).unit below) refl

  module _ (unit : ℕ) (made : ℕ × Member → Option X)
      (keyed : (n : ℕ) (m : Member) (x : X) → made (n, m) ≡ Some x → key x ≡ record { unit = unit; member = n }) where
    members-from : (n : ℕ) (members : List Member) → AllByRecursion (IsFrom unit n) (filter_map made (enumerate_from n members))
    members-from n [] = tt
    members-from n (m ∷ members) =
        by_made (made (n, m)) refl
        (each-weaker (IsFrom unit (n + 1)) (IsFrom unit n) (λ x from. (from.0, omega (arith, from.1)))
        (filter_map made (enumerate_from (n + 1) members)) (members-from (n + 1) members)) where
          by_made : (o : Option X) → made (n, m) ≡ o → AllByRecursion (IsFrom unit n) (filter_map made (enumerate_from (n + 1) members))
              → AllByRecursion (IsFrom unit n) (cons_option o (filter_map made (enumerate_from (n + 1) members)))
          by_made None none rest = rest
          by_made (Some x) is rest =
              ((ap (λ k. k.unit) (keyed n m x is), omega (arith, ap (λ (k : MemberKey). k.member) (keyed n m x is))), rest)

    members-ascend : (n : ℕ) (members : List Member)
        → IsStrictlySortedBy (on key member_key_cmp) (filter_map made (enumerate_from n members))
    unfolding IsStrictlySortedBy
    members-ascend n [] = tt
    members-ascend n (m ∷ members) = by_made (made (n, m)) refl (members-ascend (n + 1) members) where
      by_made : (o : Option X) → made (n, m) ≡ o
          → IsStrictlySortedBy (on key member_key_cmp) (filter_map made (enumerate_from (n + 1) members))
          → IsStrictlySortedBy (on key member_key_cmp) (cons_option o (filter_map made (enumerate_from (n + 1) members)))
      by_made None none up = up
      by_made (Some x) is up = (
        each-weaker (IsFrom unit (n + 1)) (λ y. on key member_key_cmp x y ≡ Less) after
            (filter_map made (enumerate_from (n + 1) members)) (members-from (n + 1) members),
        up,
      ) where
        after : (y : X) → IsFrom unit (n + 1) y → on key member_key_cmp x y ≡ Less
        after y from = less-member x y (ap (λ k. k.unit) (keyed n m x is) ∙ sym from.0)
            (omega (arith, from.1, ap (λ (k : MemberKey). k.member) (keyed n m x is)))

  module _ (made : ℕ × Source → ℕ × Member → Option X)
      (keyed : (u : ℕ × Source) (n : ℕ) (m : Member) (x : X) → made u (n, m) ≡ Some x → key x ≡ record { unit = u.0; member = n }) where
    abbrev of_unit : ℕ × Source → List X
    of_unit u = filter_map (made u) (enumerate_from 0 u.1.class.members)

    units-from : (n : ℕ) (units : List Source) → AllByRecursion (λ x. n ≤ (key x).unit) (flat_map of_unit (enumerate_from n units))
    units-from n [] = tt
    units-from n (u ∷ units) = each-append (λ x. n ≤ (key x).unit) (of_unit (n, u)) (flat_map of_unit (enumerate_from (n + 1) units))
        (each-weaker (IsFrom n 0) (λ x. n ≤ (key x).unit) (λ x from. omega (arith, from.0)) (of_unit (n, u))
        (members-from n (made (n, u)) (keyed (n, u)) 0 u.class.members))
        (each-weaker (λ x. n + 1 ≤ (key x).unit) (λ x. n ≤ (key x).unit) (λ x above. omega (arith, above))
        (flat_map of_unit (enumerate_from (n + 1) units)) (units-from (n + 1) units))

    units-ascend : (n : ℕ) (units : List Source) → IsStrictlySortedBy (on key member_key_cmp) (flat_map of_unit (enumerate_from n units))
    unfolding IsStrictlySortedBy
    units-ascend n [] = tt
    units-ascend n (u ∷ units) = ascending-append (on key member_key_cmp) (of_unit (n, u)) (flat_map of_unit (enumerate_from (n + 1) units))
        (members-ascend n (made (n, u)) (keyed (n, u)) 0 u.class.members) (units-ascend (n + 1) units)
        (each-weaker (IsFrom n 0)
        (λ x. AllByRecursion (λ y. on key member_key_cmp x y ≡ Less) (flat_map of_unit (enumerate_from (n + 1) units))) before
        (of_unit (n, u))
        (members-from n (made (n, u)) (keyed (n, u)) 0 u.class.members)) where
          before : (x : X) → IsFrom n 0 x
              → AllByRecursion (λ y. on key member_key_cmp x y ≡ Less) (flat_map of_unit (enumerate_from (n + 1) units))
          before x from = each-weaker (λ y. n + 1 ≤ (key y).unit) (λ y. on key member_key_cmp x y ≡ Less)
              (λ y above. less-unit x y (omega (arith, from.0, above)))
              (flat_map of_unit (enumerate_from (n + 1) units)) (units-from (n + 1) units)

key-some : {X : Type 0} (key : X → MemberKey) (x y : X) → Some x ≡ Some y → key y ≡ key x
key-some key x y is = let same : x ≡ y = cc in ap key (sym same)

field_in-keyed : (classes : Classes ℕ) (u : ℕ × Source) (n : ℕ) (m : Member) (x : ViewField ℕ MemberKey) → field_in
    classes u (n, m) ≡ Some x → x.key ≡ record { unit = u.0; member = n }
field_in-keyed classes u n (member.Field f) x is = key-some (λ (y : ViewField ℕ MemberKey). y.key) _ x is
field_in-keyed classes u n (member.Method m) x is = absurd cc
field_in-keyed classes u n (member.Ctor c) x is = absurd cc

declaration_in-keyed : (classes : Classes ℕ) (u : ℕ × Source) (n : ℕ) (m : Member) (x : ViewDeclaration ℕ MemberKey) → declaration_in
    classes u (n, m) ≡ Some x → x.key ≡ record { unit = u.0; member = n }
declaration_in-keyed classes u n (member.Field f) x is = absurd cc
declaration_in-keyed classes u n (member.Method m) x is = key-some (λ (y : ViewDeclaration ℕ MemberKey). y.key) _ x is
declaration_in-keyed classes u n (member.Ctor c) x is = key-some (λ (y : ViewDeclaration ℕ MemberKey). y.key) _ x is

pub view_of_ordered : (units : List Source) → IsOrdered (view_of units)
view_of_ordered units = record {
  classes = classes_of-ordered units;
  order = member_key_cmp-IsKeyOrder;
  fields = units-ascend (λ (f : ViewField ℕ MemberKey). f.key) (field_in (classes_of units)) (field_in-keyed (classes_of units)) 0 units;
  declarations = units-ascend (λ (d : ViewDeclaration ℕ MemberKey). d.key) (declaration_in (classes_of units))
      (declaration_in-keyed (classes_of units)) 0 units;
}
