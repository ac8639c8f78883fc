-- What can be told, and what can be listed.
use Rattle.std.proofs.Common.{◌≡◌, ◌⊎◌, inl, inr, ℕ, Bool, true, false, List, [], ◌∷◌, ◌++◌, map, flat_map, Option, None, Some, slice_get, Contains, refl, sym, ◌∙◌, subst}
use Rattle.std.specs.Cmp.{IsTotalOrder}
use Rattle.std.specs.FinMap.{IsAntisymmetric}
use Rattle.std.specs.Prelude.{◌↔◌}
use Rattle.std.specs.declared.cmp.Ordering.{Ordering}
use Rattle.std.specs.declared.cmp.Ordering.TheVariants.{Less, Equal, Greater}
use Rattle.std.specs.List.{enumerate_from}
use Rattle.std.proofs.lemmas.Cmp.{tied_itself}
use Rattle.std.proofs.lemmas.Option.{same_Some}
use Rattle.jav_names.proofs.Lists.{stands_first, stands_later, stands_nowhere, stands_where, stands-mapped}
use Rattle.mol_resolve_rules.proofs.Stands.{behind, from_each, from_map, from_numbered, in_each, in_either, in_front, in_numbered}

-- # What holds or does not

abbrev pub Told : Type 0 → Type 0
Told P = P ⊎ (P → ⊥)

pub told_alike : {P Q : Type 0} → Told P → (P → Q) → (Q → P) → Told Q
told_alike (inl p) to from = inl (to p)
told_alike (inr fails) to from = inr (λ q. fails (from q))

pub told_both : {P Q : Type 0} → Told P → Told Q → Told (P × Q)
told_both (inl p) (inl q) = inl (p, q)
told_both (inl p) (inr fails) = inr (λ h. fails h.1)
told_both (inr fails) q = inr (λ h. fails h.0)

pub told_either : {P Q : Type 0} → Told P → Told Q → Told (P ⊎ Q)
told_either (inl p) q = inl (inl p)
told_either (inr fails) (inl q) = inl (inr q)
told_either {P} {Q} (inr fails) (inr nor) = inr neither where
  neither : P ⊎ Q → ⊥
  neither (inl p) = fails p
  neither (inr q) = nor q

pub told_not : {P : Type 0} → Told P → Told (P → ⊥)
told_not (inl p) = inr (λ fails. fails p)
told_not (inr fails) = inl fails

pub told_bool : (b c : Bool) → Told (b ≡ c)
told_bool true true = inl refl
told_bool true false = inr (λ is. absurd cc)
told_bool false true = inr (λ is. absurd cc)
told_bool false false = inl refl

pub told_order : (o : Ordering) → Told (o ≡ Less)
told_order Less = inl refl
told_order Equal = inr (λ is. absurd cc)
told_order Greater = inr (λ is. absurd cc)

-- two of one order are the same or not
pub told_same : {K : Type 0} (cmp : K → K → Ordering) → IsTotalOrder cmp → IsAntisymmetric cmp → (x y : K) → Told (x ≡ y)
told_same {K} cmp total only x y = by (cmp x y) refl where
  tied : x ≡ y → cmp x y ≡ Equal
  tied same = subst (λ z. cmp x z ≡ Equal) same (tied_itself total x)

  by : (o : Ordering) → cmp x y ≡ o → Told (x ≡ y)
  by Less is = inr (λ same. let fails : Less ≡ Equal = sym is ∙ tied same in absurd cc)
  by Equal is = inl (only x y is)
  by Greater is = inr (λ same. let fails : Greater ≡ Equal = sym is ∙ tied same in absurd cc)

pub told_option : {A : Type 0} → ((a b : A) → Told (a ≡ b)) → (x y : Option A) → Told (x ≡ y)
told_option told None None = inl refl
told_option told None (Some b) = inr (λ is. absurd cc)
told_option told (Some a) None = inr (λ is. absurd cc)
told_option told (Some a) (Some b) = told_alike (told a b) (λ is i. Some (is i)) (same_Some a b)

-- something holds of what is there
pub told_some : {A : Type 0} {P : A → Type 0} (o : Option A) → ((a : A) → Told (P a)) → Told ((a : A) × (o ≡ Some a) × P a)
told_some None told = inr (λ h. let fails = h.1 in absurd cc)
told_some {A} {P} (Some x) told = by (told x) where
  by : Told (P x) → Told ((a : A) × (Some x ≡ Some a) × P a)
  by (inl p) = inl (x, refl, p)
  by (inr fails) = inr (λ h. fails (subst P (sym (same_Some x h.0 h.1)) h.2))

-- something holds of one of a list
pub told_list : {A : Type 0} {P : A → Type 0} (xs : List A) → ((a : A) → Told (P a)) → Told ((a : A) × Contains xs a × P a)
told_list [] told = inr (λ h. stands_nowhere h.0 h.1)
told_list {A} {P} (x ∷ xs) told = by (told x) (told_list xs told) where
  at : (a : A) → (x ≡ a) ⊎ Contains xs a → P a → (P x → ⊥) → ((a : A) × Contains xs a × P a → ⊥) → ⊥
  at a (inl same) p fails none = fails (subst P (sym same) p)
  at a (inr later) p fails none = none (a, later, p)

  by : Told (P x) → Told ((a : A) × Contains xs a × P a) → Told ((a : A) × Contains (x ∷ xs) a × P a)
  by (inl p) rest = inl (x, stands_first x xs, p)
  by (inr fails) (inl h) = inl (h.0, stands_later x h.0 xs h.1, h.2)
  by (inr fails) (inr none) = inr (λ h. at h.0 (stands_where x h.0 xs h.1) h.2 fails none)

-- # What can be listed

-- all of which something holds
pub record Listed {A : Type 0} (P : A → Type 0) : Type 0 where
  pub items : List A
  pub each : (a : A) → Contains items a ↔ P a

pub listed_alike : {A : Type 0} {P Q : A → Type 0} → Listed P → ((a : A) → P a → Q a) → ((a : A) → Q a → P a) → Listed Q
listed_alike listed to from = record {
  items = listed.items;
  each = λ a. (λ stands. to a ((listed.each a).0 stands), λ q. (listed.each a).1 (from a q));
}

pub listed_items : {A : Type 0} (xs : List A) → Listed (Contains xs)
listed_items xs = record { items = xs; each = λ a. (λ stands. stands, λ stands. stands) }

pub listed_some : {A : Type 0} (o : Option A) → Listed (λ a. o ≡ Some a)
listed_some None = record { items = []; each = λ a. (λ stands. absurd (stands_nowhere a stands), λ is. absurd cc) }
listed_some {A} (Some x) = record { items = x ∷ []; each = λ a. (λ stands. by a (stands_where x a [] stands), λ is. at a (same_Some x a is)) } where
  by : (a : A) → (x ≡ a) ⊎ Contains [] a → Some x ≡ Some a
  by a (inl same) = λ i. Some (same i)
  by a (inr later) = absurd (stands_nowhere a later)

  at : (a : A) → x ≡ a → Contains (x ∷ []) a
  at a same = subst (Contains (x ∷ [])) same (stands_first x [])

pub listed_numbered : {A : Type 0} (xs : List A) → Listed (λ (entry : ℕ × A). slice_get xs entry.0 ≡ Some entry.1)
listed_numbered xs = record {
  items = enumerate_from 0 xs;
  each = λ entry. (λ stands. from_numbered xs entry stands, λ is. in_numbered xs entry.0 entry.1 is);
}

-- those that pass a test
module _ {A : Type 0} {C : A → Type 0} (told : (a : A) → Told (C a)) where
  abbrev Kept : List A → Type 0
  Kept xs = Listed (λ a. Contains xs a × C a)

  kept : (xs : List A) → Kept xs
  kept [] = record { items = []; each = λ a. (λ stands. absurd (stands_nowhere a stands), λ h. absurd (stands_nowhere a h.0)) }
  kept (x ∷ xs) = by (told x) (kept xs) where
    first : C x → (rest : Kept xs) (a : A) → (x ≡ a) ⊎ Contains rest.items a → Contains (x ∷ xs) a × C a
    first c rest a (inl same) = (subst (Contains (x ∷ xs)) same (stands_first x xs), subst C same c)
    first c rest a (inr later) = let h = (rest.each a).0 later in (stands_later x a xs h.0, h.1)

    back : (rest : Kept xs) (a : A) → (x ≡ a) ⊎ Contains xs a → C a → Contains (x ∷ rest.items) a
    back rest a (inl same) c = subst (Contains (x ∷ rest.items)) same (stands_first x rest.items)
    back rest a (inr later) c = stands_later x a rest.items ((rest.each a).1 (later, c))

    past : (C x → ⊥) → (rest : Kept xs) (a : A) → (x ≡ a) ⊎ Contains xs a → C a → Contains rest.items a
    past fails rest a (inl same) c = absurd (fails (subst C (sym same) c))
    past fails rest a (inr later) c = (rest.each a).1 (later, c)

    by : Told (C x) → Kept xs → Kept (x ∷ xs)
    by (inl c) rest = record {
      items = x ∷ rest.items;
      each = λ a. (λ stands. first c rest a (stands_where x a rest.items stands), λ h. back rest a (stands_where x a xs h.0) h.1);
    }
    by (inr fails) rest = record {
      items = rest.items;
      each = λ a. (λ stands. let h = (rest.each a).0 stands in (stands_later x a xs h.0, h.1), λ h. past fails rest a (stands_where x a xs h.0) h.1);
    }

pub listed_where : {A : Type 0} {P C : A → Type 0} → Listed P → ((a : A) → Told (C a)) → Listed (λ a. P a × C a)
listed_where listed told =
    listed_alike (kept told listed.items) (λ a h. ((listed.each a).0 h.0, h.1)) (λ a h. ((listed.each a).1 h.0, h.1))

-- those of each
pub listed_each : {A B : Type 0} {P : A → Type 0} {Q : A → B → Type 0} → Listed P → ((a : A) → Listed (Q a))
    → Listed (λ b. (a : A) × P a × Q a b)
listed_each {A} {B} listed more = record {
  items = flat_map (λ (a : A). (more a).items) listed.items;
  each = λ b. (
    λ stands.
        let h = from_each (λ (a : A). (more a).items) listed.items b stands in
        (h.0, (listed.each h.0).0 h.1, ((more h.0).each b).0 h.2),
    λ h. in_each (λ (a : A). (more a).items) listed.items h.0 b ((listed.each h.0).1 h.1) (((more h.0).each b).1 h.2),
  );
}

pub listed_map : {A B : Type 0} {P : A → Type 0} → Listed P → (make : A → B) → Listed (λ b. (a : A) × P a × (make a ≡ b))
listed_map listed make = record {
  items = map make listed.items;
  each = λ b. (
    λ stands. let h = from_map make listed.items b stands in (h.0, (listed.each h.0).0 h.1, h.2),
    λ h. subst (Contains (map make listed.items)) h.2 (stands-mapped make listed.items h.0 ((listed.each h.0).1 h.1)),
  );
}

pub listed_either : {A : Type 0} {P Q : A → Type 0} → Listed P → Listed Q → Listed (λ a. P a ⊎ Q a)
listed_either {A} {P} {Q} listed other = record {
  items = listed.items ++ other.items;
  each = λ a. (λ stands. from a (in_either listed.items other.items a stands), λ h. back a h);
}
  where
    from : (a : A) → Contains listed.items a ⊎ Contains other.items a → P a ⊎ Q a
    from a (inl stands) = inl ((listed.each a).0 stands)
    from a (inr stands) = inr ((other.each a).0 stands)

    back : (a : A) → P a ⊎ Q a → Contains (listed.items ++ other.items) a
    back a (inl p) = in_front listed.items other.items a ((listed.each a).1 p)
    back a (inr q) = behind listed.items other.items a ((other.each a).1 q)
