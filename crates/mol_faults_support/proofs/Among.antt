-- Identities of a set.
use Rattle.std.proofs.Common.{◌≡◌, ◌⊎◌, inl, inr, ℕ, ◌+◌, ◌<◌, Bool, true, false, cond, List, [], ◌∷◌, ◌++◌, take, get_or, length, Contains, refl, sym, ◌∙◌, ap, subst}
use Rattle.indexmap.specs.IndexSet.{insert_key}
use Rattle.std.proofs.lemmas.List.{take_more}
use Rattle.std.proofs.lemmas.Map.Views.{list_any-from_Contains, Contains-from_any}
use Rattle.std.specs.Cmp.{eq_by_cmp_equiv}
use Rattle.std.specs.List.{list_any}
use Rattle.jav_names.proofs.Lists.{stands_nowhere, stands_where}
use Rattle.mol_base.specs.Order.{id_cmp-total}
use Rattle.mol_base.specs.declared.ident.Id.{Id}
use Rattle.mol_resolve_rules.proofs.Stands.{in_front, behind, in_either}
use Rattle.mol_spell_rules.specs.Support.{IsConstructorOf, IsDeclarationOf}
use Rattle.mol_faults_support.specs.Declarations.{DeclaresAny, ConstructsAny, AreSame}
use Rattle.mol_table_rules.proofs.Living.{id_tied}
use Rattle.mol_table_rules.specs.Program.{Program, same_id}
use Rattle.mol_values_types.proofs.Ties.{any_tied}
use Rattle.mol_values_types.specs.Order.{id_eq}

-- ---- sets

-- whether an identity is one of these
pub tested : (ids : List Id) (id : Id) → list_any (id_eq id) ids ≡ list_any (same_id id) ids
tested ids id = any_tied (λ (x : Id). x) id ids

pub among : (ids : List Id) (id : Id) → list_any (id_eq id) ids ≡ true → Contains ids id
among ids id is = Contains-from_any id_tied id ids (sym (tested ids id) ∙ is)

pub is-among : (ids : List Id) (id : Id) → Contains ids id → list_any (id_eq id) ids ≡ true
is-among ids id stands = tested ids id ∙ list_any-from_Contains (eq_by_cmp_equiv id_cmp-total) id ids stands

pub same-none : (ids : List Id) → ids ≡ [] → AreSame ids []
same-none ids is id = (λ stands. subst (λ xs. Contains xs id) is stands, λ never. absurd (stands_nowhere id never))

-- one more
module _ (ids xs : List Id) (i : ℕ) (x : Id) (within : i < length xs) (is : x ≡ get_or xs i x) (same : AreSame ids (take i xs)) where
  longer : take (i + 1) xs ≡ take i xs ++ x ∷ []
  longer = take_more xs i x within ∙ ap (λ y. take i xs ++ y ∷ []) (sym is)

  in-longer : (new : List Id) (b : Bool) → list_any (id_eq x) ids ≡ b → new ≡ cond b ids (ids ++ x ∷ []) → (id : Id) → Contains new id
      → Contains (take (i + 1) xs) id
  in-longer new b test made id stands = subst (λ ys. Contains ys id) (sym longer) (by b (subst (λ ys. Contains ys id) made stands)) where
    by_place : Contains ids id ⊎ Contains (x ∷ []) id → Contains (take i xs ++ x ∷ []) id
    by_place (inl old) = in_front (take i xs) (x ∷ []) id ((same id).0 old)
    by_place (inr last) = behind (take i xs) (x ∷ []) id last

    by : (b : Bool) → Contains (cond b ids (ids ++ x ∷ [])) id → Contains (take i xs ++ x ∷ []) id
    by true there = in_front (take i xs) (x ∷ []) id ((same id).0 there)
    by false there = by_place (in_either ids (x ∷ []) id there)

  in-new : (new : List Id) (b : Bool) → list_any (id_eq x) ids ≡ b → new ≡ cond b ids (ids ++ x ∷ []) → (id : Id)
      → Contains (take (i + 1) xs) id → Contains new id
  in-new new b test made id stands = subst (λ ys. Contains ys id) (sym made)
      (by b test (in_either (take i xs) (x ∷ []) id (subst (λ ys. Contains ys id) longer stands))) where
        last : Contains (x ∷ []) id → x ≡ id
        last there = by_place (stands_where x id [] there) where
          by_place : (x ≡ id) ⊎ Contains [] id → x ≡ id
          by_place (inl same') = same'
          by_place (inr never) = absurd (stands_nowhere id never)

        by : (b : Bool) → list_any (id_eq x) ids ≡ b → Contains (take i xs) id ⊎ Contains (x ∷ []) id
            → Contains (cond b ids (ids ++ x ∷ [])) id
        by true seen (inl old) = (same id).1 old
        by true seen (inr there) = subst (Contains ids) (last there) (among ids x seen)
        by false new' (inl old) = in_front ids (x ∷ []) id ((same id).1 old)
        by false new' (inr there) = behind ids (x ∷ []) id there

  pub same-more : (new : List Id) → new ≡ insert_key id_eq ids x → AreSame new (take (i + 1) xs)
  same-more new made id = (in-longer new (list_any (id_eq x) ids) refl made id, in-new new (list_any (id_eq x) ids) refl made id)

-- ---- of the same methods and classes

pub declares-same : (program : Program) (first second found : List Id) → AreSame first second → DeclaresAny program first found
    → DeclaresAny program second found
declares-same program first second found same declares id = (
  λ stands. let declared = (declares id).0 stands in (declared.0, (same declared.0).0 declared.1, declared.2),
  λ (declared : (method : Id) × Contains second method × IsDeclarationOf program method id).
      (declares id).1 (declared.0, (same declared.0).1 declared.1, declared.2),
)

pub constructs-same : (program : Program) (first second found : List Id) → AreSame first second → ConstructsAny program first found
    → ConstructsAny program second found
constructs-same program first second found same constructs id = (
  λ stands. let constructor = (constructs id).0 stands in (constructor.0, (same constructor.0).0 constructor.1, constructor.2),
  λ (constructor : (class : Id) × Contains second class × IsConstructorOf program class id).
      (constructs id).1 (constructor.0, (same constructor.0).1 constructor.1, constructor.2),
)
