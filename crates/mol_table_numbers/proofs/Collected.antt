-- Lists of what passes a test, and new identities, one item after another.
use Rattle.std.specs.Prelude.{◌≡◌, ℕ, ◌+◌, ◌<◌, ◌≤◌, Bool, true, false, cond, ◌||◌, List, [], ◌∷◌, ◌++◌, map, take, length, Option, None, Some}
use Rattle.std.proofs.Common.{suc, refl, sym, ap, ◌∙◌, arith, get_or, true≢false}
use Rattle.std.proofs.lemmas.List.{take_all, get_or_read, get_or_default}
use Rattle.std.proofs.lemmas.List.Folds.{list_any-append}
use Rattle.std.specs.List.{filter, list_any}
use Rattle.std.specs.FinMap.{get}
use Rattle.mol_base.specs.declared.ident.Id.{Id}
use Rattle.mol_table_rules.specs.Life.{lives}
use Rattle.mol_table_numbers.specs.Looked.{HasNames}
use Rattle.mol_table_rules.specs.Program.{Program, same_id}
use Rattle.mol_table_numbers.specs.Numbering.{AreApart, AreNames, IsInOrder}
use Rattle.mol_values.specs.Renaming.{names_of}
use Rattle.mol_table_rules.specs.Renumber.{base_id, number}
use Rattle.mol_table.proofs.Copying.{take-item}
use Rattle.mol_table_rules.proofs.Counts.{none-some}
use Rattle.mol_table_rules.proofs.Living.{id_tied, same_id-own}

-- ---- what passes

module _ {A X : Type 0} (test : A → Bool) (key : A → X) where
  pub collected-more : (xs : List A) (k : A) → test k ≡ true → map key (filter test (xs ++ k ∷ [])) ≡ map key (filter test xs) ++ key k ∷ []
  collected-more [] k e = ap (λ b. map key (cond b (k ∷ []) [])) e
  collected-more (x ∷ xs) k e = at (test x) (collected-more xs k e) where
    at : (b : Bool) → map key (filter test (xs ++ k ∷ [])) ≡ map key (filter test xs) ++ key k ∷ []
        → map key (cond b (x ∷ filter test (xs ++ k ∷ [])) (filter test (xs ++ k ∷ []))) ≡ map key (cond b (x ∷ filter test xs) (filter test xs)) ++ key k ∷ []
    at true rest = ap (λ ys. key x ∷ ys) rest
    at false rest = rest

  pub collected-same : (xs : List A) (k : A) → test k ≡ false → map key (filter test (xs ++ k ∷ [])) ≡ map key (filter test xs)
  collected-same [] k e = ap (λ b. map key (cond b (k ∷ []) [])) e
  collected-same (x ∷ xs) k e = at (test x) (collected-same xs k e) where
    at : (b : Bool) → map key (filter test (xs ++ k ∷ [])) ≡ map key (filter test xs)
        → map key (cond b (x ∷ filter test (xs ++ k ∷ [])) (filter test (xs ++ k ∷ []))) ≡ map key (cond b (x ∷ filter test xs) (filter test xs))
    at true rest = ap (λ ys. key x ∷ ys) rest
    at false rest = rest

-- ---- new identities

-- the first so many have their new identities
pub record AreNamed (ids : List Id) (i : ℕ) (names : List (Id × Id)) : Type 0 where
  pub at : (k : ℕ) (d : Id) → k < i → k < length ids → get (names_of names) (get_or ids k d) ≡ Some (base_id (suc k))
  pub only : (id new : Id) → get (names_of names) id ≡ Some new → list_any (same_id id) (take i ids) ≡ true

pub named-none : (ids : List Id) (names : List (Id × Id)) → ((q : Id) → get (names_of names) q ≡ None) → AreNamed ids 0 names
named-none ids names none = record {
  at = λ k d below within. absurd (omega (arith, below));
  only = λ id new is. absurd (none-some new (sym (none id) ∙ is));
}

or-left : (a b : Bool) → a ≡ true → (a || b) ≡ true
or-left true b e = refl
or-left false b e = absurd (true≢false (sym e))

or-right : (a b : Bool) → b ≡ true → (a || b) ≡ true
or-right true b e = refl
or-right false b e = e

pub named-more : (ids : List Id) (i : ℕ) (old new : List (Id × Id)) (x : Id) → AreApart ids → i < length ids → x ≡ get_or ids i x
    → ((q : Id) → get (names_of new) q ≡ cond (same_id q x) (Some (base_id (suc i))) (get (names_of old) q)) → AreNamed ids i old → AreNamed ids (i + 1) new
named-more ids i old new x apart within is put named = record {
  at = λ k d below inside. at k d below inside (same_id (get_or ids k d) x) refl;
  only = λ id name e. only id name e (same_id id x) refl;
} where
  at : (k : ℕ) (d : Id) → k < i + 1 → k < length ids → (b : Bool) → same_id (get_or ids k d) x ≡ b → get (names_of new) (get_or ids k d) ≡ Some (base_id (suc k))
  at k d below inside true e =
      let same : k ≡ i = apart k i d inside within (id_tied (get_or ids k d) x e ∙ get_or_read ids i x within is d) in
      put (get_or ids k d) ∙ ap (λ b. cond b (Some (base_id (suc i))) (get (names_of old) (get_or ids k d))) e ∙ ap (λ n. Some (base_id (suc n))) (sym same)
  at k d below inside false e =
      put (get_or ids k d) ∙ ap (λ b. cond b (Some (base_id (suc i))) (get (names_of old) (get_or ids k d))) e ∙ named.at k d (omega (arith, below, differ)) inside
    where
      differ : k ≡ i → ⊥
      differ same = true≢false (sym (same_id-own x) ∙ ap (λ y. same_id y x) (get_or_read ids i x within is d ∙ ap (λ n. get_or ids n d) (sym same)) ∙ e)

  snoc : (id : Id) → list_any (same_id id) (take (i + 1) ids) ≡ (list_any (same_id id) (take i ids) || (same_id id x || false))
  snoc id = ap (list_any (same_id id)) (take-item ids i x within is) ∙ list_any-append (same_id id) (take i ids) (x ∷ [])

  only : (id name : Id) → get (names_of new) id ≡ Some name → (b : Bool) → same_id id x ≡ b → list_any (same_id id) (take (i + 1) ids) ≡ true
  only id name e true same = snoc id ∙ or-right _ _ (or-left _ _ same)
  only id name e false same =
      snoc id ∙ or-left _ _ (named.only id name (sym (put id ∙ ap (λ b. cond b (Some (base_id (suc i))) (get (names_of old) id)) same) ∙ e))

pub named-all : (ids : List Id) (i : ℕ) (names : List (Id × Id)) → length ids ≤ i → AreNamed ids i names → AreNames ids names
named-all ids i names all named = record {
  at = λ k d within. named.at k d (omega (arith, within, all)) within;
  only = λ id new is. sym (ap (list_any (same_id id)) (take_all i ids all)) ∙ named.only id new is;
}

-- ---- what an order gives

module _ (test : Id → Bool) (num : Id → ℕ) (many : ℕ) (ids : List Id) (order : IsInOrder test num many ids) where
  pub order-apart : AreApart ids
  order-apart j k d first second e = suc-same j k (sym (order.numbers j d first) ∙ ap num e ∙ order.numbers k d second) where
    suc-same : (j k : ℕ) → suc j ≡ suc k → j ≡ k
    suc-same j k e = omega (arith, e)

  place-of : (id : Id) (xs : List Id) → list_any (same_id id) xs ≡ true → (k : ℕ) × (k < length xs) × (get_or xs k id ≡ id)
  place-of id [] h = absurd (true≢false (sym h))
  place-of id (x ∷ xs) h = at (same_id id x) refl h (place-of id xs) where
    at : (b : Bool) → same_id id x ≡ b → (b || list_any (same_id id) xs) ≡ true → (list_any (same_id id) xs ≡ true → (k : ℕ) × (k < length xs) × (get_or xs k id ≡ id))
        → (k : ℕ) × (k < length (x ∷ xs)) × (get_or (x ∷ xs) k id ≡ id)
    at true e h rest = (0, omega arith, sym (id_tied id x e))
    at false e h rest = let k = rest h in (suc k.0, omega (arith, k.1), k.2)

  pub order-number : (names : List (Id × Id)) → AreNames ids names → (id : Id) → get (names_of names) id ≡ cond (test id) (Some (base_id (num id))) None
  order-number names named id = at (test id) refl where
    at : (b : Bool) → test id ≡ b → get (names_of names) id ≡ cond b (Some (base_id (num id))) None
    at true e =
        let k = place-of id ids (order.has id ∙ e) in
        ap (get (names_of names)) (sym k.2) ∙ named.at k.0 id k.1 ∙ ap (λ n. Some (base_id n)) (sym (order.numbers k.0 id k.1) ∙ ap num k.2)
    at false e = none (get (names_of names) id) refl where
      none : (o : Option Id) → get (names_of names) id ≡ o → get (names_of names) id ≡ None
      none None is = is
      none (Some new) is = absurd (true≢false (sym (named.only id new is) ∙ order.has id ∙ e))

  pub order-same : (first second : Id) → test first ≡ true → test second ≡ true → num first ≡ num second → first ≡ second
  order-same first second first-passes second-passes e =
      let j = place-of first ids (order.has first ∙ first-passes) in
      let k = place-of second ids (order.has second ∙ second-passes) in
      let at-j = sym (order.numbers j.0 first j.1) ∙ ap num j.2 in
      let at-k = sym (order.numbers k.0 second k.1) ∙ ap num k.2 in
      let same : j.0 ≡ k.0 = omega (arith, at-j, at-k, e) in
      sym j.2 ∙ get_or_default ids j.0 first second j.1 ∙ ap (λ n. get_or ids n second) same ∙ k.2

pub has-names : (program : Program) (many : ℕ) (ids : List Id) (names : List (Id × Id)) → IsInOrder (lives program) (number program) many ids → AreNames ids names → HasNames program names
has-names program many ids names order named = record {
  at = order-number (lives program) (number program) many ids order names named;
  apart = λ first second first-lives second-lives e.
      order-same (lives program) (number program) many ids order first second first-lives second-lives
      (ap (λ (id : Id). id.num) (sym (ap (λ b. cond b (base_id (number program first)) first) first-lives) ∙ e ∙ ap (λ b. cond b (base_id (number program second)) second) second-lives));
}
