-- What going up from classes meets: each class and all above it, whatever was met before.
use Rattle.std.proofs.Common.{◌≡◌, ◌⊎◌, inl, inr, ℕ, zero, suc, ◌<◌, Bool, true, false, cond, not, ◌||◌, List, [], ◌∷◌, ◌++◌, length, filter, Option, Some, None, is_some, Contains, refl, sym, ◌∙◌, ap, subst, arith, true≢false}
use Rattle.std.proofs.lemmas.List.{length-map}
use Rattle.std.proofs.lemmas.Map.Views.{list_any-from_Contains, Contains-from_any}
use Rattle.std.specs.Cmp.{eq_by_cmp_equiv}
use Rattle.std.specs.FinMap.{get, entries, keys, contains_key-keys, len, len-entries}
use Rattle.std.specs.List.{list_any}
use Rattle.std.specs.Prelude.{◌↔◌}
use Rattle.jav_names.proofs.Lists.{stands_first, stands_later, stands_where, stands_nowhere}
use Rattle.jav_names.proofs.Ways.{fewer, some_pass, filter-length}
use Rattle.mol_base.specs.Order.{id_cmp-total}
use Rattle.mol_base.specs.declared.ident.Id.{Id}
use Rattle.mol_resolve_rules.proofs.Stands.{in_front, behind, in_either}
use Rattle.mol_faults_support.specs.Ways.{fresh_way, IsClosed}
use Rattle.mol_table_rules.proofs.Living.{id_tied, same_id-own}
use Rattle.mol_table_rules.specs.Ancestors.{living_parent, unmet, walk, way}
use Rattle.mol_table_rules.specs.Program.{Program, same_id, is_yes, value_at, living_at, parent_at}
use Rattle.mol_table_rules.specs.Rules.{IsProgram}
use Rattle.mol_values_types.specs.Slots.{has_slot}
use Rattle.mol_values_types.specs.declared.cell.Slot.TheVariants as slots
use Rattle.mol_values_types.specs.declared.known.Known.{Known}
use Rattle.mol_values_types.specs.declared.value.Value.{Value}

-- ---- what was met

met-stands : (met : List Id) (class : Id) → list_any (same_id class) met ≡ true → Contains met class
met-stands met class is = Contains-from_any id_tied class met is

stands-met : (met : List Id) (class : Id) → Contains met class → list_any (same_id class) met ≡ true
stands-met met class stands = list_any-from_Contains (eq_by_cmp_equiv id_cmp-total) class met stands

module _ (program : Program) where
  abbrev upper : Id → Option Id
  upper class = living_parent program (parent_at program class)

  -- Going up from the first comes to the second.
  data Reaches (class : Id) : Id → Type 0 where
    itself : Reaches class class
    higher : {middle above : Id} → Reaches class middle → upper middle ≡ Some above → Reaches class above

  pub nothing : (n : ℕ) (met : List Id) → walk n program met None ≡ []
  nothing zero met = refl
  nothing (suc n) met = refl

  none-there : (n : ℕ) (met : List Id) (c : Id) → ¬ Contains (walk n program met None) c
  none-there n met c there = stands_nowhere c (subst (λ ids. Contains ids c) (nothing n met) there)

  -- ---- what is met is reached

  reached : (class : Id) (n : ℕ) (met : List Id) (x : Id) → Reaches class x → (c : Id) → Contains (walk n program met (Some x)) c
      → Reaches class c
  reached class zero met x r c there = absurd (stands_nowhere c there)
  reached class (suc n) met x r c there =
      by (stands_where x c (walk n program (x ∷ met) (unmet (x ∷ met) (upper x))) there)
      (λ above r' there'. reached class n (x ∷ met) above r' c there') where
        chosen : (above : Id) → upper x ≡ Some above
            → ((above : Id) → Reaches class above → Contains (walk n program (x ∷ met) (Some above)) c → Reaches class c)
            → (b : Bool) → Contains (walk n program (x ∷ met) (cond b None (Some above))) c → Reaches class c
        chosen above is more true there' = absurd (none-there n (x ∷ met) c there')
        chosen above is more false there' = more above (higher r is) there'

        after : ((above : Id) → Reaches class above → Contains (walk n program (x ∷ met) (Some above)) c → Reaches class c)
            → (o : Option Id) → upper x ≡ o → Contains (walk n program (x ∷ met) (unmet (x ∷ met) o)) c → Reaches class c
        after more None is there' = absurd (none-there n (x ∷ met) c there')
        after more (Some above) is there' = chosen above is more (list_any (same_id above) (x ∷ met)) there'

        by : (x ≡ c) ⊎ Contains (walk n program (x ∷ met) (unmet (x ∷ met) (upper x))) c
            → ((above : Id) → Reaches class above → Contains (walk n program (x ∷ met) (Some above)) c → Reaches class c) → Reaches class c
        by (inl same) more = subst (Reaches class) same r
        by (inr later) more = after more (upper x) refl later

  in-closed : (classes : List Id) → IsClosed program classes → (class : Id) → Contains classes class → (c : Id) → Reaches class c
      → Contains classes c
  in-closed classes closed class stands c itself = stands
  in-closed classes closed class stands c (higher {middle = middle} r is) =
      closed middle c (in-closed classes closed class stands middle r) is

  -- ---- a walk does not end too soon

  -- how many known identities were not met
  abbrev not_met : List Id → ℕ
  not_met met = length (filter (λ k. not (list_any (same_id k) met)) (keys program.known))

  module _ (rules : IsProgram program) where
    living-is_some : (o : Option Value) → is_yes o ≡ true → is_some o ≡ true
    living-is_some None is = absurd (true≢false (sym is))
    living-is_some (Some value) is = refl

    has-is_some : (o : Option Known) → has_slot o slots.Live ≡ true → is_some o ≡ true
    has-is_some None is = absurd (true≢false (sym is))
    has-is_some (Some known) is = refl

    -- what lives is known
    living-known : (id : Id) → living_at program id ≡ true → Contains (keys program.known) id
    living-known id lives = Contains-from_any id_tied id (keys program.known)
        (sym (contains_key-keys program.known id)
        ∙ has-is_some (get program.known id) (sym (rules.whole id slots.Live) ∙ living-is_some (value_at program id slots.Live) lives))

    upper-lives : (class above : Id) → upper class ≡ Some above → living_at program above ≡ true
    upper-lives class above = by (parent_at program class) where
      by_test : (parent : Id) (b : Bool) → living_at program parent ≡ b → cond b (Some parent) None ≡ Some above
          → living_at program above ≡ true
      by_test parent true lives is = let same : parent ≡ above = cc in subst (λ id. living_at program id ≡ true) same lives
      by_test parent false lives is = absurd cc

      by : (o : Option Id) → living_parent program o ≡ Some above → living_at program above ≡ true
      by None is = absurd cc
      by (Some parent) is = by_test parent (living_at program parent) refl is

    not_or : (a b : Bool) → not (a || b) ≡ true → not b ≡ true
    not_or true b is = absurd (true≢false (sym is))
    not_or false b is = is

    fewer-left : (met : List Id) (class : Id) → Contains (keys program.known) class → list_any (same_id class) met ≡ false
        → not_met (class ∷ met) < not_met met
    fewer-left met class known new = fewer (λ k. not (list_any (same_id k) met)) (λ k. not (list_any (same_id k) (class ∷ met)))
        (λ k is. not_or (same_id k class) (list_any (same_id k) met) is) (keys program.known) class known (ap not new)
        (ap (λ b. not (b || list_any (same_id class) met)) (same_id-own class))

    some-left : (met : List Id) (class : Id) → Contains (keys program.known) class → list_any (same_id class) met ≡ false → 0 < not_met met
    some-left met class known new = some_pass (λ k. not (list_any (same_id k) met)) (keys program.known) class known (ap not new)

    first-there : (n : ℕ) (met : List Id) (class : Id) → 0 < n → Contains (walk n program met (Some class)) class
    first-there zero met class some = absurd (omega (arith, some))
    first-there (suc n) met class some =
        stands_first class (walk n program (class ∷ met) (unmet (class ∷ met) (upper class)))

    -- with enough steps, what stands above a class that is met is met too, or was before
    abbrev Closes : ℕ → List Id → Id → Type 0
    Closes n met x = (m above : Id) → Contains (walk n program met (Some x)) m → upper m ≡ Some above
        → Contains (walk n program met (Some x)) above ⊎ Contains met above

    module _ (n : ℕ) (met : List Id) (x : Id) (enough : not_met (x ∷ met) < suc n)
        (more : (z : Id) → not_met (z ∷ x ∷ met) < n → Closes n (x ∷ met) z) (m above : Id) (is : upper m ≡ Some above) where
      -- what is met after the first class, where this is the next one
      abbrev rest : Option Id → List Id
      rest o = walk n program (x ∷ met) (unmet (x ∷ met) o)

      wider : Contains (rest (upper x)) above ⊎ Contains (x ∷ met) above → Contains (x ∷ rest (upper x)) above ⊎ Contains met above
      wider (inl later) = inl (stands_later x above (rest (upper x)) later)
      wider (inr before) = by_place (stands_where x above met before) where
        by_place : (x ≡ above) ⊎ Contains met above → Contains (x ∷ rest (upper x)) above ⊎ Contains met above
        by_place (inl same) = inl (subst (Contains (x ∷ rest (upper x))) same (stands_first x (rest (upper x))))
        by_place (inr older) = inr older

      -- the class itself
      first_test : upper x ≡ Some above → (b : Bool) → list_any (same_id above) (x ∷ met) ≡ b
          → Contains (walk n program (x ∷ met) (cond b None (Some above))) above ⊎ Contains (x ∷ met) above
      first_test up true seen = inr (met-stands (x ∷ met) above seen)
      first_test up false new =
          let left = some-left (x ∷ met) above (living-known above (upper-lives x above up)) new in
          inl (first-there n (x ∷ met) above (omega (arith, enough, left)))

      of_first : upper x ≡ Some above → Contains (rest (upper x)) above ⊎ Contains (x ∷ met) above
      of_first up = subst (λ o. Contains (rest o) above ⊎ Contains (x ∷ met) above) (sym up)
          (first_test up (list_any (same_id above) (x ∷ met)) refl)

      -- a later one
      later_test : (z : Id) → upper x ≡ Some z → (b : Bool) → list_any (same_id z) (x ∷ met) ≡ b
          → Contains (walk n program (x ∷ met) (cond b None (Some z))) m
          → Contains (walk n program (x ∷ met) (cond b None (Some z))) above ⊎ Contains (x ∷ met) above
      later_test z up true seen there = absurd (none-there n (x ∷ met) m there)
      later_test z up false new there =
          let left = fewer-left (x ∷ met) z (living-known z (upper-lives x z up)) new in
          more z (omega (arith, enough, left)) m above there is

      of_later : (o : Option Id) → upper x ≡ o → Contains (rest o) m → Contains (rest o) above ⊎ Contains (x ∷ met) above
      of_later None up there = absurd (none-there n (x ∷ met) m there)
      of_later (Some z) up there = later_test z up (list_any (same_id z) (x ∷ met)) refl there

      either-closes : (x ≡ m) ⊎ Contains (rest (upper x)) m → Contains (x ∷ rest (upper x)) above ⊎ Contains met above
      either-closes (inl same) = wider (of_first (ap upper same ∙ is))
      either-closes (inr later) = wider (of_later (upper x) refl later)

    walk-closes : (n : ℕ) (met : List Id) (x : Id) → not_met (x ∷ met) < n → Closes n met x
    walk-closes zero met x enough m above there is = absurd (omega (arith, enough))
    walk-closes (suc n) met x enough m above there is =
        either-closes n met x enough (λ z few. walk-closes n (x ∷ met) z few) m above is
        (stands_where x m (walk n program (x ∷ met) (unmet (x ∷ met) (upper x))) there)

    enough-steps : (met : List Id) → not_met met < suc (len program.known)
    enough-steps met =
        let few = filter-length (λ k. not (list_any (same_id k) met)) (keys program.known) in
        let many : length (keys program.known) ≡ len program.known =
        length-map (entries program.known) (λ (e : Id × Known). e.0) ∙ sym (len-entries program.known) in
        omega (arith, few, many)

    -- ---- whole ways

    way-closed : (class : Id) → IsClosed program (way program class)
    way-closed class c above stands is =
        by (walk-closes (suc (len program.known)) [] class (enough-steps (class ∷ [])) c above stands is) where
          by : Contains (way program class) above ⊎ Contains [] above → Contains (way program class) above
          by (inl there) = there
          by (inr never) = absurd (stands_nowhere above never)

    way-reaches : (class c : Id) → Reaches class c → Contains (way program class) c
    way-reaches class c r = in-closed (way program class) (way-closed class) class
        (first-there (suc (len program.known)) [] class (omega arith)) c r

    -- ---- a way beside what was met

    module _ (old : List Id) (closed : IsClosed program old) (class : Id) where
      abbrev fresh : Bool → List Id
      fresh b = walk (suc (len program.known)) program old (cond b None (Some class))

      fresh-closed : (b : Bool) → IsClosed program (old ++ fresh b)
      fresh-closed true c above stands is = by (in_either old [] c stands) where
        by : Contains old c ⊎ Contains [] c → Contains (old ++ []) above
        by (inl there) = in_front old [] above (closed c above there is)
        by (inr never) = absurd (stands_nowhere c never)
      fresh-closed false c above stands is = by (in_either old (fresh false) c stands) where
        by_place : Contains (fresh false) above ⊎ Contains old above → Contains (old ++ fresh false) above
        by_place (inl there) = behind old (fresh false) above there
        by_place (inr there) = in_front old (fresh false) above there

        by : Contains old c ⊎ Contains (fresh false) c → Contains (old ++ fresh false) above
        by (inl there) = in_front old (fresh false) above (closed c above there is)
        by (inr there) = by_place
            (walk-closes (suc (len program.known)) old class (enough-steps (class ∷ old)) c above there is)

      class-there : (b : Bool) → list_any (same_id class) old ≡ b → Contains (old ++ fresh b) class
      class-there true seen = in_front old [] class (met-stands old class seen)
      class-there false new = behind old (fresh false) class
          (first-there (suc (len program.known)) old class (omega arith))

      pub met-closed : IsClosed program (old ++ fresh_way program old class)
      met-closed = fresh-closed (list_any (same_id class) old)

      to : (b : Bool) (c : Id) → Contains old c ⊎ Contains (fresh b) c → Contains old c ⊎ Contains (way program class) c
      to b c (inl there) = inl there
      to true c (inr never) = absurd (stands_nowhere c never)
      to false c (inr there) = inr (way-reaches class c (reached class (suc (len program.known)) old class itself c there))

      from : (c : Id) → Contains old c ⊎ Contains (way program class) c → Contains (old ++ fresh_way program old class) c
      from c (inl there) = in_front old (fresh_way program old class) c there
      from c (inr there) = in-closed (old ++ fresh_way program old class) met-closed class
          (class-there (list_any (same_id class) old) refl) c
          (reached class (suc (len program.known)) [] class itself c there)

      pub met-is : (c : Id) → Contains (old ++ fresh_way program old class) c ↔ (Contains old c ⊎ Contains (way program class) c)
      met-is c = (λ stands. to (list_any (same_id class) old) c (in_either old (fresh_way program old class) c stands), from c)
