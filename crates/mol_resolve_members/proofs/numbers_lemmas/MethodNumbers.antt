-- The numbers of methods and their parameters, by the numbers that are given before them.
use Rattle.std.proofs.Common.{◌≡◌, ℕ, suc, ◌+◌, ◌<◌, ◌≤◌, ◌==◌, Bool, true, false, ◌&&◌, cond, not, if◌then◌else◌, List, [], ◌∷◌, map, length, take, sum_by, Some, Contains, refl, sym, ◌∙◌, ap, subst, arith, eqb-true, eq-eqb}
use Rattle.std.specs.List.{position_or_len}
use Rattle.std.specs.Option.{option_map_or}
use Rattle.std.proofs.lemmas.Bool.{false_from_ne_true}
use Rattle.std.proofs.lemmas.List.{take_all}
use Rattle.std.proofs.lemmas.List.FromFn.{get_or-range_with_len, length-map-range_with_len, length-range_with_len}
use Rattle.std.proofs.lemmas.List.Sums.{position_or_len_is, sum_by-take-le, sum_by_more_le}
use Rattle.jav_names.specs.UnitViews.{MemberKey}
use Rattle.jav_names.specs.Views.{ViewDeclaration, View}
use Rattle.jav_scope.specs.Entries.{view_in}
use Rattle.jav_scope.specs.declared.source.SourceUnit.{SourceUnit}
use Rattle.mol_resolve_members.proofs.places_lemmas.MemberPlaces.{position-map}
use Rattle.mol_resolve_members.specs.sources.Sources.{files_of}
use Rattle.mol_resolve_rules.specs.Files.{declaration_at}
use Rattle.mol_resolve_rules.specs.Numbering.{Numbered, numbered_class, numbered_member, numbered_method, numbered_param, below, numbered_at_key, numbered_in_method, order_by, same_key, same_numbered, topmost}
use Rattle.mol_resolve_rules.proofs.NumbersApart.{key-self}
use Rattle.mol_resolve_members.specs.numbers.Given.{first_after, given_at, method_number}
use Rattle.mol_resolve_members.specs.numbers.Members.{keys_of, place_of}
use Rattle.mol_resolve_members.specs.numbers.Tops.{top_key}
use Rattle.mol_resolve_members.proofs.numbers_lemmas.MemberKeys.{declared-in, found-there, there-found}
use Rattle.mol_resolve_members.proofs.numbers_lemmas.NumberPlaces.{numbered-place, nowhere-place}
use Rattle.mol_resolve_members.proofs.numbers_lemmas.TopKeys.{key-at, place-inside, topmost-stands, topmost-takes}

abbrev Declaration : Type 0
Declaration = ViewDeclaration ℕ MemberKey

-- the place of a number among those from 0 up
number-place : (test : Bool) → test ≡ true → (count i : ℕ) → i < count → position_or_len (λ j. test && i == j) (below count) ≡ i
number-place test is count i inside =
    position_or_len_is (λ j. test && i == j) (below count) i 0 (omega (arith, inside, length-range_with_len 0 count))
    (λ k earlier. ap (λ j. test && i == j) (get_or-range_with_len 0 count k 0 (omega (arith, earlier, inside)))
    ∙ ap (λ b. test && b) (false_from_ne_true (i == 0 + k) (λ same. absurd (omega (arith, earlier, eqb-true i (0 + k) same))))
    ∙ never test)
    (λ within. ap (λ j. test && i == j) (get_or-range_with_len 0 count i 0 inside)
    ∙ (λ k. is k && eq-eqb i (0 + i) (let e : i ≡ 0 + i = omega arith in e) k)) where
      never : (b : Bool) → (b && false) ≡ false
      never true = refl
      never false = refl

module _ (sources : List SourceUnit) where
  abbrev view : View ℕ MemberKey
  view = view_in sources

  abbrev all : ℕ
  all = length (keys_of sources)

  abbrev place : Numbered → ℕ
  place item = position_or_len (same_numbered item) (order_by view (files_of sources))

  whole : sum_by (given_at view) (take all (keys_of sources)) ≡ sum_by (given_at view) (keys_of sources)
  whole = ap (sum_by (given_at view)) (take_all all (keys_of sources) (omega arith))

  -- no number is past those after all
  pub method-fits : (key : MemberKey) → method_number sources key 0 ≤ first_after sources all
  method-fits key = by (same_key (top_key view (top_key view key)) (top_key view key)) where
    top : MemberKey
    top = top_key view key

    by : (b : Bool) → (if b then first_after sources (place_of sources top) + 0 else first_after sources all) ≤ first_after sources all
    by true = omega (arith, whole, sum_by-take-le (given_at view) (keys_of sources) (place_of sources top))
    by false = omega arith

  module _ (key : MemberKey) (declared : Declaration) (found : declaration_at view key ≡ Some declared) where
    abbrev top : Declaration
    top = topmost view declared

    top-stands : Contains view.declarations top
    top-stands = topmost-stands sources declared (found-there sources key declared found).0

    top-found : declaration_at view top.key ≡ Some top
    top-found = there-found sources top top-stands

    top-is : top_key view key ≡ top.key
    top-is = ap (λ o. option_map_or (λ (d : Declaration). (topmost view d).key) o key) found

    in_keys : Contains (keys_of sources) top.key
    in_keys = declared-in sources top top-stands

    abbrev own : Bool
    own = same_key (top_key view top.key) top.key

    own-is : own ≡ same_key (topmost view top).key top.key
    own-is = ap (λ o. same_key (option_map_or (λ (d : Declaration). (topmost view d).key) o top.key) top.key) top-found

    abbrev given_there : Bool → List Numbered
    given_there is_top = if is_top then numbered_method top.key ∷ map (numbered_param top.key) (below top.arity) else []

    block-is : numbered_at_key view top.key ≡ given_there own
    block-is = ap (λ o. option_map_or (numbered_in_method view) o []) top-found ∙ ap given_there (sym own-is)

    number-is : (more : ℕ) → method_number sources key more
        ≡ (if own then first_after sources (place_of sources top.key) + more else first_after sources all)
    number-is more = ap (λ top. if same_key (top_key view top) top then first_after sources (place_of sources top) + more
        else first_after sources all) top-is

    -- what is given at the topmost declaration alone, so many after its method
    module _ (item : Numbered) (more : ℕ) (inside : more ≤ top.arity)
        (no_class : (number : ℕ) → same_numbered item (numbered_class number) ≡ false)
        (no_member : (key : MemberKey) → same_numbered item (numbered_member key) ≡ false)
        (no_method : (other : MemberKey) → same_key top.key other ≡ false → same_numbered item (numbered_method other) ≡ false)
        (no_param : (other : MemberKey) (param : ℕ) → same_key top.key other ≡ false
        → same_numbered item (numbered_param other param) ≡ false)
        (there : position_or_len (same_numbered item) (given_there true) ≡ more) where
      item-number : suc (place item) ≡ method_number sources key more
      item-number = by own refl ∙ sym (number-is more) where
        by : (b : Bool) → own ≡ b → suc (place item)
            ≡ (if b then first_after sources (place_of sources top.key) + more else first_after sources all)
        by true is_own =
            let block : numbered_at_key view top.key ≡ given_there true = block-is ∙ ap given_there is_own in
            let at : position_or_len (same_numbered item) (numbered_at_key view top.key) ≡ more =
            ap (position_or_len (same_numbered item)) block ∙ there in
            let long : length (numbered_at_key view top.key) ≡ suc top.arity =
            ap length block ∙ ap (λ n. suc n) (length-map-range_with_len (numbered_param top.key) 0 top.arity) in
            omega (
              arith,
              at,
              numbered-place sources item no_class no_member top.key no_method no_param in_keys (omega (arith, at, long, inside)),
            )
        by false not_own =
            ap (λ n. suc n) (nowhere-place sources item no_class no_member top.key no_method no_param in_keys
            (block-is ∙ ap given_there not_own))

    pub method-number : suc (place (numbered_method top.key)) ≡ method_number sources key 0
    method-number = item-number (numbered_method top.key) 0 (omega arith) (λ number. refl) (λ key. refl) (λ other apart. apart)
        (λ other param apart. refl)
        (ap (λ b. cond (not b) (1 + position_or_len (same_numbered (numbered_method top.key))
        (map (numbered_param top.key) (below top.arity))) 0) (key-self top.key))

    pub param-number : (param : ℕ) → param < declared.arity
        → suc (place (numbered_param top.key param)) ≡ method_number sources key (1 + param)
    param-number param inside =
        item-number (numbered_param top.key param) (1 + param) (omega (arith, inside, topmost-takes sources declared))
        (λ number. refl) (λ key. refl) (λ other apart. refl)
        (λ other place apart. ap (λ b. b && param == place) apart)
        (ap (λ n. 1 + n) (position-map (numbered_param top.key) (same_numbered (numbered_param top.key param)) (below top.arity)
        ∙ number-place (same_key top.key top.key) (key-self top.key) top.arity param
        (omega (arith, inside, topmost-takes sources declared))))

    pub param-fits : (more : ℕ) → more ≤ declared.arity → method_number sources key more ≤ first_after sources all
    param-fits more inside = subst (λ n. n ≤ first_after sources all) (sym (number-is more)) (by own refl) where
      by : (b : Bool) → own ≡ b
          → (if b then first_after sources (place_of sources top.key) + more else first_after sources all) ≤ first_after sources all
      by true is_own =
          let block : numbered_at_key view top.key ≡ given_there true = block-is ∙ ap given_there is_own in
          let long : given_at view top.key ≡ suc top.arity =
          ap length block ∙ ap (λ n. suc n) (length-map-range_with_len (numbered_param top.key) 0 top.arity) in
          omega (
            arith,
            whole,
            inside,
            topmost-takes sources declared,
            long,
            ap (given_at view) (key-at sources top.key top.key in_keys),
            sum_by_more_le (given_at view) (keys_of sources) (place_of sources top.key) top.key (place-inside sources top.key in_keys),
          )
      by false not_own = omega arith
