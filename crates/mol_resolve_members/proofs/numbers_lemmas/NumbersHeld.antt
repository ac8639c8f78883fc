-- What the lists of topmost declarations and of numbers hold.
use Rattle.std.proofs.Common.{◌≡◌, ℕ, suc, ◌+◌, ◌<◌, ◌≤◌, ◌^◌, ◌==◌, false, if◌then◌else◌, List, length, get_or, Contains, sym, ◌∙◌, ap, arith, eq-eqb}
use Rattle.std.proofs.lemmas.List.FromFn.{get_or-map-range_with_len, length-map-range_with_len}
use Rattle.jav_names.specs.UnitViews.{MemberKey}
use Rattle.jav_names.specs.Views.{View}
use Rattle.jav_scope.specs.Entries.{view_in}
use Rattle.jav_scope.specs.declared.source.SourceUnit.{SourceUnit}
use Rattle.mol_resolve_members.specs.places.Orders.{numbers_by_path, position}
use Rattle.mol_resolve_members.proofs.places_lemmas.FilesInOrder.{order-length, place-within}
use Rattle.mol_resolve_rules.specs.Numbering.{same_key}
use Rattle.mol_resolve_rules.proofs.Stands.{get-below}
use Rattle.mol_resolve_members.specs.numbers.Given.{AreNumbered, first_after, method_number}
use Rattle.mol_resolve_members.specs.numbers.Members.{keys_of, place_of}
use Rattle.mol_resolve_members.specs.numbers.Tops.{top_key}
use Rattle.mol_resolve_members.proofs.numbers_lemmas.TopKeys.{place-inside, same-place, top-in, top-there, tops-length}

module _ (sources : List SourceUnit) (classes : ℕ) (tops firsts : List ℕ) (are : AreNumbered sources classes tops firsts) where
  abbrev view : View ℕ MemberKey
  view = view_in sources

  abbrev all : ℕ
  all = length (keys_of sources)

  pub tops-counted : length tops ≡ all
  tops-counted = tops-length sources tops are.tops_are

  pub firsts-counted : length firsts ≡ suc all
  firsts-counted = ap length are.firsts_are ∙ length-map-range_with_len (first_after sources) 0 (suc all)

  pub first-at : (place n d : ℕ) → place ≡ n → n ≤ all → get_or firsts place d ≡ first_after sources n
  first-at place n d is within =
      ap (λ (numbers : List ℕ). get_or numbers place d) are.firsts_are
      ∙ get_or-map-range_with_len (first_after sources) 0 (suc all) place n d (omega (arith, is, within)) (omega (arith, is))

  pub class-fits : (unit : ℕ) → unit < length sources → 1 + position (numbers_by_path sources) unit < 2 ^ 32
  class-fits unit within =
      let source = get-below sources unit within in
      omega (arith, are.fits, place-within sources unit source.0 source.1, order-length sources)

  module _ (key : MemberKey) (stands : Contains (keys_of sources) key) where
    abbrev top : MemberKey
    top = top_key view key

    pub member-fits : 1 + classes + place_of sources key < 2 ^ 32
    member-fits = omega (arith, are.fits, are.counted, place-inside sources key stands)

    pub inside : (place : ℕ) → place ≡ place_of sources key → place < length tops
    inside place is = omega (arith, is, place-inside sources key stands, tops-counted)

    pub top-at : (place d : ℕ) → place ≡ place_of sources key → get_or tops place d ≡ place_of sources top
    top-at place d is = top-there sources tops are.tops_are key stands place d is

    pub top-stands : Contains (keys_of sources) top
    top-stands = top-in sources key stands

    -- the topmost declaration is the topmost of itself, or has another above it
    module _ (more at next : ℕ) (at-is : at ≡ place_of sources top) (next-is : next ≡ place_of sources (top_key view top)) where
      pub own-test : (next == at) ≡ same_key (top_key view top) top
      own-test = (λ i. next-is i == at-is i) ∙ same-place sources (top_key view top) top (top-in sources top top-stands) top-stands

      pub number-own : next ≡ at → first_after sources (place_of sources top) + more ≡ method_number sources key more
      number-own same =
          ap (λ b. if b then first_after sources (place_of sources top) + more else first_after sources all)
          (sym (eq-eqb next at same) ∙ own-test)

      pub number-after : (next == at) ≡ false → first_after sources all ≡ method_number sources key more
      number-after apart =
          ap (λ b. if b then first_after sources (place_of sources top) + more else first_after sources all) (sym apart ∙ own-test)

  -- what is read from the lists of a member at its place
  module _ (key : MemberKey) (stands : Contains (keys_of sources) key) (place at : ℕ) (place-is : place ≡ place_of sources key)
      (at-read : at ≡ get_or tops place at) where
    its_top : at ≡ place_of sources (top_key view key)
    its_top = at-read ∙ top-at key stands place at place-is

    pub top-inside : at < length tops
    top-inside = inside (top_key view key) (top-stands key stands) at its_top

    pub first-inside : at < length firsts
    first-inside = omega (arith, top-inside, tops-counted, firsts-counted)

    module _ (more next : ℕ) (next-read : next ≡ get_or tops at next) where
      its_next : next ≡ place_of sources (top_key view (top_key view key))
      its_next = next-read ∙ top-at (top_key view key) (top-stands key stands) at next its_top

      pub number-there : (first : ℕ) → first ≡ get_or firsts at first → next ≡ at → first + more ≡ method_number sources key more
      number-there first read same =
          ap (λ n. n + more) (read ∙ first-at at (place_of sources (top_key view key)) first its_top
          (let within = place-inside sources (top_key view key) (top-stands key stands) in omega (arith, within)))
          ∙ number-own key stands more at next its_top its_next same

      pub number-past : (next == at) ≡ false → first_after sources all ≡ method_number sources key more
      number-past apart = number-after key stands more at next its_top its_next apart
