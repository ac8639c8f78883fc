-- What lives at an address, as rows; pairs of them are those that share an address.
use Rattle.std.proofs.Common.{◌≡◌, Bool, true, false, cond, List, map, Option, Some, None, option_map, is_some, Contains, refl, sym, ◌∙◌, ap}
use Rattle.std.specs.FinMap.{get}
use Rattle.std.proofs.lemmas.Option.{same_Some}
use Rattle.jav_names.proofs.Lists.{stands-mapped}
use Rattle.mol_base.specs.declared.ident.Id.{Id}
use Rattle.mol_faults_entities.specs.pair_faults.Addresses.{Location, location_of, located, located_at, AreLocated}
use Rattle.mol_faults_entities.specs.pair_faults.Pairs.{ArePairsOf}
use Rattle.mol_faults_entities.specs.pair_faults.Sharing.{shared_pairs}
use Rattle.mol_faults_entities.specs.declared.pair_faults.addressed.Addressed.{Addressed}
use Rattle.mol_faults_entities.specs.declared.pair_faults.pair.Pair.{Pair}
use Rattle.mol_faults_entities.proofs.pair_faults_lemmas.Keys.{address-told}
use Rattle.mol_faults_entities.proofs.pair_faults_lemmas.MadeRows.{IsMaking}
use Rattle.mol_faults_entities.proofs.pair_faults_lemmas.SharedPairs.{Share, Rise, pairs-share, share-pairs}
use Rattle.mol_resolve_rules.proofs.Stands.{from_map}
use Rattle.mol_table_rules.specs.Faults.{Address, SameAddress, address, address_as}
use Rattle.mol_table_rules.specs.Life.{lives}
use Rattle.mol_table_rules.specs.Program.{Program}
use Rattle.mol_values_types.specs.declared.known.Known.{Known}

module _ (program : Program) where
  -- an entity that lives, with its address
  record IsAt (id : Id) (location : Location) : Type 0 where
    entity_lives : lives program id ≡ true
    place : Address
    has : address program id ≡ Some place
    is : location ≡ location_of id place

  located-is : (id : Id) (location : Location) → located_at program id ≡ Some location → IsAt id location
  located-is id location is = by (lives program id) refl (address program id) refl is where
    by : (b : Bool) → lives program id ≡ b → (o : Option Address) → address program id ≡ o
        → cond b (option_map (location_of id) o) None ≡ Some location → IsAt id location
    by true alive None none at = absurd cc
    by true alive (Some a) has at =
        record { entity_lives = alive; place = a; has = has; is = sym (same_Some (location_of id a) location at) }
    by false dead o has at = absurd cc

  located-at : (id : Id) (a : Address) → lives program id ≡ true → address program id ≡ Some a
      → located_at program id ≡ Some (location_of id a)
  located-at id a alive has = λ i. cond (alive i) (option_map (location_of id) (has i)) None

  -- ---- the rows of all that is known

  known-if : (id : Id) (known : Option Known) (a : Address) → address_as program id known ≡ Some a → is_some known ≡ true
  known-if id None a has = absurd cc
  known-if id (Some known) a has = refl

  pub located-making : IsMaking program (λ (location : Location). location.id) (located_at program)
  located-making = record {
    own = λ id location at. ap (λ (l : Location). l.id) (located-is id location at).is;
    known = λ id location at. let is = located-is id location at in known-if id (get program.known id) is.place is.has;
  }

  -- ---- their pairs

  module _ (rows : List Addressed) (are : AreLocated program (map located rows)) where
    row-is : (row : Addressed) → Contains rows row → IsAt row.id (located row)
    row-is row stands = located-is row.id (located row) ((are (located row)).0 (stands-mapped located rows row stands))

    row-at : (id : Id) (a : Address) → lives program id ≡ true → address program id ≡ Some a
        → (row : Addressed) × Contains rows row × (located row ≡ location_of id a)
    row-at id a alive has =
        from_map located rows (location_of id a) ((are (location_of id a)).1 (located-at id a alive has))

    share-address : (pair : Pair) → Share rows pair → SameAddress program pair.first pair.second
    share-address pair share =
        let first = row-is share.first_row share.first_stands in
        let second = row-is share.second_row share.second_stands in
        let same : second.place ≡ first.place = address-told second.place first.place
        (ap (λ (l : Location). l.key) (sym second.is) ∙ sym share.same ∙ ap (λ (l : Location). l.key) first.is) in
        record {
          ordered = share.ordered;
          first_lives = ap (lives program) (sym share.is_first) ∙ first.entity_lives;
          second_lives = ap (lives program) (sym share.is_second) ∙ second.entity_lives;
          shared = first.place;
          first_has = ap (address program) (sym share.is_first) ∙ first.has;
          second_has = ap (address program) (sym share.is_second) ∙ second.has ∙ ap (λ (a : Address). Some a) same;
        }

    address-share : (pair : Pair) → SameAddress program pair.first pair.second → Share rows pair
    address-share pair same =
        let first = row-at pair.first same.shared same.first_lives same.first_has in
        let second = row-at pair.second same.shared same.second_lives same.second_has in
        record {
          first_row = first.0;
          second_row = second.0;
          first_stands = first.1;
          second_stands = second.1;
          same = ap (λ (l : Location). l.key) first.2 ∙ sym (ap (λ (l : Location). l.key) second.2);
          is_first = ap (λ (l : Location). l.id) first.2;
          is_second = ap (λ (l : Location). l.id) second.2;
          ordered = same.ordered;
        }

    pub shared-pairs : Rise rows → ArePairsOf (SameAddress program) (shared_pairs rows)
    shared-pairs up pair = (
      λ stands. share-address pair (pairs-share rows pair stands),
      λ same. share-pairs rows up pair (address-share pair same),
    )
