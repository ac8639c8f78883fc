-- The members of files with their keys, and those that are declarations in the view.
use Rattle.std.proofs.Common.{◌≡◌, ℕ, ◌+◌, ◌<◌, List, [], ◌∷◌, ◌++◌, map, flat_map, length, get_or, Option, Some, None, Contains, slice_get, refl, sym, ◌∙◌, ap, subst, arith}
use Rattle.std.specs.List.{enumerate_from, range_with_len}
use Rattle.std.specs.Option.{option_map_or}
use Rattle.std.proofs.lemmas.List.{get_or-map, length-map, map-append}
use Rattle.std.proofs.lemmas.Simd.{map-map}
use Rattle.std.proofs.lemmas.Option.{slice_get_within}
use Rattle.jav_tree.specs.declared.unit.Member.{Member}
use Rattle.jav_tree.specs.declared.unit.Member.TheVariants as member
use Rattle.jav_tree.specs.declared.unit.Unit.{Unit as Source}
use Rattle.jav_names.specs.UnitViews.{MemberKey, numbered, classes_of, declaration_in}
use Rattle.jav_names.specs.Views.{ViewDeclaration, Classes, View}
use Rattle.jav_names.proofs.Lists.{stands-mapped}
use Rattle.jav_scope.specs.Entries.{classes_in, view_in}
use Rattle.jav_scope.specs.declared.found.MemberRef.{MemberRef}
use Rattle.jav_scope.specs.declared.source.SourceUnit.{SourceUnit}
use Rattle.mol_resolve_members.specs.places.Listings.{HasMember, as_listed, key_of, members_in, with_key}
use Rattle.mol_resolve_members.specs.declared.places.listed.Listed.{Listed}
use Rattle.mol_resolve_members.specs.places.Orders.{numbers_by_path}
use Rattle.mol_resolve_members.proofs.places_lemmas.PathOrder.{all-sorted}
use Rattle.mol_resolve_members.proofs.places_lemmas.StableOrder.{AllOf, all-each}
use Rattle.mol_resolve_members.specs.sources.Sources.{file_of, files_of}
use Rattle.mol_resolve_members.proofs.sources_lemmas.Sourced.{file-there, source-there, sources_viewed}
use Rattle.mol_resolve_rules.specs.Files.{File, Files, declaration_at, files_view, units}
use Rattle.mol_resolve_rules.specs.Numbering.{by_path, member_keys}
use Rattle.mol_resolve_rules.proofs.FilesStand.{IsMade, StandsAt, declaration-made, found-stands, from-keys, key-in_order, made-found, some-same, stands-found}
use Rattle.mol_resolve_rules.proofs.Stands.{from_each, from_map, from_numbered, get-below}
use Rattle.mol_resolve_members.specs.numbers.Members.{IsMember, keys_of, members_of}

abbrev Declaration : Type 0
Declaration = ViewDeclaration ℕ MemberKey

-- ---- all members

keys-in : (unit n : ℕ) (members : List Member)
    → map (λ (member : MemberKey × Member). member.0) (map (with_key unit) (enumerate_from n members))
    ≡ map (λ number. record { unit = unit; member = number }) (range_with_len n (length members))
keys-in unit n [] = refl
keys-in unit n (member ∷ members) = ap (λ keys. record { unit = unit; member = n } ∷ keys) (keys-in unit (n + 1) members)

-- a member is of the class of its file
owner-made : (classes : Classes ℕ) (unit : ℕ × Source) (number : ℕ) (kept : Member) (declared : Declaration)
    → declaration_in classes unit (number, kept) ≡ Some declared → declared.owner ≡ unit.0
owner-made classes unit number (member.Field field) declared is = absurd cc
owner-made classes unit number (member.Method method) declared is = ap (λ (d : Declaration). d.owner) (sym (some-same is))
owner-made classes unit number (member.Ctor constructor) declared is = ap (λ (d : Declaration). d.owner) (sym (some-same is))

module _ (sources : List SourceUnit) where
  abbrev files : Files
  files = files_of sources

  same-view : files_view files ≡ view_in sources
  same-view = sources_viewed.same_view sources

  -- ---- keys

  abbrev keys : List (MemberKey × Member) → List MemberKey
  keys members = map (λ (member : MemberKey × Member). member.0) members

  abbrev HasKeys : ℕ × File → Type 0
  HasKeys file = keys (members_in sources file.0) ≡ member_keys file

  have-keys : AllOf HasKeys (by_path (numbered files))
  have-keys = all-sorted HasKeys (numbered files) (all-each HasKeys (numbered files) (λ file there.
      let known = source-there sources file.0 file.1 (from_numbered files file there) in
      ap (λ found. keys (option_map_or (λ (source : SourceUnit). map (with_key file.0) (numbered source.unit.class.members)) found []))
      known.1 ∙ keys-in file.0 0 known.0.unit.class.members ∙ ap (λ (file' : File). member_keys (file.0, file')) known.2))

  keys-listed-in : (in_order : List (ℕ × File)) → AllOf HasKeys in_order
      → keys (flat_map (members_in sources) (map (λ (file : ℕ × File). file.0) in_order)) ≡ flat_map member_keys in_order
  keys-listed-in [] all = refl
  keys-listed-in (file ∷ rest) all =
      map-append (λ (member : MemberKey × Member). member.0) (members_in sources file.0)
      (flat_map (members_in sources) (map (λ (file : ℕ × File). file.0) rest))
      ∙ (λ i. all.0 i ++ keys-listed-in rest all.1 i)

  pub keys-listed : keys (members_of sources) ≡ keys_of sources
  keys-listed = keys-listed-in (by_path (numbered files)) have-keys

  pub is-member : (member : MemberKey × Member) → Contains (members_of sources) member → IsMember sources member.0 member.1
  is-member member there =
      let of_unit = from_each (members_in sources) (numbers_by_path sources) member there in
      by of_unit.0 (slice_get sources of_unit.0) refl of_unit.2 where
        by : (unit : ℕ) (o : Option SourceUnit) → slice_get sources unit ≡ o
            → Contains (option_map_or (λ (source : SourceUnit). map (with_key unit) (numbered source.unit.class.members)) o []) member
            → IsMember sources member.0 member.1
        by unit None none there = absurd (omega (arith, there.1))
        by unit (Some source) found there =
            let of_number = from_map (with_key unit) (numbered source.unit.class.members) member there in
            subst (λ (m : MemberKey × Member). IsMember sources m.0 m.1) of_number.2
            (record {
              source = source;
              stands = found;
              is = from_numbered source.unit.class.members of_number.0 of_number.1;
            })

  -- of those that are listed
  module _ (listed : List Listed) (are : map as_listed listed ≡ members_of sources) where
    pub keys-are : map (λ (member : Listed). key_of member.at) listed ≡ keys_of sources
    keys-are = sym (map-map (λ (member : MemberKey × Member). member.0) as_listed listed) ∙ ap keys are ∙ keys-listed

    pub listed-length : length listed ≡ length (keys_of sources)
    listed-length = sym (length-map listed (λ (member : Listed). key_of member.at)) ∙ ap length keys-are

    module _ (place : ℕ) (member : Listed) (inside : place < length listed) (is : member ≡ get_or listed place member) where
      pub key-listed : get_or (keys_of sources) place (key_of member.at) ≡ key_of member.at
      key-listed =
          ap (λ (all : List MemberKey). get_or all place (key_of member.at)) (sym keys-are)
          ∙ get_or-map (λ (member : Listed). key_of member.at) listed place member (key_of member.at) inside
          ∙ ap (λ (member : Listed). key_of member.at) (sym is)

      pub is-listed : IsMember sources (key_of member.at) member.member.now
      is-listed = is-member (as_listed member) (subst (λ (all : List (MemberKey × Member)). Contains all (as_listed member)) are
          (stands-mapped as_listed listed member (place, inside, sym is)))

  -- ---- what stands in the files

  abbrev stands-at : (key : MemberKey) (member : Member) → IsMember sources key member → StandsAt files key
  stands-at key member is = record {
    file = file_of is.source;
    in_files = file-there sources key.unit is.source is.stands;
    member = member;
    in_class = is.is;
  }

  pub class-within : (key : MemberKey) (member : Member) → IsMember sources key member → key.unit < length sources
  class-within key member is = slice_get_within sources key.unit is.source is.stands

  pub in-keys : (key : MemberKey) (member : Member) → IsMember sources key member → Contains (keys_of sources) key
  in-keys key member is = key-in_order files key (stands-at key member is)

  pub has-member : (at : MemberRef) (member : Member) → IsMember sources (key_of at) member → HasMember sources at
  has-member at member is = record {
    source = is.source;
    stands = is.stands;
    within = slice_get_within is.source.unit.class.members at.member member is.is;
  }

  pub has-key : (at : MemberRef) → HasMember sources at → Contains (keys_of sources) (key_of at)
  has-key at has =
      let kept = get-below has.source.unit.class.members at.member has.within in
      in-keys (key_of at) kept.0 (record { source = has.source; stands = has.stands; is = kept.1 })

  pub there-in : (at : MemberRef) → Contains (keys_of sources) (key_of at) → HasMember sources at
  there-in at stands =
      let there = from-keys files (key_of at) stands in
      let known = source-there sources at.unit there.file there.in_files in record {
        source = known.0;
        stands = known.1;
        within = slice_get_within known.0.unit.class.members at.member there.member
            (ap (λ (file : File). slice_get file.unit.class.members at.member) known.2 ∙ there.in_class);
      }

  -- ---- declarations

  module _ (declared : Declaration) (stands : Contains (view_in sources).declarations declared) where
    made : IsMade files declared
    made = declaration-made files declared (subst (λ (view : View ℕ MemberKey). Contains view.declarations declared) (sym same-view) stands)

    pub declared-in : Contains (keys_of sources) declared.key
    declared-in = key-in_order files declared.key made.at

    pub declared-owner : declared.owner ≡ declared.key.unit
    declared-owner = owner-made (classes_of (units files)) (declared.key.unit, made.at.file.unit) declared.key.member made.at.member
        declared made.made

  pub found-there : (key : MemberKey) (declared : Declaration) → declaration_at (view_in sources) key ≡ Some declared
      → Contains (view_in sources).declarations declared × (declared.key ≡ key)
  found-there key declared is = subst
      (λ (view : View ℕ MemberKey). declaration_at view key ≡ Some declared → Contains view.declarations declared × (declared.key ≡ key))
      same-view (found-stands files key declared) is

  pub there-found : (declared : Declaration) → Contains (view_in sources).declarations declared
      → declaration_at (view_in sources) declared.key ≡ Some declared
  there-found declared stands = subst
      (λ (view : View ℕ MemberKey). Contains view.declarations declared → declaration_at view declared.key ≡ Some declared)
      same-view (stands-found files declared) stands

  -- what a member is in the view, if it is a declaration
  pub made-there : (key : MemberKey) (member : Member) (is : IsMember sources key member) → declaration_at (view_in sources) key
      ≡ declaration_in (classes_in sources) (key.unit, is.source.unit) (key.member, member)
  made-there key member is =
      ap (λ (view : View ℕ MemberKey). declaration_at view key) (sym same-view) ∙ made-found files key (stands-at key member is)
      ∙ ap (λ units. declaration_in (classes_of units) (key.unit, is.source.unit) (key.member, member)) (sources_viewed.same_units sources)
