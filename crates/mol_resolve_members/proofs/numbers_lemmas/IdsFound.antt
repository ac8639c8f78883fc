-- The identities of what stands in files, by their numbers.
use Rattle.std.proofs.Common.{◌≡◌, ℕ, suc, ◌+◌, ◌<◌, ◌≤◌, List, map, length, sum_by, Some, Contains, sym, ◌∙◌, ap, arith}
use Rattle.std.proofs.lemmas.List.{take_all}
use Rattle.std.proofs.lemmas.List.FromFn.{fill_by_all, get_or-map-range_with_len, length-map-range_with_len}
use Rattle.mol_base.specs.declared.ident.Id.{Id}
use Rattle.jav_names.specs.UnitViews.{MemberKey}
use Rattle.jav_names.specs.Views.{ViewDeclaration}
use Rattle.jav_scope.specs.Entries.{view_in}
use Rattle.jav_scope.specs.declared.source.SourceUnit.{SourceUnit}
use Rattle.mol_table_rules.specs.Renumber.{base_id}
use Rattle.mol_resolve_members.specs.places.Orders.{numbers_by_path, position}
use Rattle.mol_resolve_members.specs.sources.Sources.{files_of}
use Rattle.mol_resolve_members.proofs.sources_lemmas.Sourced.{sources_viewed}
use Rattle.mol_resolve_rules.specs.Files.{declaration_at}
use Rattle.mol_resolve_rules.specs.Numbering.{below, ids_by, ids_of, numbered_param, id_by, topmost}
use Rattle.mol_resolve_rules.proofs.Stands.{get-below}
use Rattle.mol_resolve_rules.specs.Readers.{Ids}
use Rattle.mol_resolve_members.specs.numbers.Given.{first_after, given_at, method_number}
use Rattle.mol_resolve_members.specs.numbers.Members.{keys_of, place_of}
use Rattle.mol_resolve_members.proofs.numbers_lemmas.MethodNumbers.{method-number, param-number}
use Rattle.mol_resolve_members.proofs.numbers_lemmas.NumberPlaces.{class-nowhere, class-place, member-place}

abbrev Declaration : Type 0
Declaration = ViewDeclaration ℕ MemberKey

module _ (sources : List SourceUnit) where
  abbrev ids : Ids ℕ MemberKey
  ids = ids_of (files_of sources)

  abbrev viewed : Ids ℕ MemberKey
  viewed = ids_by (view_in sources) (files_of sources)

  by-view : ids ≡ viewed
  by-view = ap (λ view. ids_by view (files_of sources)) (sources_viewed.same_view sources)

  plus-one : (n : ℕ) → suc n ≡ 1 + n
  plus-one n = omega arith

  pub class-id : (unit : ℕ) → unit < length sources → ids.class_id unit ≡ base_id (1 + position (numbers_by_path sources) unit)
  class-id unit inside =
      let source = get-below sources unit inside in
      let place = class-place sources unit source.0 source.1 in
      ap (λ (ids : Ids ℕ MemberKey). ids.class_id unit) by-view
      ∙ ap base_id (ap (λ n. suc n) place ∙ plus-one (position (numbers_by_path sources) unit))

  pub class-id_after : (unit : ℕ) → length sources ≤ unit → ids.class_id unit ≡ base_id (first_after sources (length (keys_of sources)))
  class-id_after unit past =
      ap (λ (ids : Ids ℕ MemberKey). ids.class_id unit) by-view
      ∙ ap base_id (ap (λ n. suc n) (class-nowhere sources unit past)
      ∙ sym (ap (λ keys. suc (length sources + length (keys_of sources) + sum_by (given_at (view_in sources)) keys))
      (take_all (length (keys_of sources)) (keys_of sources) (omega arith))))

  pub member-id : (key : MemberKey) → Contains (keys_of sources) key
      → ids.member_id key ≡ base_id (1 + length sources + place_of sources key)
  member-id key there =
      ap (λ (ids : Ids ℕ MemberKey). ids.member_id key) by-view
      ∙ ap base_id (ap (λ n. suc n) (member-place sources key there)
      ∙ (let e : suc (length sources + place_of sources key) ≡ 1 + length sources + place_of sources key = omega arith in e))

  module _ (key : MemberKey) (declared : Declaration) (found : declaration_at (view_in sources) key ≡ Some declared) where
    pub method-id : ids.method_id declared ≡ base_id (method_number sources key 0)
    method-id =
        ap (λ (ids : Ids ℕ MemberKey). ids.method_id declared) by-view ∙ ap base_id (method-number sources key declared found)

    abbrev param_id : ℕ → Id
    param_id param = base_id (method_number sources key (1 + param))

    abbrev by_key : ℕ → Id
    by_key param = id_by (view_in sources) (files_of sources) (numbered_param (topmost (view_in sources) declared).key param)

    pub param-ids : map (λ param. base_id (method_number sources key (1 + param))) (below declared.arity) ≡ ids.param_ids declared
    param-ids =
        sym (ap (λ (ids : Ids ℕ MemberKey). ids.param_ids declared) by-view
        ∙ fill_by_all param_id (map by_key (below declared.arity)) declared.arity (by_key 0)
        (length-map-range_with_len by_key 0 declared.arity)
        (λ param inside. get_or-map-range_with_len by_key 0 declared.arity param param (by_key 0) inside (omega arith)
        ∙ ap base_id (param-number sources key declared found param inside)))
