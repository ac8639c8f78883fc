-- The entities of files make a program that knows what has a number, and holds what is said of it.
use Rattle.std.proofs.Common.{◌≡◌, ◌≢◌, ◌⊎◌, inl, inr, ℕ, ◌<◌, Bool, true, false, cond, List, [], ◌∷◌, filter_map, Option, Some, None, option_map, Contains, refl, sym, ◌∙◌, ap, subst, arith, true≢false}
use Rattle.std.specs.List.{AllPairs, cons_option}
use Rattle.std.specs.FinMap.{get, get-empty}
use Rattle.std.proofs.lemmas.List.Elements.{All-contains}
use Rattle.std.proofs.lemmas.List.Kept.{AllPairs-cons}
use Rattle.jav_names.proofs.Lists.{stands_first, stands_later, stands_where, stands_nowhere, All-from_each}
use Rattle.jav_names.specs.UnitViews.{MemberKey}
use Rattle.mol_base.specs.Order.{id_cmp}
use Rattle.mol_base.specs.declared.ident.Id.{Id}
use Rattle.mol_resolve_rules.proofs.FilesStand.{some-same}
use Rattle.mol_resolve_rules.proofs.NumbersApart.{numbers_apart}
use Rattle.mol_resolve_rules.proofs.Stands.{from_some, in_some}
use Rattle.mol_resolve_rules.proofs.ValuesFound.{values_there}
use Rattle.mol_resolve_rules.specs.Expected.{known_of, value_of}
use Rattle.mol_resolve_rules.specs.Files.{Files}
use Rattle.mol_resolve_rules.specs.Numbering.{Numbered, numbered_class, numbered_member, numbered_method, numbered_param, in_order, id_at}
use Rattle.mol_resolve_rules.specs.ReadAs.{HasNoFault, IsNumbered}
use Rattle.mol_table_rules.proofs.Living.{same_id-own, id_tied}
use Rattle.mol_table_rules.specs.Program.{Program, nothing, same_id, cell, value_at}
use Rattle.mol_table_rules.specs.Writes.{with_entities}
use Rattle.mol_table_rules.specs.declared.entity.NewEntity.{NewEntity}
use Rattle.mol_values_types.specs.Order.{cell_cmp}
use Rattle.mol_values_types.specs.Slots.{kind_of_known, slots_of, has_slot}
use Rattle.mol_values_types.specs.declared.cell.Slot.{Slot}
use Rattle.mol_values_types.specs.declared.known.Known.{Known}
use Rattle.mol_values_types.specs.declared.known.Known.TheVariants as knowns
use Rattle.mol_resolve_laws.proofs.Added.{HasNoId, AreApart, apart-pairs, params_of, held, cells-elsewhere, cells-held, known-own, IsListedIn, known-new, known-listed}
use Rattle.mol_resolve_laws.proofs.EntityItems.{all-said, item-entity}
use Rattle.mol_resolve_laws.proofs.EntityValues.{held-said}
use Rattle.mol_resolve_laws.proofs.Gives.{none-some}
use Rattle.mol_resolve_laws.proofs.MethodItems.{param-item, method-stands}
use Rattle.mol_resolve_laws.proofs.OrderDistinct.{IsOnce, order-once}
use Rattle.mol_resolve_laws.specs.Entities.{is_added, entity_as, entity_of, plain_entities, AreEntities}

-- ---- the entities in the order of their numbers

-- what is added is added as it is known
pub record IsAdded (files : Files) (item : Numbered) (entity : NewEntity) : Type 0 where
  pub known : Known
  pub is : known_of files item ≡ Some known
  pub added : is_added item ≡ true
  pub same : entity_as files item known ≡ entity

pub added-as : (files : Files) (item : Numbered) (entity : NewEntity) → entity_of files item ≡ Some entity → IsAdded files item entity
added-as files item entity is = by (is_added item) refl is where
  by_known : (o : Option Known) → known_of files item ≡ o → is_added item ≡ true → option_map (entity_as files item) o ≡ Some entity
      → IsAdded files item entity
  by_known None none added is = absurd (none-some is)
  by_known (Some what) some added is = record { known = what; is = some; added = added; same = some-same is }

  by : (b : Bool) → is_added item ≡ b → cond b (option_map (entity_as files item) (known_of files item)) None ≡ Some entity
      → IsAdded files item entity
  by true added is = by_known (known_of files item) refl added is
  by false none is = absurd (none-some is)

entity-id : (files : Files) (item : Numbered) (entity : NewEntity) → entity_of files item ≡ Some entity → entity.id ≡ id_at files item
entity-id files item entity is = ap (λ (e : NewEntity). e.id) (sym (added-as files item entity is).same)

module _ (files : Files) where
  once-entities : (items : List Numbered) → ((item : Numbered) → Contains items item → Contains (in_order files) item) → IsOnce items
      → AllPairs (λ (first second : NewEntity). first.id ≢ second.id) (filter_map (entity_of files) items)
  once-entities [] inside once = λ i j d less below. absurd (no-pairs i j less below) where
    no-pairs : (i j : ℕ) → i < j → j < 0 → ⊥
    no-pairs i j less below = omega (arith, below)
  once-entities (item ∷ items) inside once =
      by (entity_of files item) refl
      (once-entities items (λ x stands. inside x (stands_later item x items stands)) once.1) where
        apart : (entity : NewEntity) → entity_of files item ≡ Some entity → (other : NewEntity)
            → Contains (filter_map (entity_of files) items) other → entity.id ≢ other.id
        apart entity is other stands same =
            let of = from_some (entity_of files) items other stands in
            once.0 (subst (Contains items) (numbers_apart.apart files of.0 item (inside of.0 (stands_later item of.0 items of.1))
            (inside item (stands_first item items))
            (sym (entity-id files of.0 other of.2) ∙ sym same ∙ entity-id files item entity is)) of.1)

        by : (o : Option NewEntity) → entity_of files item ≡ o
            → AllPairs (λ (first second : NewEntity). first.id ≢ second.id) (filter_map (entity_of files) items)
            → AllPairs (λ (first second : NewEntity). first.id ≢ second.id) (cons_option o (filter_map (entity_of files) items))
        by None none more = more
        by (Some entity) is more = AllPairs-cons (λ (first second : NewEntity). first.id ≢ second.id) entity
            (filter_map (entity_of files) items)
            (All-from_each (λ (other : NewEntity). entity.id ≢ other.id) (filter_map (entity_of files) items) (apart entity is)) more

  pub entities-listed : AreEntities files (plain_entities files)
  entities-listed = record {
    each = All-from_each _ (plain_entities files) (λ entity stands. from_some (entity_of files) (in_order files) entity stands);
    whole = λ item entity stands is. in_some (entity_of files) (in_order files) item entity stands is;
    once = once-entities (in_order files) (λ item stands. stands) (order-once files);
  }

-- ---- the program of entities

-- It knows what has a number, and holds what is said of it, and nothing else.
pub record IsFilled (files : Files) (program : Program) : Type 0 where
  pub numbered : IsNumbered files program
  pub cells : (item : Numbered) → Contains (in_order files) item → (known : Known) → known_of files item ≡ Some known → (slot : Slot)
      → value_at program (id_at files item) slot ≡ cond (has_slot (Some known) slot) (value_of files item slot) None
  pub bare : (id : Id) → get program.known id ≡ None → (slot : Slot) → value_at program id slot ≡ None

module _ (files : Files) (no_fault : HasNoFault files) (entities : List NewEntity) (are : AreEntities files entities) where
  abbrev filled : Program
  filled = with_entities nothing entities

  apart : AreApart entities
  apart = apart-pairs entities are.once

  unknown : (id : Id) (what : Known) → ¬ (get nothing.known id ≡ Some what)
  unknown id what is = none-some (sym (get-empty id_cmp id) ∙ is)

  no-cell : (id : Id) (slot : Slot) → value_at nothing id slot ≡ None
  no-cell id slot = get-empty cell_cmp (cell id slot)

  -- each entity is that of something that is added
  pub item-of : (entity : NewEntity) → Contains entities entity
      → (item : Numbered) × Contains (in_order files) item × (entity_of files item ≡ Some entity)
  item-of entity stands = All-contains
      (λ (e : NewEntity). (item : Numbered) × Contains (in_order files) item × (entity_of files item ≡ Some e)) entities entity are.each
      stands

  -- some entity has the identity, or none
  find-id : (id : Id) (es : List NewEntity) → ((e : NewEntity) × Contains es e × (e.id ≡ id)) ⊎ HasNoId id es
  find-id id [] = inr (λ e stands same. stands_nowhere e stands)
  find-id id (e ∷ es) = by (same_id e.id id) refl (find-id id es) where
    none : same_id e.id id ≡ false → HasNoId id es → HasNoId id (e ∷ es)
    none differs rest other stands same = at (stands_where e other es stands) where
      at : (e ≡ other) ⊎ Contains es other → ⊥
      at (inl is) = true≢false (sym (ap (λ (x : NewEntity). same_id x.id id) is ∙ ap (λ x. same_id x id) same ∙ same_id-own id) ∙ differs)
      at (inr later) = rest other later same

    by : (b : Bool) → same_id e.id id ≡ b → ((e : NewEntity) × Contains es e × (e.id ≡ id)) ⊎ HasNoId id es
        → ((x : NewEntity) × Contains (e ∷ es) x × (x.id ≡ id)) ⊎ HasNoId id (e ∷ es)
    by true is rest = inl (e, stands_first e es, id_tied e.id id is)
    by false differs (inl found) = inl (found.0, stands_later e found.0 es found.1, found.2)
    by false differs (inr none-later) = inr (none differs none-later)

  -- a parameter is no entity
  param-apart : (key : MemberKey) (place : ℕ) → Contains (in_order files) (numbered_param key place)
      → HasNoId (id_at files (numbered_param key place)) entities
  param-apart key place stands entity in_entities same =
      let of = item-of entity in_entities in
      let one : of.0 ≡ numbered_param key place
      = numbers_apart.apart files of.0 (numbered_param key place) of.1 stands (sym (entity-id files of.0 entity of.2) ∙ same) in
      true≢false (sym (added-as files of.0 entity of.2).added ∙ ap is_added one)

  -- ---- what is known

  entity-known : (item : Numbered) → Contains (in_order files) item → (known : Known) → known_of files item ≡ Some known
      → is_added item ≡ true → get filled.known (id_at files item) ≡ Some known
  entity-known item stands known is added =
      let entity = entity_as files item known in
      let of : entity_of files item ≡ Some entity
      = ap (λ b. cond b (option_map (entity_as files item) (known_of files item)) None) added
      ∙ ap (option_map (entity_as files item)) is in
      known-own entities nothing apart entity (are.whole item entity stands of) known
      (item-entity files no_fault item stands known is added).own

  param-key : {x y : MemberKey} {m n : ℕ} → numbered_param x m ≡ numbered_param y n → x ≡ y
  param-key is = cc

  param-known : (key : MemberKey) (place : ℕ) → Contains (in_order files) (numbered_param key place)
      → get filled.known (id_at files (numbered_param key place)) ≡ Some (knowns.Param (id_at files (numbered_method key)))
  param-known key place stands =
      let item = numbered_param key place in
      let none = param-apart key place stands in
      let in_method = method-stands files key (param-item files key place stands).method in
      let method = values_there.known files (numbered_method key) in_method in
      let entity = entity_as files (numbered_method key) method.0 in
      let of : entity_of files (numbered_method key) ≡ Some entity = ap (option_map (entity_as files (numbered_method key))) method.1 in
      let is-entity = item-entity files no_fault (numbered_method key) in_method method.0 method.1 refl in
      let listed = is-entity.lists key place refl stands in
      let there = known-listed entities nothing entity listed.0 (are.whole (numbered_method key) entity in_method of) listed.1
      (subst (λ id. HasNoId id entities) (sym listed.2) none) in
      let is = sym (ap (get filled.known) listed.2) ∙ there.1 in
      subst (λ k. get filled.known (id_at files item) ≡ Some k)
      (by there.0 (known-new entities nothing (id_at files item) there.0 none is)) is where
        by : (what : Known) → (get nothing.known (id_at files (numbered_param key place)) ≡ Some what)
            ⊎ IsListedIn entities (id_at files (numbered_param key place)) what
            → what ≡ knowns.Param (id_at files (numbered_method key))
        by what (inl before) = absurd (unknown (id_at files (numbered_param key place)) what before)
        by what (inr listed) =
            let of = item-of listed.entity listed.stands in
            let added = added-as files of.0 listed.entity of.2 in
            let here = (item-entity files no_fault of.0 of.1 added.known added.is added.added).listed listed.listed.param
            (subst (λ (e : NewEntity). Contains (params_of e.values) listed.listed.param) (sym added.same) listed.listed.listed) in
            let same : numbered_param here.0 here.1.0 ≡ numbered_param key place
            = numbers_apart.apart files (numbered_param here.0 here.1.0) (numbered_param key place) here.1.2 stands
            (here.1.3 ∙ listed.listed.same) in
            listed.listed.is ∙ ap (λ id. knowns.Param id) (entity-id files of.0 listed.entity of.2 ∙ ap (id_at files) here.1.1
            ∙ ap (λ k. id_at files (numbered_method k)) (param-key same))

  each-known : (item : Numbered) → Contains (in_order files) item
      → (known : Known) × ((known_of files item ≡ Some known) × (get filled.known (id_at files item) ≡ Some known))
  each-known (numbered_param key place) stands =
      (knowns.Param (id_at files (numbered_method key)), (refl, param-known key place stands))
  each-known (numbered_class number) stands =
      let known = values_there.known files (numbered_class number) stands in
      (known.0, (known.1, entity-known (numbered_class number) stands known.0 known.1 refl))
  each-known (numbered_member key) stands =
      let known = values_there.known files (numbered_member key) stands in
      (known.0, (known.1, entity-known (numbered_member key) stands known.0 known.1 refl))
  each-known (numbered_method key) stands =
      let known = values_there.known files (numbered_method key) stands in
      (known.0, (known.1, entity-known (numbered_method key) stands known.0 known.1 refl))

  only-known : (id : Id) (known : Known) → get filled.known id ≡ Some known
      → (item : Numbered) × (Contains (in_order files) item × (id_at files item ≡ id))
  only-known id known is = by (find-id id entities) where
    listed : (get nothing.known id ≡ Some known) ⊎ IsListedIn entities id known
        → (item : Numbered) × (Contains (in_order files) item × (id_at files item ≡ id))
    listed (inl before) = absurd (unknown id known before)
    listed (inr there) =
        let of = item-of there.entity there.stands in
        let added = added-as files of.0 there.entity of.2 in
        let here = (item-entity files no_fault of.0 of.1 added.known added.is added.added).listed there.listed.param
        (subst (λ (e : NewEntity). Contains (params_of e.values) there.listed.param) (sym added.same) there.listed.listed) in
        (numbered_param here.0 here.1.0, (here.1.2, here.1.3 ∙ there.listed.same))

    by : ((e : NewEntity) × Contains entities e × (e.id ≡ id)) ⊎ HasNoId id entities
        → (item : Numbered) × (Contains (in_order files) item × (id_at files item ≡ id))
    by (inl found) = let of = item-of found.0 found.1 in (of.0, (of.1, sym (entity-id files of.0 found.0 of.2) ∙ found.2))
    by (inr none) = listed (known-new entities nothing id known none is)

  -- ---- what cells hold

  entity-cells : (item : Numbered) → Contains (in_order files) item → (known : Known) → known_of files item ≡ Some known
      → is_added item ≡ true → (slot : Slot)
      → value_at filled (id_at files item) slot ≡ cond (has_slot (Some known) slot) (value_of files item slot) None
  entity-cells item stands known is added slot =
      let entity = entity_as files item known in
      let of : entity_of files item ≡ Some entity
      = ap (λ b. cond b (option_map (entity_as files item) (known_of files item)) None) added
      ∙ ap (option_map (entity_as files item)) is in
      cells-held entities nothing apart entity (are.whole item entity stands of) slot
      ∙ ap (held entity.values slot) (no-cell entity.id slot)
      ∙ held-said (value_of files item) (slots_of (kind_of_known known)) (all-said files no_fault item stands known is) slot None

  all-cells : (item : Numbered) → Contains (in_order files) item → (known : Known) → known_of files item ≡ Some known → (slot : Slot)
      → value_at filled (id_at files item) slot ≡ cond (has_slot (Some known) slot) (value_of files item slot) None
  all-cells (numbered_class number) stands known is slot = entity-cells (numbered_class number) stands known is refl slot
  all-cells (numbered_member key) stands known is slot = entity-cells (numbered_member key) stands known is refl slot
  all-cells (numbered_method key) stands known is slot = entity-cells (numbered_method key) stands known is refl slot
  all-cells (numbered_param key place) stands known is slot =
      cells-elsewhere entities nothing (id_at files (numbered_param key place)) (param-apart key place stands) slot
      ∙ no-cell (id_at files (numbered_param key place)) slot
      ∙ ap (λ known. cond (has_slot (Some known) slot) (value_of files (numbered_param key place) slot) None) (some-same is)

  bare-cells : (id : Id) → get filled.known id ≡ None → (slot : Slot) → value_at filled id slot ≡ None
  bare-cells id none slot = by (find-id id entities) where
    by : ((e : NewEntity) × Contains entities e × (e.id ≡ id)) ⊎ HasNoId id entities → value_at filled id slot ≡ None
    by (inr no-id) = cells-elsewhere entities nothing id no-id slot ∙ no-cell id slot
    by (inl found) =
        let of = item-of found.0 found.1 in
        let known = each-known of.0 of.1 in
        absurd (none-some (sym none ∙ ap (get filled.known) (sym (sym (entity-id files of.0 found.0 of.2) ∙ found.2)) ∙ known.1.1))

  pub entities-filled : IsFilled files filled
  entities-filled = record {
    numbered = record { each = each-known; only = only-known };
    cells = all-cells;
    bare = bare-cells;
  }
