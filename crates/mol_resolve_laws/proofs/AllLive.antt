-- Each identity that a program in plain form knows lives.
use Rattle.std.proofs.Common.{◌≡◌, ◌⊎◌, inl, inr, ℕ, Bool, true, false, ◌||◌, cond, List, [], ◌∷◌, Option, Some, None, option_map, Contains, slice_get, refl, sym, ◌∙◌, ap, subst, true≢false}
use Rattle.std.proofs.lemmas.Bool.{and_from, or_right, or_left}
use Rattle.std.specs.Prelude.{is_some}
use Rattle.std.specs.List.{list_any}
use Rattle.std.specs.FinMap as finite
use Rattle.std.specs.FinMap.{get, entries, get-entries}
use Rattle.std.specs.Option.{option_and_then}
use Rattle.jav_names.proofs.Lists.{stands_where, stands_nowhere}
use Rattle.jav_names.specs.UnitViews.{MemberKey}
use Rattle.jav_names.specs.Views.{ViewDeclaration}
use Rattle.mol_base.specs.Order.{id_cmp}
use Rattle.mol_base.specs.declared.ident.Id.{Id}
use Rattle.mol_resolve_rules.proofs.FilesStand.{StandsAt, some-same, found-stands, declaration-made, member-found, member-in_order}
use Rattle.mol_resolve_rules.proofs.Stands.{from_map}
use Rattle.mol_resolve_rules.specs.Expected.{kind_of, member_known, known_of, cell_of_class, cell_of_member, value_of}
use Rattle.mol_resolve_rules.specs.Files.{File, Files, PlacedMember, placed, member_at}
use Rattle.mol_resolve_rules.specs.Numbering.{Numbered, numbered_class, numbered_member, numbered_method, numbered_param, in_order, id_at}
use Rattle.mol_resolve_rules.specs.ReadAs.{IsPlain, KnowsLivingAlone}
use Rattle.mol_table_rules.proofs.Living.{same_id-own, id_tied}
use Rattle.mol_table_rules.specs.Life.{is_living_decl, lives_method, lives_as, lives}
use Rattle.mol_table_rules.specs.Program.{Program, Knowns, same_id, value_at, is_yes, living_at, params_in}
use Rattle.mol_values_types.specs.Slots.{has_slot}
use Rattle.mol_values_types.specs.declared.cell.Slot.{Slot}
use Rattle.mol_values_types.specs.declared.cell.Slot.TheVariants as slots
use Rattle.mol_values_types.specs.declared.known.Known.{Known}
use Rattle.mol_values_types.specs.declared.known.Known.TheVariants as knowns
use Rattle.mol_values_types.specs.declared.param.Param.{Param}
use Rattle.mol_values_types.specs.declared.value.Value.{Value}
use Rattle.mol_values_types.specs.declared.value.Value.TheVariants as values
use Rattle.mol_resolve_laws.proofs.EntityItems.{placed-declared, has-params}
use Rattle.mol_resolve_laws.proofs.Gives.{none-some}
use Rattle.mol_resolve_laws.proofs.MethodItems.{IsInMethod, method-item, param-item, method-stands, in-ids}

-- what passes is found in a list
any-there : {X : Type 0} (p : X → Bool) (xs : List X) (x : X) → Contains xs x → p x ≡ true → list_any p xs ≡ true
any-there p [] x stands passes = absurd (stands_nowhere x stands)
any-there p (y ∷ xs) x stands passes = by (stands_where y x xs stands) (λ later. any-there p xs x later passes) where
  by : (y ≡ x) ⊎ Contains xs x → (Contains xs x → list_any p xs ≡ true) → (p y || list_any p xs) ≡ true
  by (inl same) more = or_left _ _ (ap p same ∙ passes)
  by (inr later) more = or_right (p y) (list_any p xs) (more later)

-- and so is what is known under an identity, among all that is known
any-known : (p : Id × Known → Bool) (known : Knowns) (id : Id) (what : Known) → get known id ≡ Some what → p (id, what) ≡ true
    → list_any p (entries known) ≡ true
any-known p known id what is passes = any-entry (entries known) (sym (get-entries known id) ∙ is) where
  any-entry : (es : List (Id × Known)) → finite.find id_cmp id es ≡ Some what → list_any p es ≡ true
  any-entry [] is = absurd (none-some is)
  any-entry (e ∷ es) is = at (same_id id e.0) refl is (any-entry es) where
    at : (b : Bool) → same_id id e.0 ≡ b → cond b (Some e.1) (finite.find id_cmp id es) ≡ Some what
        → (finite.find id_cmp id es ≡ Some what → list_any p es ≡ true) → (p e || list_any p es) ≡ true
    at true same is more = or_left (p e) (list_any p es)
        (ap (λ k. p (e.0, k)) (some-same is) ∙ ap (λ i. p (i, what)) (sym (id_tied id e.0 same)) ∙ passes)
    at false same is more = or_right (p e) (list_any p es) (more is)

module _ (files : Files) (program : Program) (plain : IsPlain files program) where
  abbrev Declaration : Type 0
  Declaration = ViewDeclaration ℕ MemberKey

  -- what is said of a cell is held there
  cell-held : (item : Numbered) → Contains (in_order files) item → (slot : Slot) (value : Value)
      → has_slot (known_of files item) slot ≡ true → value_of files item slot ≡ Some value
      → value_at program (id_at files item) slot ≡ Some value
  cell-held item stands slot value has said =
      let held = plain.holds item stands slot has in
      held.holds ∙ ap (λ v. Some v) (held.agree ∙ some-same (sym held.says ∙ said))

  -- ---- classes, fields and declarations

  live-cell : (item : Numbered) → Contains (in_order files) item → has_slot (known_of files item) slots.Live ≡ true
      → ((value : Value) → value_of files item slots.Live ≡ Some value → value ≡ values.Live true)
      → living_at program (id_at files item) ≡ true
  live-cell item stands has live =
      let held = plain.holds item stands slots.Live has in
      ap is_yes (held.holds ∙ ap (λ v. Some v) (held.agree ∙ live held.text held.says))

  class-lives : (number : ℕ) → Contains (in_order files) (numbered_class number)
      → living_at program (id_at files (numbered_class number)) ≡ true
  class-lives number stands = live-cell (numbered_class number) stands refl (λ value said. by value (slice_get files number) said) where
    by : (value : Value) (o : Option File) → option_and_then (cell_of_class files number slots.Live) o ≡ Some value
        → value ≡ values.Live true
    by value None said = absurd (none-some said)
    by value (Some file) said = sym (some-same said)

  member-live : (key : MemberKey) (value : Value) → value_of files (numbered_member key) slots.Live ≡ Some value
      → value ≡ values.Live true
  member-live key value said = by (member_at files key) said where
    by : (o : Option PlacedMember) → option_and_then (cell_of_member files slots.Live) o ≡ Some value → value ≡ values.Live true
    by None said = absurd (none-some said)
    by (Some at) said = sym (some-same said)

  member-lives : (key : MemberKey) → Contains (in_order files) (numbered_member key) → (known : Known)
      → known_of files (numbered_member key) ≡ Some known → lives_as program (id_at files (numbered_member key)) (Some known) ≡ true
  member-lives key stands known is = by (member_at files key) is where
    of-known : (d : Option Declaration) → member_known files d ≡ known
        → lives_as program (id_at files (numbered_member key)) (Some known) ≡ true
    of-known None same = subst (λ k. lives_as program (id_at files (numbered_member key)) (Some k) ≡ true) same
        (live-cell (numbered_member key) stands
        (ap (λ o. has_slot o slots.Live) is ∙ ap (λ k. has_slot (Some k) slots.Live) (sym same)) (member-live key))
    of-known (Some d) same = subst (λ k. lives_as program (id_at files (numbered_member key)) (Some k) ≡ true) same
        (live-cell (numbered_member key) stands
        (ap (λ o. has_slot o slots.Live) is ∙ ap (λ k. has_slot (Some k) slots.Live) (sym same)) (member-live key))

    by : (o : Option PlacedMember) → option_map (λ (at : PlacedMember). member_known files at.declared) o ≡ Some known
        → lives_as program (id_at files (numbered_member key)) (Some known) ≡ true
    by None is = absurd (none-some is)
    by (Some at) is = of-known at.declared (some-same is)

  -- ---- methods and parameters

  -- the declaration at whose key a method stands is one of it
  method-lives : (key : MemberKey) → IsInMethod files key (numbered_method key)
      → lives_method program (id_at files (numbered_method key)) ≡ true
  method-lives key method =
      let found = found-stands files key method.declared method.found in
      let here = subst (StandsAt files) found.1 (declaration-made files method.declared found.0).at in
      let stands = member-in_order files key here in
      let at = placed files (key.unit, here.file) (key.member, here.member) in
      let placed_at : member_at files key ≡ Some at = member-found files key here in
      let declared : at.declared ≡ Some method.declared = placed-declared files plain.no_fault key at placed_at ∙ method.found in
      let own = id_at files (numbered_method key) in
      let known-is : known_of files (numbered_member key) ≡ Some (knowns.Decl own)
      = ap (option_map (λ (at : PlacedMember). member_known files at.declared)) placed_at
      ∙ ap (λ (o : Option Declaration). Some (member_known files o)) declared
      ∙ ap (λ (k : MemberKey). Some (knowns.Decl (id_at files (numbered_method k)))) method.top in
      let each = plain.numbered.each (numbered_member key) stands in
      any-known (is_living_decl program own) program.known (id_at files (numbered_member key)) (knowns.Decl own)
      (each.1.1 ∙ sym each.1.0 ∙ known-is)
      (and_from _ _ (same_id-own own) (member-lives key stands (knowns.Decl own) known-is))

  param-lives : (key : MemberKey) (place : ℕ) → Contains (in_order files) (numbered_param key place)
      → lives_as program (id_at files (numbered_param key place)) (Some (knowns.Param (id_at files (numbered_method key)))) ≡ true
  param-lives key place stands =
      let of = param-item files key place stands in
      let in_order = method-stands files key of.method in
      let has = has-params files plain.no_fault key of.method in_order in
      let held = cell-held (numbered_method key) in_order slots.Params (values.Params has.params)
      (ap (λ (o : Option Known). has_slot o slots.Params)
      (ap (option_map (λ (d : Declaration). knowns.Method (kind_of d.kind))) of.method.found)) has.said in
      let param = from_map (λ (p : Param). p.id) has.params (id_at files (numbered_param key place))
      (subst (λ ids. Contains ids (id_at files (numbered_param key place))) (sym has.ids_are)
      (in-ids files key of.method place of.below)) in
      and_from _ _ (method-lives key of.method)
      (ap (λ (o : Option Value). list_any (λ (p : Param). same_id (id_at files (numbered_param key place)) p.id) (params_in o)) held
      ∙ any-there (λ (p : Param). same_id (id_at files (numbered_param key place)) p.id) has.params param.0 param.1
      (ap (same_id (id_at files (numbered_param key place))) param.2 ∙ same_id-own (id_at files (numbered_param key place))))

  -- ---- all that is known

  item-lives : (item : Numbered) → Contains (in_order files) item → (known : Known) → known_of files item ≡ Some known
      → lives_as program (id_at files item) (Some known) ≡ true
  item-lives (numbered_class number) stands known is =
      subst (λ k. lives_as program (id_at files (numbered_class number)) (Some k) ≡ true) (some-same is) (class-lives number stands)
  item-lives (numbered_member key) stands known is = member-lives key stands known is
  item-lives (numbered_method key) stands known is =
      let method = method-item files key stands in
      subst (λ k. lives_as program (id_at files (numbered_method key)) (Some k) ≡ true)
      (some-same (sym (ap (option_map (λ (d : Declaration). knowns.Method (kind_of d.kind))) method.found) ∙ is))
      (method-lives key method)
  item-lives (numbered_param key place) stands known is =
      subst (λ k. lives_as program (id_at files (numbered_param key place)) (Some k) ≡ true) (some-same is) (param-lives key place stands)

  pub knows-living : KnowsLivingAlone program
  knows-living id there = by (get program.known id) refl there where
    by : (o : Option Known) → get program.known id ≡ o → is_some o ≡ true → lives program id ≡ true
    by None none there = absurd (true≢false (sym there))
    by (Some known) held there =
        let found = plain.numbered.only id known held in
        let each = plain.numbered.each found.0 found.1.0 in
        ap (lives_as program id) held
        ∙ subst (λ x. lives_as program x (Some known) ≡ true) found.1.1 (item-lives found.0 found.1.0 known
        (each.1.0 ∙ sym each.1.1 ∙ ap (get program.known) found.1.1 ∙ held))
