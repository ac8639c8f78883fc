-- What the entity of a class, a member or a method makes known, and which parameters it lists.
use Rattle.std.proofs.Common.{◌≡◌, ℕ, true, List, [], ◌∷◌, map, length, filter_map, Option, Some, None, option_map, Contains, slice_get, refl, sym, ◌∙◌, ap, subst, arith, true≢false}
use Rattle.std.specs.List.{zip}
use Rattle.std.specs.FinMap.{get, insert}
use Rattle.std.specs.Option.{option_and_then}
use Rattle.std.proofs.lemmas.List.FromFn.{length-map-range_with_len}
use Rattle.jav_tree.specs.declared.unit.Member.{Member}
use Rattle.jav_tree.specs.declared.unit.Param.{Param as SourceParam}
use Rattle.jav_names.proofs.Lists.{stands_nowhere, stands-mapped}
use Rattle.jav_names.specs.UnitViews.{MemberKey}
use Rattle.jav_names.specs.Views.{ViewDeclaration}
use Rattle.mol_base.specs.declared.ident.Id.{Id}
use Rattle.mol_resolve_rules.proofs.FilesStand.{StandsAt, some-same, found-stands, declaration-made, member-found}
use Rattle.mol_resolve_rules.proofs.Stands.{from_map}
use Rattle.mol_resolve_rules.proofs.ValuesFound.{values_there}
use Rattle.mol_resolve_rules.specs.Expected.{kind_of, listed, member_known, known_of, method_cell, cell_of_member, params_cell, cell_of_method, value_of}
use Rattle.mol_resolve_rules.specs.Files.{File, Files, files_view, params_of as params_of_member, place_of_member, declaration_at, PlacedMember, placed, member_at}
use Rattle.mol_resolve_rules.specs.Numbering.{Numbered, numbered_class, numbered_member, numbered_method, numbered_param, in_order, id_at, ids_of}
use Rattle.mol_resolve_rules.specs.ReadAs.{HasNoFault}
use Rattle.mol_resolve_rules.specs.ReadFiles.{declared_ids, member_reader, read_params}
use Rattle.mol_resolve_rules.specs.ReadTypes.{ReadType, read_type}
use Rattle.mol_table_rules.specs.Program.{Knowns}
use Rattle.mol_values_types.specs.Slots.{kind_of_known, slots_of, has_slot}
use Rattle.mol_values_types.specs.declared.cell.Slot.{Slot}
use Rattle.mol_values_types.specs.declared.cell.Slot.TheVariants as slots
use Rattle.mol_values_types.specs.declared.kind.Kind.TheVariants as kinds
use Rattle.mol_values_types.specs.declared.known.Known.{Known}
use Rattle.mol_values_types.specs.declared.known.Known.TheVariants as knowns
use Rattle.mol_values_types.specs.declared.param.Param.{Param}
use Rattle.mol_values_types.specs.declared.value.Value.{Value}
use Rattle.mol_values_types.specs.declared.value.Value.TheVariants as values
use Rattle.mol_resolve_laws.proofs.Added.{known_with, params_of}
use Rattle.mol_resolve_laws.proofs.EntityValues.{AreSaid, any-first, own-kept, own-named, put-own, quiet-test, lists-none, lists-params}
use Rattle.mol_resolve_laws.proofs.Gives.{none-some}
use Rattle.mol_resolve_laws.proofs.MethodItems.{IsInMethod, method-item, param-item, param-stands, ids, ids-are, in-ids, from-ids, declared-arity, all-length, listed-ids, zip-length}
use Rattle.mol_resolve_laws.proofs.ValueSlots.{value-slot}
use Rattle.mol_resolve_laws.specs.Entities.{is_added, entity_as}

-- ---- the entity of an item

module _ (files : Files) (no_fault : HasNoFault files) where
  abbrev Declaration : Type 0
  Declaration = ViewDeclaration ℕ MemberKey

  -- what is said of an item that is known so, in each of its slots
  pub all-said : (item : Numbered) → Contains (in_order files) item → (known : Known) → known_of files item ≡ Some known
      → AreSaid (value_of files item) (slots_of (kind_of_known known))
  all-said item stands known is s in_slots =
      let there = values_there.values files no_fault item stands s
      (ap (λ (o : Option Known). has_slot o s) is ∙ any-first s (slots_of (kind_of_known known)) in_slots) in
      (there.0, there.1, value-slot files item s there.0 there.1)

  -- what an entity makes known
  pub record IsEntity (item : Numbered) (known : Known) : Type 0 where
    pub own : (before : Knowns) → get (known_with before (entity_as files item known)) (id_at files item) ≡ Some known
    pub listed : (param : Param) → Contains (params_of (entity_as files item known).values) param
        → (key : MemberKey) × ((place : ℕ) × (item ≡ numbered_method key) × Contains (in_order files) (numbered_param key place)
        × (id_at files (numbered_param key place) ≡ param.id))
    pub lists : (key : MemberKey) (place : ℕ) → item ≡ numbered_method key → Contains (in_order files) (numbered_param key place)
        → (param : Param) × Contains (params_of (entity_as files item known).values) param
        × (param.id ≡ id_at files (numbered_param key place))

  -- an entity that lists nothing
  silent-entity : (item : Numbered) (known : Known) → ((key : MemberKey) → ¬ (item ≡ numbered_method key))
      → ((before : Knowns) → get (known_with before (entity_as files item known)) (id_at files item) ≡ Some known)
      → params_of (entity_as files item known).values ≡ [] → IsEntity item known
  silent-entity item known no-method own none = record {
    own = own;
    listed = λ param stands. absurd (stands_nowhere param (subst (λ ps. Contains ps param) none stands));
    lists = λ key place is stands. absurd (no-method key is);
  }

  class-entity : (number : ℕ) → Contains (in_order files) (numbered_class number) → IsEntity (numbered_class number) knowns.Class
  class-entity number stands =
      let each = all-said (numbered_class number) stands knowns.Class refl in
      silent-entity (numbered_class number) knowns.Class (λ key no. cc)
      (λ before. own-kept (value_of files (numbered_class number)) (slots_of kinds.Class) each
      (quiet-test (value_of files (numbered_class number)) (slots_of kinds.Class) refl)
      (insert before (id_at files (numbered_class number)) knowns.Class) (id_at files (numbered_class number)) knowns.Class
      (put-own before (id_at files (numbered_class number)) knowns.Class))
      (lists-none (value_of files (numbered_class number)) (slots_of kinds.Class) each refl)

  field-entity : (key : MemberKey) → Contains (in_order files) (numbered_member key)
      → known_of files (numbered_member key) ≡ Some knowns.Field
      → IsEntity (numbered_member key) knowns.Field
  field-entity key stands is =
      let each = all-said (numbered_member key) stands knowns.Field is in
      silent-entity (numbered_member key) knowns.Field (λ key no. cc)
      (λ before. own-kept (value_of files (numbered_member key)) (slots_of kinds.Field) each
      (quiet-test (value_of files (numbered_member key)) (slots_of kinds.Field) refl)
      (insert before (id_at files (numbered_member key)) knowns.Field) (id_at files (numbered_member key)) knowns.Field
      (put-own before (id_at files (numbered_member key)) knowns.Field))
      (lists-none (value_of files (numbered_member key)) (slots_of kinds.Field) each refl)

  declared-entity : (key : MemberKey) (method : Id) → Contains (in_order files) (numbered_member key)
      → known_of files (numbered_member key) ≡ Some (knowns.Decl method)
      → value_of files (numbered_member key) slots.Method ≡ Some (values.Method method)
      → IsEntity (numbered_member key) (knowns.Decl method)
  declared-entity key method stands is said =
      let each = all-said (numbered_member key) stands (knowns.Decl method) is in
      silent-entity (numbered_member key) (knowns.Decl method) (λ key no. cc)
      (λ before. own-named (value_of files (numbered_member key)) (slots.Live ∷ slots.Owner ∷ []) slots.Method
      (slots.Words ∷ slots.Notes ∷ slots.Body ∷ []) each
      (quiet-test (value_of files (numbered_member key)) (slots.Words ∷ slots.Notes ∷ slots.Body ∷ []) refl)
      (values.Method method) said before
      (id_at files (numbered_member key)) (knowns.Decl method)
      (λ known. put-own known (id_at files (numbered_member key)) (knowns.Decl method)))
      (lists-none (value_of files (numbered_member key)) (slots_of kinds.Decl) each refl)

  -- ---- members

  pub placed-declared : (key : MemberKey) (at : PlacedMember) → member_at files key ≡ Some at
      → at.declared ≡ declaration_at (files_view files) key
  placed-declared key at is = by (slice_get files key.unit) is where
    by_member : (file : File) (o : Option Member) → option_map (λ (m : Member). placed files (key.unit, file) (key.member, m)) o ≡ Some at
        → at.declared ≡ declaration_at (files_view files) key
    by_member file None is = absurd (none-some is)
    by_member file (Some m) is = ap (λ (p : PlacedMember). p.declared) (sym (some-same is))

    by : (o : Option File)
        → option_and_then (λ (file : File). option_map (λ (m : Member). placed files (key.unit, file) (key.member, m))
        (slice_get file.unit.class.members key.member)) o ≡ Some at
        → at.declared ≡ declaration_at (files_view files) key
    by None is = absurd (none-some is)
    by (Some file) is = by_member file (slice_get file.unit.class.members key.member) is

  some-known : {a b : Known} → Some a ≡ Some b → a ≡ b
  some-known is = some-same is

  member-entity : (key : MemberKey) → Contains (in_order files) (numbered_member key) → (known : Known)
      → known_of files (numbered_member key) ≡ Some known → IsEntity (numbered_member key) known
  member-entity key stands known is = by (member_at files key) refl where
    declared : (at : PlacedMember) → member_at files key ≡ Some at → (o : Option Declaration) → at.declared ≡ o
        → known ≡ member_known files o → IsEntity (numbered_member key) known
    declared at placed None none known-is = subst (IsEntity (numbered_member key)) (sym known-is)
        (field-entity key stands (is ∙ ap (λ k. Some k) known-is))
    declared at placed (Some d) found known-is = subst (IsEntity (numbered_member key)) (sym known-is)
        (declared-entity key ((ids_of files).method_id d) stands (is ∙ ap (λ k. Some k) known-is)
        (ap (option_and_then (cell_of_member files slots.Method)) placed ∙ ap (method_cell files) found))

    by : (o : Option PlacedMember) → member_at files key ≡ o → IsEntity (numbered_member key) known
    by None none = absurd (none-some
        (sym (ap (option_map (λ (at : PlacedMember). member_known files at.declared)) none) ∙ is))
    by (Some at) placed = declared at placed at.declared refl
        (some-known (sym is ∙ ap (option_map (λ (at : PlacedMember). member_known files at.declared)) placed))

  -- ---- methods

  -- where there is a value, there is a member
  pub has-member : (key : MemberKey) (slot : Slot) (value : Value) → value_of files (numbered_method key) slot ≡ Some value
      → (at : PlacedMember) × (member_at files key ≡ Some at)
  has-member key slot value is = by (member_at files key) refl where
    by : (o : Option PlacedMember) → member_at files key ≡ o → (at : PlacedMember) × (member_at files key ≡ Some at)
    by None none = absurd (none-some (sym (ap (option_and_then (cell_of_method files slot)) none) ∙ is))
    by (Some at) placed = (at, placed)

  -- the parameters that a method is said to have, by their identities
  pub record HasParams (key : MemberKey) (method : IsInMethod files key (numbered_method key)) : Type 0 where
    pub params : List Param
    pub said : value_of files (numbered_method key) slots.Params ≡ Some (values.Params params)
    pub ids_are : map (λ (p : Param). p.id) params ≡ ids files key method

  pub has-params : (key : MemberKey) (method : IsInMethod files key (numbered_method key)) → Contains (in_order files) (numbered_method key)
      → HasParams key method
  has-params key method stands =
      let there = values_there.values files no_fault (numbered_method key) stands slots.Params
      (ap (λ (o : Option Known). has_slot o slots.Params)
      (ap (option_map (λ (d : Declaration). knowns.Method (kind_of d.kind))) method.found)) in
      let placed = has-member key slots.Params there.0 there.1 in
      by placed.0 placed.1
      (read_params (member_reader files placed.0) (place_of_member placed.0.member) (files-params placed.0.member)).value refl there.0
      (sym (ap (option_and_then (cell_of_method files slots.Params)) placed.1) ∙ there.1) where
        files-params : Member → List SourceParam
        files-params m = params_of_member m

        made : (at : PlacedMember) → member_at files key ≡ Some at → (read : List (ReadType ℕ))
            → (read_params (member_reader files at) (place_of_member at.member) (files-params at.member)).value ≡ Some read
            → HasParams key method
        made at placed read is =
            let declared : at.declared ≡ Some method.declared = placed-declared key at placed ∙ method.found in
            let standing = declaration-made files method.declared (found-stands files key method.declared method.found).0 in
            let here = subst (StandsAt files) (found-stands files key method.declared method.found).1 standing.at in
            let member-is : at.member ≡ here.member
            = ap (λ (p : PlacedMember). p.member) (some-same (sym placed ∙ member-found files key here)) in
            let arity = declared-arity files key here method.declared method.found in
            let given = ids-are files key method in
            let read-length = all-length (λ (param : SourceParam). read_type (member_reader files at) (place_of_member at.member) param.ty)
            (files-params at.member) read is in
            let count : length (ids files key method) ≡ length (files-params at.member)
            = length-map-range_with_len (λ (place : ℕ). id_at files (numbered_param key place)) 0 method.declared.arity
            ∙ arity ∙ ap (λ m. length (files-params m)) (sym member-is) in
            let pairs = zip-length (files-params at.member) read (sym read-length) in
            record {
              params = map listed (zip (ids files key method) (zip (files-params at.member) read));
              said = ap (option_and_then (cell_of_method files slots.Params)) placed
                  ∙ ap (option_map (λ read. values.Params (map listed (zip (declared_ids files at.declared)
                  (zip (files-params at.member) read))))) is
                  ∙ ap (λ (o : Option Declaration). Some (values.Params
                  (map listed (zip (declared_ids files o) (zip (files-params at.member) read))))) declared
                  ∙ ap (λ (ids : List Id). Some (values.Params (map listed (zip ids (zip (files-params at.member) read))))) given;
              ids_are = listed-ids (ids files key method) (zip (files-params at.member) read) (count ∙ sym pairs);
            }

        by : (at : PlacedMember) → member_at files key ≡ Some at → (o : Option (List (ReadType ℕ)))
            → (read_params (member_reader files at) (place_of_member at.member) (files-params at.member)).value ≡ o
            → (value : Value) → params_cell files at ≡ Some value → HasParams key method
        by at placed None none value is = absurd (none-some (sym (ap (option_map (λ read. values.Params
            (map listed (zip (declared_ids files at.declared) (zip (files-params at.member) read))))) none) ∙ is))
        by at placed (Some read) some value is = made at placed read some

  method-key : {x y : MemberKey} → numbered_method x ≡ numbered_method y → x ≡ y
  method-key is = cc

  method-entity : (key : MemberKey) → Contains (in_order files) (numbered_method key) → (known : Known)
      → known_of files (numbered_method key) ≡ Some known → IsEntity (numbered_method key) known
  method-entity key stands known is =
      let method = method-item files key stands in
      let known-is : known ≡ knowns.Method (kind_of method.declared.kind)
      = some-known (sym is ∙ ap (option_map (λ (d : Declaration). knowns.Method (kind_of d.kind))) method.found) in
      subst (IsEntity (numbered_method key)) (sym known-is) (made method (is ∙ ap (λ k. Some k) known-is)) where
        made : (method : IsInMethod files key (numbered_method key))
            → known_of files (numbered_method key) ≡ Some (knowns.Method (kind_of method.declared.kind))
            → IsEntity (numbered_method key) (knowns.Method (kind_of method.declared.kind))
        made method is =
            let said = value_of files (numbered_method key) in
            let kind = kind_of method.declared.kind in
            let each = all-said (numbered_method key) stands (knowns.Method kind) is in
            let params = has-params key method stands in
            let placed = has-member key slots.Params (values.Params params.params) params.said in
            let kind-said : said slots.Kind ≡ Some (values.Kind kind)
            = ap (option_and_then (cell_of_method files slots.Kind)) placed.1
            ∙ ap (option_map (λ (d : Declaration). values.Kind (kind_of d.kind))) (placed-declared key placed.0 placed.1 ∙ method.found) in
            let listed-are : params_of (filter_map said (slots_of kinds.Method)) ≡ params.params
            = lists-params said (slots.Name ∷ slots.Result ∷ []) (slots.Kind ∷ slots.Fixed ∷ []) each refl refl params.params params.said in
            record {
              own = λ before. own-named said (slots.Name ∷ slots.Result ∷ slots.Params ∷ []) slots.Kind (slots.Fixed ∷ []) each
                  (quiet-test said (slots.Fixed ∷ []) refl) (values.Kind kind) kind-said before (id_at files (numbered_method key))
                  (knowns.Method kind) (λ known. put-own known (id_at files (numbered_method key)) (knowns.Method kind));
              listed = λ param in_params.
                  let in_ids = subst (λ ids. Contains ids param.id) params.ids_are
                  (stands-mapped (λ (p : Param). p.id) params.params param (subst (λ ps. Contains ps param) listed-are in_params)) in
                  let place = from-ids files key method param.id in_ids in
                  (key, (place.0, refl, param-stands files key method place.0 place.1, place.2));
              lists = λ other place same param_stands.
                  let one : key ≡ other = method-key same in
                  let below = (param-item files key place (subst (λ k. Contains (in_order files) (numbered_param k place))
                  (sym one) param_stands)) in
                  let arity-same : method.declared.arity ≡ below.method.declared.arity
                  = ap (λ (d : Declaration). d.arity) (some-same (sym method.found ∙ below.method.found)) in
                  let in_ids = in-ids files key method place (omega (arith, below.below, arity-same)) in
                  let of = from_map (λ (p : Param). p.id) params.params (id_at files (numbered_param key place))
                  (subst (λ ids. Contains ids (id_at files (numbered_param key place))) (sym params.ids_are) in_ids) in (
                    of.0,
                    subst (λ ps. Contains ps of.0) (sym listed-are) of.1,
                    of.2 ∙ ap (λ k. id_at files (numbered_param k place)) one,
                  );
            }

  -- ---- all items

  pub item-entity : (item : Numbered) → Contains (in_order files) item → (known : Known) → known_of files item ≡ Some known
      → is_added item ≡ true → IsEntity item known
  item-entity (numbered_class number) stands known is added =
      subst (IsEntity (numbered_class number)) (some-same is) (class-entity number stands)
  item-entity (numbered_member key) stands known is added = member-entity key stands known is
  item-entity (numbered_method key) stands known is added = method-entity key stands known is
  item-entity (numbered_param key place) stands known is added = absurd (true≢false (sym added))
