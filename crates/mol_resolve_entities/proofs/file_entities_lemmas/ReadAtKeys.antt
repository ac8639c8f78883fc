-- What is read of classes and members is what the definitions say of them by their keys.
use Rattle.std.proofs.Common.{◌≡◌, ℕ, Bool, true, false, cond, List, [], ◌∷◌, ◌++◌, map, length, Option, Some, None, option_map, filter_map, if◌then◌else◌, append_assoc, refl, sym, ◌∙◌, ap, subst}
use Rattle.std.specs.List.{cons_option}
use Rattle.std.specs.Option.{option_and_then, option_map_or, option_to_list, option_zip}
use Rattle.std.proofs.lemmas.List.FromFn.{length-map-range_with_len}
use Rattle.mol_base.specs.declared.ident.Id.{Id}
use Rattle.jav_tree.specs.declared.types.TypeName.{TypeName}
use Rattle.jav_tree.specs.declared.unit.Ctor.{Ctor}
use Rattle.jav_tree.specs.declared.unit.Field.{Field}
use Rattle.jav_tree.specs.declared.unit.Member.{Member}
use Rattle.jav_tree.specs.declared.unit.Member.TheVariants as member
use Rattle.jav_tree.specs.declared.unit.Method.{Method}
use Rattle.jav_names.specs.Members.{is_object_method}
use Rattle.jav_names.specs.UnitViews.{MemberKey, classes_of, declaration_in}
use Rattle.jav_names.specs.Views.{ViewDeclaration, static_method, instance_method}
use Rattle.mol_resolve_entities.specs.Parts.{class_entity, declaration_entity, field_entity, method_entity}
use Rattle.mol_resolve_laws.proofs.MethodItems.{declared-arity}
use Rattle.mol_resolve_laws.specs.Entities.{entity_of}
use Rattle.mol_resolve_rules.proofs.FilesStand.{StandsAt, found-stands, made-found, member-found, some-same}
use Rattle.mol_resolve_rules.proofs.NumbersApart.{key-is}
use Rattle.mol_resolve_rules.proofs.Whole.{none-first, none-last}
use Rattle.mol_resolve_rules.specs.Expected.{kind_of, is_fixed, member_known, params_cell}
use Rattle.mol_resolve_rules.specs.Files.{File, Files, HasFile, PlacedMember, units, files_view, params_of, place_of_member, declaration_at}
use Rattle.mol_resolve_rules.specs.Numbering.{Numbered, numbered_class, numbered_member, numbered_method, numbered_param, below, id_at, ids_of, numbered_in_method, numbered_at_key, same_key, topmost}
use Rattle.mol_resolve_rules.specs.Outcomes.{TreeFault}
use Rattle.mol_resolve_rules.specs.ReadAs.{HasNoFault}
use Rattle.mol_resolve_rules.specs.ReadFiles.{declared_ids, file_reader, read_block, read_field, read_params, repeated_faults}
use Rattle.mol_resolve_rules.specs.ReadStatements.{read_body, read_initial}
use Rattle.mol_resolve_rules.specs.ReadTypes.{ReadType, read_type}
use Rattle.mol_resolve_rules.specs.Readers.{Reader}
use Rattle.mol_table_rules.specs.declared.entity.NewEntity.{NewEntity}
use Rattle.mol_values_types.specs.declared.cell.Slot.TheVariants as slots
use Rattle.mol_values_types.specs.declared.iblock.IBody.{IBody}
use Rattle.mol_values_types.specs.declared.iexpr.IExpr.{IExpr}
use Rattle.mol_values_types.specs.declared.itype.IType.{IType}
use Rattle.mol_values_types.specs.declared.itype.IType.TheVariants as types
use Rattle.mol_values_types.specs.declared.kind.MethodKind.TheVariants.{Instance, Static, Constructor}
use Rattle.mol_values_types.specs.declared.known.Known.TheVariants as knowns
use Rattle.mol_values_types.specs.declared.param.Param.{Param as Listed}
use Rattle.mol_values_types.specs.declared.value.Value.TheVariants as values
use Rattle.mol_resolve_entities.specs.member_entities.Headings.{all_read, superclass_read, tree_in, tree_read}
use Rattle.mol_resolve_entities.specs.member_entities.Made.{constructor_made, field_made, kind_of_method, method_made}
use Rattle.mol_resolve_entities.specs.member_entities.Outcomes.{constructor_read, field_read, method_read}
use Rattle.mol_resolve_entities.specs.declared.member_entities.member_entities.MemberEntities.{MemberEntities}
use Rattle.mol_resolve_entities.specs.declared.member_entities.member_ids.MemberIds.{MemberIds}
use Rattle.mol_resolve_entities.specs.declared.member_entities.member_ids.MethodIds.{MethodIds}
use Rattle.mol_resolve_entities.specs.file_entities.EntitiesRead.{AreMemberIds, AreMethodIds, IsClassRead, IsMemberAt, placed_at, reader_at, AreEntitiesAt, IsMemberRead, EntitiesRead}
use Rattle.mol_resolve_entities.proofs.file_entities_lemmas.ListedParams.{listed_params, listed-length, listed-value, same-faults}
use Rattle.mol_resolve_entities.proofs.file_entities_lemmas.MadeEntities.{class-made, declaration-made, field-made, method-made}
use Rattle.mol_resolve_entities.proofs.file_entities_lemmas.PartsThere.{as_standing, cell-there, made-of, no-member_fault, no-superclass_fault, params-there, tree-there}

-- one entity is there
one-there : (files : Files) (item : Numbered) (entity : NewEntity) → entity_of files item ≡ Some entity
    → entity ∷ [] ≡ filter_map (entity_of files) (item ∷ [])
one-there files item entity is = ap (λ made. cons_option made []) (sym is)

mapped-twice : {A B C : Type 0} (make : A → B) (more : B → C) (o : Option A) (b : B) → option_map make o ≡ Some b
    → option_map (λ a. more (make a)) o ≡ Some (more b)
mapped-twice make more None b is = absurd cc
mapped-twice make more (Some a) b is = ap (option_map more) is

-- ---- classes

module _ (files : Files) (number : ℕ) (file : File) (stands : HasFile files number file) where
  class-faults : (parent : Option TypeName) → (superclass_read (file_reader files (number, file)) parent).faults
      ≡ option_map_or (λ type. (read_type (file_reader files (number, file)) 0 type).faults) parent []
  class-faults None = refl
  class-faults (Some type) = refl

  above-there : (parent : Option TypeName) → (superclass_read (file_reader files (number, file)) parent).faults ≡ []
      → (above : Option IType) × ((superclass_read (file_reader files (number, file)) parent).value ≡ Some above)
  above-there None none = (None, refl)
  above-there (Some type) none =
      let tree = tree-there (file_reader files (number, file)) 0 type none in
      (Some tree.0, ap (option_map (λ tree. Some tree)) tree.1)

  class-read : IsClassRead files (number, file)
  class-read = record {
    faults_are = class-faults file.unit.class.parent;
    entity_is = λ no_fault.
        let above = above-there file.unit.class.parent
        (class-faults file.unit.class.parent ∙ no-superclass_fault files no_fault number file stands) in
        ap (λ read. option_to_list (option_map (class_entity (id_at files (numbered_class number)) file.unit) read)) above.1
        ∙ one-there files (numbered_class number) _ (class-made files number file above.0 stands above.1);
  }

-- ---- members

module _ (files : Files) (key : MemberKey) where
  abbrev Declaration : Type 0
  Declaration = ViewDeclaration ℕ MemberKey

  abbrev view_declared : Option Declaration
  view_declared = declaration_at (files_view files) key

  -- no parameter is added by itself
  params-left_out : (places : List ℕ) → filter_map (entity_of files) (map (numbered_param key) places) ≡ []
  params-left_out [] = refl
  params-left_out (place ∷ places) = params-left_out places

  -- ---- fields

  field-there : (read : Option (ReadType ℕ)) (init : Option (Option IExpr)) (parts : ReadType ℕ × Option IExpr)
      → option_zip read init ≡ Some parts → option_zip (option_map tree_in read) init ≡ Some (parts.0.tree, parts.1)
  field-there None init parts is = absurd cc
  field-there (Some read) None parts is = absurd cc
  field-there (Some read) (Some init) parts is = ap (option_map (λ (parts : ReadType ℕ × Option IExpr). (parts.0.tree, parts.1))) is

  -- a declaration and its method, where that is numbered here
  module _ (declared : Declaration) (found : view_declared ≡ Some declared) where
    same-key : declared.key ≡ key
    same-key = (found-stands files key declared found).1

    at-key : numbered_at_key (files_view files) key
        ≡ cond (same_key (topmost (files_view files) declared).key declared.key)
        (numbered_method key ∷ map (numbered_param key) (below declared.arity)) []
    at-key = ap (λ (o : Option Declaration). option_map_or (numbered_in_method (files_view files)) o []) found
        ∙ ap (λ (k : MemberKey). cond (same_key (topmost (files_view files) declared).key declared.key)
        (numbered_method k ∷ map (numbered_param k) (below declared.arity)) []) same-key

    -- of a topmost declaration the method is the one of its own key
    top-method : same_key (topmost (files_view files) declared).key declared.key ≡ true
        → (ids_of files).method_id declared ≡ id_at files (numbered_method key)
    top-method top = ap (λ (k : MemberKey). id_at files (numbered_method k))
        (key-is (topmost (files_view files) declared).key declared.key top ∙ same-key)

    method-entities : (is_top : Bool) (id : Id) (made : Id → NewEntity)
        → same_key (topmost (files_view files) declared).key declared.key ≡ is_top → id ≡ (ids_of files).method_id declared
        → entity_of files (numbered_method key) ≡ Some (made (id_at files (numbered_method key)))
        → option_to_list (if is_top then Some (made id) else None)
        ≡ filter_map (entity_of files) (cond is_top (numbered_method key ∷ map (numbered_param key) (below declared.arity)) [])
    method-entities false id made top own there = refl
    method-entities true id made top own there =
        ap (λ id. made id ∷ []) (own ∙ top-method top)
        ∙ (λ i. cons_option (sym there i) (sym (params-left_out (below declared.arity)) i))

    -- what is made of a declaration is what the files say
    entities-made : (made : MemberEntities) (of_method : MethodIds) (method : Id → NewEntity) (entity : NewEntity)
        → made ≡ record { member = entity; method = if of_method.is_top then Some (method of_method.id) else None }
        → of_method.is_top ≡ same_key (topmost (files_view files) declared).key declared.key
        → of_method.id ≡ (ids_of files).method_id declared
        → entity_of files (numbered_member key) ≡ Some entity
        → entity_of files (numbered_method key) ≡ Some (method (id_at files (numbered_method key)))
        → AreEntitiesAt files key (Some made)
    entities-made made of_method method entity is top own there method_there = record {
      member_is = ap (λ (made : MemberEntities). made.member ∷ []) is ∙ one-there files (numbered_member key) entity there;
      method_is = ap (λ (made : MemberEntities). option_to_list made.method) is
          ∙ method-entities of_method.is_top of_method.id method (sym top) own method_there
          ∙ ap (λ b. filter_map (entity_of files) (cond b (numbered_method key ∷ map (numbered_param key) (below declared.arity)) [])) top
          ∙ ap (filter_map (entity_of files)) (sym at-key);
    }

module _ (files : Files) (key : MemberKey) (file : File) (field : Field) (ids : MemberIds)
    (stands : IsMemberAt files key file (member.Field field)) (own : AreMemberIds files key ids) where
  abbrev field_place : PlacedMember
  field_place = placed_at files key file (member.Field field)

  abbrev field_reader : Reader ℕ MemberKey
  field_reader = reader_at files key file (member.Field field)

  none-declared : field_place.declared ≡ None
  none-declared = made-found files key
      (record { file = file; in_files = stands.in_files; member = member.Field field; in_class = stands.in_class })

  known-field : member_known files field_place.declared ≡ knowns.Field
  known-field = ap (member_known files) none-declared

  module _ (no_fault : HasNoFault files) where
    value-there : (parts : ReadType ℕ × Option IExpr) × ((read_field field_reader field).value ≡ Some parts)
    value-there =
        let there = cell-there files no_fault key file (member.Field field) stands knowns.Field slots.Value known-field refl in
        made-of (λ (parts : ReadType ℕ × Option IExpr). values.Value parts.0.tree parts.1) (read_field field_reader field).value
        there.0 there.1

    field-entities : AreEntitiesAt files key (field_read field_reader ids field).value
    field-entities =
        let parts = value-there in
        let type : IType = parts.0.0.tree in
        let init : Option IExpr = parts.0.1 in
        let read : (field_read field_reader ids field).value ≡ Some (field_made ids field (type, init)) =
        ap (option_map (field_made ids field))
        (field-there files key (read_type field_reader field.at field.ty).value (read_initial field_reader field.init).value
        parts.0 parts.1) in
        let there = field-made files key field_place
        (member-found files key (as_standing files no_fault key file (member.Field field) stands)) type init known-field
        (ap (option_map (λ (parts : ReadType ℕ × Option IExpr). values.Value parts.0.tree parts.1)) parts.1) in
        let made : NewEntity = field_entity ids.id ids.owner field type init in
        let same : entity_of files (numbered_member key) ≡ Some made =
        there ∙ (λ i. Some (field_entity (sym own.own i) (sym own.class i) field type init)) in
        record {
          member_is = ap (λ (made : Option MemberEntities). option_to_list (option_map (λ (m : MemberEntities). m.member) made)) read
              ∙ one-there files (numbered_member key) made same;
          method_is = ap (λ (made : Option MemberEntities). option_to_list (option_and_then (λ (m : MemberEntities). m.method) made)) read
              ∙ ap (λ (o : Option (ViewDeclaration ℕ MemberKey)).
              filter_map (entity_of files) (option_map_or (numbered_in_method (files_view files)) o [])) (sym none-declared);
        }

  field-read : IsMemberRead files key file (member.Field field) (field_read field_reader ids field)
  field-read = record { faults_are = refl; entities_are = field-entities }

-- ---- declarations

module _ (files : Files) (key : MemberKey) (file : File) (m : Member) (of_method : MethodIds) (stands : IsMemberAt files key file m)
    (own : AreMethodIds files key of_method) where
  abbrev place : PlacedMember
  place = placed_at files key file m

  abbrev reader : Reader ℕ MemberKey
  reader = reader_at files key file m

  abbrev ids_listed : List Id
  ids_listed = of_method.params.items

  abbrev standing : StandsAt files key
  standing = record { file = file; in_files = stands.in_files; member = m; in_class = stands.in_class }

  many : length ids_listed ≡ length (params_of m)
  many = ap length own.params_are
      ∙ length-map-range_with_len (λ (place : ℕ). id_at files (numbered_param (topmost (files_view files) own.declared).key place)) 0
      own.declared.arity
      ∙ declared-arity files key standing own.declared own.stands

  known-declared : member_known files place.declared ≡ knowns.Decl ((ids_of files).method_id own.declared)
  known-declared = ap (member_known files) own.stands

  params-listed : (list : List Listed) → (all_read ids_listed reader (place_of_member m) (params_of m)).value ≡ Some list
      → params_cell files place ≡ Some (values.Params list)
  params-listed list is =
      let read = (read_params reader (place_of_member m) (params_of m)).value in
      ap (λ (ids : List Id). option_map (λ (read : List (ReadType ℕ)). values.Params (listed_params ids (params_of m) read)) read)
      (ap (declared_ids files) own.stands ∙ sym own.params_are)
      ∙ mapped-twice (listed_params ids_listed (params_of m)) (λ list. values.Params list) read list
      (sym (listed-value reader (place_of_member m) ids_listed (params_of m) many) ∙ is)

  fixed-listed : (list : List Listed) → (all_read ids_listed reader (place_of_member m) (params_of m)).value ≡ Some list
      → (name : List ℕ) → own.declared.name ≡ name → is_fixed own.declared ≡ is_object_method name (length list)
  fixed-listed list is name named =
      let as_many : own.declared.arity ≡ length list = declared-arity files key standing own.declared own.stands
      ∙ sym (listed-length reader (place_of_member m) ids_listed (params_of m) list many is) in
      λ i. is_object_method (named i) (as_many i)

kinds-same : (is_static : Bool) → kind_of (if is_static then static_method else instance_method) ≡ (if is_static then Static else Instance)
kinds-same true = refl
kinds-same false = refl

-- ---- methods

module _ (files : Files) (key : MemberKey) (file : File) (method : Method) (ids : MemberIds) (of_method : MethodIds)
    (stands : IsMemberAt files key file (member.Method method)) (own : AreMemberIds files key ids)
    (method_own : AreMethodIds files key of_method) where
  abbrev m : Member
  m = member.Method method

  abbrev method_place : PlacedMember
  method_place = placed_at files key file m

  abbrev method_reader : Reader ℕ MemberKey
  method_reader = reader_at files key file m

  abbrev param_ids : List Id
  param_ids = of_method.params.items

  abbrev declared : ViewDeclaration ℕ MemberKey
  declared = method_own.declared

  declared-is : Some declared ≡ declaration_in (classes_of (units files)) (key.unit, file.unit) (key.member, m)
  declared-is = sym method_own.stands ∙ made-found files key (standing files key file m of_method stands method_own)

  named : declared.name ≡ method.name
  named = ap (λ (d : ViewDeclaration ℕ MemberKey). d.name) (some-same declared-is)

  kind-same : kind_of declared.kind ≡ kind_of_method method
  kind-same = ap (λ (d : ViewDeclaration ℕ MemberKey). kind_of d.kind) (some-same declared-is) ∙ kinds-same method.is_static

  abbrev result_faults : List TreeFault
  result_faults = (read_type method_reader method.at method.result).faults

  abbrev params_faults : List TreeFault
  params_faults = (read_params method_reader method.at method.params).faults

  abbrev repeated : List TreeFault
  repeated = repeated_faults method.at method.params

  abbrev block_faults : List TreeFault
  block_faults = (read_block method_reader method.block).faults

  method-faults : (method_read method_reader ids of_method method).faults
      ≡ result_faults ++ params_faults ++ repeated ++ block_faults
  method-faults =
      ap (λ faults. (result_faults ++ (faults ++ repeated)) ++ block_faults)
      (same-faults method_reader method.at param_ids method.params (many files key file m of_method stands method_own))
      ∙ ap (λ faults. faults ++ block_faults) (sym (append_assoc result_faults params_faults repeated))

  module _ (no_fault : HasNoFault files) where
    none-in : result_faults ++ params_faults ≡ []
    none-in = none-first (result_faults ++ params_faults) repeated
        (none-first (result_faults ++ params_faults ++ repeated) block_faults (no-member_fault files no_fault key file m stands))

    gives-there : (gives : IType) × ((tree_read method_reader method.at method.result).value ≡ Some gives)
    gives-there = tree-there method_reader method.at method.result (none-first result_faults params_faults none-in)

    list-there : (list : List Listed) × ((all_read param_ids method_reader method.at method.params).value ≡ Some list)
    list-there = params-there method_reader method.at param_ids method.params
        (many files key file m of_method stands method_own) (none-last result_faults params_faults none-in)

    block-there : (body : Option IBody) × ((read_block method_reader method.block).value ≡ Some body)
    block-there =
        let there = cell-there files no_fault key file m stands (knowns.Decl ((ids_of files).method_id declared)) slots.Body
        (known-declared files key file m of_method stands method_own) refl in
        made-of (λ (body : Option IBody). values.Body body) (read_block method_reader method.block).value there.0 there.1

    method-entities-there : AreEntitiesAt files key (method_read method_reader ids of_method method).value
    method-entities-there =
        let gives = gives-there in
        let list = list-there in
        let body = block-there in
        let found = member-found files key (standing files key file m of_method stands method_own) in
        let read : (method_read method_reader ids of_method method).value
        ≡ Some (method_made ids of_method method ((gives.0, list.0), body.0)) =
        (λ i. option_map (method_made ids of_method method) (option_zip (option_zip (gives.1 i) (list.1 i)) (body.1 i))) in
        let entity : NewEntity = declaration_entity ids.id ids.owner of_method.id method.words method.front body.0 in
        let there : entity_of files (numbered_member key) ≡ Some entity =
        declaration-made files key method_place found declared method_own.stands body.0
        (ap (option_map (λ (body : Option IBody). values.Body body)) body.1)
        ∙ (λ i. Some (declaration_entity (sym own.own i) (sym own.class i) (sym method_own.own i) method.words method.front body.0)) in
        let made : Id → NewEntity = λ id. method_entity id method.name gives.0 list.0 (kind_of_method method) in
        let method_there : entity_of files (numbered_method key) ≡ Some (made (id_at files (numbered_method key))) =
        method-made files key method_place found declared method_own.stands gives.0 list.0 method_own.stands
        (mapped-twice tree_in (λ tree. values.Result tree) (read_type method_reader method.at method.result).value gives.0 gives.1)
        (params-listed files key file m of_method stands method_own list.0 list.1)
        (fixed-listed files key file m of_method stands method_own list.0 list.1 method.name named)
        ∙ ap (λ kind. Some (method_entity (id_at files (numbered_method key)) method.name gives.0 list.0 kind)) kind-same in
        subst (AreEntitiesAt files key) (sym read)
        (entities-made files key declared method_own.stands (method_made ids of_method method ((gives.0, list.0), body.0)) of_method made
        entity refl method_own.top method_own.own there method_there)

  method-read : IsMemberRead files key file m (method_read method_reader ids of_method method)
  method-read = record { faults_are = method-faults; entities_are = method-entities-there }

-- ---- constructors

module _ (files : Files) (key : MemberKey) (file : File) (constructor : Ctor) (ids : MemberIds) (of_method : MethodIds)
    (stands : IsMemberAt files key file (member.Ctor constructor)) (own : AreMemberIds files key ids)
    (method_own : AreMethodIds files key of_method) where
  abbrev c : Member
  c = member.Ctor constructor

  abbrev constructor_place : PlacedMember
  constructor_place = placed_at files key file c

  abbrev constructor_reader : Reader ℕ MemberKey
  constructor_reader = reader_at files key file c

  abbrev its_ids : List Id
  its_ids = of_method.params.items

  abbrev its_declared : ViewDeclaration ℕ MemberKey
  its_declared = method_own.declared

  is-constructor : Some its_declared ≡ declaration_in (classes_of (units files)) (key.unit, file.unit) (key.member, c)
  is-constructor = sym method_own.stands ∙ made-found files key (standing files key file c of_method stands method_own)

  unnamed : its_declared.name ≡ []
  unnamed = ap (λ (d : ViewDeclaration ℕ MemberKey). d.name) (some-same is-constructor)

  its-kind : kind_of its_declared.kind ≡ Constructor
  its-kind = ap (λ (d : ViewDeclaration ℕ MemberKey). kind_of d.kind) (some-same is-constructor)

  abbrev types_faults : List TreeFault
  types_faults = (read_params constructor_reader constructor.at constructor.params).faults

  abbrev twice : List TreeFault
  twice = repeated_faults constructor.at constructor.params

  abbrev body_faults : List TreeFault
  body_faults = (read_body constructor_reader constructor.block).faults

  constructor-faults : (constructor_read constructor_reader ids of_method constructor).faults ≡ types_faults ++ twice ++ body_faults
  constructor-faults = ap (λ faults. (faults ++ twice) ++ body_faults)
      (same-faults constructor_reader constructor.at its_ids constructor.params (many files key file c of_method stands method_own))

  module _ (no_fault : HasNoFault files) where
    its-list : (list : List Listed) × ((all_read its_ids constructor_reader constructor.at constructor.params).value ≡ Some list)
    its-list = params-there constructor_reader constructor.at its_ids constructor.params
        (many files key file c of_method stands method_own) (none-first types_faults twice
        (none-first (types_faults ++ twice) body_faults (no-member_fault files no_fault key file c stands)))

    body-there : (body : IBody) × ((read_body constructor_reader constructor.block).value ≡ Some body)
    body-there =
        let there = cell-there files no_fault key file c stands (knowns.Decl ((ids_of files).method_id its_declared)) slots.Body
        (known-declared files key file c of_method stands method_own) refl in
        made-of (λ (body : IBody). values.Body (Some body)) (read_body constructor_reader constructor.block).value there.0 there.1

    constructor-entities : AreEntitiesAt files key (constructor_read constructor_reader ids of_method constructor).value
    constructor-entities =
        let list = its-list in
        let body = body-there in
        let found = member-found files key (standing files key file c of_method stands method_own) in
        let read : (constructor_read constructor_reader ids of_method constructor).value
        ≡ Some (constructor_made ids of_method constructor (list.0, body.0)) =
        (λ i. option_map (constructor_made ids of_method constructor) (option_zip (list.1 i) (body.1 i))) in
        let entity : NewEntity =
        declaration_entity ids.id ids.owner of_method.id constructor.words constructor.front (Some body.0) in
        let there : entity_of files (numbered_member key) ≡ Some entity =
        declaration-made files key constructor_place found its_declared method_own.stands (Some body.0)
        (ap (option_map (λ (body : IBody). values.Body (Some body))) body.1)
        ∙ (λ i. Some (declaration_entity (sym own.own i) (sym own.class i) (sym method_own.own i) constructor.words constructor.front
        (Some body.0))) in
        let made : Id → NewEntity = λ id. method_entity id [] types.Void list.0 Constructor in
        let method_there : entity_of files (numbered_method key) ≡ Some (made (id_at files (numbered_method key))) =
        method-made files key constructor_place found its_declared method_own.stands types.Void list.0 method_own.stands refl
        (params-listed files key file c of_method stands method_own list.0 list.1)
        (fixed-listed files key file c of_method stands method_own list.0 list.1 [] unnamed)
        ∙ ap (λ kind. Some (method_entity (id_at files (numbered_method key)) [] types.Void list.0 kind)) its-kind in
        subst (AreEntitiesAt files key) (sym read)
        (entities-made files key its_declared method_own.stands (constructor_made ids of_method constructor (list.0, body.0)) of_method made
        entity refl method_own.top method_own.own there method_there)

  constructor-read : IsMemberRead files key file c (constructor_read constructor_reader ids of_method constructor)
  constructor-read = record { faults_are = constructor-faults; entities_are = constructor-entities }

pub entities_read : EntitiesRead
entities_read = record {
  class = class-read;
  field = field-read;
  method = method-read;
  constructor = constructor-read;
}
