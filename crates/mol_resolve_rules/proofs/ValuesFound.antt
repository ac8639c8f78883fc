-- Files without a fault have a value in each slot.
use Rattle.std.proofs.Common.{◌≡◌, ◌≢◌, ◌⊎◌, inl, inr, ℕ, Bool, true, false, cond, List, [], ◌∷◌, ◌++◌, map, Option, Some, None, option_map, Contains, flat_map, slice_get, refl, sym, ◌∙◌, ap, subst, true≢false}
use Rattle.std.specs.List.{zip}
use Rattle.std.specs.Option.{option_and_then, option_map_or}
use Rattle.mol_base.specs.declared.ident.Id.{Id}
use Rattle.jav_tree.specs.declared.stmt.Block.{Block}
use Rattle.jav_tree.specs.declared.types.TypeName.{TypeName}
use Rattle.jav_tree.specs.declared.unit.Ctor.{Ctor}
use Rattle.jav_tree.specs.declared.unit.Field.{Field}
use Rattle.jav_tree.specs.declared.unit.Member.{Member}
use Rattle.jav_tree.specs.declared.unit.Member.TheVariants as member
use Rattle.jav_tree.specs.declared.unit.Method.{Method}
use Rattle.jav_tree.specs.declared.unit.Param.{Param}
use Rattle.jav_tree.specs.declared.unit.Unit.{Unit as Source}
use Rattle.jav_names.specs.StaticTypes.{is_unread}
use Rattle.jav_names.specs.TypeTexts.{type_in}
use Rattle.jav_names.specs.UnitViews.{MemberKey, numbered, classes_of, header_of, field_in, fields_of, declaration_in}
use Rattle.jav_names.specs.Views.{ViewField, ViewDeclaration, Classes}
use Rattle.jav_names.proofs.Lists.{stands_first, stands_later, stands_where, stands_nowhere}
use Rattle.mol_resolve_rules.specs.Expected.{kind_of, is_fixed, listed, method_cell, member_known, known_of, super_cell, cell_of_class, body_cell, value_cell, cell_of_member, result_cell, params_cell, cell_of_method, value_of}
use Rattle.mol_resolve_rules.specs.Files.{File, Files, HasFile, units, files_view, params_of, place_of_member, declaration_at, PlacedMember, placed}
use Rattle.mol_resolve_rules.specs.Laws.{ValuesThere}
use Rattle.mol_resolve_rules.specs.Numbering.{Numbered, numbered_class, numbered_member, numbered_method, numbered_param, same_key, topmost, by_path, below, keys_in_order, numbered_in_method, numbered_at_key, in_order, ids_of}
use Rattle.mol_resolve_rules.specs.Outcomes.{TreeFault, Outcome, all}
use Rattle.mol_resolve_rules.specs.ReadAs.{HasNoFault}
use Rattle.mol_resolve_rules.specs.Readers.{Parameter, Reader}
use Rattle.mol_resolve_rules.specs.ReadFiles.{file_reader, parameter_of, declared_ids, member_reader, read_field, read_params, read_block, faults_in, repeated_faults, member_faults, superclass_faults, tree_faults}
use Rattle.mol_resolve_rules.specs.ReadStatements.{read_body, read_initial}
use Rattle.mol_resolve_rules.specs.ReadTypes.{ReadType, read_type, seen_type}
use Rattle.mol_resolve_rules.specs.ResolveFaults.{in_tree}
use Rattle.mol_values_types.specs.Slots.{has_slot}
use Rattle.mol_values_types.specs.declared.cell.Slot.{Slot}
use Rattle.mol_values_types.specs.declared.cell.Slot.TheVariants as slots
use Rattle.mol_values_types.specs.declared.known.Known.{Known}
use Rattle.mol_values_types.specs.declared.known.Known.TheVariants as knowns
use Rattle.mol_values_types.specs.declared.kind.MethodKind.{MethodKind}
use Rattle.mol_values_types.specs.declared.iexpr.IExpr.{IExpr}
use Rattle.mol_values_types.specs.declared.value.Value.{Value}
use Rattle.mol_values_types.specs.declared.value.Value.TheVariants as values
use Rattle.mol_resolve_rules.proofs.FilesStand.{StandsAt, files-ordered, found-stands, declaration-made, get-unit, made-found, member-found, from-by_path, from-keys}
use Rattle.mol_resolve_rules.proofs.KnownTypes.{IsRead, type-whole}
use Rattle.mol_resolve_rules.proofs.Stands.{in_either, from_map, from_each, from_some, from_numbered, in_numbered}
use Rattle.mol_resolve_rules.proofs.Whole.{Any, none-first, none-last, whole-both, whole-any, whole-all, whole-maybe}
use Rattle.mol_resolve_rules.proofs.WholeNames.{ReadsKnown}
use Rattle.mol_resolve_rules.proofs.WholeStatements.{whole-read_initial, whole-read_body}

-- ---- lists of faults

each-none : {X Y : Type 0} (make : X → List Y) (xs : List X) → flat_map make xs ≡ [] → (x : X) → Contains xs x → make x ≡ []
each-none make [] none x stands = absurd (stands_nowhere x stands)
each-none make (z ∷ xs) none x stands = by (stands_where z x xs stands)
    (each-none make xs (none-last (make z) (flat_map make xs) none) x) where
      by : (z ≡ x) ⊎ Contains xs x → (Contains xs x → make x ≡ []) → make x ≡ []
      by (inl same) more = ap make (sym same) ∙ none-first (make z) (flat_map make xs) none
      by (inr later) more = more later

all-none : {X A : Type 0} (make : X → Outcome A) (xs : List X) → (all (map make xs)).faults ≡ [] → (x : X) → Contains xs x
    → (make x).faults ≡ []
all-none make [] none x stands = absurd (stands_nowhere x stands)
all-none make (z ∷ xs) none x stands =
    by (stands_where z x xs stands) (all-none make xs (none-last (make z).faults (all (map make xs)).faults none) x) where
      by : (z ≡ x) ⊎ Contains xs x → (Contains xs x → (make x).faults ≡ []) → (make x).faults ≡ []
      by (inl same) more = ap (λ y. (make y).faults) (sym same) ∙ none-first (make z).faults (all (map make xs)).faults none
      by (inr later) more = more later

from_zip : {X Y : Type 0} (xs : List X) (ys : List Y) (pair : X × Y) → Contains (zip xs ys) pair → Contains ys pair.1
from_zip [] ys pair stands = absurd (stands_nowhere pair stands)
from_zip (x ∷ xs) [] pair stands = absurd (stands_nowhere pair stands)
from_zip (x ∷ xs) (y ∷ ys) pair stands = by (stands_where (x, y) pair (zip xs ys) stands) (from_zip xs ys pair) where
  by : ((x, y) ≡ pair) ⊎ Contains (zip xs ys) pair → (Contains (zip xs ys) pair → Contains ys pair.1) → Contains (y ∷ ys) pair.1
  by (inl same) more = subst (Contains (y ∷ ys)) (ap (λ (p : _). p.1) same) (stands_first y ys)
  by (inr later) more = stands_later y pair.1 ys (more later)

none-some : {A : Type 0} (a : A) → None ≢ Some a
none-some a is = cc

-- what is made of something that is there
made : {A B : Type 0} (make : A → B) (o : Option A) (a : A) → o ≡ Some a → (b : B) × (option_map make o ≡ Some b)
made make o a is = (make a, ap (option_map make) is)

-- ---- what stands in the order

pub data Stands (files : Files) : Numbered → Type 0 where
  a_class : {number : ℕ} {file : File} → HasFile files number file → Stands files (numbered_class number)
  a_member : {key : MemberKey} → StandsAt files key → Stands files (numbered_member key)
  a_method : {key : MemberKey} {declared : ViewDeclaration ℕ MemberKey} → declaration_at (files_view files) key ≡ Some declared
      → Stands files (numbered_method key)
  a_param : {key : MemberKey} {place : ℕ} → Stands files (numbered_param key place)

module _ (files : Files) where
  abbrev Declaration : Type 0
  Declaration = ViewDeclaration ℕ MemberKey

  abbrev classes_numbered : List Numbered
  classes_numbered = map (λ (file : ℕ × File). numbered_class file.0) (by_path (numbered files))

  abbrev members_numbered : List Numbered
  members_numbered = map numbered_member (keys_in_order files)

  abbrev methods_numbered : List Numbered
  methods_numbered = flat_map (numbered_at_key (files_view files)) (keys_in_order files)

  class-stands : (item : Numbered) → Contains classes_numbered item → Stands files item
  class-stands item stands =
      let of_file = from_map (λ (file : ℕ × File). numbered_class file.0) (by_path (numbered files)) item stands in
      subst (Stands files) of_file.2 (Stands.a_class (from_numbered files of_file.0 (from-by_path (numbered files) of_file.0 of_file.1)))

  member-stands : (item : Numbered) → Contains members_numbered item → Stands files item
  member-stands item stands =
      let of_key = from_map numbered_member (keys_in_order files) item stands in
      subst (Stands files) of_key.2 (Stands.a_member (from-keys files of_key.0 of_key.1))

  listed-stands : (declared : Declaration) → declaration_at (files_view files) declared.key ≡ Some declared → (b : Bool) (item : Numbered)
      → Contains (cond b (numbered_method declared.key ∷ map (numbered_param declared.key) (below declared.arity)) []) item
      → Stands files item
  listed-stands declared found false item stands = absurd (stands_nowhere item stands)
  listed-stands declared found true item stands =
      by (stands_where (numbered_method declared.key) item (map (numbered_param declared.key) (below declared.arity)) stands) where
        by : (numbered_method declared.key ≡ item) ⊎ Contains (map (numbered_param declared.key) (below declared.arity)) item
            → Stands files item
        by (inl same) = subst (Stands files) same (Stands.a_method found)
        by (inr later) =
            let of_place = from_map (numbered_param declared.key) (below declared.arity) item later in
            subst (Stands files) of_place.2 Stands.a_param

  method-stands : (item : Numbered) → Contains methods_numbered item → Stands files item
  method-stands item stands =
      let of_key = from_each (numbered_at_key (files_view files)) (keys_in_order files) item stands in
      by of_key.0 (declaration_at (files_view files) of_key.0) refl of_key.2 where
        by : (key : MemberKey) (o : Option Declaration) → declaration_at (files_view files) key ≡ o
            → Contains (option_map_or (numbered_in_method (files_view files)) o []) item → Stands files item
        by key None none here = absurd (stands_nowhere item here)
        by key (Some declared) found here =
            let same = (found-stands files key declared found).1 in
            listed-stands declared (ap (declaration_at (files_view files)) same ∙ found)
            (same_key (topmost (files_view files) declared).key declared.key) item here

  stands-in : (item : Numbered) → Contains (in_order files) item → Stands files item
  stands-in item stands = by (in_either (classes_numbered ++ members_numbered) methods_numbered item stands) where
    by_front : Contains classes_numbered item ⊎ Contains members_numbered item → Stands files item
    by_front (inl there) = class-stands item there
    by_front (inr there) = member-stands item there

    by : Contains (classes_numbered ++ members_numbered) item ⊎ Contains methods_numbered item → Stands files item
    by (inl front) = by_front (in_either classes_numbered members_numbered item front)
    by (inr there) = method-stands item there

  -- ---- what it is known as

  known-some : (item : Numbered) → Stands files item → (known : Known) × (known_of files item ≡ Some known)
  known-some item (Stands.a_class is) = (knowns.Class, refl)
  known-some item (Stands.a_member {key = key} at) =
      (member_known files (declaration_at (files_view files) key), rw (member-found files key at) refl)
  known-some item (Stands.a_method {key = key} {declared = declared} found) =
      made (λ (d : Declaration). knowns.Method (kind_of d.kind)) (declaration_at (files_view files) key) declared found
  known-some item Stands.a_param = (_, refl)

  -- ---- where there is no fault

  module _ (no_fault : HasNoFault files) where
    no_tree_fault : (number : ℕ) (file : File) → HasFile files number file → tree_faults files (number, file) ≡ []
    no_tree_fault number file is = by (tree_faults files (number, file)) refl where
      by : (faults : List TreeFault) → tree_faults files (number, file) ≡ faults → faults ≡ []
      by [] none = refl
      by (fault ∷ faults) some =
          absurd (no_fault fault.kind number fault.at
          (in_tree is (subst (λ list. Contains list fault) (sym some) (stands_first fault faults))))

    -- a member in its place
    abbrev at_key : (key : MemberKey) → StandsAt files key → PlacedMember
    at_key key at = placed files (key.unit, at.file) (key.member, at.member)

    no_member_fault : (key : MemberKey) (at : StandsAt files key) → member_faults files (at_key key at) ≡ []
    no_member_fault key at = each-none (λ (m : ℕ × Member). member_faults files (placed files (key.unit, at.file) m))
        (numbered at.file.unit.class.members)
        (none-last (superclass_faults files (key.unit, at.file))
        (flat_map (λ (m : ℕ × Member). member_faults files (placed files (key.unit, at.file) m)) (numbered at.file.unit.class.members))
        (no_tree_fault key.unit at.file at.in_files))
        (key.member, at.member) (in_numbered at.file.unit.class.members key.member at.member at.in_class)

    -- ---- the parts of a member

    module _ (reader : Reader ℕ MemberKey) where
      field-type : (f : Field) → faults_in reader (member.Field f) ≡ [] → is_unread (seen_type reader f.ty) ≡ false
      field-type f none =
          (type-whole reader f.at f.ty (none-first (read_type reader f.at f.ty).faults (read_initial reader f.init).faults none)).2.known

      module _ (m : Method) (none : faults_in reader (member.Method m) ≡ []) where
        abbrev result_faults : List TreeFault
        result_faults = (read_type reader m.at m.result).faults

        abbrev params_faults : List TreeFault
        params_faults = (read_params reader m.at m.params).faults

        abbrev repeated : List TreeFault
        repeated = repeated_faults m.at m.params

        abbrev block_faults : List TreeFault
        block_faults = (read_block reader m.block).faults

        front-none : result_faults ++ params_faults ≡ []
        front-none = none-first (result_faults ++ params_faults) repeated
            (none-first (result_faults ++ params_faults ++ repeated) block_faults none)

        no_result_fault : result_faults ≡ []
        no_result_fault = none-first result_faults params_faults front-none

        no_params_fault : params_faults ≡ []
        no_params_fault = none-last result_faults params_faults front-none

        no_block_fault : block_faults ≡ []
        no_block_fault = none-last (result_faults ++ params_faults ++ repeated) block_faults none

        result-type : is_unread (seen_type reader m.result) ≡ false
        result-type = (type-whole reader m.at m.result no_result_fault).2.known

      module _ (c : Ctor) (none : faults_in reader (member.Ctor c) ≡ []) where
        no_ctor_params_fault : (read_params reader c.at c.params).faults ≡ []
        no_ctor_params_fault = none-first (read_params reader c.at c.params).faults (repeated_faults c.at c.params)
            (none-first ((read_params reader c.at c.params).faults ++ repeated_faults c.at c.params) (read_body reader c.block).faults none)

        no_body_fault : (read_body reader c.block).faults ≡ []
        no_body_fault = none-last ((read_params reader c.at c.params).faults ++ repeated_faults c.at c.params)
            (read_body reader c.block).faults none

      no_types_fault : (m : Member) → faults_in reader m ≡ [] → (read_params reader (place_of_member m) (params_of m)).faults ≡ []
      no_types_fault (member.Field f) none = refl
      no_types_fault (member.Method m) none = no_params_fault m none
      no_types_fault (member.Ctor c) none = no_ctor_params_fault c none

      param-type : (m : Member) → faults_in reader m ≡ [] → (param : Param) → Contains (params_of m) param
          → is_unread (seen_type reader param.ty) ≡ false
      param-type m none param stands = (type-whole reader (place_of_member m) param.ty
          (all-none (λ (p : Param). read_type reader (place_of_member m) p.ty) (params_of m) (no_types_fault m none) param stands)).2.known

    -- ---- all types are read

    field-made : (classes : Classes ℕ) (unit : ℕ × Source) (number : ℕ) (m : Member) (field : ViewField ℕ MemberKey)
        → field_in classes unit (number, m) ≡ Some field
        → (f : Field) × (m ≡ member.Field f)
        × (field.type ≡ type_in classes (header_of unit) f.ty)
    field-made classes unit number (member.Field f) field is =
        (f, refl, type-some _ field is) where
          type-some : (x y : ViewField ℕ MemberKey) → Some x ≡ Some y → y.type ≡ x.type
          type-some x y same = let one : x ≡ y = cc in ap (λ (v : ViewField ℕ MemberKey). v.type) (sym one)
    field-made classes unit number (member.Method m) field is = absurd cc
    field-made classes unit number (member.Ctor c) field is = absurd cc

    fields-known : (field : ViewField ℕ MemberKey) → Contains (files_view files).fields field → is_unread field.type ≡ false
    fields-known field stands =
        let of_unit = from_each (fields_of (classes_of (units files))) (numbered (units files)) field stands in
        let of_member = from_some (field_in (classes_of (units files)) of_unit.0) (numbered of_unit.0.1.class.members) field of_unit.2 in
        let file = get-unit files of_unit.0.0 of_unit.0.1 (from_numbered (units files) of_unit.0 of_unit.1) in
        let made = field-made (classes_of (units files)) of_unit.0 of_member.0.0 of_member.0.1 field of_member.2 in
        let in_class : slice_get file.0.unit.class.members of_member.0.0 ≡ Some (member.Field made.0)
        = ap (λ (unit : Source). slice_get unit.class.members of_member.0.0) file.2
        ∙ from_numbered of_unit.0.1.class.members of_member.0 of_member.1 ∙ ap (λ m. Some m) made.1 in
        let at : StandsAt files (record { unit = of_unit.0.0; member = of_member.0.0 })
        = record { file = file.0; in_files = file.1; member = member.Field made.0; in_class = in_class } in
        ap is_unread (made.2 ∙ ap (λ (unit : Source). type_in (classes_of (units files)) (header_of (of_unit.0.0, unit)) made.0.ty)
        (sym file.2))
        ∙ field-type (member_reader files (at_key (record { unit = of_unit.0.0; member = of_member.0.0 }) at)) made.0
        (no_member_fault (record { unit = of_unit.0.0; member = of_member.0.0 }) at)

    declared-type : (classes : Classes ℕ) (unit : ℕ × Source) (number : ℕ) (m : Member) (declared : Declaration)
        → declaration_in classes unit (number, m) ≡ Some declared
        → ((r : Method) → m ≡ member.Method r → is_unread (type_in classes (header_of unit) r.result) ≡ false)
        → is_unread declared.result ≡ false
    declared-type classes unit number (member.Field f) declared is known = absurd cc
    declared-type classes unit number (member.Method m) declared is known = ap is_unread (result-some _ declared is) ∙ known m refl where
      result-some : (x y : Declaration) → Some x ≡ Some y → y.result ≡ x.result
      result-some x y same = let one : x ≡ y = cc in ap (λ (v : Declaration). v.result) (sym one)
    declared-type classes unit number (member.Ctor c) declared is known = ap is_unread (result-some _ declared is) where
      result-some : (x y : Declaration) → Some x ≡ Some y → y.result ≡ x.result
      result-some x y same = let one : x ≡ y = cc in ap (λ (v : Declaration). v.result) (sym one)

    results-known : (declared : Declaration) → Contains (files_view files).declarations declared → is_unread declared.result ≡ false
    results-known declared stands =
        let made = declaration-made files declared stands in
        declared-type (classes_of (units files))
        (declared.key.unit, made.at.file.unit) declared.key.member made.at.member declared made.made
        (λ m is. result-type (member_reader files (at_key declared.key made.at)) m
        (ap (faults_in (member_reader files (at_key declared.key made.at))) (sym is) ∙ no_member_fault declared.key made.at))

    reads-known : (key : MemberKey) (at : StandsAt files key) → ReadsKnown (member_reader files (at_key key at))
    reads-known key at = record {
      ordered = files-ordered files;
      fields = fields-known;
      results = results-known;
      params = params-known;
    } where
      params-known : (param : Parameter ℕ) → Contains (member_reader files (at_key key at)).params param → is_unread param.type ≡ false
      params-known param stands =
          let of_pair = from_map (parameter_of (file_reader files (key.unit, at.file)))
          (zip (declared_ids files (at_key key at).declared) (params_of at.member)) param stands in
          ap (λ (p : Parameter ℕ). is_unread p.type) (sym of_pair.2)
          ∙ param-type (member_reader files (at_key key at)) at.member (no_member_fault key at) of_pair.0.1
          (from_zip (declared_ids files (at_key key at).declared) (params_of at.member) of_pair.0 of_pair.1)

    -- ---- cells of classes

    abbrev HasValue : Option Value → Type 0
    HasValue o = (value : Value) × (o ≡ Some value)

    super-there : (number : ℕ) (file : File) (parent : Option TypeName)
        → option_map_or (λ type. (read_type (file_reader files (number, file)) 0 type).faults) parent [] ≡ []
        → HasValue (super_cell files (number, file) parent)
    super-there number file None none = (_, refl)
    super-there number file (Some type) none =
        let read = type-whole (file_reader files (number, file)) 0 type none in
        made (λ (r : ReadType ℕ). values.Super (Some r.tree)) (read_type (file_reader files (number, file)) 0 type).value read.0 read.1

    class-there : (number : ℕ) (file : File) → HasFile files number file → (slot : Slot) → has_slot (Some knowns.Class) slot ≡ true
        → HasValue (cell_of_class files number slot file)
    class-there number file is slots.Live has = (_, refl)
    class-there number file is slots.Package has = (_, refl)
    class-there number file is slots.Name has = (_, refl)
    class-there number file is slots.Super has = super-there number file file.unit.class.parent
        (none-first (superclass_faults files (number, file))
        (flat_map (λ (m : ℕ × Member). member_faults files (placed files (number, file) m)) (numbered file.unit.class.members))
        (no_tree_fault number file is))
    class-there number file is slots.Words has = (_, refl)
    class-there number file is slots.Notes has = (_, refl)
    class-there number file is slots.Owner has = absurd (true≢false (sym has))
    class-there number file is slots.Method has = absurd (true≢false (sym has))
    class-there number file is slots.Result has = absurd (true≢false (sym has))
    class-there number file is slots.Params has = absurd (true≢false (sym has))
    class-there number file is slots.Kind has = absurd (true≢false (sym has))
    class-there number file is slots.Fixed has = absurd (true≢false (sym has))
    class-there number file is slots.Body has = absurd (true≢false (sym has))
    class-there number file is slots.Value has = absurd (true≢false (sym has))

    -- ---- cells of members

    value-there : (reader : Reader ℕ MemberKey) → ReadsKnown reader → (f : Field) → faults_in reader (member.Field f) ≡ []
        → HasValue (value_cell reader (member.Field f))
    value-there reader known f none =
        let read = whole-both (IsRead reader f.ty) Any (read_type reader f.at f.ty) (read_initial reader f.init)
        (type-whole reader f.at f.ty)
        (whole-read_initial reader known f.init) none in
        made (λ (parts : ReadType ℕ × Option IExpr). values.Value parts.0.tree parts.1) (read_field reader f).value read.0 read.1

    block-there : (reader : Reader ℕ MemberKey) → ReadsKnown reader → (m : Method) → faults_in reader (member.Method m) ≡ []
        → HasValue (body_cell reader (member.Method m))
    block-there reader known m none = by m.block (no_block_fault reader m none) where
      by : (block : Option Block) → (read_block reader block).faults ≡ []
          → HasValue (option_map (λ body. values.Body body) (read_block reader block).value)
      by None none = (_, refl)
      by (Some block) none =
          let read = whole-maybe Any (read_body reader block) (whole-read_body reader known block) none in
          made (λ body. values.Body body) (read_block reader (Some block)).value read.0 read.1

    body-there : (reader : Reader ℕ MemberKey) → ReadsKnown reader → (c : Ctor) → faults_in reader (member.Ctor c) ≡ []
        → HasValue (body_cell reader (member.Ctor c))
    body-there reader known c none =
        let read = whole-read_body reader known c.block (no_body_fault reader c none) in
        made (λ body. values.Body (Some body)) (read_body reader c.block).value read.0 read.1

    field-there : (at : PlacedMember) → HasValue (value_cell (member_reader files at) at.member) → (slot : Slot)
        → has_slot (Some knowns.Field) slot ≡ true → HasValue (cell_of_member files slot at)
    field-there at there slots.Live has = (_, refl)
    field-there at there slots.Owner has = (_, refl)
    field-there at there slots.Name has = (_, refl)
    field-there at there slots.Words has = (_, refl)
    field-there at there slots.Notes has = (_, refl)
    field-there at there slots.Value has = there
    field-there at there slots.Package has = absurd (true≢false (sym has))
    field-there at there slots.Super has = absurd (true≢false (sym has))
    field-there at there slots.Method has = absurd (true≢false (sym has))
    field-there at there slots.Result has = absurd (true≢false (sym has))
    field-there at there slots.Params has = absurd (true≢false (sym has))
    field-there at there slots.Kind has = absurd (true≢false (sym has))
    field-there at there slots.Fixed has = absurd (true≢false (sym has))
    field-there at there slots.Body has = absurd (true≢false (sym has))

    declaration-there : (at : PlacedMember) (declared : Declaration) → at.declared ≡ Some declared
        → HasValue (body_cell (member_reader files at) at.member) → (method : Id) (slot : Slot)
        → has_slot (Some (knowns.Decl method)) slot ≡ true → HasValue (cell_of_member files slot at)
    declaration-there at declared is there method slots.Live has = (_, refl)
    declaration-there at declared is there method slots.Owner has = (_, refl)
    declaration-there at declared is there method slots.Method has =
        (values.Method ((ids_of files).method_id declared), ap (method_cell files) is)
    declaration-there at declared is there method slots.Words has = (_, refl)
    declaration-there at declared is there method slots.Notes has = (_, refl)
    declaration-there at declared is there method slots.Body has = there
    declaration-there at declared is there method slots.Name has = absurd (true≢false (sym has))
    declaration-there at declared is there method slots.Value has = absurd (true≢false (sym has))
    declaration-there at declared is there method slots.Package has = absurd (true≢false (sym has))
    declaration-there at declared is there method slots.Super has = absurd (true≢false (sym has))
    declaration-there at declared is there method slots.Result has = absurd (true≢false (sym has))
    declaration-there at declared is there method slots.Params has = absurd (true≢false (sym has))
    declaration-there at declared is there method slots.Kind has = absurd (true≢false (sym has))
    declaration-there at declared is there method slots.Fixed has = absurd (true≢false (sym has))

    module _ (key : MemberKey) (at : StandsAt files key) where
      abbrev here : PlacedMember
      here = at_key key at

      abbrev reader_here : Reader ℕ MemberKey
      reader_here = member_reader files here

      member-there : (m : Member) → at.member ≡ m → (slot : Slot) → has_slot (Some (member_known files here.declared)) slot ≡ true
          → HasValue (cell_of_member files slot here)
      member-there (member.Field f) is slot has =
          field-there here (subst (λ m. HasValue (value_cell reader_here m)) (sym is)
          (value-there reader_here (reads-known key at) f (ap (faults_in reader_here) (sym is) ∙ no_member_fault key at)))
          slot (ap (λ (o : Option Declaration). has_slot (Some (member_known files o)) slot) (sym none) ∙ has) where
            none : here.declared ≡ None
            none = made-found files key at
                ∙ ap (λ m. declaration_in (classes_of (units files)) (key.unit, at.file.unit) (key.member, m)) is
      member-there (member.Method m) is slot has = by_declared here.declared refl where
        body : HasValue (body_cell reader_here at.member)
        body = subst (λ m. HasValue (body_cell reader_here m)) (sym is)
            (block-there reader_here (reads-known key at) m (ap (faults_in reader_here) (sym is) ∙ no_member_fault key at))

        by_declared : (o : Option Declaration) → here.declared ≡ o → HasValue (cell_of_member files slot here)
        by_declared (Some declared) found = declaration-there here declared found body ((ids_of files).method_id declared) slot
            (ap (λ (o : Option Declaration). has_slot (Some (member_known files o)) slot) (sym found) ∙ has)
        by_declared None none = absurd (none-some _ (sym none ∙ made-found files key at
            ∙ ap (λ m. declaration_in (classes_of (units files)) (key.unit, at.file.unit) (key.member, m)) is))
      member-there (member.Ctor c) is slot has = by_declared here.declared refl where
        body : HasValue (body_cell reader_here at.member)
        body = subst (λ m. HasValue (body_cell reader_here m)) (sym is)
            (body-there reader_here (reads-known key at) c (ap (faults_in reader_here) (sym is) ∙ no_member_fault key at))

        by_declared : (o : Option Declaration) → here.declared ≡ o → HasValue (cell_of_member files slot here)
        by_declared (Some declared) found = declaration-there here declared found body ((ids_of files).method_id declared) slot
            (ap (λ (o : Option Declaration). has_slot (Some (member_known files o)) slot) (sym found) ∙ has)
        by_declared None none = absurd (none-some _ (sym none ∙ made-found files key at
            ∙ ap (λ m. declaration_in (classes_of (units files)) (key.unit, at.file.unit) (key.member, m)) is))

      -- ---- cells of methods

      result-there : (m : Member) → faults_in reader_here m ≡ [] → HasValue (result_cell reader_here m)
      result-there (member.Field f) none = (_, refl)
      result-there (member.Method m) none =
          let read = type-whole reader_here m.at m.result (no_result_fault reader_here m none) in
          made (λ (r : ReadType ℕ). values.Result r.tree) (read_type reader_here m.at m.result).value read.0 read.1
      result-there (member.Ctor c) none = (_, refl)

      params-there : HasValue (params_cell files here)
      params-there =
          let read = whole-all Any (λ (param : Param). read_type reader_here (place_of_member at.member) param.ty)
          (λ param. whole-any (IsRead reader_here param.ty) (read_type reader_here (place_of_member at.member) param.ty)
          (type-whole reader_here (place_of_member at.member) param.ty)) (params_of at.member)
          (no_types_fault reader_here at.member (no_member_fault key at)) in
          made (λ read. values.Params (map listed (zip (declared_ids files here.declared) (zip (params_of at.member) read))))
          (read_params reader_here (place_of_member at.member) (params_of at.member)).value read.0 read.1

      method-there : (declared : Declaration) → here.declared ≡ Some declared → (kind : MethodKind) (slot : Slot)
          → has_slot (Some (knowns.Method kind)) slot ≡ true → HasValue (cell_of_method files slot here)
      method-there declared is kind slots.Name has = (_, refl)
      method-there declared is kind slots.Result has = result-there at.member (no_member_fault key at)
      method-there declared is kind slots.Params has = params-there
      method-there declared is kind slots.Kind has =
          made (λ (d : Declaration). values.Kind (kind_of d.kind)) here.declared declared is
      method-there declared is kind slots.Fixed has =
          made (λ (d : Declaration). values.Fixed (is_fixed d)) here.declared declared is
      method-there declared is kind slots.Live has = absurd (true≢false (sym has))
      method-there declared is kind slots.Package has = absurd (true≢false (sym has))
      method-there declared is kind slots.Owner has = absurd (true≢false (sym has))
      method-there declared is kind slots.Method has = absurd (true≢false (sym has))
      method-there declared is kind slots.Super has = absurd (true≢false (sym has))
      method-there declared is kind slots.Words has = absurd (true≢false (sym has))
      method-there declared is kind slots.Notes has = absurd (true≢false (sym has))
      method-there declared is kind slots.Body has = absurd (true≢false (sym has))
      method-there declared is kind slots.Value has = absurd (true≢false (sym has))

    -- ---- all cells

    there : (item : Numbered) → Stands files item → (slot : Slot) → has_slot (known_of files item) slot ≡ true
        → HasValue (value_of files item slot)
    there item (Stands.a_class {number = number} {file = file} is) slot has =
        subst HasValue (ap (option_and_then (cell_of_class files number slot)) (sym is)) (class-there number file is slot has)
    there item (Stands.a_member {key = key} at) slot has =
        subst HasValue (ap (option_and_then (cell_of_member files slot)) (sym (member-found files key at)))
        (member-there key at at.member refl slot
        (ap (λ (o : Option PlacedMember). has_slot (option_map (λ (p : PlacedMember). member_known files p.declared) o) slot)
        (sym (member-found files key at)) ∙ has))
    there item (Stands.a_method {key = key} {declared = declared} found) slot has =
        let same = (found-stands files key declared found).1 in
        let at = subst (StandsAt files) same (declaration-made files declared (found-stands files key declared found).0).at in
        subst HasValue (ap (option_and_then (cell_of_method files slot)) (sym (member-found files key at)))
        (method-there key at declared found (kind_of declared.kind) slot
        (ap (λ (o : Option Declaration). has_slot (option_map (λ (d : Declaration). knowns.Method (kind_of d.kind)) o) slot) (sym found)
        ∙ has))
    there item Stands.a_param slot has = absurd (true≢false (sym has))

pub values_there : ValuesThere
values_there = record {
  known = λ files item stands. known-some files item (stands-in files item stands);
  values = λ files no_fault item stands slot has. there files no_fault item (stands-in files item stands) slot has;
}
