-- Each cell of a method holds what may stand there, and mentions what the program knows, each of the right kind.
use Rattle.std.proofs.Common.{◌≡◌, ◌≢◌, ◌⊎◌, inl, inr, ℕ, ◌≤◌, Bool, true, false, ◌&&◌, ◌||◌, not, if◌then◌else◌, List, [], ◌∷◌, map, flat_map, length, Option, Some, None, option_map, Contains, refl, sym, ◌∙◌, ap, subst, arith}
use Rattle.std.proofs.lemmas.Bool.{and_from, and_parts, or_right, or_left, le-leb}
use Rattle.std.specs.List.{All, list_all, list_any, zip}
use Rattle.std.specs.Option.{option_and_then}
use Rattle.std.specs.FinMap.{get}
use Rattle.std.proofs.lemmas.List.{length-map}
use Rattle.jav_tree.specs.Height.{tallest}
use Rattle.jav_tree.specs.Printable as printable
use Rattle.jav_tree.specs.Printable.{IsPrintableMethod, IsPrintableConstructor}
use Rattle.jav_tree.specs.PrintableExpressions.{type_uses}
use Rattle.jav_tree.specs.Widths.{type_width, counted, param_width, member_width}
use Rattle.jav_tree.specs.declared.unit.Ctor.{Ctor}
use Rattle.jav_tree.specs.declared.unit.Member.{Member}
use Rattle.jav_tree.specs.declared.unit.Member.TheVariants as member
use Rattle.jav_tree.specs.declared.unit.Method.{Method}
use Rattle.jav_tree.specs.declared.unit.Param.{Param as SourceParam}
use Rattle.jav_names.proofs.Lists.{stands_first, stands_later}
use Rattle.jav_names.specs.DottedNames.{Name}
use Rattle.jav_names.specs.Members.{is_object_method}
use Rattle.jav_names.specs.UnitViews.{MemberKey}
use Rattle.jav_names.specs.Views.{instance_method, static_method, constructor, ViewDeclaration}
use Rattle.mol_base.specs.Limits.{max_items}
use Rattle.mol_base.specs.declared.ident.Id.{Id}
use Rattle.mol_resolve_rules.proofs.FilesStand.{StandsAt, some-same}
use Rattle.mol_resolve_rules.proofs.NumbersApart.{numbers_apart}
use Rattle.mol_resolve_rules.proofs.Stands.{from_map, from_range}
use Rattle.mol_resolve_rules.specs.Expected.{kind_of, listed, params_cell, is_fixed, cell_of_method}
use Rattle.mol_resolve_rules.specs.Files.{Files, files_view, params_of, place_of_member, declaration_at, PlacedMember, member_at}
use Rattle.mol_resolve_rules.specs.Numbering.{numbered_method, numbered_param, below, id_at}
use Rattle.mol_resolve_rules.specs.Outcomes.{both, put_first}
use Rattle.mol_resolve_rules.specs.ReadAs.{HasNoFault}
use Rattle.mol_resolve_rules.specs.ReadFiles.{declared_ids, member_reader, read_params}
use Rattle.mol_resolve_rules.specs.Readers.{Reader}
use Rattle.mol_resolve_rules.specs.ReadTypes.{ReadType, read_type}
use Rattle.mol_table_rules.proofs.Living.{same_id-own, id_tied}
use Rattle.mol_table_rules.specs.Forms.{is_param, is_formed, differ}
use Rattle.mol_table_rules.specs.Mentions as mention
use Rattle.mol_table_rules.specs.Mentions.{Mention, a_listed_param, named, type_mentions, param_mentions, mentions}
use Rattle.mol_table_rules.specs.Program.{Program, same_id}
use Rattle.mol_table_rules.specs.Rules.{fills}
use Rattle.mol_values_types.specs.TokenForms.{is_name}
use Rattle.mol_table_rules.specs.TypeForms.{is_type, is_void, is_result, void_step, dimensions}
use Rattle.mol_values_types.specs.declared.cell.Slot.{Slot}
use Rattle.mol_values_types.specs.declared.cell.Slot.TheVariants as slots
use Rattle.mol_values_types.specs.declared.itype.IType.{IType}
use Rattle.mol_values_types.specs.declared.itype.IType.TheFolds.{fold-roll-IType}
use Rattle.mol_values_types.specs.declared.itype.IType.TheOpen.{IType-F}
use Rattle.mol_values_types.specs.declared.itype.IType.TheVariants as types
use Rattle.mol_values_types.specs.declared.kind.MethodKind.{MethodKind}
use Rattle.mol_values_types.specs.declared.kind.MethodKind.TheVariants.{Instance, Static, Constructor}
use Rattle.mol_values_types.specs.declared.known.Known.{Known}
use Rattle.mol_values_types.specs.declared.known.Known.TheVariants as knowns
use Rattle.mol_values_types.specs.declared.param.Param.{Param}
use Rattle.mol_values_types.specs.declared.value.Value.{Value}
use Rattle.mol_values_types.specs.declared.value.Value.TheVariants as values
use Rattle.mol_resolve_laws.proofs.CellsRight.{CellRight, SaysRight, says-none, says, says-made, at as at_place, right-at}
use Rattle.mol_resolve_laws.proofs.EntityItems.{has-params}
use Rattle.mol_resolve_laws.proofs.ExpressionsRight.{type-within, typed}
use Rattle.mol_resolve_laws.proofs.FillersRight.{filler-right}
use Rattle.mol_resolve_laws.proofs.Filled.{IsFilled}
use Rattle.mol_resolve_laws.proofs.Gives.{none-some, Gives, gives-fine, gives-mapped, gives-both}
use Rattle.mol_resolve_laws.proofs.MethodItems.{IsInMethod, ids as method_ids, ids-are, from-ids, method-stands, param-stands}
use Rattle.mol_resolve_laws.proofs.OrderDistinct.{IsOnce, once-range}
use Rattle.mol_resolve_laws.proofs.ReaderRight.{fits, known-item}
use Rattle.mol_resolve_laws.proofs.Right.{Passes, Takes, ReadsRightly, passes-both, passes-named}
use Rattle.mol_resolve_laws.proofs.TypesRight.{is_named, IsReadRightly, type-gives}
use Rattle.mol_resolve_laws.specs.Laws.{IsTree}

-- ---- lists of parameters

abbrev listed_with : List Id → List SourceParam → List (ReadType ℕ) → List Param
listed_with ids params read = map listed (zip ids (zip params read))

pub record ParamsRight (test : Mention → Bool) (params : List SourceParam) (read : List (ReadType ℕ)) : Type 0 where
  pub formed : list_all printable.is_param params ≡ true → (ids : List Id) → list_all is_param (listed_with ids params read) ≡ true
  pub mentions : (ids : List Id) → ((id : Id) → Contains ids id → Takes test a_listed_param id)
      → Passes test (flat_map param_mentions (listed_with ids params read))

-- nothing is listed of no parameters
none-formed : (ids : List Id) → list_all is_param (listed_with ids [] []) ≡ true
none-formed [] = refl
none-formed (id ∷ ids) = refl

none-mentions : (test : Mention → Bool) (ids : List Id) → Passes test (flat_map param_mentions (listed_with ids [] []))
none-mentions test [] = refl
none-mentions test (id ∷ ids) = refl

module _ (test : Mention → Bool) (reader : Reader ℕ MemberKey) (right : ReadsRightly test reader) where
  params-more : (p : SourceParam) (params : List SourceParam) (read : ReadType ℕ) (more : List (ReadType ℕ))
      → IsReadRightly test reader right p.ty read → type_width p.ty ≤ max_items → ParamsRight test params more
      → ParamsRight test (p ∷ params) (read ∷ more)
  params-more p params read more r few rest = record { formed = formed; mentions = passes } where
    formed : list_all printable.is_param (p ∷ params) ≡ true → (ids : List Id)
        → list_all is_param (listed_with ids (p ∷ params) (read ∷ more)) ≡ true
    formed are [] = refl
    formed are (id ∷ ids) =
        let parts = and_parts (printable.is_param p) (list_all printable.is_param params) are in
        let own = and_parts (type_uses p.ty).is_type (is_name p.name) parts.0 in
        and_from (is_param (listed (id, (p, read)))) (list_all is_param (listed_with ids params more))
        (and_from (is_name p.name && is_type read.tree) _ (and_from (is_name p.name) (is_type read.tree) own.1
        (typed test reader right p.ty read.tree r.as_written few own.0)) (filler-right read.tree)) (rest.formed parts.1 ids)

    passes : (ids : List Id) → ((id : Id) → Contains ids id → Takes test a_listed_param id)
        → Passes test (flat_map param_mentions (listed_with ids (p ∷ params) (read ∷ more)))
    passes [] takes = refl
    passes (id ∷ ids) takes = passes-both test (param_mentions (listed (id, (p, read))))
        (flat_map param_mentions (listed_with ids params more))
        (passes-both test (named a_listed_param id) (type_mentions read.tree)
        (passes-named test a_listed_param id (takes id (stands_first id ids)))
        r.as_written.mentions)
        (rest.mentions ids (λ other stands. takes other (stands_later id other ids stands)))

  pub gives-params : (at : ℕ) (params : List SourceParam) → tallest (map param_width params) ≤ max_items
      → Gives (ParamsRight test params) (read_params reader at params)
  gives-params at [] few = gives-fine (ParamsRight test []) [] (record
      { formed = λ are. none-formed; mentions = λ ids takes. none-mentions test ids })
  gives-params at (p ∷ params) few = gives-mapped
      (λ (pair : ReadType ℕ × List (ReadType ℕ)). IsReadRightly test reader right p.ty pair.0 × ParamsRight test params pair.1)
      (ParamsRight test (p ∷ params)) put_first (both (read_type reader at p.ty) (read_params reader at params))
      (gives-both (IsReadRightly test reader right p.ty) (ParamsRight test params) (read_type reader at p.ty) (read_params reader at params)
      (type-gives test reader right at p.ty) (gives-params at params (omega (arith, few))))
      (λ pair is. params-more p params pair.0 pair.1 is.0 (omega (arith, few)) is.1)

-- no more are listed than there are
listed-few : (ids : List Id) (params : List SourceParam) (read : List (ReadType ℕ)) → length (listed_with ids params read) ≤ length params
listed-few [] params read = omega arith
listed-few (id ∷ ids) [] read = omega arith
listed-few (id ∷ ids) (p ∷ params) [] = omega arith
listed-few (id ∷ ids) (p ∷ params) (r ∷ read) = let fewer = listed-few ids params read in omega (arith, fewer)

-- ---- identities that differ

any-false : {X : Type 0} (p : X → Bool) (xs : List X) → ((x : X) → Contains xs x → ¬ (p x ≡ true)) → list_any p xs ≡ false
any-false p [] none = refl
any-false p (x ∷ xs) none = by (p x) refl (any-false p xs (λ y stands. none y (stands_later x y xs stands))) where
  by : (b : Bool) → p x ≡ b → list_any p xs ≡ false → (b || list_any p xs) ≡ false
  by true is rest = absurd (none x (stands_first x xs) is)
  by false is rest = rest

differ-mapped : (make : ℕ → Id) (xs : List ℕ) → IsOnce xs → ((x y : ℕ) → Contains xs x → Contains xs y → make x ≡ make y → x ≡ y)
    → differ (map make xs) ≡ true
differ-mapped make [] once one = refl
differ-mapped make (x ∷ xs) once one = and_from _ _
    (ap not (any-false (same_id (make x)) (map make xs) (λ id stands same.
    let of = from_map make xs id stands in
    once.0 (subst (Contains xs) (sym (one x of.0 (stands_first x xs) (stands_later x of.0 xs of.1) (id_tied (make x) id same ∙ sym of.2)))
    of.1))))
    (differ-mapped make xs once.1 (λ y z in_y in_z. one y z (stands_later x y xs in_y) (stands_later x z xs in_z)))

-- ---- the cells of a method

not-constructor : (static : Bool) → kind_of (if static then static_method else instance_method) ≢ Constructor
not-constructor true is = absurd cc
not-constructor false is = absurd cc

name-formed : (kind : MethodKind) → kind ≢ Constructor → (name : Name) → is_name name ≡ true
    → is_formed (knowns.Method kind) (values.Name name) ≡ true
name-formed Instance differs name is = is
name-formed Static differs name is = is
name-formed Constructor differs name is = absurd (differs refl)

result-formed : (kind : MethodKind) → kind ≢ Constructor → (type : IType) → is_result type ≡ true
    → is_formed (knowns.Method kind) (values.Result type) ≡ true
result-formed Instance differs type is = is
result-formed Static differs type is = is
result-formed Constructor differs type is = absurd (differs refl)

fixed-formed : (kind : MethodKind) → kind ≢ Constructor → (fixed : Bool) → is_formed (knowns.Method kind) (values.Fixed fixed) ≡ true
fixed-formed Instance differs fixed = refl
fixed-formed Static differs fixed = refl
fixed-formed Constructor differs fixed = absurd (differs refl)

module _ (files : Files) (no_fault : HasNoFault files) (program : Program) (filled : IsFilled files program) (trees : All IsTree files)
    (key : MemberKey) (s : StandsAt files key) (method : IsInMethod files key (numbered_method key)) where
  abbrev own : Id
  own = id_at files (numbered_method key)

  abbrev test : Mention → Bool
  test = fits program.known own

  abbrev Declaration : Type 0
  Declaration = ViewDeclaration ℕ MemberKey

  abbrev placed_at : Member → PlacedMember
  placed_at = at_place files no_fault program filled trees own key s

  abbrev reader_at : Member → Reader ℕ MemberKey
  reader_at m = member_reader files (placed_at m)

  right_at : (m : Member) → ReadsRightly test (reader_at m)
  right_at = right-at files no_fault program filled trees own key s

  -- each parameter of the method is known as one
  takes-param : (id : Id) → Contains (declared_ids files (Some method.declared)) id → Takes test a_listed_param id
  takes-param id stands =
      let place = from-ids files key method id (subst (λ ids. Contains ids id) (ids-are files key method) stands) in
      let known = known-item files no_fault program filled (numbered_param key place.0)
      (param-stands files key method place.0 place.1) (knowns.Param own) refl in
      ap (λ k. fills own a_listed_param k) (sym (ap (get program.known) place.2) ∙ known) ∙ same_id-own own

  pub ids-differ : differ (method_ids files key method) ≡ true
  ids-differ = differ-mapped (λ (place : ℕ). id_at files (numbered_param key place)) (below method.declared.arity)
      (once-range 0 method.declared.arity)
      (λ x y in_x in_y same. param-place (numbers_apart.apart files (numbered_param key x) (numbered_param key y)
      (param-stands files key method x (from_range method.declared.arity x in_x))
      (param-stands files key method y (from_range method.declared.arity y in_y)) same)) where
        param-place : {x y : ℕ} → numbered_param key x ≡ numbered_param key y → x ≡ y
        param-place is = cc

  same-params : {first second : List Param} → values.Params first ≡ values.Params second → first ≡ second
  same-params is = cc

  params-right : (m : Member) → member_at files key ≡ Some (placed_at m) → (kind : MethodKind)
      → list_all printable.is_param (params_of m) ≡ true
      → counted (map param_width (params_of m)) ≤ max_items
      → SaysRight test (knowns.Method kind) (params_cell files (placed_at m))
  params-right m placed kind formed few value is =
      by (read_params (reader_at m) (place_of_member m) (params_of m)).value refl is where
        made : (read : List (ReadType ℕ)) → (read_params (reader_at m) (place_of_member m) (params_of m)).value ≡ Some read
            → (params : List Param) → params ≡ listed_with (declared_ids files (placed_at m).declared) (params_of m) read
            → params_cell files (placed_at m) ≡ Some (values.Params params) → CellRight test (knowns.Method kind) (values.Params params)
        made read some params are said =
            let r = (gives-params test (reader_at m) (right_at m) (place_of_member m) (params_of m) (omega (arith, few))).each read some in
            let declared : (placed_at m).declared ≡ Some method.declared = method.found in
            let has = has-params files no_fault key method (method-stands files key method) in
            let same : params ≡ has.params
            = same-params (some-same (sym said ∙ sym (ap (option_and_then (cell_of_method files slots.Params)) placed) ∙ has.said)) in
            let few-params = listed-few (declared_ids files (placed_at m).declared) (params_of m) read in
            let many = length-map (params_of m) param_width in
            let as_many : length params ≡ length (listed_with (declared_ids files (placed_at m).declared) (params_of m) read)
            = ap (λ (ps : List Param). length ps) are in
            record {
              formed = and_from _ _ (and_from _ _
                  (ap (list_all is_param) are ∙ r.formed formed (declared_ids files (placed_at m).declared))
                  (le-leb (length params) max_items (omega (arith, few, few-params, many, as_many))))
                  (ap (λ (ps : List Param). differ (map (λ (p : Param). p.id) ps)) same ∙ ap differ has.ids_are ∙ ids-differ);
              mentions = ap (λ (ps : List Param). list_all test (flat_map param_mentions ps)) are
                  ∙ r.mentions (declared_ids files (placed_at m).declared)
                  (λ id stands. takes-param id (subst (λ o. Contains (declared_ids files o) id) declared stands));
            }

        by : (o : Option (List (ReadType ℕ))) → (read_params (reader_at m) (place_of_member m) (params_of m)).value ≡ o
            → option_map (λ read. values.Params (listed_with (declared_ids files (placed_at m).declared) (params_of m) read)) o ≡ Some value
            → CellRight test (knowns.Method kind) value
        by None none is = absurd (none-some is)
        by (Some read) some is = subst (CellRight test (knowns.Method kind)) (some-same is)
            (made read some (listed_with (declared_ids files (placed_at m).declared) (params_of m) read) refl
            (ap (option_map (λ read. values.Params (listed_with (declared_ids files (placed_at m).declared) (params_of m) read))) some))

  -- what is said of the declaration itself
  declared-right : (known : Known) (make : Declaration → Value) → CellRight test known (make method.declared)
      → SaysRight test known (option_map make (declaration_at (files_view files) key))
  declared-right known make right value is =
      subst (CellRight test known) (some-same (sym (ap (option_map make) method.found) ∙ is)) right

  pub method-cell : (m : Method) → IsPrintableMethod m → member_width (member.Method m) ≤ max_items
      → member_at files key ≡ Some (placed_at (member.Method m))
      → method.declared.kind ≡ (if m.is_static then static_method else instance_method) → (slot : Slot)
      → SaysRight test (knowns.Method (kind_of method.declared.kind)) (cell_of_method files slot (placed_at (member.Method m)))
  method-cell m p few placed kind slot = subst (λ k. SaysRight test (knowns.Method (kind_of k))
      (cell_of_method files slot (placed_at (member.Method m))))
      (sym kind) (by slot) where
        own_kind : MethodKind
        own_kind = kind_of (if m.is_static then static_method else instance_method)

        result : (type : IType) → (is_void type ≡ true) ⊎ (is_named type ≡ true) → dimensions type ≡ type_width m.result
            → is_result type ≡ true
        result type (inl void) wide = or_left _ _ void
        result type (inr named) wide =
            or_right (is_void type) _ (and_from _ _ named (type-within type (type_width m.result) wide (omega (arith, few))))

        by : (slot : Slot) → SaysRight test (knowns.Method own_kind) (cell_of_method files slot (placed_at (member.Method m)))
        by slots.Name = says test (knowns.Method own_kind) (values.Name m.name)
            (name-formed own_kind (not-constructor m.is_static) m.name p.named) refl
        by slots.Result = says-made test (knowns.Method own_kind)
            (IsReadRightly test (reader_at (member.Method m)) (right_at (member.Method m)) m.result)
            (λ (read : ReadType ℕ). values.Result read.tree) (read_type (reader_at (member.Method m)) m.at m.result)
            (type-gives test (reader_at (member.Method m)) (right_at (member.Method m)) m.at m.result)
            (λ read r. record {
              formed = result-formed own_kind (not-constructor m.is_static) read.tree
                  (result read.tree (r.as_written.result p.typed) r.as_written.wide);
              mentions = r.as_written.mentions;
            })
        by slots.Params = params-right (member.Method m) placed own_kind p.params (omega (arith, few))
        by slots.Kind = declared-right (knowns.Method own_kind) (λ (d : Declaration). values.Kind (kind_of d.kind))
            (record { formed = refl; mentions = refl })
        by slots.Fixed = declared-right (knowns.Method own_kind) (λ (d : Declaration). values.Fixed (is_fixed d))
            (record { formed = fixed-formed own_kind (not-constructor m.is_static) (is_fixed method.declared); mentions = refl })
        by slots.Live = says-none test (knowns.Method own_kind)
        by slots.Package = says-none test (knowns.Method own_kind)
        by slots.Owner = says-none test (knowns.Method own_kind)
        by slots.Method = says-none test (knowns.Method own_kind)
        by slots.Super = says-none test (knowns.Method own_kind)
        by slots.Words = says-none test (knowns.Method own_kind)
        by slots.Notes = says-none test (knowns.Method own_kind)
        by slots.Body = says-none test (knowns.Method own_kind)
        by slots.Value = says-none test (knowns.Method own_kind)

  void-is : is_void types.Void ≡ true
  void-is = ap is_void (sym types.rolls-Void) ∙ fold-roll-IType Bool void_step IType-F.Void

  void-mentions : type_mentions types.Void ≡ []
  void-mentions = ap type_mentions (sym types.rolls-Void) ∙ fold-roll-IType (List Mention) mention.type_step IType-F.Void

  nameless-free : (name : Name) (arity : ℕ) → name ≡ [] → not (is_object_method name arity) ≡ true
  nameless-free name arity is = ap (λ n. not (is_object_method n arity)) is

  pub constructor-cell : (c : Ctor) → IsPrintableConstructor c → member_width (member.Ctor c) ≤ max_items
      → member_at files key ≡ Some (placed_at (member.Ctor c)) → method.declared.kind ≡ constructor → method.declared.name ≡ []
      → (slot : Slot)
      → SaysRight test (knowns.Method (kind_of method.declared.kind)) (cell_of_method files slot (placed_at (member.Ctor c)))
  constructor-cell c p few placed kind nameless slot =
      subst (λ k. SaysRight test (knowns.Method (kind_of k)) (cell_of_method files slot (placed_at (member.Ctor c)))) (sym kind)
      (by slot) where
        by : (slot : Slot) → SaysRight test (knowns.Method Constructor) (cell_of_method files slot (placed_at (member.Ctor c)))
        by slots.Name = says test (knowns.Method Constructor) (values.Name []) refl refl
        by slots.Result = says test (knowns.Method Constructor) (values.Result types.Void) void-is (ap (list_all test) void-mentions)
        by slots.Params = params-right (member.Ctor c) placed Constructor p.params (omega (arith, few))
        by slots.Kind = declared-right (knowns.Method Constructor) (λ (d : Declaration). values.Kind (kind_of d.kind))
            (record { formed = refl; mentions = refl })
        by slots.Fixed = declared-right (knowns.Method Constructor) (λ (d : Declaration). values.Fixed (is_fixed d))
            (record { formed = nameless-free method.declared.name method.declared.arity nameless; mentions = refl })
        by slots.Live = says-none test (knowns.Method Constructor)
        by slots.Package = says-none test (knowns.Method Constructor)
        by slots.Owner = says-none test (knowns.Method Constructor)
        by slots.Method = says-none test (knowns.Method Constructor)
        by slots.Super = says-none test (knowns.Method Constructor)
        by slots.Words = says-none test (knowns.Method Constructor)
        by slots.Notes = says-none test (knowns.Method Constructor)
        by slots.Body = says-none test (knowns.Method Constructor)
        by slots.Value = says-none test (knowns.Method Constructor)
