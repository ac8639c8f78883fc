-- A class of files that declares no constructor has none in their program.
use Rattle.std.proofs.Common.{◌≡◌, ℕ, Bool, true, false, cond, List, [], ◌∷◌, Option, Some, None, option_map, Contains, slice_get, ◌&&◌, ◌||◌, refl, sym, ◌∙◌, ap, subst, true≢false}
use Rattle.std.proofs.lemmas.Bool.{and_parts}
use Rattle.std.specs.List.{AllByRecursion, find, list_any}
use Rattle.std.specs.Option.{option_and_then, option_map_or}
use Rattle.std.specs.FinMap.{get, entries, keys}
use Rattle.std.proofs.lemmas.List.Elements.{All-contains}
use Rattle.jav_tree.specs.declared.unit.Member.{Member}
use Rattle.jav_tree.specs.declared.unit.Member.TheVariants as member
use Rattle.jav_tree.specs.declared.unit.Unit.{Unit as Source}
use Rattle.jav_names.specs.Members.{IsConstructor, IsByDefault}
use Rattle.jav_names.specs.UnitViews.{MemberKey, classes_of, declaration_in}
use Rattle.jav_names.specs.Views.{DeclarationKind, instance_method, static_method, constructor, ViewDeclaration, Classes}
use Rattle.mol_base.specs.Order.{id_cmp-total, id_cmp-IsAntisymmetric}
use Rattle.mol_base.specs.declared.ident.Id.{Id}
use Rattle.mol_resolve_rules.proofs.FilesStand.{some-same, found-stands, declaration-made, member-found, member-in_order}
use Rattle.mol_resolve_rules.proofs.NumbersApart.{numbers_apart}
use Rattle.mol_resolve_rules.specs.Expected.{kind_of, member_known, known_of, cell_of_member}
use Rattle.mol_resolve_rules.specs.Files.{File, Files, HasFile, units, files_view, declaration_at, PlacedMember, placed, member_at}
use Rattle.mol_resolve_rules.specs.Numbering.{Numbered, numbered_class, numbered_member, numbered_method, numbered_param, id_at, ids_of}
use Rattle.mol_resolve_rules.specs.ReadAs.{HasNoFault}
use Rattle.mol_table_rules.proofs.Counts.{each_found}
use Rattle.mol_table_rules.proofs.Living.{id_tied}
use Rattle.mol_table_rules.specs.Life.{is_decl_of}
use Rattle.mol_table_rules.specs.Program.{Program, same_id, living_at, owner_in, owner_at}
use Rattle.mol_table_rules.specs.Tidy.{is_constructor, is_plain, is_living_decl_in, is_bare, bare_constructor}
use Rattle.mol_values_types.specs.TokenForms.{is_empty}
use Rattle.mol_table_rules.specs.Program.{params_at}
use Rattle.mol_values_types.specs.Slots.{has_slot}
use Rattle.mol_values_types.specs.declared.cell.Slot.TheVariants as slots
use Rattle.mol_values_types.specs.declared.kind.MethodKind.{MethodKind}
use Rattle.mol_values_types.specs.declared.kind.MethodKind.TheVariants.{Instance, Static, Constructor}
use Rattle.mol_values_types.specs.declared.known.Known.{Known}
use Rattle.mol_values_types.specs.declared.known.Known.TheVariants as knowns
use Rattle.mol_values_types.specs.declared.value.Value.{Value}
use Rattle.mol_resolve_laws.proofs.EntityItems.{placed-declared}
use Rattle.mol_resolve_laws.proofs.Filled.{IsFilled}
use Rattle.mol_resolve_laws.proofs.Gives.{none-some}
use Rattle.mol_resolve_laws.proofs.ReaderRight.{class-in_order, method-known}

-- ---- lists

none-found : {X : Type 0} (p : X → Bool) (xs : List X) → ((x : X) → ¬ (p x ≡ true)) → find p xs ≡ None
none-found p [] none = refl
none-found p (x ∷ xs) none = by (p x) refl (none-found p xs none) where
  by : (b : Bool) → p x ≡ b → find p xs ≡ None → cond b (Some x) (find p xs) ≡ None
  by true is rest = absurd (none x is)
  by false is rest = rest

-- something of the list passes, and is as all of the list are
some-passes : {X : Type 0} (Q : X → Type 0) (p : X → Bool) (xs : List X) → AllByRecursion Q xs → list_any p xs ≡ true
    → (x : X) × (Q x × (p x ≡ true))
some-passes Q p [] all any = absurd (true≢false (sym any))
some-passes Q p (x ∷ xs) all any = by (p x) refl any (some-passes Q p xs all.1) where
  by : (b : Bool) → p x ≡ b → (b || list_any p xs) ≡ true → (list_any p xs ≡ true → (x : _) × (Q x × (p x ≡ true)))
      → (x : _) × (Q x × (p x ≡ true))
  by true is here more = (x, (all.0, is))
  by false is here more = more here

-- ---- what tests say

of-constructor : (known : Option Known) → is_constructor known ≡ true → known ≡ Some (knowns.Method Constructor)
of-constructor None is = absurd (true≢false (sym is))
of-constructor (Some knowns.Class) is = absurd (true≢false (sym is))
of-constructor (Some knowns.Field) is = absurd (true≢false (sym is))
of-constructor (Some (knowns.Decl method)) is = absurd (true≢false (sym is))
of-constructor (Some (knowns.Param method)) is = absurd (true≢false (sym is))
of-constructor (Some (knowns.Method Instance)) is = absurd (true≢false (sym is))
of-constructor (Some (knowns.Method Static)) is = absurd (true≢false (sym is))
of-constructor (Some (knowns.Method Constructor)) is = refl

of-method : (method : Id) (known : Known) → is_decl_of method known ≡ true → known ≡ knowns.Decl method
of-method method knowns.Class is = absurd (true≢false (sym is))
of-method method knowns.Field is = absurd (true≢false (sym is))
of-method method (knowns.Decl own) is = ap (λ id. knowns.Decl id) (sym (id_tied method own is))
of-method method (knowns.Param own) is = absurd (true≢false (sym is))
of-method method (knowns.Method kind) is = absurd (true≢false (sym is))

of-owner : (class : Id) (owner : Option Id) → option_map_or (same_id class) owner false ≡ true → owner ≡ Some class
of-owner class None is = absurd (true≢false (sym is))
of-owner class (Some owner) is = ap (λ id. Some id) (sym (id_tied class owner is))

kind-constructor : (kind : DeclarationKind) → kind_of kind ≡ Constructor → kind ≡ constructor
kind-constructor instance_method is = absurd (let no : Instance ≡ Constructor = is in cc)
kind-constructor static_method is = absurd (let no : Static ≡ Constructor = is in cc)
kind-constructor constructor is = refl

-- a declaration stands in the class of its file
owner-some : (x declared : ViewDeclaration ℕ MemberKey) → Some x ≡ Some declared → x.owner ≡ x.key.unit
    → declared.owner ≡ declared.key.unit
owner-some x declared is same = subst (λ (d : ViewDeclaration ℕ MemberKey). d.owner ≡ d.key.unit) (some-same is) same

owned : (classes : Classes ℕ) (unit : ℕ × Source) (number : ℕ) (m : Member) (declared : ViewDeclaration ℕ MemberKey)
    → declaration_in classes unit (number, m) ≡ Some declared → declared.owner ≡ declared.key.unit
owned classes unit number (member.Field f) declared is = absurd cc
owned classes unit number (member.Method m) declared is = owner-some _ declared is refl
owned classes unit number (member.Ctor c) declared is = owner-some _ declared is refl

module _ (files : Files) (no_fault : HasNoFault files) (program : Program) (filled : IsFilled files program) where
  abbrev Declaration : Type 0
  Declaration = ViewDeclaration ℕ MemberKey

  record IsDeclared (id method : Id) : Type 0 where
    declared : Declaration
    stands : Contains (files_view files).declarations declared
    member_is : id_at files (numbered_member declared.key) ≡ id
    method_is : (ids_of files).method_id declared ≡ method

  decl-same : {a b : Id} → knowns.Decl a ≡ knowns.Decl b → a ≡ b
  decl-same is = cc

  -- what is known as a declaration is one of the files
  is-declared : (id method : Id) → get program.known id ≡ Some (knowns.Decl method) → IsDeclared id method
  is-declared id method known =
      let item = filled.numbered.only id (knowns.Decl method) known in
      let each = filled.numbered.each item.0 item.1.0 in
      by item.0 item.1.1 (each.1.0 ∙ sym each.1.1 ∙ ap (get program.known) item.1.1 ∙ known) where
        of-member : (key : MemberKey) (at : PlacedMember) → member_at files key ≡ Some at → (o : Option Declaration) → at.declared ≡ o
            → id_at files (numbered_member key) ≡ id → member_known files o ≡ knowns.Decl method → IsDeclared id method
        of-member key at placed None declared same is = absurd cc
        of-member key at placed (Some d) declared same is =
            let found = found-stands files key d (sym (placed-declared files no_fault key at placed) ∙ declared) in
            record {
              declared = d;
              stands = found.0;
              member_is = ap (λ k. id_at files (numbered_member k)) found.1 ∙ same;
              method_is = decl-same is;
            }

        by_member : (key : MemberKey) (o : Option PlacedMember) → member_at files key ≡ o → id_at files (numbered_member key) ≡ id
            → option_map (λ (at : PlacedMember). member_known files at.declared) o ≡ Some (knowns.Decl method) → IsDeclared id method
        by_member key None placed same is = absurd (none-some is)
        by_member key (Some at) placed same is = of-member key at placed at.declared refl same (some-same is)

        by_method : (o : Option Declaration) → option_map (λ (d : Declaration). knowns.Method (kind_of d.kind)) o
            ≡ Some (knowns.Decl method) → IsDeclared id method
        by_method None is = absurd (none-some is)
        by_method (Some d) is = absurd (let no : knowns.Method (kind_of d.kind) ≡ knowns.Decl method = some-same is in cc)

        by : (item : Numbered) → id_at files item ≡ id → known_of files item ≡ Some (knowns.Decl method) → IsDeclared id method
        by (numbered_class number) same is = absurd (let no : knowns.Class ≡ knowns.Decl method = some-same is in cc)
        by (numbered_member key) same is = by_member key (member_at files key) refl same is
        by (numbered_method key) same is = by_method (declaration_at (files_view files) key) is
        by (numbered_param key place) same is =
            absurd (let no : knowns.Param (id_at files (numbered_method key)) ≡ knowns.Decl method = some-same is in cc)

  class-same : {a b : ℕ} → numbered_class a ≡ numbered_class b → a ≡ b
  class-same is = cc

  -- it has the class of its file as owner
  owner-is : (declared : Declaration) → Contains (files_view files).declarations declared
      → owner_at program (id_at files (numbered_member declared.key)) ≡ Some (id_at files (numbered_class declared.owner))
  owner-is declared stands =
      let made = declaration-made files declared stands in
      let at = placed files (declared.key.unit, made.at.file) (declared.key.member, made.at.member) in
      let placed_at : member_at files declared.key ≡ Some at = member-found files declared.key made.at in
      let known = filled.numbered.each (numbered_member declared.key) (member-in_order files declared.key made.at) in
      let owner : declared.owner ≡ declared.key.unit
      = owned (classes_of (units files)) (declared.key.unit, made.at.file.unit) declared.key.member made.at.member declared made.made in
      ap owner_in (filled.cells (numbered_member declared.key) (member-in_order files declared.key made.at) known.0 known.1.0 slots.Owner
      ∙ (λ i. cond (has_slot (Some (member-kind known.0 at placed_at known.1.0 i)) slots.Owner)
      (option_and_then (cell_of_member files slots.Owner) (placed_at i)) None)
      ∙ has-owner at.declared)
      ∙ ap (λ number. Some (id_at files (numbered_class number))) (sym owner) where
        member-kind : (known : Known) (at : PlacedMember) → member_at files declared.key ≡ Some at
            → known_of files (numbered_member declared.key) ≡ Some known → known ≡ member_known files at.declared
        member-kind known at placed_at is = some-same (sym is
            ∙ ap (option_map (λ (at : PlacedMember). member_known files at.declared)) placed_at)

        has-owner : {value : Option Value} (o : Option Declaration) → cond (has_slot (Some (member_known files o)) slots.Owner) value None
            ≡ value
        has-owner None = refl
        has-owner (Some d) = refl

  -- the class of a declaration by the owner that the program has
  class-is : (class : ℕ) (file : File) → HasFile files class file → (declared : Declaration)
      → Contains (files_view files).declarations declared
      → owner_at program (id_at files (numbered_member declared.key)) ≡ Some (id_at files (numbered_class class))
      → declared.owner ≡ class
  class-is class file is declared stands owner =
      let made = declaration-made files declared stands in
      let own : declared.owner ≡ declared.key.unit
      = owned (classes_of (units files)) (declared.key.unit, made.at.file.unit) declared.key.member made.at.member declared made.made in
      class-same (numbers_apart.apart files (numbered_class declared.owner) (numbered_class class)
      (class-in_order files no_fault program filled declared.owner made.at.file (ap (slice_get files) own ∙ made.at.in_files))
      (class-in_order files no_fault program filled class file is)
      (some-same (sym (owner-is declared stands) ∙ owner)))

  module _ (class : ℕ) (file : File) (is : HasFile files class file) where
    abbrev class_id : Id
    class_id = id_at files (numbered_class class)

    method-kind : {a b : MethodKind} → knowns.Method a ≡ knowns.Method b → a ≡ b
    method-kind same = cc

    pub default-bare : (arity : ℕ) → IsByDefault (files_view files) class arity → bare_constructor program class_id ≡ None
    default-bare arity default = none-found (is_bare program class_id) (keys program.known) never where
      never : (id : Id) → ¬ (is_bare program class_id id ≡ true)
      never id passes =
          let parts = and_parts (is_plain program id) (list_any (is_living_decl_in program class_id id) (entries program.known)) passes in
          let known = of-constructor (get program.known id)
          (and_parts (is_constructor (get program.known id)) (is_empty (params_at program id)) parts.0).0 in
          let entry = some-passes (λ (e : Id × Known). get program.known e.0 ≡ Some e.1) (is_living_decl_in program class_id id)
          (entries program.known) (each_found id_cmp-total id_cmp-IsAntisymmetric program.known) parts.1 in
          let tests = and_parts (is_decl_of id entry.0.1 && living_at program entry.0.0)
          (option_map_or (same_id class_id) (owner_at program entry.0.0) false) entry.1.1 in
          let of = of-method id entry.0.1 (and_parts (is_decl_of id entry.0.1) (living_at program entry.0.0) tests.0).0 in
          let d = is-declared entry.0.0 id (entry.1.0 ∙ ap (λ k. Some k) of) in
          let owner = class-is class file is d.declared d.stands
          (ap (owner_at program) d.member_is ∙ of-owner class_id (owner_at program entry.0.0) tests.1) in
          let kind = kind-constructor d.declared.kind (method-kind (some-same
          (sym (method-known files no_fault program filled d.declared d.stands) ∙ ap (get program.known) d.method_is ∙ known))) in
          All-contains (λ (declared : Declaration). ¬ IsConstructor class declared) (files_view files).declarations d.declared
          default.none_declared d.stands (record { of_class = owner; is_constructor = kind })
