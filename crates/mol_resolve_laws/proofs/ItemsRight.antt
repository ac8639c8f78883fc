-- What is said of anything that has a number may stand in a program, and mentions what the program knows, each of the right kind.
use Rattle.std.proofs.Common.{◌≡◌, ℕ, ◌≤◌, true, map, Option, Some, None, option_map, Contains, slice_get, refl, sym, ◌∙◌, ap, subst, arith}
use Rattle.std.specs.List.{All}
use Rattle.std.specs.Option.{option_and_then}
use Rattle.std.proofs.lemmas.List.Elements.{All-contains}
use Rattle.jav_tree.specs.Printable.{IsPrintableMember}
use Rattle.jav_tree.specs.Widths.{member_width}
use Rattle.jav_tree.specs.declared.unit.Ctor.{Ctor}
use Rattle.jav_tree.specs.declared.unit.Member.{Member}
use Rattle.jav_tree.specs.declared.unit.Member.TheVariants as member
use Rattle.jav_tree.specs.declared.unit.Method.{Method}
use Rattle.jav_names.proofs.Lists.{stands-mapped}
use Rattle.jav_names.specs.UnitViews.{MemberKey, classes_of, declaration_in}
use Rattle.jav_names.specs.Views.{ViewDeclaration}
use Rattle.mol_base.specs.Limits.{max_items}
use Rattle.mol_base.specs.declared.ident.Id.{Id}
use Rattle.mol_resolve_rules.proofs.FilesStand.{StandsAt, some-same, made-found}
use Rattle.mol_resolve_rules.proofs.Stands.{in_place}
use Rattle.mol_resolve_rules.specs.Expected.{kind_of, member_known, known_of, cell_of_class, cell_of_member, cell_of_method, value_of}
use Rattle.mol_resolve_rules.specs.Files.{File, Files, HasFile, units, files_view, declaration_at, PlacedMember, placed, member_at}
use Rattle.mol_resolve_rules.specs.Numbering.{Numbered, numbered_class, numbered_member, numbered_method, numbered_param, in_order, id_at}
use Rattle.mol_resolve_rules.specs.ReadAs.{HasNoFault}
use Rattle.mol_table_rules.specs.Program.{Program}
use Rattle.mol_values_types.specs.Slots.{has_slot}
use Rattle.mol_values_types.specs.declared.cell.Slot.{Slot}
use Rattle.mol_values_types.specs.declared.known.Known.{Known}
use Rattle.mol_values_types.specs.declared.known.Known.TheVariants as knowns
use Rattle.mol_resolve_laws.proofs.CellsRight.{SaysRight, says-none, within-tallest, class-cell, field-cell, method-decl-cell, constructor-decl-cell}
use Rattle.mol_resolve_laws.proofs.Filled.{IsFilled}
use Rattle.mol_resolve_laws.proofs.Gives.{none-some}
use Rattle.mol_resolve_laws.proofs.MethodCellsRight.{method-cell, constructor-cell}
use Rattle.mol_resolve_laws.proofs.MethodItems.{IsInMethod, method-item}
use Rattle.mol_resolve_laws.proofs.ReaderRight.{fits, tree-of}
use Rattle.mol_resolve_laws.specs.Laws.{IsTree}

abbrev Declaration : Type 0
Declaration = ViewDeclaration ℕ MemberKey

module _ (files : Files) where
  -- a member that is there stands there
  pub found-member : (key : MemberKey) (at : PlacedMember) → member_at files key ≡ Some at
      → (s : StandsAt files key) × (at ≡ placed files (key.unit, s.file) (key.member, s.member))
  found-member key at is = by (slice_get files key.unit) refl is where
    by_member : (file : File) → HasFile files key.unit file → (o : Option Member) → slice_get file.unit.class.members key.member ≡ o
        → option_map (λ (m : Member). placed files (key.unit, file) (key.member, m)) o ≡ Some at
        → (s : StandsAt files key) × (at ≡ placed files (key.unit, s.file) (key.member, s.member))
    by_member file in_files None none is = absurd (none-some is)
    by_member file in_files (Some m) in_class is =
        (record { file = file; in_files = in_files; member = m; in_class = in_class }, sym (some-same is))

    by : (o : Option File) → slice_get files key.unit ≡ o
        → option_and_then (λ (file : File). option_map (λ (m : Member). placed files (key.unit, file) (key.member, m))
        (slice_get file.unit.class.members key.member)) o ≡ Some at
        → (s : StandsAt files key) × (at ≡ placed files (key.unit, s.file) (key.member, s.member))
    by None none is = absurd (none-some is)
    by (Some file) in_files is = by_member file in_files (slice_get file.unit.class.members key.member) refl is

  -- what a member is as a declaration
  pub declared-in : (key : MemberKey) (s : StandsAt files key) (m : Member) → s.member ≡ m
      → declaration_at (files_view files) key ≡ declaration_in (classes_of (units files)) (key.unit, s.file.unit) (key.member, m)
  declared-in key s m is = made-found files key s
      ∙ ap (λ m. declaration_in (classes_of (units files)) (key.unit, s.file.unit) (key.member, m)) is

module _ (files : Files) (no_fault : HasNoFault files) (program : Program) (filled : IsFilled files program)
    (trees : All IsTree files) where
  module _ (owner : Id) (key : MemberKey) (s : StandsAt files key) where
    pub printable-member : IsPrintableMember s.member
    printable-member = All-contains IsPrintableMember s.file.unit.class.members s.member
        (tree-of files no_fault program filled trees owner key.unit s.file s.in_files).printable.class.members
        (in_place s.file.unit.class.members key.member s.member s.in_class)

    pub narrow-member : member_width s.member ≤ max_items
    narrow-member =
        let widest = within-tallest (map member_width s.file.unit.class.members) (member_width s.member)
        (stands-mapped member_width s.file.unit.class.members s.member
        (in_place s.file.unit.class.members key.member s.member s.in_class)) in
        let narrow = (tree-of files no_fault program filled trees owner key.unit s.file s.in_files).narrow in
        omega (arith, widest, narrow)

  -- ---- classes

  class-says : (number : ℕ) (slot : Slot) → SaysRight (fits program.known (id_at files (numbered_class number))) knowns.Class
      (value_of files (numbered_class number) slot)
  class-says number slot = by (slice_get files number) refl where
    owner : Id
    owner = id_at files (numbered_class number)

    by : (o : Option File) → slice_get files number ≡ o
        → SaysRight (fits program.known owner) knowns.Class (option_and_then (cell_of_class files number slot) o)
    by None none = says-none (fits program.known owner) knowns.Class
    by (Some file) is = class-cell files no_fault program filled trees owner number file is slot

  -- ---- members

  module _ (key : MemberKey) (known : Known) (is : known_of files (numbered_member key) ≡ Some known) (slot : Slot)
      (has : has_slot (Some known) slot ≡ true) where
    abbrev owner : Id
    owner = id_at files (numbered_member key)

    abbrev Says : Known → PlacedMember → Type 0
    Says known at = SaysRight (fits program.known owner) known (cell_of_member files slot at)

    declared-method : (s : StandsAt files key) (m : Method) → s.member ≡ member.Method m → (method : Id) → known ≡ knowns.Decl method
        → Says known (placed files (key.unit, s.file) (key.member, member.Method m))
    declared-method s m same method known-is =
        subst (λ k. Says k (placed files (key.unit, s.file) (key.member, member.Method m))) (sym known-is)
        (method-decl-cell files no_fault program filled trees owner key s m (subst IsPrintableMember same (printable-member owner key s))
        (subst (λ m. member_width m ≤ max_items) same (narrow-member owner key s)) method slot
        (subst (λ k. has_slot (Some k) slot ≡ true) known-is has))

    declared-constructor : (s : StandsAt files key) (c : Ctor) → s.member ≡ member.Ctor c → (method : Id) → known ≡ knowns.Decl method
        → Says known (placed files (key.unit, s.file) (key.member, member.Ctor c))
    declared-constructor s c same method known-is =
        subst (λ k. Says k (placed files (key.unit, s.file) (key.member, member.Ctor c))) (sym known-is)
        (constructor-decl-cell files no_fault program filled trees owner key s c
        (subst IsPrintableMember same (printable-member owner key s))
        (subst (λ m. member_width m ≤ max_items) same (narrow-member owner key s)) method slot
        (subst (λ k. has_slot (Some k) slot ≡ true) known-is has))

    of-member : (s : StandsAt files key) → known ≡ member_known files (declaration_at (files_view files) key) → (m : Member) → s.member ≡ m
        → Says known (placed files (key.unit, s.file) (key.member, m))
    of-member s known-is (member.Field f) same =
        subst (λ k. Says k (placed files (key.unit, s.file) (key.member, member.Field f)))
        (sym (known-is ∙ ap (member_known files) (declared-in files key s (member.Field f) same)))
        (field-cell files no_fault program filled trees owner key s f (subst IsPrintableMember same (printable-member owner key s))
        (subst (λ m. member_width m ≤ max_items) same (narrow-member owner key s)) slot)
    of-member s known-is (member.Method m) same =
        declared-method s m same _ (known-is ∙ ap (member_known files) (declared-in files key s (member.Method m) same))
    of-member s known-is (member.Ctor c) same =
        declared-constructor s c same _ (known-is ∙ ap (member_known files) (declared-in files key s (member.Ctor c) same))

    member-says : SaysRight (fits program.known owner) known (value_of files (numbered_member key) slot)
    member-says = by (member_at files key) refl where
      by : (o : Option PlacedMember) → member_at files key ≡ o
          → SaysRight (fits program.known owner) known (option_and_then (cell_of_member files slot) o)
      by None none = says-none (fits program.known owner) known
      by (Some at) placed-is =
          let found = found-member files key at placed-is in
          let known-is : known ≡ member_known files at.declared
          = some-same (sym is ∙ ap (option_map (λ (at : PlacedMember). member_known files at.declared)) placed-is) in
          subst (Says known) (sym found.1)
          (of-member found.0 (known-is ∙ ap (λ (at : PlacedMember). member_known files at.declared) found.1) found.0.member refl)

  -- ---- methods

  module _ (key : MemberKey) (stands : Contains (in_order files) (numbered_method key)) (slot : Slot) where
    abbrev own : Id
    own = id_at files (numbered_method key)

    abbrev method : IsInMethod files key (numbered_method key)
    method = method-item files key stands

    abbrev MethodSays : PlacedMember → Type 0
    MethodSays at = SaysRight (fits program.known own) (knowns.Method (kind_of method.declared.kind)) (cell_of_method files slot at)

    of-method : (s : StandsAt files key) → member_at files key ≡ Some (placed files (key.unit, s.file) (key.member, s.member))
        → (m : Member)
        → s.member ≡ m → MethodSays (placed files (key.unit, s.file) (key.member, m))
    of-method s placed-is (member.Field f) same =
        absurd (none-some (sym (declared-in files key s (member.Field f) same) ∙ method.found))
    of-method s placed-is (member.Method m) same =
        method-cell files no_fault program filled trees key s method m (subst IsPrintableMember same (printable-member own key s))
        (subst (λ m. member_width m ≤ max_items) same (narrow-member own key s))
        (placed-is ∙ ap (λ m. Some (placed files (key.unit, s.file) (key.member, m))) same)
        (ap (λ (d : Declaration). d.kind) (some-same (sym method.found ∙ declared-in files key s (member.Method m) same))) slot
    of-method s placed-is (member.Ctor c) same =
        let made = some-same (sym method.found ∙ declared-in files key s (member.Ctor c) same) in
        constructor-cell files no_fault program filled trees key s method c (subst IsPrintableMember same (printable-member own key s))
        (subst (λ m. member_width m ≤ max_items) same (narrow-member own key s))
        (placed-is ∙ ap (λ m. Some (placed files (key.unit, s.file) (key.member, m))) same)
        (ap (λ (d : Declaration). d.kind) made) (ap (λ (d : Declaration). d.name) made) slot

    method-says : SaysRight (fits program.known own) (knowns.Method (kind_of method.declared.kind))
        (value_of files (numbered_method key) slot)
    method-says = by (member_at files key) refl where
      by : (o : Option PlacedMember) → member_at files key ≡ o
          → SaysRight (fits program.known own) (knowns.Method (kind_of method.declared.kind))
          (option_and_then (cell_of_method files slot) o)
      by None none = says-none (fits program.known own) (knowns.Method (kind_of method.declared.kind))
      by (Some at) placed-is =
          let found = found-member files key at placed-is in
          subst MethodSays (sym found.1)
          (of-method found.0 (placed-is ∙ ap (λ at. Some at) found.1) found.0.member refl)

  -- ---- all items

  pub item-says : (item : Numbered) → Contains (in_order files) item → (known : Known) → known_of files item ≡ Some known → (slot : Slot)
      → has_slot (Some known) slot ≡ true → SaysRight (fits program.known (id_at files item)) known (value_of files item slot)
  item-says (numbered_class number) stands known is slot has =
      subst (λ k. SaysRight (fits program.known (id_at files (numbered_class number))) k (value_of files (numbered_class number) slot))
      (some-same is) (class-says number slot)
  item-says (numbered_member key) stands known is slot has = member-says key known is slot has
  item-says (numbered_method key) stands known is slot has =
      subst (λ k. SaysRight (fits program.known (id_at files (numbered_method key))) k (value_of files (numbered_method key) slot))
      (some-same (sym (ap (option_map (λ (d : Declaration). knowns.Method (kind_of d.kind))) (method-item files key stands).found) ∙ is))
      (method-says key stands slot)
  item-says (numbered_param key place) stands known is slot has =
      says-none (fits program.known (id_at files (numbered_param key place))) known
