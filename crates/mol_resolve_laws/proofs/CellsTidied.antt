-- What source files without a fault say stays as it is when their program is tidied.
use Rattle.std.proofs.Common.{◌≡◌, ℕ, Bool, true, false, cond, Option, Some, None, option_map, slice_get, refl, sym, ◌∙◌, ap, subst}
use Rattle.std.specs.List.{All}
use Rattle.std.specs.FinMap.{get, same_map}
use Rattle.std.specs.Option.{option_and_then}
use Rattle.jav_tree.specs.declared.stmt.Block.{Block}
use Rattle.jav_tree.specs.declared.types.TypeName.{TypeName}
use Rattle.jav_tree.specs.declared.unit.Member.{Member}
use Rattle.jav_tree.specs.declared.unit.Member.TheVariants as member
use Rattle.jav_names.specs.UnitViews.{MemberKey}
use Rattle.jav_names.specs.Views.{ViewDeclaration}
use Rattle.mol_base.specs.declared.ident.Id.{Id}
use Rattle.mol_resolve_rules.proofs.FilesStand.{some-same}
use Rattle.mol_resolve_rules.specs.Expected.{super_cell, cell_of_class, body_cell, value_cell, method_cell, cell_of_member, result_cell, cell_of_method, value_of}
use Rattle.mol_resolve_rules.specs.Files.{File, Files, HasFile, PlacedMember, placed, member_at}
use Rattle.mol_resolve_rules.specs.Numbering.{Numbered, numbered_class, numbered_member, numbered_method, numbered_param}
use Rattle.mol_resolve_rules.specs.Outcomes.{Outcome}
use Rattle.mol_resolve_rules.specs.ReadAs.{HasNoFault}
use Rattle.mol_resolve_rules.specs.ReadFiles.{member_reader, read_field, read_block}
use Rattle.mol_resolve_rules.specs.ReadStatements.{read_initial, read_body}
use Rattle.mol_resolve_rules.specs.ReadTypes.{ReadType, read_type}
use Rattle.mol_table_rules.proofs.CellOrder.{cell_cmp-total, cell_cmp-IsAntisymmetric}
use Rattle.mol_table_rules.proofs.TidyRules.{tidied-at}
use Rattle.mol_table_rules.specs.Program.{Program, value_at, params_at}
use Rattle.mol_table_rules.specs.Tidy.{tidied, tidy, bare_constructor}
use Rattle.mol_values_types.specs.Slots.{has_slot}
use Rattle.mol_values_types.specs.declared.cell.Cell.{Cell}
use Rattle.mol_values_types.specs.declared.cell.Slot.{Slot}
use Rattle.mol_values_types.specs.declared.cell.Slot.TheVariants as slots
use Rattle.mol_values_types.specs.declared.iblock.IBody.{IBody}
use Rattle.mol_values_types.specs.declared.iexpr.IExpr.{IExpr}
use Rattle.mol_values_types.specs.declared.known.Known.{Known}
use Rattle.mol_values_types.specs.declared.value.Value.{Value}
use Rattle.mol_values_types.specs.declared.value.Value.TheVariants as values
use Rattle.mol_resolve_laws.proofs.BlocksTidied.{MaybeTidied, BlockTidied}
use Rattle.mol_resolve_laws.proofs.Filled.{IsFilled}
use Rattle.mol_resolve_laws.proofs.Gives.{Gives, none-some, gives-both, gives-fine, gives-mapped}
use Rattle.mol_resolve_laws.proofs.ReaderTidied.{member-tidied}
use Rattle.mol_resolve_laws.proofs.StatementsTidied.{gives-initial, gives-body}
use Rattle.mol_resolve_laws.proofs.TypesRight.{IsReadRightly, type-gives}
use Rattle.mol_resolve_laws.specs.Laws.{IsTree}

module _ (files : Files) (no_fault : HasNoFault files) (program : Program) (filled : IsFilled files program)
    (trees : All IsTree files) where
  -- a value that there may be stays as it is
  abbrev Stays : Option Value → Type 0
  Stays value = option_map (tidied program) value ≡ value

  -- whatever it is made of
  made-stays : {A : Type 0} (make : A → Value) → ((a : A) → tidied program (make a) ≡ make a) → (o : Option A)
      → Stays (option_map make o)
  made-stays make same None = refl
  made-stays make same (Some a) = ap (λ v. Some v) (same a)

  gives-stays : {A : Type 0} (P : A → Type 0) (make : A → Value) → ((a : A) → P a → tidied program (make a) ≡ make a) → (o : Outcome A)
      → Gives P o → Stays (option_map make o.value)
  gives-stays {A} P make same o gives = by o.value refl where
    by : (v : Option A) → o.value ≡ v → Stays (option_map make v)
    by None none = refl
    by (Some a) some = ap (λ v. Some v) (same a (gives.each a some))

  -- ---- classes

  super-stays : (file : ℕ × File) (parent : Option TypeName) → Stays (super_cell files file parent)
  super-stays file None = refl
  super-stays file (Some name) = made-stays (λ (read : ReadType ℕ). values.Super (Some read.tree)) (λ read. refl) _

  class-stays : (number : ℕ) (slot : Slot) (file : File) → Stays (cell_of_class files number slot file)
  class-stays number slots.Live file = refl
  class-stays number slots.Package file = refl
  class-stays number slots.Name file = refl
  class-stays number slots.Super file = super-stays (number, file) file.unit.class.parent
  class-stays number slots.Words file = refl
  class-stays number slots.Notes file = refl
  class-stays number slots.Owner file = refl
  class-stays number slots.Method file = refl
  class-stays number slots.Result file = refl
  class-stays number slots.Params file = refl
  class-stays number slots.Kind file = refl
  class-stays number slots.Fixed file = refl
  class-stays number slots.Body file = refl
  class-stays number slots.Value file = refl

  -- ---- members

  method-stays : (declared : Option (ViewDeclaration ℕ MemberKey)) → Stays (method_cell files declared)
  method-stays None = refl
  method-stays (Some declared) = refl

  module _ (at : PlacedMember) (is : HasFile files at.number at.file) where
    abbrev MaybeBody : Option IBody → Type 0
    MaybeBody body = tidied program (values.Body body) ≡ values.Body body

    block-gives : (block : Option Block) → Gives MaybeBody (read_block (member_reader files at) block)
    block-gives None = gives-fine MaybeBody None refl
    block-gives (Some block) =
        let tidy = member-tidied files no_fault program filled trees at is in
        gives-mapped (λ (body : IBody). BlockTidied (params_at program) (bare_constructor program) body.block) MaybeBody
        (λ body. Some body) (read_body (member_reader files at) block)
        (gives-body (params_at program) (bare_constructor program) (member_reader files at) tidy block)
        (λ body same. λ i. values.Body (Some (record { block = same i })))

    body-stays : (m : Member) → Stays (body_cell (member_reader files at) m)
    body-stays (member.Field f) = refl
    body-stays (member.Method m) = gives-stays MaybeBody (λ body. values.Body body) (λ body same. same)
        (read_block (member_reader files at) m.block) (block-gives m.block)
    body-stays (member.Ctor c) =
        let tidy = member-tidied files no_fault program filled trees at is in
        gives-stays (λ (body : IBody). BlockTidied (params_at program) (bare_constructor program) body.block)
        (λ body. values.Body (Some body)) (λ body same. λ i. values.Body (Some (record { block = same i })))
        (read_body (member_reader files at) c.block)
        (gives-body (params_at program) (bare_constructor program) (member_reader files at) tidy c.block)

    value-stays : (m : Member) → Stays (value_cell (member_reader files at) m)
    value-stays (member.Field f) =
        let tidy = member-tidied files no_fault program filled trees at is in
        gives-stays (λ (parts : ReadType ℕ × Option IExpr).
        IsReadRightly (λ mention. true) (member_reader files at) tidy.rightly f.ty parts.0
        × MaybeTidied (params_at program) (bare_constructor program) parts.1)
        (λ (parts : ReadType ℕ × Option IExpr). values.Value parts.0.tree parts.1)
        (λ parts same. ap (λ init. values.Value parts.0.tree init) same.1) (read_field (member_reader files at) f)
        (gives-both (IsReadRightly (λ mention. true) (member_reader files at) tidy.rightly f.ty)
        (MaybeTidied (params_at program) (bare_constructor program)) (read_type (member_reader files at) f.at f.ty)
        (read_initial (member_reader files at) f.init)
        (type-gives (λ mention. true) (member_reader files at) tidy.rightly f.at f.ty)
        (gives-initial (params_at program) (bare_constructor program) (member_reader files at) tidy f.init))
    value-stays (member.Method m) = refl
    value-stays (member.Ctor c) = refl

    member-stays : (slot : Slot) → Stays (cell_of_member files slot at)
    member-stays slots.Live = refl
    member-stays slots.Package = refl
    member-stays slots.Name = refl
    member-stays slots.Super = refl
    member-stays slots.Words = refl
    member-stays slots.Notes = refl
    member-stays slots.Owner = refl
    member-stays slots.Method = method-stays at.declared
    member-stays slots.Result = refl
    member-stays slots.Params = refl
    member-stays slots.Kind = refl
    member-stays slots.Fixed = refl
    member-stays slots.Body = body-stays at.member
    member-stays slots.Value = value-stays at.member

  -- ---- methods

  result-stays : (at : PlacedMember) (m : Member) → Stays (result_cell (member_reader files at) m)
  result-stays at (member.Field f) = refl
  result-stays at (member.Method m) = made-stays (λ (read : ReadType ℕ). values.Result read.tree) (λ read. refl) _
  result-stays at (member.Ctor c) = refl

  in-method-stays : (at : PlacedMember) (slot : Slot) → Stays (cell_of_method files slot at)
  in-method-stays at slots.Live = refl
  in-method-stays at slots.Package = refl
  in-method-stays at slots.Name = refl
  in-method-stays at slots.Super = refl
  in-method-stays at slots.Words = refl
  in-method-stays at slots.Notes = refl
  in-method-stays at slots.Owner = refl
  in-method-stays at slots.Method = refl
  in-method-stays at slots.Result = result-stays at at.member
  in-method-stays at slots.Params = made-stays _ (λ read. refl) _
  in-method-stays at slots.Kind = made-stays _ (λ declared. refl) at.declared
  in-method-stays at slots.Fixed = made-stays _ (λ declared. refl) at.declared
  in-method-stays at slots.Body = refl
  in-method-stays at slots.Value = refl

  -- ---- all cells

  all-stay : {A : Type 0} (make : A → Option Value) (o : Option A) → ((a : A) → o ≡ Some a → Stays (make a))
      → Stays (option_and_then make o)
  all-stay make None same = refl
  all-stay make (Some a) same = same a refl

  -- a member that is found stands in its file
  in-file : (key : MemberKey) (at : PlacedMember) → member_at files key ≡ Some at → HasFile files at.number at.file
  in-file key at is = by (slice_get files key.unit) refl is where
    by_member : (file : File) → slice_get files key.unit ≡ Some file → (o : Option Member)
        → option_map (λ (m : Member). placed files (key.unit, file) (key.member, m)) o ≡ Some at → HasFile files at.number at.file
    by_member file there None is = absurd (none-some is)
    by_member file there (Some m) is = subst (λ (p : PlacedMember). HasFile files p.number p.file) (some-same is) there

    by : (o : Option File) → slice_get files key.unit ≡ o
        → option_and_then (λ (file : File). option_map (λ (m : Member). placed files (key.unit, file) (key.member, m))
        (slice_get file.unit.class.members key.member)) o ≡ Some at
        → HasFile files at.number at.file
    by None there is = absurd (none-some is)
    by (Some file) there is = by_member file there (slice_get file.unit.class.members key.member) is

  said-stays : (item : Numbered) (slot : Slot) → Stays (value_of files item slot)
  said-stays (numbered_class number) slot = all-stay (cell_of_class files number slot) (slice_get files number)
      (λ file is. class-stays number slot file)
  said-stays (numbered_member key) slot = all-stay (cell_of_member files slot) (member_at files key)
      (λ at is. member-stays at (in-file key at is) slot)
  said-stays (numbered_method key) slot = all-stay (cell_of_method files slot) (member_at files key)
      (λ at is. in-method-stays at slot)
  said-stays (numbered_param key place) slot = refl

  cell-stays : (id : Id) (slot : Slot) → Stays (value_at program id slot)
  cell-stays id slot = by (get program.known id) refl where
    held : (b : Bool) (value : Option Value) → Stays value → Stays (cond b value None)
    held true value same = same
    held false value same = refl

    by : (o : Option Known) → get program.known id ≡ o → Stays (value_at program id slot)
    by None none = ap (option_map (tidied program)) (filled.bare id none slot) ∙ sym (filled.bare id none slot)
    by (Some known) is =
        let item = filled.numbered.only id known is in
        let each = filled.numbered.each item.0 item.1.0 in
        let cell = ap (λ i. value_at program i slot) (sym item.1.1)
        ∙ filled.cells item.0 item.1.0 each.0 each.1.0 slot in
        ap (option_map (tidied program)) cell
        ∙ held (has_slot (Some each.0) slot) (value_of files item.0 slot) (said-stays item.0 slot) ∙ sym cell

  pub tidied-program : tidy program ≡ program
  tidied-program =
      let same : (tidy program).cells ≡ program.cells = same_map cell_cmp-total cell_cmp-IsAntisymmetric _ _
      (λ (at : Cell). tidied-at program at ∙ cell-stays at.id at.slot) in
      λ i. record { cells = same i; known = program.known }
