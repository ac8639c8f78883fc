-- Each cell of the program of files holds what may stand there, and mentions what the program knows, each of the right kind.
use Rattle.std.proofs.Common.{◌≡◌, ◌⊎◌, inl, inr, ℕ, ◌≤◌, max, Bool, true, ◌&&◌, List, [], ◌∷◌, Option, Some, None, option_map, Contains, refl, sym, ◌∙◌, ap, subst, arith, true≢false}
use Rattle.std.proofs.lemmas.Bool.{and_from, and_parts, or_right, or_left}
use Rattle.std.specs.List.{All}
use Rattle.std.specs.Option.{option_map_or}
use Rattle.jav_tree.specs.Height.{tallest, tallest_maybe}
use Rattle.jav_tree.specs.Printable as printable
use Rattle.jav_tree.specs.Printable.{IsPrintableField, IsPrintableMethod, IsPrintableConstructor, IsPrintableMember, is_parent}
use Rattle.jav_tree.specs.PrintableStatements.{block_uses}
use Rattle.jav_tree.specs.Widths.{member_width, block_width}
use Rattle.jav_tree.specs.declared.stmt.Block.{Block}
use Rattle.jav_tree.specs.declared.types.TypeName.{TypeName}
use Rattle.jav_tree.specs.declared.unit.Ctor.{Ctor}
use Rattle.jav_tree.specs.declared.unit.Field.{Field}
use Rattle.jav_tree.specs.declared.unit.Member.{Member}
use Rattle.jav_tree.specs.declared.unit.Member.TheVariants as member
use Rattle.jav_tree.specs.declared.unit.Method.{Method}
use Rattle.jav_names.proofs.Lists.{stands_where, stands_nowhere}
use Rattle.jav_names.specs.DottedNames.{Name}
use Rattle.jav_names.specs.UnitViews.{MemberKey}
use Rattle.jav_names.specs.Views.{ViewDeclaration}
use Rattle.mol_base.specs.Limits.{max_items}
use Rattle.mol_base.specs.Modifiers.{class_words, field_words}
use Rattle.mol_base.specs.declared.ident.Id.{Id}
use Rattle.mol_resolve_rules.proofs.FilesStand.{StandsAt, some-same, found-stands}
use Rattle.mol_resolve_rules.specs.Expected.{super_cell, cell_of_class, method_cell, notes_of, cell_of_member}
use Rattle.mol_resolve_rules.specs.Files.{File, Files, HasFile, files_view, declaration_at, PlacedMember, placed}
use Rattle.mol_resolve_rules.specs.Numbering.{numbered_class, id_at, ids_of}
use Rattle.mol_resolve_rules.specs.Outcomes.{Outcome}
use Rattle.mol_resolve_rules.specs.ReadAs.{HasNoFault}
use Rattle.mol_resolve_rules.specs.ReadFiles.{file_reader, member_reader, read_field, read_block}
use Rattle.mol_resolve_rules.specs.ReadStatements.{read_initial, read_body}
use Rattle.mol_resolve_rules.specs.ReadTypes.{ReadType, read_type}
use Rattle.mol_table_rules.specs.Forms.{is_formed}
use Rattle.mol_table_rules.specs.Mentions.{Mention, a_class, a_method, type_mentions, maybe_mentions, body_mentions, mentions}
use Rattle.mol_table_rules.specs.Program.{Program}
use Rattle.mol_table_rules.specs.Rules.{fills}
use Rattle.mol_table_rules.specs.StatementForms.{is_body}
use Rattle.mol_values_types.specs.TokenForms.{are_comments, is_empty}
use Rattle.mol_table_rules.specs.TypeForms.{is_class, dimensions}
use Rattle.mol_values_types.specs.Slots.{has_slot}
use Rattle.mol_values_types.specs.declared.cell.Slot.{Slot}
use Rattle.mol_values_types.specs.declared.cell.Slot.TheVariants as slots
use Rattle.mol_values_types.specs.declared.iblock.IBody.{IBody}
use Rattle.mol_values_types.specs.declared.iexpr.IExpr.{IExpr}
use Rattle.mol_values_types.specs.declared.itype.IType.{IType}
use Rattle.mol_values_types.specs.declared.known.Known.{Known}
use Rattle.mol_values_types.specs.declared.known.Known.TheVariants as knowns
use Rattle.mol_values_types.specs.declared.value.Value.{Value}
use Rattle.mol_values_types.specs.declared.words.Notes.{Notes}
use Rattle.mol_values_types.specs.declared.value.Value.TheVariants as values
use Rattle.mol_resolve_laws.proofs.BlocksRight.{MaybeRight, BlockRight}
use Rattle.mol_resolve_laws.proofs.ExpressionsRight.{type-within, typed}
use Rattle.mol_resolve_laws.proofs.Filled.{IsFilled}
use Rattle.mol_resolve_laws.proofs.Gives.{none-some, Gives, gives-mapped, gives-both}
use Rattle.mol_resolve_laws.proofs.ReaderRight.{fits, class-known, method-known, tree-of, file-right, member-right}
use Rattle.mol_resolve_laws.proofs.Right.{Passes, Takes, ReadsRightly, passes-both, passes-named}
use Rattle.mol_resolve_laws.proofs.StatementsRight.{gives-initial, gives-body}
use Rattle.mol_resolve_laws.proofs.TypesRight.{is_named, is_outside, is_own, IsReadRightly, type-gives}
use Rattle.mol_resolve_laws.proofs.WordsRight.{words-right, method-words-right, constructor-words-right}
use Rattle.mol_resolve_laws.specs.Laws.{IsTree}

-- ---- values of cells

module _ (test : Mention → Bool) where
  -- the value has the form of a cell of what is known so, and what it mentions passes the test
  pub record CellRight (known : Known) (value : Value) : Type 0 where
    pub formed : is_formed known value ≡ true
    pub mentions : Passes test (mentions value)

  -- so does the value that is said, if one is
  abbrev pub SaysRight : Known → Option Value → Type 0
  SaysRight known said = (value : Value) → said ≡ Some value → CellRight known value

  pub says-none : (known : Known) → SaysRight known None
  says-none known value is = absurd (none-some is)

  pub says : (known : Known) (v : Value) → is_formed known v ≡ true → Passes test (mentions v) → SaysRight known (Some v)
  says known v formed passes value is = subst (CellRight known) (some-same is) (record { formed = formed; mentions = passes })

  pub says-made : {A : Type 0} (known : Known) (P : A → Type 0) (make : A → Value) (o : Outcome A) → Gives P o
      → ((a : A) → P a → CellRight known (make a)) → SaysRight known (option_map make o.value)
  says-made {A} known P make o gives holds value is = by o.value refl is where
    by : (v : Option A) → o.value ≡ v → option_map make v ≡ Some value → CellRight known value
    by None none is = absurd (none-some is)
    by (Some a) some is = subst (CellRight known) (some-same is) (holds a (gives.each a some))

pub within-tallest : (xs : List ℕ) (x : ℕ) → Contains xs x → x ≤ tallest xs
within-tallest [] x stands = absurd (stands_nowhere x stands)
within-tallest (y ∷ xs) x stands = by (stands_where y x xs stands) (within-tallest xs x) where
  by : (y ≡ x) ⊎ Contains xs x → (Contains xs x → x ≤ tallest xs) → x ≤ max y (tallest xs)
  by (inl same) more = omega (arith, same)
  by (inr later) more = omega (arith, more later)

-- ---- classes and members

module _ (files : Files) (no_fault : HasNoFault files) (program : Program) (filled : IsFilled files program) (trees : All IsTree files)
    (owner : Id) where
  abbrev test : Mention → Bool
  test = fits program.known owner

  takes-class : (number : ℕ) (file : File) → HasFile files number file → Takes test a_class (id_at files (numbered_class number))
  takes-class number file is = ap (λ k. fills owner a_class k) (class-known files no_fault program filled number file is)

  class-type : (tree : IType) → is_named tree ≡ true → dimensions tree ≡ 0 → (is_outside tree ≡ true) ⊎ (is_own tree ≡ true)
      → is_class tree ≡ true
  class-type tree named flat (inl outside) = or_right (is_own tree) _
      (and_from _ _ outside (and_from _ _ named (type-within tree 0 flat (omega arith))))
  class-type tree named flat (inr own) = or_left _ _ own

  own-or-outside : {A : Type 0} {a b : Bool} → (a ≡ true) ⊎ ((b ≡ true) × A) → (a ≡ true) ⊎ (b ≡ true)
  own-or-outside (inl is) = inl is
  own-or-outside (inr is) = inr is.0

  super-right : (number : ℕ) (file : File) → HasFile files number file → (parent : Option TypeName) → is_parent parent ≡ true
      → SaysRight test knowns.Class (super_cell files (number, file) parent)
  super-right number file is None parent = says test knowns.Class (values.Super None) refl refl
  super-right number file is (Some name) parent =
      let right = file-right files no_fault program filled trees owner number file is in
      says-made test knowns.Class (IsReadRightly test (file_reader files (number, file)) right name)
      (λ (read : ReadType ℕ). values.Super (Some read.tree)) (read_type (file_reader files (number, file)) 0 name)
      (type-gives test (file_reader files (number, file)) right 0 name)
      (λ read r. let class = r.as_written.class parent in record {
        formed = class-type read.tree class.0 class.1 (own-or-outside class.2);
        mentions = r.as_written.mentions;
      })

  pub class-cell : (number : ℕ) (file : File) → HasFile files number file → (slot : Slot)
      → SaysRight test knowns.Class (cell_of_class files number slot file)
  class-cell number file is slots.Live = says test knowns.Class (values.Live true) refl refl
  class-cell number file is slots.Package = says test knowns.Class (values.Package file.unit.«package»)
      (tree-of files no_fault program filled trees owner number file is).printable.packaged refl
  class-cell number file is slots.Name = says test knowns.Class (values.Name file.unit.class.name)
      (tree-of files no_fault program filled trees owner number file is).printable.class.named refl
  class-cell number file is slots.Super = super-right number file is file.unit.class.parent
      (tree-of files no_fault program filled trees owner number file is).printable.class.parent
  class-cell number file is slots.Words =
      let c = (tree-of files no_fault program filled trees owner number file is).printable.class in
      says test knowns.Class (values.Words (record { texts = file.unit.class.words }))
      (words-right class_words file.unit.class.words c.allowed c.ordered) refl
  class-cell number file is slots.Notes =
      let p = (tree-of files no_fault program filled trees owner number file is).printable in
      let own = and_parts _ _ p.class.comments in
      says test knowns.Class (values.Notes (record { front = file.unit.class.front; head = file.unit.head; tail = file.unit.class.tail }))
      (and_from _ _ (and_from _ _ own.0 p.comments) own.1) refl
  class-cell number file is slots.Owner = says-none test knowns.Class
  class-cell number file is slots.Method = says-none test knowns.Class
  class-cell number file is slots.Result = says-none test knowns.Class
  class-cell number file is slots.Params = says-none test knowns.Class
  class-cell number file is slots.Kind = says-none test knowns.Class
  class-cell number file is slots.Fixed = says-none test knowns.Class
  class-cell number file is slots.Body = says-none test knowns.Class
  class-cell number file is slots.Value = says-none test knowns.Class

  -- ---- members

  module _ (key : MemberKey) (s : StandsAt files key) where
    -- a member in this place
    abbrev pub at : Member → PlacedMember
    at m = placed files (key.unit, s.file) (key.member, m)

    pub right-at : (m : Member) → ReadsRightly test (member_reader files (at m))
    right-at m = member-right files no_fault program filled trees owner (at m) s.in_files

    owner-right : (known : Known) → SaysRight test known (Some (values.Owner (id_at files (numbered_class key.unit))))
    owner-right known = says test known (values.Owner (id_at files (numbered_class key.unit))) refl
        (passes-named test a_class (id_at files (numbered_class key.unit)) (takes-class key.unit s.file s.in_files))

    of_method-right : (known : Known) (o : Option (ViewDeclaration ℕ MemberKey)) → declaration_at (files_view files) key ≡ o
        → SaysRight test known (method_cell files o)
    of_method-right known None none = says-none test known
    of_method-right known (Some d) found = says test known (values.Method ((ids_of files).method_id d)) refl
        (passes-named test a_method ((ids_of files).method_id d)
        (ap (λ k. fills owner a_method k) (method-known files no_fault program filled d (found-stands files key d found).0)))

    comments-right : (known : Known) (front : List Name) → ((notes : Notes) → is_formed known (values.Notes notes)
        ≡ (are_comments notes.front && is_empty notes.head && is_empty notes.tail)) → are_comments front ≡ true
        → SaysRight test known (Some (values.Notes (notes_of front)))
    comments-right known front form are = says test known (values.Notes (notes_of front))
        (form (notes_of front) ∙ and_from _ _ (and_from _ _ are refl) refl) refl

    pub field-cell : (f : Field) → IsPrintableField f → member_width (member.Field f) ≤ max_items → (slot : Slot)
        → SaysRight test knowns.Field (cell_of_member files slot (at (member.Field f)))
    field-cell f p few slots.Live = says test knowns.Field (values.Live true) refl refl
    field-cell f p few slots.Owner = owner-right knowns.Field
    field-cell f p few slots.Method = of_method-right knowns.Field (declaration_at (files_view files) key) refl
    field-cell f p few slots.Name = says test knowns.Field (values.Name f.name) p.named refl
    field-cell f p few slots.Words = says test knowns.Field (values.Words (record { texts = f.words }))
        (words-right field_words f.words p.allowed p.ordered) refl
    field-cell f p few slots.Notes = comments-right knowns.Field f.front (λ notes. refl) p.comments
    field-cell f p few slots.Value =
        let reader = member_reader files (at (member.Field f)) in
        let right = right-at (member.Field f) in
        says-made test knowns.Field
        (λ (parts : ReadType ℕ × Option IExpr). IsReadRightly test reader right f.ty parts.0 × MaybeRight test f.init parts.1)
        (λ (parts : ReadType ℕ × Option IExpr). values.Value parts.0.tree parts.1) (read_field reader f)
        (gives-both (IsReadRightly test reader right f.ty) (MaybeRight test f.init) (read_type reader f.at f.ty)
        (read_initial reader f.init)
        (type-gives test reader right f.at f.ty) (gives-initial test reader right f.init (omega (arith, few))))
        (λ parts r. record {
          formed = and_from _ _ (typed test reader right f.ty parts.0.tree r.0.as_written (omega (arith, few)) p.typed)
              (r.1.first p.first_value);
          mentions = passes-both test (type_mentions parts.0.tree) (maybe_mentions parts.1) r.0.as_written.mentions r.1.mentions;
        })
    field-cell f p few slots.Package = says-none test knowns.Field
    field-cell f p few slots.Super = says-none test knowns.Field
    field-cell f p few slots.Result = says-none test knowns.Field
    field-cell f p few slots.Params = says-none test knowns.Field
    field-cell f p few slots.Kind = says-none test knowns.Field
    field-cell f p few slots.Fixed = says-none test knowns.Field
    field-cell f p few slots.Body = says-none test knowns.Field

    -- the body that there may be
    abbrev BodyRight : Option IBody → Type 0
    BodyRight body = (option_map_or is_body body true ≡ true) × Passes test (body_mentions body)

    body-right : (m : Method) → (block : Option Block) → printable.is_body block ≡ true
        → tallest_maybe (option_map block_width block) ≤ max_items
        → (known : Known)
        → SaysRight test known (option_map (λ body. values.Body body) (read_block (member_reader files (at (member.Method m))) block).value)
    body-right m None is few known = says test known (values.Body None) refl refl
    body-right m (Some b) is few known =
        let reader = member_reader files (at (member.Method m)) in
        says-made test known BodyRight (λ body. values.Body body) (read_block reader (Some b))
        (gives-mapped (λ (body : IBody). BlockRight test (block_uses b) body.block) BodyRight (λ body. Some body) (read_body reader b)
        (gives-body test reader (right-at (member.Method m)) b few) (λ body r. (r.body is, r.mentions)))
        (λ body r. record { formed = r.0; mentions = r.1 })

    pub method-decl-cell : (m : Method) → IsPrintableMethod m → member_width (member.Method m) ≤ max_items → (method : Id) (slot : Slot)
        → has_slot (Some (knowns.Decl method)) slot ≡ true
        → SaysRight test (knowns.Decl method) (cell_of_member files slot (at (member.Method m)))
    method-decl-cell m p few method slots.Live has = says test (knowns.Decl method) (values.Live true) refl refl
    method-decl-cell m p few method slots.Owner has = owner-right (knowns.Decl method)
    method-decl-cell m p few method slots.Method has =
        of_method-right (knowns.Decl method) (declaration_at (files_view files) key) refl
    method-decl-cell m p few method slots.Words has = says test (knowns.Decl method) (values.Words (record { texts = m.words }))
        (method-words-right m p.allowed p.ordered) refl
    method-decl-cell m p few method slots.Notes has = comments-right (knowns.Decl method) m.front (λ notes. refl) p.comments
    method-decl-cell m p few method slots.Body has = body-right m m.block p.body (omega (arith, few)) (knowns.Decl method)
    method-decl-cell m p few method slots.Value has = says-none test (knowns.Decl method)
    method-decl-cell m p few method slots.Name has = absurd (true≢false (sym has))
    method-decl-cell m p few method slots.Package has = says-none test (knowns.Decl method)
    method-decl-cell m p few method slots.Super has = says-none test (knowns.Decl method)
    method-decl-cell m p few method slots.Result has = says-none test (knowns.Decl method)
    method-decl-cell m p few method slots.Params has = says-none test (knowns.Decl method)
    method-decl-cell m p few method slots.Kind has = says-none test (knowns.Decl method)
    method-decl-cell m p few method slots.Fixed has = says-none test (knowns.Decl method)

    pub constructor-decl-cell : (c : Ctor) → IsPrintableConstructor c → member_width (member.Ctor c) ≤ max_items
        → (method : Id) (slot : Slot)
        → has_slot (Some (knowns.Decl method)) slot ≡ true
        → SaysRight test (knowns.Decl method) (cell_of_member files slot (at (member.Ctor c)))
    constructor-decl-cell c p few method slots.Live has = says test (knowns.Decl method) (values.Live true) refl refl
    constructor-decl-cell c p few method slots.Owner has = owner-right (knowns.Decl method)
    constructor-decl-cell c p few method slots.Method has =
        of_method-right (knowns.Decl method) (declaration_at (files_view files) key) refl
    constructor-decl-cell c p few method slots.Words has = says test (knowns.Decl method) (values.Words (record { texts = c.words }))
        (constructor-words-right c.words p.allowed p.ordered) refl
    constructor-decl-cell c p few method slots.Notes has = comments-right (knowns.Decl method) c.front (λ notes. refl) p.comments
    constructor-decl-cell c p few method slots.Body has =
        let reader = member_reader files (at (member.Ctor c)) in
        says-made test (knowns.Decl method) (λ (body : IBody). BlockRight test (block_uses c.block) body.block)
        (λ body. values.Body (Some body)) (read_body reader c.block)
        (gives-body test reader (right-at (member.Ctor c)) c.block (omega (arith, few)))
        (λ body r. record { formed = r.constructor p.body; mentions = r.mentions })
    constructor-decl-cell c p few method slots.Value has = says-none test (knowns.Decl method)
    constructor-decl-cell c p few method slots.Name has = absurd (true≢false (sym has))
    constructor-decl-cell c p few method slots.Package has = says-none test (knowns.Decl method)
    constructor-decl-cell c p few method slots.Super has = says-none test (knowns.Decl method)
    constructor-decl-cell c p few method slots.Result has = says-none test (knowns.Decl method)
    constructor-decl-cell c p few method slots.Params has = says-none test (knowns.Decl method)
    constructor-decl-cell c p few method slots.Kind has = says-none test (knowns.Decl method)
    constructor-decl-cell c p few method slots.Fixed has = says-none test (knowns.Decl method)
