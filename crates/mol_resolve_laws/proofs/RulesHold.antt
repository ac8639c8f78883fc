-- The program of files without a fault keeps all rules of programs.
use Rattle.std.proofs.Common.{◌≡◌, ◌≢◌, ℕ, Bool, true, false, cond, if◌then◌else◌, Option, Some, None, option_map, Contains, refl, sym, ◌∙◌, ap, subst, true≢false}
use Rattle.std.proofs.lemmas.Bool.{and_from}
use Rattle.std.specs.Prelude.{is_some}
use Rattle.std.specs.List.{All}
use Rattle.std.specs.Option.{option_and_then}
use Rattle.std.specs.FinMap.{get}
use Rattle.jav_tree.specs.Printable.{IsPrintableMember, IsPrintableMethod}
use Rattle.jav_tree.specs.declared.unit.Member.{Member}
use Rattle.jav_tree.specs.declared.unit.Member.TheVariants as member
use Rattle.jav_tree.specs.declared.unit.Method.{Method}
use Rattle.jav_tree.specs.declared.unit.Unit.{Unit as Source}
use Rattle.jav_names.specs.UnitViews.{MemberKey, classes_of, declaration_in}
use Rattle.jav_names.specs.Views.{DeclarationKind, instance_method, static_method, constructor, ViewDeclaration, Classes}
use Rattle.mol_base.specs.Modifiers.{constructor_words, kept_words}
use Rattle.mol_base.specs.declared.ident.Id.{Id}
use Rattle.mol_resolve_rules.proofs.FilesStand.{some-same, found-stands, method-in_order}
use Rattle.mol_resolve_rules.proofs.NumbersApart.{numbers_apart}
use Rattle.mol_resolve_rules.proofs.ValuesFound.{values_there}
use Rattle.mol_resolve_rules.specs.Expected.{kind_of, member_known, known_of, words_of_member, body_cell, method_cell, cell_of_member, cell_of_method, value_of}
use Rattle.mol_resolve_rules.specs.Files.{Files, units, files_view, declaration_at, PlacedMember, member_at}
use Rattle.mol_resolve_rules.specs.Numbering.{Numbered, numbered_class, numbered_member, numbered_method, numbered_param, topmost, in_order, id_at, ids_of}
use Rattle.mol_resolve_rules.specs.ReadAs.{HasNoFault}
use Rattle.mol_resolve_rules.specs.ReadFiles.{member_reader, read_block}
use Rattle.mol_resolve_rules.specs.ReadStatements.{read_body}
use Rattle.mol_resolve_rules.specs.Readers.{Reader}
use Rattle.mol_table_rules.specs.Forms.{has_form, is_formed}
use Rattle.mol_table_rules.specs.Mentions.{a_method}
use Rattle.mol_table_rules.specs.Program.{Program, value_at}
use Rattle.mol_table_rules.specs.Rules.{fills, refers_rightly, is_declared, has_many, IsProgram}
use Rattle.mol_values_types.specs.Words.{are_words}
use Rattle.mol_values_types.specs.Slots.{same_slot, has_slot}
use Rattle.mol_values_types.specs.declared.cell.Slot.{Slot}
use Rattle.mol_values_types.specs.declared.cell.Slot.TheVariants as slots
use Rattle.mol_values_types.specs.declared.iblock.IBody.{IBody}
use Rattle.mol_values_types.specs.declared.kind.MethodKind.{MethodKind}
use Rattle.mol_values_types.specs.declared.kind.MethodKind.TheVariants.{Instance, Static, Constructor}
use Rattle.mol_values_types.specs.declared.known.Known.{Known}
use Rattle.mol_values_types.specs.declared.known.Known.TheVariants as knowns
use Rattle.mol_values_types.specs.declared.value.Value.{Value}
use Rattle.mol_values_types.specs.declared.value.Value.TheVariants as values
use Rattle.mol_resolve_laws.proofs.EntityItems.{placed-declared, has-member}
use Rattle.mol_resolve_laws.proofs.EntityValues.{same-own}
use Rattle.mol_resolve_laws.proofs.Filled.{IsFilled}
use Rattle.mol_resolve_laws.proofs.Gives.{none-some}
use Rattle.mol_resolve_laws.proofs.ItemsRight.{found-member, declared-in, printable-member, item-says}
use Rattle.mol_resolve_laws.proofs.MethodItems.{method-item, param-item, method-stands}
use Rattle.mol_resolve_laws.proofs.MethodsAgree.{topmost-is}
use Rattle.mol_resolve_laws.proofs.ReaderRight.{known-item, method-known}
use Rattle.mol_resolve_laws.proofs.ValueSlots.{value-slot}
use Rattle.mol_resolve_laws.proofs.WordsRight.{words-right, method-words-right, static-has-block}
use Rattle.mol_resolve_laws.specs.Laws.{IsTree}
use Rattle.mol_resolve_laws.proofs.Tests.{never}

module _ (files : Files) (no_fault : HasNoFault files) (program : Program) (filled : IsFilled files program)
    (trees : All IsTree files) where
  abbrev Declaration : Type 0
  Declaration = ViewDeclaration ℕ MemberKey

  -- ---- what is known, and what cells hold, is said of an item

  record IsItem (id : Id) (known : Known) : Type 0 where
    item : Numbered
    stands : Contains (in_order files) item
    same : id_at files item ≡ id
    is : known_of files item ≡ Some known

  item-of : (id : Id) (known : Known) → get program.known id ≡ Some known → IsItem id known
  item-of id known is =
      let found = filled.numbered.only id known is in
      let here = filled.numbered.each found.0 found.1.0 in
      record {
        item = found.0;
        stands = found.1.0;
        same = found.1.1;
        is = here.1.0 ∙ sym here.1.1 ∙ ap (get program.known) found.1.1 ∙ is;
      }

  record IsSaid (id : Id) (slot : Slot) (value : Value) : Type 0 where
    known : Known
    held : get program.known id ≡ Some known
    item : IsItem id known
    has : has_slot (Some known) slot ≡ true
    said : value_of files item.item slot ≡ Some value

  item-cell : (id : Id) (known : Known) (item : IsItem id known) (slot : Slot)
      → value_at program id slot ≡ cond (has_slot (Some known) slot) (value_of files item.item slot) None
  item-cell id known item slot = subst
      (λ id. value_at program id slot ≡ cond (has_slot (Some known) slot) (value_of files item.item slot) None) item.same
      (filled.cells item.item item.stands known item.is slot)

  said-of : (id : Id) (slot : Slot) (value : Value) → value_at program id slot ≡ Some value → IsSaid id slot value
  said-of id slot value is = by (get program.known id) refl where
    by_slot : (known : Known) → get program.known id ≡ Some known → (item : IsItem id known) → (b : Bool)
        → has_slot (Some known) slot ≡ b → cond b (value_of files item.item slot) None ≡ Some value → IsSaid id slot value
    by_slot known held item true has said = record { known = known; held = held; item = item; has = has; said = said }
    by_slot known held item false has said = absurd (none-some said)

    by : (o : Option Known) → get program.known id ≡ o → IsSaid id slot value
    by None none = absurd (none-some (sym (filled.bare id none slot) ∙ is))
    by (Some known) held =
        let item = item-of id known held in
        by_slot known held item (has_slot (Some known) slot) refl (sym (item-cell id known item slot) ∙ is)

  -- ---- all cells and no others

  whole-rule : (id : Id) (slot : Slot) → is_some (value_at program id slot) ≡ has_slot (get program.known id) slot
  whole-rule id slot = by (get program.known id) refl where
    by_slot : (known : Known) (item : IsItem id known) → (b : Bool) → has_slot (Some known) slot ≡ b
        → is_some (cond b (value_of files item.item slot) None) ≡ b
    by_slot known item true has = ap is_some (values_there.values files no_fault item.item item.stands slot
        (ap (λ o. has_slot o slot) item.is ∙ has)).1
    by_slot known item false has = refl

    by : (o : Option Known) → get program.known id ≡ o → is_some (value_at program id slot) ≡ has_slot (get program.known id) slot
    by None none = ap is_some (filled.bare id none slot) ∙ ap (λ o. has_slot o slot) (sym none)
    by (Some known) held =
        let item = item-of id known held in
        ap is_some (item-cell id known item slot) ∙ by_slot known item (has_slot (Some known) slot) refl
        ∙ ap (λ o. has_slot o slot) (sym held)

  -- ---- forms and references

  forms-rule : (id : Id) (slot : Slot) (known : Known) (value : Value) → get program.known id ≡ Some known
      → value_at program id slot ≡ Some value → has_form known slot value ≡ true
  forms-rule id slot known value held is =
      let said = said-of id slot value is in
      let right = item-says files no_fault program filled trees said.item.item said.item.stands said.known said.item.is slot said.has value
      said.said in
      let same : said.known ≡ known = some-same (sym said.held ∙ held) in
      and_from _ _ (ap (λ s. same_slot s slot) (value-slot files said.item.item slot value said.said) ∙ same-own slot)
      (subst (λ k. is_formed k value ≡ true) same right.formed)

  references-rule : (id : Id) (slot : Slot) (value : Value) → value_at program id slot ≡ Some value
      → refers_rightly program.known id value ≡ true
  references-rule id slot value is =
      let said = said-of id slot value is in
      let right = item-says files no_fault program filled trees said.item.item said.item.stands said.known said.item.is slot said.has value
      said.said in
      subst (λ id. refers_rightly program.known id value ≡ true) said.item.same right.mentions

  -- ---- kinds of methods, and methods of declarations

  kind-same : {first second : MethodKind} → values.Kind first ≡ values.Kind second → first ≡ second
  kind-same is = cc

  method-same : {first second : Id} → values.Method first ≡ values.Method second → first ≡ second
  method-same is = cc

  -- nothing that is known so has the slot
  -- a member that is known is a field or a declaration
  member-is : (key : MemberKey) (known : Known) → known_of files (numbered_member key) ≡ Some known
      → (at : PlacedMember) × (member_at files key ≡ Some at) × (known ≡ member_known files at.declared)
  member-is key known is = by (member_at files key) refl where
    by : (o : Option PlacedMember) → member_at files key ≡ o
        → (at : PlacedMember) × (member_at files key ≡ Some at) × (known ≡ member_known files at.declared)
    by None none = absurd (none-some (sym (ap (option_map (λ (at : PlacedMember). member_known files at.declared)) none) ∙ is))
    by (Some at) placed-is = (
      at,
      placed-is,
      some-same (sym is ∙ ap (option_map (λ (at : PlacedMember). member_known files at.declared)) placed-is),
    )

  kind-of-item : (item : Numbered) → Contains (in_order files) item → (known : Known) → known_of files item ≡ Some known
      → has_slot (Some known) slots.Kind ≡ true → (kind : MethodKind) → value_of files item slots.Kind ≡ Some (values.Kind kind)
      → known ≡ knowns.Method kind
  kind-of-item (numbered_class number) stands known is has kind said =
      never (subst (λ k. has_slot (Some k) slots.Kind ≡ true) (sym (some-same is)) has)
  kind-of-item (numbered_member key) stands known is has kind said =
      let found = member-is key known is in
      never-member found.0.declared (subst (λ k. has_slot (Some k) slots.Kind ≡ true) found.2 has) where
        never-member : (o : Option Declaration) → has_slot (Some (member_known files o)) slots.Kind ≡ true → known ≡ knowns.Method kind
        never-member None has = never has
        never-member (Some d) has = never has
  kind-of-item (numbered_method key) stands known is has kind said =
      let method = method-item files key stands in
      let placed-is = has-member files no_fault key slots.Kind (values.Kind kind) said in
      let same : kind_of method.declared.kind ≡ kind
      = kind-same (some-same (sym (ap (option_and_then (cell_of_method files slots.Kind)) placed-is.1
      ∙ ap (option_map (λ (d : Declaration). values.Kind (kind_of d.kind)))
      (placed-declared files no_fault key placed-is.0 placed-is.1 ∙ method.found)) ∙ said)) in
      some-same (sym is ∙ ap (option_map (λ (d : Declaration). knowns.Method (kind_of d.kind))) method.found)
      ∙ ap (λ k. knowns.Method k) same
  kind-of-item (numbered_param key place) stands known is has kind said =
      never (subst (λ k. has_slot (Some k) slots.Kind ≡ true) (sym (some-same is)) has)

  kinds-rule : (id : Id) (kind : MethodKind) → value_at program id slots.Kind ≡ Some (values.Kind kind)
      → get program.known id ≡ Some (knowns.Method kind)
  kinds-rule id kind is =
      let said = said-of id slots.Kind (values.Kind kind) is in
      said.held ∙ ap (λ k. Some k) (kind-of-item said.item.item said.item.stands said.known said.item.is said.has kind said.said)

  method-of-item : (item : Numbered) → Contains (in_order files) item → (known : Known) → known_of files item ≡ Some known
      → has_slot (Some known) slots.Method ≡ true → (method : Id) → value_of files item slots.Method ≡ Some (values.Method method)
      → known ≡ knowns.Decl method
  method-of-item (numbered_class number) stands known is has method said =
      never (subst (λ k. has_slot (Some k) slots.Method ≡ true) (sym (some-same is)) has)
  method-of-item (numbered_member key) stands known is has method said =
      let found = member-is key known is in
      by found.0.declared found.2 (sym (ap (option_and_then (cell_of_member files slots.Method)) found.1) ∙ said) where
        by : (o : Option Declaration) → known ≡ member_known files o → method_cell files o ≡ Some (values.Method method)
            → known ≡ knowns.Decl method
        by None known-is said = absurd (none-some said)
        by (Some d) known-is said = known-is ∙ ap (λ id. knowns.Decl id) (method-same (some-same said))
  method-of-item (numbered_method key) stands known is has method said =
      let of = method-item files key stands in
      never (subst (λ k. has_slot (Some k) slots.Method ≡ true)
      (some-same (sym is ∙ ap (option_map (λ (d : Declaration). knowns.Method (kind_of d.kind))) of.found)) has)
  method-of-item (numbered_param key place) stands known is has method said =
      never (subst (λ k. has_slot (Some k) slots.Method ≡ true) (sym (some-same is)) has)

  methods-rule : (id method : Id) → value_at program id slots.Method ≡ Some (values.Method method)
      → get program.known id ≡ Some (knowns.Decl method)
  methods-rule id method is =
      let said = said-of id slots.Method (values.Method method) is in
      said.held ∙ ap (λ k. Some k) (method-of-item said.item.item said.item.stands said.known said.item.is said.has method said.said)

  -- ---- what is known as a declaration or as a parameter

  record IsDecl (id method : Id) : Type 0 where
    key : MemberKey
    same : id_at files (numbered_member key) ≡ id
    stands : Contains (in_order files) (numbered_member key)
    known_is : known_of files (numbered_member key) ≡ Some (knowns.Decl method)
    at : PlacedMember
    placed_at : member_at files key ≡ Some at
    declared : Declaration
    found : at.declared ≡ Some declared
    is_declared : declaration_at (files_view files) key ≡ Some declared
    method_is : (ids_of files).method_id declared ≡ method

  decl-same : {first second : Id} → knowns.Decl first ≡ knowns.Decl second → second ≡ first
  decl-same is = cc

  decl-item : (id method : Id) (item : Numbered) → Contains (in_order files) item → id_at files item ≡ id
      → known_of files item ≡ Some (knowns.Decl method) → IsDecl id method
  decl-item id method (numbered_class number) stands same is = absurd (let no = some-same is in cc)
  decl-item id method (numbered_member key) stands same is =
      let found = member-is key (knowns.Decl method) is in by found.0 found.1 found.0.declared refl found.2 where
        by : (at : PlacedMember) → member_at files key ≡ Some at → (o : Option Declaration) → at.declared ≡ o
            → knowns.Decl method ≡ member_known files o → IsDecl id method
        by at placed-is None none known-is = absurd cc
        by at placed-is (Some d) found known-is = record {
          key = key;
          same = same;
          stands = stands;
          known_is = is;
          at = at;
          placed_at = placed-is;
          declared = d;
          found = found;
          is_declared = sym (placed-declared files no_fault key at placed-is) ∙ found;
          method_is = decl-same known-is;
        }
  decl-item id method (numbered_method key) stands same is =
      let of = method-item files key stands in
      absurd (let no = some-same (sym (ap (option_map (λ (d : Declaration). knowns.Method (kind_of d.kind))) of.found) ∙ is) in cc)
  decl-item id method (numbered_param key place) stands same is = absurd (let no = some-same is in cc)

  decl-of : (id method : Id) → get program.known id ≡ Some (knowns.Decl method) → IsDecl id method
  decl-of id method is = let item = item-of id (knowns.Decl method) is in decl-item id method item.item item.stands item.same item.is

  -- the method of a declaration is known with its kind
  decl-method : (id method : Id) (decl : IsDecl id method)
      → get program.known method ≡ Some (knowns.Method (kind_of decl.declared.kind))
  decl-method id method decl = ap (get program.known) (sym decl.method_is)
      ∙ method-known files no_fault program filled decl.declared (found-stands files decl.key decl.declared decl.is_declared).0

  decls-rule : (id method : Id) → get program.known id ≡ Some (knowns.Decl method) → fills id a_method (get program.known method) ≡ true
  decls-rule id method is = ap (λ k. fills id a_method k) (decl-method id method (decl-of id method is))

  param-same : {first second : Id} → knowns.Param first ≡ knowns.Param second → first ≡ second
  param-same is = cc

  params-item : (id method : Id) (item : Numbered) → Contains (in_order files) item → known_of files item ≡ Some (knowns.Param method)
      → fills id a_method (get program.known method) ≡ true
  params-item id method (numbered_class number) stands is = absurd (let no = some-same is in cc)
  params-item id method (numbered_member key) stands is =
      let found = member-is key (knowns.Param method) is in by found.0.declared found.2 where
        by : (o : Option Declaration) → knowns.Param method ≡ member_known files o → fills id a_method (get program.known method) ≡ true
        by None known-is = absurd cc
        by (Some d) known-is = absurd cc
  params-item id method (numbered_method key) stands is =
      let of = method-item files key stands in
      absurd (let no = some-same (sym (ap (option_map (λ (d : Declaration). knowns.Method (kind_of d.kind))) of.found) ∙ is) in cc)
  params-item id method (numbered_param key place) stands is =
      let of = (param-item files key place stands).method in
      ap (λ k. fills id a_method k) (ap (get program.known) (sym (param-same (some-same is)))
      ∙ known-item files no_fault program filled (numbered_method key) (method-stands files key of)
      (knowns.Method (kind_of of.declared.kind))
      (ap (option_map (λ (d : Declaration). knowns.Method (kind_of d.kind))) of.found))

  params-rule : (id method : Id) → get program.known id ≡ Some (knowns.Param method) → fills id a_method (get program.known method) ≡ true
  params-rule id method is =
      let item = item-of id (knowns.Param method) is in params-item id method item.item item.stands item.is

  -- ---- one declaration of a static method and of a constructor

  known-kind : {first second : MethodKind} → knowns.Method first ≡ knowns.Method second → first ≡ second
  known-kind is = cc

  not-many : (kind : DeclarationKind) → has_many (kind_of kind) ≡ false → kind ≢ instance_method
  not-many instance_method many is = true≢false many
  not-many static_method many is = absurd cc
  not-many constructor many is = absurd cc

  key-same : {first second : MemberKey} → numbered_method first ≡ numbered_method second → first ≡ second
  key-same is = cc

  single-rule : (method first second : Id) (kind : MethodKind) → get program.known method ≡ Some (knowns.Method kind)
      → has_many kind ≡ false → get program.known first ≡ Some (knowns.Decl method) → get program.known second ≡ Some (knowns.Decl method)
      → first ≡ second
  single-rule method first second kind is many of-first of-second =
      let one = decl-of first method of-first in
      let two = decl-of second method of-second in
      sym one.same ∙ ap (λ key. id_at files (numbered_member key)) (one-key first second one two
      (known-kind (some-same (sym is ∙ decl-method first method one))) (known-kind (some-same (sym is ∙ decl-method second method two))))
      ∙ two.same where
        itself : (id : Id) (decl : IsDecl id method) → kind ≡ kind_of decl.declared.kind
            → topmost (files_view files) decl.declared ≡ decl.declared
        itself id decl same =
            (topmost-is files no_fault decl.declared (found-stands files decl.key decl.declared decl.is_declared).0).single
            (not-many decl.declared.kind (ap has_many (sym same) ∙ many))

        in-order : (id : Id) (decl : IsDecl id method) → kind ≡ kind_of decl.declared.kind
            → Contains (in_order files) (numbered_method decl.declared.key)
        in-order id decl same = method-in_order files decl.declared (found-stands files decl.key decl.declared decl.is_declared).0
            (itself id decl same)

        one-key : (first second : Id) (one : IsDecl first method) (two : IsDecl second method) → kind ≡ kind_of one.declared.kind
            → kind ≡ kind_of two.declared.kind → one.key ≡ two.key
        one-key first second one two same other =
            sym (found-stands files one.key one.declared one.is_declared).1
            ∙ key-same (numbers_apart.apart files (numbered_method one.declared.key) (numbered_method two.declared.key)
            (in-order first one same) (in-order second two other)
            (ap (λ (d : Declaration). id_at files (numbered_method d.key)) (sym (itself first one same)) ∙ one.method_is ∙ sym two.method_is
            ∙ ap (λ (d : Declaration). id_at files (numbered_method d.key)) (itself second two other)))
            ∙ (found-stands files two.key two.declared two.is_declared).1

  -- ---- modifiers and blocks

  abbrev said_words : Member → Option Value
  said_words m = Some (values.Words (record { texts = words_of_member m }))

  some-body : (kind : MethodKind) (m : Member) (words : are_words kept_words (words_of_member m) ≡ true) → kind ≡ Instance
      → (o : Option (Option IBody)) (v : Value) → option_map (λ body. values.Body body) o ≡ Some v
      → is_declared kind (said_words m) (option_map (λ body. values.Body body) o) ≡ true
  some-body kind m words is None v said = absurd (none-some said)
  some-body kind m words is (Some body) v said = ap (λ k. is_declared k (said_words m) (Some (values.Body body))) is ∙ words

  static-body : (kind : MethodKind) (m : Member) (words : are_words kept_words (words_of_member m) ≡ true) → kind ≡ Static
      → (o : Option IBody) (v : Value) → option_map (λ body. values.Body body) (option_map (λ body. Some body) o) ≡ Some v
      → is_declared kind (said_words m) (option_map (λ body. values.Body body) (option_map (λ body. Some body) o)) ≡ true
  static-body kind m words is None v said = absurd (none-some said)
  static-body kind m words is (Some body) v said = ap (λ k. is_declared k (said_words m) (Some (values.Body (Some body)))) is ∙ words

  constructor-body : (kind : MethodKind) (m : Member) (words : are_words constructor_words (words_of_member m) ≡ true) → kind ≡ Constructor
      → (o : Option IBody) (v : Value) → option_map (λ body. values.Body (Some body)) o ≡ Some v
      → is_declared kind (said_words m) (option_map (λ body. values.Body (Some body)) o) ≡ true
  constructor-body kind m words is None v said = absurd (none-some said)
  constructor-body kind m words is (Some body) v said = ap (λ k. is_declared k (said_words m) (Some (values.Body (Some body)))) is ∙ words

  method-fits : (m : Method) → IsPrintableMethod m → (kind : MethodKind) → (static : Bool) → m.is_static ≡ static
      → kind ≡ kind_of (if static then static_method else instance_method) → (reader : Reader ℕ MemberKey) (v : Value)
      → body_cell reader (member.Method m) ≡ Some v
      → is_declared kind (said_words (member.Method m)) (body_cell reader (member.Method m)) ≡ true
  method-fits m p kind false static is reader v said =
      some-body kind (member.Method m) (method-words-right m p.allowed p.ordered) is (read_block reader m.block).value v said
  method-fits m p kind true static is reader v said =
      let block = static-has-block m p.allowed static in
      subst (λ b. is_declared kind (said_words (member.Method m)) (option_map (λ body. values.Body body) (read_block reader b).value) ≡
      true)
      (sym block.1)
      (static-body kind (member.Method m) (method-words-right m p.allowed p.ordered) is (read_body reader block.0).value v
      (ap (λ b. option_map (λ body. values.Body body) (read_block reader b).value) (sym block.1) ∙ said))

  member-fits : (classes : Classes ℕ) (unit : ℕ × Source) (number : ℕ) (m : Member) → IsPrintableMember m → (d : Declaration)
      → declaration_in classes unit (number, m) ≡ Some d → (kind : MethodKind) → kind ≡ kind_of d.kind → (reader : Reader ℕ MemberKey)
      (v : Value) → body_cell reader m ≡ Some v → is_declared kind (said_words m) (body_cell reader m) ≡ true
  member-fits classes unit number (member.Field f) p d is kind same reader v said = absurd (none-some is)
  member-fits classes unit number (member.Method m) p d is kind same reader v said =
      method-fits m p kind m.is_static refl (same ∙ ap (λ (d : Declaration). kind_of d.kind) (sym (some-same is))) reader v said
  member-fits classes unit number (member.Ctor c) p d is kind same reader v said =
      constructor-body kind (member.Ctor c) (words-right constructor_words c.words p.allowed p.ordered)
      (same ∙ ap (λ (d : Declaration). kind_of d.kind) (sym (some-same is))) (read_body reader c.block).value v said

  -- what a cell of a declaration holds
  decl-cell : (id method : Id) (decl : IsDecl id method) (slot : Slot) → has_slot (Some (knowns.Decl method)) slot ≡ true
      → value_at program id slot ≡ cell_of_member files slot decl.at
  decl-cell id method decl slot has = ap (λ id. value_at program id slot) (sym decl.same)
      ∙ filled.cells (numbered_member decl.key) decl.stands (knowns.Decl method) decl.known_is slot
      ∙ ap (λ b. cond b (value_of files (numbered_member decl.key) slot) None) has
      ∙ ap (option_and_then (cell_of_member files slot)) decl.placed_at

  declarations-rule : (id method : Id) (kind : MethodKind) → get program.known id ≡ Some (knowns.Decl method)
      → get program.known method ≡ Some (knowns.Method kind)
      → is_declared kind (value_at program id slots.Words) (value_at program id slots.Body) ≡ true
  declarations-rule id method kind is method-is =
      let decl = decl-of id method is in
      let found = found-member files decl.key decl.at decl.placed_at in
      let s = found.0 in
      let member-same : s.member ≡ decl.at.member = ap (λ (at : PlacedMember). at.member) (sym found.1) in
      let there = values_there.values files no_fault (numbered_member decl.key) decl.stands slots.Body
      (ap (λ o. has_slot o slots.Body) decl.known_is) in
      let said : body_cell (member_reader files decl.at) decl.at.member ≡ Some there.0
      = sym (ap (option_and_then (cell_of_member files slots.Body)) decl.placed_at) ∙ there.1 in
      ap (λ o. is_declared kind o (value_at program id slots.Body)) (decl-cell id method decl slots.Words refl)
      ∙ ap (is_declared kind (said_words decl.at.member)) (decl-cell id method decl slots.Body refl)
      ∙ member-fits (classes_of (units files)) (decl.key.unit, s.file.unit) decl.key.member decl.at.member
      (subst IsPrintableMember member-same (printable-member files no_fault program filled trees id decl.key s)) decl.declared
      (sym (declared-in files decl.key s decl.at.member member-same) ∙ decl.is_declared) kind
      (known-kind (some-same (sym method-is ∙ decl-method id method decl))) (member_reader files decl.at) there.0 said

  pub rules-hold : IsProgram program
  rules-hold = record {
    whole = whole-rule;
    forms = forms-rule;
    references = references-rule;
    kinds = kinds-rule;
    methods = methods-rule;
    decls = decls-rule;
    params = params-rule;
    single = single-rule;
    declarations = declarations-rule;
  }
