-- In a clean program `super(..)` stands in the bodies of constructors alone: elsewhere its name reads as nothing, which is a fault, or its
-- target is gone, which is one too.
use Rattle.std.proofs.Common.{◌≡◌, ◌≢◌, ℕ, Bool, true, false, cond, List, [], ◌∷◌, ◌++◌, map, flat_map, codes, Option, Some, None, slice_get, option_map, Contains, refl, sym, ◌∙◌, ap, subst, true≢false}
use Rattle.std.specs.Prelude.{◌&&◌, ◌||◌, not, is_some, if◌then◌else◌}
use Rattle.std.specs.FinMap.{get, entries, find, get-entries}
use Rattle.std.specs.List.{list_any}
use Rattle.std.specs.Option.{option_map_or}
use Rattle.std.specs.Ordering.{eq_by_cmp, is_eq}
use Rattle.std.proofs.lemmas.Bool.{and_from, and_parts}
use Rattle.mol_base.specs.Order.{id_cmp, id_cmp-total}
use Rattle.mol_base.specs.declared.ident.Id.{Id}
use Rattle.mol_spell_rules.specs.references.References.{Target, class_target, field_target, method_target, param_target, default_target, local_target, outside_target}
use Rattle.jav_names.proofs.Lists.{stands_first, stands_later}
use Rattle.jav_names.specs.DottedNames.{Names}
use Rattle.jav_names.specs.LookUps.{super_constructor, is_constructor}
use Rattle.mol_resolve_rules.proofs.Stands.{in_front, in_each, in_some}
use Rattle.mol_resolve_rules.specs.Locals.{Locals, no_locals}
use Rattle.mol_resolve_rules.specs.ProgramViews.{kind_in}
use Rattle.mol_spell_rules.specs.Answers.{constructor_answer, answer, answered}
use Rattle.mol_spell_rules.specs.Clean.{Clean}
use Rattle.mol_spell_rules.specs.NameFaults.{IsLivingDeclaration, is_gone, unit_reader}
use Rattle.mol_spell_rules.specs.SimpleNames.{imports_in, unit_writer, unit_references}
use Rattle.mol_spell_rules.specs.SpelledStatements.{Spells, node_step, block_step, spelled_block}
use Rattle.mol_spell_rules.specs.UnitCells.{is_owned_by, member_in, members_of, member_cells, printed_cells, reader_as, references_in}
use Rattle.mol_spell_rules.specs.Writers.{Writer, super_constructor_asked, Reference}
use Rattle.mol_table_rules.proofs.Counts.{none-some, some-same}
use Rattle.mol_table_rules.proofs.Living.{id_tied}
use Rattle.std.proofs.lemmas.Cmp.{tied_itself}
use Rattle.mol_table_rules.proofs.TidyRules.{tidied-at, living-kept, tidy-IsProgram}
use Rattle.mol_table_rules.specs.Faults.{Missing, is_there}
use Rattle.mol_table_rules.specs.Forms.{is_formed}
use Rattle.mol_table_rules.specs.Life.{is_decl_of, lives_method, lives_as, lives, entity_in, is_living_entity}
use Rattle.mol_table_rules.specs.Mentions as mention
use Rattle.mol_table_rules.specs.Mentions.{Role, Mention, a_class, a_constructor, named, joined, arguments_mentions, block_mentions}
use Rattle.mol_table_rules.specs.Program.{Program, same_id, value_at, living_at, cell}
use Rattle.mol_table_rules.specs.Renumber.{is_living_class}
use Rattle.mol_table_rules.specs.Rules.{IsProgram, fills}
use Rattle.mol_table_rules.specs.StatementForms as forms
use Rattle.mol_table_rules.specs.StatementForms.{StatementShape, BlockShape, are_formed, has_super, block_shape, is_body}
use Rattle.mol_table_rules.specs.Tidy.{tidied, tidy}
use Rattle.mol_values_types.specs.TokenForms.{are_comments}
use Rattle.mol_values_types.specs.Slots.{same_slot}
use Rattle.mol_values_types.specs.declared.cell.Cell.{Cell}
use Rattle.mol_values_types.specs.declared.cell.Slot.TheVariants as slots
use Rattle.mol_values_types.specs.declared.iblock.IBlock.{IBlock}
use Rattle.mol_values_types.specs.declared.iblock.IBody.{IBody}
use Rattle.mol_values_types.specs.declared.iblock.IElse.{IElse}
use Rattle.mol_values_types.specs.declared.iblock.IElse.TheFolds.{map-IStmtNode, ind-IBlock}
use Rattle.mol_values_types.specs.declared.iblock.IElse.TheOpen.{IStmtNode-F, IBlock-F, IStmt-F}
use Rattle.mol_values_types.specs.declared.iblock.IElse.TheViews.{roll-IStmtNode, roll-IBlock, roll-IStmt}
use Rattle.mol_values_types.specs.declared.iblock.IIf.{IIf}
use Rattle.mol_values_types.specs.declared.iblock.IStmt.{IStmt}
use Rattle.mol_values_types.specs.declared.iblock.IStmtNode.{IStmtNode}
use Rattle.mol_values_types.specs.declared.kind.MethodKind.{MethodKind}
use Rattle.mol_values_types.specs.declared.kind.MethodKind.TheVariants.{Instance, Static, Constructor}
use Rattle.mol_values_types.specs.declared.known.Known.{Known}
use Rattle.mol_values_types.specs.declared.known.Known.TheVariants as knowns
use Rattle.mol_values_types.specs.declared.value.Value.{Value}
use Rattle.mol_values_types.specs.declared.value.Value.TheVariants as values
use Rattle.mol_spell_laws.proofs.KnownNames.{class-fills, constructor-fills}
use Rattle.mol_spell_laws.proofs.StatementFolds.{else_shape, node_shape, if_shape, stmt_shape, node-shape-is, block-shape-is, stmt-shape-is, Mentions, else_mentions, node_mentions, if_mentions, stmt_mentions, node-mentions-are, block-mentions-are, stmt-mentions-are, SBlock, of_else, of_node, of_if, of_stmt, node-written, block-written, stmt-written}
use Rattle.mol_spell_laws.proofs.Units.{each-passes}
use Rattle.mol_spell_laws.proofs.ValueForms.{body-formed}
use Rattle.mol_spell_laws.specs.PrintableFiles.{SupersInPlace}

-- ---- what the first name of such a block is

-- the target of `super(..)` is mentioned, where it is in the program
data IsSuper (mentions : List Mention) : Target → Type 0 where
  by_constructor : {id : Id} → Contains mentions (record { role = a_constructor; id = id }) → IsSuper mentions (method_target id)
  by_default : {class : Id} → Contains mentions (record { role = a_class; id = class }) → IsSuper mentions (default_target class)
  by_outside : {text : List ℕ} → IsSuper mentions (outside_target text)

record BeginsSuper (mentions : List Mention) (references : List Reference) : Type 0 where
  reference : Reference
  rest : List Reference
  is : references ≡ reference ∷ rest
  arity : ℕ
  asks : reference.asked ≡ super_constructor_asked arity
  target : IsSuper mentions reference.target

-- more that is mentioned, and more names
later-super : (mentions more : List Mention) (target : Target) → IsSuper mentions target → IsSuper (mentions ++ more) target
later-super mentions more target (by_constructor stands) = by_constructor (in_front mentions more _ stands)
later-super mentions more target (by_default stands) = by_default (in_front mentions more _ stands)
later-super mentions more target by_outside = by_outside

later-begins : (mentions more : List Mention) (references next : List Reference) → BeginsSuper mentions references
    → BeginsSuper (mentions ++ more) (references ++ next)
later-begins mentions more references next begins = record {
  reference = begins.reference;
  rest = begins.rest ++ next;
  is = ap (λ (rs : List Reference). rs ++ next) begins.is;
  arity = begins.arity;
  asks = begins.asks;
  target = later-super mentions more begins.reference.target begins.target;
}

module _ (writer : Writer) where
  -- wherever it is written
  abbrev Begins : Bool → Mentions → {A : Type 0} → Spells A → Type 0
  Begins is_super mentions part = is_super ≡ true → (locals : Locals Id) → BeginsSuper mentions (part locals).references

  abbrev NodeBegins : IStmtNode → Type 0
  NodeBegins n = Begins (node_shape n).is_super (node_mentions n) ((of_node writer) n)

  abbrev StmtBegins : IStmt → Type 0
  StmtBegins s = Begins (stmt_shape s).is_super (stmt_mentions s) ((of_stmt writer) s)

  -- a block that may be a body, and may not stand inside one
  abbrev BlockClaim : BlockShape → Mentions → SBlock → Type 0
  BlockClaim shape mentions part =
      shape.body ≡ true → shape.formed ≡ false → (locals : Locals Id) → BeginsSuper mentions (part locals).references

  abbrev BlockBegins : IBlock → Type 0
  BlockBegins b = BlockClaim (block_shape b) (block_mentions b) (spelled_block writer b)

  node-from : (x : IStmtNode-F IElse IStmtNode IBlock IIf IStmt)
      → Begins (forms.node_step (map-IStmtNode _ _ _ _ _ _ _ _ _ _ else_shape node_shape block_shape if_shape stmt_shape x)).is_super
      (mention.node_step (map-IStmtNode _ _ _ _ _ _ _ _ _ _ else_mentions node_mentions block_mentions if_mentions stmt_mentions x))
      (node_step writer
      (map-IStmtNode _ _ _ _ _ _ _ _ _ _ (of_else writer) (of_node writer) (spelled_block writer) (of_if writer) (of_stmt writer) x))
      → NodeBegins (roll-IStmtNode x)
  node-from x claim = rw (node-shape-is x, node-mentions-are x, node-written writer x) claim

  no-super : {A : Type 0} → false ≡ true → A
  no-super is = absurd (true≢false (sym is))

  node-layer : (x : IStmtNode-F IElse IStmtNode IBlock IIf IStmt) → NodeBegins (roll-IStmtNode x)
  node-layer (IStmtNode-F.IStmtNode::Block b) = node-from (IStmtNode-F.IStmtNode::Block b) no-super
  node-layer (IStmtNode-F.Let declared) = node-from (IStmtNode-F.Let declared) no-super
  node-layer (IStmtNode-F.Do e) = node-from (IStmtNode-F.Do e) no-super
  node-layer (IStmtNode-F.IStmtNode::If i) = node-from (IStmtNode-F.IStmtNode::If i) no-super
  node-layer (IStmtNode-F.While test b) = node-from (IStmtNode-F.While test b) no-super
  node-layer (IStmtNode-F.For start test steps b) = node-from (IStmtNode-F.For start test steps b) no-super
  node-layer (IStmtNode-F.Each is_final type name e b) = node-from (IStmtNode-F.Each is_final type name e b) no-super
  node-layer (IStmtNode-F.Return e) = node-from (IStmtNode-F.Return e) no-super
  node-layer (IStmtNode-F.Throw e) = node-from (IStmtNode-F.Throw e) no-super
  node-layer IStmtNode-F.Break = node-from IStmtNode-F.Break no-super
  node-layer IStmtNode-F.Continue = node-from IStmtNode-F.Continue no-super
  node-layer IStmtNode-F.Empty = node-from IStmtNode-F.Empty no-super
  node-layer (IStmtNode-F.Super constructor args) = node-from (IStmtNode-F.Super constructor args) (λ is locals. record {
    reference = _;
    rest = _;
    is = refl;
    arity = _;
    asks = refl;
    target = by_constructor (stands_first _ (arguments_mentions args));
  })
  node-layer (IStmtNode-F.SuperDefault class) = node-from (IStmtNode-F.SuperDefault class) (λ is locals. record {
    reference = _;
    rest = _;
    is = refl;
    arity = _;
    asks = refl;
    target = by_default (stands_first _ []);
  })
  node-layer (IStmtNode-F.SuperOutside args) = node-from (IStmtNode-F.SuperOutside args)
      (λ is locals. record { reference = _; rest = _; is = refl; arity = _; asks = refl; target = by_outside })

  statement-layer : (notes : Names) (n : IStmtNode) → NodeBegins n → StmtBegins (roll-IStmt (record { notes = notes; node = n }))
  statement-layer notes n begins = rw (stmt-shape-is statement, stmt-mentions-are statement, stmt-written writer statement) begins where
    statement : IStmt-F IElse IStmtNode IBlock IIf IStmt
    statement = record { notes = notes; node = n }

  abbrev WithStmt : Type 0
  WithStmt = (s : IStmt) × StmtBegins s

  abbrev statements : List WithStmt → List IStmt
  statements items = map (λ p. p.0) items

  block-layer : (items : List WithStmt) (tail : Names) → BlockBegins (roll-IBlock (record { items = statements items; tail = tail }))
  block-layer items tail = rw (block-shape-is block, block-mentions-are block, block-written writer block) (claim items) where
    block : IBlock-F IElse IStmtNode IBlock IIf IStmt
    block = record { items = statements items; tail = tail }

    -- the first statement is `super(..)`, since the others are not
    first-super : (formed first rest : Bool) → (formed && not rest) ≡ true → (formed && not (first || rest)) ≡ false → first ≡ true
    first-super true true rest body inside = refl
    first-super true false rest body inside = absurd (true≢false (sym body ∙ inside))
    first-super false first rest body inside = absurd (true≢false (sym body))

    claim : (items : List WithStmt)
        → BlockClaim (forms.block_step (record { items = map stmt_shape (statements items); tail = tail }))
        (mention.block_step (record { items = map stmt_mentions (statements items); tail = tail }))
        (block_step writer (record { items = map (of_stmt writer) (statements items); tail = tail }))
    claim [] body inside locals = absurd (true≢false (sym body ∙ inside))
    claim (s ∷ items) body inside locals =
        let shapes = map stmt_shape (statements items) in
        later-begins (stmt_mentions s.0) (joined (map stmt_mentions (statements items))) (of_stmt writer s.0 locals).references _
        (s.1 (first-super (are_formed (stmt_shape s.0 ∷ shapes) && are_comments tail) (stmt_shape s.0).is_super
        (has_super shapes) body inside) locals)

  begins : (b : IBlock) → BlockBegins b
  begins = ind-IBlock (λ e. Unit {0}) NodeBegins BlockBegins (λ i. Unit {0}) StmtBegins
      (λ x y is. tt)
      (λ x y is. node-layer x)
      (λ x y is. subst (λ z. BlockBegins (roll-IBlock z)) is (block-layer y.items y.tail))
      (λ x y is. tt)
      (λ x y is. subst (λ z. StmtBegins (roll-IStmt z)) is (statement-layer y.notes y.node.0 y.node.1))

-- ---- a program and its tidied form

module _ (program : Program) where
  lives-method : (method : Id) → lives_method (tidy program) method ≡ lives_method program method
  lives-method method = λ i. list_any (λ (entry : Id × Known). is_decl_of method entry.1 && living-kept program entry.0 i)
      (entries program.known)

  method-lives : (method : Id) (kind : MethodKind) → get program.known method ≡ Some (knowns.Method kind)
      → lives (tidy program) method ≡ lives program method
  method-lives method kind is = ap (lives_as (tidy program) method) is ∙ lives-method method ∙ sym (ap (lives_as program method) is)

  class-lives : (class : Id) → get program.known class ≡ Some knowns.Class → lives (tidy program) class ≡ lives program class
  class-lives class is = ap (lives_as (tidy program) class) is ∙ living-kept program class ∙ sym (ap (lives_as program class) is)

-- an entry of what is known
found-stands : (es : List (Id × Known)) (id : Id) (known : Known) → find id_cmp id es ≡ Some known → Contains es (id, known)
found-stands [] id known is = absurd cc
found-stands (e ∷ es) id known is = by (eq_by_cmp id_cmp id e.0) refl is (found-stands es id known) where
  by : (b : Bool) → eq_by_cmp id_cmp id e.0 ≡ b → cond b (Some e.1) (find id_cmp id es) ≡ Some known
      → (find id_cmp id es ≡ Some known → Contains es (id, known)) → Contains (e ∷ es) (id, known)
  by true tied is more =
      let what : e.1 ≡ known = cc in
      subst (Contains (e ∷ es)) (λ i. (sym (id_tied id e.0 tied) i, what i)) (stands_first e es)
  by false tied is more = stands_later e (id, known) es (more is)

-- ---- clean programs

module _ (program : Program) (rules : IsProgram program) (clean : Clean program) (class declaration method : Id) (kind : MethodKind)
    (body : IBody)
    (class-lives-here : is_living_class (tidy program) class ≡ true)
    (living : IsLivingDeclaration (tidy program) declaration method class kind) (no-constructor : kind ≢ Constructor)
    (held : value_at (tidy program) declaration slots.Body ≡ Some (values.Body (Some body))) where
  abbrev at : Cell
  at = cell declaration slots.Body

  abbrev tidy_rules : IsProgram (tidy program)
  tidy_rules = tidy-IsProgram program rules

  abbrev names : List Reference
  names = unit_references (tidy program) class at

  names-are : names ≡ (spelled_block (unit_writer (tidy program) class at) body.block no_locals).references
  names-are = ap (references_in (unit_writer (tidy program) class at)) held

  -- the cell prints in the file of the class
  prints : Contains (printed_cells (tidy program) class) at
  prints = stands_later (cell class slots.Super) at (flat_map member_cells (members_of (tidy program) class))
      (in_each member_cells (members_of (tidy program) class) (declaration, knowns.Decl method) at
      (in_some (member_in (tidy program) class) (entries program.known) (declaration, knowns.Decl method) (declaration, knowns.Decl method)
      (found-stands (entries program.known) declaration (knowns.Decl method)
      (sym (get-entries program.known declaration) ∙ living.declares))
      (ap (λ (b : Bool). if b then Some (declaration, knowns.Decl method) else None) owned))
      (stands_later (cell method slots.Result) at (cell method slots.Params ∷ at ∷ []) (stands_later (cell method slots.Params) at (at ∷ [])
      (stands_first at [])))) where
        owned : is_owned_by (tidy program) class declaration ≡ true
        owned = and_from (living_at (tidy program) declaration) _ living.declaration_lives
            (ap (λ (o : Option Id). option_map_or (same_id class) o false) living.owned ∙ ap is_eq (tied_itself id_cmp-total class))

  reader-is : (unit_reader (tidy program) class at).in_constructor ≡ false
  reader-is = ap (λ (known : Option Known). (reader_as (tidy program) (imports_in
      (tidy program) class) class known).in_constructor) living.declares
      ∙ ap (λ (known : Option Known). is_constructor (kind_in known)) living.is_kind ∙ by kind no-constructor where
        by : (kind : MethodKind) → kind ≢ Constructor → is_constructor (kind_in (Some (knowns.Method kind))) ≡ false
        by Instance apart = refl
        by Static apart = refl
        by Constructor apart = absurd (apart refl)

  reads-nothing : (reference : Reference) (arity : ℕ) → reference.asked ≡ super_constructor_asked arity
      → answered (unit_reader (tidy program) class at) reference ≡ None
  reads-nothing reference arity asks =
      ap (answer (unit_reader (tidy program) class at) reference.locals) asks
      ∙ ap (λ (b : Bool). if b then constructor_answer (unit_reader (tidy program) class at) (codes "super")
      (super_constructor (unit_reader (tidy program) class at).view (unit_reader (tidy program) class at).class arity) else None) reader-is

  -- what is mentioned is known
  passes : (role : Role) (id : Id) → Contains (block_mentions body.block) (record { role = role; id = id })
      → fills declaration role (get program.known id) ≡ true
  passes role id stands = each-passes (λ (m : Mention). fills declaration m.role (get program.known m.id)) (block_mentions body.block)
      (record { role = role; id = id }) (tidy_rules.references declaration slots.Body (values.Body (Some body)) held) stands

  -- what is gone is missing
  missing : (role : Role) (id : Id) → Contains (block_mentions body.block) (record { role = role; id = id })
      → is_there program declaration role id ≡ false → Missing program at id
  missing role id stands gone = by (value_at program declaration slots.Body) refl where
    entity : is_living_entity program declaration ≡ true
    entity = ap (λ (known : Option Known). is_some (entity_in known) && lives_as program declaration known) living.declares
        ∙ sym (living-kept program declaration) ∙ living.declaration_lives

    by : (o : Option Value) → value_at program declaration slots.Body ≡ o → Missing program at id
    by None is = absurd (none-some (values.Body (Some body)) (sym (tidied-at program at ∙ ap (option_map (tidied program)) is) ∙ held))
    by (Some value) is =
        let same = some-same (tidied program value) (values.Body (Some body))
        (sym (tidied-at program at ∙ ap (option_map (tidied program)) is) ∙ held) in
        record {
          owner_lives = entity;
          value = value;
          holds = is;
          role = role;
          refers = subst (λ (v : Value). Contains (mention.mentions v) (record { role = role; id = id })) (sym same) stands;
          gone = gone;
        }

  -- the target of `super(..)` is not gone
  there : (target : Target) → IsSuper (block_mentions body.block) target → is_gone (tidy program) target ≡ false
  there (method_target id) (by_constructor stands) = by (lives program id) refl where
    known : get program.known id ≡ Some (knowns.Method Constructor)
    known = constructor-fills declaration (get program.known id) (passes a_constructor id stands)

    by : (b : Bool) → lives program id ≡ b → not (lives (tidy program) id) ≡ false
    by true is = ap not (method-lives program id Constructor known ∙ is)
    by false is = absurd (clean.present at id (missing a_constructor id stands is))
  there (default_target id) (by_default stands) = by (lives program id) refl where
    known : get program.known id ≡ Some knowns.Class
    known = class-fills declaration (get program.known id) (passes a_class id stands)

    by : (b : Bool) → lives program id ≡ b → not (lives (tidy program) id) ≡ false
    by true is = ap not (class-lives program id known ∙ is)
    by false is = absurd (clean.present at id (missing a_class id stands is))
  there (outside_target text) by_outside = refl
  there (class_target id) super = elim super [ ]
  there (field_target id) super = elim super [ ]
  there (param_target id) super = elim super [ ]
  there (local_target number) super = elim super [ ]

  never : BeginsSuper (block_mentions body.block) (spelled_block (unit_writer (tidy program) class at) body.block no_locals).references → ⊥
  never begins = clean.read at 0 begins.reference.target (record {
    class = class;
    misread = record {
      class_lives = class-lives-here;
      prints = prints;
      reference = begins.reference;
      stands = ap (λ (rs : List Reference). slice_get rs 0) (names-are ∙ begins.is);
      names = refl;
      there = there begins.reference.target begins.target;
      differs = λ same. none-some begins.reference.target (sym (reads-nothing begins.reference begins.arity begins.asks) ∙ same);
    };
  })

  formed : (block_shape body.block).formed ≡ true
  formed = by (block_shape body.block).formed refl where
    is-body : (known : Known) → get program.known declaration ≡ Some known → (block_shape body.block).body ≡ true
    is-body known is = sym (body-formed known (Some body)) ∙ (and_parts (same_slot slots.Body slots.Body)
        (is_formed known (values.Body (Some body)))
        (tidy_rules.forms declaration slots.Body known (values.Body (Some body)) is held)).1

    by : (b : Bool) → (block_shape body.block).formed ≡ b → b ≡ true
    by true is = refl
    by false is = absurd (never (begins (unit_writer (tidy program) class at) body.block
        (is-body (knowns.Decl method) living.declares) is no_locals))

pub supers-in-place : (program : Program) → IsProgram program → Clean program → SupersInPlace (tidy program)
supers-in-place program rules clean class declaration method kind body lives living no-constructor held =
    formed program rules clean class declaration method kind body lives living no-constructor held
