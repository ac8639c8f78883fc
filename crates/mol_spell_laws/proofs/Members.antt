-- The members of a program that keeps the rules are written as members that are printable.
use Rattle.std.proofs.Common.{◌≡◌, ◌≢◌, ◌≤◌, Bool, true, false, List, [], ◌∷◌, length, map, flat_map, option_map, Option, Some, None, refl, sym, ◌∙◌, ap, subst, true≢false, arith}
use Rattle.std.specs.FinMap.{get}
use Rattle.std.specs.List.{list_all}
use Rattle.std.specs.Option.{option_map_or}
use Rattle.std.proofs.lemmas.Bool.{and_parts, leb-true}
use Rattle.std.proofs.lemmas.List.{length-map}
use Rattle.mol_base.specs.Modifiers.{field_words, constructor_words, kept_words, kept_of_method}
use Rattle.mol_base.specs.declared.ident.Id.{Id}
use Rattle.jav_print_laws.proofs.printable_lemmas.Expressions.{both}
use Rattle.jav_print_laws.proofs.printable_lemmas.Widths.{max_within}
use Rattle.jav_tree.specs.Blocks.{block_of}
use Rattle.jav_tree.specs.EachExpression.{map_member}
use Rattle.jav_tree.specs.Height.{tallest, tallest_maybe}
use Rattle.jav_tree.specs.Layout.{method_words}
use Rattle.jav_tree.specs.Parens.{expr_without_parens, block_without_parens}
use Rattle.jav_tree.specs.Printable as printable
use Rattle.jav_tree.specs.Printable.{IsPrintableMember, AllowedOfMethod}
use Rattle.jav_tree.specs.PrintableExpressions.{TypeUses, type_uses}
use Rattle.jav_tree.specs.PrintableStatements.{is_first_value}
use Rattle.jav_tree.specs.TokenTexts.{is_name, are_comments}
use Rattle.jav_tree.specs.Widths.{type_width, counted, block_width, param_width, member_width}
use Rattle.jav_tree.specs.declared.expr.Expr.{Expr}
use Rattle.jav_tree.specs.declared.stmt.Block.{Block}
use Rattle.jav_tree.specs.declared.unit.Member.{Member}
use Rattle.jav_tree.specs.declared.unit.Member.TheVariants as member
use Rattle.jav_tree.specs.declared.unit.Method.{Method}
use Rattle.jav_tree.specs.declared.unit.Param.{Param as ParamName}
use Rattle.mol_resolve_rules.specs.Locals.{no_locals}
use Rattle.mol_resolve_rules.specs.ProgramViews.{words_in}
use Rattle.mol_spell_rules.specs.SpelledStatements.{maybe_expr, spelled_body}
use Rattle.mol_spell_rules.specs.SpelledUnits.{words_at, notes_in, notes_at, writing, type_tree, first_value_tree, result_tree, param_of, params_of, body_in, body_tree, field_member, constructor_member, method_member, declaration_member, spelled_member}
use Rattle.mol_spell_rules.specs.UnitCells.{is_owned_by}
use Rattle.mol_spell_rules.specs.Writers.{Writer, hides_none}
use Rattle.mol_table_rules.proofs.Counts.{none-some, some-same}
use Rattle.mol_table_rules.proofs.Living.{id_tied}
use Rattle.mol_table_rules.specs.ExpressionForms.{is_initial}
use Rattle.mol_table_rules.specs.Forms.{is_param, is_formed}
use Rattle.mol_table_rules.specs.Mentions.{Mention, a_listed_param, named, param_mentions, type_mentions, maybe_mentions, body_mentions}
use Rattle.mol_table_rules.specs.Program.{Program, same_id, value_at, living_at, name_at, owner_at, params_in}
use Rattle.mol_table_rules.specs.Renumber.{is_living_class}
use Rattle.mol_table_rules.specs.Rules.{IsProgram, is_declared}
use Rattle.mol_table_rules.specs.StatementForms.{is_body, block_shape}
use Rattle.mol_table_rules.specs.TypeForms.{is_type}
use Rattle.mol_values_types.specs.Words.{are_words, is_declaration}
use Rattle.mol_values_types.specs.Slots.{slot_of, same_slot, has_slot}
use Rattle.mol_values_types.specs.declared.cell.Slot.{Slot}
use Rattle.mol_values_types.specs.declared.cell.Slot.TheVariants as slots
use Rattle.mol_values_types.specs.declared.iblock.IBody.{IBody}
use Rattle.mol_values_types.specs.declared.iexpr.IExpr.{IExpr}
use Rattle.mol_values_types.specs.declared.itype.IType.{IType}
use Rattle.mol_values_types.specs.declared.kind.MethodKind.{MethodKind}
use Rattle.mol_values_types.specs.declared.kind.MethodKind.TheVariants.{Instance, Static, Constructor}
use Rattle.mol_values_types.specs.declared.known.Known.{Known}
use Rattle.mol_values_types.specs.declared.known.Known.TheVariants as knowns
use Rattle.mol_values_types.specs.declared.param.Param.{Param}
use Rattle.mol_values_types.specs.declared.value.Value.{Value}
use Rattle.mol_values_types.specs.declared.value.Value.TheVariants as values
use Rattle.mol_values_types.specs.declared.words.Notes.{Notes}
use Rattle.mol_values_types.specs.declared.words.Words.{Words}
use Rattle.mol_spell_laws.proofs.KnownNames.{IsCalled, instance, static, value-there, field-named, method-named}
use Rattle.mol_spell_laws.proofs.StatementParts as parts
use Rattle.mol_spell_laws.proofs.StatementTrees.{MaybeFits, BlockFits, BodyFits}
use Rattle.mol_spell_laws.proofs.Statements.{block-right}
use Rattle.mol_spell_laws.proofs.TypeTrees.{are_known, both-known, type-fits, narrow-type, result-fits}
use Rattle.mol_spell_laws.proofs.ValueForms.{result-is, params-is, words-is, notes-is, body-is, field-value-is, params-formed, body-formed, result-formed}
use Rattle.mol_spell_laws.proofs.Words.{MethodWordsAre, ordered-is, field-words-are, constructor-words-are, method-words-are}
use Rattle.mol_spell_laws.specs.PrintableFiles.{SupersInPlace}

-- ---- what is proved of a member

pub record MemberFits (m : Member) : Type 0 where
  pub printable : IsPrintableMember m
  pub narrow : member_width m ≤ 255
  pub bare : map_member expr_without_parens m ≡ m

-- of parameters
record ParamsFit (ps : List ParamName) : Type 0 where
  params : list_all printable.is_param ps ≡ true
  narrow : counted (map param_width ps) ≤ 255

-- of the block of a method, or none
record MethodBlockFits (b : Option Block) : Type 0 where
  block : printable.is_body b ≡ true
  narrow : tallest_maybe (option_map block_width b) ≤ 255
  bare : option_map block_without_parens b ≡ b

module _ (program : Program) (rules : IsProgram program) where
  -- ---- cells

  -- the value of a slot of what is known, with its form
  pub there-as : {A : Type 0} (slot : Slot) (make : A → Value)
      → ((value : Value) → same_slot (slot_of value) slot ≡ true → (a : A) × (value ≡ make a)) → (id : Id) (known : Known)
      → get program.known id ≡ Some known → has_slot (Some known) slot ≡ true
      → (a : A) × ((value_at program id slot ≡ Some (make a)) × (is_formed known (make a) ≡ true))
  there-as slot make read id known is has =
      let there = value-there program rules id slot known is has in
      let form = and_parts (same_slot (slot_of there.0) slot) (is_formed known there.0) there.2 in
      let found = read there.0 form.0 in
      (found.0, (there.1 ∙ ap Some found.1, subst (λ (value : Value). is_formed known value ≡ true) found.1 form.1))

  abbrev all : Id → List Mention → Bool
  all owner = are_known program owner

  -- the comments before a member
  front-comments : (id : Id) (known : Known) → get program.known id ≡ Some known → has_slot (Some known) slots.Notes ≡ true
      → ((notes : Notes) → is_formed known (values.Notes notes) ≡ true → are_comments notes.front ≡ true)
      → are_comments (notes_at program id).front ≡ true
  front-comments id known is has each =
      let notes = there-as slots.Notes (λ notes. values.Notes notes) notes-is id known is has in
      ap (λ (o : Option Value). are_comments (notes_in o).front) notes.1.0 ∙ each notes.0 notes.1.1

  field-comments : (id : Id) → get program.known id ≡ Some knowns.Field → are_comments (notes_at program id).front ≡ true
  field-comments id is = front-comments id knowns.Field is refl (λ notes formed. (and_parts _ _ (and_parts _ _ formed).0).0)

  declaration-comments : (id method : Id) → get program.known id ≡ Some (knowns.Decl method)
      → are_comments (notes_at program id).front ≡ true
  declaration-comments id method is =
      front-comments id (knowns.Decl method) is refl (λ notes formed. (and_parts _ _ (and_parts _ _ formed).0).0)

  module _ (class : Id) where
    -- ---- types

    abbrev here : Id → Slot → Writer
    here id slot = writing program class id slot

    type-here : (id : Id) (slot : Slot) (type : IType) → is_type type ≡ true → all id (type_mentions type) ≡ true
        → ((type_uses (type_tree program class (here id slot) type)).is_type ≡ true) ×
        (type_width (type_tree program class (here id slot) type) ≤ 255)
    type-here id slot type formed are =
        let fits = type-fits (here id slot) rules id hides_none no_locals type formed are in (
          ap (λ (u : TypeUses). u.is_type) fits.uses,
          narrow-type (here id slot) rules id hides_none no_locals _ _ _ _ fits (and_parts _ _ formed).1,
        )

    -- ---- fields

    first-is : (writer : Writer) (init : Option IExpr) → (maybe_expr writer init no_locals).tree
        ≡ first_value_tree program class writer init
    first-is writer None = refl
    first-is writer (Some e) = refl

    first-fits : (id : Id) (init : Option IExpr) → option_map_or is_initial init true ≡ true → all id (maybe_mentions init) ≡ true
        → MaybeFits is_first_value (first_value_tree program class (here id slots.Value) init)
    first-fits id init formed are = subst (MaybeFits is_first_value) (first-is (here id slots.Value) init)
        (parts.write-first (here id slots.Value) rules id init formed are no_locals refl).tree

    field-fits : (id : Id) → get program.known id ≡ Some knowns.Field → (m : Member)
        → field_member program class id (value_at program id slots.Value) ≡ Some m → MemberFits m
    field-fits id is m made = subst MemberFits (some-same _ m (sym (ap (field_member program class id) value.1.0) ∙ made)) (record {
      printable = record {
        comments = field-comments id is;
        allowed = field-words-are (words_at program id) words-are;
        ordered = ordered-is field_words (words_at program id) words-are;
        typed = typed.0;
        named = field-named program rules id is;
        first_value = first.value;
      };
      narrow = max_within _ _ 255 typed.1 first.narrow;
      bare = ap (λ (init : Option Expr). member.Field (record {
        front = (notes_at program id).front;
        at = 0;
        words = words_at program id;
        ty = type_tree program class (here id slots.Value) value.0.0;
        name = name_at program id;
        init = init;
      })) first.bare;
    }) where
      value : (parts : IType × Option IExpr) × ((value_at program id slots.Value ≡ Some (values.Value parts.0 parts.1))
          × (is_formed knowns.Field (values.Value parts.0 parts.1) ≡ true))
      value = there-as slots.Value (λ (parts : IType × Option IExpr). values.Value parts.0 parts.1) field-value-is id knowns.Field is refl

      form : (is_type value.0.0 ≡ true) × (option_map_or is_initial value.0.1 true ≡ true)
      form = and_parts (is_type value.0.0) (option_map_or is_initial value.0.1 true) value.1.1

      mentioned : (all id (type_mentions value.0.0) ≡ true) × (all id (maybe_mentions value.0.1) ≡ true)
      mentioned = both-known program id (type_mentions value.0.0) (maybe_mentions value.0.1)
          (rules.references id slots.Value (values.Value value.0.0 value.0.1) value.1.0)

      typed : ((type_uses (type_tree program class (here id slots.Value) value.0.0)).is_type ≡ true)
          × (type_width (type_tree program class (here id slots.Value) value.0.0) ≤ 255)
      typed = type-here id slots.Value value.0.0 form.0 mentioned.0

      first : MaybeFits is_first_value (first_value_tree program class (here id slots.Value) value.0.1)
      first = first-fits id value.0.1 form.1 mentioned.1

      words : (words : Words) × ((value_at program id slots.Words ≡ Some (values.Words words)) ×
          (is_formed knowns.Field (values.Words words) ≡ true))
      words = there-as slots.Words (λ words. values.Words words) words-is id knowns.Field is refl

      words-are : are_words field_words (words_at program id) ≡ true
      words-are = ap (λ (o : Option Value). are_words field_words (words_in o)) words.1.0 ∙ words.1.1

    -- ---- parameters

    params-fit-all : (method : Id) (params : List Param) → list_all is_param params ≡ true
        → all method (flat_map param_mentions params) ≡ true
        → (list_all printable.is_param (map (param_of program class method) params) ≡ true)
        × (tallest (map param_width (map (param_of program class method) params)) ≤ 255)
    params-fit-all method [] formed are = (refl, omega arith)
    params-fit-all method (param ∷ params) formed are =
        let form = and_parts (is_param param) (list_all is_param params) formed in
        let front = and_parts _ _ (and_parts _ _ form.0).0 in
        let mentioned = both-known program method (param_mentions param) (flat_map param_mentions params) are in
        let of_type = both-known program method (named a_listed_param param.id) (type_mentions param.ty) mentioned.0 in
        let type = type-here method slots.Params param.ty front.1 of_type.1 in
        let rest = params-fit-all method params form.1 mentioned.1 in
        (both (both type.0 front.0) rest.0, max_within _ _ 255 type.1 rest.1)

    params-fit : (method : Id) (kind : MethodKind) → get program.known method ≡ Some (knowns.Method kind)
        → ParamsFit (params_of program class method)
    params-fit method kind is =
        let params = there-as slots.Params (λ params. values.Params params) params-is method (knowns.Method kind) is refl in
        let form = and_parts _ _ (and_parts _ _ (sym (params-formed (knowns.Method kind) params.0) ∙ params.1.1)).0 in
        let fits = params-fit-all method params.0 form.0 (rules.references method slots.Params (values.Params params.0) params.1.0) in
        let few = leb-true (length params.0) 255 form.1 in
        subst (λ (ps : List Param). ParamsFit (map (param_of program class method) ps)) (sym (ap params_in params.1.0)) (record {
          params = fits.0;
          narrow = max_within _ _ 255
              (let same = length-map (map (param_of program class method) params.0) param_width in
              let as_many = length-map params.0 (param_of program class method) in omega (arith, same, as_many, few)) fits.1;
        })

    -- ---- results

    result-here : (method : Id) (kind : MethodKind) → get program.known method ≡ Some (knowns.Method kind)
        → ((type_uses (result_tree program class method (value_at program method slots.Result))).is_result ≡ true)
        × (type_width (result_tree program class method (value_at program method slots.Result)) ≤ 255)
    result-here method kind is =
        let result = there-as slots.Result (λ type. values.Result type) result-is method (knowns.Method kind) is refl in
        let fits = result-fits (here method slots.Result) rules method hides_none no_locals result.0
        (result-formed (knowns.Method kind) result.0 result.1.1) (rules.references method slots.Result
        (values.Result result.0) result.1.0) in
        subst (λ (o : Option Value). ((type_uses (result_tree program class method o)).is_result ≡ true) ×
        (type_width (result_tree program class method o) ≤ 255))
        (sym result.1.0) (fits.result, fits.wide)

    -- ---- declarations

    module _ (declaration method : Id) (is : get program.known declaration ≡ Some (knowns.Decl method)) (kind : MethodKind)
        (of-kind : get program.known method ≡ Some (knowns.Method kind)) where
      words : (words : Words) × ((value_at program declaration slots.Words ≡ Some (values.Words words))
          × (is_formed (knowns.Decl method) (values.Words words) ≡ true))
      words = there-as slots.Words (λ words. values.Words words) words-is declaration (knowns.Decl method) is refl

      body : (body : Option IBody) × ((value_at program declaration slots.Body ≡ Some (values.Body body))
          × (is_formed (knowns.Decl method) (values.Body body) ≡ true))
      body = there-as slots.Body (λ body. values.Body body) body-is declaration (knowns.Decl method) is refl

      declared : is_declaration kind (words_at program declaration) body.0 ≡ true
      declared =
          ap (λ (o : Option Value). is_declaration kind (words_in o) body.0) words.1.0
          ∙ sym (λ i. is_declared kind (words.1.0 i) (body.1.0 i)) ∙ rules.declarations declaration method kind is of-kind

      mentioned : all declaration (body_mentions body.0) ≡ true
      mentioned = rules.references declaration slots.Body (values.Body body.0) body.1.0

      -- the block, where it is that of a method, and where it is that of a constructor
      block-here : (b : IBody) → body.0 ≡ Some b → (block_shape b.block).formed ≡ true
          → BlockFits (spelled_body (here declaration slots.Body) b).tree
      block-here b held formed =
          ((block-right (here declaration slots.Body) rules declaration b.block
          (subst (λ (o : Option IBody). all declaration (body_mentions o) ≡ true) held mentioned)).0 formed no_locals refl).tree

      body-here : (b : IBody) → body.0 ≡ Some b → BodyFits (spelled_body (here declaration slots.Body) b).tree
      body-here b held =
          ((block-right (here declaration slots.Body) rules declaration b.block
          (subst (λ (o : Option IBody). all declaration (body_mentions o) ≡ true) held mentioned)).1
          (subst (λ (o : Option IBody). option_map_or is_body o true ≡ true) held
          (sym (body-formed (knowns.Decl method) body.0) ∙ body.1.1))
          no_locals refl).tree

      tree-is : (o : Option IBody) → body.0 ≡ o → body_in program class declaration
          (Some (values.Body o)) ≡ body_tree program class declaration
      tree-is o held = ap (body_in program class declaration) (ap (λ (o : Option IBody). Some (values.Body o)) (sym held) ∙ sym body.1.0)

    -- ---- methods

    abbrev method_with : Bool → Id → Id → Option Block → Method
    method_with is_static declaration method block = record {
      front = (notes_at program declaration).front;
      at = 0;
      words = words_at program declaration;
      is_static = is_static;
      result = result_tree program class method (value_at program method slots.Result);
      name = name_at program method;
      params = params_of program class method;
      block = block;
    }

    method-fits : (is_static : Bool) (declaration method : Id) → get program.known declaration ≡ Some (knowns.Decl method)
        → (kind : MethodKind)
        → get program.known method ≡ Some (knowns.Method kind) → is_name (name_at program method) ≡ true → (block : Option Block)
        → MethodBlockFits block → AllowedOfMethod (method_words (method_with is_static declaration method block)) block
        → kept_of_method (method_words (method_with is_static declaration method block)) ≡ words_at program declaration
        → MemberFits (member.Method (method_with is_static declaration method block))
    method-fits is_static declaration method is kind of-kind is-named block fits allowed kept =
        let result = result-here method kind of-kind in
        let params = params-fit method kind of-kind in
        record {
          printable = record {
            comments = declaration-comments declaration method is;
            allowed = allowed;
            ordered = kept;
            typed = result.0;
            named = is-named;
            params = params.params;
            body = fits.block;
          };
          narrow = max_within _ _ 255 result.1 (max_within _ _ 255 params.narrow fits.narrow);
          bare = ap (λ (b : Option Block). member.Method (method_with is_static declaration method b)) fits.bare;
        }

    no-block : MethodBlockFits None
    no-block = record { block = refl; narrow = omega arith; bare = refl }

    some-block : (b : Block) → BlockFits b → MethodBlockFits (Some b)
    some-block b fits = record { block = fits.block; narrow = fits.narrow; bare = ap (λ (b : Block). Some b) fits.bare }

    -- The bodies of a declaration of a method that is no constructor may stand inside a body.
    abbrev StandsInside : Id → Type 0
    StandsInside declaration =
        (b : IBody) → value_at program declaration slots.Body ≡ Some (values.Body (Some b)) → (block_shape b.block).formed ≡ true

    instance-fits : (declaration method : Id) → get program.known declaration ≡ Some (knowns.Decl method)
        → get program.known method ≡ Some (knowns.Method Instance) → StandsInside declaration
        → MemberFits (method_member program class false declaration method)
    instance-fits declaration method is of-kind inside = by (body declaration method is Instance of-kind).0 refl where
      are : are_words kept_words (words_at program declaration) ≡ true
      are = declared declaration method is Instance of-kind

      words-method : MethodWordsAre (words_at program declaration)
      words-method = method-words-are (words_at program declaration) are

      is-named : is_name (name_at program method) ≡ true
      is-named = method-named program rules method (subst IsCalled (sym of-kind) instance)

      by : (o : Option IBody) → (body declaration method is Instance of-kind).0 ≡ o
          → MemberFits (method_member program class false declaration method)
      by None held =
          subst (λ (b : Option Block). MemberFits (member.Method (method_with false declaration method b)))
          (tree-is declaration method is Instance of-kind None held)
          (method-fits false declaration method is Instance of-kind is-named None no-block words-method.abstract_words
          words-method.abstract_kept)
      by (Some b) held =
          let tree = (spelled_body (here declaration slots.Body) b).tree in
          let formed = inside b ((body declaration method is Instance of-kind).1.0
          ∙ ap (λ (o : Option IBody). Some (values.Body o)) held) in
          subst (λ (b : Option Block). MemberFits (member.Method (method_with false declaration method b)))
          (tree-is declaration method is Instance of-kind (Some b) held)
          (method-fits false declaration method is Instance of-kind is-named (Some tree)
          (some-block tree (block-here declaration method is Instance of-kind b held formed)) words-method.instance
          words-method.instance_kept)

    static-fits : (declaration method : Id) → get program.known declaration ≡ Some (knowns.Decl method)
        → get program.known method ≡ Some (knowns.Method Static) → StandsInside declaration
        → MemberFits (method_member program class true declaration method)
    static-fits declaration method is of-kind inside =
        by (body declaration method is Static of-kind).0 refl (declared declaration method is Static of-kind) where
          is-named : is_name (name_at program method) ≡ true
          is-named = method-named program rules method (subst IsCalled (sym of-kind) static)

          by : (o : Option IBody) → (body declaration method is Static of-kind).0 ≡ o
              → is_declaration Static (words_at program declaration) o ≡ true
              → MemberFits (method_member program class true declaration method)
          by None held none = absurd (true≢false (sym none))
          by (Some b) held are =
              let words-method = method-words-are (words_at program declaration) are in
              let tree = (spelled_body (here declaration slots.Body) b).tree in
              let formed = inside b ((body declaration method is Static of-kind).1.0
              ∙ ap (λ (o : Option IBody). Some (values.Body o)) held) in
              subst (λ (b : Option Block). MemberFits (member.Method (method_with true declaration method b)))
              (tree-is declaration method is Static of-kind (Some b) held)
              (method-fits true declaration method is Static of-kind is-named (Some tree)
              (some-block tree (block-here declaration method is Static of-kind b held formed)) words-method.static
              words-method.static_kept)

    -- ---- constructors

    abbrev constructor_with : Id → Id → Option Block → Member
    constructor_with declaration method block = member.Ctor (record {
      front = (notes_at program declaration).front;
      at = 0;
      words = words_at program declaration;
      params = params_of program class method;
      block = option_map_or (λ block. block) block (block_of [] []);
    })

    constructor-fits : (declaration method : Id) → get program.known declaration ≡ Some (knowns.Decl method)
        → get program.known method ≡ Some (knowns.Method Constructor) → MemberFits (constructor_member program class declaration method)
    constructor-fits declaration method is of-kind =
        by (body declaration method is Constructor of-kind).0 refl (declared declaration method is Constructor of-kind) where
          by : (o : Option IBody) → (body declaration method is Constructor of-kind).0 ≡ o
              → is_declaration Constructor (words_at program declaration) o ≡ true
              → MemberFits (constructor_member program class declaration method)
          by None held none = absurd (true≢false (sym none))
          by (Some b) held are =
              let block = body-here declaration method is Constructor of-kind b held in
              let params = params-fit method Constructor of-kind in
              subst (λ (b : Option Block). MemberFits (constructor_with declaration method b))
              (tree-is declaration method is Constructor of-kind (Some b) held) (record {
                printable = record {
                  comments = declaration-comments declaration method is;
                  allowed = constructor-words-are (words_at program declaration) are;
                  ordered = ordered-is constructor_words (words_at program declaration) are;
                  params = params.params;
                  body = block.body;
                };
                narrow = max_within _ _ 255 params.narrow block.narrow;
                bare = ap (λ (b : Block). constructor_with declaration method (Some b)) block.bare;
              })

    -- ---- members of the class

    owner-is : (id : Id) (owner : Option Id) → owner_at program id ≡ owner → option_map_or (same_id class) owner false ≡ true
        → owner_at program id ≡ Some class
    owner-is id None held same = absurd (true≢false (sym same))
    owner-is id (Some owner) held same = held ∙ ap (λ (c : Id). Some c) (sym (id_tied class owner same))

    module _ (placed : SupersInPlace program) (lives : is_living_class program class ≡ true) where
      stands-inside : (declaration method : Id) → get program.known declaration ≡ Some (knowns.Decl method) → (kind : MethodKind)
          → get program.known method ≡ Some (knowns.Method kind) → kind ≢ Constructor → is_owned_by program class declaration ≡ true
          → StandsInside declaration
      stands-inside declaration method is kind of-kind no-constructor owned b held =
          let own = and_parts (living_at program declaration) (option_map_or (same_id class) (owner_at program declaration) false) owned in
          placed class declaration method kind b lives (record {
            declares = is;
            declaration_lives = own.0;
            is_kind = of-kind;
            owned = owner-is declaration (owner_at program declaration) refl own.1;
          }) no-constructor held

      declaration-fits : (declaration method : Id) → get program.known declaration ≡ Some (knowns.Decl method)
          → is_owned_by program class declaration ≡ true → (known : Option Known) → get program.known method ≡ known → (m : Member)
          → declaration_member program class declaration method known ≡ Some m → MemberFits m
      declaration-fits declaration method is owned (Some (knowns.Method Instance)) of-kind m made = subst MemberFits (some-same _ m made)
          (instance-fits declaration method is of-kind (stands-inside declaration method is Instance of-kind (λ same. cc) owned))
      declaration-fits declaration method is owned (Some (knowns.Method Static)) of-kind m made = subst MemberFits (some-same _ m made)
          (static-fits declaration method is of-kind (stands-inside declaration method is Static of-kind (λ same. cc) owned))
      declaration-fits declaration method is owned (Some (knowns.Method Constructor)) of-kind m made =
          subst MemberFits (some-same _ m made) (constructor-fits declaration method is of-kind)
      declaration-fits declaration method is owned None of-kind m made = absurd (none-some m made)
      declaration-fits declaration method is owned (Some knowns.Class) of-kind m made = absurd (none-some m made)
      declaration-fits declaration method is owned (Some knowns.Field) of-kind m made = absurd (none-some m made)
      declaration-fits declaration method is owned (Some (knowns.Decl other)) of-kind m made = absurd (none-some m made)
      declaration-fits declaration method is owned (Some (knowns.Param other)) of-kind m made = absurd (none-some m made)

      pub member-fits : (entry : Id × Known) → get program.known entry.0 ≡ Some entry.1 → is_owned_by program class entry.0 ≡ true
          → (m : Member)
          → spelled_member program class entry ≡ Some m → MemberFits m
      member-fits (id, knowns.Field) is owned m made = field-fits id is m made
      member-fits (id, knowns.Decl method) is owned m made = declaration-fits id method is owned (get program.known method) refl m made
      member-fits (id, knowns.Class) is owned m made = absurd (none-some m made)
      member-fits (id, knowns.Method kind) is owned m made = absurd (none-some m made)
      member-fits (id, knowns.Param method) is owned m made = absurd (none-some m made)
