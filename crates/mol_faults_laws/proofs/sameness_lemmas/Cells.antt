-- What prints in the file of a class that lives: its members, the cells of their names, and what these print, are alike in two such programs.
use Rattle.std.proofs.Common.{Bool, Contains, List, None, Option, Some, [], ap, false, inl, inr, refl, subst, sym, true, ◌++◌, ◌∙◌, ◌∷◌, ◌≡◌, ◌⊎◌}
use Rattle.std.specs.FinMap.{entries, get}
use Rattle.std.specs.List.{flat_map}
use Rattle.std.specs.Option.{option_map_or}
use Rattle.std.specs.Prelude.{if◌then◌else◌, ◌&&◌}
use Rattle.jav_names.specs.DottedNames.{Names}
use Rattle.jav_tree.specs.declared.stmt.Block.{Block}
use Rattle.mol_base.specs.declared.ident.Id.{Id}
use Rattle.mol_resolve_rules.specs.Locals.{no_locals}
use Rattle.mol_resolve_rules.specs.Readers.{Reader, Parameter}
use Rattle.mol_spell_rules.specs.Answers.{answered}
use Rattle.mol_spell_rules.specs.SpelledExpressions.{SpelledExpr, spelled_expr}
use Rattle.mol_spell_rules.specs.SpelledStatements.{SpelledPart, declared_type, spelled_body}
use Rattle.mol_spell_rules.specs.SpelledTypes.{SpelledType}
use Rattle.mol_spell_rules.specs.UnitCells.{is_owned_by, member_in, members_of, member_cells, printed_cells, cell_reader, cell_writer, type_references, first_value_references, references_in, references_at}
use Rattle.mol_spell_rules.specs.Writers.{Importable, Writer, Reference, hides_none}
use Rattle.mol_table_rules.specs.Life.{lives}
use Rattle.mol_table_rules.specs.Mentions.{mentions, type_mentions, expr_mentions, maybe_mentions, param_mentions, block_mentions}
use Rattle.mol_table_rules.specs.Program.{Program, same_id, cell, value_at, living_at, owner_at}
use Rattle.mol_values_types.specs.declared.cell.Cell.{Cell}
use Rattle.mol_values_types.specs.declared.cell.Slot.TheVariants as slots
use Rattle.mol_values_types.specs.declared.iblock.IBody.{IBody}
use Rattle.mol_values_types.specs.declared.iexpr.IExpr.{IExpr}
use Rattle.mol_values_types.specs.declared.itype.IType.{IType}
use Rattle.mol_values_types.specs.declared.known.Known.{Known}
use Rattle.mol_values_types.specs.declared.known.Known.TheVariants as knowns
use Rattle.mol_values_types.specs.declared.param.Param.{Param}
use Rattle.mol_values_types.specs.declared.value.Value.{Value}
use Rattle.mol_values_types.specs.declared.value.Value.TheVariants as values
use Rattle.jav_names.proofs.Lists.{stands_nowhere, stands_where}
use Rattle.mol_resolve_rules.proofs.Stands.{from_some, from_each}
use Rattle.mol_faults_laws.proofs.sameness_lemmas.Alike.{cells-same, class-lives, declaration-lives, field-lives, living-lives, living-same, method-lives, owner-same}
use Rattle.mol_faults_laws.proofs.sameness_lemmas.Entities.{entry-known, made-alike}
use Rattle.mol_faults_laws.proofs.sameness_lemmas.Expressions.{expr-alike}
use Rattle.mol_faults_laws.proofs.sameness_lemmas.Goodness.{AreGoodReferences, IsGoodImportable, IsGoodReference, all-back, all-both, all-front}
use Rattle.mol_faults_laws.proofs.sameness_lemmas.Places.{answered-alike, reader-form, reader_of}
use Rattle.mol_faults_laws.proofs.sameness_lemmas.SpelledTypes.{writer_of, type-alike}
use Rattle.mol_faults_laws.proofs.sameness_lemmas.Statements.{block-alike}
use Rattle.mol_faults_laws.proofs.sameness_lemmas.Twins.{AreGood, IsGood, IsGoodClass, Twins, good-value}

-- ---- members

module _ (P Q : Program) (twins : Twins P Q) (class : Id) where
  owned-same : (id : Id) → is_owned_by P class id ≡ is_owned_by Q class id
  owned-same id = by (living_at P id) refl where
    dead : (a b : Bool) → (false && a) ≡ (false && b)
    dead a b = refl

    by : (b : Bool) → living_at P id ≡ b → is_owned_by P class id ≡ is_owned_by Q class id
    by true living =
        let lives = living-same P Q twins.alike id in
        let owners = owner-same P Q twins.alike id (living-lives P twins.alike.rules id living) in
        λ i. lives i && option_map_or (same_id class) (owners i) false
    by false is =
        ap (λ b. b && option_map_or (same_id class) (owner_at P id) false) is
        ∙ sym (ap (λ b. b && option_map_or (same_id class) (owner_at Q id) false) (sym (living-same P Q twins.alike id) ∙ is))

  member-same : (id : Id) (known : Known) → member_in P class (id, known) ≡ member_in Q class (id, known)
  member-same id knowns.Field = ap (λ b. if b then Some (id, knowns.Field) else None) (owned-same id)
  member-same id (knowns.Decl method) = ap (λ b. if b then Some (id, knowns.Decl method) else None) (owned-same id)
  member-same id knowns.Class = refl
  member-same id (knowns.Method kind) = refl
  member-same id (knowns.Param method) = refl

  pub members-same : members_of P class ≡ members_of Q class
  members-same = made-alike P Q twins.alike.knows (member_in P class) (member_in Q class) (λ id method. refl) (λ id method. refl)
      (λ id known is also entity. member-same id known)

  pub printed-same : printed_cells P class ≡ printed_cells Q class
  printed-same = ap (λ (members : List (Id × Known)). cell class slots.Super ∷ flat_map member_cells members) members-same

-- a field or a declaration that lives
pub data IsMember (P : Program) : Id × Known → Type 0 where
  a_field_member : {id : Id} → get P.known id ≡ Some knowns.Field → living_at P id ≡ true → IsMember P (id, knowns.Field)
  a_declaration_member : {id method : Id} → get P.known id ≡ Some (knowns.Decl method) → living_at P id ≡ true
      → IsMember P (id, knowns.Decl method)

module _ (P : Program) (class : Id) where
  pub member-is : (member : Id × Known) → Contains (members_of P class) member → IsMember P member
  member-is member stands =
      let made = from_some (member_in P class) (entries P.known) member stands in
      by made.0 (entry-known P made.0 made.1) made.2 where
        owned : (entry : Id × Known) (b c : Bool) (kind : Id × Known) → (if b && c then Some kind else None) ≡ Some member
            → (b ≡ true) × (kind ≡ member)
        owned entry true true kind is = (refl, by-some kind is) where
          by-some : (kind : Id × Known) → Some kind ≡ Some member → kind ≡ member
          by-some kind is = cc
        owned entry true false kind is = absurd cc
        owned entry false c kind is = absurd cc

        by : (entry : Id × Known) → get P.known entry.0 ≡ Some entry.1 → member_in P class entry ≡ Some member → IsMember P member
        by (id, knowns.Field) known is =
            let both = owned (id, knowns.Field) (living_at P id) (option_map_or (same_id class) (owner_at P id) false)
            (id, knowns.Field) is in
            subst (IsMember P) both.1 (a_field_member known both.0)
        by (id, knowns.Decl method) known is =
            let both = owned (id, knowns.Decl method) (living_at P id) (option_map_or (same_id class) (owner_at P id) false)
            (id, knowns.Decl method) is in
            subst (IsMember P) both.1 (a_declaration_member known both.0)
        by (id, knowns.Class) known is = absurd cc
        by (id, knowns.Method kind) known is = absurd cc
        by (id, knowns.Param method) known is = absurd cc

module _ (P Q : Program) (twins : Twins P Q) (class : Id) (good : IsGoodClass P class) where
  one-cell : (a at : Cell) → Contains (a ∷ []) at → a ≡ at
  one-cell a at stands = by (stands_where a at [] stands) where
    by : (a ≡ at) ⊎ Contains [] at → a ≡ at
    by (inl same) = same
    by (inr later) = absurd (stands_nowhere at later)

  -- what prints lives
  pub cell-lives : (at : Cell) → Contains (printed_cells P class) at → lives P at.id ≡ true
  cell-lives at stands = by (stands_where (cell class slots.Super) at (flat_map member_cells (members_of P class)) stands) where
    of-member : (member : Id × Known) → IsMember P member → Contains (member_cells member) at → lives P at.id ≡ true
    of-member member (a_field_member {id} is living) there =
        subst (λ (c : Cell). lives P c.id ≡ true) (one-cell (cell id slots.Value) at there) (field-lives P Q twins.alike id is living)
    of-member member (a_declaration_member {id} {method} is living) there = first
        (stands_where (cell method slots.Result) at (cell method slots.Params ∷ cell id slots.Body ∷ []) there) where
          alive : lives P method ≡ true
          alive = method-lives P Q twins.alike id method is living

          second : (cell method slots.Params ≡ at) ⊎ Contains (cell id slots.Body ∷ []) at → lives P at.id ≡ true
          second (inl same) = subst (λ (c : Cell). lives P c.id ≡ true) same alive
          second (inr later) = subst (λ (c : Cell). lives P c.id ≡ true) (one-cell (cell id slots.Body) at later)
              (declaration-lives P Q twins.alike id method is living)

          first : (cell method slots.Result ≡ at) ⊎ Contains (cell method slots.Params ∷ cell id slots.Body ∷ []) at → lives P at.id ≡ true
          first (inl same) = subst (λ (c : Cell). lives P c.id ≡ true) same alive
          first (inr later) = second (stands_where (cell method slots.Params) at (cell id slots.Body ∷ []) later)

    by : (cell class slots.Super ≡ at) ⊎ Contains (flat_map member_cells (members_of P class)) at → lives P at.id ≡ true
    by (inl same) = subst (λ (c : Cell). lives P c.id ≡ true) same (class-lives P Q twins.alike class good)
    by (inr later) =
        let found = from_each member_cells (members_of P class) at later in
        of-member found.0 (member-is P class found.0 found.1) found.2

  -- ---- a cell

  module _ (imports : Names) (first_simple second_simple : Importable → Bool)
      (simple : (what : Importable) → IsGoodImportable P what → first_simple what ≡ second_simple what) (at : Cell)
      (living : lives P at.id ≡ true) where
    abbrev form : (params : List (Parameter Id)) × (in_constructor : Bool)
        × (cell_reader P imports class at ≡ reader_of P imports class params in_constructor)
        × (cell_reader Q imports class at ≡ reader_of Q imports class params in_constructor)
    form = reader-form P Q twins class good imports at living

    abbrev here : Writer
    here = cell_writer P imports first_simple class at

    abbrev there : Writer
    there = cell_writer Q imports second_simple class at

    first-writer : here ≡ writer_of P imports class form.0 form.1 first_simple
    first-writer = λ i. record { program = P; reader = form.2 i; is_simple = first_simple }

    second-writer : there ≡ writer_of Q imports class form.0 form.1 second_simple
    second-writer = λ i. record { program = Q; reader = form.3 i; is_simple = second_simple }

    pub type-at : (type : IType) → AreGood P (type_mentions type)
        → (declared_type here no_locals type ≡ declared_type there no_locals type) × AreGoodReferences P
        (declared_type here no_locals type).references
    type-at type all =
        let same = type-alike P Q twins class good imports form.0 form.1 first_simple second_simple simple hides_none hides_none refl
        no_locals type all in
        let one : declared_type here no_locals type ≡ declared_type (writer_of P imports class form.0 form.1 first_simple) no_locals type =
        ap (λ (w : Writer). declared_type w no_locals type) first-writer in (
          one ∙ same.0 ∙ sym (ap (λ (w : Writer). declared_type w no_locals type) second-writer),
          subst (λ (t : SpelledType). AreGoodReferences P t.references) (sym one) same.1,
        )

    pub expr-at : (e : IExpr) → AreGood P (expr_mentions e)
        → (spelled_expr here no_locals e ≡ spelled_expr there no_locals e) × AreGoodReferences P
        ((spelled_expr here no_locals e).references None)
    expr-at e all =
        let same = expr-alike P Q twins class good imports form.0 form.1 first_simple second_simple simple no_locals (tt {0}) e all in
        let one : spelled_expr here no_locals e ≡ spelled_expr (writer_of P imports class form.0 form.1 first_simple) no_locals e =
        ap (λ (w : Writer). spelled_expr w no_locals e) first-writer in (
          one ∙ same.same ∙ sym (ap (λ (w : Writer). spelled_expr w no_locals e) second-writer),
          subst (λ (s : SpelledExpr). AreGoodReferences P (s.references None)) (sym one) (same.references None),
        )

    pub body-at : (body : IBody) → AreGood P (block_mentions body.block)
        → (spelled_body here body ≡ spelled_body there body) × AreGoodReferences P (spelled_body here body).references
    body-at body all =
        let same = block-alike P Q twins class good imports form.0 form.1 first_simple second_simple simple body.block all no_locals
        (tt {0}) in
        let one : spelled_body here body ≡ spelled_body (writer_of P imports class form.0 form.1 first_simple) body =
        ap (λ (w : Writer). spelled_body w body) first-writer in (
          one ∙ same.same ∙ sym (ap (λ (w : Writer). spelled_body w body) second-writer),
          subst (λ (s : SpelledPart Block). AreGoodReferences P s.references) (sym one) same.references,
        )

    abbrev RefsAlike : List Reference → List Reference → Type 0
    RefsAlike rs ss = (rs ≡ ss) × AreGoodReferences P rs

    both : (rs ss us vs : List Reference) → RefsAlike rs ss → RefsAlike us vs → RefsAlike (rs ++ us) (ss ++ vs)
    both rs ss us vs first second = ((λ i. first.0 i ++ second.0 i), all-both (IsGoodReference P) rs us first.1 second.1)

    type-refs : (type : IType) → AreGood P (type_mentions type) → RefsAlike (type_references here type) (type_references there type)
    type-refs type all = let same = type-at type all in (ap (λ (t : SpelledType). t.references) same.0, same.1)

    params-refs : (params : List Param) → AreGood P (flat_map param_mentions params)
        → RefsAlike (flat_map (λ (param : Param). type_references here param.ty) params)
        (flat_map (λ (param : Param). type_references there param.ty) params)
    params-refs [] all = (refl, tt {0})
    params-refs (param ∷ params) all =
        both (type_references here param.ty) (type_references there param.ty) _ _
        (type-refs param.ty (all-front (IsGood P) (param_mentions param) (flat_map param_mentions params) all).1)
        (params-refs params (all-back (IsGood P) (param_mentions param) (flat_map param_mentions params) all))

    maybe-refs : (o : Option IExpr) → AreGood P (maybe_mentions o)
        → RefsAlike (first_value_references here o) (first_value_references there o)
    maybe-refs None all = (refl, tt {0})
    maybe-refs (Some e) all = let same = expr-at e all in (ap (λ (s : SpelledExpr). s.references None) same.0, same.1)

    value-refs : (o : Option Value) → ((value : Value) → o ≡ Some value → AreGood P (mentions value))
        → RefsAlike (references_in here o) (references_in there o)
    value-refs None all = (refl, tt {0})
    value-refs (Some (values.Live x)) all = (refl, tt {0})
    value-refs (Some (values.Package x)) all = (refl, tt {0})
    value-refs (Some (values.Owner x)) all = (refl, tt {0})
    value-refs (Some (values.Method x)) all = (refl, tt {0})
    value-refs (Some (values.Name x)) all = (refl, tt {0})
    value-refs (Some (values.Super None)) all = (refl, tt {0})
    value-refs (Some (values.Super (Some parent))) all = type-refs parent (all (values.Super (Some parent)) refl)
    value-refs (Some (values.Result type)) all = type-refs type (all (values.Result type) refl)
    value-refs (Some (values.Params params)) all = params-refs params (all (values.Params params) refl)
    value-refs (Some (values.Kind x)) all = (refl, tt {0})
    value-refs (Some (values.Fixed x)) all = (refl, tt {0})
    value-refs (Some (values.Words x)) all = (refl, tt {0})
    value-refs (Some (values.Notes x)) all = (refl, tt {0})
    value-refs (Some (values.Body None)) all = (refl, tt {0})
    value-refs (Some (values.Body (Some body))) all =
        let same = body-at body (all (values.Body (Some body)) refl) in (ap (λ (s : SpelledPart Block). s.references) same.0, same.1)
    value-refs (Some (values.Value type init)) all =
        let these = all (values.Value type init) refl in
        both (type_references here type) (type_references there type) (first_value_references here init) (first_value_references there init)
        (type-refs type (all-front (IsGood P) (type_mentions type) (maybe_mentions init) these))
        (maybe-refs init (all-back (IsGood P) (type_mentions type) (maybe_mentions init) these))

    -- the references of the cell
    pub refs-at : RefsAlike (references_at here at) (references_at there at)
    refs-at =
        let same = value-refs (value_at P at.id at.slot) (λ value holds. good-value P Q twins at.id at.slot value living holds) in
        (same.0 ∙ ap (references_in there) (cells-same P Q twins.alike at.id at.slot living), same.1)

    -- what they read as
    pub answered-same : (reference : Reference) → IsGoodReference P reference
        → answered (cell_reader P imports class at) reference ≡ answered (cell_reader Q imports class at) reference
    answered-same reference is =
        ap (λ (r : Reader Id Id). answered r reference) form.2
        ∙ answered-alike P Q twins class good imports form.0 form.1 reference.locals reference.asked is.asked
        ∙ sym (ap (λ (r : Reader Id Id). answered r reference) form.3)
