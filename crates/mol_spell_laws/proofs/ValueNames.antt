-- What the values of a program name may be imported, in whatever file they print.
use Rattle.std.proofs.Common.{◌≡◌, Bool, true, List, [], ◌∷◌, ◌++◌, flat_map, Option, Some, None, refl, sym, ◌∙◌}
use Rattle.std.specs.Prelude.{◌&&◌}
use Rattle.std.specs.List.{list_all}
use Rattle.std.specs.Option.{option_map_or}
use Rattle.std.proofs.lemmas.Bool.{and_parts}
use Rattle.mol_base.specs.declared.ident.Id.{Id}
use Rattle.mol_resolve_rules.specs.Locals.{no_locals}
use Rattle.mol_spell_rules.specs.UnitCells.{type_references, first_value_references, references_in}
use Rattle.mol_spell_rules.specs.Writers.{Writer, hides_none, Reference}
use Rattle.mol_table_rules.specs.ExpressionForms.{is_initial}
use Rattle.mol_table_rules.specs.Forms.{is_param, is_formed, has_form}
use Rattle.mol_table_rules.specs.Mentions.{Mention, a_listed_param, named, mentions, param_mentions, parent_mentions, type_mentions, maybe_mentions, body_mentions}
use Rattle.mol_table_rules.specs.Rules.{IsProgram}
use Rattle.mol_table_rules.specs.StatementForms.{is_body}
use Rattle.mol_table_rules.specs.TypeForms.{is_type, is_result, is_class}
use Rattle.mol_values_types.specs.Slots.{slot_of, same_slot}
use Rattle.mol_values_types.specs.declared.cell.Slot.{Slot}
use Rattle.mol_values_types.specs.declared.iblock.IBody.{IBody}
use Rattle.mol_values_types.specs.declared.iexpr.IExpr.{IExpr}
use Rattle.mol_values_types.specs.declared.itype.IType.{IType}
use Rattle.mol_values_types.specs.declared.known.Known.{Known}
use Rattle.mol_values_types.specs.declared.param.Param.{Param}
use Rattle.mol_values_types.specs.declared.value.Value.{Value}
use Rattle.mol_values_types.specs.declared.value.Value.TheVariants as values
use Rattle.mol_spell_laws.proofs.StatementParts as parts
use Rattle.mol_spell_laws.proofs.Statements.{block-right}
use Rattle.mol_spell_laws.proofs.TypeTrees.{are_uses, both-use, are_known, both-known, type-fits, result-fits, parent-fits}
use Rattle.mol_spell_laws.proofs.ValueForms.{super-formed, params-formed, body-formed, field-formed, result-formed}

module _ (writer : Writer) (rules : IsProgram writer.program) (owner : Id) where
  abbrev all : List Mention → Bool
  all = are_known writer.program owner

  abbrev uses : List Reference → Bool
  uses = are_uses writer.program

  type-uses : (type : IType) → is_type type ≡ true → all (type_mentions type) ≡ true → uses (type_references writer type) ≡ true
  type-uses type formed are = (type-fits writer rules owner hides_none no_locals type formed are).names

  result-uses : (type : IType) → is_result type ≡ true → all (type_mentions type) ≡ true → uses (type_references writer type) ≡ true
  result-uses type formed are = (result-fits writer rules owner hides_none no_locals type formed are).names

  super-uses : (parent : Option IType) → option_map_or is_class parent true ≡ true → all (parent_mentions parent) ≡ true
      → uses (references_in writer (Some (values.Super parent))) ≡ true
  super-uses None formed are = refl
  super-uses (Some parent) formed are = (parent-fits writer rules owner hides_none no_locals parent formed are).names

  params-uses : (params : List Param) → list_all is_param params ≡ true → all (flat_map param_mentions params) ≡ true
      → uses (flat_map (λ (param : Param). type_references writer param.ty) params) ≡ true
  params-uses [] formed are = refl
  params-uses (param ∷ params) formed are =
      let form = and_parts (is_param param) (list_all is_param params) formed in
      let typed = (and_parts _ _ (and_parts _ _ form.0).0).1 in
      let mentioned = both-known writer.program owner (param_mentions param) (flat_map param_mentions params) are in
      let type = both-known writer.program owner (named a_listed_param param.id) (type_mentions param.ty) mentioned.0 in
      both-use writer.program (type_references writer param.ty) _ (type-uses param.ty typed type.1) (params-uses params form.1 mentioned.1)

  body-uses : (body : Option IBody) → option_map_or is_body body true ≡ true → all (body_mentions body) ≡ true
      → uses (references_in writer (Some (values.Body body))) ≡ true
  body-uses None formed are = refl
  body-uses (Some body) formed are = ((block-right writer rules owner body.block are).1 formed no_locals refl).names

  first-uses : (init : Option IExpr) → option_map_or is_initial init true ≡ true → all (maybe_mentions init) ≡ true
      → uses (first_value_references writer init) ≡ true
  first-uses None formed are = refl
  first-uses (Some e) formed are = (parts.write-first writer rules owner (Some e) formed are no_locals refl).names

  value-uses : (type : IType) (init : Option IExpr) → (is_type type && option_map_or is_initial init true) ≡ true
      → all (type_mentions type ++ maybe_mentions init) ≡ true → uses (references_in writer (Some (values.Value type init))) ≡ true
  value-uses type init formed are =
      let form = and_parts (is_type type) (option_map_or is_initial init true) formed in
      let mentioned = both-known writer.program owner (type_mentions type) (maybe_mentions init) are in
      both-use writer.program (type_references writer type) (first_value_references writer init) (type-uses type form.0 mentioned.0)
      (first-uses init form.1 mentioned.1)

  formed-uses : (known : Known) (value : Value) → is_formed known value ≡ true → all (mentions value) ≡ true
      → uses (references_in writer (Some value)) ≡ true
  formed-uses known (values.Super parent) formed are = super-uses parent (sym (super-formed known parent) ∙ formed) are
  formed-uses known (values.Result type) formed are = result-uses type (result-formed known type formed) are
  formed-uses known (values.Params params) formed are =
      params-uses params (and_parts _ _ (and_parts _ _ (sym (params-formed known params) ∙ formed)).0).0 are
  formed-uses known (values.Body body) formed are = body-uses body (sym (body-formed known body) ∙ formed) are
  formed-uses known (values.Value type init) formed are = value-uses type init (sym (field-formed known type init) ∙ formed) are
  formed-uses known (values.Live live) formed are = refl
  formed-uses known (values.Package name) formed are = refl
  formed-uses known (values.Owner id) formed are = refl
  formed-uses known (values.Method id) formed are = refl
  formed-uses known (values.Name name) formed are = refl
  formed-uses known (values.Kind kind) formed are = refl
  formed-uses known (values.Fixed fixed) formed are = refl
  formed-uses known (values.Words words) formed are = refl
  formed-uses known (values.Notes notes) formed are = refl

  -- of a value that has the form of its slot
  pub value-names : (known : Known) (slot : Slot) (value : Value) → has_form known slot value ≡ true → all (mentions value) ≡ true
      → uses (references_in writer (Some value)) ≡ true
  value-names known slot value formed are =
      formed-uses known value (and_parts (same_slot (slot_of value) slot) (is_formed known value) formed).1 are
