-- What is noted of the values of cells, by what they hold.
use Rattle.std.proofs.Common.{◌≡◌, List, Option, None, Some, refl, sym, ap, ◌∙◌, ◌++◌}
use Rattle.mol_base.specs.declared.ident.Id.{Id}
use Rattle.mol_faults_misread.specs.body_misreads.NotedOn.{NotedOn}
use Rattle.mol_faults_misread.specs.body_misreads.PartReferences.{declared_references, maybe_references, params_references}
use Rattle.mol_faults_expr.proofs.NotedMore.{noted-both}
use Rattle.mol_faults_expr.specs.Noted.{Noted, noted_after}
use Rattle.mol_resolve_rules.specs.Locals.{Locals, no_locals}
use Rattle.mol_spell_rules.specs.SpelledStatements.{spelled_block, spelled_body}
use Rattle.mol_spell_rules.specs.UnitCells.{first_value_references, references_in}
use Rattle.mol_spell_rules.specs.Writers.{Writer}
use Rattle.mol_values_types.specs.declared.iblock.IBody.{IBody}
use Rattle.mol_values_types.specs.declared.iexpr.IExpr.{IExpr}
use Rattle.mol_values_types.specs.declared.itype.IType.{IType}
use Rattle.mol_values_types.specs.declared.param.Param.{Param}
use Rattle.mol_values_types.specs.declared.value.Value.{Value}
use Rattle.mol_values_types.specs.declared.value.Value.TheVariants as values

module _ (writer : Writer) where
  -- of a body, with no locals before it
  pub body-noted : (body : IBody) (locals after : Locals Id) (noted more : Noted) → locals ≡ no_locals
      → NotedOn writer (spelled_block writer body.block) locals noted after more
      → more ≡ noted_after writer noted (spelled_body writer body).references
  body-noted body locals after noted more is goes =
      goes.are_noted ∙ ap (λ locals. noted_after writer noted (spelled_block writer body.block locals).references) is

  -- ---- fields

  first-value : (init : Option IExpr) → first_value_references writer init ≡ maybe_references writer no_locals init
  first-value None = refl
  first-value (Some e) = refl

  pub field-noted : (type : IType) (init : Option IExpr) (locals : Locals Id) (noted between more : Noted) → locals ≡ no_locals
      → between ≡ noted_after writer noted (declared_references writer no_locals type)
      → more ≡ noted_after writer between (maybe_references writer locals init)
      → more ≡ noted_after writer noted (references_in writer (Some (values.Value type init)))
  field-noted type init locals noted between more is typed valued =
      noted-both writer noted between more (declared_references writer no_locals type) (maybe_references writer no_locals init) typed
      (valued ∙ ap (λ locals. noted_after writer between (maybe_references writer locals init)) is)
      ∙ ap (λ references. noted_after writer noted (declared_references writer no_locals type ++ references)) (sym (first-value init))

  -- ---- a value, by its kind

  -- The parameters may be found as another value.
  pub list-noted : (value : Value) (params found : List Param) (noted more : Noted) → value ≡ values.Params params → found ≡ params
      → more ≡ noted_after writer noted (params_references writer found)
      → more ≡ noted_after writer noted (references_in writer (Some value))
  list-noted value params found noted more is same are =
      are ∙ ap (λ params. noted_after writer noted (params_references writer params)) same
      ∙ ap (λ value. noted_after writer noted (references_in writer (Some value))) (sym is)
