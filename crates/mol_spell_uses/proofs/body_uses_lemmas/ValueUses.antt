-- What the values of cells use, by what they hold.
use Rattle.std.proofs.Common.{◌≡◌, List, [], ◌∷◌, ◌++◌, Option, None, Some, refl, sym, ap, ◌∙◌}
use Rattle.std.specs.List.{flat_map}
use Rattle.mol_base.specs.declared.ident.Id.{Id}
use Rattle.mol_spell_uses.specs.body_uses.PartUses.{body_uses, declared_uses, first_value_uses, maybe_uses, params_uses, value_uses}
use Rattle.mol_spell_uses.specs.body_uses.UsesOn.{UsesOn}
use Rattle.mol_resolve_rules.specs.Locals.{Locals, no_locals}
use Rattle.mol_spell_rules.specs.SpelledStatements.{spelled_block}
use Rattle.mol_spell_rules.specs.UnitCells.{first_value_references, type_references}
use Rattle.mol_spell_rules.specs.Writers.{Use, Writer}
use Rattle.mol_spell_uses.proofs.uses_lemmas.ModeFree.{uses-append}
use Rattle.mol_spell_uses.specs.uses.Uses.{uses_of}
use Rattle.mol_values_types.specs.declared.iblock.IBody.{IBody}
use Rattle.mol_values_types.specs.declared.iexpr.IExpr.{IExpr}
use Rattle.mol_values_types.specs.declared.itype.IType.{IType}
use Rattle.mol_values_types.specs.declared.param.Param.{Param}
use Rattle.mol_values_types.specs.declared.value.Value.{Value}
use Rattle.mol_values_types.specs.declared.value.Value.TheVariants as values

module _ (writer : Writer) where
  params-used : (params : List Param) → uses_of (flat_map (λ (param : Param). type_references writer param.ty) params)
      ≡ params_uses writer params
  params-used [] = refl
  params-used (param ∷ params) =
      uses-append (type_references writer param.ty) (flat_map (λ (param : Param). type_references writer param.ty) params)
      ∙ ap (λ us. uses_of (type_references writer param.ty) ++ us) (params-used params)

  of-params : (params : List Param) → value_uses writer (Some (values.Params params)) ≡ params_uses writer params
  of-params params = params-used params

  init-used : (init : Option IExpr) → uses_of (first_value_references writer init) ≡ maybe_uses writer no_locals init
  init-used None = refl
  init-used (Some e) = refl

  of-value : (type : IType) (init : Option IExpr)
      → value_uses writer (Some (values.Value type init)) ≡ first_value_uses writer type init
  of-value type init = uses-append (type_references writer type) (first_value_references writer init)
      ∙ ap (λ us. uses_of (type_references writer type) ++ us) (init-used init)

-- what a body uses, with no locals before it
pub body-used : (writer : Writer) (body : IBody) (locals after : Locals Id) (uses more : List Use) → locals ≡ no_locals
    → UsesOn (spelled_block writer body.block) locals uses after more → more ≡ uses ++ body_uses writer body
body-used writer body locals after uses more is goes =
    goes.are_added ∙ ap (λ locals. uses ++ uses_of (spelled_block writer body.block locals).references) is

-- ---- a value, by its kind

module _ (writer : Writer) (value : Value) (uses more : List Use) where
  -- the same, in other words
  told : (other : Value) → value ≡ other → more ≡ uses ++ value_uses writer (Some other) → more ≡ uses ++ value_uses writer (Some value)
  told other is added = added ∙ ap (λ value. uses ++ value_uses writer (Some value)) (sym is)

  pub parent-used : (parent : Option IType) → value ≡ values.Super parent
      → ((writer : Writer) → more ≡ uses ++ value_uses writer (Some (values.Super parent))) → more ≡ uses ++ value_uses writer (Some value)
  parent-used parent is added = told (values.Super parent) is (added writer)

  pub result-used : (type : IType) → value ≡ values.Result type
      → ((writer : Writer) (locals : Locals Id) → more ≡ uses ++ declared_uses writer locals type)
      → more ≡ uses ++ value_uses writer (Some value)
  result-used type is added = told (values.Result type) is (added writer no_locals)

  -- The parameters may be found as another value.
  pub list-used : (params found : List Param) → value ≡ values.Params params → found ≡ params
      → ((writer : Writer) → more ≡ uses ++ params_uses writer found) → more ≡ uses ++ value_uses writer (Some value)
  list-used params found is same added = told (values.Params params) is
      (added writer ∙ ap (λ params. uses ++ params_uses writer params) same ∙ ap (λ us. uses ++ us) (sym (of-params writer params)))

  pub held-body-used : (body : Option IBody) → value ≡ values.Body body
      → more ≡ uses ++ value_uses writer (Some (values.Body body)) → more ≡ uses ++ value_uses writer (Some value)
  held-body-used body is added = told (values.Body body) is added

  pub field-used : (type : IType) (init : Option IExpr) → value ≡ values.Value type init
      → more ≡ uses ++ first_value_uses writer type init → more ≡ uses ++ value_uses writer (Some value)
  field-used type init is added = told (values.Value type init) is (added ∙ ap (λ us. uses ++ us) (sym (of-value writer type init)))
