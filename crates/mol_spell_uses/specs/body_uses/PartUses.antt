-- What parts of statements and values of cells use, as they are printed.
use Rattle.std.specs.Prelude.{List, [], ◌++◌, Option, None, Some}
use Rattle.std.specs.List.{flat_map}
use Rattle.mol_base.specs.declared.ident.Id.{Id}
use Rattle.mol_resolve_rules.specs.Locals.{Locals, no_locals}
use Rattle.mol_spell_rules.specs.SpelledStatements.{declared_type, spelled_body}
use Rattle.mol_spell_rules.specs.UnitCells.{references_in}
use Rattle.mol_spell_rules.specs.Writers.{Use, Writer}
use Rattle.mol_spell_uses.specs.uses.Uses.{expr_uses, uses_of}
use Rattle.mol_values_types.specs.declared.iblock.IBody.{IBody}
use Rattle.mol_values_types.specs.declared.iexpr.IExpr.{IExpr}
use Rattle.mol_values_types.specs.declared.itype.IType.{IType}
use Rattle.mol_values_types.specs.declared.param.Param.{Param}
use Rattle.mol_values_types.specs.declared.value.Value.{Value}

module _ (writer : Writer) (locals : Locals Id) where
  -- the type of a declaration
  abbrev pub declared_uses : IType → List Use
  declared_uses type = uses_of (declared_type writer locals type).references

  -- an expression, if there is one
  abbrev pub maybe_uses : Option IExpr → List Use
  maybe_uses None = []
  maybe_uses (Some e) = expr_uses writer locals e

module _ (writer : Writer) where
  abbrev pub body_uses : IBody → List Use
  body_uses body = uses_of (spelled_body writer body).references

  -- the types of parameters
  abbrev pub params_uses : List Param → List Use
  params_uses params = flat_map (λ (param : Param). declared_uses writer no_locals param.ty) params

  -- the type and the first value of a field
  abbrev pub first_value_uses : IType → Option IExpr → List Use
  first_value_uses type init = declared_uses writer no_locals type ++ maybe_uses writer no_locals init

  -- the value of a cell
  abbrev pub value_uses : Option Value → List Use
  value_uses value = uses_of (references_in writer value)
