-- The references of parts of statements and of values of cells, as they are printed.
use Rattle.std.specs.Prelude.{ℕ, List, ◌++◌, Option}
use Rattle.std.specs.List.{flat_map}
use Rattle.mol_base.specs.declared.ident.Id.{Id}
use Rattle.mol_faults_expr.specs.References.{expr_references}
use Rattle.mol_spell_rules.specs.references.References.{Target}
use Rattle.mol_resolve_rules.specs.Locals.{Locals, no_locals}
use Rattle.mol_spell_rules.specs.SpelledExpressions.{plain}
use Rattle.mol_spell_rules.specs.SpelledStatements.{declared_type, maybe_expr}
use Rattle.mol_spell_rules.specs.Writers.{Reference, Writer, super_constructor_asked}
use Rattle.mol_values_types.specs.declared.iexpr.IExpr.{IExpr}
use Rattle.mol_values_types.specs.declared.itype.IType.{IType}
use Rattle.mol_values_types.specs.declared.param.Param.{Param}

module _ (writer : Writer) (locals : Locals Id) where
  -- of the type of a declaration
  abbrev pub declared_references : IType → List Reference
  declared_references type = (declared_type writer locals type).references

  -- of an expression, if there is one
  abbrev pub maybe_references : Option IExpr → List Reference
  maybe_references e = (maybe_expr writer e locals).references

  -- of the type of a declaration, and of an expression
  abbrev pub typed_references : IType → IExpr → List Reference
  typed_references type e = declared_references type ++ expr_references writer locals e

  -- of `super(..)` with so many arguments
  abbrev pub super_reference : Target → (arity : ℕ) → Reference
  super_reference target arity = plain writer locals target (super_constructor_asked arity)

-- of the types of parameters
abbrev pub params_references : Writer → List Param → List Reference
params_references writer params = flat_map (λ (param : Param). declared_references writer no_locals param.ty) params
