-- What the names of an expression use, as they are printed.
use Rattle.std.specs.Prelude.{List, [], ◌∷◌, Option, None, Some}
use Rattle.std.specs.List.{filter_map, flat_map}
use Rattle.mol_base.specs.declared.ident.Id.{Id}
use Rattle.mol_resolve_rules.specs.Locals.{Locals}
use Rattle.mol_spell_rules.specs.SpelledExpressions.{MemberForm, by_name, on_this, on_class, alone, hides, spelled_expr}
use Rattle.mol_spell_rules.specs.SpelledTypes.{spelled_type}
use Rattle.mol_spell_rules.specs.Writers.{Importable, program_class, Reference, Use, Writer, use_of}
use Rattle.mol_values_types.specs.declared.iexpr.Argument.{Argument}
use Rattle.mol_values_types.specs.declared.iexpr.IExpr.{IExpr}
use Rattle.mol_values_types.specs.declared.itype.IType.{IType}

abbrev pub uses_of : List Reference → List Use
uses_of references = filter_map (λ (reference : Reference). reference.uses) references

module _ (writer : Writer) (locals : Locals Id) where
  -- of an expression that stands alone
  abbrev pub expr_uses : IExpr → List Use
  expr_uses e = uses_of (alone writer locals (spelled_expr writer locals e))

  abbrev pub all_uses : List IExpr → List Use
  all_uses es = flat_map expr_uses es

  abbrev pub argument_uses : List Argument → List Use
  argument_uses args = flat_map (λ (argument : Argument). expr_uses argument.value) args

  abbrev pub type_uses : IType → List Use
  type_uses type = uses_of (spelled_type writer (hides writer locals) locals type).references

  -- of what may be imported, in an expression
  abbrev pub named_use : Importable → List Use
  named_use what = use_of writer (hides writer locals) what ∷ []

  -- of a member: the class before it
  abbrev pub form_uses : MemberForm → List Use
  form_uses by_name = []
  form_uses on_this = []
  form_uses (on_class class) = named_use (program_class class)

  -- of a creation: the class of the constructor, where one declares it
  abbrev pub created_uses : Option Id → List Use
  created_uses None = []
  created_uses (Some class) = named_use (program_class class)
