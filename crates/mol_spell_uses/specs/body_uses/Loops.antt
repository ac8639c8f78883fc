-- `for` by its parts (JLS 14.14).
use Rattle.std.specs.Prelude.{List, Option}
use Rattle.jav_tree.specs.declared.expr.Expr.{Expr}
use Rattle.jav_tree.specs.declared.stmt.Block.{Block}
use Rattle.jav_tree.specs.declared.stmt.ForStart.{ForStart}
use Rattle.jav_names.specs.DottedNames.{Name}
use Rattle.mol_resolve_rules.specs.ProgramViews.{seen}
use Rattle.mol_spell_rules.specs.SpelledStatements.{Spells, declared_type, declaring_none, each_body, header, in_block, one_expr, spelled_block, spelled_start, then_next}
use Rattle.mol_spell_rules.specs.SpelledTypes.{SpelledType}
use Rattle.mol_spell_rules.specs.Writers.{Writer}
use Rattle.mol_values_types.specs.declared.iblock.IBlock.{IBlock}
use Rattle.mol_values_types.specs.declared.iblock.IForStart.{IForStart}
use Rattle.mol_values_types.specs.declared.iexpr.IExpr.{IExpr}
use Rattle.mol_values_types.specs.declared.itype.IType.{IType}

-- What a part declares is in scope in it alone.
abbrev pub in_own_block : {A : Type 0} → Spells A → Spells A
in_own_block part locals = in_block locals (part locals)

module _ (writer : Writer) where
  -- the test, the steps and the body, with what the start declares in scope
  abbrev pub for_rest : Option IExpr → List IExpr → IBlock → Spells ((Option Expr × List Expr) × Block)
  for_rest test steps block locals = then_next (header writer test steps locals) (spelled_block writer block)

  abbrev pub for_parts : IForStart → Option IExpr → List IExpr → IBlock → Spells (ForStart × ((Option Expr × List Expr) × Block))
  for_parts start test steps block locals = then_next (spelled_start writer start locals) (for_rest test steps block)

  -- the type of the local and the value, and then the body
  abbrev pub each_parts : IType → Name → IExpr → IBlock → Spells ((SpelledType × Expr) × Block)
  each_parts type name e block locals =
      let spelled = declared_type writer locals type in
      then_next (then_next (declaring_none spelled spelled.references locals) (one_expr writer e))
      (each_body writer (seen type) name (spelled_block writer block))
