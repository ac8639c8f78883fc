-- The classes that parts of a value create by their default constructors.
use Rattle.std.specs.Prelude.{List}
use Rattle.std.specs.List.{flat_map}
use Rattle.mol_spell_rules.specs.DefaultCreations.{Classes, expr_step, argument_step, maybe_creations, else_step, node_step, block_step, if_step, statement_step}
use Rattle.mol_values_types.specs.declared.iblock.IDeclarator.{IDeclarator}
use Rattle.mol_values_types.specs.declared.iblock.IElse.{IElse, fold-IElse}
use Rattle.mol_values_types.specs.declared.iblock.IIf.{IIf, fold-IIf}
use Rattle.mol_values_types.specs.declared.iblock.IStmt.{IStmt, fold-IStmt}
use Rattle.mol_values_types.specs.declared.iblock.IStmtNode.{IStmtNode, fold-IStmtNode}
use Rattle.mol_values_types.specs.declared.iexpr.Argument.{Argument, fold-Argument}

abbrev pub argument_creations : Argument → Classes
argument_creations = fold-Argument Classes Classes expr_step argument_step

abbrev pub names_creations : List IDeclarator → Classes
names_creations names = flat_map (λ (declarator : IDeclarator). maybe_creations declarator.init) names

abbrev pub else_creations : IElse → Classes
else_creations = fold-IElse Classes Classes Classes Classes Classes else_step node_step block_step if_step statement_step

abbrev pub node_creations : IStmtNode → Classes
node_creations = fold-IStmtNode Classes Classes Classes Classes Classes else_step node_step block_step if_step statement_step

abbrev pub if_creations : IIf → Classes
if_creations = fold-IIf Classes Classes Classes Classes Classes else_step node_step block_step if_step statement_step

abbrev pub statement_creations : IStmt → Classes
statement_creations = fold-IStmt Classes Classes Classes Classes Classes else_step node_step block_step if_step statement_step
