-- Loops by their headers and their bodies (JLS 14.12, 14.14).
use Rattle.std.specs.Prelude.{Bool, List, [], Option}
use Rattle.jav_tree.specs.declared.expr.Expr.{Expr}
use Rattle.jav_tree.specs.declared.stmt.Block.{Block}
use Rattle.jav_tree.specs.declared.stmt.ForStart.{ForStart}
use Rattle.jav_tree.specs.declared.stmt.StmtNode.{StmtNode}
use Rattle.jav_tree.specs.declared.stmt.StmtNode.TheVariants as node
use Rattle.jav_names.specs.DottedNames.{Name}
use Rattle.mol_spell_body.specs.declared.headers.Header.{Header}
use Rattle.mol_spell_body.specs.declared.headers.Header.TheVariants as header
use Rattle.mol_spell_body.specs.declared.loops.Loop.{Loop}
use Rattle.mol_spell_body.specs.declared.loops.Loop.TheVariants as loop
use Rattle.mol_resolve_rules.specs.ProgramViews.{seen}
use Rattle.mol_spell_rules.specs.SpelledStatements.{Spells, declared_type, declaring, header as for_rest, in_block, mapped, one_expr, spelled_block, spelled_start, then_next}
use Rattle.mol_spell_rules.specs.Writers.{Writer}
use Rattle.mol_values_types.specs.declared.iblock.IBlock.{IBlock}
use Rattle.mol_values_types.specs.declared.iblock.IForStart.{IForStart}
use Rattle.mol_values_types.specs.declared.iexpr.IExpr.{IExpr}
use Rattle.mol_values_types.specs.declared.itype.IType.{IType}

-- a loop of its header and its body
abbrev pub loop_node : Header × Block → StmtNode
loop_node (header.While test, body) = node.While test body
loop_node (header.For start test steps, body) = node.For start test steps body
loop_node (header.Each is_final type name e, body) = node.Each is_final type name e body

abbrev pub for_part : ForStart × (Option Expr × List Expr) → Header
for_part parts = header.For parts.0 parts.1.0 parts.1.1

module _ (writer : Writer) where
  abbrev pub while_header : IExpr → Spells Header
  while_header test locals = mapped (λ test. header.While test) (one_expr writer test locals)

  abbrev pub for_header : IForStart → Option IExpr → List IExpr → Spells Header
  for_header start test steps locals = mapped for_part (then_next (spelled_start writer start locals) (for_rest writer test steps))

  -- The local is declared after its type and the value are written. What is said of headers and loops here are trees and locals: the
  -- references of this one are left out.
  abbrev pub each_header : Bool → IType → Name → IExpr → Spells Header
  each_header is_final type name e locals = record {
    tree = header.Each is_final (declared_type writer locals type).tree name (one_expr writer e locals).tree;
    references = [];
    locals = declaring writer (seen type) name locals;
  }

  -- what the header of a loop is written as, with the locals in its body
  abbrev pub header_of : Loop → Spells Header
  header_of (loop.While test) = while_header test.now
  header_of (loop.For start test steps) = for_header start.now test.now steps.now
  header_of (loop.Each is_final type name e) = each_header is_final type.now name.now e.now

  abbrev pub loop_of : Loop → IBlock → Spells StmtNode
  loop_of kind block locals = in_block locals (mapped loop_node (then_next (header_of kind locals) (spelled_block writer block)))
