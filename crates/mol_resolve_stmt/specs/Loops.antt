-- Loops by their headers and their bodies (JLS 14.12, 14.14).
use Rattle.std.specs.Prelude.{ℕ, ◌++◌, Bool, List, Option}
use Rattle.jav_tree.specs.declared.expr.Expr.{Expr}
use Rattle.jav_tree.specs.declared.stmt.Block.{Block}
use Rattle.jav_tree.specs.declared.stmt.ForStart.{ForStart}
use Rattle.jav_tree.specs.declared.types.TypeName.{TypeName}
use Rattle.jav_names.specs.DottedNames.{Name}
use Rattle.jav_names.specs.UnitViews.{MemberKey}
use Rattle.mol_resolve_rules.specs.Locals.{Locals}
use Rattle.mol_resolve_rules.specs.Outcomes.{Outcome, mapped, both}
use Rattle.mol_resolve_rules.specs.Readers.{Reader}
use Rattle.mol_resolve_rules.specs.ReadStatements.{ReadsTo, mapped_on, then_next, declaring, declaring_none, in_block, read_start, read_header, redeclared_faults, block_reading}
use Rattle.mol_resolve_rules.specs.ReadTrees.{Meant, alone, read_expr, reading}
use Rattle.mol_resolve_rules.specs.ReadTypes.{ReadType, read_type, seen_type}
use Rattle.mol_resolve_stmt.specs.declared.headers.Header.{Header}
use Rattle.mol_resolve_stmt.specs.declared.headers.Header.TheVariants as header
use Rattle.mol_resolve_stmt.specs.declared.loops.Loop.{Loop}
use Rattle.mol_resolve_stmt.specs.declared.loops.Loop.TheVariants as loop
use Rattle.mol_values_types.specs.declared.iblock.IBlock.{IBlock}
use Rattle.mol_values_types.specs.declared.iblock.IForStart.{IForStart}
use Rattle.mol_values_types.specs.declared.iblock.IStmtNode.{IStmtNode}
use Rattle.mol_values_types.specs.declared.iblock.IStmtNode.TheVariants as nodes
use Rattle.mol_values_types.specs.declared.iexpr.IExpr.{IExpr}

-- a header with a body
abbrev pub with_body : Header → IBlock → IStmtNode
with_body (header.While test) body = nodes.While test body
with_body (header.For start test steps) body = nodes.For start test steps body
with_body (header.Each is_final type name e) body = nodes.Each is_final type name e body

abbrev pub loop_node : Header × IBlock → IStmtNode
loop_node parts = with_body parts.0 parts.1

abbrev pub while_part : IExpr → Header
while_part test = header.While test

abbrev pub for_part : IForStart × (Option IExpr × List IExpr) → Header
for_part parts = header.For parts.0 parts.1.0 parts.1.1

abbrev pub each_part : Bool → Name → ReadType ℕ × Meant ℕ → Header
each_part is_final name parts = header.Each is_final parts.0.tree name parts.1.tree

module _ (reader : Reader ℕ MemberKey) where
  abbrev pub while_header : Locals ℕ → Expr → Outcome Header
  while_header locals test = mapped while_part (read_expr reader locals test)

  abbrev pub for_header : ℕ → ForStart → Option Expr → List Expr → ReadsTo ℕ Header
  for_header at start test steps locals = mapped_on for_part
      (then_next (read_start reader at start locals) (λ inside. declaring_none inside (read_header reader inside test steps)))

  -- the local is declared once its type and the value are read
  abbrev pub each_header : ℕ → Bool → TypeName → Name → Expr → ReadsTo ℕ Header
  each_header at is_final type name e locals =
      let parts = both (read_type reader at type) (alone reader locals (reading reader e)) in
      let header = mapped (each_part is_final name) parts in
      record {
        locals = declaring reader (seen_type reader type) name locals;
        outcome = record { value = header.value; faults = header.faults ++ redeclared_faults reader at name locals };
      }

  -- what the header of a loop comes to, and the locals in its body
  abbrev pub header_of : Loop → ℕ → ReadsTo ℕ Header
  header_of (loop.While test) at locals = declaring_none locals (while_header locals test.now)
  header_of (loop.For start test steps) at locals = for_header at start.now test.now steps.now locals
  header_of (loop.Each is_final type name e) at locals = each_header at is_final type.now name.now e.now locals

  -- a loop with this header
  abbrev pub loop_by : ReadsTo ℕ Header → Block → ReadsTo ℕ IStmtNode
  loop_by head block locals = in_block locals (mapped_on loop_node (then_next (head locals) (block_reading reader block)))

  abbrev pub loop_of : Loop → ℕ → Block → ReadsTo ℕ IStmtNode
  loop_of kind at = loop_by (header_of kind at)
