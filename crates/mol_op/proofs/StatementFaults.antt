-- The fault of what a statement mentions, by its parts.
use Rattle.std.specs.Prelude.{◌≡◌, ℕ, Bool, List, ◌++◌, Option}
use Rattle.std.proofs.Common.{refl, sym, ap, ◌∙◌}
use Rattle.std.specs.Option.{option_or}
use Rattle.mol_table_rules.specs.Mentions.{Mention, type_mentions, expr_mentions, exprs_mentions, maybe_mentions, start_mentions, else_step, node_step, block_step, if_step, statement_step, block_mentions}
use Rattle.mol_table_rules.specs.Program.{Knowns}
use Rattle.mol_values_types.specs.declared.iblock.IBlock.{IBlock}
use Rattle.mol_values_types.specs.declared.iblock.IElse.{IElse}
use Rattle.mol_values_types.specs.declared.iblock.IElse.TheFolds.{fold-roll-IStmtNode, fold_out-IIf, fold-roll-IStmt, map-IStmtNode}
use Rattle.mol_values_types.specs.declared.iblock.IElse.TheOpen.{IStmtNode-F}
use Rattle.mol_values_types.specs.declared.iblock.IElse.TheViews.{roll-IStmtNode}
use Rattle.mol_values_types.specs.declared.iblock.IForStart.{IForStart}
use Rattle.mol_values_types.specs.declared.iblock.IIf.{IIf, out-IIf}
use Rattle.mol_values_types.specs.declared.iblock.IStmt.{IStmt}
use Rattle.mol_values_types.specs.declared.iblock.IStmtNode.{IStmtNode}
use Rattle.mol_values_types.specs.declared.iblock.IStmtNode.TheVariants as nodes
use Rattle.mol_values_types.specs.declared.iexpr.IExpr.{IExpr}
use Rattle.mol_values_types.specs.declared.itype.IType.{IType}
use Rattle.mol_op.specs.ChangeLaws.{or-assoc}
use Rattle.mol_op.specs.Statements.{node_mentions, else_mentions, if_mentions, statement_mentions}
use Rattle.mol_op.specs.Tests.{mentions_fault}
use Rattle.mol_op.specs.declared.fault.OpFault.{OpFault}
use Rattle.mol_op.proofs.Mentioned.{fault-of-parts, fault-of-three}

-- a statement mentions what its layer does
layer : {node : IStmtNode} (x : IStmtNode-F IElse IStmtNode IBlock IIf IStmt) → roll-IStmtNode x ≡ node
    → node_mentions node ≡ node_step (map-IStmtNode _ _ _ _ _ _ _ _ _ _ else_mentions node_mentions block_mentions if_mentions statement_mentions x)
layer x rolls =
    ap node_mentions (sym rolls)
    ∙ fold-roll-IStmtNode (List Mention) (List Mention) (List Mention) (List Mention) (List Mention) else_step node_step block_step if_step statement_step x

module _ (known : Knowns) where
  abbrev fault_in : List Mention → Option OpFault
  fault_in mentions = mentions_fault known mentions

  pub fault-While : (test : IExpr) (block : IBlock) → fault_in (node_mentions (nodes.While test block)) ≡ option_or (fault_in (expr_mentions test)) (fault_in (block_mentions block))
  fault-While test block = fault-of-parts known _ (expr_mentions test) (block_mentions block) (layer (IStmtNode-F.While test block) (nodes.rolls-While test block))

  pub fault-For : (start : IForStart) (test : Option IExpr) (steps : List IExpr) (block : IBlock) → fault_in (node_mentions (nodes.For start test steps block))
      ≡ option_or (fault_in (start_mentions start)) (option_or (fault_in (maybe_mentions test)) (option_or (fault_in (exprs_mentions steps)) (fault_in (block_mentions block))))
  fault-For start test steps block =
      fault-of-parts known _ (start_mentions start ++ maybe_mentions test ++ exprs_mentions steps) (block_mentions block)
      (layer (IStmtNode-F.For start test steps block) (nodes.rolls-For start test steps block))
      ∙ ap (λ fault. option_or fault (fault_in (block_mentions block))) (fault-of-three known _ (start_mentions start) (maybe_mentions test) (exprs_mentions steps) refl)
      ∙ or-assoc (fault_in (start_mentions start)) (option_or (fault_in (maybe_mentions test)) (fault_in (exprs_mentions steps))) (fault_in (block_mentions block))
      ∙ ap (option_or (fault_in (start_mentions start))) (or-assoc (fault_in (maybe_mentions test)) (fault_in (exprs_mentions steps)) (fault_in (block_mentions block)))

  pub fault-Each : (is_final : Bool) (ty : IType) (name : List ℕ) (e : IExpr) (block : IBlock) → fault_in (node_mentions (nodes.Each is_final ty name e block))
      ≡ option_or (fault_in (type_mentions ty)) (option_or (fault_in (expr_mentions e)) (fault_in (block_mentions block)))
  fault-Each is_final ty name e block =
      fault-of-three known _ (type_mentions ty) (expr_mentions e) (block_mentions block)
      (layer (IStmtNode-F.Each is_final ty name e block) (nodes.rolls-Each is_final ty name e block))

  pub fault-of-if : (branch : IIf) → fault_in (if_mentions branch)
      ≡ option_or (fault_in (expr_mentions (out-IIf branch).test)) (option_or (fault_in (block_mentions (out-IIf branch).then)) (fault_in (else_mentions (out-IIf branch).rest)))
  fault-of-if branch =
      fault-of-three known _ (expr_mentions (out-IIf branch).test) (block_mentions (out-IIf branch).then) (else_mentions (out-IIf branch).rest)
      (fold_out-IIf (List Mention) (List Mention) (List Mention) (List Mention) (List Mention) else_step node_step block_step if_step statement_step branch)

pub ruleset statement_faults = (fault-While, fault-For, fault-Each, fault-of-if)

-- a statement mentions what it does without its comments
pub statement-mentions : (statement : IStmt) → statement_mentions statement ≡ node_mentions statement.node
statement-mentions statement =
    fold-roll-IStmt (List Mention) (List Mention) (List Mention) (List Mention) (List Mention) else_step node_step block_step if_step statement_step
    (record { notes = statement.notes; node = statement.node })
