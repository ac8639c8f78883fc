-- How each kind of statement is written, by what it is made of.
use Rattle.std.proofs.Common.{◌≡◌, Bool, List, [], ◌∷◌, map, Option, refl, sym, ap, ◌∙◌}
use Rattle.mol_base.specs.declared.ident.Id.{Id}
use Rattle.mol_spell_body.proofs.InTurn.{none_declared, said_so}
use Rattle.mol_spell_body.specs.GoesOn.{GoesOn}
use Rattle.mol_spell_body.specs.Loops.{each_header, for_header, loop_node, while_header}
use Rattle.mol_spell_places.proofs.body_places_lemmas.StatementSteps.{node-rolled, parts, scope-ends}
use Rattle.mol_spell_places.specs.body_places.Statements.{if_spelling, node_spelling}
use Rattle.jav_tree.specs.declared.stmt.Block.{Block}
use Rattle.jav_tree.specs.declared.stmt.StmtNode.{StmtNode}
use Rattle.jav_tree.specs.declared.stmt.StmtNode.TheVariants as node
use Rattle.jav_names.specs.DottedNames.{Name}
use Rattle.mol_resolve_rules.specs.Locals.{Locals}
use Rattle.mol_spell_rules.specs.SpelledExpressions.{spelled_expr, trees}
use Rattle.mol_spell_rules.specs.SpelledStatements.{Spells, in_block, mapped, maybe_expr, node_step, one_expr, spelled_block, spelled_let, then_next}
use Rattle.mol_spell_rules.specs.Writers.{Writer}
use Rattle.mol_values_types.specs.declared.iblock.IBlock.{IBlock}
use Rattle.mol_values_types.specs.declared.iblock.IElse.{IElse}
use Rattle.mol_values_types.specs.declared.iblock.IElse.TheOpen.{IStmtNode-F}
use Rattle.mol_values_types.specs.declared.iblock.IElse.TheViews.{roll-IStmtNode}
use Rattle.mol_values_types.specs.declared.iblock.IForStart.{IForStart}
use Rattle.mol_values_types.specs.declared.iblock.IIf.{IIf}
use Rattle.mol_values_types.specs.declared.iblock.ILet.{ILet}
use Rattle.mol_values_types.specs.declared.iblock.IStmt.{IStmt}
use Rattle.mol_values_types.specs.declared.iblock.IStmtNode.{IStmtNode}
use Rattle.mol_values_types.specs.declared.iblock.IStmtNode.TheVariants as nodes
use Rattle.mol_values_types.specs.declared.iexpr.Argument.{Argument}
use Rattle.mol_values_types.specs.declared.iexpr.IExpr.{IExpr}
use Rattle.mol_values_types.specs.declared.itype.IType.{IType}

-- # Statements

module _ (writer : Writer) (n : IStmtNode) (tree : StmtNode) (locals after : Locals Id) where
  abbrev Goes : Spells StmtNode → Type 0
  Goes part = GoesOn part tree locals after

  abbrev Comes : Type 0
  Comes = Goes (node_spelling writer n)

  by_node : (x : IStmtNode-F IElse IStmtNode IBlock IIf IStmt) → n ≡ roll-IStmtNode x → Goes (node_step writer (parts writer x)) → Comes
  by_node x is =
      said_so (node_step writer (parts writer x)) (node_spelling writer n) tree locals after
      (ap (λ n. node_spelling writer n locals) is ∙ ap (λ (spells : Spells StmtNode). spells locals) (node-rolled writer x))

  pub at-Block : (block : IBlock) → n ≡ nodes.Block block
      → Goes (λ locals. mapped (λ block. node.Block block) (spelled_block writer block locals)) → Comes
  at-Block block is = by_node (IStmtNode-F.IStmtNode::Block block) (is ∙ sym (nodes.rolls-Block block))

  pub at-Let : (declared : ILet) → n ≡ nodes.Let declared
      → Goes (λ locals. mapped (λ declared. node.Let declared) (spelled_let writer declared locals)) → Comes
  at-Let declared is = by_node (IStmtNode-F.Let declared) (is ∙ sym (nodes.rolls-Let declared))

  pub at-Do : (e : IExpr) → n ≡ nodes.Do e → Goes (λ locals. mapped (λ e. node.Do e) (one_expr writer e locals)) → Comes
  at-Do e is = by_node (IStmtNode-F.Do e) (is ∙ sym (nodes.rolls-Do e))

  pub at-If : (branch : IIf) → n ≡ nodes.If branch → Goes (if_spelling writer branch) → Comes
  at-If branch is = by_node (IStmtNode-F.IStmtNode::If branch) (is ∙ sym (nodes.rolls-If branch))

  pub at-While : (test : IExpr) (block : IBlock) → n ≡ nodes.While test block
      → Goes (λ locals. in_block locals (mapped loop_node (then_next (while_header writer test locals) (spelled_block writer block))))
      → Comes
  at-While test block is goes = by_node (IStmtNode-F.While test block) (is ∙ sym (nodes.rolls-While test block))
      (record {
        is_written = goes.is_written;
        are_declared = goes.are_declared ∙ sym (scope-ends writer block locals);
        stay_in_scope = goes.stay_in_scope;
      })

  -- the steps may be found as another value
  pub at-For : (start : IForStart) (test : Option IExpr) (steps found : List IExpr) (block : IBlock) → n ≡ nodes.For start test steps block
      → found ≡ steps
      → Goes (λ locals.
      in_block locals (mapped loop_node (then_next (for_header writer start test found locals) (spelled_block writer block))))
      → Comes
  at-For start test steps found block is same goes =
      by_node (IStmtNode-F.For start test found block)
      (is ∙ (λ i. nodes.For start test (sym same i) block) ∙ sym (nodes.rolls-For start test found block))
      (record { is_written = goes.is_written; are_declared = goes.are_declared; stay_in_scope = goes.stay_in_scope })

  pub at-Each : (is_final : Bool) (type : IType) (name : Name) (e : IExpr) (block : IBlock) → n ≡ nodes.Each is_final type name e block
      → Goes (λ locals.
      in_block locals (mapped loop_node (then_next (each_header writer is_final type name e locals) (spelled_block writer block))))
      → Comes
  at-Each is_final type name e block is goes =
      by_node (IStmtNode-F.Each is_final type name e block) (is ∙ sym (nodes.rolls-Each is_final type name e block))
      (record { is_written = goes.is_written; are_declared = goes.are_declared; stay_in_scope = goes.stay_in_scope })

  pub at-Return : (e : Option IExpr) → n ≡ nodes.Return e
      → Goes (λ locals. mapped (λ e. node.Return e) (maybe_expr writer e locals)) → Comes
  at-Return e is = by_node (IStmtNode-F.Return e) (is ∙ sym (nodes.rolls-Return e))

  pub at-Throw : (e : IExpr) → n ≡ nodes.Throw e → Goes (λ locals. mapped (λ e. node.Throw e) (one_expr writer e locals)) → Comes
  at-Throw e is = by_node (IStmtNode-F.Throw e) (is ∙ sym (nodes.rolls-Throw e))

-- # Statements that hold no others

module _ (writer : Writer) (n : IStmtNode) (tree : StmtNode) (locals : Locals Id) where
  abbrev Stays : Type 0
  Stays = GoesOn (node_spelling writer n) tree locals locals

  simply : (x : IStmtNode-F IElse IStmtNode IBlock IIf IStmt) → n ≡ roll-IStmtNode x
      → (node_step writer (parts writer x) locals).locals ≡ locals → tree ≡ (node_step writer (parts writer x) locals).tree → Stays
  simply x is none written = by_node writer n tree locals locals x is
      (none_declared (node_step writer (parts writer x)) tree locals none written)

  pub at-Break : n ≡ nodes.Break → tree ≡ node.Break → Stays
  at-Break is = simply IStmtNode-F.Break (is ∙ sym nodes.rolls-Break) refl

  pub at-Continue : n ≡ nodes.Continue → tree ≡ node.Continue → Stays
  at-Continue is = simply IStmtNode-F.Continue (is ∙ sym nodes.rolls-Continue) refl

  pub at-Empty : n ≡ nodes.Empty → tree ≡ node.Empty → Stays
  at-Empty is = simply IStmtNode-F.Empty (is ∙ sym nodes.rolls-Empty) refl

  values-of : (args : List Argument) → trees (map (spelled_expr writer locals) (map (λ (argument : Argument). argument.value) args))
      ≡ map (λ (argument : Argument). (spelled_expr writer locals argument.value).tree) args
  values-of [] = refl
  values-of (a ∷ args) = ap (λ rest. (spelled_expr writer locals a.value).tree ∷ rest) (values-of args)

  trees-of : (es : List IExpr) → trees (map (spelled_expr writer locals) es) ≡ map (λ e. (spelled_expr writer locals e).tree) es
  trees-of [] = refl
  trees-of (e ∷ es) = ap (λ rest. (spelled_expr writer locals e).tree ∷ rest) (trees-of es)

  pub at-Super : (constructor : Id) (args found : List Argument) → n ≡ nodes.Super constructor args → found ≡ args
      → tree ≡ node.SuperInit (map (λ (argument : Argument). (spelled_expr writer locals argument.value).tree) found) → Stays
  at-Super constructor args found is same written =
      simply (IStmtNode-F.Super constructor found)
      (is ∙ (λ i. nodes.Super constructor (sym same i)) ∙ sym (nodes.rolls-Super constructor found)) refl
      (written ∙ ap (λ es. node.SuperInit es) (sym (values-of found)))

  pub at-SuperDefault : (class : Id) → n ≡ nodes.SuperDefault class → tree ≡ node.SuperInit [] → Stays
  at-SuperDefault class is = simply (IStmtNode-F.SuperDefault class) (is ∙ sym (nodes.rolls-SuperDefault class)) refl

  pub at-SuperOutside : (args found : List IExpr) → n ≡ nodes.SuperOutside args → found ≡ args
      → tree ≡ node.SuperInit (map (λ e. (spelled_expr writer locals e).tree) found) → Stays
  at-SuperOutside args found is same written =
      simply (IStmtNode-F.SuperOutside found)
      (is ∙ (λ i. nodes.SuperOutside (sym same i)) ∙ sym (nodes.rolls-SuperOutside found)) refl
      (written ∙ ap (λ es. node.SuperInit es) (sym (trees-of found)))
