-- What each kind of statement uses, by what it is made of (JLS 14).
use Rattle.std.proofs.Common.{◌≡◌, Bool, List, [], ◌∷◌, ◌++◌, map, length, take, Option, refl, sym, ap, ◌∙◌, subst}
use Rattle.jav_tree.specs.declared.expr.Expr.{Expr}
use Rattle.jav_tree.specs.declared.stmt.Block.{Block}
use Rattle.jav_names.specs.DottedNames.{Name}
use Rattle.mol_base.specs.declared.ident.Id.{Id}
use Rattle.mol_spell_places.proofs.body_places_lemmas.StatementSteps.{block-is, else-block, else-if, else-none, if-is, node-rolled, parts, stmt-is}
use Rattle.mol_spell_places.specs.body_places.Statements.{else_spelling, if_spelling, node_spelling, statements_spelling, stmt_spelling}
use Rattle.mol_spell_uses.proofs.body_uses_lemmas.DeclarationUses.{maybe-locals, maybe-uses}
use Rattle.mol_spell_uses.proofs.body_uses_lemmas.InTurn.{block_ends, none_declared, nothing, retold, then_on}
use Rattle.mol_spell_uses.specs.body_uses.Loops.{each_parts, for_parts, in_own_block}
use Rattle.mol_spell_uses.specs.body_uses.PartUses.{maybe_uses}
use Rattle.mol_spell_uses.specs.body_uses.UsesOn.{UsesOn}
use Rattle.mol_resolve_rules.specs.Locals.{Locals}
use Rattle.mol_spell_rules.specs.SpelledStatements.{Spells, node_step, one_expr, spelled_block, spelled_let, then_next}
use Rattle.mol_spell_rules.specs.Writers.{Use, Writer}
use Rattle.mol_spell_uses.proofs.uses_lemmas.UsesNodes.{uses-all}
use Rattle.mol_spell_uses.specs.uses.Uses.{all_uses, argument_uses, expr_uses, uses_of}
use Rattle.mol_values_types.specs.declared.iblock.IBlock.{IBlock, out-IBlock}
use Rattle.mol_values_types.specs.declared.iblock.IElse.{IElse}
use Rattle.mol_values_types.specs.declared.iblock.IElse.TheOpen.{IStmtNode-F}
use Rattle.mol_values_types.specs.declared.iblock.IElse.TheVariants as elses
use Rattle.mol_values_types.specs.declared.iblock.IElse.TheViews.{roll-IStmtNode}
use Rattle.mol_values_types.specs.declared.iblock.IForStart.{IForStart}
use Rattle.mol_values_types.specs.declared.iblock.IIf.{IIf, out-IIf}
use Rattle.mol_values_types.specs.declared.iblock.ILet.{ILet}
use Rattle.mol_values_types.specs.declared.iblock.IStmt.{IStmt}
use Rattle.mol_values_types.specs.declared.iblock.IStmtNode.{IStmtNode}
use Rattle.mol_values_types.specs.declared.iblock.IStmtNode.TheVariants as nodes
use Rattle.mol_values_types.specs.declared.iexpr.Argument.{Argument}
use Rattle.mol_values_types.specs.declared.iexpr.IExpr.{IExpr}
use Rattle.mol_values_types.specs.declared.itype.IType.{IType}

-- # Blocks and branches

module _ (writer : Writer) (locals : Locals Id) (uses : List Use) where
  -- The statements may be found as another value.
  pub block-goes : (block : IBlock) (items : List IStmt) (after ended : Locals Id) (more : List Use) → items ≡ (out-IBlock block).items
      → UsesOn (statements_spelling writer items) locals uses after more
      → ended ≡ record { declared = after.declared; in_scope = take (length locals.in_scope) after.in_scope }
      → UsesOn (spelled_block writer block) locals uses ended more
  block-goes block items after ended more same goes ends =
      retold (in_own_block (statements_spelling writer (out-IBlock block).items)) locals uses (spelled_block writer block) ended more
      (ap (λ part. part.references) (block-is writer block locals)) (ap (λ part. part.locals) (block-is writer block locals))
      (block_ends (statements_spelling writer (out-IBlock block).items) locals uses after ended more
      (subst (λ items. UsesOn (statements_spelling writer items) locals uses after more) same goes) ends)

  -- of a statement what stands after its comments
  pub statement-goes : (s : IStmt) (after : Locals Id) (more : List Use) → UsesOn (node_spelling writer s.node) locals uses after more
      → UsesOn (stmt_spelling writer s) locals uses after more
  statement-goes s after more goes =
      retold (node_spelling writer s.node) locals uses (stmt_spelling writer s) after more
      (ap (λ part. part.references) (stmt-is writer s.notes s.node locals))
      (ap (λ part. part.locals) (stmt-is writer s.notes s.node locals)) goes

  pub if-goes : (branch : IIf) (middle after : Locals Id) (between more : List Use)
      → UsesOn (λ locals. then_next (one_expr writer (out-IIf branch).test locals) (spelled_block writer (out-IIf branch).then)) locals uses
      middle between
      → UsesOn (else_spelling writer (out-IIf branch).rest) middle between after more
      → UsesOn (if_spelling writer branch) locals uses after more
  if-goes branch middle after between more first next =
      retold (λ locals. then_next (tested locals) (else_spelling writer (out-IIf branch).rest)) locals uses (if_spelling writer branch)
      after more (ap (λ part. part.references) (if-is writer branch locals)) (ap (λ part. part.locals) (if-is writer branch locals))
      (then_on tested (else_spelling writer (out-IIf branch).rest) locals middle after uses between more first next) where
        tested : Spells (Expr × Block)
        tested locals = then_next (one_expr writer (out-IIf branch).test locals) (spelled_block writer (out-IIf branch).then)

  -- ---- what follows `else`

  pub no-else : (rest : IElse) → rest ≡ elses.None → UsesOn (else_spelling writer rest) locals uses locals uses
  no-else rest is =
      let whole = ap (λ rest. else_spelling writer rest locals) is ∙ (λ i. else-none writer i locals) in
      nothing (else_spelling writer rest) locals uses (ap (λ part. part.locals) whole) (ap (λ part. uses_of part.references) whole)

  pub else-of-block : (rest : IElse) (block : IBlock) (after : Locals Id) (more : List Use) → rest ≡ elses.Block block
      → UsesOn (spelled_block writer block) locals uses after more → UsesOn (else_spelling writer rest) locals uses after more
  else-of-block rest block after more is goes =
      let whole = ap (λ rest. else_spelling writer rest locals) is ∙ (λ i. else-block writer block i locals) in
      retold (spelled_block writer block) locals uses (else_spelling writer rest) after more (ap (λ part. part.references) whole)
      (ap (λ part. part.locals) whole) goes

  -- The branch may be found as another value.
  pub else-of-if : (rest : IElse) (branch found : IIf) (after : Locals Id) (more : List Use) → rest ≡ elses.If branch → found ≡ branch
      → UsesOn (if_spelling writer found) locals uses after more → UsesOn (else_spelling writer rest) locals uses after more
  else-of-if rest branch found after more is same goes =
      let whole = ap (λ rest. else_spelling writer rest locals) (is ∙ ap (λ branch. elses.If branch) (sym same))
      ∙ (λ i. else-if writer found i locals) in
      retold (if_spelling writer found) locals uses (else_spelling writer rest) after more (ap (λ part. part.references) whole)
      (ap (λ part. part.locals) whole) goes

-- # Statements that hold others

module _ (writer : Writer) (n : IStmtNode) (locals : Locals Id) (uses : List Use) where
  abbrev Comes : Locals Id → List Use → Type 0
  Comes after more = UsesOn (node_spelling writer n) locals uses after more

  node-is : (x : IStmtNode-F IElse IStmtNode IBlock IIf IStmt) → n ≡ roll-IStmtNode x
      → node_spelling writer n locals ≡ node_step writer (parts writer x) locals
  node-is x is = ap (λ n. node_spelling writer n locals) is ∙ (λ i. node-rolled writer x i locals)

  by_node : {A : Type 0} (x : IStmtNode-F IElse IStmtNode IBlock IIf IStmt) (part : Spells A) (after : Locals Id) (more : List Use)
      → n ≡ roll-IStmtNode x → (node_step writer (parts writer x) locals).references ≡ (part locals).references
      → (node_step writer (parts writer x) locals).locals ≡ (part locals).locals → UsesOn part locals uses after more → Comes after more
  by_node x part after more is same same_locals goes =
      retold part locals uses (node_spelling writer n) after more (ap (λ part. part.references) (node-is x is) ∙ same)
      (ap (λ part. part.locals) (node-is x is) ∙ same_locals) goes

  pub at-Block : (block : IBlock) (after : Locals Id) (more : List Use) → n ≡ nodes.Block block
      → UsesOn (spelled_block writer block) locals uses after more → Comes after more
  at-Block block after more is =
      by_node (IStmtNode-F.IStmtNode::Block block) (spelled_block writer block) after more (is ∙ sym (nodes.rolls-Block block)) refl refl

  pub at-Let : (declared : ILet) (after : Locals Id) (more : List Use) → n ≡ nodes.Let declared
      → UsesOn (spelled_let writer declared) locals uses after more → Comes after more
  at-Let declared after more is =
      by_node (IStmtNode-F.Let declared) (spelled_let writer declared) after more (is ∙ sym (nodes.rolls-Let declared)) refl refl

  pub at-If : (branch : IIf) (after : Locals Id) (more : List Use) → n ≡ nodes.If branch
      → UsesOn (if_spelling writer branch) locals uses after more → Comes after more
  at-If branch after more is =
      by_node (IStmtNode-F.IStmtNode::If branch) (if_spelling writer branch) after more (is ∙ sym (nodes.rolls-If branch)) refl refl

  pub at-While : (test : IExpr) (block : IBlock) (after : Locals Id) (more : List Use) → n ≡ nodes.While test block
      → UsesOn (λ locals. then_next (one_expr writer test locals) (spelled_block writer block)) locals uses after more → Comes after more
  at-While test block after more is =
      by_node (IStmtNode-F.While test block) (λ locals. then_next (one_expr writer test locals) (spelled_block writer block)) after more
      (is ∙ sym (nodes.rolls-While test block)) refl refl

  -- The steps may be found as another value.
  pub at-For : (start : IForStart) (test : Option IExpr) (steps found : List IExpr) (block : IBlock) (after : Locals Id) (more : List Use)
      → n ≡ nodes.For start test steps block → found ≡ steps
      → UsesOn (in_own_block (for_parts writer start test found block)) locals uses after more → Comes after more
  at-For start test steps found block after more is same =
      by_node (IStmtNode-F.For start test found block) (in_own_block (for_parts writer start test found block)) after more
      (is ∙ (λ i. nodes.For start test (sym same i) block) ∙ sym (nodes.rolls-For start test found block)) refl refl

  pub at-Each : (is_final : Bool) (type : IType) (name : Name) (e : IExpr) (block : IBlock) (after : Locals Id) (more : List Use)
      → n ≡ nodes.Each is_final type name e block → UsesOn (each_parts writer type name e block) locals uses after more → Comes after more
  at-Each is_final type name e block after more is =
      by_node (IStmtNode-F.Each is_final type name e block) (each_parts writer type name e block) after more
      (is ∙ sym (nodes.rolls-Each is_final type name e block)) refl refl

-- # Statements that hold no others

module _ (writer : Writer) (n : IStmtNode) (locals : Locals Id) (uses : List Use) where
  abbrev Stays : List Use → Type 0
  Stays more = UsesOn (node_spelling writer n) locals uses locals more

  simply : (x : IStmtNode-F IElse IStmtNode IBlock IIf IStmt) (own more : List Use) → n ≡ roll-IStmtNode x
      → (node_step writer (parts writer x) locals).locals ≡ locals → uses_of (node_step writer (parts writer x) locals).references ≡ own
      → more ≡ uses ++ own → Stays more
  simply x own more is none used added =
      none_declared (node_spelling writer n) locals uses more
      (ap (λ part. part.locals) (node-is writer n locals uses x is) ∙ none)
      (added ∙ ap (λ us. uses ++ us) (sym (ap (λ part. uses_of part.references) (node-is writer n locals uses x is) ∙ used)))

  silent : (x : IStmtNode-F IElse IStmtNode IBlock IIf IStmt) → n ≡ roll-IStmtNode x
      → (node_step writer (parts writer x) locals).locals ≡ locals → uses_of (node_step writer (parts writer x) locals).references ≡ []
      → Stays uses
  silent x is none used =
      nothing (node_spelling writer n) locals uses (ap (λ part. part.locals) (node-is writer n locals uses x is) ∙ none)
      (ap (λ part. uses_of part.references) (node-is writer n locals uses x is) ∙ used)

  pub at-Break : n ≡ nodes.Break → Stays uses
  at-Break is = silent IStmtNode-F.Break (is ∙ sym nodes.rolls-Break) refl refl

  pub at-Continue : n ≡ nodes.Continue → Stays uses
  at-Continue is = silent IStmtNode-F.Continue (is ∙ sym nodes.rolls-Continue) refl refl

  pub at-Empty : n ≡ nodes.Empty → Stays uses
  at-Empty is = silent IStmtNode-F.Empty (is ∙ sym nodes.rolls-Empty) refl refl

  pub at-SuperDefault : (class : Id) → n ≡ nodes.SuperDefault class → Stays uses
  at-SuperDefault class is = silent (IStmtNode-F.SuperDefault class) (is ∙ sym (nodes.rolls-SuperDefault class)) refl refl

  pub at-Do : (e : IExpr) (more : List Use) → n ≡ nodes.Do e → more ≡ uses ++ expr_uses writer locals e → Stays more
  at-Do e more is = simply (IStmtNode-F.Do e) (expr_uses writer locals e) more (is ∙ sym (nodes.rolls-Do e)) refl refl

  pub at-Throw : (e : IExpr) (more : List Use) → n ≡ nodes.Throw e → more ≡ uses ++ expr_uses writer locals e → Stays more
  at-Throw e more is = simply (IStmtNode-F.Throw e) (expr_uses writer locals e) more (is ∙ sym (nodes.rolls-Throw e)) refl refl

  pub at-Return : (e : Option IExpr) (more : List Use) → n ≡ nodes.Return e → more ≡ uses ++ maybe_uses writer locals e → Stays more
  at-Return e more is =
      simply (IStmtNode-F.Return e) (maybe_uses writer locals e) more (is ∙ sym (nodes.rolls-Return e)) (maybe-locals writer e locals)
      (maybe-uses writer e locals)

  of-values : (args : List Argument) → all_uses writer locals (map (λ (argument : Argument). argument.value) args)
      ≡ argument_uses writer locals args
  of-values [] = refl
  of-values (a ∷ args) = ap (λ us. expr_uses writer locals a.value ++ us) (of-values args)

  -- The arguments may be found as another value.
  pub at-Super : (constructor : Id) (args found : List Argument) (more : List Use) → n ≡ nodes.Super constructor args → found ≡ args
      → more ≡ uses ++ argument_uses writer locals found → Stays more
  at-Super constructor args found more is same =
      simply (IStmtNode-F.Super constructor found) (argument_uses writer locals found) more
      (is ∙ (λ i. nodes.Super constructor (sym same i)) ∙ sym (nodes.rolls-Super constructor found)) refl
      (uses-all writer locals (map (λ (argument : Argument). argument.value) found) ∙ of-values found)

  pub at-SuperOutside : (args found : List IExpr) (more : List Use) → n ≡ nodes.SuperOutside args → found ≡ args
      → more ≡ uses ++ all_uses writer locals found → Stays more
  at-SuperOutside args found more is same =
      simply (IStmtNode-F.SuperOutside found) (all_uses writer locals found) more
      (is ∙ (λ i. nodes.SuperOutside (sym same i)) ∙ sym (nodes.rolls-SuperOutside found)) refl (uses-all writer locals found)
