-- What is noted of each kind of statement, by what it is made of (JLS 14).
use Rattle.std.proofs.Common.{◌≡◌, Bool, List, [], ◌∷◌, ◌++◌, map, length, take, Option, refl, sym, ap, ◌∙◌, subst, codes}
use Rattle.jav_tree.specs.declared.expr.Expr.{Expr}
use Rattle.jav_tree.specs.declared.stmt.Block.{Block}
use Rattle.jav_names.specs.DottedNames.{Name}
use Rattle.mol_base.specs.declared.ident.Id.{Id}
use Rattle.mol_faults_misread.proofs.body_misreads_lemmas.Declared.{maybe-locals}
use Rattle.mol_faults_misread.proofs.body_misreads_lemmas.InTurn.{block_ends, none_declared, nothing, retold, then_on}
use Rattle.mol_faults_misread.specs.body_misreads.NotedOn.{NotedOn}
use Rattle.mol_faults_misread.specs.body_misreads.PartReferences.{maybe_references, super_reference}
use Rattle.mol_spell_places.proofs.body_places_lemmas.StatementSteps.{block-is, else-block, else-if, else-none, if-is, node-rolled, parts, stmt-is}
use Rattle.mol_spell_places.specs.body_places.Statements.{else_spelling, if_spelling, node_spelling, statements_spelling, stmt_spelling}
use Rattle.mol_spell_uses.specs.body_uses.Loops.{each_parts, for_parts, in_own_block}
use Rattle.mol_faults_expr.proofs.Nodes.{all-alone}
use Rattle.mol_faults_expr.specs.Noted.{Noted, note, noted_after}
use Rattle.mol_faults_expr.specs.References.{all_references, argument_references, expr_references}
use Rattle.mol_spell_rules.specs.references.References.{default_target, method_target, outside_target}
use Rattle.mol_resolve_rules.specs.Locals.{Locals}
use Rattle.mol_spell_rules.specs.SpelledStatements.{Spells, node_step, one_expr, spelled_block, spelled_let, then_next}
use Rattle.mol_spell_rules.specs.Writers.{Reference, Writer}
use Rattle.mol_values_types.specs.declared.iblock.IBlock.{IBlock, out-IBlock}
use Rattle.mol_values_types.specs.declared.iblock.IElse.{IElse}
use Rattle.mol_values_types.specs.declared.iblock.IElse.TheOpen.{IStmtNode-F}
use Rattle.mol_values_types.specs.declared.iblock.IElse.TheVariants as elses
use Rattle.mol_values_types.specs.declared.iblock.IElse.TheViews.{roll-IStmtNode}
use Rattle.mol_values_types.specs.declared.iblock.IForStart.{IForStart}
use Rattle.mol_values_types.specs.declared.iblock.IIf.{IIf, out-IIf}
use Rattle.mol_values_types.specs.declared.iblock.ILet.{ILet}
use Rattle.mol_values_types.specs.declared.iblock.IStmt.{IStmt}
use Rattle.mol_values_types.specs.declared.iblock.IStmtNode.{IStmtNode}
use Rattle.mol_values_types.specs.declared.iblock.IStmtNode.TheVariants as nodes
use Rattle.mol_values_types.specs.declared.iexpr.Argument.{Argument}
use Rattle.mol_values_types.specs.declared.iexpr.IExpr.{IExpr}
use Rattle.mol_values_types.specs.declared.itype.IType.{IType}

-- # Blocks and branches

module _ (writer : Writer) (locals : Locals Id) (noted : Noted) where
  -- The statements may be found as another value.
  pub block-goes : (block : IBlock) (items : List IStmt) (after ended : Locals Id) (more : Noted) → items ≡ (out-IBlock block).items
      → NotedOn writer (statements_spelling writer items) locals noted after more
      → ended ≡ record { declared = after.declared; in_scope = take (length locals.in_scope) after.in_scope }
      → NotedOn writer (spelled_block writer block) locals noted ended more
  block-goes block items after ended more same goes ends =
      retold writer (in_own_block (statements_spelling writer (out-IBlock block).items)) locals noted (spelled_block writer block) ended
      more (ap (λ part. part.references) (block-is writer block locals)) (ap (λ part. part.locals) (block-is writer block locals))
      (block_ends writer (statements_spelling writer (out-IBlock block).items) locals noted after ended more
      (subst (λ items. NotedOn writer (statements_spelling writer items) locals noted after more) same goes) ends)

  -- of a statement what stands after its comments
  pub statement-goes : (s : IStmt) (after : Locals Id) (more : Noted)
      → NotedOn writer (node_spelling writer s.node) locals noted after more
      → NotedOn writer (stmt_spelling writer s) locals noted after more
  statement-goes s after more goes =
      retold writer (node_spelling writer s.node) locals noted (stmt_spelling writer s) after more
      (ap (λ part. part.references) (stmt-is writer s.notes s.node locals))
      (ap (λ part. part.locals) (stmt-is writer s.notes s.node locals)) goes

  pub if-goes : (branch : IIf) (middle after : Locals Id) (between more : Noted)
      → NotedOn writer (λ locals. then_next (one_expr writer (out-IIf branch).test locals) (spelled_block writer (out-IIf branch).then))
      locals noted middle between
      → NotedOn writer (else_spelling writer (out-IIf branch).rest) middle between after more
      → NotedOn writer (if_spelling writer branch) locals noted after more
  if-goes branch middle after between more first next =
      retold writer (λ locals. then_next (tested locals) (else_spelling writer (out-IIf branch).rest)) locals noted
      (if_spelling writer branch) after more (ap (λ part. part.references) (if-is writer branch locals))
      (ap (λ part. part.locals) (if-is writer branch locals))
      (then_on writer tested (else_spelling writer (out-IIf branch).rest) locals middle after noted between more first next) where
        tested : Spells (Expr × Block)
        tested locals = then_next (one_expr writer (out-IIf branch).test locals) (spelled_block writer (out-IIf branch).then)

  -- ---- what follows `else`

  pub no-else : (rest : IElse) → rest ≡ elses.None → NotedOn writer (else_spelling writer rest) locals noted locals noted
  no-else rest is =
      let whole = ap (λ rest. else_spelling writer rest locals) is ∙ (λ i. else-none writer i locals) in
      nothing writer (else_spelling writer rest) locals noted (ap (λ part. part.locals) whole) (ap (λ part. part.references) whole)

  pub else-of-block : (rest : IElse) (block : IBlock) (after : Locals Id) (more : Noted) → rest ≡ elses.Block block
      → NotedOn writer (spelled_block writer block) locals noted after more
      → NotedOn writer (else_spelling writer rest) locals noted after more
  else-of-block rest block after more is goes =
      let whole = ap (λ rest. else_spelling writer rest locals) is ∙ (λ i. else-block writer block i locals) in
      retold writer (spelled_block writer block) locals noted (else_spelling writer rest) after more (ap (λ part. part.references) whole)
      (ap (λ part. part.locals) whole) goes

  -- The branch may be found as another value.
  pub else-of-if : (rest : IElse) (branch found : IIf) (after : Locals Id) (more : Noted) → rest ≡ elses.If branch → found ≡ branch
      → NotedOn writer (if_spelling writer found) locals noted after more
      → NotedOn writer (else_spelling writer rest) locals noted after more
  else-of-if rest branch found after more is same goes =
      let whole = ap (λ rest. else_spelling writer rest locals) (is ∙ ap (λ branch. elses.If branch) (sym same))
      ∙ (λ i. else-if writer found i locals) in
      retold writer (if_spelling writer found) locals noted (else_spelling writer rest) after more (ap (λ part. part.references) whole)
      (ap (λ part. part.locals) whole) goes

-- # Statements that hold others

module _ (writer : Writer) (n : IStmtNode) (locals : Locals Id) (noted : Noted) where
  abbrev Comes : Locals Id → Noted → Type 0
  Comes after more = NotedOn writer (node_spelling writer n) locals noted after more

  node-is : (x : IStmtNode-F IElse IStmtNode IBlock IIf IStmt) → n ≡ roll-IStmtNode x
      → node_spelling writer n locals ≡ node_step writer (parts writer x) locals
  node-is x is = ap (λ n. node_spelling writer n locals) is ∙ (λ i. node-rolled writer x i locals)

  by_node : {A : Type 0} (x : IStmtNode-F IElse IStmtNode IBlock IIf IStmt) (part : Spells A) (after : Locals Id) (more : Noted)
      → n ≡ roll-IStmtNode x → (node_step writer (parts writer x) locals).references ≡ (part locals).references
      → (node_step writer (parts writer x) locals).locals ≡ (part locals).locals → NotedOn writer part locals noted after more
      → Comes after more
  by_node x part after more is same same_locals goes =
      retold writer part locals noted (node_spelling writer n) after more (ap (λ part. part.references) (node-is x is) ∙ same)
      (ap (λ part. part.locals) (node-is x is) ∙ same_locals) goes

  pub at-Block : (block : IBlock) (after : Locals Id) (more : Noted) → n ≡ nodes.Block block
      → NotedOn writer (spelled_block writer block) locals noted after more → Comes after more
  at-Block block after more is =
      by_node (IStmtNode-F.IStmtNode::Block block) (spelled_block writer block) after more (is ∙ sym (nodes.rolls-Block block)) refl refl

  pub at-Let : (declared : ILet) (after : Locals Id) (more : Noted) → n ≡ nodes.Let declared
      → NotedOn writer (spelled_let writer declared) locals noted after more → Comes after more
  at-Let declared after more is =
      by_node (IStmtNode-F.Let declared) (spelled_let writer declared) after more (is ∙ sym (nodes.rolls-Let declared)) refl refl

  pub at-If : (branch : IIf) (after : Locals Id) (more : Noted) → n ≡ nodes.If branch
      → NotedOn writer (if_spelling writer branch) locals noted after more → Comes after more
  at-If branch after more is =
      by_node (IStmtNode-F.IStmtNode::If branch) (if_spelling writer branch) after more (is ∙ sym (nodes.rolls-If branch)) refl refl

  pub at-While : (test : IExpr) (block : IBlock) (after : Locals Id) (more : Noted) → n ≡ nodes.While test block
      → NotedOn writer (λ locals. then_next (one_expr writer test locals) (spelled_block writer block)) locals noted after more
      → Comes after more
  at-While test block after more is =
      by_node (IStmtNode-F.While test block) (λ locals. then_next (one_expr writer test locals) (spelled_block writer block)) after more
      (is ∙ sym (nodes.rolls-While test block)) refl refl

  -- The steps may be found as another value.
  pub at-For : (start : IForStart) (test : Option IExpr) (steps found : List IExpr) (block : IBlock) (after : Locals Id) (more : Noted)
      → n ≡ nodes.For start test steps block → found ≡ steps
      → NotedOn writer (in_own_block (for_parts writer start test found block)) locals noted after more → Comes after more
  at-For start test steps found block after more is same =
      by_node (IStmtNode-F.For start test found block) (in_own_block (for_parts writer start test found block)) after more
      (is ∙ (λ i. nodes.For start test (sym same i) block) ∙ sym (nodes.rolls-For start test found block)) refl refl

  pub at-Each : (is_final : Bool) (type : IType) (name : Name) (e : IExpr) (block : IBlock) (after : Locals Id) (more : Noted)
      → n ≡ nodes.Each is_final type name e block → NotedOn writer (each_parts writer type name e block) locals noted after more
      → Comes after more
  at-Each is_final type name e block after more is =
      by_node (IStmtNode-F.Each is_final type name e block) (each_parts writer type name e block) after more
      (is ∙ sym (nodes.rolls-Each is_final type name e block)) refl refl

-- # Statements that hold no others

module _ (writer : Writer) (n : IStmtNode) (locals : Locals Id) (noted : Noted) where
  abbrev Stays : Noted → Type 0
  Stays more = NotedOn writer (node_spelling writer n) locals noted locals more

  simply : (x : IStmtNode-F IElse IStmtNode IBlock IIf IStmt) (own : List Reference) (more : Noted) → n ≡ roll-IStmtNode x
      → (node_step writer (parts writer x) locals).locals ≡ locals → (node_step writer (parts writer x) locals).references ≡ own
      → more ≡ noted_after writer noted own → Stays more
  simply x own more is none named are =
      none_declared writer (node_spelling writer n) locals noted more
      (ap (λ part. part.locals) (node-is writer n locals noted x is) ∙ none)
      (are ∙ ap (noted_after writer noted) (sym (ap (λ part. part.references) (node-is writer n locals noted x is) ∙ named)))

  silent : (x : IStmtNode-F IElse IStmtNode IBlock IIf IStmt) → n ≡ roll-IStmtNode x
      → (node_step writer (parts writer x) locals).locals ≡ locals → (node_step writer (parts writer x) locals).references ≡ []
      → Stays noted
  silent x is none named = simply x [] noted is none named refl

  pub at-Break : n ≡ nodes.Break → Stays noted
  at-Break is = silent IStmtNode-F.Break (is ∙ sym nodes.rolls-Break) refl refl

  pub at-Continue : n ≡ nodes.Continue → Stays noted
  at-Continue is = silent IStmtNode-F.Continue (is ∙ sym nodes.rolls-Continue) refl refl

  pub at-Empty : n ≡ nodes.Empty → Stays noted
  at-Empty is = silent IStmtNode-F.Empty (is ∙ sym nodes.rolls-Empty) refl refl

  pub at-Do : (e : IExpr) (more : Noted) → n ≡ nodes.Do e → more ≡ noted_after writer noted (expr_references writer locals e)
      → Stays more
  at-Do e more is = simply (IStmtNode-F.Do e) (expr_references writer locals e) more (is ∙ sym (nodes.rolls-Do e)) refl refl

  pub at-Throw : (e : IExpr) (more : Noted) → n ≡ nodes.Throw e → more ≡ noted_after writer noted (expr_references writer locals e)
      → Stays more
  at-Throw e more is = simply (IStmtNode-F.Throw e) (expr_references writer locals e) more (is ∙ sym (nodes.rolls-Throw e)) refl refl

  pub at-Return : (e : Option IExpr) (more : Noted) → n ≡ nodes.Return e
      → more ≡ noted_after writer noted (maybe_references writer locals e) → Stays more
  at-Return e more is =
      simply (IStmtNode-F.Return e) (maybe_references writer locals e) more (is ∙ sym (nodes.rolls-Return e)) (maybe-locals writer e locals)
      refl

  -- ---- `super(..)`

  of-values : (args : List Argument) → all_references writer locals (map (λ (argument : Argument). argument.value) args)
      ≡ argument_references writer locals args
  of-values [] = refl
  of-values (a ∷ args) = ap (λ references. expr_references writer locals a.value ++ references) (of-values args)

  -- The arguments may be found as another value.
  pub at-Super : (constructor : Id) (args found : List Argument) (more : Noted) → n ≡ nodes.Super constructor args → found ≡ args
      → more ≡ noted_after writer noted
      (super_reference writer locals (method_target constructor) (length found) ∷ argument_references writer locals found) → Stays more
  at-Super constructor args found more is same =
      let named : Reference = super_reference writer locals (method_target constructor) (length found) in
      simply (IStmtNode-F.Super constructor found) (named ∷ argument_references writer locals found) more
      (is ∙ (λ i. nodes.Super constructor (sym same i)) ∙ sym (nodes.rolls-Super constructor found)) refl
      (ap (λ references. named ∷ references)
      (all-alone writer locals (map (λ (argument : Argument). argument.value) found) ∙ of-values found))

  pub at-SuperDefault : (class : Id) (more : Noted) → n ≡ nodes.SuperDefault class
      → more ≡ note writer noted (super_reference writer locals (default_target class) 0) → Stays more
  at-SuperDefault class more is =
      simply (IStmtNode-F.SuperDefault class) (super_reference writer locals (default_target class) 0 ∷ []) more
      (is ∙ sym (nodes.rolls-SuperDefault class)) refl refl

  pub at-SuperOutside : (args found : List IExpr) (more : Noted) → n ≡ nodes.SuperOutside args → found ≡ args
      → more ≡ noted_after writer noted
      (super_reference writer locals (outside_target (codes "super")) (length found) ∷ all_references writer locals found) → Stays more
  at-SuperOutside args found more is same =
      let named : Reference = super_reference writer locals (outside_target (codes "super")) (length found) in
      simply (IStmtNode-F.SuperOutside found) (named ∷ all_references writer locals found) more
      (is ∙ (λ i. nodes.SuperOutside (sym same i)) ∙ sym (nodes.rolls-SuperOutside found)) refl
      (ap (λ references. named ∷ references) (all-alone writer locals found))
