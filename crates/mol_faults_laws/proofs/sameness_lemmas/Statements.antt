-- Statements and blocks that mention what lives alone are written alike in two such programs, and their names are good.
use Rattle.std.proofs.Common.{Bool, List, None, Option, Some, [], ap, length, refl, subst, sym, ℕ, ◌++◌, ◌∙◌, ◌∷◌, ◌≡◌}
use Rattle.std.specs.List.{flat_map}
use Rattle.std.specs.Prelude.{codes, map, not}
use Rattle.jav_names.specs.DottedNames.{Names}
use Rattle.jav_names.specs.Views.{ViewType}
use Rattle.jav_tree.specs.Blocks as tree_blocks
use Rattle.jav_tree.specs.declared.expr.Expr.{Expr}
use Rattle.jav_tree.specs.declared.stmt.Block.{Block}
use Rattle.jav_tree.specs.declared.stmt.Else.{Else}
use Rattle.jav_tree.specs.declared.stmt.Else.TheVariants as otherwise
use Rattle.jav_tree.specs.declared.stmt.ForStart.TheVariants as start
use Rattle.jav_tree.specs.declared.stmt.Stmt.{Stmt}
use Rattle.jav_tree.specs.declared.stmt.StmtNode.{StmtNode}
use Rattle.jav_tree.specs.declared.stmt.StmtNode.TheVariants as node
use Rattle.mol_base.specs.declared.ident.Id.{Id}
use Rattle.mol_resolve_rules.specs.Locals.{Locals}
use Rattle.mol_resolve_rules.specs.ProgramViews.{seen}
use Rattle.mol_resolve_rules.specs.Readers.{Parameter}
use Rattle.mol_spell_rules.specs.SpelledExpressions.{SpelledExpr, spelled_expr, plain, trees, each_alone}
use Rattle.mol_spell_rules.specs.SpelledStatements as stating
use Rattle.mol_spell_rules.specs.SpelledStatements.{SpelledPart, Spells, declaring_none, mapped, followed_by, then_next, put_first, in_block, one_expr, exprs, maybe_expr, declared_type, declaring, declarator, let_of, spelled_let, spelled_start, each_body, else_step, header, super_part, node_step, if_step, stmt_step, block_step, spelled_block}
use Rattle.mol_spell_rules.specs.Writers.{Importable, Writer, Reference, hides_none, super_constructor_asked}
use Rattle.mol_spell_rules.specs.references.References.{method_target, default_target, outside_target}
use Rattle.mol_table_rules.specs.Mentions as mentioning
use Rattle.mol_table_rules.specs.Mentions.{Mention, joined, type_mentions, expr_mentions, exprs_mentions, arguments_mentions, maybe_mentions, let_mentions, start_mentions}
use Rattle.mol_table_rules.specs.Program.{Program}
use Rattle.mol_values_types.specs.Blocks.{block_of as i_block_of, branch_of}
use Rattle.mol_values_types.specs.declared.iblock.IBlock.{IBlock, fold-IBlock}
use Rattle.mol_values_types.specs.declared.iblock.IDeclarator.{IDeclarator}
use Rattle.mol_values_types.specs.declared.iblock.IElse.{IElse, fold-IElse}
use Rattle.mol_values_types.specs.declared.iblock.IElse.TheFolds.{fold-roll-IElse, fold-roll-IStmtNode, fold-roll-IBlock, fold-roll-IIf, fold-roll-IStmt, map-IElse, map-IStmtNode, ind-IBlock}
use Rattle.mol_values_types.specs.declared.iblock.IElse.TheOpen.{IElse-F, IStmtNode-F}
use Rattle.mol_values_types.specs.declared.iblock.IElse.TheViews.{roll-IElse, roll-IStmtNode, roll-IBlock, roll-IIf, roll-IStmt}
use Rattle.mol_values_types.specs.declared.iblock.IForStart.{IForStart}
use Rattle.mol_values_types.specs.declared.iblock.IForStart.TheVariants as starts
use Rattle.mol_values_types.specs.declared.iblock.IIf.{IIf, fold-IIf}
use Rattle.mol_values_types.specs.declared.iblock.ILet.{ILet}
use Rattle.mol_values_types.specs.declared.iblock.IStmt.{IStmt, fold-IStmt}
use Rattle.mol_values_types.specs.declared.iblock.IStmtNode.{IStmtNode, fold-IStmtNode}
use Rattle.mol_values_types.specs.declared.iexpr.Argument.{Argument}
use Rattle.mol_values_types.specs.declared.iexpr.IExpr.{IExpr}
use Rattle.mol_values_types.specs.declared.itype.IType.{IType}
use Rattle.mol_table_rules.proofs.KeptBlocks.{Mentioned, else_mentions, node_mentions, block_mentions, if_mentions, statement_mentions}
use Rattle.mol_faults_laws.proofs.sameness_lemmas.ExpressionSteps.{AreSame, AreGoodLocals}
use Rattle.mol_faults_laws.proofs.sameness_lemmas.Expressions.{expr-alike}
use Rattle.mol_faults_laws.proofs.sameness_lemmas.Goodness.{AreGoodReferences, IsGoodImportable, IsGoodReference, all-back, all-both, all-front, seen-good}
use Rattle.mol_faults_laws.proofs.sameness_lemmas.SpelledTypes.{writer_of, type-alike}
use Rattle.mol_faults_laws.proofs.sameness_lemmas.StatementParts.{SpellAlike, none-same, mapped-same, next-same, block-same, declare-good}
use Rattle.mol_faults_laws.proofs.sameness_lemmas.Twins.{AreGood, IsGood, IsGoodClass, IsGoodType, Twins}

module _ (P Q : Program) (twins : Twins P Q) (class : Id) (good : IsGoodClass P class) (imports : Names) (params : List (Parameter Id))
    (in_constructor : Bool) (first_simple second_simple : Importable → Bool)
    (simple : (what : Importable) → IsGoodImportable P what → first_simple what ≡ second_simple what) where
  abbrev here : Writer
  here = writer_of P imports class params in_constructor first_simple

  abbrev there : Writer
  there = writer_of Q imports class params in_constructor second_simple

  abbrev Good : List Mention → Type 0
  Good = AreGood P

  abbrev first_of : (xs ys : List Mention) → Good (xs ++ ys) → Good xs
  first_of = all-front (IsGood P)

  abbrev rest_of : (xs ys : List Mention) → Good (xs ++ ys) → Good ys
  rest_of = all-back (IsGood P)

  -- ---- expressions and types

  expr-same : (locals : Locals Id) → AreGoodLocals P locals → (e : IExpr) → Good (expr_mentions e)
      → AreSame P (spelled_expr here locals e) (spelled_expr there locals e)
  expr-same locals is e all = expr-alike P Q twins class good imports params in_constructor first_simple second_simple simple locals is e
      all

  one-same : (e : IExpr) → Good (expr_mentions e) → SpellAlike P (one_expr here e) (one_expr there e)
  one-same e all locals is =
      let one = expr-same locals is e all in
      record {
        same = λ i. declaring_none (one.same i).tree ((one.same i).references None) locals;
        references = one.references None;
        locals = is;
      }

  record AllSame (locals : Locals Id) (ss ts : List SpelledExpr) : Type 0 where
    same : ss ≡ ts
    references : AreGoodReferences P (each_alone here locals ss)

  each-same : (locals : Locals Id) → AreGoodLocals P locals → (es : List IExpr) → Good (exprs_mentions es)
      → AllSame locals (map (spelled_expr here locals) es) (map (spelled_expr there locals) es)
  each-same locals is [] all = record { same = refl; references = tt {0} }
  each-same locals is (e ∷ es) all =
      let one = expr-same locals is e (first_of (expr_mentions e) (exprs_mentions es) all) in
      let more = each-same locals is es (rest_of (expr_mentions e) (exprs_mentions es) all) in
      record {
        same = λ i. one.same i ∷ more.same i;
        references = all-both (IsGoodReference P) ((spelled_expr here locals e).references None)
            (each_alone here locals (map (spelled_expr here locals) es))
            (one.references None) more.references;
      }

  exprs-same : (es : List IExpr) → Good (exprs_mentions es) → SpellAlike P (exprs here es) (exprs there es)
  exprs-same es all locals is =
      let more = each-same locals is es all in
      record {
        same = λ i. declaring_none (trees (more.same i)) (each_alone there locals (more.same i)) locals;
        references = more.references;
        locals = is;
      }

  values-mentioned : (args : List Argument) → arguments_mentions args ≡ exprs_mentions (map (λ (argument : Argument). argument.value) args)
  values-mentioned [] = refl
  values-mentioned (argument ∷ args) = ap (λ rest. expr_mentions argument.value ++ rest) (values-mentioned args)

  maybe-same : (o : Option IExpr) → Good (maybe_mentions o) → SpellAlike P (maybe_expr here o) (maybe_expr there o)
  maybe-same None all locals is = none-same P None [] (tt {0}) locals is
  maybe-same (Some e) all locals is = mapped-same P (λ e. Some e) (one_expr here e locals) (one_expr there e locals)
      (one-same e all locals is)

  type-same : (locals : Locals Id) (type : IType) → Good (type_mentions type)
      → (declared_type here locals type ≡ declared_type there locals type) × AreGoodReferences P (declared_type here locals type).references
  type-same locals type all =
      type-alike P Q twins class good imports params in_constructor first_simple second_simple simple hides_none hides_none refl locals
      type all

  typed-same : (type : IType) → Good (type_mentions type)
      → SpellAlike P (λ locals. declaring_none (declared_type here locals type) (declared_type here locals type).references locals)
      (λ locals. declaring_none (declared_type there locals type) (declared_type there locals type).references locals)
  typed-same type all locals is =
      let types = type-same locals type all in
      record { same = λ i. declaring_none (types.0 i) (types.0 i).references locals; references = types.1; locals = is }

  -- ---- declarations of locals

  declarator-same : (type : ViewType Id) → IsGoodType P type → (declared : IDeclarator) → Good (maybe_mentions declared.init)
      → SpellAlike P (declarator here type declared) (declarator there type declared)
  declarator-same type typed declared all locals is =
      mapped-same P (λ init. record { name = declared.name; init = init })
      (maybe_expr here declared.init (declaring here type declared.name locals))
      (maybe_expr there declared.init (declaring there type declared.name locals))
      (maybe-same declared.init all (declaring here type declared.name locals) (declare-good P type declared.name locals typed is))

  abbrev names_mentions : List IDeclarator → List Mention
  names_mentions names = flat_map (λ (declarator : IDeclarator). maybe_mentions declarator.init) names

  names-same : (type : ViewType Id) → IsGoodType P type → (names : List IDeclarator) → Good (names_mentions names)
      → SpellAlike P (stating.each (map (declarator here type) names)) (stating.each (map (declarator there type) names))
  names-same type typed [] all locals is = none-same P [] [] (tt {0}) locals is
  names-same type typed (d ∷ names) all locals is =
      mapped-same P put_first (then_next (declarator here type d locals) (stating.each (map (declarator here type) names)))
      (then_next (declarator there type d locals) (stating.each (map (declarator there type) names)))
      (next-same P (declarator here type d locals) (declarator there type d locals)
      (stating.each (map (declarator here type) names)) (stating.each (map (declarator there type) names))
      (declarator-same type typed d (first_of (maybe_mentions d.init) (names_mentions names) all) locals is)
      (names-same type typed names (rest_of (maybe_mentions d.init) (names_mentions names) all)))

  let-same : (declared : ILet) → Good (let_mentions declared) → SpellAlike P (spelled_let here declared) (spelled_let there declared)
  let-same declared all locals is =
      let typed = first_of (type_mentions declared.ty) (names_mentions declared.names) all in
      let types = type-same locals declared.ty typed in
      let parts = next-same P (declaring_none (declared_type here locals declared.ty)
      (declared_type here locals declared.ty).references locals)
      (declaring_none (declared_type there locals declared.ty) (declared_type there locals declared.ty).references locals)
      (stating.each (map (declarator here (seen declared.ty)) declared.names))
      (stating.each (map (declarator there (seen declared.ty)) declared.names))
      (typed-same declared.ty typed locals is)
      (names-same (seen declared.ty) (seen-good P declared.ty typed) declared.names
      (rest_of (type_mentions declared.ty) (names_mentions declared.names) all)) in
      record {
        same = λ i. mapped (λ parts. let_of here declared.is_final (types.0 i) parts.1) (parts.same i);
        references = parts.references;
        locals = parts.locals;
      }

  start-same : (first : IForStart) → Good (start_mentions first) → SpellAlike P (spelled_start here first) (spelled_start there first)
  start-same starts.None all locals is = none-same P start.None [] (tt {0}) locals is
  start-same (starts.Let declared) all locals is =
      mapped-same P (λ declared. start.Let declared) (spelled_let here declared locals) (spelled_let there declared locals)
      (let-same declared all locals is)
  start-same (starts.Do es) all locals is =
      mapped-same P (λ es. start.Do es) (exprs here es locals) (exprs there es locals) (exprs-same es all locals is)

  header-same : (test : Option IExpr) (steps : List IExpr) → Good (maybe_mentions test) → Good (exprs_mentions steps)
      → SpellAlike P (header here test steps) (header there test steps)
  header-same test steps tests going locals is =
      next-same P (maybe_expr here test locals) (maybe_expr there test locals) (exprs here steps) (exprs there steps)
      (maybe-same test tests locals is) (exprs-same steps going)

  super-same : (names : List Reference) (args : List IExpr) → AreGoodReferences P names → Good (exprs_mentions args)
      → SpellAlike P (super_part here names args) (super_part there names args)
  super-same names args named all locals is =
      mapped-same P (λ parts. node.SuperInit parts.1) (then_next (declaring_none names names locals) (exprs here args))
      (then_next (declaring_none names names locals) (exprs there args))
      (next-same P (declaring_none names names locals) (declaring_none names names locals) (exprs here args) (exprs there args)
      (none-same P names names named locals is) (exprs-same args all))

  -- ---- blocks and their parts

  abbrev else_of : Writer → IElse → Spells Else
  else_of w = fold-IElse (Spells Else) (Spells StmtNode) (Spells Block) (Spells StmtNode) (Spells Stmt)
      (else_step w) (node_step w) (block_step w) (if_step w) (stmt_step w)

  abbrev node_of : Writer → IStmtNode → Spells StmtNode
  node_of w = fold-IStmtNode (Spells Else) (Spells StmtNode) (Spells Block) (Spells StmtNode) (Spells Stmt)
      (else_step w) (node_step w) (block_step w) (if_step w) (stmt_step w)

  abbrev block_of : Writer → IBlock → Spells Block
  block_of w = fold-IBlock (Spells Else) (Spells StmtNode) (Spells Block) (Spells StmtNode) (Spells Stmt)
      (else_step w) (node_step w) (block_step w) (if_step w) (stmt_step w)

  abbrev if_of : Writer → IIf → Spells StmtNode
  if_of w = fold-IIf (Spells Else) (Spells StmtNode) (Spells Block) (Spells StmtNode) (Spells Stmt)
      (else_step w) (node_step w) (block_step w) (if_step w) (stmt_step w)

  abbrev statement_of : Writer → IStmt → Spells Stmt
  statement_of w = fold-IStmt (Spells Else) (Spells StmtNode) (Spells Block) (Spells StmtNode) (Spells Stmt)
      (else_step w) (node_step w) (block_step w) (if_step w) (stmt_step w)

  abbrev IsAlikeElse : IElse → Type 0
  IsAlikeElse rest = Good (else_mentions rest) → SpellAlike P (else_of here rest) (else_of there rest)

  abbrev IsAlikeNode : IStmtNode → Type 0
  IsAlikeNode node = Good (node_mentions node) → SpellAlike P (node_of here node) (node_of there node)

  abbrev IsAlikeBlock : IBlock → Type 0
  IsAlikeBlock block = Good (block_mentions block) → SpellAlike P (block_of here block) (block_of there block)

  abbrev IsAlikeIf : IIf → Type 0
  IsAlikeIf branch = Good (if_mentions branch) → SpellAlike P (if_of here branch) (if_of there branch)

  abbrev IsAlikeStatement : IStmt → Type 0
  IsAlikeStatement statement = Good (statement_mentions statement)
      → SpellAlike P (statement_of here statement) (statement_of there statement)

  abbrev WithElse : Type 0
  WithElse = (rest : IElse) × IsAlikeElse rest

  abbrev WithNode : Type 0
  WithNode = (node : IStmtNode) × IsAlikeNode node

  abbrev WithBlock : Type 0
  WithBlock = (block : IBlock) × IsAlikeBlock block

  abbrev WithIf : Type 0
  WithIf = (branch : IIf) × IsAlikeIf branch

  abbrev WithStatement : Type 0
  WithStatement = (statement : IStmt) × IsAlikeStatement statement

  -- where both are other functions
  moved : {A : Type 0} (f f' g g' : Spells A) → f ≡ f' → g ≡ g' → SpellAlike P f' g' → SpellAlike P f g
  moved f f' g g' first second alike locals is =
      let same = alike locals is in
      record {
        same = (λ i. first i locals) ∙ same.same ∙ sym (λ i. second i locals);
        references = subst (λ (s : SpelledPart _). AreGoodReferences P s.references) (sym (λ i. first i locals)) same.references;
        locals = subst (λ (s : SpelledPart _). AreGoodLocals P s.locals) (sym (λ i. first i locals)) same.locals;
      }

  from-node : (x : IStmtNode-F IElse IStmtNode IBlock IIf IStmt)
      → (Good (mentioning.node_step (map-IStmtNode _ _ _ _ _ _ _ _ _ _ else_mentions node_mentions block_mentions if_mentions
      statement_mentions x))
      → SpellAlike P
      (node_step here (map-IStmtNode _ _ _ _ _ _ _ _ _ _ (else_of here) (node_of here) (block_of here) (if_of here)
      (statement_of here) x))
      (node_step there (map-IStmtNode _ _ _ _ _ _ _ _ _ _ (else_of there) (node_of there) (block_of there) (if_of there)
      (statement_of there) x)))
      → IsAlikeNode (roll-IStmtNode x)
  from-node x alike all = moved _ _ _ _
      (fold-roll-IStmtNode (Spells Else) (Spells StmtNode) (Spells Block) (Spells StmtNode) (Spells Stmt)
      (else_step here) (node_step here) (block_step here) (if_step here) (stmt_step here) x)
      (fold-roll-IStmtNode (Spells Else) (Spells StmtNode) (Spells Block) (Spells StmtNode) (Spells Stmt)
      (else_step there) (node_step there) (block_step there) (if_step there) (stmt_step there) x)
      (alike (subst Good (fold-roll-IStmtNode Mentioned Mentioned Mentioned Mentioned Mentioned
      mentioning.else_step mentioning.node_step mentioning.block_step mentioning.if_step mentioning.statement_step x) all))

  layer-node : (y : IStmtNode-F WithElse WithNode WithBlock WithIf WithStatement)
      → IsAlikeNode (roll-IStmtNode (map-IStmtNode _ _ _ _ _ _ _ _ _ _ (λ p. p.0) (λ p. p.0) (λ p. p.0) (λ p. p.0) (λ p. p.0) y))
  layer-node (IStmtNode-F.IStmtNode::Block block) = from-node (IStmtNode-F.IStmtNode::Block block.0) (λ all locals is.
      mapped-same P (λ block. node.Block block) (block_of here block.0 locals) (block_of there block.0 locals) (block.1 all locals is))
  layer-node (IStmtNode-F.Let declared) = from-node (IStmtNode-F.Let declared) (λ all locals is.
      mapped-same P (λ declared. node.Let declared) (spelled_let here declared locals) (spelled_let there declared locals)
      (let-same declared all locals is))
  layer-node (IStmtNode-F.Do e) = from-node (IStmtNode-F.Do e) (λ all locals is.
      mapped-same P (λ e. node.Do e) (one_expr here e locals) (one_expr there e locals) (one-same e all locals is))
  layer-node (IStmtNode-F.IStmtNode::If branch) = from-node (IStmtNode-F.IStmtNode::If branch.0) (λ all locals is. branch.1 all locals is)
  layer-node (IStmtNode-F.While test block) = from-node (IStmtNode-F.While test block.0) (λ all locals is.
      mapped-same P (λ parts. node.While parts.0 parts.1) (then_next (one_expr here test locals) (block_of here block.0))
      (then_next (one_expr there test locals) (block_of there block.0))
      (next-same P (one_expr here test locals) (one_expr there test locals) (block_of here block.0) (block_of there block.0)
      (one-same test (first_of (expr_mentions test) (block_mentions block.0) all) locals is)
      (block.1 (rest_of (expr_mentions test) (block_mentions block.0) all))))
  layer-node (IStmtNode-F.For first test steps block) = from-node (IStmtNode-F.For first test steps block.0) (λ all locals is.
      let begin = start_mentions first in
      let tests = maybe_mentions test in
      let going = exprs_mentions steps in
      let inside = block_mentions block.0 in
      let head = first_of (begin ++ tests ++ going) inside all in
      let pair = first_of (begin ++ tests) going head in
      let rest_here : Spells ((Option Expr × List Expr) × Block) = λ locals. then_next (header here test steps locals)
      (block_of here block.0) in
      let rest_there : Spells ((Option Expr × List Expr) × Block) = λ locals. then_next (header there test steps locals)
      (block_of there block.0) in
      block-same P locals
      (mapped (λ parts. node.For parts.0 parts.1.0.0 parts.1.0.1 parts.1.1) (then_next (spelled_start here first locals) rest_here))
      (mapped (λ parts. node.For parts.0 parts.1.0.0 parts.1.0.1 parts.1.1) (then_next (spelled_start there first locals) rest_there))
      (mapped-same P (λ parts. node.For parts.0 parts.1.0.0 parts.1.0.1 parts.1.1) (then_next (spelled_start here first locals) rest_here)
      (then_next (spelled_start there first locals) rest_there)
      (next-same P (spelled_start here first locals) (spelled_start there first locals) rest_here rest_there
      (start-same first (first_of begin tests pair) locals is)
      (λ after later. next-same P (header here test steps after) (header there test steps after) (block_of here block.0)
      (block_of there block.0)
      (header-same test steps (rest_of begin tests pair) (rest_of (begin ++ tests) going head) after later)
      (block.1 (rest_of (begin ++ tests ++ going) inside all))))))
  layer-node (IStmtNode-F.Each is_final type name e block) = from-node (IStmtNode-F.Each is_final type name e block.0) (λ all locals is.
      let head = first_of (type_mentions type ++ expr_mentions e) (block_mentions block.0) all in
      let typed = first_of (type_mentions type) (expr_mentions e) head in
      let types = type-same locals type typed in
      let begin_here = declaring_none (declared_type here locals type) (declared_type here locals type).references locals in
      let begin_there = declaring_none (declared_type there locals type) (declared_type there locals type).references locals in
      let body_here : Spells Block = each_body here (seen type) name (block_of here block.0) in
      let body_there : Spells Block = each_body there (seen type) name (block_of there block.0) in
      let parts = next-same P (then_next begin_here (one_expr here e)) (then_next begin_there (one_expr there e)) body_here body_there
      (next-same P begin_here begin_there (one_expr here e) (one_expr there e) (typed-same type typed locals is)
      (one-same e (rest_of (type_mentions type) (expr_mentions e) head)))
      (λ after later. block-same P after (block_of here block.0 (declaring here (seen type) name after))
      (block_of there block.0 (declaring there (seen type) name after))
      (block.1 (rest_of (type_mentions type ++ expr_mentions e) (block_mentions block.0) all) (declaring here (seen type) name after)
      (declare-good P (seen type) name after (seen-good P type typed) later))) in
      record {
        same = λ i. mapped (λ parts. node.Each is_final (types.0 i).tree name parts.0.1 parts.1) (parts.same i);
        references = parts.references;
        locals = parts.locals;
      })
  layer-node (IStmtNode-F.Return e) = from-node (IStmtNode-F.Return e) (λ all locals is.
      mapped-same P (λ e. node.Return e) (maybe_expr here e locals) (maybe_expr there e locals) (maybe-same e all locals is))
  layer-node (IStmtNode-F.Throw e) = from-node (IStmtNode-F.Throw e) (λ all locals is.
      mapped-same P (λ e. node.Throw e) (one_expr here e locals) (one_expr there e locals) (one-same e all locals is))
  layer-node IStmtNode-F.Break = from-node IStmtNode-F.Break (λ all locals is. none-same P node.Break [] (tt {0}) locals is)
  layer-node IStmtNode-F.Continue = from-node IStmtNode-F.Continue (λ all locals is. none-same P node.Continue [] (tt {0}) locals is)
  layer-node IStmtNode-F.Empty = from-node IStmtNode-F.Empty (λ all locals is. none-same P node.Empty [] (tt {0}) locals is)
  layer-node (IStmtNode-F.Super constructor args) = from-node (IStmtNode-F.Super constructor args) (λ all locals is.
      super-same (plain here locals (method_target constructor) (super_constructor_asked (length args)) ∷ [])
      (map (λ (argument : Argument). argument.value) args)
      (record { target = ap not all.0.0; asked = tt {0}; uses = tt {0} }, tt {0})
      (subst Good (values-mentioned args) all.1) locals is)
  layer-node (IStmtNode-F.SuperDefault own) = from-node (IStmtNode-F.SuperDefault own) (λ all locals is.
      super-same (plain here locals (default_target own) (super_constructor_asked 0) ∷ []) []
      (record { target = ap not all.0.0; asked = tt {0}; uses = tt {0} }, tt {0}) (tt {0}) locals is)
  layer-node (IStmtNode-F.SuperOutside args) = from-node (IStmtNode-F.SuperOutside args) (λ all locals is.
      super-same (plain here locals (outside_target (codes "super")) (super_constructor_asked (length args)) ∷ []) args
      (record { target = refl; asked = tt {0}; uses = tt {0} }, tt {0}) all locals is)

  from-else : (x : IElse-F IElse IStmtNode IBlock IIf IStmt)
      → (Good (mentioning.else_step (map-IElse _ _ _ _ _ _ _ _ _ _ else_mentions node_mentions block_mentions if_mentions
      statement_mentions x))
      → SpellAlike P
      (else_step here (map-IElse _ _ _ _ _ _ _ _ _ _ (else_of here) (node_of here) (block_of here) (if_of here) (statement_of here) x))
      (else_step there (map-IElse _ _ _ _ _ _ _ _ _ _ (else_of there) (node_of there) (block_of there) (if_of there)
      (statement_of there) x)))
      → IsAlikeElse (roll-IElse x)
  from-else x alike all = moved _ _ _ _
      (fold-roll-IElse (Spells Else) (Spells StmtNode) (Spells Block) (Spells StmtNode) (Spells Stmt)
      (else_step here) (node_step here) (block_step here) (if_step here) (stmt_step here) x)
      (fold-roll-IElse (Spells Else) (Spells StmtNode) (Spells Block) (Spells StmtNode) (Spells Stmt)
      (else_step there) (node_step there) (block_step there) (if_step there) (stmt_step there) x)
      (alike (subst Good (fold-roll-IElse Mentioned Mentioned Mentioned Mentioned Mentioned
      mentioning.else_step mentioning.node_step mentioning.block_step mentioning.if_step mentioning.statement_step x) all))

  layer-else : (y : IElse-F WithElse WithNode WithBlock WithIf WithStatement)
      → IsAlikeElse (roll-IElse (map-IElse _ _ _ _ _ _ _ _ _ _ (λ p. p.0) (λ p. p.0) (λ p. p.0) (λ p. p.0) (λ p. p.0) y))
  layer-else IElse-F.None = from-else IElse-F.None (λ all locals is. none-same P otherwise.None [] (tt {0}) locals is)
  layer-else (IElse-F.IElse::Block block) = from-else (IElse-F.IElse::Block block.0) (λ all locals is.
      mapped-same P (λ block. otherwise.Block block) (block_of here block.0 locals) (block_of there block.0 locals) (block.1 all locals is))
  layer-else (IElse-F.IElse::If branch) = from-else (IElse-F.IElse::If branch.0) (λ all locals is.
      mapped-same P (λ branch. otherwise.If (stating.bare branch)) (if_of here branch.0 locals) (if_of there branch.0 locals)
      (branch.1 all locals is))

  abbrev items_of : Writer → List WithStatement → List (Spells Stmt)
  items_of w items = map (statement_of w) (map (λ p. p.0) items)

  abbrev items_mentions : List WithStatement → List Mention
  items_mentions items = joined (map statement_mentions (map (λ p. p.0) items))

  items-same : (items : List WithStatement) → Good (items_mentions items)
      → SpellAlike P (stating.each (items_of here items)) (stating.each (items_of there items))
  items-same [] all locals is = none-same P [] [] (tt {0}) locals is
  items-same (statement ∷ items) all locals is =
      mapped-same P put_first (then_next (statement_of here statement.0 locals) (stating.each (items_of here items)))
      (then_next (statement_of there statement.0 locals) (stating.each (items_of there items)))
      (next-same P (statement_of here statement.0 locals) (statement_of there statement.0 locals) (stating.each (items_of here items))
      (stating.each (items_of there items))
      (statement.1 (first_of (statement_mentions statement.0) (items_mentions items) all) locals is)
      (items-same items (rest_of (statement_mentions statement.0) (items_mentions items) all)))

  layer-block : (items : List WithStatement) (tail : List (List ℕ)) → IsAlikeBlock (i_block_of (map (λ p. p.0) items) tail)
  layer-block items tail all =
      moved _ (block_step here (record { items = items_of here items; tail = tail })) _
      (block_step there (record { items = items_of there items; tail = tail }))
      (fold-roll-IBlock (Spells Else) (Spells StmtNode) (Spells Block) (Spells StmtNode) (Spells Stmt)
      (else_step here) (node_step here) (block_step here) (if_step here) (stmt_step here)
      (record { items = map (λ p. p.0) items; tail = tail }))
      (fold-roll-IBlock (Spells Else) (Spells StmtNode) (Spells Block) (Spells StmtNode) (Spells Stmt)
      (else_step there) (node_step there) (block_step there) (if_step there) (stmt_step there)
      (record { items = map (λ p. p.0) items; tail = tail }))
      (λ locals is. block-same P locals (mapped (λ items. tree_blocks.block_of items tail) (stating.each (items_of here items) locals))
      (mapped (λ items. tree_blocks.block_of items tail) (stating.each (items_of there items) locals))
      (mapped-same P (λ items. tree_blocks.block_of items tail) (stating.each (items_of here items) locals)
      (stating.each (items_of there items) locals)
      (items-same items (subst Good (fold-roll-IBlock Mentioned Mentioned Mentioned Mentioned Mentioned
      mentioning.else_step mentioning.node_step mentioning.block_step mentioning.if_step mentioning.statement_step
      (record { items = map (λ p. p.0) items; tail = tail })) all) locals is)))

  layer-if : (test : IExpr) (block : WithBlock) (rest : WithElse) → IsAlikeIf (branch_of test block.0 rest.0)
  layer-if test block rest all =
      let inside = block_mentions block.0 in
      let last = else_mentions rest.0 in
      let these : Good (expr_mentions test ++ inside ++ last) = subst Good (fold-roll-IIf Mentioned Mentioned Mentioned Mentioned Mentioned
      mentioning.else_step mentioning.node_step mentioning.block_step mentioning.if_step mentioning.statement_step
      (record { test = test; then = block.0; rest = rest.0 })) all in
      let head = first_of (expr_mentions test ++ inside) last these in
      moved _ (if_step here (record { test = test; then = block_of here block.0; rest = else_of here rest.0 }))
      _ (if_step there (record { test = test; then = block_of there block.0; rest = else_of there rest.0 }))
      (fold-roll-IIf (Spells Else) (Spells StmtNode) (Spells Block) (Spells StmtNode) (Spells Stmt)
      (else_step here) (node_step here) (block_step here) (if_step here) (stmt_step here)
      (record { test = test; then = block.0; rest = rest.0 }))
      (fold-roll-IIf (Spells Else) (Spells StmtNode) (Spells Block) (Spells StmtNode) (Spells Stmt)
      (else_step there) (node_step there) (block_step there) (if_step there) (stmt_step there)
      (record { test = test; then = block.0; rest = rest.0 }))
      (λ locals is. mapped-same P (λ parts. node.If parts.0.0 parts.0.1 parts.1)
      (then_next (then_next (one_expr here test locals) (block_of here block.0)) (else_of here rest.0))
      (then_next (then_next (one_expr there test locals) (block_of there block.0)) (else_of there rest.0))
      (next-same P (then_next (one_expr here test locals) (block_of here block.0))
      (then_next (one_expr there test locals) (block_of there block.0))
      (else_of here rest.0) (else_of there rest.0)
      (next-same P (one_expr here test locals) (one_expr there test locals) (block_of here block.0) (block_of there block.0)
      (one-same test (first_of (expr_mentions test) inside head) locals is)
      (block.1 (rest_of (expr_mentions test) inside head)))
      (rest.1 (rest_of (expr_mentions test ++ inside) last these))))

  layer-statement : (notes : List (List ℕ)) (node : WithNode) → IsAlikeStatement (roll-IStmt (record { notes = notes; node = node.0 }))
  layer-statement notes node all =
      moved _ (stmt_step here (record { notes = notes; node = node_of here node.0 })) _
      (stmt_step there (record { notes = notes; node = node_of there node.0 }))
      (fold-roll-IStmt (Spells Else) (Spells StmtNode) (Spells Block) (Spells StmtNode) (Spells Stmt)
      (else_step here) (node_step here) (block_step here) (if_step here) (stmt_step here) (record { notes = notes; node = node.0 }))
      (fold-roll-IStmt (Spells Else) (Spells StmtNode) (Spells Block) (Spells StmtNode) (Spells Stmt)
      (else_step there) (node_step there) (block_step there) (if_step there) (stmt_step there) (record { notes = notes; node = node.0 }))
      (λ locals is. mapped-same P (λ node. record { notes = notes; at = 0; node = node }) (node_of here node.0 locals)
      (node_of there node.0 locals)
      (node.1 (subst Good (fold-roll-IStmt Mentioned Mentioned Mentioned Mentioned Mentioned
      mentioning.else_step mentioning.node_step mentioning.block_step mentioning.if_step mentioning.statement_step
      (record { notes = notes; node = node.0 })) all) locals is))

  -- a block is written alike
  pub block-alike : (block : IBlock) → IsAlikeBlock block
  block-alike = ind-IBlock IsAlikeElse IsAlikeNode IsAlikeBlock IsAlikeIf IsAlikeStatement
      (λ x y is. subst (λ z. IsAlikeElse (roll-IElse z)) is (layer-else y))
      (λ x y is. subst (λ z. IsAlikeNode (roll-IStmtNode z)) is (layer-node y))
      (λ x y is. subst (λ z. IsAlikeBlock (roll-IBlock z)) is (layer-block y.items y.tail))
      (λ x y is. subst (λ z. IsAlikeIf (roll-IIf z)) is (layer-if y.test y.then y.rest))
      (λ x y is. subst (λ z. IsAlikeStatement (roll-IStmt z)) is (layer-statement y.notes y.node))
