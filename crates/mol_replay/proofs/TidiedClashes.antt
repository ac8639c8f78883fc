-- The names that clash in a body are those that clash in it once it is tidied: tidying declares nothing.
use Rattle.std.proofs.Common.{◌≡◌, ◌∙◌, refl, sym, ap, subst, ℕ, List, [], ◌∷◌, map, Option, option_map}
use Rattle.jav_names.specs.DottedNames.{Names}
use Rattle.mol_base.specs.declared.ident.Id.{Id}
use Rattle.mol_spell_rules.specs.LocalClashes as scopes
use Rattle.mol_spell_rules.specs.LocalClashes.{Scopes, block_scopes, clashes_in, declaring, each, in_block, let_scopes, start_scopes, then_next}
use Rattle.mol_table_rules.specs.Tidy as tidying
use Rattle.mol_table_rules.specs.Tidy.{arguments_for, tidy_argument, tidy_block, tidy_declarator, tidy_else, tidy_expr, tidy_if, tidy_let, tidy_node, tidy_start, tidy_statement}
use Rattle.mol_values_types.specs.Blocks.{block_of, branch_of}
use Rattle.mol_values_types.specs.declared.iblock.IBlock.{IBlock}
use Rattle.mol_values_types.specs.declared.iblock.IDeclarator.{IDeclarator}
use Rattle.mol_values_types.specs.declared.iblock.IElse.{IElse, fold-IElse}
use Rattle.mol_values_types.specs.declared.iblock.IElse.TheFolds.{fold-roll-IBlock, fold-roll-IElse, fold-roll-IIf, fold-roll-IStmt, fold-roll-IStmtNode, ind-IBlock, map-IElse, map-IStmtNode}
use Rattle.mol_values_types.specs.declared.iblock.IElse.TheOpen.{IElse-F, IStmtNode-F}
use Rattle.mol_values_types.specs.declared.iblock.IElse.TheVariants as elses
use Rattle.mol_values_types.specs.declared.iblock.IElse.TheViews.{roll-IBlock, roll-IElse, roll-IIf, roll-IStmt, roll-IStmtNode}
use Rattle.mol_values_types.specs.declared.iblock.IForStart.{IForStart}
use Rattle.mol_values_types.specs.declared.iblock.IForStart.TheVariants as starts
use Rattle.mol_values_types.specs.declared.iblock.IIf.{IIf, fold-IIf}
use Rattle.mol_values_types.specs.declared.iblock.ILet.{ILet}
use Rattle.mol_values_types.specs.declared.iblock.IStmt.{IStmt, fold-IStmt}
use Rattle.mol_values_types.specs.declared.iblock.IStmtNode.{IStmtNode, fold-IStmtNode}
use Rattle.mol_values_types.specs.declared.iblock.IStmtNode.TheVariants as nodes
use Rattle.mol_values_types.specs.declared.iexpr.Argument.{Argument}
use Rattle.mol_values_types.specs.declared.iexpr.IExpr.{IExpr}
use Rattle.mol_values_types.specs.declared.param.Param.{Param}

abbrev else_scopes : IElse → Scopes
else_scopes = fold-IElse Scopes Scopes Scopes Scopes Scopes scopes.else_step scopes.node_step scopes.block_step scopes.if_step scopes.stmt_step

abbrev node_scopes : IStmtNode → Scopes
node_scopes = fold-IStmtNode Scopes Scopes Scopes Scopes Scopes scopes.else_step scopes.node_step scopes.block_step scopes.if_step scopes.stmt_step

abbrev if_scopes : IIf → Scopes
if_scopes = fold-IIf Scopes Scopes Scopes Scopes Scopes scopes.else_step scopes.node_step scopes.block_step scopes.if_step scopes.stmt_step

abbrev statement_scopes : IStmt → Scopes
statement_scopes = fold-IStmt Scopes Scopes Scopes Scopes Scopes scopes.else_step scopes.node_step scopes.block_step scopes.if_step scopes.stmt_step

module _ (present : Id → List Param) (bare : Id → Option Id) where
  abbrev texpr : IExpr → IExpr
  texpr = tidy_expr present bare

  abbrev targuments : Id → List Argument → List Argument
  targuments method args = arguments_for (present method) (map (tidy_argument present bare) args)

  abbrev tlet : ILet → ILet
  tlet = tidy_let present bare

  abbrev tstart : IForStart → IForStart
  tstart = tidy_start present bare

  abbrev telse : IElse → IElse
  telse = tidy_else present bare

  abbrev tnode : IStmtNode → IStmtNode
  tnode = tidy_node present bare

  abbrev tblock : IBlock → IBlock
  tblock = tidy_block present bare

  abbrev tif : IIf → IIf
  tif = tidy_if present bare

  abbrev tstatement : IStmt → IStmt
  tstatement = tidy_statement present bare

  -- # Declarations

  names-alike : (ds : List IDeclarator)
      → map (λ (d : IDeclarator). declaring d.name) (map (tidy_declarator present bare) ds) ≡ map (λ (d : IDeclarator). declaring d.name) ds
  names-alike [] = refl
  names-alike (d ∷ ds) = λ j. declaring d.name ∷ names-alike ds j

  let-alike : (declared : ILet) → let_scopes (tlet declared) ≡ let_scopes declared
  let-alike declared = ap each (names-alike declared.names)

  start-alike : (start : IForStart) → start_scopes (tstart start) ≡ start_scopes start
  start-alike starts.None = refl
  start-alike (starts.Let declared) = let-alike declared
  start-alike (starts.Do es) = refl

  -- # Blocks and their parts

  abbrev AlikeElse : IElse → Type 0
  AlikeElse rest = else_scopes (telse rest) ≡ else_scopes rest

  abbrev AlikeNode : IStmtNode → Type 0
  AlikeNode node = node_scopes (tnode node) ≡ node_scopes node

  abbrev AlikeBlock : IBlock → Type 0
  AlikeBlock block = block_scopes (tblock block) ≡ block_scopes block

  abbrev AlikeIf : IIf → Type 0
  AlikeIf branch = if_scopes (tif branch) ≡ if_scopes branch

  abbrev AlikeStatement : IStmt → Type 0
  AlikeStatement statement = statement_scopes (tstatement statement) ≡ statement_scopes statement

  abbrev WithElse : Type 0
  WithElse = (rest : IElse) × AlikeElse rest

  abbrev WithNode : Type 0
  WithNode = (node : IStmtNode) × AlikeNode node

  abbrev WithBlock : Type 0
  WithBlock = (block : IBlock) × AlikeBlock block

  abbrev WithIf : Type 0
  WithIf = (branch : IIf) × AlikeIf branch

  abbrev WithStatement : Type 0
  WithStatement = (statement : IStmt) × AlikeStatement statement

  abbrev Node : Type 0
  Node = IStmtNode-F IElse IStmtNode IBlock IIf IStmt

  abbrev tidied_node : Node → IStmtNode
  tidied_node x = tidying.node_step present bare (map-IStmtNode _ _ _ _ _ _ _ _ _ _ telse tnode tblock tif tstatement x)

  node-is : (x : Node) → tnode (roll-IStmtNode x) ≡ tidied_node x
  node-is x =
      fold-roll-IStmtNode IElse IStmtNode IBlock IIf IStmt (tidying.else_step present bare) (tidying.node_step present bare)
      (tidying.block_step present bare) (tidying.if_step present bare) (tidying.statement_step present bare) x

  abbrev scoped_node : Node → Scopes
  scoped_node x = scopes.node_step (map-IStmtNode _ _ _ _ _ _ _ _ _ _ else_scopes node_scopes block_scopes if_scopes statement_scopes x)

  node-scoped : (x : Node) → node_scopes (roll-IStmtNode x) ≡ scoped_node x
  node-scoped x =
      fold-roll-IStmtNode Scopes Scopes Scopes Scopes Scopes scopes.else_step scopes.node_step scopes.block_step scopes.if_step
      scopes.stmt_step x

  -- where the tidied node is `z`
  from-node : (x z : Node) → tidied_node x ≡ roll-IStmtNode z → scoped_node z ≡ scoped_node x → AlikeNode (roll-IStmtNode x)
  from-node x z rolled same = ap node_scopes (node-is x ∙ rolled) ∙ node-scoped z ∙ same ∙ sym (node-scoped x)

  node-alike : (y : IStmtNode-F WithElse WithNode WithBlock WithIf WithStatement)
      → AlikeNode (roll-IStmtNode (map-IStmtNode _ _ _ _ _ _ _ _ _ _ (λ p. p.0) (λ p. p.0) (λ p. p.0) (λ p. p.0) (λ p. p.0) y))
  node-alike (IStmtNode-F.IStmtNode::Block block) =
      from-node (IStmtNode-F.IStmtNode::Block block.0) (IStmtNode-F.IStmtNode::Block (tblock block.0))
      (sym (nodes.rolls-Block (tblock block.0))) (λ j names. block.1 j names)
  node-alike (IStmtNode-F.Let declared) =
      from-node (IStmtNode-F.Let declared) (IStmtNode-F.Let (tlet declared)) (sym (nodes.rolls-Let (tlet declared)))
      (λ j names. let-alike declared j names)
  node-alike (IStmtNode-F.Do e) = from-node (IStmtNode-F.Do e) (IStmtNode-F.Do (texpr e)) (sym (nodes.rolls-Do (texpr e))) refl
  node-alike (IStmtNode-F.IStmtNode::If branch) =
      from-node (IStmtNode-F.IStmtNode::If branch.0) (IStmtNode-F.IStmtNode::If (tif branch.0)) (sym (nodes.rolls-If (tif branch.0)))
      (λ j names. branch.1 j names)
  node-alike (IStmtNode-F.While test block) =
      from-node (IStmtNode-F.While test block.0) (IStmtNode-F.While (texpr test) (tblock block.0))
      (sym (nodes.rolls-While (texpr test) (tblock block.0))) (λ j names. block.1 j names)
  node-alike (IStmtNode-F.For start test steps block) =
      from-node (IStmtNode-F.For start test steps block.0)
      (IStmtNode-F.For (tstart start) (option_map texpr test) (map texpr steps) (tblock block.0))
      (sym (nodes.rolls-For (tstart start) (option_map texpr test) (map texpr steps) (tblock block.0)))
      (λ j names. in_block names (then_next (start-alike start j names) (block.1 j)))
  node-alike (IStmtNode-F.Each is_final ty name e block) =
      from-node (IStmtNode-F.Each is_final ty name e block.0) (IStmtNode-F.Each is_final ty name (texpr e) (tblock block.0))
      (sym (nodes.rolls-Each is_final ty name (texpr e) (tblock block.0)))
      (λ j names. in_block names (then_next (declaring name names) (block.1 j)))
  node-alike (IStmtNode-F.Return e) =
      from-node (IStmtNode-F.Return e) (IStmtNode-F.Return (option_map texpr e)) (sym (nodes.rolls-Return (option_map texpr e))) refl
  node-alike (IStmtNode-F.Throw e) = from-node (IStmtNode-F.Throw e) (IStmtNode-F.Throw (texpr e)) (sym (nodes.rolls-Throw (texpr e))) refl
  node-alike IStmtNode-F.Break = from-node IStmtNode-F.Break IStmtNode-F.Break (sym nodes.rolls-Break) refl
  node-alike IStmtNode-F.Continue = from-node IStmtNode-F.Continue IStmtNode-F.Continue (sym nodes.rolls-Continue) refl
  node-alike IStmtNode-F.Empty = from-node IStmtNode-F.Empty IStmtNode-F.Empty (sym nodes.rolls-Empty) refl
  node-alike (IStmtNode-F.Super constructor args) =
      from-node (IStmtNode-F.Super constructor args) (IStmtNode-F.Super constructor (targuments constructor args))
      (sym (nodes.rolls-Super constructor (targuments constructor args))) refl
  node-alike (IStmtNode-F.SuperDefault class) =
      from-node (IStmtNode-F.SuperDefault class) (IStmtNode-F.SuperDefault class) (sym (nodes.rolls-SuperDefault class)) refl
  node-alike (IStmtNode-F.SuperOutside args) =
      from-node (IStmtNode-F.SuperOutside args) (IStmtNode-F.SuperOutside (map texpr args)) (sym (nodes.rolls-SuperOutside (map texpr args)))
      refl

  abbrev Rest : Type 0
  Rest = IElse-F IElse IStmtNode IBlock IIf IStmt

  abbrev tidied_else : Rest → IElse
  tidied_else x = tidying.else_step present bare (map-IElse _ _ _ _ _ _ _ _ _ _ telse tnode tblock tif tstatement x)

  else-is : (x : Rest) → telse (roll-IElse x) ≡ tidied_else x
  else-is x =
      fold-roll-IElse IElse IStmtNode IBlock IIf IStmt (tidying.else_step present bare) (tidying.node_step present bare)
      (tidying.block_step present bare) (tidying.if_step present bare) (tidying.statement_step present bare) x

  abbrev scoped_else : Rest → Scopes
  scoped_else x = scopes.else_step (map-IElse _ _ _ _ _ _ _ _ _ _ else_scopes node_scopes block_scopes if_scopes statement_scopes x)

  else-scoped : (x : Rest) → else_scopes (roll-IElse x) ≡ scoped_else x
  else-scoped x =
      fold-roll-IElse Scopes Scopes Scopes Scopes Scopes scopes.else_step scopes.node_step scopes.block_step scopes.if_step
      scopes.stmt_step x

  from-else : (x z : Rest) → tidied_else x ≡ roll-IElse z → scoped_else z ≡ scoped_else x → AlikeElse (roll-IElse x)
  from-else x z rolled same = ap else_scopes (else-is x ∙ rolled) ∙ else-scoped z ∙ same ∙ sym (else-scoped x)

  else-alike : (y : IElse-F WithElse WithNode WithBlock WithIf WithStatement)
      → AlikeElse (roll-IElse (map-IElse _ _ _ _ _ _ _ _ _ _ (λ p. p.0) (λ p. p.0) (λ p. p.0) (λ p. p.0) (λ p. p.0) y))
  else-alike IElse-F.None = from-else IElse-F.None IElse-F.None (sym elses.rolls-None) refl
  else-alike (IElse-F.IElse::Block block) =
      from-else (IElse-F.IElse::Block block.0) (IElse-F.IElse::Block (tblock block.0)) (sym (elses.rolls-Block (tblock block.0)))
      (λ j names. block.1 j names)
  else-alike (IElse-F.IElse::If branch) =
      from-else (IElse-F.IElse::If branch.0) (IElse-F.IElse::If (tif branch.0)) (sym (elses.rolls-If (tif branch.0)))
      (λ j names. branch.1 j names)

  abbrev statements : List WithStatement → List IStmt
  statements items = map (λ p. p.0) items

  items-alike : (items : List WithStatement)
      → map statement_scopes (map tstatement (statements items)) ≡ map statement_scopes (statements items)
  items-alike [] = refl
  items-alike (statement ∷ items) = λ j. statement.1 j ∷ items-alike items j

  block-is : (items : List IStmt) (tail : List (List ℕ)) → tblock (block_of items tail) ≡ block_of (map tstatement items) tail
  block-is items tail =
      fold-roll-IBlock IElse IStmtNode IBlock IIf IStmt (tidying.else_step present bare) (tidying.node_step present bare)
      (tidying.block_step present bare) (tidying.if_step present bare) (tidying.statement_step present bare)
      (record { items = items; tail = tail })

  block-scoped : (items : List IStmt) (tail : List (List ℕ))
      → block_scopes (block_of items tail) ≡ scopes.block_step (record { items = map statement_scopes items; tail = tail })
  block-scoped items tail =
      fold-roll-IBlock Scopes Scopes Scopes Scopes Scopes scopes.else_step scopes.node_step scopes.block_step scopes.if_step
      scopes.stmt_step (record { items = items; tail = tail })

  block-alike : (items : List WithStatement) (tail : List (List ℕ)) → AlikeBlock (block_of (statements items) tail)
  block-alike items tail =
      ap block_scopes (block-is (statements items) tail) ∙ block-scoped (map tstatement (statements items)) tail
      ∙ (λ j names. in_block names (each (items-alike items j) names)) ∙ sym (block-scoped (statements items) tail)

  if-is : (test : IExpr) (block : IBlock) (rest : IElse) → tif (branch_of test block rest) ≡ branch_of (texpr test) (tblock block) (telse rest)
  if-is test block rest =
      fold-roll-IIf IElse IStmtNode IBlock IIf IStmt (tidying.else_step present bare) (tidying.node_step present bare)
      (tidying.block_step present bare) (tidying.if_step present bare) (tidying.statement_step present bare)
      (record { test = test; then = block; rest = rest })

  if-scoped : (test : IExpr) (block : IBlock) (rest : IElse)
      → if_scopes (branch_of test block rest) ≡ scopes.if_step (record { test = test; then = block_scopes block; rest = else_scopes rest })
  if-scoped test block rest =
      fold-roll-IIf Scopes Scopes Scopes Scopes Scopes scopes.else_step scopes.node_step scopes.block_step scopes.if_step scopes.stmt_step
      (record { test = test; then = block; rest = rest })

  if-alike : (test : IExpr) (block : WithBlock) (rest : WithElse) → AlikeIf (branch_of test block.0 rest.0)
  if-alike test block rest =
      ap if_scopes (if-is test block.0 rest.0) ∙ if-scoped (texpr test) (tblock block.0) (telse rest.0)
      ∙ (λ j names. then_next (block.1 j names) (rest.1 j)) ∙ sym (if-scoped test block.0 rest.0)

  abbrev statement_of : List (List ℕ) → IStmtNode → IStmt
  statement_of notes node = roll-IStmt (record { notes = notes; node = node })

  statement-is : (notes : List (List ℕ)) (node : IStmtNode) → tstatement (statement_of notes node) ≡ statement_of notes (tnode node)
  statement-is notes node =
      fold-roll-IStmt IElse IStmtNode IBlock IIf IStmt (tidying.else_step present bare) (tidying.node_step present bare)
      (tidying.block_step present bare) (tidying.if_step present bare) (tidying.statement_step present bare)
      (record { notes = notes; node = node })

  statement-scoped : (notes : List (List ℕ)) (node : IStmtNode)
      → statement_scopes (statement_of notes node) ≡ scopes.stmt_step (record { notes = notes; node = node_scopes node })
  statement-scoped notes node =
      fold-roll-IStmt Scopes Scopes Scopes Scopes Scopes scopes.else_step scopes.node_step scopes.block_step scopes.if_step
      scopes.stmt_step (record { notes = notes; node = node })

  statement-alike : (notes : List (List ℕ)) (node : WithNode) → AlikeStatement (statement_of notes node.0)
  statement-alike notes node =
      ap statement_scopes (statement-is notes node.0) ∙ statement-scoped notes (tnode node.0) ∙ (λ j names. node.1 j names)
      ∙ sym (statement-scoped notes node.0)

  scopes-alike : (block : IBlock) → AlikeBlock block
  scopes-alike = ind-IBlock AlikeElse AlikeNode AlikeBlock AlikeIf AlikeStatement
      (λ x y is. subst (λ z. AlikeElse (roll-IElse z)) is (else-alike y))
      (λ x y is. subst (λ z. AlikeNode (roll-IStmtNode z)) is (node-alike y))
      (λ x y is. subst (λ z. AlikeBlock (roll-IBlock z)) is (block-alike y.items y.tail))
      (λ x y is. subst (λ z. AlikeIf (roll-IIf z)) is (if-alike y.test y.then y.rest))
      (λ x y is. subst (λ z. AlikeStatement (roll-IStmt z)) is (statement-alike y.notes y.node))

  pub clashes-alike : (names : Names) (block : IBlock) → clashes_in names (tblock block) ≡ clashes_in names block
  clashes-alike names block = λ j. (scopes-alike block j names).clashes
