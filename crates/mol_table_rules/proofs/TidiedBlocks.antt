-- Blocks and values that are tidied once more stay as they are.
use Rattle.std.specs.Prelude.{◌≡◌, true, ℕ, List, [], ◌∷◌, map, Option, None, Some, option_map}
use Rattle.std.proofs.Common.{refl, sym, ap, subst, ◌∙◌}
use Rattle.mol_base.specs.declared.ident.Id.{Id}
use Rattle.mol_table_rules.specs.Forms.{differ}
use Rattle.mol_table_rules.specs.Tidy as tidying
use Rattle.mol_table_rules.specs.Tidy.{arguments_for, tidy_expr, tidy_argument, tidy_declarator, tidy_let, tidy_start, tidy_else, tidy_node, tidy_block, tidy_if, tidy_statement, tidy_body, tidy_value}
use Rattle.mol_values_types.specs.Blocks.{block_of, branch_of}
use Rattle.mol_values_types.specs.declared.iblock.IBlock.{IBlock}
use Rattle.mol_values_types.specs.declared.iblock.IBody.{IBody}
use Rattle.mol_values_types.specs.declared.iblock.IDeclarator.{IDeclarator}
use Rattle.mol_values_types.specs.declared.iblock.IElse.{IElse}
use Rattle.mol_values_types.specs.declared.iblock.IElse.TheFolds.{fold-roll-IElse, fold-roll-IStmtNode, fold-roll-IBlock, fold-roll-IIf, fold-roll-IStmt, map-IElse, map-IStmtNode, ind-IBlock}
use Rattle.mol_values_types.specs.declared.iblock.IElse.TheOpen.{IElse-F, IStmtNode-F}
use Rattle.mol_values_types.specs.declared.iblock.IElse.TheVariants as elses
use Rattle.mol_values_types.specs.declared.iblock.IElse.TheViews.{roll-IElse, roll-IStmtNode, roll-IBlock, roll-IIf, roll-IStmt}
use Rattle.mol_values_types.specs.declared.iblock.IForStart.{IForStart}
use Rattle.mol_values_types.specs.declared.iblock.IForStart.TheVariants as starts
use Rattle.mol_values_types.specs.declared.iblock.IIf.{IIf}
use Rattle.mol_values_types.specs.declared.iblock.ILet.{ILet}
use Rattle.mol_values_types.specs.declared.iblock.IStmt.{IStmt}
use Rattle.mol_values_types.specs.declared.iblock.IStmtNode.{IStmtNode}
use Rattle.mol_values_types.specs.declared.iblock.IStmtNode.TheVariants as nodes
use Rattle.mol_values_types.specs.declared.iexpr.Argument.{Argument}
use Rattle.mol_values_types.specs.declared.iexpr.IExpr.{IExpr}
use Rattle.mol_values_types.specs.declared.param.Param.{Param}
use Rattle.mol_values_types.specs.declared.value.Value.{Value}
use Rattle.mol_values_types.specs.declared.value.Value.TheVariants as values
use Rattle.mol_table_rules.proofs.TidiedExpressions.{ids, expr-stays, call-stays}

module _ (present : Id → List Param) (bare : Id → Option Id) (apart : (method : Id) → differ (ids (present method)) ≡ true)
    (plain : (class constructor : Id) → bare class ≡ Some constructor → present constructor ≡ []) where
  abbrev texpr : IExpr → IExpr
  texpr = tidy_expr present bare

  abbrev targuments : Id → List Argument → List Argument
  targuments method args = arguments_for (present method) (map (tidy_argument present bare) args)

  -- ---- expressions in statements

  expr-same : (e : IExpr) → texpr (texpr e) ≡ texpr e
  expr-same = expr-stays present bare apart plain

  exprs-stay : (es : List IExpr) → map texpr (map texpr es) ≡ map texpr es
  exprs-stay [] = refl
  exprs-stay (e ∷ es) = λ i. expr-same e i ∷ exprs-stay es i

  pub maybe-stays : (o : Option IExpr) → option_map texpr (option_map texpr o) ≡ option_map texpr o
  maybe-stays None = refl
  maybe-stays (Some e) = ap Some (expr-same e)

  abbrev tdeclarator : IDeclarator → IDeclarator
  tdeclarator = tidy_declarator present bare

  abbrev tlet : ILet → ILet
  tlet = tidy_let present bare

  abbrev tstart : IForStart → IForStart
  tstart = tidy_start present bare

  names-stay : (ds : List IDeclarator) → map tdeclarator (map tdeclarator ds) ≡ map tdeclarator ds
  names-stay [] = refl
  names-stay (d ∷ ds) = λ i. record { name = d.name; init = maybe-stays d.init i } ∷ names-stay ds i

  let-stays : (declared : ILet) → tlet (tlet declared) ≡ tlet declared
  let-stays declared = λ i. record { is_final = declared.is_final; ty = declared.ty; names = names-stay declared.names i }

  start-stays : (start : IForStart) → tstart (tstart start) ≡ tstart start
  start-stays starts.None = refl
  start-stays (starts.Let declared) = ap starts.Let (let-stays declared)
  start-stays (starts.Do es) = ap starts.Do (exprs-stay es)

  -- ---- blocks and their parts

  abbrev telse : IElse → IElse
  telse = tidy_else present bare

  abbrev tnode : IStmtNode → IStmtNode
  tnode = tidy_node present bare

  abbrev tblock : IBlock → IBlock
  tblock = tidy_block present bare

  abbrev tif : IIf → IIf
  tif = tidy_if present bare

  abbrev tstatement : IStmt → IStmt
  tstatement = tidy_statement present bare

  abbrev StaysElse : IElse → Type 0
  StaysElse rest = telse (telse rest) ≡ telse rest

  abbrev StaysNode : IStmtNode → Type 0
  StaysNode node = tnode (tnode node) ≡ tnode node

  abbrev pub StaysBlock : IBlock → Type 0
  StaysBlock block = tblock (tblock block) ≡ tblock block

  abbrev StaysIf : IIf → Type 0
  StaysIf branch = tif (tif branch) ≡ tif branch

  abbrev StaysStatement : IStmt → Type 0
  StaysStatement statement = tstatement (tstatement statement) ≡ tstatement statement

  abbrev WithElse : Type 0
  WithElse = (rest : IElse) × StaysElse rest

  abbrev WithNode : Type 0
  WithNode = (node : IStmtNode) × StaysNode node

  abbrev WithBlock : Type 0
  WithBlock = (block : IBlock) × StaysBlock block

  abbrev WithIf : Type 0
  WithIf = (branch : IIf) × StaysIf branch

  abbrev WithStatement : Type 0
  WithStatement = (statement : IStmt) × StaysStatement statement

  node-is : (x : IStmtNode-F IElse IStmtNode IBlock IIf IStmt) → tnode (roll-IStmtNode x) ≡ tidying.node_step present bare (map-IStmtNode _ _ _ _ _ _ _ _ _ _ telse tnode tblock tif tstatement x)
  node-is x = fold-roll-IStmtNode IElse IStmtNode IBlock IIf IStmt (tidying.else_step present bare) (tidying.node_step present bare) (tidying.block_step present bare) (tidying.if_step present bare) (tidying.statement_step present bare) x

  from-node : (x z : IStmtNode-F IElse IStmtNode IBlock IIf IStmt) → tidying.node_step present bare (map-IStmtNode _ _ _ _ _ _ _ _ _ _ telse tnode tblock tif tstatement x) ≡ roll-IStmtNode z
      → tidying.node_step present bare (map-IStmtNode _ _ _ _ _ _ _ _ _ _ telse tnode tblock tif tstatement z) ≡ tidying.node_step present bare (map-IStmtNode _ _ _ _ _ _ _ _ _ _ telse tnode tblock tif tstatement x) → StaysNode (roll-IStmtNode x)
  from-node x z rolled same = ap tnode (node-is x ∙ rolled) ∙ node-is z ∙ same ∙ sym (node-is x)

  node-stays : (y : IStmtNode-F WithElse WithNode WithBlock WithIf WithStatement) → StaysNode (roll-IStmtNode (map-IStmtNode _ _ _ _ _ _ _ _ _ _ (λ p. p.0) (λ p. p.0) (λ p. p.0) (λ p. p.0) (λ p. p.0) y))
  node-stays (IStmtNode-F.IStmtNode::Block block) =
      from-node (IStmtNode-F.IStmtNode::Block block.0) (IStmtNode-F.IStmtNode::Block (tblock block.0))
      (sym (nodes.rolls-Block (tblock block.0))) (λ j. nodes.Block (block.1 j))
  node-stays (IStmtNode-F.Let declared) =
      from-node (IStmtNode-F.Let declared) (IStmtNode-F.Let (tlet declared))
      (sym (nodes.rolls-Let (tlet declared))) (λ j. nodes.Let (let-stays declared j))
  node-stays (IStmtNode-F.Do e) =
      from-node (IStmtNode-F.Do e) (IStmtNode-F.Do (texpr e)) (sym (nodes.rolls-Do (texpr e))) (λ j. nodes.Do (expr-same e j))
  node-stays (IStmtNode-F.IStmtNode::If branch) =
      from-node (IStmtNode-F.IStmtNode::If branch.0) (IStmtNode-F.IStmtNode::If (tif branch.0))
      (sym (nodes.rolls-If (tif branch.0))) (λ j. nodes.If (branch.1 j))
  node-stays (IStmtNode-F.While test block) =
      from-node (IStmtNode-F.While test block.0) (IStmtNode-F.While (texpr test) (tblock block.0))
      (sym (nodes.rolls-While (texpr test) (tblock block.0))) (λ j. nodes.While (expr-same test j) (block.1 j))
  node-stays (IStmtNode-F.For start test steps block) =
      from-node (IStmtNode-F.For start test steps block.0) (IStmtNode-F.For (tstart start) (option_map texpr test) (map texpr steps) (tblock block.0))
      (sym (nodes.rolls-For (tstart start) (option_map texpr test) (map texpr steps) (tblock block.0))) (λ j. nodes.For (start-stays start j) (maybe-stays test j) (exprs-stay steps j) (block.1 j))
  node-stays (IStmtNode-F.Each is_final ty name e block) =
      from-node (IStmtNode-F.Each is_final ty name e block.0) (IStmtNode-F.Each is_final ty name (texpr e) (tblock block.0))
      (sym (nodes.rolls-Each is_final ty name (texpr e) (tblock block.0))) (λ j. nodes.Each is_final ty name (expr-same e j) (block.1 j))
  node-stays (IStmtNode-F.Return e) =
      from-node (IStmtNode-F.Return e) (IStmtNode-F.Return (option_map texpr e))
      (sym (nodes.rolls-Return (option_map texpr e))) (λ j. nodes.Return (maybe-stays e j))
  node-stays (IStmtNode-F.Throw e) =
      from-node (IStmtNode-F.Throw e) (IStmtNode-F.Throw (texpr e))
      (sym (nodes.rolls-Throw (texpr e))) (λ j. nodes.Throw (expr-same e j))
  node-stays IStmtNode-F.Break = from-node IStmtNode-F.Break IStmtNode-F.Break (sym nodes.rolls-Break) refl
  node-stays IStmtNode-F.Continue = from-node IStmtNode-F.Continue IStmtNode-F.Continue (sym nodes.rolls-Continue) refl
  node-stays IStmtNode-F.Empty = from-node IStmtNode-F.Empty IStmtNode-F.Empty (sym nodes.rolls-Empty) refl
  node-stays (IStmtNode-F.Super constructor args) =
      from-node (IStmtNode-F.Super constructor args) (IStmtNode-F.Super constructor (targuments constructor args))
      (sym (nodes.rolls-Super constructor (targuments constructor args))) (λ j. nodes.Super constructor (call-stays present bare apart plain constructor args j))
  node-stays (IStmtNode-F.SuperDefault class) =
      from-node (IStmtNode-F.SuperDefault class) (IStmtNode-F.SuperDefault class) (sym (nodes.rolls-SuperDefault class)) refl
  node-stays (IStmtNode-F.SuperOutside args) =
      from-node (IStmtNode-F.SuperOutside args) (IStmtNode-F.SuperOutside (map texpr args))
      (sym (nodes.rolls-SuperOutside (map texpr args))) (λ j. nodes.SuperOutside (exprs-stay args j))

  else-is : (x : IElse-F IElse IStmtNode IBlock IIf IStmt) → telse (roll-IElse x) ≡ tidying.else_step present bare (map-IElse _ _ _ _ _ _ _ _ _ _ telse tnode tblock tif tstatement x)
  else-is x = fold-roll-IElse IElse IStmtNode IBlock IIf IStmt (tidying.else_step present bare) (tidying.node_step present bare) (tidying.block_step present bare) (tidying.if_step present bare) (tidying.statement_step present bare) x

  from-else : (x z : IElse-F IElse IStmtNode IBlock IIf IStmt) → tidying.else_step present bare (map-IElse _ _ _ _ _ _ _ _ _ _ telse tnode tblock tif tstatement x) ≡ roll-IElse z
      → tidying.else_step present bare (map-IElse _ _ _ _ _ _ _ _ _ _ telse tnode tblock tif tstatement z) ≡ tidying.else_step present bare (map-IElse _ _ _ _ _ _ _ _ _ _ telse tnode tblock tif tstatement x) → StaysElse (roll-IElse x)
  from-else x z rolled same = ap telse (else-is x ∙ rolled) ∙ else-is z ∙ same ∙ sym (else-is x)

  else-stays : (y : IElse-F WithElse WithNode WithBlock WithIf WithStatement) → StaysElse (roll-IElse (map-IElse _ _ _ _ _ _ _ _ _ _ (λ p. p.0) (λ p. p.0) (λ p. p.0) (λ p. p.0) (λ p. p.0) y))
  else-stays IElse-F.None = from-else IElse-F.None IElse-F.None (sym elses.rolls-None) refl
  else-stays (IElse-F.IElse::Block block) =
      from-else (IElse-F.IElse::Block block.0) (IElse-F.IElse::Block (tblock block.0))
      (sym (elses.rolls-Block (tblock block.0))) (ap elses.Block block.1)
  else-stays (IElse-F.IElse::If branch) =
      from-else (IElse-F.IElse::If branch.0) (IElse-F.IElse::If (tif branch.0))
      (sym (elses.rolls-If (tif branch.0))) (ap elses.If branch.1)

  abbrev statements : List WithStatement → List IStmt
  statements items = map (λ p. p.0) items

  items-stay : (items : List WithStatement) → map tstatement (map tstatement (statements items)) ≡ map tstatement (statements items)
  items-stay [] = refl
  items-stay (statement ∷ items) = λ i. statement.1 i ∷ items-stay items i

  block-is : (items : List IStmt) (tail : List (List ℕ)) → tblock (block_of items tail) ≡ block_of (map tstatement items) tail
  block-is items tail = fold-roll-IBlock IElse IStmtNode IBlock IIf IStmt (tidying.else_step present bare) (tidying.node_step present bare) (tidying.block_step present bare) (tidying.if_step present bare) (tidying.statement_step present bare) (record { items = items; tail = tail })

  items-block-stays : (items : List WithStatement) (tail : List (List ℕ)) → StaysBlock (block_of (statements items) tail)
  items-block-stays items tail =
      ap tblock (block-is (statements items) tail) ∙ block-is (map tstatement (statements items)) tail
      ∙ ap (λ list. block_of list tail) (items-stay items) ∙ sym (block-is (statements items) tail)

  if-is : (test : IExpr) (block : IBlock) (rest : IElse) → tif (branch_of test block rest) ≡ branch_of (texpr test) (tblock block) (telse rest)
  if-is test block rest = fold-roll-IIf IElse IStmtNode IBlock IIf IStmt (tidying.else_step present bare) (tidying.node_step present bare) (tidying.block_step present bare) (tidying.if_step present bare) (tidying.statement_step present bare) (record { test = test; then = block; rest = rest })

  if-stays : (test : IExpr) (block : WithBlock) (rest : WithElse) → StaysIf (branch_of test block.0 rest.0)
  if-stays test block rest =
      ap tif (if-is test block.0 rest.0) ∙ if-is (texpr test) (tblock block.0) (telse rest.0) ∙ (λ i. branch_of (expr-same test i) (block.1 i) (rest.1 i))
      ∙ sym (if-is test block.0 rest.0)

  abbrev statement_of : List (List ℕ) → IStmtNode → IStmt
  statement_of notes node = roll-IStmt (record { notes = notes; node = node })

  statement-is : (notes : List (List ℕ)) (node : IStmtNode) → tstatement (statement_of notes node) ≡ statement_of notes (tnode node)
  statement-is notes node = fold-roll-IStmt IElse IStmtNode IBlock IIf IStmt (tidying.else_step present bare) (tidying.node_step present bare) (tidying.block_step present bare) (tidying.if_step present bare) (tidying.statement_step present bare) (record { notes = notes; node = node })

  statement-stays : (notes : List (List ℕ)) (node : WithNode) → StaysStatement (statement_of notes node.0)
  statement-stays notes node =
      ap tstatement (statement-is notes node.0) ∙ statement-is notes (tnode node.0) ∙ ap (statement_of notes) node.1 ∙ sym (statement-is notes node.0)

  pub block-stays : (block : IBlock) → StaysBlock block
  block-stays = ind-IBlock StaysElse StaysNode StaysBlock StaysIf StaysStatement
      (λ x y is. subst (λ z. StaysElse (roll-IElse z)) is (else-stays y))
      (λ x y is. subst (λ z. StaysNode (roll-IStmtNode z)) is (node-stays y))
      (λ x y is. subst (λ z. StaysBlock (roll-IBlock z)) is (items-block-stays y.items y.tail))
      (λ x y is. subst (λ z. StaysIf (roll-IIf z)) is (if-stays y.test y.then y.rest))
      (λ x y is. subst (λ z. StaysStatement (roll-IStmt z)) is (statement-stays y.notes y.node))

  -- ---- values

  body-stays : (o : Option IBody) → option_map (tidy_body present bare) (option_map (tidy_body present bare) o) ≡ option_map (tidy_body present bare) o
  body-stays None = refl
  body-stays (Some body) = λ i. Some (record { block = block-stays body.block i })

  abbrev tvalue : Value → Value
  tvalue = tidy_value present bare

  pub value-stays : (value : Value) → tvalue (tvalue value) ≡ tvalue value
  value-stays (values.Live x) = refl
  value-stays (values.Package x) = refl
  value-stays (values.Owner x) = refl
  value-stays (values.Method x) = refl
  value-stays (values.Name x) = refl
  value-stays (values.Super x) = refl
  value-stays (values.Result x) = refl
  value-stays (values.Params x) = refl
  value-stays (values.Kind x) = refl
  value-stays (values.Fixed x) = refl
  value-stays (values.Words x) = refl
  value-stays (values.Notes x) = refl
  value-stays (values.Body body) = ap values.Body (body-stays body)
  value-stays (values.Value ty init) = ap (values.Value ty) (maybe-stays init)
