-- Blocks are tidied alike by two lists of parameters that agree on what the tidied one mentions.
use Rattle.std.specs.Prelude.{◌≡◌, ℕ, List, [], ◌∷◌, ◌++◌, map, Option, None, Some, option_map}
use Rattle.std.proofs.Common.{refl, sym, ap, subst, ◌∙◌}
use Rattle.std.specs.List.{flat_map}
use Rattle.mol_base.specs.declared.ident.Id.{Id}
use Rattle.mol_table_rules.specs.Mentions as mentioning
use Rattle.mol_table_rules.specs.Mentions.{Mention, joined, named, type_mentions, expr_mentions, exprs_mentions, arguments_mentions, maybe_mentions, let_mentions, start_mentions}
use Rattle.mol_table_rules.specs.Tidy as tidying
use Rattle.mol_table_rules.specs.Tidy.{arguments_for, tidy_expr, tidy_argument, tidy_declarator, tidy_let, tidy_start, tidy_else, tidy_node, tidy_block, tidy_if, tidy_statement}
use Rattle.mol_values_types.specs.Blocks.{block_of, branch_of}
use Rattle.mol_values_types.specs.declared.iblock.IBlock.{IBlock}
use Rattle.mol_values_types.specs.declared.iblock.IDeclarator.{IDeclarator}
use Rattle.mol_values_types.specs.declared.iblock.IElse.{IElse}
use Rattle.mol_values_types.specs.declared.iblock.IElse.TheFolds.{fold-roll-IElse, fold-roll-IStmtNode, fold-roll-IBlock, fold-roll-IIf, fold-roll-IStmt, map-IElse, map-IStmtNode, ind-IBlock}
use Rattle.mol_values_types.specs.declared.iblock.IElse.TheOpen.{IElse-F, IStmtNode-F}
use Rattle.mol_values_types.specs.declared.iblock.IElse.TheVariants as elses
use Rattle.mol_values_types.specs.declared.iblock.IElse.TheViews.{roll-IElse, roll-IStmtNode, roll-IBlock, roll-IIf, roll-IStmt}
use Rattle.mol_values_types.specs.declared.iblock.IForStart.{IForStart}
use Rattle.mol_values_types.specs.declared.iblock.IForStart.TheVariants as starts
use Rattle.mol_values_types.specs.declared.iblock.IIf.{IIf}
use Rattle.mol_values_types.specs.declared.iblock.ILet.{ILet}
use Rattle.mol_values_types.specs.declared.iblock.IStmt.{IStmt}
use Rattle.mol_values_types.specs.declared.iblock.IStmtNode.{IStmtNode}
use Rattle.mol_values_types.specs.declared.iblock.IStmtNode.TheVariants as nodes
use Rattle.mol_values_types.specs.declared.iexpr.Argument.{Argument}
use Rattle.mol_values_types.specs.declared.iexpr.IExpr.{IExpr}
use Rattle.mol_values_types.specs.declared.param.Param.{Param}
use Rattle.mol_table_rules.proofs.KeptBlocks.{Mentioned, else_mentions, node_mentions, block_mentions, if_mentions, statement_mentions}
use Rattle.mol_table_laws.proofs.Expressions.{argument_mentions, argument-mentions, AreGood, front, back, WithArgument, arguments, arguments-alike, expr-alike}

-- ---- one tidying

module _ (present : Id → List Param) (bare : Id → Option Id) where
  abbrev telse : IElse → IElse
  telse = tidy_else present bare

  abbrev tnode : IStmtNode → IStmtNode
  tnode = tidy_node present bare

  abbrev tblock : IBlock → IBlock
  tblock = tidy_block present bare

  abbrev tif : IIf → IIf
  tif = tidy_if present bare

  abbrev tstatement : IStmt → IStmt
  tstatement = tidy_statement present bare

  else-is : (x : IElse-F IElse IStmtNode IBlock IIf IStmt)
      → telse (roll-IElse x) ≡ tidying.else_step present bare (map-IElse _ _ _ _ _ _ _ _ _ _ telse tnode tblock tif tstatement x)
  else-is x =
      fold-roll-IElse IElse IStmtNode IBlock IIf IStmt (tidying.else_step present bare) (tidying.node_step present bare)
      (tidying.block_step present bare) (tidying.if_step present bare) (tidying.statement_step present bare) x

  node-is : (x : IStmtNode-F IElse IStmtNode IBlock IIf IStmt)
      → tnode (roll-IStmtNode x) ≡ tidying.node_step present bare (map-IStmtNode _ _ _ _ _ _ _ _ _ _ telse tnode tblock tif tstatement x)
  node-is x =
      fold-roll-IStmtNode IElse IStmtNode IBlock IIf IStmt (tidying.else_step present bare) (tidying.node_step present bare)
      (tidying.block_step present bare) (tidying.if_step present bare) (tidying.statement_step present bare) x

  block-is : (items : List IStmt) (tail : List (List ℕ)) → tblock (block_of items tail) ≡ block_of (map tstatement items) tail
  block-is items tail =
      fold-roll-IBlock IElse IStmtNode IBlock IIf IStmt (tidying.else_step present bare) (tidying.node_step present bare)
      (tidying.block_step present bare) (tidying.if_step present bare) (tidying.statement_step present bare)
      (record { items = items; tail = tail })

  if-is : (test : IExpr) (block : IBlock) (rest : IElse)
      → tif (branch_of test block rest) ≡ branch_of (tidy_expr present bare test) (tblock block) (telse rest)
  if-is test block rest =
      fold-roll-IIf IElse IStmtNode IBlock IIf IStmt (tidying.else_step present bare) (tidying.node_step present bare)
      (tidying.block_step present bare) (tidying.if_step present bare) (tidying.statement_step present bare)
      (record { test = test; then = block; rest = rest })

  statement-is : (notes : List (List ℕ)) (node : IStmtNode)
      → tstatement (roll-IStmt (record { notes = notes; node = node })) ≡ roll-IStmt (record { notes = notes; node = tnode node })
  statement-is notes node =
      fold-roll-IStmt IElse IStmtNode IBlock IIf IStmt (tidying.else_step present bare) (tidying.node_step present bare)
      (tidying.block_step present bare) (tidying.if_step present bare) (tidying.statement_step present bare)
      (record { notes = notes; node = node })

-- ---- mentions

else-mentions : (x : IElse-F IElse IStmtNode IBlock IIf IStmt) → else_mentions (roll-IElse x)
    ≡ mentioning.else_step (map-IElse _ _ _ _ _ _ _ _ _ _ else_mentions node_mentions block_mentions if_mentions statement_mentions x)
else-mentions x =
    fold-roll-IElse Mentioned Mentioned Mentioned Mentioned Mentioned
    mentioning.else_step mentioning.node_step mentioning.block_step mentioning.if_step mentioning.statement_step x

node-mentions : (x : IStmtNode-F IElse IStmtNode IBlock IIf IStmt) → node_mentions (roll-IStmtNode x)
    ≡ mentioning.node_step (map-IStmtNode _ _ _ _ _ _ _ _ _ _ else_mentions node_mentions block_mentions if_mentions statement_mentions x)
node-mentions x =
    fold-roll-IStmtNode Mentioned Mentioned Mentioned Mentioned Mentioned
    mentioning.else_step mentioning.node_step mentioning.block_step mentioning.if_step mentioning.statement_step x

block-mentions : (items : List IStmt) (tail : List (List ℕ)) → block_mentions (block_of items tail) ≡ joined (map statement_mentions items)
block-mentions items tail =
    fold-roll-IBlock Mentioned Mentioned Mentioned Mentioned Mentioned
    mentioning.else_step mentioning.node_step mentioning.block_step mentioning.if_step mentioning.statement_step
    (record { items = items; tail = tail })

if-mentions : (test : IExpr) (block : IBlock) (rest : IElse)
    → if_mentions (branch_of test block rest) ≡ expr_mentions test ++ block_mentions block ++ else_mentions rest
if-mentions test block rest =
    fold-roll-IIf Mentioned Mentioned Mentioned Mentioned Mentioned
    mentioning.else_step mentioning.node_step mentioning.block_step mentioning.if_step mentioning.statement_step
    (record { test = test; then = block; rest = rest })

statement-mentions : (notes : List (List ℕ)) (node : IStmtNode)
    → statement_mentions (roll-IStmt (record { notes = notes; node = node })) ≡ node_mentions node
statement-mentions notes node =
    fold-roll-IStmt Mentioned Mentioned Mentioned Mentioned Mentioned
    mentioning.else_step mentioning.node_step mentioning.block_step mentioning.if_step mentioning.statement_step
    (record { notes = notes; node = node })

arguments-joined : (args : List Argument) → arguments_mentions args ≡ joined (map argument_mentions args)
arguments-joined [] = refl
arguments-joined (argument ∷ args) = λ i. sym (argument-mentions argument) i ++ arguments-joined args i

-- ---- two tidyings

module _ (here there : Id → List Param) (bare : Id → Option Id) where
  abbrev Good : List Mention → Type 0
  Good = AreGood here there

  abbrev first_of : (xs ys : List Mention) → Good (xs ++ ys) → Good xs
  first_of = front here there

  abbrev rest_of : (xs ys : List Mention) → Good (xs ++ ys) → Good ys
  rest_of = back here there

  -- ---- expressions in statements

  abbrev ta : IExpr → IExpr
  ta = tidy_expr here bare

  abbrev tb : IExpr → IExpr
  tb = tidy_expr there bare

  pub maybe-alike : (o : Option IExpr) → Good (maybe_mentions (option_map ta o)) → option_map ta o ≡ option_map tb o
  maybe-alike None good = refl
  maybe-alike (Some e) good = ap Some (expr-alike here there bare e good)

  exprs-alike : (es : List IExpr) → Good (exprs_mentions (map ta es)) → map ta es ≡ map tb es
  exprs-alike [] good = refl
  exprs-alike (e ∷ es) good =
      let one = expr-alike here there bare e (first_of (expr_mentions (ta e)) (exprs_mentions (map ta es)) good) in
      let more = exprs-alike es (rest_of (expr_mentions (ta e)) (exprs_mentions (map ta es)) good) in
      λ i. one i ∷ more i

  abbrev with_proofs : List Argument → List (WithArgument here there bare)
  with_proofs args = map (λ (argument : Argument). (argument, expr-alike here there bare argument.value)) args

  without-proofs : (args : List Argument) → arguments here there bare (with_proofs args) ≡ args
  without-proofs [] = refl
  without-proofs (argument ∷ args) = ap (λ more. argument ∷ more) (without-proofs args)

  abbrev passed : (Id → List Param) → List Param → List Argument → List Argument
  passed present params args = arguments_for params (map (tidy_argument present bare) args)

  passed-alike : (params : List Param) (args : List Argument) → Good (arguments_mentions (passed here params args))
      → passed here params args ≡ passed there params args
  passed-alike params args good =
      subst (λ (list : List Argument). Good (joined (map argument_mentions (passed here params list))) → passed here params list ≡ passed there params list)
      (without-proofs args) (arguments-alike here there bare params (with_proofs args))
      (subst Good (arguments-joined (passed here params args)) good)

  abbrev names_mentions : List IDeclarator → List Mention
  names_mentions names = flat_map (λ (declarator : IDeclarator). maybe_mentions declarator.init) names

  names-alike : (names : List IDeclarator) → Good (names_mentions (map (tidy_declarator here bare) names))
      → map (tidy_declarator here bare) names ≡ map (tidy_declarator there bare) names
  names-alike [] good = refl
  names-alike (d ∷ names) good =
      let rest = names_mentions (map (tidy_declarator here bare) names) in
      let one = maybe-alike d.init (first_of (maybe_mentions (option_map ta d.init)) rest good) in
      let more = names-alike names (rest_of (maybe_mentions (option_map ta d.init)) rest good) in
      λ i. record { name = d.name; init = one i } ∷ more i

  let-alike : (declared : ILet) → Good (let_mentions (tidy_let here bare declared)) → tidy_let here bare declared ≡ tidy_let there bare declared
  let-alike declared good =
      let names = names-alike declared.names (rest_of (type_mentions declared.ty) (names_mentions (map (tidy_declarator here bare) declared.names)) good) in
      λ i. record { is_final = declared.is_final; ty = declared.ty; names = names i }

  start-alike : (start : IForStart) → Good (start_mentions (tidy_start here bare start)) → tidy_start here bare start ≡ tidy_start there bare start
  start-alike starts.None good = refl
  start-alike (starts.Let declared) good = ap starts.Let (let-alike declared good)
  start-alike (starts.Do es) good = ap starts.Do (exprs-alike es good)

  -- ---- blocks and their parts

  abbrev ea : IElse → IElse
  ea = telse here bare

  abbrev eb : IElse → IElse
  eb = telse there bare

  abbrev na : IStmtNode → IStmtNode
  na = tnode here bare

  abbrev nb : IStmtNode → IStmtNode
  nb = tnode there bare

  abbrev ba : IBlock → IBlock
  ba = tblock here bare

  abbrev bb : IBlock → IBlock
  bb = tblock there bare

  abbrev ia : IIf → IIf
  ia = tif here bare

  abbrev ib : IIf → IIf
  ib = tif there bare

  abbrev sa : IStmt → IStmt
  sa = tstatement here bare

  abbrev sb : IStmt → IStmt
  sb = tstatement there bare

  abbrev IsAlikeElse : IElse → Type 0
  IsAlikeElse rest = Good (else_mentions (ea rest)) → ea rest ≡ eb rest

  abbrev IsAlikeNode : IStmtNode → Type 0
  IsAlikeNode node = Good (node_mentions (na node)) → na node ≡ nb node

  abbrev pub IsAlikeBlock : IBlock → Type 0
  IsAlikeBlock block = Good (block_mentions (ba block)) → ba block ≡ bb block

  abbrev IsAlikeIf : IIf → Type 0
  IsAlikeIf branch = Good (if_mentions (ia branch)) → ia branch ≡ ib branch

  abbrev IsAlikeStatement : IStmt → Type 0
  IsAlikeStatement statement = Good (statement_mentions (sa statement)) → sa statement ≡ sb statement

  abbrev WithElse : Type 0
  WithElse = (rest : IElse) × IsAlikeElse rest

  abbrev WithNode : Type 0
  WithNode = (node : IStmtNode) × IsAlikeNode node

  abbrev WithBlock : Type 0
  WithBlock = (block : IBlock) × IsAlikeBlock block

  abbrev WithIf : Type 0
  WithIf = (branch : IIf) × IsAlikeIf branch

  abbrev WithStatement : Type 0
  WithStatement = (statement : IStmt) × IsAlikeStatement statement

  from-node : (x z w : IStmtNode-F IElse IStmtNode IBlock IIf IStmt)
      → tidying.node_step here bare (map-IStmtNode _ _ _ _ _ _ _ _ _ _ ea na ba ia sa x) ≡ roll-IStmtNode z
      → tidying.node_step there bare (map-IStmtNode _ _ _ _ _ _ _ _ _ _ eb nb bb ib sb x) ≡ roll-IStmtNode w
      → (Good (mentioning.node_step (map-IStmtNode _ _ _ _ _ _ _ _ _ _ else_mentions node_mentions block_mentions if_mentions statement_mentions z))
      → roll-IStmtNode z ≡ roll-IStmtNode w)
      → IsAlikeNode (roll-IStmtNode x)
  from-node x z w first second same good =
      node-is here bare x ∙ first
      ∙ same (subst Good (ap node_mentions (node-is here bare x ∙ first) ∙ node-mentions z) good)
      ∙ sym (node-is there bare x ∙ second)

  node-alike : (y : IStmtNode-F WithElse WithNode WithBlock WithIf WithStatement)
      → IsAlikeNode (roll-IStmtNode (map-IStmtNode _ _ _ _ _ _ _ _ _ _ (λ p. p.0) (λ p. p.0) (λ p. p.0) (λ p. p.0) (λ p. p.0) y))
  node-alike (IStmtNode-F.IStmtNode::Block block) =
      from-node (IStmtNode-F.IStmtNode::Block block.0) (IStmtNode-F.IStmtNode::Block (ba block.0)) (IStmtNode-F.IStmtNode::Block (bb block.0))
      (sym (nodes.rolls-Block (ba block.0))) (sym (nodes.rolls-Block (bb block.0)))
      (λ good. ap (λ v. roll-IStmtNode (IStmtNode-F.IStmtNode::Block v)) (block.1 good))
  node-alike (IStmtNode-F.Let declared) =
      from-node (IStmtNode-F.Let declared) (IStmtNode-F.Let (tidy_let here bare declared)) (IStmtNode-F.Let (tidy_let there bare declared))
      (sym (nodes.rolls-Let (tidy_let here bare declared))) (sym (nodes.rolls-Let (tidy_let there bare declared)))
      (λ good. ap (λ v. roll-IStmtNode (IStmtNode-F.Let v)) (let-alike declared good))
  node-alike (IStmtNode-F.Do e) =
      from-node (IStmtNode-F.Do e) (IStmtNode-F.Do (ta e)) (IStmtNode-F.Do (tb e)) (sym (nodes.rolls-Do (ta e))) (sym (nodes.rolls-Do (tb e)))
      (λ good. ap (λ v. roll-IStmtNode (IStmtNode-F.Do v)) (expr-alike here there bare e good))
  node-alike (IStmtNode-F.IStmtNode::If branch) =
      from-node (IStmtNode-F.IStmtNode::If branch.0) (IStmtNode-F.IStmtNode::If (ia branch.0)) (IStmtNode-F.IStmtNode::If (ib branch.0))
      (sym (nodes.rolls-If (ia branch.0))) (sym (nodes.rolls-If (ib branch.0)))
      (λ good. ap (λ v. roll-IStmtNode (IStmtNode-F.IStmtNode::If v)) (branch.1 good))
  node-alike (IStmtNode-F.While test block) =
      from-node (IStmtNode-F.While test block.0) (IStmtNode-F.While (ta test) (ba block.0)) (IStmtNode-F.While (tb test) (bb block.0))
      (sym (nodes.rolls-While (ta test) (ba block.0))) (sym (nodes.rolls-While (tb test) (bb block.0)))
      (λ good. let one = expr-alike here there bare test (first_of (expr_mentions (ta test)) (block_mentions (ba block.0)) good) in
      let inner = block.1 (rest_of (expr_mentions (ta test)) (block_mentions (ba block.0)) good) in
      λ i. roll-IStmtNode (IStmtNode-F.While (one i) (inner i)))
  node-alike (IStmtNode-F.For start test steps block) =
      let first = start_mentions (tidy_start here bare start) in
      let tests = maybe_mentions (option_map ta test) in
      let stepping = exprs_mentions (map ta steps) in
      let inside = block_mentions (ba block.0) in
      from-node (IStmtNode-F.For start test steps block.0)
      (IStmtNode-F.For (tidy_start here bare start) (option_map ta test) (map ta steps) (ba block.0))
      (IStmtNode-F.For (tidy_start there bare start) (option_map tb test) (map tb steps) (bb block.0))
      (sym (nodes.rolls-For (tidy_start here bare start) (option_map ta test) (map ta steps) (ba block.0)))
      (sym (nodes.rolls-For (tidy_start there bare start) (option_map tb test) (map tb steps) (bb block.0)))
      (λ good.
      let head = first_of (first ++ tests ++ stepping) inside good in
      let two = first_of (first ++ tests) stepping head in
      let starting = start-alike start (first_of first tests two) in
      let testing = maybe-alike test (rest_of first tests two) in
      let going = exprs-alike steps (rest_of (first ++ tests) stepping head) in
      let inner = block.1 (rest_of (first ++ tests ++ stepping) inside good) in
      λ i. roll-IStmtNode (IStmtNode-F.For (starting i) (testing i) (going i) (inner i)))
  node-alike (IStmtNode-F.Each is_final ty name e block) =
      from-node (IStmtNode-F.Each is_final ty name e block.0) (IStmtNode-F.Each is_final ty name (ta e) (ba block.0))
      (IStmtNode-F.Each is_final ty name (tb e) (bb block.0))
      (sym (nodes.rolls-Each is_final ty name (ta e) (ba block.0))) (sym (nodes.rolls-Each is_final ty name (tb e) (bb block.0)))
      (λ good.
      let head = first_of (type_mentions ty ++ expr_mentions (ta e)) (block_mentions (ba block.0)) good in
      let one = expr-alike here there bare e (rest_of (type_mentions ty) (expr_mentions (ta e)) head) in
      let inner = block.1 (rest_of (type_mentions ty ++ expr_mentions (ta e)) (block_mentions (ba block.0)) good) in
      λ i. roll-IStmtNode (IStmtNode-F.Each is_final ty name (one i) (inner i)))
  node-alike (IStmtNode-F.Return e) =
      from-node (IStmtNode-F.Return e) (IStmtNode-F.Return (option_map ta e)) (IStmtNode-F.Return (option_map tb e))
      (sym (nodes.rolls-Return (option_map ta e))) (sym (nodes.rolls-Return (option_map tb e)))
      (λ good. ap (λ v. roll-IStmtNode (IStmtNode-F.Return v)) (maybe-alike e good))
  node-alike (IStmtNode-F.Throw e) =
      from-node (IStmtNode-F.Throw e) (IStmtNode-F.Throw (ta e)) (IStmtNode-F.Throw (tb e))
      (sym (nodes.rolls-Throw (ta e))) (sym (nodes.rolls-Throw (tb e)))
      (λ good. ap (λ v. roll-IStmtNode (IStmtNode-F.Throw v)) (expr-alike here there bare e good))
  node-alike IStmtNode-F.Break =
      from-node IStmtNode-F.Break IStmtNode-F.Break IStmtNode-F.Break (sym nodes.rolls-Break) (sym nodes.rolls-Break) (λ good. refl)
  node-alike IStmtNode-F.Continue =
      from-node IStmtNode-F.Continue IStmtNode-F.Continue IStmtNode-F.Continue (sym nodes.rolls-Continue) (sym nodes.rolls-Continue) (λ good. refl)
  node-alike IStmtNode-F.Empty =
      from-node IStmtNode-F.Empty IStmtNode-F.Empty IStmtNode-F.Empty (sym nodes.rolls-Empty) (sym nodes.rolls-Empty) (λ good. refl)
  node-alike (IStmtNode-F.Super constructor args) =
      let first = passed here (here constructor) args in
      let second = passed there (there constructor) args in
      from-node (IStmtNode-F.Super constructor args) (IStmtNode-F.Super constructor first) (IStmtNode-F.Super constructor second)
      (sym (nodes.rolls-Super constructor first)) (sym (nodes.rolls-Super constructor second))
      (λ good. ap (λ v. roll-IStmtNode (IStmtNode-F.Super constructor v))
      (passed-alike (here constructor) args good.1 ∙ ap (λ params. passed there params args) good.0))
  node-alike (IStmtNode-F.SuperDefault class) =
      from-node (IStmtNode-F.SuperDefault class) (IStmtNode-F.SuperDefault class) (IStmtNode-F.SuperDefault class)
      (sym (nodes.rolls-SuperDefault class)) (sym (nodes.rolls-SuperDefault class)) (λ good. refl)
  node-alike (IStmtNode-F.SuperOutside args) =
      from-node (IStmtNode-F.SuperOutside args) (IStmtNode-F.SuperOutside (map ta args)) (IStmtNode-F.SuperOutside (map tb args))
      (sym (nodes.rolls-SuperOutside (map ta args))) (sym (nodes.rolls-SuperOutside (map tb args)))
      (λ good. ap (λ v. roll-IStmtNode (IStmtNode-F.SuperOutside v)) (exprs-alike args good))

  from-else : (x z w : IElse-F IElse IStmtNode IBlock IIf IStmt)
      → tidying.else_step here bare (map-IElse _ _ _ _ _ _ _ _ _ _ ea na ba ia sa x) ≡ roll-IElse z
      → tidying.else_step there bare (map-IElse _ _ _ _ _ _ _ _ _ _ eb nb bb ib sb x) ≡ roll-IElse w
      → (Good (mentioning.else_step (map-IElse _ _ _ _ _ _ _ _ _ _ else_mentions node_mentions block_mentions if_mentions statement_mentions z))
      → roll-IElse z ≡ roll-IElse w)
      → IsAlikeElse (roll-IElse x)
  from-else x z w first second same good =
      else-is here bare x ∙ first
      ∙ same (subst Good (ap else_mentions (else-is here bare x ∙ first) ∙ else-mentions z) good)
      ∙ sym (else-is there bare x ∙ second)

  else-alike : (y : IElse-F WithElse WithNode WithBlock WithIf WithStatement)
      → IsAlikeElse (roll-IElse (map-IElse _ _ _ _ _ _ _ _ _ _ (λ p. p.0) (λ p. p.0) (λ p. p.0) (λ p. p.0) (λ p. p.0) y))
  else-alike IElse-F.None =
      from-else IElse-F.None IElse-F.None IElse-F.None (sym elses.rolls-None) (sym elses.rolls-None) (λ good. refl)
  else-alike (IElse-F.IElse::Block block) =
      from-else (IElse-F.IElse::Block block.0) (IElse-F.IElse::Block (ba block.0)) (IElse-F.IElse::Block (bb block.0))
      (sym (elses.rolls-Block (ba block.0))) (sym (elses.rolls-Block (bb block.0)))
      (λ good. ap (λ v. roll-IElse (IElse-F.IElse::Block v)) (block.1 good))
  else-alike (IElse-F.IElse::If branch) =
      from-else (IElse-F.IElse::If branch.0) (IElse-F.IElse::If (ia branch.0)) (IElse-F.IElse::If (ib branch.0))
      (sym (elses.rolls-If (ia branch.0))) (sym (elses.rolls-If (ib branch.0)))
      (λ good. ap (λ v. roll-IElse (IElse-F.IElse::If v)) (branch.1 good))

  abbrev statements : List WithStatement → List IStmt
  statements items = map (λ p. p.0) items

  abbrev items_mentions : List WithStatement → List Mention
  items_mentions items = joined (map statement_mentions (map sa (statements items)))

  items-alike : (items : List WithStatement) → Good (items_mentions items) → map sa (statements items) ≡ map sb (statements items)
  items-alike [] good = refl
  items-alike (statement ∷ items) good =
      let one = statement.1 (first_of (statement_mentions (sa statement.0)) (items_mentions items) good) in
      let more = items-alike items (rest_of (statement_mentions (sa statement.0)) (items_mentions items) good) in
      λ i. one i ∷ more i

  layer-block-alike : (items : List WithStatement) (tail : List (List ℕ)) → IsAlikeBlock (block_of (statements items) tail)
  layer-block-alike items tail good =
      block-is here bare (statements items) tail
      ∙ ap (λ list. block_of list tail)
      (items-alike items (subst Good (ap block_mentions (block-is here bare (statements items) tail) ∙ block-mentions (map sa (statements items)) tail) good))
      ∙ sym (block-is there bare (statements items) tail)

  if-alike : (test : IExpr) (block : WithBlock) (rest : WithElse) → IsAlikeIf (branch_of test block.0 rest.0)
  if-alike test block rest good =
      let first = expr_mentions (ta test) in
      let inside = block_mentions (ba block.0) in
      let other = else_mentions (ea rest.0) in
      let all : Good (first ++ inside ++ other) = subst Good
      (ap if_mentions (if-is here bare test block.0 rest.0) ∙ if-mentions (ta test) (ba block.0) (ea rest.0)) good in
      let head = first_of (first ++ inside) other all in
      let one = expr-alike here there bare test (first_of first inside head) in
      let inner = block.1 (rest_of first inside head) in
      let last = rest.1 (rest_of (first ++ inside) other all) in
      if-is here bare test block.0 rest.0 ∙ (λ i. branch_of (one i) (inner i) (last i)) ∙ sym (if-is there bare test block.0 rest.0)

  statement-alike : (notes : List (List ℕ)) (node : WithNode) → IsAlikeStatement (roll-IStmt (record { notes = notes; node = node.0 }))
  statement-alike notes node good =
      let inner = node.1 (subst Good (ap statement_mentions (statement-is here bare notes node.0) ∙ statement-mentions notes (na node.0)) good) in
      statement-is here bare notes node.0 ∙ (λ i. roll-IStmt (record { notes = notes; node = inner i })) ∙ sym (statement-is there bare notes node.0)

  -- a block is tidied alike
  pub block-alike : (block : IBlock) → IsAlikeBlock block
  block-alike = ind-IBlock IsAlikeElse IsAlikeNode IsAlikeBlock IsAlikeIf IsAlikeStatement
      (λ x y is. subst (λ z. IsAlikeElse (roll-IElse z)) is (else-alike y))
      (λ x y is. subst (λ z. IsAlikeNode (roll-IStmtNode z)) is (node-alike y))
      (λ x y is. subst (λ z. IsAlikeBlock (roll-IBlock z)) is (layer-block-alike y.items y.tail))
      (λ x y is. subst (λ z. IsAlikeIf (roll-IIf z)) is (if-alike y.test y.then y.rest))
      (λ x y is. subst (λ z. IsAlikeStatement (roll-IStmt z)) is (statement-alike y.notes y.node))
