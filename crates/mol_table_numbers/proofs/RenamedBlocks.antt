-- Renaming keeps the forms of blocks and bodies, and renames what they mention.
use Rattle.std.specs.Prelude.{◌≡◌, ℕ, Bool, true, ◌&&◌, nat_le, List, [], ◌∷◌, ◌++◌, map, Option, None, Some, option_map}
use Rattle.std.proofs.Common.{refl, sym, ap, subst, ◌∙◌}
use Rattle.std.proofs.lemmas.List.{length-map}
use Rattle.std.specs.List.{list_all, flat_map}
use Rattle.std.specs.Option.{option_map_or}
use Rattle.mol_base.specs.declared.ident.Id.{Id}
use Rattle.mol_values_types.specs.Blocks.{block_of, branch_of}
use Rattle.mol_table_rules.specs.ExpressionForms.{is_value, shape_of, is_initial, is_expression, is_statement, are_arguments}
use Rattle.mol_table_rules.specs.Mentions as mention
use Rattle.mol_table_rules.specs.Mentions.{Mention, a_constructor, named, joined, type_mentions, expr_mentions, exprs_mentions, maybe_mentions, arguments_mentions, let_mentions, start_mentions}
use Rattle.mol_values_types.specs.Renamed as rename
use Rattle.mol_values_types.specs.Renamed.{rename_type, rename_expr, rename_argument, rename_declarator, rename_let, rename_start, rename_else, rename_node, rename_block, rename_if, rename_statement, rename_body}
use Rattle.mol_table_rules.specs.StatementForms as forms
use Rattle.mol_table_rules.specs.StatementForms.{StatementShape, BlockShape, ordinary, super_first, is_maybe, is_declarator, is_let, is_start, block_shape, is_body}
use Rattle.mol_values_types.specs.TokenForms.{are_comments, is_name}
use Rattle.mol_values_types.specs.declared.iblock.IBlock.{IBlock}
use Rattle.mol_values_types.specs.declared.iblock.IBody.{IBody}
use Rattle.mol_values_types.specs.declared.iblock.IDeclarator.{IDeclarator}
use Rattle.mol_values_types.specs.declared.iblock.IElse.{IElse}
use Rattle.mol_values_types.specs.declared.iblock.IElse.TheFolds.{fold-roll-IElse, fold-roll-IStmtNode, fold-roll-IBlock, fold-roll-IIf, fold-roll-IStmt, map-IElse, map-IStmtNode, ind-IBlock}
use Rattle.mol_values_types.specs.declared.iblock.IElse.TheOpen.{IElse-F, IStmtNode-F}
use Rattle.mol_values_types.specs.declared.iblock.IElse.TheVariants as elses
use Rattle.mol_values_types.specs.declared.iblock.IElse.TheViews.{roll-IElse, roll-IStmtNode, roll-IBlock, roll-IIf, roll-IStmt}
use Rattle.mol_values_types.specs.declared.iblock.IForStart.{IForStart}
use Rattle.mol_values_types.specs.declared.iblock.IForStart.TheVariants as starts
use Rattle.mol_values_types.specs.declared.iblock.IIf.{IIf}
use Rattle.mol_values_types.specs.declared.iblock.ILet.{ILet}
use Rattle.mol_values_types.specs.declared.iblock.IStmt.{IStmt}
use Rattle.mol_values_types.specs.declared.iblock.IStmtNode.{IStmtNode}
use Rattle.mol_values_types.specs.declared.iblock.IStmtNode.TheVariants as nodes
use Rattle.mol_values_types.specs.declared.iexpr.Argument.{Argument}
use Rattle.mol_values_types.specs.declared.iexpr.IExpr.{IExpr}
use Rattle.mol_table_rules.proofs.KeptBlocks.{else_form, node_shape, if_form, statement_shape, Mentioned, else_mentions, node_mentions, block_mentions, if_mentions, statement_mentions}
use Rattle.mol_table_numbers.proofs.RenamedExpressions.{rename_mention, join, type-kept, type-mentions, argument-is, same}

module _ (name : Id → Id) where
  abbrev renaming : Mention → Mention
  renaming = rename_mention name

  abbrev rexpr : IExpr → IExpr
  rexpr = rename_expr name

  abbrev rlet : ILet → ILet
  rlet = rename_let name

  abbrev rstart : IForStart → IForStart
  rstart = rename_start name

  abbrev relse : IElse → IElse
  relse = rename_else name

  abbrev rnode : IStmtNode → IStmtNode
  rnode = rename_node name

  abbrev rblock : IBlock → IBlock
  rblock = rename_block name

  abbrev rif : IIf → IIf
  rif = rename_if name

  abbrev rstatement : IStmt → IStmt
  rstatement = rename_statement name

  -- ---- expressions in statements

  shaped : (e : IExpr) → shape_of (rexpr e) ≡ shape_of e
  shaped e = (same name e).0

  mentioned : (e : IExpr) → expr_mentions (rexpr e) ≡ map renaming (expr_mentions e)
  mentioned e = (same name e).1

  pub initial : (e : IExpr) → is_initial (rexpr e) ≡ is_initial e
  initial e = λ i. (shaped e i).formed

  expression : (e : IExpr) → is_expression (rexpr e) ≡ is_expression e
  expression e = λ i. is_value (shaped e i)

  stated : (e : IExpr) → is_statement (rexpr e) ≡ is_statement e
  stated e = λ i. is_value (shaped e i) && (shaped e i).statement

  maybe-expression : (o : Option IExpr) → is_maybe (option_map rexpr o) ≡ is_maybe o
  maybe-expression None = refl
  maybe-expression (Some e) = expression e

  pub maybe-initial : (o : Option IExpr) → option_map_or is_initial (option_map rexpr o) true ≡ option_map_or is_initial o true
  maybe-initial None = refl
  maybe-initial (Some e) = initial e

  pub maybe-mentioned : (o : Option IExpr) → maybe_mentions (option_map rexpr o) ≡ map renaming (maybe_mentions o)
  maybe-mentioned None = refl
  maybe-mentioned (Some e) = mentioned e

  all-stated : (es : List IExpr) → list_all is_statement (map rexpr es) ≡ list_all is_statement es
  all-stated [] = refl
  all-stated (e ∷ es) = λ i. stated e i && all-stated es i

  all-mentioned : (es : List IExpr) → exprs_mentions (map rexpr es) ≡ map renaming (exprs_mentions es)
  all-mentioned [] = refl
  all-mentioned (e ∷ es) = join name (expr_mentions e) (exprs_mentions es) (expr_mentions (rexpr e)) (exprs_mentions (map rexpr es)) (mentioned e) (all-mentioned es)

  outside-shapes : (es : List IExpr) → map shape_of (map rexpr es) ≡ map shape_of es
  outside-shapes [] = refl
  outside-shapes (e ∷ es) = λ i. shaped e i ∷ outside-shapes es i

  super-shapes : (args : List Argument) → map (λ (argument : Argument). shape_of argument.value) (map (rename_argument name) args) ≡ map (λ (argument : Argument). shape_of argument.value) args
  super-shapes [] = refl
  super-shapes (argument ∷ args) =
      λ i. (ap (λ (argument : Argument). shape_of argument.value) (argument-is name argument) ∙ shaped argument.value) i ∷ super-shapes args i

  super-mentioned : (args : List Argument) → arguments_mentions (map (rename_argument name) args) ≡ map renaming (arguments_mentions args)
  super-mentioned [] = refl
  super-mentioned (argument ∷ args) =
      join name (expr_mentions argument.value) (arguments_mentions args) (expr_mentions (rename_argument name argument).value) (arguments_mentions (map (rename_argument name) args))
      (ap (λ (argument : Argument). expr_mentions argument.value) (argument-is name argument) ∙ mentioned argument.value) (super-mentioned args)

  declarator : (d : IDeclarator) → is_declarator (rename_declarator name d) ≡ is_declarator d
  declarator d = λ i. is_name d.name && maybe-initial d.init i

  declarators : (ds : List IDeclarator) → list_all is_declarator (map (rename_declarator name) ds) ≡ list_all is_declarator ds
  declarators [] = refl
  declarators (d ∷ ds) = λ i. declarator d i && declarators ds i

  abbrev names_mentions : List IDeclarator → List Mention
  names_mentions ds = flat_map (λ (declarator : IDeclarator). maybe_mentions declarator.init) ds

  names-mentioned : (ds : List IDeclarator) → names_mentions (map (rename_declarator name) ds) ≡ map renaming (names_mentions ds)
  names-mentioned [] = refl
  names-mentioned (d ∷ ds) =
      join name (maybe_mentions d.init) (names_mentions ds) (maybe_mentions (option_map rexpr d.init)) (names_mentions (map (rename_declarator name) ds)) (maybe-mentioned d.init) (names-mentioned ds)

  let-same : (l : ILet) → is_let (rlet l) ≡ is_let l
  let-same l = λ i. type-kept name l.ty i && nat_le 1 (length-map l.names (rename_declarator name) i) && declarators l.names i

  let-mentioned : (l : ILet) → let_mentions (rlet l) ≡ map renaming (let_mentions l)
  let-mentioned l =
      join name (type_mentions l.ty) (names_mentions l.names) (type_mentions (rename_type name l.ty)) (names_mentions (map (rename_declarator name) l.names)) (type-mentions name l.ty) (names-mentioned l.names)

  start-same : (s : IForStart) → is_start (rstart s) ≡ is_start s
  start-same starts.None = refl
  start-same (starts.Let l) = let-same l
  start-same (starts.Do es) = λ i. nat_le 1 (length-map es rexpr i) && all-stated es i

  start-mentioned : (s : IForStart) → start_mentions (rstart s) ≡ map renaming (start_mentions s)
  start-mentioned starts.None = refl
  start-mentioned (starts.Let l) = let-mentioned l
  start-mentioned (starts.Do es) = all-mentioned es

  -- ---- what is proved of each part: both laws

  abbrev SameElse : IElse → Type 0
  SameElse e = (else_form (relse e) ≡ else_form e) × (else_mentions (relse e) ≡ map renaming (else_mentions e))

  abbrev SameNode : IStmtNode → Type 0
  SameNode n = (node_shape (rnode n) ≡ node_shape n) × (node_mentions (rnode n) ≡ map renaming (node_mentions n))

  abbrev pub SameBlock : IBlock → Type 0
  SameBlock b = (block_shape (rblock b) ≡ block_shape b) × (block_mentions (rblock b) ≡ map renaming (block_mentions b))

  abbrev SameIf : IIf → Type 0
  SameIf b = (if_form (rif b) ≡ if_form b) × (if_mentions (rif b) ≡ map renaming (if_mentions b))

  abbrev SameStmt : IStmt → Type 0
  SameStmt s = (statement_shape (rstatement s) ≡ statement_shape s) × (statement_mentions (rstatement s) ≡ map renaming (statement_mentions s))

  abbrev WithElse : Type 0
  WithElse = (e : IElse) × SameElse e

  abbrev WithNode : Type 0
  WithNode = (n : IStmtNode) × SameNode n

  abbrev WithBlock : Type 0
  WithBlock = (b : IBlock) × SameBlock b

  abbrev WithIf : Type 0
  WithIf = (b : IIf) × SameIf b

  abbrev WithStmt : Type 0
  WithStmt = (s : IStmt) × SameStmt s

  -- ---- a statement by its layer

  from : (x z : IStmtNode-F IElse IStmtNode IBlock IIf IStmt) → rnode (roll-IStmtNode x) ≡ roll-IStmtNode z
      → forms.node_step (map-IStmtNode _ _ _ _ _ _ _ _ _ _ else_form node_shape block_shape if_form statement_shape z) ≡ forms.node_step (map-IStmtNode _ _ _ _ _ _ _ _ _ _ else_form node_shape block_shape if_form statement_shape x)
      → mention.node_step (map-IStmtNode _ _ _ _ _ _ _ _ _ _ else_mentions node_mentions block_mentions if_mentions statement_mentions z) ≡ map renaming (mention.node_step (map-IStmtNode _ _ _ _ _ _ _ _ _ _ else_mentions node_mentions block_mentions if_mentions statement_mentions x))
      → SameNode (roll-IStmtNode x)
  from x z is shapes refers =
      let shape : (y : IStmtNode-F IElse IStmtNode IBlock IIf IStmt) → node_shape (roll-IStmtNode y) ≡ forms.node_step (map-IStmtNode _ _ _ _ _ _ _ _ _ _ else_form node_shape block_shape if_form statement_shape y) =
      fold-roll-IStmtNode Bool StatementShape BlockShape Bool StatementShape forms.else_step forms.node_step forms.block_step forms.if_step forms.statement_step in
      let names : (y : IStmtNode-F IElse IStmtNode IBlock IIf IStmt) → node_mentions (roll-IStmtNode y) ≡ mention.node_step (map-IStmtNode _ _ _ _ _ _ _ _ _ _ else_mentions node_mentions block_mentions if_mentions statement_mentions y) =
      fold-roll-IStmtNode Mentioned Mentioned Mentioned Mentioned Mentioned mention.else_step mention.node_step mention.block_step mention.if_step mention.statement_step in (
        ap node_shape is ∙ shape z ∙ shapes ∙ sym (shape x),
        ap node_mentions is ∙ names z ∙ refers ∙ ap (map renaming) (sym (names x)),
      )

  node-is : (x : IStmtNode-F IElse IStmtNode IBlock IIf IStmt) → rnode (roll-IStmtNode x) ≡ rename.node_step name (map-IStmtNode _ _ _ _ _ _ _ _ _ _ relse rnode rblock rif rstatement x)
  node-is x = fold-roll-IStmtNode IElse IStmtNode IBlock IIf IStmt (rename.else_step name) (rename.node_step name) (rename.block_step name) (rename.if_step name) (rename.statement_step name) x

  same_node : (y : IStmtNode-F WithElse WithNode WithBlock WithIf WithStmt) → SameNode (roll-IStmtNode (map-IStmtNode _ _ _ _ _ _ _ _ _ _ (λ p. p.0) (λ p. p.0) (λ p. p.0) (λ p. p.0) (λ p. p.0) y))
  same_node (IStmtNode-F.IStmtNode::Block block) =
      from (IStmtNode-F.IStmtNode::Block block.0) (IStmtNode-F.IStmtNode::Block (rblock block.0)) (node-is (IStmtNode-F.IStmtNode::Block block.0) ∙ sym (nodes.rolls-Block (rblock block.0)))
      (λ i. ordinary ((block.1.0 i).formed))
      block.1.1
  same_node (IStmtNode-F.Let declared) =
      from (IStmtNode-F.Let declared) (IStmtNode-F.Let (rlet declared)) (node-is (IStmtNode-F.Let declared) ∙ sym (nodes.rolls-Let (rlet declared)))
      (λ i. ordinary (let-same declared i))
      (let-mentioned declared)
  same_node (IStmtNode-F.Do e) =
      from (IStmtNode-F.Do e) (IStmtNode-F.Do (rexpr e)) (node-is (IStmtNode-F.Do e) ∙ sym (nodes.rolls-Do (rexpr e)))
      (λ i. ordinary (stated e i))
      (mentioned e)
  same_node (IStmtNode-F.IStmtNode::If branch) =
      from (IStmtNode-F.IStmtNode::If branch.0) (IStmtNode-F.IStmtNode::If (rif branch.0)) (node-is (IStmtNode-F.IStmtNode::If branch.0) ∙ sym (nodes.rolls-If (rif branch.0)))
      (λ i. ordinary (branch.1.0 i))
      branch.1.1
  same_node (IStmtNode-F.While test block) =
      from (IStmtNode-F.While test block.0) (IStmtNode-F.While (rexpr test) (rblock block.0)) (node-is (IStmtNode-F.While test block.0) ∙ sym (nodes.rolls-While (rexpr test) (rblock block.0)))
      (λ i. ordinary (expression test i && (block.1.0 i).formed))
      (join name (expr_mentions test) (block_mentions block.0) (expr_mentions (rexpr test)) (block_mentions (rblock block.0)) (mentioned test) block.1.1)
  same_node (IStmtNode-F.For start test steps block) =
      from (IStmtNode-F.For start test steps block.0) (IStmtNode-F.For (rstart start) (option_map rexpr test) (map rexpr steps) (rblock block.0)) (node-is (IStmtNode-F.For start test steps block.0) ∙ sym (nodes.rolls-For (rstart start) (option_map rexpr test) (map rexpr steps) (rblock block.0)))
      (λ i. ordinary (start-same start i && maybe-expression test i && all-stated steps i && (block.1.0 i).formed))
      (join name (((start_mentions start) ++ (maybe_mentions test)) ++ (exprs_mentions steps)) (block_mentions block.0) (((start_mentions (rstart start)) ++ (maybe_mentions (option_map rexpr test))) ++ (exprs_mentions (map rexpr steps))) (block_mentions (rblock block.0)) (join name ((start_mentions start) ++ (maybe_mentions test)) (exprs_mentions steps) ((start_mentions (rstart start)) ++ (maybe_mentions (option_map rexpr test))) (exprs_mentions (map rexpr steps)) (join name (start_mentions start) (maybe_mentions test) (start_mentions (rstart start)) (maybe_mentions (option_map rexpr test)) (start-mentioned start) (maybe-mentioned test)) (all-mentioned steps)) block.1.1)
  same_node (IStmtNode-F.Each is_final ty text e block) =
      from (IStmtNode-F.Each is_final ty text e block.0) (IStmtNode-F.Each is_final (rename_type name ty) text (rexpr e) (rblock block.0)) (node-is (IStmtNode-F.Each is_final ty text e block.0) ∙ sym (nodes.rolls-Each is_final (rename_type name ty) text (rexpr e) (rblock block.0)))
      (λ i. ordinary (type-kept name ty i && is_name text && expression e i && (block.1.0 i).formed))
      (join name ((type_mentions ty) ++ (expr_mentions e)) (block_mentions block.0) ((type_mentions (rename_type name ty)) ++ (expr_mentions (rexpr e))) (block_mentions (rblock block.0)) (join name (type_mentions ty) (expr_mentions e) (type_mentions (rename_type name ty)) (expr_mentions (rexpr e)) (type-mentions name ty) (mentioned e)) block.1.1)
  same_node (IStmtNode-F.Return e) =
      from (IStmtNode-F.Return e) (IStmtNode-F.Return (option_map rexpr e)) (node-is (IStmtNode-F.Return e) ∙ sym (nodes.rolls-Return (option_map rexpr e)))
      (λ i. ordinary (maybe-expression e i))
      (maybe-mentioned e)
  same_node (IStmtNode-F.Throw e) =
      from (IStmtNode-F.Throw e) (IStmtNode-F.Throw (rexpr e)) (node-is (IStmtNode-F.Throw e) ∙ sym (nodes.rolls-Throw (rexpr e)))
      (λ i. ordinary (expression e i))
      (mentioned e)
  same_node IStmtNode-F.Break =
      from IStmtNode-F.Break IStmtNode-F.Break (node-is IStmtNode-F.Break ∙ sym nodes.rolls-Break)
      (refl)
      refl
  same_node IStmtNode-F.Continue =
      from IStmtNode-F.Continue IStmtNode-F.Continue (node-is IStmtNode-F.Continue ∙ sym nodes.rolls-Continue)
      (refl)
      refl
  same_node IStmtNode-F.Empty =
      from IStmtNode-F.Empty IStmtNode-F.Empty (node-is IStmtNode-F.Empty ∙ sym nodes.rolls-Empty)
      (refl)
      refl
  same_node (IStmtNode-F.Super constructor args) =
      from (IStmtNode-F.Super constructor args) (IStmtNode-F.Super (name constructor) (map (rename_argument name) args)) (node-is (IStmtNode-F.Super constructor args) ∙ sym (nodes.rolls-Super (name constructor) (map (rename_argument name) args)))
      (λ i. super_first (are_arguments (super-shapes args i)))
      (join name (named a_constructor constructor) (arguments_mentions args) (named a_constructor (name constructor)) (arguments_mentions (map (rename_argument name) args)) refl (super-mentioned args))
  same_node (IStmtNode-F.SuperDefault class) =
      from (IStmtNode-F.SuperDefault class) (IStmtNode-F.SuperDefault (name class)) (node-is (IStmtNode-F.SuperDefault class) ∙ sym (nodes.rolls-SuperDefault (name class)))
      (refl)
      refl
  same_node (IStmtNode-F.SuperOutside args) =
      from (IStmtNode-F.SuperOutside args) (IStmtNode-F.SuperOutside (map rexpr args)) (node-is (IStmtNode-F.SuperOutside args) ∙ sym (nodes.rolls-SuperOutside (map rexpr args)))
      (λ i. super_first (are_arguments (outside-shapes args i)))
      (all-mentioned args)

  -- ---- what follows `else`

  from-else : (x z : IElse-F IElse IStmtNode IBlock IIf IStmt) → relse (roll-IElse x) ≡ roll-IElse z
      → forms.else_step (map-IElse _ _ _ _ _ _ _ _ _ _ else_form node_shape block_shape if_form statement_shape z) ≡ forms.else_step (map-IElse _ _ _ _ _ _ _ _ _ _ else_form node_shape block_shape if_form statement_shape x)
      → mention.else_step (map-IElse _ _ _ _ _ _ _ _ _ _ else_mentions node_mentions block_mentions if_mentions statement_mentions z) ≡ map renaming (mention.else_step (map-IElse _ _ _ _ _ _ _ _ _ _ else_mentions node_mentions block_mentions if_mentions statement_mentions x))
      → SameElse (roll-IElse x)
  from-else x z is shapes refers =
      let shape : (y : IElse-F IElse IStmtNode IBlock IIf IStmt) → else_form (roll-IElse y) ≡ forms.else_step (map-IElse _ _ _ _ _ _ _ _ _ _ else_form node_shape block_shape if_form statement_shape y) =
      fold-roll-IElse Bool StatementShape BlockShape Bool StatementShape forms.else_step forms.node_step forms.block_step forms.if_step forms.statement_step in
      let names : (y : IElse-F IElse IStmtNode IBlock IIf IStmt) → else_mentions (roll-IElse y) ≡ mention.else_step (map-IElse _ _ _ _ _ _ _ _ _ _ else_mentions node_mentions block_mentions if_mentions statement_mentions y) =
      fold-roll-IElse Mentioned Mentioned Mentioned Mentioned Mentioned mention.else_step mention.node_step mention.block_step mention.if_step mention.statement_step in (
        ap else_form is ∙ shape z ∙ shapes ∙ sym (shape x),
        ap else_mentions is ∙ names z ∙ refers ∙ ap (map renaming) (sym (names x)),
      )

  else-is : (x : IElse-F IElse IStmtNode IBlock IIf IStmt) → relse (roll-IElse x) ≡ rename.else_step name (map-IElse _ _ _ _ _ _ _ _ _ _ relse rnode rblock rif rstatement x)
  else-is x = fold-roll-IElse IElse IStmtNode IBlock IIf IStmt (rename.else_step name) (rename.node_step name) (rename.block_step name) (rename.if_step name) (rename.statement_step name) x

  same_else : (y : IElse-F WithElse WithNode WithBlock WithIf WithStmt) → SameElse (roll-IElse (map-IElse _ _ _ _ _ _ _ _ _ _ (λ p. p.0) (λ p. p.0) (λ p. p.0) (λ p. p.0) (λ p. p.0) y))
  same_else IElse-F.None = from-else IElse-F.None IElse-F.None (else-is IElse-F.None ∙ sym elses.rolls-None) refl refl
  same_else (IElse-F.IElse::Block b) =
      from-else (IElse-F.IElse::Block b.0) (IElse-F.IElse::Block (rblock b.0)) (else-is (IElse-F.IElse::Block b.0) ∙ sym (elses.rolls-Block (rblock b.0))) (λ i. (b.1.0 i).formed) b.1.1
  same_else (IElse-F.IElse::If b) =
      from-else (IElse-F.IElse::If b.0) (IElse-F.IElse::If (rif b.0)) (else-is (IElse-F.IElse::If b.0) ∙ sym (elses.rolls-If (rif b.0))) b.1.0 b.1.1

  -- ---- blocks

  abbrev statements : List WithStmt → List IStmt
  statements items = map (λ p. p.0) items

  items-shapes : (items : List WithStmt) → map statement_shape (map rstatement (statements items)) ≡ map statement_shape (statements items)
  items-shapes [] = refl
  items-shapes (s ∷ items) = λ i. s.1.0 i ∷ items-shapes items i

  items-mentioned : (items : List WithStmt) → joined (map statement_mentions (map rstatement (statements items))) ≡ map renaming (joined (map statement_mentions (statements items)))
  items-mentioned [] = refl
  items-mentioned (s ∷ items) =
      join name (statement_mentions s.0) (joined (map statement_mentions (statements items))) (statement_mentions (rstatement s.0)) (joined (map statement_mentions (map rstatement (statements items))))
      s.1.1 (items-mentioned items)

  shape-block : (items : List IStmt) (tail : List (List ℕ)) → block_shape (block_of items tail) ≡ forms.block_step (record { items = map statement_shape items; tail = tail })
  shape-block items tail = fold-roll-IBlock Bool StatementShape BlockShape Bool StatementShape forms.else_step forms.node_step forms.block_step forms.if_step forms.statement_step (record { items = items; tail = tail })

  mentions-block : (items : List IStmt) (tail : List (List ℕ)) → block_mentions (block_of items tail) ≡ joined (map statement_mentions items)
  mentions-block items tail = fold-roll-IBlock Mentioned Mentioned Mentioned Mentioned Mentioned mention.else_step mention.node_step mention.block_step mention.if_step mention.statement_step (record { items = items; tail = tail })

  rename-block : (items : List IStmt) (tail : List (List ℕ)) → rblock (block_of items tail) ≡ block_of (map rstatement items) tail
  rename-block items tail = fold-roll-IBlock IElse IStmtNode IBlock IIf IStmt (rename.else_step name) (rename.node_step name) (rename.block_step name) (rename.if_step name) (rename.statement_step name) (record { items = items; tail = tail })

  same_block : (items : List WithStmt) (tail : List (List ℕ)) → SameBlock (block_of (statements items) tail)
  same_block items tail =
      let old = statements items in
      let new = map rstatement (statements items) in (
        ap block_shape (rename-block old tail) ∙ shape-block new tail ∙ ap (λ (shapes : List StatementShape). forms.block_step (record { items = shapes; tail = tail })) (items-shapes items) ∙ sym (shape-block old tail),
        ap block_mentions (rename-block old tail) ∙ mentions-block new tail ∙ items-mentioned items ∙ ap (map renaming) (sym (mentions-block old tail)),
      )

  -- ---- `if`

  form-if : (test : IExpr) (then : IBlock) (rest : IElse) → if_form (branch_of test then rest) ≡ (is_expression test && (block_shape then).formed && else_form rest)
  form-if test then rest = fold-roll-IIf Bool StatementShape BlockShape Bool StatementShape forms.else_step forms.node_step forms.block_step forms.if_step forms.statement_step (record { test = test; then = then; rest = rest })

  mentions-if : (test : IExpr) (then : IBlock) (rest : IElse) → if_mentions (branch_of test then rest) ≡ (expr_mentions test ++ block_mentions then ++ else_mentions rest)
  mentions-if test then rest = fold-roll-IIf Mentioned Mentioned Mentioned Mentioned Mentioned mention.else_step mention.node_step mention.block_step mention.if_step mention.statement_step (record { test = test; then = then; rest = rest })

  rename-branch : (test : IExpr) (then : IBlock) (rest : IElse) → rif (branch_of test then rest) ≡ branch_of (rexpr test) (rblock then) (relse rest)
  rename-branch test then rest = fold-roll-IIf IElse IStmtNode IBlock IIf IStmt (rename.else_step name) (rename.node_step name) (rename.block_step name) (rename.if_step name) (rename.statement_step name) (record { test = test; then = then; rest = rest })

  same_if : (test : IExpr) (then : WithBlock) (rest : WithElse) → SameIf (branch_of test then.0 rest.0)
  same_if test then rest = (
    ap if_form (rename-branch test then.0 rest.0) ∙ form-if (rexpr test) (rblock then.0) (relse rest.0)
        ∙ (λ i. expression test i && (then.1.0 i).formed && rest.1.0 i) ∙ sym (form-if test then.0 rest.0),
    ap if_mentions (rename-branch test then.0 rest.0) ∙ mentions-if (rexpr test) (rblock then.0) (relse rest.0)
        ∙ join name (expr_mentions test ++ block_mentions then.0) (else_mentions rest.0) (expr_mentions (rexpr test) ++ block_mentions (rblock then.0)) (else_mentions (relse rest.0))
        (join name (expr_mentions test) (block_mentions then.0) (expr_mentions (rexpr test)) (block_mentions (rblock then.0)) (mentioned test) then.1.1) rest.1.1
        ∙ ap (map renaming) (sym (mentions-if test then.0 rest.0)),
  )

  -- ---- statements

  abbrev statement_of : List (List ℕ) → IStmtNode → IStmt
  statement_of notes node = roll-IStmt (record { notes = notes; node = node })

  abbrev stated_shape : List (List ℕ) → StatementShape → StatementShape
  stated_shape notes shape = record { formed = are_comments notes && shape.formed; is_super = shape.is_super }

  shape-statement : (notes : List (List ℕ)) (node : IStmtNode) → statement_shape (statement_of notes node) ≡ stated_shape notes (node_shape node)
  shape-statement notes node = fold-roll-IStmt Bool StatementShape BlockShape Bool StatementShape forms.else_step forms.node_step forms.block_step forms.if_step forms.statement_step (record { notes = notes; node = node })

  mentions-statement : (notes : List (List ℕ)) (node : IStmtNode) → statement_mentions (statement_of notes node) ≡ node_mentions node
  mentions-statement notes node = fold-roll-IStmt Mentioned Mentioned Mentioned Mentioned Mentioned mention.else_step mention.node_step mention.block_step mention.if_step mention.statement_step (record { notes = notes; node = node })

  rename-stated : (notes : List (List ℕ)) (node : IStmtNode) → rstatement (statement_of notes node) ≡ statement_of notes (rnode node)
  rename-stated notes node = fold-roll-IStmt IElse IStmtNode IBlock IIf IStmt (rename.else_step name) (rename.node_step name) (rename.block_step name) (rename.if_step name) (rename.statement_step name) (record { notes = notes; node = node })

  same_statement : (notes : List (List ℕ)) (node : WithNode) → SameStmt (statement_of notes node.0)
  same_statement notes node = (
    ap statement_shape (rename-stated notes node.0) ∙ shape-statement notes (rnode node.0) ∙ ap (stated_shape notes) node.1.0 ∙ sym (shape-statement notes node.0),
    ap statement_mentions (rename-stated notes node.0) ∙ mentions-statement notes (rnode node.0) ∙ node.1.1 ∙ ap (map renaming) (sym (mentions-statement notes node.0)),
  )

  -- renaming keeps the form of a block, and renames what it mentions
  pub same-block : (b : IBlock) → SameBlock b
  same-block = ind-IBlock SameElse SameNode SameBlock SameIf SameStmt
      (λ x y is. subst (λ z. SameElse (roll-IElse z)) is (same_else y))
      (λ x y is. subst (λ z. SameNode (roll-IStmtNode z)) is (same_node y))
      (λ x y is. subst (λ z. SameBlock (roll-IBlock z)) is (same_block y.items y.tail))
      (λ x y is. subst (λ z. SameIf (roll-IIf z)) is (same_if y.test y.then y.rest))
      (λ x y is. subst (λ z. SameStmt (roll-IStmt z)) is (same_statement y.notes y.node))

  -- ---- bodies

  pub body-kept : (o : Option IBody) → option_map_or is_body (option_map (rename_body name) o) true ≡ option_map_or is_body o true
  body-kept None = refl
  body-kept (Some body) = ap (λ (shape : BlockShape). shape.body) (same-block body.block).0

  pub body-mentioned : (o : Option IBody) → mention.body_mentions (option_map (rename_body name) o) ≡ map renaming (mention.body_mentions o)
  body-mentioned None = refl
  body-mentioned (Some body) = (same-block body.block).1
