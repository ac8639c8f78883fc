-- Tidying keeps the forms of blocks and bodies, and what a tidied body mentions passes a test that all passes which the body
-- mentions, and the constructors that come in.
use Rattle.std.specs.Prelude.{◌≡◌, ℕ, Bool, true, ◌&&◌, ◌||◌, not, nat_le, List, [], ◌∷◌, ◌++◌, map, drop, length, Option, None, Some, option_map}
use Rattle.std.proofs.Common.{suc, refl, sym, ap, subst, ◌∙◌}
use Rattle.std.specs.List.{list_all, flat_map}
use Rattle.std.specs.Option.{option_map_or}
use Rattle.mol_base.specs.declared.ident.Id.{Id}
use Rattle.mol_values_types.specs.Blocks.{block_of, branch_of}
use Rattle.mol_table_rules.specs.ExpressionForms.{is_value, shape_of, is_initial, is_expression, is_statement, are_arguments}
use Rattle.mol_table_rules.specs.Mentions as mention
use Rattle.mol_table_rules.specs.Mentions.{Mention, a_constructor, named, joined, type_mentions, expr_mentions, exprs_mentions, maybe_mentions, arguments_mentions, let_mentions, start_mentions}
use Rattle.mol_table_rules.specs.StatementForms as forms
use Rattle.mol_table_rules.specs.StatementForms.{StatementShape, BlockShape, ordinary, super_first, is_maybe, is_declarator, is_let, is_start, are_formed, has_super, block_shape, is_body}
use Rattle.mol_table_rules.specs.Tidy as tidy
use Rattle.mol_table_rules.specs.Tidy.{arguments_for, tidy_expr, tidy_argument, tidy_declarator, tidy_let, tidy_start, tidy_else, tidy_node, tidy_block, tidy_if, tidy_statement, tidy_body}
use Rattle.mol_values_types.specs.TokenForms.{are_comments}
use Rattle.mol_values_types.specs.declared.iblock.IBlock.{IBlock, fold-IBlock}
use Rattle.mol_values_types.specs.declared.iblock.IBody.{IBody}
use Rattle.mol_values_types.specs.declared.iblock.IDeclarator.{IDeclarator}
use Rattle.mol_values_types.specs.declared.iblock.IElse.{IElse, fold-IElse}
use Rattle.mol_values_types.specs.declared.iblock.IElse.TheFolds.{fold-roll-IElse, fold-roll-IStmtNode, fold-roll-IBlock, fold-roll-IIf, fold-roll-IStmt, map-IElse, map-IStmtNode, ind-IBlock}
use Rattle.mol_values_types.specs.declared.iblock.IElse.TheOpen.{IElse-F, IStmtNode-F}
use Rattle.mol_values_types.specs.declared.iblock.IElse.TheVariants as elses
use Rattle.mol_values_types.specs.declared.iblock.IElse.TheViews.{roll-IElse, roll-IStmtNode, roll-IBlock, roll-IIf, roll-IStmt}
use Rattle.mol_values_types.specs.declared.iblock.IForStart.{IForStart}
use Rattle.mol_values_types.specs.declared.iblock.IForStart.TheVariants as starts
use Rattle.mol_values_types.specs.declared.iblock.IIf.{IIf, fold-IIf}
use Rattle.mol_values_types.specs.declared.iblock.ILet.{ILet}
use Rattle.mol_values_types.specs.declared.iblock.IStmt.{IStmt, fold-IStmt}
use Rattle.mol_values_types.specs.declared.iblock.IStmtNode.{IStmtNode, fold-IStmtNode}
use Rattle.mol_values_types.specs.declared.iblock.IStmtNode.TheVariants as nodes
use Rattle.mol_values_types.specs.declared.iexpr.Argument.{Argument}
use Rattle.mol_values_types.specs.declared.iexpr.IExpr.{IExpr}
use Rattle.mol_values_types.specs.declared.param.Param.{Param}
use Rattle.mol_table_rules.proofs.Kept.{and-imp, all-imp, value-kept, are_fillers, Kept, kept, arguments-kept, mentions-kept}

-- a statement, and a block, that may stand wherever the other may
pub record KeepsStatement (old new : StatementShape) : Type 0 where
  pub is_super : new.is_super ≡ old.is_super
  pub formed : old.formed ≡ true → new.formed ≡ true

pub record KeepsBlock (old new : BlockShape) : Type 0 where
  pub formed : old.formed ≡ true → new.formed ≡ true
  pub body : old.body ≡ true → new.body ≡ true

ordinary-kept : (a b : Bool) → (a ≡ true → b ≡ true) → KeepsStatement (ordinary a) (ordinary b)
ordinary-kept a b f = record { is_super = refl; formed = f }

super-kept : (a b : Bool) → (a ≡ true → b ≡ true) → KeepsStatement (super_first a) (super_first b)
super-kept a b f = record { is_super = refl; formed = f }

-- what the folds give of each part
abbrev pub else_form : IElse → Bool
else_form = fold-IElse Bool StatementShape BlockShape Bool StatementShape forms.else_step forms.node_step forms.block_step forms.if_step forms.statement_step

abbrev pub node_shape : IStmtNode → StatementShape
node_shape = fold-IStmtNode Bool StatementShape BlockShape Bool StatementShape forms.else_step forms.node_step forms.block_step forms.if_step forms.statement_step

abbrev pub if_form : IIf → Bool
if_form = fold-IIf Bool StatementShape BlockShape Bool StatementShape forms.else_step forms.node_step forms.block_step forms.if_step forms.statement_step

abbrev pub statement_shape : IStmt → StatementShape
statement_shape = fold-IStmt Bool StatementShape BlockShape Bool StatementShape forms.else_step forms.node_step forms.block_step forms.if_step forms.statement_step

abbrev pub Mentioned : Type 0
Mentioned = List Mention

abbrev pub else_mentions : IElse → Mentioned
else_mentions = fold-IElse Mentioned Mentioned Mentioned Mentioned Mentioned mention.else_step mention.node_step mention.block_step mention.if_step mention.statement_step

abbrev pub node_mentions : IStmtNode → Mentioned
node_mentions = fold-IStmtNode Mentioned Mentioned Mentioned Mentioned Mentioned mention.else_step mention.node_step mention.block_step mention.if_step mention.statement_step

abbrev pub block_mentions : IBlock → Mentioned
block_mentions = fold-IBlock Mentioned Mentioned Mentioned Mentioned Mentioned mention.else_step mention.node_step mention.block_step mention.if_step mention.statement_step

abbrev pub if_mentions : IIf → Mentioned
if_mentions = fold-IIf Mentioned Mentioned Mentioned Mentioned Mentioned mention.else_step mention.node_step mention.block_step mention.if_step mention.statement_step

abbrev pub statement_mentions : IStmt → Mentioned
statement_mentions = fold-IStmt Mentioned Mentioned Mentioned Mentioned Mentioned mention.else_step mention.node_step mention.block_step mention.if_step mention.statement_step

module _ (present : Id → List Param) (bare : Id → Option Id) (passes : Mention → Bool)
    (few : (method : Id) → nat_le (length (present method)) 255 ≡ true)
    (fillers : (method : Id) → are_fillers (present method) ≡ true)
    (constructors : (class constructor : Id) → bare class ≡ Some constructor → passes (record { role = a_constructor; id = constructor }) ≡ true) where
  abbrev all : List Mention → Bool
  all = list_all passes

  abbrev texpr : IExpr → IExpr
  texpr = tidy_expr present bare

  abbrev tdeclarator : IDeclarator → IDeclarator
  tdeclarator = tidy_declarator present bare

  abbrev tlet : ILet → ILet
  tlet = tidy_let present bare

  abbrev tstart : IForStart → IForStart
  tstart = tidy_start present bare

  abbrev telse : IElse → IElse
  telse = tidy_else present bare

  abbrev tnode : IStmtNode → IStmtNode
  tnode = tidy_node present bare

  abbrev tblock : IBlock → IBlock
  tblock = tidy_block present bare

  abbrev tif : IIf → IIf
  tif = tidy_if present bare

  abbrev tstatement : IStmt → IStmt
  tstatement = tidy_statement present bare

  abbrev targuments : Id → List Argument → List Argument
  targuments method args = arguments_for (present method) (map (tidy_argument present bare) args)

  -- ---- expressions in statements

  laws : (e : IExpr) → Kept present bare passes few fillers constructors e
  laws = kept present bare passes few fillers constructors

  pub initial : (e : IExpr) → is_initial e ≡ true → is_initial (texpr e) ≡ true
  initial e = (laws e).0.formed

  expression : (e : IExpr) → is_expression e ≡ true → is_expression (texpr e) ≡ true
  expression e = value-kept (shape_of e) (shape_of (texpr e)) (laws e).0

  stated : (e : IExpr) → is_statement e ≡ true → is_statement (texpr e) ≡ true
  stated e = and-imp _ _ _ _ (expression e) (λ h. (laws e).0.statement ∙ h)

  mentioned : (e : IExpr) → all (expr_mentions e) ≡ true → all (expr_mentions (texpr e)) ≡ true
  mentioned e = (laws e).1

  maybe-expression : (o : Option IExpr) → is_maybe o ≡ true → is_maybe (option_map texpr o) ≡ true
  maybe-expression None h = refl
  maybe-expression (Some e) h = expression e h

  pub maybe-initial : (o : Option IExpr) → option_map_or is_initial o true ≡ true → option_map_or is_initial (option_map texpr o) true ≡ true
  maybe-initial None h = refl
  maybe-initial (Some e) h = initial e h

  pub maybe-mentioned : (o : Option IExpr) → all (maybe_mentions o) ≡ true → all (maybe_mentions (option_map texpr o)) ≡ true
  maybe-mentioned None h = refl
  maybe-mentioned (Some e) h = mentioned e h

  all-stated : (es : List IExpr) → list_all is_statement es ≡ true → list_all is_statement (map texpr es) ≡ true
  all-stated [] h = refl
  all-stated (e ∷ es) h = and-imp _ _ _ _ (stated e) (all-stated es) h

  all-mentioned : (es : List IExpr) → all (exprs_mentions es) ≡ true → all (exprs_mentions (map texpr es)) ≡ true
  all-mentioned [] h = refl
  all-mentioned (e ∷ es) h = all-imp passes (expr_mentions e) (exprs_mentions es) (expr_mentions (texpr e)) (exprs_mentions (map texpr es)) (mentioned e) (all-mentioned es) h

  mapped : {X Y : Type 0} (f : X → X) (g : X → Y) (xs : List X) → length (map g (map f xs)) ≡ length (map g xs)
  mapped f g [] = refl
  mapped f g (x ∷ xs) = ap suc (mapped f g xs)

  counted : {X : Type 0} (f : X → X) (xs : List X) → length (map f xs) ≡ length xs
  counted f [] = refl
  counted f (x ∷ xs) = ap suc (counted f xs)

  shapes-kept : (es : List IExpr) → list_all is_value (map shape_of es) ≡ true → list_all is_value (map shape_of (map texpr es)) ≡ true
  shapes-kept [] h = refl
  shapes-kept (e ∷ es) h = and-imp _ _ _ _ (expression e) (shapes-kept es) h

  outside-arguments : (es : List IExpr) → are_arguments (map shape_of es) ≡ true → are_arguments (map shape_of (map texpr es)) ≡ true
  outside-arguments es h = and-imp _ _ _ _ (shapes-kept es) (λ h. ap (λ n. nat_le n 255) (mapped texpr shape_of es) ∙ h) h

  declarator : (d : IDeclarator) → is_declarator d ≡ true → is_declarator (tdeclarator d) ≡ true
  declarator d = and-imp _ _ _ _ (λ h. h) (maybe-initial d.init)

  declarators : (ds : List IDeclarator) → list_all is_declarator ds ≡ true → list_all is_declarator (map tdeclarator ds) ≡ true
  declarators [] h = refl
  declarators (d ∷ ds) h = and-imp _ _ _ _ (declarator d) (declarators ds) h

  abbrev names_mentions : List IDeclarator → List Mention
  names_mentions ds = flat_map (λ (declarator : IDeclarator). maybe_mentions declarator.init) ds

  names-mentioned : (ds : List IDeclarator) → all (names_mentions ds) ≡ true → all (names_mentions (map tdeclarator ds)) ≡ true
  names-mentioned [] h = refl
  names-mentioned (d ∷ ds) h =
      all-imp passes (maybe_mentions d.init) (names_mentions ds) (maybe_mentions (option_map texpr d.init)) (names_mentions (map tdeclarator ds)) (maybe-mentioned d.init) (names-mentioned ds) h

  let-kept : (l : ILet) → is_let l ≡ true → is_let (tlet l) ≡ true
  let-kept l = and-imp _ _ _ _ (and-imp _ _ _ _ (λ h. h) (λ h. ap (λ n. nat_le 1 n) (counted tdeclarator l.names) ∙ h)) (declarators l.names)

  let-mentioned : (l : ILet) → all (let_mentions l) ≡ true → all (let_mentions (tlet l)) ≡ true
  let-mentioned l = all-imp passes (type_mentions l.ty) (names_mentions l.names) (type_mentions l.ty) (names_mentions (map tdeclarator l.names)) (λ h. h) (names-mentioned l.names)

  start-kept : (s : IForStart) → is_start s ≡ true → is_start (tstart s) ≡ true
  start-kept starts.None h = refl
  start-kept (starts.Let l) h = let-kept l h
  start-kept (starts.Do es) h = and-imp _ _ _ _ (λ h. ap (λ n. nat_le 1 n) (counted texpr es) ∙ h) (all-stated es) h

  start-mentioned : (s : IForStart) → all (start_mentions s) ≡ true → all (start_mentions (tstart s)) ≡ true
  start-mentioned starts.None h = refl
  start-mentioned (starts.Let l) h = let-mentioned l h
  start-mentioned (starts.Do es) h = all-mentioned es h

  super-arguments : (method : Id) (args : List Argument) → are_arguments (map (λ (argument : Argument). shape_of argument.value) args) ≡ true
      → are_arguments (map (λ (argument : Argument). shape_of argument.value) (targuments method args)) ≡ true
  super-arguments = arguments-kept present bare passes few fillers constructors

  super-mentioned : (method : Id) (args : List Argument) → all (arguments_mentions args) ≡ true → all (arguments_mentions (targuments method args)) ≡ true
  super-mentioned = mentions-kept present bare passes few fillers constructors

  -- ---- what is proved of each part: both laws

  abbrev KeptElse : IElse → Type 0
  KeptElse e = (else_form e ≡ true → else_form (telse e) ≡ true) × (all (else_mentions e) ≡ true → all (else_mentions (telse e)) ≡ true)

  abbrev KeptNode : IStmtNode → Type 0
  KeptNode n = KeepsStatement (node_shape n) (node_shape (tnode n)) × (all (node_mentions n) ≡ true → all (node_mentions (tnode n)) ≡ true)

  abbrev pub KeptBlock : IBlock → Type 0
  KeptBlock b = KeepsBlock (block_shape b) (block_shape (tblock b)) × (all (block_mentions b) ≡ true → all (block_mentions (tblock b)) ≡ true)

  abbrev KeptIf : IIf → Type 0
  KeptIf b = (if_form b ≡ true → if_form (tif b) ≡ true) × (all (if_mentions b) ≡ true → all (if_mentions (tif b)) ≡ true)

  abbrev KeptStmt : IStmt → Type 0
  KeptStmt s = KeepsStatement (statement_shape s) (statement_shape (tstatement s)) × (all (statement_mentions s) ≡ true → all (statement_mentions (tstatement s)) ≡ true)

  abbrev WithElse : Type 0
  WithElse = (e : IElse) × KeptElse e

  abbrev WithNode : Type 0
  WithNode = (n : IStmtNode) × KeptNode n

  abbrev WithBlock : Type 0
  WithBlock = (b : IBlock) × KeptBlock b

  abbrev WithIf : Type 0
  WithIf = (b : IIf) × KeptIf b

  abbrev WithStmt : Type 0
  WithStmt = (s : IStmt) × KeptStmt s

  -- ---- a statement by its layer

  from : (x z : IStmtNode-F IElse IStmtNode IBlock IIf IStmt) → tnode (roll-IStmtNode x) ≡ roll-IStmtNode z
      → KeepsStatement (forms.node_step (map-IStmtNode _ _ _ _ _ _ _ _ _ _ else_form node_shape block_shape if_form statement_shape x)) (forms.node_step (map-IStmtNode _ _ _ _ _ _ _ _ _ _ else_form node_shape block_shape if_form statement_shape z))
      → (all (mention.node_step (map-IStmtNode _ _ _ _ _ _ _ _ _ _ else_mentions node_mentions block_mentions if_mentions statement_mentions x)) ≡ true
      → all (mention.node_step (map-IStmtNode _ _ _ _ _ _ _ _ _ _ else_mentions node_mentions block_mentions if_mentions statement_mentions z)) ≡ true)
      → KeptNode (roll-IStmtNode x)
  from x z is keeps refers =
      let shape : (y : IStmtNode-F IElse IStmtNode IBlock IIf IStmt) → node_shape (roll-IStmtNode y) ≡ forms.node_step (map-IStmtNode _ _ _ _ _ _ _ _ _ _ else_form node_shape block_shape if_form statement_shape y) =
      fold-roll-IStmtNode Bool StatementShape BlockShape Bool StatementShape forms.else_step forms.node_step forms.block_step forms.if_step forms.statement_step in
      let names : (y : IStmtNode-F IElse IStmtNode IBlock IIf IStmt) → node_mentions (roll-IStmtNode y) ≡ mention.node_step (map-IStmtNode _ _ _ _ _ _ _ _ _ _ else_mentions node_mentions block_mentions if_mentions statement_mentions y) =
      fold-roll-IStmtNode Mentioned Mentioned Mentioned Mentioned Mentioned mention.else_step mention.node_step mention.block_step mention.if_step mention.statement_step in (
        subst (λ s. KeepsStatement s (node_shape (tnode (roll-IStmtNode x)))) (sym (shape x))
            (subst (λ s. KeepsStatement (forms.node_step (map-IStmtNode _ _ _ _ _ _ _ _ _ _ else_form node_shape block_shape if_form statement_shape x)) s) (sym (ap node_shape is ∙ shape z)) keeps),
        λ h. ap all (ap node_mentions is ∙ names z) ∙ refers (sym (ap all (names x)) ∙ h),
      )

  node-is : (x : IStmtNode-F IElse IStmtNode IBlock IIf IStmt) → tnode (roll-IStmtNode x) ≡ tidy.node_step present bare (map-IStmtNode _ _ _ _ _ _ _ _ _ _ telse tnode tblock tif tstatement x)
  node-is x = fold-roll-IStmtNode IElse IStmtNode IBlock IIf IStmt (tidy.else_step present bare) (tidy.node_step present bare) (tidy.block_step present bare) (tidy.if_step present bare) (tidy.statement_step present bare) x

  kept_node : (y : IStmtNode-F WithElse WithNode WithBlock WithIf WithStmt) → KeptNode (roll-IStmtNode (map-IStmtNode _ _ _ _ _ _ _ _ _ _ (λ p. p.0) (λ p. p.0) (λ p. p.0) (λ p. p.0) (λ p. p.0) y))
  kept_node (IStmtNode-F.IStmtNode::Block block) =
      from (IStmtNode-F.IStmtNode::Block block.0) (IStmtNode-F.IStmtNode::Block (tblock block.0)) (node-is (IStmtNode-F.IStmtNode::Block block.0) ∙ sym (nodes.rolls-Block (tblock block.0)))
      (ordinary-kept _ _ block.1.0.formed)
      block.1.1
  kept_node (IStmtNode-F.Let l) =
      from (IStmtNode-F.Let l) (IStmtNode-F.Let (tlet l)) (node-is (IStmtNode-F.Let l) ∙ sym (nodes.rolls-Let (tlet l)))
      (ordinary-kept _ _ (let-kept l))
      (let-mentioned l)
  kept_node (IStmtNode-F.Do e) =
      from (IStmtNode-F.Do e) (IStmtNode-F.Do (texpr e)) (node-is (IStmtNode-F.Do e) ∙ sym (nodes.rolls-Do (texpr e)))
      (ordinary-kept _ _ (stated e))
      (mentioned e)
  kept_node (IStmtNode-F.IStmtNode::If b) =
      from (IStmtNode-F.IStmtNode::If b.0) (IStmtNode-F.IStmtNode::If (tif b.0)) (node-is (IStmtNode-F.IStmtNode::If b.0) ∙ sym (nodes.rolls-If (tif b.0)))
      (ordinary-kept _ _ b.1.0)
      b.1.1
  kept_node (IStmtNode-F.While test block) =
      from (IStmtNode-F.While test block.0) (IStmtNode-F.While (texpr test) (tblock block.0)) (node-is (IStmtNode-F.While test block.0) ∙ sym (nodes.rolls-While (texpr test) (tblock block.0)))
      (ordinary-kept _ _ (and-imp _ _ _ _ (expression test) block.1.0.formed))
      (all-imp passes (expr_mentions test) (block_mentions block.0) (expr_mentions (texpr test)) (block_mentions (tblock block.0)) (mentioned test) block.1.1)
  kept_node (IStmtNode-F.For start test steps block) =
      from (IStmtNode-F.For start test steps block.0) (IStmtNode-F.For (tstart start) (option_map texpr test) (map texpr steps) (tblock block.0)) (node-is (IStmtNode-F.For start test steps block.0) ∙ sym (nodes.rolls-For (tstart start) (option_map texpr test) (map texpr steps) (tblock block.0)))
      (ordinary-kept _ _ (and-imp _ _ _ _ (and-imp _ _ _ _ (and-imp _ _ _ _ (start-kept start) (maybe-expression test)) (all-stated steps)) block.1.0.formed))
      (all-imp passes (start_mentions start ++ maybe_mentions test ++ exprs_mentions steps) (block_mentions block.0) (start_mentions (tstart start) ++ maybe_mentions (option_map texpr test) ++ exprs_mentions (map texpr steps)) (block_mentions (tblock block.0)) (all-imp passes (start_mentions start ++ maybe_mentions test) (exprs_mentions steps) (start_mentions (tstart start) ++ maybe_mentions (option_map texpr test)) (exprs_mentions (map texpr steps)) (all-imp passes (start_mentions start) (maybe_mentions test) (start_mentions (tstart start)) (maybe_mentions (option_map texpr test)) (start-mentioned start) (maybe-mentioned test)) (all-mentioned steps)) block.1.1)
  kept_node (IStmtNode-F.Each is_final ty name e block) =
      from (IStmtNode-F.Each is_final ty name e block.0) (IStmtNode-F.Each is_final ty name (texpr e) (tblock block.0)) (node-is (IStmtNode-F.Each is_final ty name e block.0) ∙ sym (nodes.rolls-Each is_final ty name (texpr e) (tblock block.0)))
      (ordinary-kept _ _ (and-imp _ _ _ _ (and-imp _ _ _ _ (λ h. h) (expression e)) block.1.0.formed))
      (all-imp passes (type_mentions ty ++ expr_mentions e) (block_mentions block.0) (type_mentions ty ++ expr_mentions (texpr e)) (block_mentions (tblock block.0)) (all-imp passes (type_mentions ty) (expr_mentions e) (type_mentions ty) (expr_mentions (texpr e)) (λ h. h) (mentioned e)) block.1.1)
  kept_node (IStmtNode-F.Return e) =
      from (IStmtNode-F.Return e) (IStmtNode-F.Return (option_map texpr e)) (node-is (IStmtNode-F.Return e) ∙ sym (nodes.rolls-Return (option_map texpr e)))
      (ordinary-kept _ _ (maybe-expression e))
      (maybe-mentioned e)
  kept_node (IStmtNode-F.Throw e) =
      from (IStmtNode-F.Throw e) (IStmtNode-F.Throw (texpr e)) (node-is (IStmtNode-F.Throw e) ∙ sym (nodes.rolls-Throw (texpr e)))
      (ordinary-kept _ _ (expression e))
      (mentioned e)
  kept_node IStmtNode-F.Break =
      from IStmtNode-F.Break IStmtNode-F.Break (node-is IStmtNode-F.Break ∙ sym nodes.rolls-Break)
      (ordinary-kept _ _ (λ h. h))
      (λ h. h)
  kept_node IStmtNode-F.Continue =
      from IStmtNode-F.Continue IStmtNode-F.Continue (node-is IStmtNode-F.Continue ∙ sym nodes.rolls-Continue)
      (ordinary-kept _ _ (λ h. h))
      (λ h. h)
  kept_node IStmtNode-F.Empty =
      from IStmtNode-F.Empty IStmtNode-F.Empty (node-is IStmtNode-F.Empty ∙ sym nodes.rolls-Empty)
      (ordinary-kept _ _ (λ h. h))
      (λ h. h)
  kept_node (IStmtNode-F.Super constructor args) =
      from (IStmtNode-F.Super constructor args) (IStmtNode-F.Super constructor (targuments constructor args)) (node-is (IStmtNode-F.Super constructor args) ∙ sym (nodes.rolls-Super constructor (targuments constructor args)))
      (super-kept _ _ (super-arguments constructor args))
      (all-imp passes (named a_constructor constructor) (arguments_mentions args) (named a_constructor constructor) (arguments_mentions (targuments constructor args)) (λ h. h) (super-mentioned constructor args))
  kept_node (IStmtNode-F.SuperDefault class) =
      from (IStmtNode-F.SuperDefault class) (IStmtNode-F.SuperDefault class) (node-is (IStmtNode-F.SuperDefault class) ∙ sym (nodes.rolls-SuperDefault class))
      (super-kept _ _ (λ h. h))
      (λ h. h)
  kept_node (IStmtNode-F.SuperOutside args) =
      from (IStmtNode-F.SuperOutside args) (IStmtNode-F.SuperOutside (map texpr args)) (node-is (IStmtNode-F.SuperOutside args) ∙ sym (nodes.rolls-SuperOutside (map texpr args)))
      (super-kept _ _ (outside-arguments args))
      (all-mentioned args)

  -- ---- what follows `else`

  from-else : (x z : IElse-F IElse IStmtNode IBlock IIf IStmt) → telse (roll-IElse x) ≡ roll-IElse z
      → (forms.else_step (map-IElse _ _ _ _ _ _ _ _ _ _ else_form node_shape block_shape if_form statement_shape x) ≡ true → forms.else_step (map-IElse _ _ _ _ _ _ _ _ _ _ else_form node_shape block_shape if_form statement_shape z) ≡ true)
      → (all (mention.else_step (map-IElse _ _ _ _ _ _ _ _ _ _ else_mentions node_mentions block_mentions if_mentions statement_mentions x)) ≡ true
      → all (mention.else_step (map-IElse _ _ _ _ _ _ _ _ _ _ else_mentions node_mentions block_mentions if_mentions statement_mentions z)) ≡ true)
      → KeptElse (roll-IElse x)
  from-else x z is keeps refers = (
    λ h. ap else_form is ∙ fold-roll-IElse Bool StatementShape BlockShape Bool StatementShape forms.else_step forms.node_step forms.block_step forms.if_step forms.statement_step z ∙ keeps (sym (fold-roll-IElse Bool StatementShape BlockShape Bool StatementShape forms.else_step forms.node_step forms.block_step forms.if_step forms.statement_step x) ∙ h),
    λ h. ap all (ap else_mentions is ∙ fold-roll-IElse Mentioned Mentioned Mentioned Mentioned Mentioned mention.else_step mention.node_step mention.block_step mention.if_step mention.statement_step z) ∙ refers (sym (ap all (fold-roll-IElse Mentioned Mentioned Mentioned Mentioned Mentioned mention.else_step mention.node_step mention.block_step mention.if_step mention.statement_step x)) ∙ h),
  )

  else-is : (x : IElse-F IElse IStmtNode IBlock IIf IStmt) → telse (roll-IElse x) ≡ tidy.else_step present bare (map-IElse _ _ _ _ _ _ _ _ _ _ telse tnode tblock tif tstatement x)
  else-is x = fold-roll-IElse IElse IStmtNode IBlock IIf IStmt (tidy.else_step present bare) (tidy.node_step present bare) (tidy.block_step present bare) (tidy.if_step present bare) (tidy.statement_step present bare) x

  kept_else : (y : IElse-F WithElse WithNode WithBlock WithIf WithStmt) → KeptElse (roll-IElse (map-IElse _ _ _ _ _ _ _ _ _ _ (λ p. p.0) (λ p. p.0) (λ p. p.0) (λ p. p.0) (λ p. p.0) y))
  kept_else IElse-F.None = from-else IElse-F.None IElse-F.None (else-is IElse-F.None ∙ sym elses.rolls-None) (λ h. h) (λ h. h)
  kept_else (IElse-F.IElse::Block b) =
      from-else (IElse-F.IElse::Block b.0) (IElse-F.IElse::Block (tblock b.0)) (else-is (IElse-F.IElse::Block b.0) ∙ sym (elses.rolls-Block (tblock b.0))) b.1.0.formed b.1.1
  kept_else (IElse-F.IElse::If b) =
      from-else (IElse-F.IElse::If b.0) (IElse-F.IElse::If (tif b.0)) (else-is (IElse-F.IElse::If b.0) ∙ sym (elses.rolls-If (tif b.0))) b.1.0 b.1.1

  -- ---- blocks

  abbrev statements : List WithStmt → List IStmt
  statements items = map (λ p. p.0) items

  items-formed : (items : List WithStmt) → are_formed (map statement_shape (statements items)) ≡ true → are_formed (map statement_shape (map tstatement (statements items))) ≡ true
  items-formed [] h = refl
  items-formed (s ∷ items) h = and-imp _ _ _ _ s.1.0.formed (items-formed items) h

  items-super : (items : List WithStmt) → has_super (map statement_shape (map tstatement (statements items))) ≡ has_super (map statement_shape (statements items))
  items-super [] = refl
  items-super (s ∷ items) = λ i. s.1.0.is_super i || items-super items i

  items-later : (items : List WithStmt) → has_super (drop 1 (map statement_shape (map tstatement (statements items)))) ≡ has_super (drop 1 (map statement_shape (statements items)))
  items-later [] = refl
  items-later (s ∷ items) = items-super items

  items-mentioned : (items : List WithStmt) → all (joined (map statement_mentions (statements items))) ≡ true → all (joined (map statement_mentions (map tstatement (statements items)))) ≡ true
  items-mentioned [] h = refl
  items-mentioned (s ∷ items) h =
      all-imp passes (statement_mentions s.0) (joined (map statement_mentions (statements items))) (statement_mentions (tstatement s.0)) (joined (map statement_mentions (map tstatement (statements items))))
      s.1.1 (items-mentioned items) h

  shape-block : (items : List IStmt) (tail : List (List ℕ)) → block_shape (block_of items tail) ≡ forms.block_step (record { items = map statement_shape items; tail = tail })
  shape-block items tail = fold-roll-IBlock Bool StatementShape BlockShape Bool StatementShape forms.else_step forms.node_step forms.block_step forms.if_step forms.statement_step (record { items = items; tail = tail })

  mentions-block : (items : List IStmt) (tail : List (List ℕ)) → block_mentions (block_of items tail) ≡ joined (map statement_mentions items)
  mentions-block items tail = fold-roll-IBlock Mentioned Mentioned Mentioned Mentioned Mentioned mention.else_step mention.node_step mention.block_step mention.if_step mention.statement_step (record { items = items; tail = tail })

  tidy-block : (items : List IStmt) (tail : List (List ℕ)) → tblock (block_of items tail) ≡ block_of (map tstatement items) tail
  tidy-block items tail = fold-roll-IBlock IElse IStmtNode IBlock IIf IStmt (tidy.else_step present bare) (tidy.node_step present bare) (tidy.block_step present bare) (tidy.if_step present bare) (tidy.statement_step present bare) (record { items = items; tail = tail })

  kept_block : (items : List WithStmt) (tail : List (List ℕ)) → KeptBlock (block_of (statements items) tail)
  kept_block items tail =
      let old = statements items in
      let new = map tstatement (statements items) in
      let is = ap block_shape (tidy-block old tail) ∙ shape-block new tail in (
        record {
          formed = λ h. ap (λ (b : BlockShape). b.formed) is
              ∙ and-imp _ _ _ _ (and-imp _ _ _ _ (items-formed items) (λ h. h)) (λ h. ap not (items-super items) ∙ h) (sym (ap (λ (b : BlockShape). b.formed) (shape-block old tail)) ∙ h);
          body = λ h. ap (λ (b : BlockShape). b.body) is
              ∙ and-imp _ _ _ _ (and-imp _ _ _ _ (items-formed items) (λ h. h)) (λ h. ap not (items-later items) ∙ h) (sym (ap (λ (b : BlockShape). b.body) (shape-block old tail)) ∙ h);
        },
        λ h. ap all (ap block_mentions (tidy-block old tail) ∙ mentions-block new tail) ∙ items-mentioned items (sym (ap all (mentions-block old tail)) ∙ h),
      )

  -- ---- `if`

  form-if : (test : IExpr) (then : IBlock) (rest : IElse) → if_form (branch_of test then rest) ≡ (is_expression test && (block_shape then).formed && else_form rest)
  form-if test then rest = fold-roll-IIf Bool StatementShape BlockShape Bool StatementShape forms.else_step forms.node_step forms.block_step forms.if_step forms.statement_step (record { test = test; then = then; rest = rest })

  mentions-if : (test : IExpr) (then : IBlock) (rest : IElse) → if_mentions (branch_of test then rest) ≡ (expr_mentions test ++ block_mentions then ++ else_mentions rest)
  mentions-if test then rest = fold-roll-IIf Mentioned Mentioned Mentioned Mentioned Mentioned mention.else_step mention.node_step mention.block_step mention.if_step mention.statement_step (record { test = test; then = then; rest = rest })

  tidy-branch : (test : IExpr) (then : IBlock) (rest : IElse) → tif (branch_of test then rest) ≡ branch_of (texpr test) (tblock then) (telse rest)
  tidy-branch test then rest = fold-roll-IIf IElse IStmtNode IBlock IIf IStmt (tidy.else_step present bare) (tidy.node_step present bare) (tidy.block_step present bare) (tidy.if_step present bare) (tidy.statement_step present bare) (record { test = test; then = then; rest = rest })

  kept_if : (test : IExpr) (then : WithBlock) (rest : WithElse) → KeptIf (branch_of test then.0 rest.0)
  kept_if test then rest = (
    λ h. ap if_form (tidy-branch test then.0 rest.0) ∙ form-if (texpr test) (tblock then.0) (telse rest.0)
        ∙ and-imp _ _ _ _ (and-imp _ _ _ _ (expression test) then.1.0.formed) rest.1.0 (sym (form-if test then.0 rest.0) ∙ h),
    λ h. ap all (ap if_mentions (tidy-branch test then.0 rest.0) ∙ mentions-if (texpr test) (tblock then.0) (telse rest.0))
        ∙ all-imp passes (expr_mentions test ++ block_mentions then.0) (else_mentions rest.0) (expr_mentions (texpr test) ++ block_mentions (tblock then.0)) (else_mentions (telse rest.0))
        (all-imp passes (expr_mentions test) (block_mentions then.0) (expr_mentions (texpr test)) (block_mentions (tblock then.0)) (mentioned test) then.1.1) rest.1.1
        (sym (ap all (mentions-if test then.0 rest.0)) ∙ h),
  )

  -- ---- statements

  abbrev statement_of : List (List ℕ) → IStmtNode → IStmt
  statement_of notes node = roll-IStmt (record { notes = notes; node = node })

  shape-statement : (notes : List (List ℕ)) (node : IStmtNode) → statement_shape (statement_of notes node) ≡ record { formed = are_comments notes && (node_shape node).formed; is_super = (node_shape node).is_super }
  shape-statement notes node = fold-roll-IStmt Bool StatementShape BlockShape Bool StatementShape forms.else_step forms.node_step forms.block_step forms.if_step forms.statement_step (record { notes = notes; node = node })

  mentions-statement : (notes : List (List ℕ)) (node : IStmtNode) → statement_mentions (statement_of notes node) ≡ node_mentions node
  mentions-statement notes node = fold-roll-IStmt Mentioned Mentioned Mentioned Mentioned Mentioned mention.else_step mention.node_step mention.block_step mention.if_step mention.statement_step (record { notes = notes; node = node })

  tidy-stated : (notes : List (List ℕ)) (node : IStmtNode) → tstatement (statement_of notes node) ≡ statement_of notes (tnode node)
  tidy-stated notes node = fold-roll-IStmt IElse IStmtNode IBlock IIf IStmt (tidy.else_step present bare) (tidy.node_step present bare) (tidy.block_step present bare) (tidy.if_step present bare) (tidy.statement_step present bare) (record { notes = notes; node = node })

  kept_statement : (notes : List (List ℕ)) (node : WithNode) → KeptStmt (statement_of notes node.0)
  kept_statement notes node =
      let is = ap statement_shape (tidy-stated notes node.0) ∙ shape-statement notes (tnode node.0) in
      let was = shape-statement notes node.0 in (
        record {
          is_super = ap (λ (s : StatementShape). s.is_super) is ∙ node.1.0.is_super ∙ sym (ap (λ (s : StatementShape). s.is_super) was);
          formed = λ h. ap (λ (s : StatementShape). s.formed) is ∙ and-imp _ _ _ _ (λ h. h) node.1.0.formed (sym (ap (λ (s : StatementShape). s.formed) was) ∙ h);
        },
        λ h. ap all (ap statement_mentions (tidy-stated notes node.0) ∙ mentions-statement notes (tnode node.0)) ∙ node.1.1 (sym (ap all (mentions-statement notes node.0)) ∙ h),
      )

  -- tidying keeps the form of a block, and what it mentions passes the test
  pub block-kept : (b : IBlock) → KeptBlock b
  block-kept = ind-IBlock KeptElse KeptNode KeptBlock KeptIf KeptStmt
      (λ x y is. subst (λ z. KeptElse (roll-IElse z)) is (kept_else y))
      (λ x y is. subst (λ z. KeptNode (roll-IStmtNode z)) is (kept_node y))
      (λ x y is. subst (λ z. KeptBlock (roll-IBlock z)) is (kept_block y.items y.tail))
      (λ x y is. subst (λ z. KeptIf (roll-IIf z)) is (kept_if y.test y.then y.rest))
      (λ x y is. subst (λ z. KeptStmt (roll-IStmt z)) is (kept_statement y.notes y.node))

  -- ---- bodies

  pub body-kept : (body : IBody) → is_body body ≡ true → is_body (tidy_body present bare body) ≡ true
  body-kept body = (block-kept body.block).0.body

  pub body-mentioned : (o : Option IBody) → all (mention.body_mentions o) ≡ true → all (mention.body_mentions (option_map (tidy_body present bare) o)) ≡ true
  body-mentioned None h = refl
  body-mentioned (Some body) h = (block-kept body.block).1 h
