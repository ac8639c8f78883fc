-- The references of a value, wherever it is written, have the targets of its names.
use Rattle.std.proofs.Common.{◌≡◌, ℕ, Bool, List, [], ◌∷◌, ◌++◌, map, flat_map, Option, Some, None, refl, sym, ap, subst, ◌∙◌, codes}
use Rattle.std.specs.Option.{option_map_or}
use Rattle.std.proofs.lemmas.List.{append_assoc}
use Rattle.mol_base.specs.declared.ident.Id.{Id}
use Rattle.jav_tree.specs.declared.stmt.Block.{Block}
use Rattle.jav_tree.specs.declared.stmt.Else.{Else}
use Rattle.jav_tree.specs.declared.stmt.Stmt.{Stmt}
use Rattle.jav_tree.specs.declared.stmt.StmtNode.{StmtNode}
use Rattle.jav_names.specs.Views.{ViewType}
use Rattle.mol_spell_rules.specs.references.References as reference
use Rattle.mol_spell_rules.specs.references.References.{method_target, outside_target, References, type_references, expr_references, exprs_references, maybe_references, arguments_references, let_references, start_references, else_references, node_references, block_references, if_references, statement_references, references}
use Rattle.mol_resolve_rules.specs.Locals.{Locals, no_locals}
use Rattle.mol_resolve_rules.specs.ProgramViews.{seen}
use Rattle.mol_values_types.specs.declared.iblock.IBlock.{IBlock}
use Rattle.mol_values_types.specs.declared.iblock.IDeclarator.{IDeclarator}
use Rattle.mol_values_types.specs.declared.iblock.IElse.{IElse, fold-IElse}
use Rattle.mol_values_types.specs.declared.iblock.IElse.TheFolds.{fold-roll-IElse, fold-roll-IStmtNode, fold-roll-IBlock, fold-roll-IIf, fold-roll-IStmt, map-IElse, map-IStmtNode, ind-IBlock}
use Rattle.mol_values_types.specs.declared.iblock.IElse.TheOpen.{IElse-F, IStmtNode-F, IBlock-F, IIf-F, IStmt-F}
use Rattle.mol_values_types.specs.declared.iblock.IElse.TheViews.{roll-IElse, roll-IStmtNode, roll-IBlock, roll-IIf, roll-IStmt}
use Rattle.mol_values_types.specs.declared.iblock.IForStart.{IForStart}
use Rattle.mol_values_types.specs.declared.iblock.IForStart.TheVariants as starts
use Rattle.mol_values_types.specs.declared.iblock.IIf.{IIf, fold-IIf}
use Rattle.mol_values_types.specs.declared.iblock.ILet.{ILet}
use Rattle.mol_values_types.specs.declared.iblock.IStmt.{IStmt, fold-IStmt}
use Rattle.mol_values_types.specs.declared.iblock.IStmtNode.{IStmtNode, fold-IStmtNode}
use Rattle.mol_values_types.specs.declared.iexpr.Argument.{Argument}
use Rattle.mol_values_types.specs.declared.iexpr.IExpr.{IExpr}
use Rattle.mol_values_types.specs.declared.itype.IType.{IType}
use Rattle.mol_values_types.specs.declared.param.Param.{Param}
use Rattle.mol_values_types.specs.declared.value.Value.{Value}
use Rattle.mol_values_types.specs.declared.value.Value.TheVariants as values
use Rattle.mol_spell_rules.proofs.ExpressionTargets.{expr-targets, expr-type}
use Rattle.mol_spell_rules.proofs.TypeTargets.{targets, both, type-targets}
use Rattle.mol_spell_rules.specs.Laws.{TargetsAlike, TypesAlike}
use Rattle.mol_spell_rules.specs.SpelledExpressions.{each_alone, spelled_expr}
use Rattle.mol_spell_rules.specs.SpelledStatements.{Spells, each, one_expr, exprs, maybe_expr, declared_type, declaring, declarator, spelled_let, spelled_start, else_step, node_step, block_step, if_step, stmt_step, spelled_block}
use Rattle.mol_spell_rules.specs.UnitCells.{first_value_references, references_in}
use Rattle.mol_spell_rules.specs.Writers.{Writer, hides_none}

module _ (writer : Writer) where
  -- whatever the locals before it, a part has these targets
  abbrev Has : {A : Type 0} → Spells A → References → Type 0
  Has part refs = (locals : Locals Id) → targets (part locals).references ≡ refs

  -- ---- expressions and types in statements

  type-has : (locals : Locals Id) (type : IType) → targets (declared_type writer locals type).references ≡ type_references type
  type-has locals type = type-targets writer hides_none locals type

  expr-has : (e : IExpr) → Has (one_expr writer e) (expr_references e)
  expr-has e locals = expr-targets writer locals e None

  all-have : (locals : Locals Id) (es : List IExpr)
      → targets (each_alone writer locals (map (spelled_expr writer locals) es)) ≡ exprs_references es
  all-have locals [] = refl
  all-have locals (e ∷ es) = both ((spelled_expr writer locals e).references None)
      (each_alone writer locals (map (spelled_expr writer locals) es)) (expr_references e) (exprs_references es)
      (expr-targets writer locals e None) (all-have locals es)

  exprs-have : (es : List IExpr) → Has (exprs writer es) (exprs_references es)
  exprs-have es locals = all-have locals es

  values-of : (args : List Argument)
      → exprs_references (map (λ (argument : Argument). argument.value) args) ≡ arguments_references args
  values-of [] = refl
  values-of (a ∷ args) = ap (λ rest. expr_references a.value ++ rest) (values-of args)

  maybe-has : (e : Option IExpr) → Has (maybe_expr writer e) (maybe_references e)
  maybe-has None locals = refl
  maybe-has (Some e) locals = expr-has e locals

  declarators-have : (type : ViewType Id) (ds : List IDeclarator)
      → Has (each (map (declarator writer type) ds)) (flat_map (λ (d : IDeclarator). maybe_references d.init) ds)
  declarators-have type [] locals = refl
  declarators-have type (d ∷ ds) locals = both _ _ (maybe_references d.init) _ (maybe-has d.init (declaring writer type d.name locals))
      (declarators-have type ds (declarator writer type d locals).locals)

  let-has : (declared : ILet) → Has (spelled_let writer declared) (let_references declared)
  let-has declared locals =
      both _ _ (type_references declared.ty) _ (type-has locals declared.ty) (declarators-have (seen declared.ty) declared.names locals)

  start-has : (start : IForStart) → Has (spelled_start writer start) (start_references start)
  start-has starts.None locals = refl
  start-has (starts.Let declared) locals = let-has declared locals
  start-has (starts.Do es) locals = exprs-have es locals

  -- ---- the folds

  abbrev SElse : Type 0
  SElse = Spells Else

  abbrev SNode : Type 0
  SNode = Spells StmtNode

  abbrev SBlock : Type 0
  SBlock = Spells Block

  abbrev SStmt : Type 0
  SStmt = Spells Stmt

  abbrev of_else : IElse → SElse
  of_else = fold-IElse SElse SNode SBlock SNode SStmt (else_step writer) (node_step writer) (block_step writer) (if_step writer)
      (stmt_step writer)

  abbrev of_node : IStmtNode → SNode
  of_node = fold-IStmtNode SElse SNode SBlock SNode SStmt (else_step writer) (node_step writer) (block_step writer) (if_step writer)
      (stmt_step writer)

  abbrev of_block : IBlock → SBlock
  of_block = spelled_block writer

  abbrev of_if : IIf → SNode
  of_if = fold-IIf SElse SNode SBlock SNode SStmt (else_step writer) (node_step writer) (block_step writer) (if_step writer)
      (stmt_step writer)

  abbrev of_stmt : IStmt → SStmt
  of_stmt = fold-IStmt SElse SNode SBlock SNode SStmt (else_step writer) (node_step writer) (block_step writer) (if_step writer)
      (stmt_step writer)

  abbrev ElseHas : IElse → Type 0
  ElseHas e = Has (of_else e) (else_references e)

  abbrev NodeHas : IStmtNode → Type 0
  NodeHas n = Has (of_node n) (node_references n)

  abbrev BlockHas : IBlock → Type 0
  BlockHas b = Has (of_block b) (block_references b)

  abbrev IfHas : IIf → Type 0
  IfHas i = Has (of_if i) (if_references i)

  abbrev StmtHas : IStmt → Type 0
  StmtHas s = Has (of_stmt s) (statement_references s)

  abbrev WithElse : Type 0
  WithElse = (e : IElse) × ElseHas e

  abbrev WithNode : Type 0
  WithNode = (n : IStmtNode) × NodeHas n

  abbrev WithBlock : Type 0
  WithBlock = (b : IBlock) × BlockHas b

  abbrev WithIf : Type 0
  WithIf = (i : IIf) × IfHas i

  abbrev WithStmt : Type 0
  WithStmt = (s : IStmt) × StmtHas s

  -- ---- what follows `else`

  else-from : (x : IElse-F IElse IStmtNode IBlock IIf IStmt)
      → Has (else_step writer (map-IElse _ _ _ _ _ _ _ _ _ _ of_else of_node of_block of_if of_stmt x))
      (reference.else_step
      (map-IElse _ _ _ _ _ _ _ _ _ _ else_references node_references block_references if_references statement_references x))
      → ElseHas (roll-IElse x)
  else-from x has = subst (λ part. Has part (else_references (roll-IElse x)))
      (sym (fold-roll-IElse SElse SNode SBlock SNode SStmt (else_step writer) (node_step writer) (block_step writer) (if_step writer)
      (stmt_step writer) x))
      (subst (Has (else_step writer (map-IElse _ _ _ _ _ _ _ _ _ _ of_else of_node of_block of_if of_stmt x)))
      (sym (fold-roll-IElse References References References References References reference.else_step reference.node_step
      reference.block_step reference.if_step reference.statement_step x)) has)

  else-layer : (y : IElse-F WithElse WithNode WithBlock WithIf WithStmt)
      → ElseHas (roll-IElse (map-IElse _ _ _ _ _ _ _ _ _ _ (λ p. p.0) (λ p. p.0) (λ p. p.0) (λ p. p.0) (λ p. p.0) y))
  else-layer IElse-F.None = else-from IElse-F.None (λ locals. refl)
  else-layer (IElse-F.IElse::Block b) = else-from (IElse-F.IElse::Block b.0) b.1
  else-layer (IElse-F.IElse::If i) = else-from (IElse-F.IElse::If i.0) i.1

  -- ---- statements

  node-from : (x : IStmtNode-F IElse IStmtNode IBlock IIf IStmt)
      → Has (node_step writer (map-IStmtNode _ _ _ _ _ _ _ _ _ _ of_else of_node of_block of_if of_stmt x))
      (reference.node_step
      (map-IStmtNode _ _ _ _ _ _ _ _ _ _ else_references node_references block_references if_references statement_references x))
      → NodeHas (roll-IStmtNode x)
  node-from x has = subst (λ part. Has part (node_references (roll-IStmtNode x)))
      (sym (fold-roll-IStmtNode SElse SNode SBlock SNode SStmt (else_step writer) (node_step writer) (block_step writer)
      (if_step writer) (stmt_step writer) x))
      (subst (Has (node_step writer (map-IStmtNode _ _ _ _ _ _ _ _ _ _ of_else of_node of_block of_if of_stmt x)))
      (sym (fold-roll-IStmtNode References References References References References reference.else_step reference.node_step
      reference.block_step reference.if_step reference.statement_step x)) has)

  for-order : (a b c d : References) → a ++ (b ++ c ++ d) ≡ a ++ b ++ c ++ d
  for-order a b c d = sym (append_assoc a (b ++ c) d) ∙ ap (λ front. front ++ d) (sym (append_assoc a b c))

  -- the start of a `for`, its test, its steps and its body
  for-has : (start : IForStart) (test : Option IExpr) (steps : List IExpr) (b : WithBlock)
      → Has (node_step writer (IStmtNode-F.For start test steps (of_block b.0)))
      (start_references start ++ maybe_references test ++ exprs_references steps ++ block_references b.0)
  for-has start test steps b locals =
      let inside = (spelled_start writer start locals).locals in
      let tested = (maybe_expr writer test inside).locals in
      both _ _ (start_references start) _ (start-has start locals)
      (both _ _ _ _ (both _ _ (maybe_references test) _ (maybe-has test inside) (exprs-have steps tested)) (b.1 tested))
      ∙ for-order (start_references start) (maybe_references test) (exprs_references steps) (block_references b.0)

  each-has : (is_final : Bool) (type : IType) (name : List ℕ) (e : IExpr) (b : WithBlock)
      → Has (node_step writer (IStmtNode-F.Each is_final type name e (of_block b.0)))
      (type_references type ++ expr_references e ++ block_references b.0)
  each-has is_final type name e b locals =
      both _ _ _ _ (both _ _ (type_references type) _ (type-has locals type) (expr-has e locals))
      (b.1 (declaring writer (seen type) name locals))

  node-layer : (y : IStmtNode-F WithElse WithNode WithBlock WithIf WithStmt)
      → NodeHas (roll-IStmtNode (map-IStmtNode _ _ _ _ _ _ _ _ _ _ (λ p. p.0) (λ p. p.0) (λ p. p.0) (λ p. p.0) (λ p. p.0) y))
  node-layer (IStmtNode-F.IStmtNode::Block b) = node-from (IStmtNode-F.IStmtNode::Block b.0) b.1
  node-layer (IStmtNode-F.Let declared) = node-from (IStmtNode-F.Let declared) (let-has declared)
  node-layer (IStmtNode-F.Do e) = node-from (IStmtNode-F.Do e) (expr-has e)
  node-layer (IStmtNode-F.IStmtNode::If i) = node-from (IStmtNode-F.IStmtNode::If i.0) i.1
  node-layer (IStmtNode-F.While test b) = node-from (IStmtNode-F.While test b.0)
      (λ locals. both _ _ _ _ (expr-has test locals) (b.1 locals))
  node-layer (IStmtNode-F.For start test steps b) = node-from (IStmtNode-F.For start test steps b.0) (for-has start test steps b)
  node-layer (IStmtNode-F.Each is_final type name e b) =
      node-from (IStmtNode-F.Each is_final type name e b.0) (each-has is_final type name e b)
  node-layer (IStmtNode-F.Return e) = node-from (IStmtNode-F.Return e) (maybe-has e)
  node-layer (IStmtNode-F.Throw e) = node-from (IStmtNode-F.Throw e) (expr-has e)
  node-layer IStmtNode-F.Break = node-from IStmtNode-F.Break (λ locals. refl)
  node-layer IStmtNode-F.Continue = node-from IStmtNode-F.Continue (λ locals. refl)
  node-layer IStmtNode-F.Empty = node-from IStmtNode-F.Empty (λ locals. refl)
  node-layer (IStmtNode-F.Super constructor args) = node-from (IStmtNode-F.Super constructor args)
      (λ locals. ap (λ rest. method_target constructor ∷ rest)
      (all-have locals (map (λ (argument : Argument). argument.value) args) ∙ values-of args))
  node-layer (IStmtNode-F.SuperDefault class) = node-from (IStmtNode-F.SuperDefault class) (λ locals. refl)
  node-layer (IStmtNode-F.SuperOutside args) = node-from (IStmtNode-F.SuperOutside args)
      (λ locals. ap (λ rest. outside_target (codes "super") ∷ rest) (all-have locals args))

  -- ---- blocks

  items-have : (items : List WithStmt)
      → Has (each (map of_stmt (map (λ p. p.0) items))) (reference.joined (map statement_references (map (λ p. p.0) items)))
  items-have [] locals = refl
  items-have (s ∷ items) locals = both _ _ (statement_references s.0) _ (s.1 locals) (items-have items (of_stmt s.0 locals).locals)

  block-layer : (items : List WithStmt) (tail : List (List ℕ))
      → BlockHas (roll-IBlock (record { items = map (λ p. p.0) items; tail = tail }))
  block-layer items tail = subst (λ part. Has part (block_references (roll-IBlock block)))
      (sym (fold-roll-IBlock SElse SNode SBlock SNode SStmt (else_step writer) (node_step writer) (block_step writer) (if_step writer)
      (stmt_step writer) block))
      (subst (Has (block_step writer (record { items = map of_stmt (map (λ p. p.0) items); tail = tail })))
      (sym (fold-roll-IBlock References References References References References reference.else_step reference.node_step
      reference.block_step reference.if_step reference.statement_step block)) (items-have items)) where
        block : IBlock-F IElse IStmtNode IBlock IIf IStmt
        block = record { items = map (λ p. p.0) items; tail = tail }

  if-layer : (test : IExpr) (then : WithBlock) (rest : WithElse)
      → IfHas (roll-IIf (record { test = test; then = then.0; rest = rest.0 }))
  if-layer test then rest = subst (λ part. Has part (if_references (roll-IIf branch)))
      (sym (fold-roll-IIf SElse SNode SBlock SNode SStmt (else_step writer) (node_step writer) (block_step writer) (if_step writer)
      (stmt_step writer) branch))
      (subst (Has (if_step writer (record { test = test; then = of_block then.0; rest = of_else rest.0 })))
      (sym (fold-roll-IIf References References References References References reference.else_step reference.node_step
      reference.block_step reference.if_step reference.statement_step branch))
      (λ locals. both _ _ _ _ (both _ _ (expr_references test) _ (expr-has test locals) (then.1 locals))
      (rest.1 (of_block then.0 locals).locals))) where
        branch : IIf-F IElse IStmtNode IBlock IIf IStmt
        branch = record { test = test; then = then.0; rest = rest.0 }

  statement-layer : (notes : List (List ℕ)) (node : WithNode) → StmtHas (roll-IStmt (record { notes = notes; node = node.0 }))
  statement-layer notes node = subst (λ part. Has part (statement_references (roll-IStmt statement)))
      (sym (fold-roll-IStmt SElse SNode SBlock SNode SStmt (else_step writer) (node_step writer) (block_step writer) (if_step writer)
      (stmt_step writer) statement))
      (subst (Has (stmt_step writer (record { notes = notes; node = of_node node.0 })))
      (sym (fold-roll-IStmt References References References References References reference.else_step reference.node_step
      reference.block_step reference.if_step reference.statement_step statement)) node.1) where
        statement : IStmt-F IElse IStmtNode IBlock IIf IStmt
        statement = record { notes = notes; node = node.0 }

  blocks-have : (b : IBlock) → BlockHas b
  blocks-have = ind-IBlock ElseHas NodeHas BlockHas IfHas StmtHas
      (λ x y is. subst (λ z. ElseHas (roll-IElse z)) is (else-layer y))
      (λ x y is. subst (λ z. NodeHas (roll-IStmtNode z)) is (node-layer y))
      (λ x y is. subst (λ z. BlockHas (roll-IBlock z)) is (block-layer y.items y.tail))
      (λ x y is. subst (λ z. IfHas (roll-IIf z)) is (if-layer y.test y.then y.rest))
      (λ x y is. subst (λ z. StmtHas (roll-IStmt z)) is (statement-layer y.notes y.node))

  -- ---- values

  params-have : (params : List Param)
      → targets (flat_map (λ (param : Param). (declared_type writer no_locals param.ty).references) params)
      ≡ flat_map (λ (param : Param). type_references param.ty) params
  params-have [] = refl
  params-have (param ∷ params) = both _ _ (type_references param.ty) _ (type-has no_locals param.ty) (params-have params)

  first-value-has : (init : Option IExpr) → targets (first_value_references writer init) ≡ maybe_references init
  first-value-has None = refl
  first-value-has (Some e) = expr-has e no_locals

  values-have : (value : Option Value) → targets (references_in writer value) ≡ option_map_or references value []
  values-have None = refl
  values-have (Some (values.Super None)) = refl
  values-have (Some (values.Super (Some parent))) = type-has no_locals parent
  values-have (Some (values.Result type)) = type-has no_locals type
  values-have (Some (values.Params params)) = params-have params
  values-have (Some (values.Body None)) = refl
  values-have (Some (values.Body (Some body))) = blocks-have body.block no_locals
  values-have (Some (values.Value type init)) = both _ _ (type_references type) _ (type-has no_locals type) (first-value-has init)
  values-have (Some (values.Live live)) = refl
  values-have (Some (values.Package name)) = refl
  values-have (Some (values.Owner owner)) = refl
  values-have (Some (values.Method method)) = refl
  values-have (Some (values.Name name)) = refl
  values-have (Some (values.Kind kind)) = refl
  values-have (Some (values.Fixed fixed)) = refl
  values-have (Some (values.Words words)) = refl
  values-have (Some (values.Notes notes)) = refl

pub targets_alike : TargetsAlike
targets_alike = record { values = values-have }

pub types_alike : TypesAlike
types_alike = record { expressions = expr-type }
