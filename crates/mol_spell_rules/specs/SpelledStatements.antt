-- Statements of a program as they are written (JLS 14), with the locals that they declare.
use Rattle.std.specs.Prelude.{Bool, List, [], ◌∷◌, ◌++◌, map, length, Option, Some, None, codes}
use Rattle.mol_base.specs.declared.ident.Id.{Id}
use Rattle.mol_spell_rules.specs.references.References.{method_target, default_target, outside_target}
use Rattle.mol_values_types.specs.declared.iblock.IBlock.{IBlock, fold-IBlock}
use Rattle.mol_values_types.specs.declared.iblock.IBody.{IBody}
use Rattle.mol_values_types.specs.declared.iblock.IDeclarator.{IDeclarator}
use Rattle.mol_values_types.specs.declared.iblock.IElse.TheOpen.{IElse-F, IStmtNode-F, IBlock-F, IIf-F, IStmt-F}
use Rattle.mol_values_types.specs.declared.iblock.IForStart.{IForStart}
use Rattle.mol_values_types.specs.declared.iblock.IForStart.TheVariants as starts
use Rattle.mol_values_types.specs.declared.iblock.ILet.{ILet}
use Rattle.mol_values_types.specs.declared.iexpr.Argument.{Argument}
use Rattle.mol_values_types.specs.declared.iexpr.IExpr.{IExpr}
use Rattle.mol_values_types.specs.declared.itype.IType.{IType}
use Rattle.jav_tree.specs.Blocks.{block_of}
use Rattle.jav_tree.specs.declared.expr.Expr.{Expr}
use Rattle.jav_tree.specs.declared.stmt.Block.{Block}
use Rattle.jav_tree.specs.declared.stmt.Declarator.{Declarator}
use Rattle.jav_tree.specs.declared.stmt.Else.{Else}
use Rattle.jav_tree.specs.declared.stmt.Else.TheVariants as otherwise
use Rattle.jav_tree.specs.declared.stmt.ForStart.{ForStart}
use Rattle.jav_tree.specs.declared.stmt.ForStart.TheVariants as start
use Rattle.jav_tree.specs.declared.stmt.Let.{Let}
use Rattle.jav_tree.specs.declared.stmt.Stmt.{Stmt}
use Rattle.jav_tree.specs.declared.stmt.StmtNode.{StmtNode}
use Rattle.jav_tree.specs.declared.stmt.StmtNode.TheVariants as node
use Rattle.jav_names.specs.DottedNames.{Name}
use Rattle.jav_names.specs.Views.{ViewType}
use Rattle.mol_resolve_rules.specs.Locals.{Locals, no_locals, declare, at_end_of_block}
use Rattle.mol_resolve_rules.specs.ProgramViews.{seen}
use Rattle.mol_spell_rules.specs.SpelledExpressions.{trees, spelled_expr, plain, alone, each_alone}
use Rattle.mol_spell_rules.specs.SpelledTypes.{SpelledType, spelled_type}
use Rattle.mol_spell_rules.specs.Writers.{Writer, hides_none, super_constructor_asked, Reference}

-- ---- writing on

-- what a part is written as, the references in it, and the locals after it
pub record SpelledPart (A : Type 0) : Type 0 where
  pub tree : A
  pub references : List Reference
  pub locals : Locals Id

-- writing on from the locals before a part
abbrev pub Spells : Type 0 → Type 0
Spells A = Locals Id → SpelledPart A

-- what declares nothing
abbrev pub declaring_none : {A : Type 0} → A → List Reference → Locals Id → SpelledPart A
declaring_none tree references locals = record { tree = tree; references = references; locals = locals }

abbrev pub mapped : {A B : Type 0} → (A → B) → SpelledPart A → SpelledPart B
mapped make part = record { tree = make part.tree; references = part.references; locals = part.locals }

-- a part, and then the next with the locals after it
abbrev pub followed_by : {A B : Type 0} → SpelledPart A → SpelledPart B → SpelledPart (A × B)
followed_by first next = record {
  tree = (first.tree, next.tree);
  references = first.references ++ next.references;
  locals = next.locals;
}

abbrev pub then_next : {A B : Type 0} → SpelledPart A → Spells B → SpelledPart (A × B)
then_next first next = followed_by first (next first.locals)

abbrev pub put_first : {A : Type 0} → A × List A → List A
put_first parts = parts.0 ∷ parts.1

abbrev pub each : {A : Type 0} → List (Spells A) → Spells (List A)
each [] locals = declaring_none [] [] locals
each (part ∷ parts) locals = mapped put_first (then_next (part locals) (each parts))

-- What is declared in a block, and in the header of a `for`, is in scope up to its end (JLS 6.3).
abbrev pub in_block : {A : Type 0} → Locals Id → SpelledPart A → SpelledPart A
in_block before part = record { tree = part.tree; references = part.references; locals = at_end_of_block before part.locals }

-- a statement without comments
abbrev pub bare : StmtNode → Stmt
bare node = record { notes = []; at = 0; node = node }

module _ (writer : Writer) where
  -- ---- expressions and types

  -- an expression that stands alone, with its references
  abbrev pub one_expr : IExpr → Spells Expr
  one_expr e locals = let part = spelled_expr writer locals e in declaring_none part.tree (alone writer locals part) locals

  abbrev pub exprs : List IExpr → Spells (List Expr)
  exprs es locals =
      let parts = map (spelled_expr writer locals) es in declaring_none (trees parts) (each_alone writer locals parts) locals

  -- of an argument the value
  abbrev pub arguments : List Argument → Spells (List Expr)
  arguments args = exprs (map (λ (argument : Argument). argument.value) args)

  abbrev pub maybe_expr : Option IExpr → Spells (Option Expr)
  maybe_expr None locals = declaring_none None [] locals
  maybe_expr (Some e) locals = mapped (λ e. Some e) (one_expr e locals)

  -- The type of a declaration: no variable hides a class there.
  abbrev pub declared_type : Locals Id → IType → SpelledType
  declared_type locals type = spelled_type writer hides_none locals type

  -- ---- declarations of locals (JLS 14.4)

  abbrev pub declaring : ViewType Id → Name → Locals Id → Locals Id
  declaring type name locals = declare (record { name = name; type = type }) locals

  -- The first value stands in the scope of its own local.
  abbrev pub declarator : ViewType Id → IDeclarator → Spells Declarator
  declarator type declared locals = mapped (λ init. record { name = declared.name; init = init })
      (maybe_expr declared.init (declaring type declared.name locals))

  abbrev pub let_of : Bool → SpelledType → List Declarator → Let
  let_of is_final type names = record { is_final = is_final; ty = type.tree; names = names }

  abbrev pub spelled_let : ILet → Spells Let
  spelled_let declared locals =
      let type = declared_type locals declared.ty in
      mapped (λ parts. let_of declared.is_final type parts.1)
      (then_next (declaring_none type type.references locals) (each (map (declarator (seen declared.ty)) declared.names)))

  abbrev pub spelled_start : IForStart → Spells ForStart
  spelled_start starts.None locals = declaring_none start.None [] locals
  spelled_start (starts.Let declared) locals = mapped (λ declared. start.Let declared) (spelled_let declared locals)
  spelled_start (starts.Do es) locals = mapped (λ es. start.Do es) (exprs es locals)

  -- ---- statements

  -- The body of `for (T name : e)`. The local is in scope in the body alone.
  abbrev pub each_body : ViewType Id → Name → Spells Block → Spells Block
  each_body type name block locals = in_block locals (block (declaring type name locals))

  abbrev pub else_step : IElse-F (Spells Else) (Spells StmtNode) (Spells Block) (Spells StmtNode) (Spells Stmt) → Spells Else
  else_step IElse-F.None locals = declaring_none otherwise.None [] locals
  else_step (IElse-F.IElse::Block block) locals = mapped (λ block. otherwise.Block block) (block locals)
  else_step (IElse-F.IElse::If branch) locals = mapped (λ branch. otherwise.If (bare branch)) (branch locals)

  -- the header of a `for`, but for its start
  abbrev pub header : Option IExpr → List IExpr → Spells (Option Expr × List Expr)
  header test steps locals = then_next (maybe_expr test locals) (exprs steps)

  abbrev pub super_part : List Reference → List IExpr → Spells StmtNode
  super_part names args locals =
      mapped (λ parts. node.SuperInit parts.1) (then_next (declaring_none names names locals) (exprs args))

  abbrev pub node_step : IStmtNode-F (Spells Else) (Spells StmtNode) (Spells Block) (Spells StmtNode) (Spells Stmt) → Spells StmtNode
  node_step (IStmtNode-F.IStmtNode::Block block) locals = mapped (λ block. node.Block block) (block locals)
  node_step (IStmtNode-F.Let declared) locals = mapped (λ declared. node.Let declared) (spelled_let declared locals)
  node_step (IStmtNode-F.Do e) locals = mapped (λ e. node.Do e) (one_expr e locals)
  node_step (IStmtNode-F.IStmtNode::If branch) locals = branch locals
  node_step (IStmtNode-F.While test block) locals =
      mapped (λ parts. node.While parts.0 parts.1) (then_next (one_expr test locals) block)
  node_step (IStmtNode-F.For first test steps block) locals = in_block locals
      (mapped (λ parts. node.For parts.0 parts.1.0.0 parts.1.0.1 parts.1.1)
      (then_next (spelled_start first locals) (λ inside. then_next (header test steps inside) block)))
  node_step (IStmtNode-F.Each is_final type name e block) locals =
      let spelled = declared_type locals type in
      mapped (λ parts. node.Each is_final spelled.tree name parts.0.1 parts.1)
      (then_next (then_next (declaring_none spelled spelled.references locals) (one_expr e)) (each_body (seen type) name block))
  node_step (IStmtNode-F.Return e) locals = mapped (λ e. node.Return e) (maybe_expr e locals)
  node_step (IStmtNode-F.Throw e) locals = mapped (λ e. node.Throw e) (one_expr e locals)
  node_step IStmtNode-F.Break locals = declaring_none node.Break [] locals
  node_step IStmtNode-F.Continue locals = declaring_none node.Continue [] locals
  node_step IStmtNode-F.Empty locals = declaring_none node.Empty [] locals
  node_step (IStmtNode-F.Super constructor args) locals =
      super_part (plain writer locals (method_target constructor) (super_constructor_asked (length args)) ∷ [])
      (map (λ (argument : Argument). argument.value) args) locals
  node_step (IStmtNode-F.SuperDefault class) locals =
      super_part (plain writer locals (default_target class) (super_constructor_asked 0) ∷ []) [] locals
  node_step (IStmtNode-F.SuperOutside args) locals =
      super_part (plain writer locals (outside_target (codes "super")) (super_constructor_asked (length args)) ∷ []) args locals

  abbrev pub if_step : IIf-F (Spells Else) (Spells StmtNode) (Spells Block) (Spells StmtNode) (Spells Stmt) → Spells StmtNode
  if_step branch locals = mapped (λ parts. node.If parts.0.0 parts.0.1 parts.1)
      (then_next (then_next (one_expr branch.test locals) branch.then) branch.rest)

  abbrev pub stmt_step : IStmt-F (Spells Else) (Spells StmtNode) (Spells Block) (Spells StmtNode) (Spells Stmt) → Spells Stmt
  stmt_step statement locals = mapped (λ node. record { notes = statement.notes; at = 0; node = node }) (statement.node locals)

  abbrev pub block_step : IBlock-F (Spells Else) (Spells StmtNode) (Spells Block) (Spells StmtNode) (Spells Stmt) → Spells Block
  block_step block locals = in_block locals (mapped (λ items. block_of items block.tail) (each block.items locals))

  abbrev pub spelled_block : IBlock → Spells Block
  spelled_block = fold-IBlock (Spells Else) (Spells StmtNode) (Spells Block) (Spells StmtNode) (Spells Stmt)
      else_step node_step block_step if_step stmt_step

  -- a body, in which no local is declared yet
  abbrev pub spelled_body : IBody → SpelledPart Block
  spelled_body body = spelled_block body.block no_locals
