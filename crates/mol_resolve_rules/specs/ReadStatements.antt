-- Statements read as statements of a program (JLS 14), with the locals that they declare.
use Rattle.std.specs.Prelude.{ℕ, Bool, List, [], ◌∷◌, ◌++◌, map, length, Option, Some, None, option_map, if◌then◌else◌}
use Rattle.std.specs.List.{list_any}
use Rattle.std.specs.Option.{option_map_or}
use Rattle.std.specs.Str.{bytes_eq}
use Rattle.jav_tree.specs.declared.expr.Expr.{Expr}
use Rattle.jav_tree.specs.declared.stmt.Block.{Block, fold-Block}
use Rattle.jav_tree.specs.declared.stmt.Declarator.{Declarator}
use Rattle.jav_tree.specs.declared.stmt.Else.TheOpen.{Else-F, StmtNode-F, Block-F, Stmt-F}
use Rattle.jav_tree.specs.declared.stmt.ForStart.{ForStart}
use Rattle.jav_tree.specs.declared.stmt.ForStart.TheVariants as for_start
use Rattle.jav_tree.specs.declared.stmt.Let.{Let}
use Rattle.jav_names.specs.DottedNames.{Name}
use Rattle.jav_names.specs.LookUps.{super_constructor}
use Rattle.jav_names.specs.Members.{Constructor, declared_constructor, default_constructor}
use Rattle.jav_names.specs.Views.{ViewType, Found, found, outside, not_found}
use Rattle.mol_resolve_rules.specs.FaultKinds.{redeclared, unknown_member}
use Rattle.mol_resolve_rules.specs.Locals.{Locals, no_locals, declare, at_end_of_block, names_in_scope}
use Rattle.mol_resolve_rules.specs.Outcomes.{TreeFault, Outcome, fine, refused, with_faults, mapped, given, beside, both, put_first, all, maybe}
use Rattle.mol_resolve_rules.specs.Readers.{Reader, param_names}
use Rattle.mol_resolve_rules.specs.ReadTrees.{with_params, read_expr}
use Rattle.mol_resolve_rules.specs.ReadTypes.{ReadType, read_type, seen_type}
use Rattle.mol_values_types.specs.Blocks.{block_of, branch_of}
use Rattle.mol_values_types.specs.declared.iblock.IBlock.{IBlock}
use Rattle.mol_values_types.specs.declared.iblock.IBody.{IBody}
use Rattle.mol_values_types.specs.declared.iblock.IDeclarator.{IDeclarator}
use Rattle.mol_values_types.specs.declared.iblock.IElse.{IElse}
use Rattle.mol_values_types.specs.declared.iblock.IElse.TheVariants as elses
use Rattle.mol_values_types.specs.declared.iblock.IForStart.{IForStart}
use Rattle.mol_values_types.specs.declared.iblock.IForStart.TheVariants as starts
use Rattle.mol_values_types.specs.declared.iblock.IIf.{IIf}
use Rattle.mol_values_types.specs.declared.iblock.ILet.{ILet}
use Rattle.mol_values_types.specs.declared.iblock.IStmt.{IStmt}
use Rattle.mol_values_types.specs.declared.iblock.IStmtNode.{IStmtNode}
use Rattle.mol_values_types.specs.declared.iblock.IStmtNode.TheVariants as nodes
use Rattle.mol_values_types.specs.declared.iexpr.IExpr.{IExpr}

-- ---- reading on

-- what something reads as where reading goes on, and the locals after it
pub record ReadOn (C A : Type 0) : Type 0 where
  pub locals : Locals C
  pub outcome : Outcome A

-- reading on from the locals before something
abbrev pub ReadsTo : Type 0 → Type 0 → Type 0
ReadsTo C A = Locals C → ReadOn C A

-- what declares nothing
abbrev pub declaring_none : {C A : Type 0} → Locals C → Outcome A → ReadOn C A
declaring_none locals outcome = record { locals = locals; outcome = outcome }

abbrev pub mapped_on : {C A B : Type 0} → (A → B) → ReadOn C A → ReadOn C B
mapped_on make part = record { locals = part.locals; outcome = mapped make part.outcome }

-- one, and then the next with the locals after it
abbrev pub followed_by : {C A B : Type 0} → ReadOn C A → ReadOn C B → ReadOn C (A × B)
followed_by first next = record { locals = next.locals; outcome = both first.outcome next.outcome }

abbrev pub then_next : {C A B : Type 0} → ReadOn C A → ReadsTo C B → ReadOn C (A × B)
then_next first next = followed_by first (next first.locals)

abbrev pub each : {C A : Type 0} → List (ReadsTo C A) → ReadsTo C (List A)
each [] locals = declaring_none locals (fine [])
each (part ∷ parts) locals = mapped_on put_first (then_next (part locals) (each parts))

-- What is declared in a block, and in the header of a `for`, is in scope up to its end (JLS 6.3).
abbrev pub in_block : {C A : Type 0} → Locals C → ReadOn C A → ReadOn C A
in_block before part = record { locals = at_end_of_block before part.locals; outcome = part.outcome }

-- a statement as it is read, and its branches where it is an `if`, which may follow `else`
pub record ReadNode : Type 0 where
  pub node : IStmtNode
  pub branches : Option IIf

pub record ReadStatement : Type 0 where
  pub statement : IStmt
  pub branches : Option IIf

abbrev pub plain : IStmtNode → ReadNode
plain node = record { node = node; branches = None }

abbrev pub statement_of : List Name → ReadNode → ReadStatement
statement_of notes read = record { statement = record { notes = notes; node = read.node }; branches = read.branches }

abbrev pub branching : IIf → ReadNode
branching branches = record { node = nodes.If branches; branches = Some branches }

module _ {C M : Type 0} (reader : Reader C M) where
  -- ---- declarations of locals (JLS 14.4)

  -- A local may not have the name of a local or parameter in whose scope it is declared (JLS 6.4).
  abbrev pub redeclared_faults : ℕ → Name → Locals C → List TreeFault
  redeclared_faults at name locals =
      if list_any (bytes_eq name) (names_in_scope locals ++ param_names reader) then record { kind = redeclared; at = at } ∷ [] else []

  abbrev pub declaring : ViewType C → Name → Locals C → Locals C
  declaring type name locals = declare (record { name = name; type = type }) locals

  abbrev pub read_exprs : Locals C → List Expr → Outcome (List IExpr)
  read_exprs locals es = all (map (read_expr reader locals) es)

  abbrev pub read_maybe : Locals C → Option Expr → Outcome (Option IExpr)
  read_maybe locals e = maybe (option_map (read_expr reader locals) e)

  -- its first value is read in its own scope
  abbrev pub read_declarator : ℕ → ViewType C → Declarator → Locals C → ReadOn C IDeclarator
  read_declarator at type declarator locals = declaring_none (declaring type declarator.name locals)
      (with_faults (redeclared_faults at declarator.name locals)
      (mapped (λ init. record { name = declarator.name; init = init })
      (read_maybe (declaring type declarator.name locals) declarator.init)))

  abbrev pub let_of : Bool → ReadType C × List IDeclarator → ILet
  let_of is_final parts = record { is_final = is_final; ty = parts.0.tree; names = parts.1 }

  abbrev pub read_let : ℕ → Let → Locals C → ReadOn C ILet
  read_let at declared locals = mapped_on (let_of declared.is_final)
      (followed_by (declaring_none locals (read_type reader at declared.ty))
      (each (map (read_declarator at (seen_type reader declared.ty)) declared.names) locals))

  -- ---- `super(..)` (JLS 8.8.7.1)

  abbrev pub super_read : ℕ → Option (List IExpr) → Found (Constructor C M) → Outcome IStmtNode
  super_read at args (found (declared_constructor declared)) =
      given args (λ args. fine (nodes.Super (reader.ids.method_id declared) (with_params (reader.ids.param_ids declared) args)))
  super_read at args (found (default_constructor class)) = fine (nodes.SuperDefault (reader.ids.class_id class))
  super_read at args outside = given args (λ args. fine (nodes.SuperOutside args))
  super_read at args not_found = refused unknown_member at

  -- It stands in a constructor alone. Which constructor is meant is decided by the number of arguments, as after `new`.
  abbrev pub super_if : Bool → ℕ → Option (List IExpr) → Found (Constructor C M) → Outcome IStmtNode
  super_if in_constructor at args read = if in_constructor then super_read at args read else refused unknown_member at

  -- ---- statements

  abbrev pub read_start : ℕ → ForStart → Locals C → ReadOn C IForStart
  read_start at for_start.None locals = declaring_none locals (fine starts.None)
  read_start at (for_start.Let declared) locals = mapped_on (λ declared. starts.Let declared) (read_let at declared locals)
  read_start at (for_start.Do es) locals = declaring_none locals (mapped (λ es. starts.Do es) (read_exprs locals es))

  -- the header of a `for`, but for its start
  abbrev pub read_header : Locals C → Option Expr → List Expr → Outcome (Option IExpr × List IExpr)
  read_header locals test steps = both (read_maybe locals test) (read_exprs locals steps)

  -- The body of `for (T name : e)`. The local is in scope in the body alone.
  abbrev pub read_each : ℕ → ViewType C → Name → ReadsTo C IBlock → ReadsTo C IBlock
  read_each at type name block locals =
      let body = block (declaring type name locals) in
      record { locals = at_end_of_block locals body.locals; outcome = with_faults (redeclared_faults at name locals) body.outcome }

  -- The grammar has no statement after `else` but an `if` and a block (JLS 14.9). Any other becomes the only statement of a
  -- block, yet its locals stay in scope after it; no tree that is parsed shows this.
  abbrev pub else_of : ReadStatement → IElse
  else_of read = option_map_or (λ branches. elses.If branches) read.branches (elses.Block (block_of (read.statement ∷ []) []))

  abbrev pub else_step : Else-F (ReadsTo C IElse) (ℕ → ReadsTo C ReadNode) (ReadsTo C IBlock) (ReadsTo C ReadStatement)
      → ReadsTo C IElse
  else_step Else-F.None locals = declaring_none locals (fine elses.None)
  else_step (Else-F.Else::Block block) locals = mapped_on (λ block. elses.Block block) (block locals)
  else_step (Else-F.Else::If statement) locals = mapped_on else_of (statement locals)

  abbrev pub node_step : StmtNode-F (ReadsTo C IElse) (ℕ → ReadsTo C ReadNode) (ReadsTo C IBlock) (ReadsTo C ReadStatement)
      → ℕ → ReadsTo C ReadNode
  node_step (StmtNode-F.StmtNode::Block block) at locals = mapped_on (λ block. plain (nodes.Block block)) (block locals)
  node_step (StmtNode-F.Let declared) at locals = mapped_on (λ declared. plain (nodes.Let declared)) (read_let at declared locals)
  node_step (StmtNode-F.Do e) at locals = declaring_none locals (mapped (λ e. plain (nodes.Do e)) (read_expr reader locals e))
  node_step (StmtNode-F.StmtNode::If test block otherwise) at locals =
      mapped_on (λ (parts : (IExpr × IBlock) × IElse). branching (branch_of parts.0.0 parts.0.1 parts.1))
      (then_next (then_next (declaring_none locals (read_expr reader locals test)) block) otherwise)
  node_step (StmtNode-F.While test block) at locals =
      mapped_on (λ (parts : IExpr × IBlock). plain (nodes.While parts.0 parts.1))
      (then_next (declaring_none locals (read_expr reader locals test)) block)
  node_step (StmtNode-F.For start test steps block) at locals =
      in_block locals (mapped_on
      (λ (parts : (IForStart × (Option IExpr × List IExpr)) × IBlock). plain (nodes.For parts.0.0 parts.0.1.0 parts.0.1.1 parts.1))
      (then_next (then_next (read_start at start locals) (λ inside. declaring_none inside (read_header inside test steps))) block))
  node_step (StmtNode-F.Each is_final type name e block) at locals =
      mapped_on (λ (parts : (ReadType C × IExpr) × IBlock). plain (nodes.Each is_final parts.0.0.tree name parts.0.1 parts.1))
      (then_next (declaring_none locals (both (read_type reader at type) (read_expr reader locals e)))
      (read_each at (seen_type reader type) name block))
  node_step (StmtNode-F.Return e) at locals = declaring_none locals (mapped (λ e. plain (nodes.Return e)) (read_maybe locals e))
  node_step (StmtNode-F.Throw e) at locals = declaring_none locals (mapped (λ e. plain (nodes.Throw e)) (read_expr reader locals e))
  node_step StmtNode-F.Break at locals = declaring_none locals (fine (plain nodes.Break))
  node_step StmtNode-F.Continue at locals = declaring_none locals (fine (plain nodes.Continue))
  node_step StmtNode-F.Empty at locals = declaring_none locals (fine (plain nodes.Empty))
  node_step (StmtNode-F.SuperInit args) at locals = declaring_none locals
      (mapped plain (beside (read_exprs locals args)
      (λ values. super_if reader.in_constructor at values (super_constructor reader.view reader.class (length args)))))

  abbrev pub stmt_step : Stmt-F (ReadsTo C IElse) (ℕ → ReadsTo C ReadNode) (ReadsTo C IBlock) (ReadsTo C ReadStatement)
      → ReadsTo C ReadStatement
  stmt_step statement locals =
      mapped_on (statement_of statement.notes) (statement.node statement.at locals)

  abbrev pub block_step : Block-F (ReadsTo C IElse) (ℕ → ReadsTo C ReadNode) (ReadsTo C IBlock) (ReadsTo C ReadStatement)
      → ReadsTo C IBlock
  block_step block locals = in_block locals
      (mapped_on (λ items. block_of (map (λ (read : ReadStatement). read.statement) items) block.tail) (each block.items locals))

  abbrev pub block_reading : Block → Locals C → ReadOn C IBlock
  block_reading = fold-Block (ReadsTo C IElse) (ℕ → ReadsTo C ReadNode) (ReadsTo C IBlock) (ReadsTo C ReadStatement)
      else_step node_step block_step stmt_step

  -- ---- what members hold

  -- the first value of a field
  abbrev pub read_initial : Option Expr → Outcome (Option IExpr)
  read_initial init = read_maybe no_locals init

  abbrev pub read_body : Block → Outcome IBody
  read_body block = mapped (λ block. record { block = block }) (block_reading block no_locals).outcome
