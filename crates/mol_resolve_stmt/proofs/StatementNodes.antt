-- What a statement reads as, by its node and how its parts are read.
use Rattle.std.proofs.Common.{◌≡◌, ℕ, Bool, List, ◌++◌, append_assoc, length, Option, Some, None, option_map, refl, sym, ap, ◌∙◌}
use Rattle.std.specs.Option.{option_zip}
use Rattle.jav_tree.proofs.StatementFolds.{folded_node, fold-node-Block, fold-node-Let, fold-node-Do, fold-node-If, fold-node-While, fold-node-For, fold-node-Each, fold-node-Return, fold-node-Throw, fold-node-Break, fold-node-Continue, fold-node-Empty, fold-node-SuperInit}
use Rattle.jav_tree.specs.declared.expr.Expr.{Expr}
use Rattle.jav_tree.specs.declared.stmt.Block.{Block}
use Rattle.jav_tree.specs.declared.stmt.Else.{Else}
use Rattle.jav_tree.specs.declared.stmt.Else.TheFolds.{fold_out-Block}
use Rattle.jav_tree.specs.declared.stmt.ForStart.{ForStart}
use Rattle.jav_tree.specs.declared.stmt.Let.{Let}
use Rattle.jav_tree.specs.declared.stmt.StmtNode.{StmtNode}
use Rattle.jav_tree.specs.declared.stmt.StmtNode.TheVariants as node
use Rattle.jav_tree.specs.declared.types.TypeName.{TypeName}
use Rattle.jav_names.specs.DottedNames.{Name}
use Rattle.jav_names.specs.LookUps.{super_constructor}
use Rattle.jav_names.specs.UnitViews.{MemberKey}
use Rattle.mol_resolve_rules.proofs.ReadEquations.{statement}
use Rattle.mol_resolve_rules.specs.Locals.{Locals, at_end_of_block}
use Rattle.mol_resolve_rules.specs.Outcomes.{Outcome, fine, mapped, beside, both}
use Rattle.mol_resolve_rules.specs.Readers.{Reader}
use Rattle.mol_resolve_rules.specs.ReadStatements as spell
use Rattle.mol_resolve_rules.specs.ReadStatements.{ReadOn, ReadsTo, ReadNode, mapped_on, then_next, declaring_none, block_reading, read_let, read_exprs, read_maybe, super_if, node_step}
use Rattle.mol_resolve_rules.specs.ReadTrees.{Meant, alone, read_expr, reading}
use Rattle.mol_resolve_rules.specs.ReadTypes.{ReadType, read_type, seen_type}
use Rattle.mol_resolve_stmt.specs.Loops.{each_header, each_part, for_header, for_part, loop_by, loop_node, while_header, while_part}
use Rattle.mol_resolve_stmt.specs.Made as made
use Rattle.mol_resolve_stmt.specs.Statements.{else_reading, node_of, branches_of}
use Rattle.mol_values_types.specs.declared.iblock.IBlock.{IBlock}
use Rattle.mol_values_types.specs.declared.iblock.IForStart.{IForStart}
use Rattle.mol_values_types.specs.declared.iblock.IStmtNode.{IStmtNode}
use Rattle.mol_values_types.specs.declared.iblock.IStmtNode.TheVariants as nodes
use Rattle.mol_values_types.specs.declared.iexpr.IExpr.{IExpr}

-- # Twice

twice : {A B C : Type 0} (f : B → C) (g : A → B) (value : Option A) → option_map f (option_map g value) ≡ option_map (λ a. f (g a)) value
twice f g None = refl
twice f g (Some a) = refl

pub twice-mapped : {A B C : Type 0} (f : B → C) (g : A → B) (part : Outcome A) → mapped f (mapped g part) ≡ mapped (λ a. f (g a)) part
twice-mapped f g part = λ i. record { value = twice f g part.value i; faults = part.faults }

pub twice-on : {A B C : Type 0} (f : B → C) (g : A → B) (part : ReadOn ℕ A) → mapped_on f (mapped_on g part) ≡ mapped_on (λ a. f (g a)) part
twice-on f g part = λ i. record { locals = part.locals; outcome = twice-mapped f g part.outcome i }

bare : (value : Option IStmtNode) → option_map (λ (read : ReadNode). read.node) (option_map spell.plain value) ≡ value
bare None = refl
bare (Some made) = refl

-- # Values of loops

while_value : (test : Option IExpr) (body : Option IBlock)
    → option_map (λ (read : ReadNode). read.node)
    (option_map (λ (parts : IExpr × IBlock). spell.plain (nodes.While parts.0 parts.1)) (option_zip test body))
    ≡ option_map loop_node (option_zip (option_map while_part test) body)
while_value None body = refl
while_value (Some test) None = refl
while_value (Some test) (Some body) = refl

for_value : (head : Option (IForStart × (Option IExpr × List IExpr))) (body : Option IBlock)
    → option_map (λ (read : ReadNode). read.node)
    (option_map (λ (parts : (IForStart × (Option IExpr × List IExpr)) × IBlock).
    spell.plain (nodes.For parts.0.0 parts.0.1.0 parts.0.1.1 parts.1)) (option_zip head body))
    ≡ option_map loop_node (option_zip (option_map for_part head) body)
for_value None body = refl
for_value (Some head) None = refl
for_value (Some head) (Some body) = refl

each_value : (is_final : Bool) (name : Name) (type : Option (ReadType ℕ)) (e : Option (Meant ℕ)) (body : Option IBlock)
    → option_map (λ (read : ReadNode). read.node)
    (option_map (λ (parts : (ReadType ℕ × IExpr) × IBlock). spell.plain (nodes.Each is_final parts.0.0.tree name parts.0.1 parts.1))
    (option_zip (option_zip type (option_map (λ (value : Meant ℕ). value.tree) e)) body))
    ≡ option_map loop_node (option_zip (option_map (each_part is_final name) (option_zip type e)) body)
each_value is_final name None e body = refl
each_value is_final name (Some type) None body = refl
each_value is_final name (Some type) (Some e) None = refl
each_value is_final name (Some type) (Some e) (Some body) = refl

-- the end of a block gives back the scope before it
scope_ends : (reader : Reader ℕ MemberKey) (block : Block) (locals : Locals ℕ)
    → (block_reading reader block locals).locals ≡ at_end_of_block locals (block_reading reader block locals).locals
scope_ends reader block locals =
    let made =
    fold_out-Block _ _ _ _ (spell.else_step reader) (node_step reader) (spell.block_step reader) (spell.stmt_step reader) block
    in
    ap (λ (read : ReadsTo ℕ IBlock). (read locals).locals) made
    ∙ sym (ap (λ (read : ReadsTo ℕ IBlock). at_end_of_block locals (read locals).locals) made)

-- # Nodes

module _ (reader : Reader ℕ MemberKey) (at : ℕ) (locals : Locals ℕ) where
  abbrev node_alone : ReadNode → IStmtNode
  node_alone read = read.node

  by_node : (n m : StmtNode) (step : ℕ → ReadsTo ℕ ReadNode) → n ≡ m → folded_node (statement reader) (node_step reader) m ≡ step
      → node_of reader n at locals ≡ mapped_on node_alone (step at locals)
  by_node n m step is folded =
      ap (λ n. node_of reader n at locals) is ∙ ap (λ (step : ℕ → ReadsTo ℕ ReadNode). mapped_on node_alone (step at locals)) folded

  pub at-Block : (n : StmtNode) (block : Block) → n ≡ node.Block block
      → node_of reader n at locals ≡ mapped_on (λ block. nodes.Block block) (block_reading reader block locals)
  at-Block n block is = by_node n _ _ is (fold-node-Block (statement reader) (node_step reader) block)
      ∙ twice-on node_alone (λ block. spell.plain (nodes.Block block)) (block_reading reader block locals)

  pub at-Let : (n : StmtNode) (declared : Let) → n ≡ node.Let declared
      → node_of reader n at locals ≡ mapped_on (λ declared. nodes.Let declared) (read_let reader at declared locals)
  at-Let n declared is = by_node n _ _ is (fold-node-Let (statement reader) (node_step reader) declared)
      ∙ twice-on node_alone (λ declared. spell.plain (nodes.Let declared)) (read_let reader at declared locals)

  pub at-Do : (n : StmtNode) (e : Expr) → n ≡ node.Do e
      → node_of reader n at locals ≡ declaring_none locals (mapped (λ e. nodes.Do e) (read_expr reader locals e))
  at-Do n e is = by_node n _ _ is (fold-node-Do (statement reader) (node_step reader) e)
      ∙ ap (declaring_none locals) (twice-mapped node_alone (λ e. spell.plain (nodes.Do e)) (read_expr reader locals e))

  pub at-If : (n : StmtNode) (test : Expr) (block : Block) (rest : Else) → n ≡ node.If test block rest
      → node_of reader n at locals ≡ mapped_on (λ branches. nodes.If branches) (branches_of reader test block rest locals)
  at-If n test block rest is =
      let parts = then_next (then_next (declaring_none locals (read_expr reader locals test)) (block_reading reader block))
      (else_reading reader rest)
      in
      by_node n _ _ is (fold-node-If (statement reader) (node_step reader) test block rest)
      ∙ twice-on node_alone (λ parts. spell.branching (made.branches parts)) parts
      ∙ sym (twice-on (λ branches. nodes.If branches) made.branches parts)

  -- # Loops

  pub at-While : (n : StmtNode) (test : Expr) (block : Block) → n ≡ node.While test block
      → node_of reader n at locals ≡ loop_by reader (λ locals. declaring_none locals (while_header reader locals test)) block locals
  at-While n test block is = by_node n _ _ is (fold-node-While (statement reader) (node_step reader) test block)
      ∙ (λ i. record {
        locals = scope_ends reader block locals i;
        outcome = record {
          value = while_value (read_expr reader locals test).value (block_reading reader block locals).outcome.value i;
          faults = (read_expr reader locals test).faults ++ (block_reading reader block locals).outcome.faults;
        };
      })

  for-at : (n : StmtNode) (start : ForStart) (test : Option Expr) (steps : List Expr) (block : Block)
      → n ≡ node.For start test steps block
      → node_of reader n at locals ≡ loop_by reader (for_header reader at start test steps) block locals
  for-at n start test steps block is =
      let rest : ReadsTo ℕ (Option IExpr × List IExpr) = λ inside. declaring_none inside (spell.read_header reader inside test steps) in
      let head = then_next (spell.read_start reader at start locals) rest in
      let body = block_reading reader block head.locals in
      by_node n _ _ is (fold-node-For (statement reader) (node_step reader) start test steps block)
      ∙ (λ i. record {
        locals = at_end_of_block locals body.locals;
        outcome = record {
          value = for_value head.outcome.value body.outcome.value i;
          faults = head.outcome.faults ++ body.outcome.faults;
        };
      })

  -- the steps may be found as another list
  pub at-For : (n : StmtNode) (start : ForStart) (test : Option Expr) (steps found : List Expr) (block : Block)
      → n ≡ node.For start test steps block → found ≡ steps
      → node_of reader n at locals ≡ loop_by reader (for_header reader at start test found) block locals
  at-For n start test steps found block is same =
      for-at n start test found block (is ∙ ap (λ steps. node.For start test steps block) (sym same))

  pub at-Each : (n : StmtNode) (is_final : Bool) (type : TypeName) (name : Name) (e : Expr) (block : Block)
      → n ≡ node.Each is_final type name e block
      → node_of reader n at locals ≡ loop_by reader (each_header reader at is_final type name e) block locals
  at-Each n is_final type name e block is =
      let value = alone reader locals (reading reader e) in
      let parts = both (read_type reader at type) value in
      let body = block_reading reader block (spell.declaring reader (seen_type reader type) name locals) in
      let faults = spell.redeclared_faults reader at name locals in
      by_node n _ _ is (fold-node-Each (statement reader) (node_step reader) is_final type name e block)
      ∙ (λ i. record {
        locals = at_end_of_block locals body.locals;
        outcome = record {
          value = each_value is_final name (read_type reader at type).value value.value body.outcome.value i;
          faults = sym (append_assoc parts.faults faults body.outcome.faults) i;
        };
      })

  pub at-Return : (n : StmtNode) (e : Option Expr) → n ≡ node.Return e
      → node_of reader n at locals ≡ declaring_none locals (mapped (λ e. nodes.Return e) (read_maybe reader locals e))
  at-Return n e is = by_node n _ _ is (fold-node-Return (statement reader) (node_step reader) e)
      ∙ ap (declaring_none locals) (twice-mapped node_alone (λ e. spell.plain (nodes.Return e)) (read_maybe reader locals e))

  pub at-Throw : (n : StmtNode) (e : Expr) → n ≡ node.Throw e
      → node_of reader n at locals ≡ declaring_none locals (mapped (λ e. nodes.Throw e) (read_expr reader locals e))
  at-Throw n e is = by_node n _ _ is (fold-node-Throw (statement reader) (node_step reader) e)
      ∙ ap (declaring_none locals) (twice-mapped node_alone (λ e. spell.plain (nodes.Throw e)) (read_expr reader locals e))

  pub at-Break : (n : StmtNode) → n ≡ node.Break → node_of reader n at locals ≡ declaring_none locals (fine nodes.Break)
  at-Break n is = by_node n _ _ is (fold-node-Break (statement reader) (node_step reader))

  pub at-Continue : (n : StmtNode) → n ≡ node.Continue → node_of reader n at locals ≡ declaring_none locals (fine nodes.Continue)
  at-Continue n is = by_node n _ _ is (fold-node-Continue (statement reader) (node_step reader))

  pub at-Empty : (n : StmtNode) → n ≡ node.Empty → node_of reader n at locals ≡ declaring_none locals (fine nodes.Empty)
  at-Empty n is = by_node n _ _ is (fold-node-Empty (statement reader) (node_step reader))

  super-at : (n : StmtNode) (args : List Expr) → n ≡ node.SuperInit args
      → node_of reader n at locals ≡ declaring_none locals (beside (read_exprs reader locals args)
      (λ values. super_if reader reader.in_constructor at values (super_constructor reader.view reader.class (length args))))
  super-at n args is = by_node n _ _ is (fold-node-SuperInit (statement reader) (node_step reader) args)
      ∙ (λ i. declaring_none locals (record {
        value = bare (beside (read_exprs reader locals args) (λ values.
            super_if reader reader.in_constructor at values (super_constructor reader.view reader.class (length args)))).value i;
        faults = (beside (read_exprs reader locals args) (λ values.
            super_if reader reader.in_constructor at values (super_constructor reader.view reader.class (length args)))).faults;
      }))

  -- the arguments may be found as another list
  pub at-SuperInit : (n : StmtNode) (args found : List Expr) → n ≡ node.SuperInit args → found ≡ args
      → node_of reader n at locals ≡ declaring_none locals (beside (read_exprs reader locals found)
      (λ values. super_if reader reader.in_constructor at values (super_constructor reader.view reader.class (length found))))
  at-SuperInit n args found is same = super-at n found (is ∙ ap (λ args. node.SuperInit args) (sym same))
