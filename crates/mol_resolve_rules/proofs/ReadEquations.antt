-- How expressions, statements and types are read, one by one: each from how its parts are read.
use Rattle.std.proofs.Common.{◌≡◌, ℕ, List, [], ◌∷◌, map, Option, Some, None, ap, sym, ◌∙◌}
use Rattle.jav_tree.proofs.ExpressionFolds.{ExprFold, fold-placed, fold-Lit, fold-This, fold-Name, fold-Dot, fold-Call, fold-New, fold-Index, fold-Paren}
use Rattle.jav_tree.proofs.StatementFolds.{StmtFold, folded_node, folded_stmt, fold-node-Let, fold-node-Return, fold-block, fold-stmt}
use Rattle.jav_tree.specs.Blocks.{block_of}
use Rattle.jav_tree.specs.Expressions.{expr_at}
use Rattle.jav_tree.specs.declared.expr.Expr.{Expr}
use Rattle.jav_tree.specs.declared.expr.ExprNode.TheOpen.{ExprNode-F}
use Rattle.jav_tree.specs.declared.expr.ExprNode.TheVariants as node
use Rattle.jav_tree.specs.declared.stmt.Else.TheOpen.{StmtNode-F}
use Rattle.jav_tree.specs.declared.stmt.Let.{Let}
use Rattle.jav_tree.specs.declared.stmt.Stmt.{Stmt}
use Rattle.jav_tree.specs.declared.stmt.StmtNode.{StmtNode}
use Rattle.jav_tree.specs.declared.stmt.StmtNode.TheVariants as stmt_node
use Rattle.jav_tree.specs.declared.types.TypeName.{TypeName}
use Rattle.jav_tree.specs.declared.types.TypeName.TheFolds.{fold-roll-TypeName}
use Rattle.jav_tree.specs.declared.types.TypeName.TheOpen.{TypeName-F}
use Rattle.jav_tree.specs.declared.types.TypeName.TheVariants as types
use Rattle.jav_names.specs.DottedNames.{Name}
use Rattle.mol_values_types.specs.declared.iblock.IBlock.{IBlock}
use Rattle.mol_values_types.specs.declared.iblock.IElse.{IElse}
use Rattle.mol_values_types.specs.declared.itype.IType.{IType}
use Rattle.mol_resolve_rules.specs.Locals.{Locals}
use Rattle.mol_resolve_rules.specs.Outcomes.{mapped}
use Rattle.mol_resolve_rules.specs.Readers.{Reader}
use Rattle.mol_resolve_rules.specs.ReadStatements as statements
use Rattle.mol_resolve_rules.specs.ReadStatements.{ReadsTo, ReadNode, ReadStatement, block_reading}
use Rattle.mol_resolve_rules.specs.ReadTypes.{type_step, type_tree, primitive_tree}
use Rattle.mol_resolve_rules.specs.ReadTrees.{Meant, Reading, node_step, expr_step, reading, read_expr}

module _ {C M : Type 0} (reader : Reader C M) where
  abbrev read : ExprFold
  read = record { Node = ℕ → Reading C; Whole = Reading C; of_node = node_step reader; of_expr = expr_step reader }

  -- a node at a place, once its parts are read
  abbrev pub at_place : ℕ → ExprNode-F (ℕ → Reading C) (Reading C) → Reading C
  at_place at parts = node_step reader parts at

  pub reads-Lit : (at : ℕ) (text : Name) → reading reader (expr_at at (node.Lit text)) ≡ at_place at (ExprNode-F.Lit text)
  reads-Lit at text = fold-placed read at (node.Lit text) ∙ ap (λ made. made at) (fold-Lit read text)

  pub reads-This : (at : ℕ) → reading reader (expr_at at node.This) ≡ at_place at ExprNode-F.This
  reads-This at = fold-placed read at node.This ∙ ap (λ made. made at) (fold-This read)

  pub reads-Name : (at : ℕ) (name : Name) → reading reader (expr_at at (node.Name name)) ≡ at_place at (ExprNode-F.Name name)
  reads-Name at name = fold-placed read at (node.Name name) ∙ ap (λ made. made at) (fold-Name read name)

  pub reads-Dot : (at : ℕ) (e : Expr) (name : Name) (part : Reading C) → reading reader e ≡ part
      → reading reader (expr_at at (node.Dot e name)) ≡ at_place at (ExprNode-F.Dot part name)
  reads-Dot at e name part is = fold-placed read at (node.Dot e name) ∙ ap (λ made. made at) (fold-Dot read e name)
      ∙ ap (λ part. at_place at (ExprNode-F.Dot part name)) is

  pub reads-Call : (at : ℕ) (name : Name) (args : List Expr) (parts : List (Reading C)) → map (reading reader) args ≡ parts
      → reading reader (expr_at at (node.Call None name args)) ≡ at_place at (ExprNode-F.Call None name parts)
  reads-Call at name args parts is = fold-placed read at (node.Call None name args) ∙ ap (λ made. made at) (fold-Call read None name args)
      ∙ ap (λ parts. at_place at (ExprNode-F.Call None name parts)) is

  pub reads-CallOn : (at : ℕ) (e : Expr) (name : Name) (args : List Expr) (part : Reading C) (parts : List (Reading C))
      → reading reader e ≡ part → map (reading reader) args ≡ parts
      → reading reader (expr_at at (node.Call (Some e) name args)) ≡ at_place at (ExprNode-F.Call (Some part) name parts)
  reads-CallOn at e name args part parts is are =
      fold-placed read at (node.Call (Some e) name args) ∙ ap (λ made. made at) (fold-Call read (Some e) name args)
      ∙ (λ i. at_place at (ExprNode-F.Call (Some (is i)) name (are i)))

  pub reads-New : (at : ℕ) (type : TypeName) (args : List Expr) (parts : List (Reading C)) → map (reading reader) args ≡ parts
      → reading reader (expr_at at (node.New type args)) ≡ at_place at (ExprNode-F.New type parts)
  reads-New at type args parts is = fold-placed read at (node.New type args) ∙ ap (λ made. made at) (fold-New read type args)
      ∙ ap (λ parts. at_place at (ExprNode-F.New type parts)) is

  pub reads-Index : (at : ℕ) (e k : Expr) (part index : Reading C) → reading reader e ≡ part → reading reader k ≡ index
      → reading reader (expr_at at (node.Index e k)) ≡ at_place at (ExprNode-F.Index part index)
  reads-Index at e k part index is index-is = fold-placed read at (node.Index e k) ∙ ap (λ made. made at) (fold-Index read e k)
      ∙ (λ i. at_place at (ExprNode-F.Index (is i) (index-is i)))

  pub reads-Paren : (at : ℕ) (e : Expr) (part : Reading C) → reading reader e ≡ part
      → reading reader (expr_at at (node.Paren e)) ≡ at_place at (ExprNode-F.Paren part)
  reads-Paren at e part is = fold-placed read at (node.Paren e) ∙ ap (λ made. made at) (fold-Paren read e)
      ∙ ap (λ part. at_place at (ExprNode-F.Paren part)) is

  pub one-read : (e : Expr) (part : Reading C) → reading reader e ≡ part → map (reading reader) (e ∷ []) ≡ part ∷ []
  one-read e part is = λ i. is i ∷ []

  -- what stands alone, once it is read
  pub expr-read : (locals : Locals C) (e : Expr) (part : Reading C) → reading reader e ≡ part
      → read_expr reader locals e ≡ mapped (λ (value : Meant C). value.tree) (part.means locals None)
  expr-read locals e part is = ap (λ (part : Reading C). mapped (λ (value : Meant C). value.tree) (part.means locals None)) is

  -- ---- types

  pub tree-Prim : (text : Name) → type_tree reader (types.Prim text) ≡ primitive_tree text
  tree-Prim text = ap (type_tree reader) (sym (types.rolls-Prim text))
      ∙ fold-roll-TypeName (Option IType) (type_step reader) (TypeName-F.Prim text)

  pub tree-Named : (text : Name) → type_tree reader (types.Named text) ≡ type_step reader (TypeName-F.Named text)
  tree-Named text = ap (type_tree reader) (sym (types.rolls-Named text))
      ∙ fold-roll-TypeName (Option IType) (type_step reader) (TypeName-F.Named text)

  -- ---- statements

  abbrev pub statement : StmtFold
  statement = record {
    Other = ReadsTo C IElse;
    Node = ℕ → ReadsTo C ReadNode;
    Whole = ReadsTo C IBlock;
    Line = ReadsTo C ReadStatement;
    of_else = statements.else_step reader;
    of_block = statements.block_step reader;
    of_stmt = statements.stmt_step reader;
  }

  -- a statement without comments, once its parts are read
  abbrev pub line_at : ℕ → StmtNode-F (ReadsTo C IElse) (ℕ → ReadsTo C ReadNode) (ReadsTo C IBlock) (ReadsTo C ReadStatement)
      → ReadsTo C ReadStatement
  line_at at parts = statements.stmt_step reader (record { notes = []; at = at; node = statements.node_step reader parts })

  abbrev pub stmt_reading : Stmt → ReadsTo C ReadStatement
  stmt_reading = folded_stmt statement (statements.node_step reader)

  line : (at : ℕ) (made : StmtNode) (part : ℕ → ReadsTo C ReadNode) → folded_node statement (statements.node_step reader) made ≡ part
      → stmt_reading (record { notes = []; at = at; node = made })
      ≡ statements.stmt_step reader (record { notes = []; at = at; node = part })
  line at made part is = fold-stmt statement (statements.node_step reader) [] at made
      ∙ ap (λ (part : ℕ → ReadsTo C ReadNode). statements.stmt_step reader (record { notes = []; at = at; node = part })) is

  pub reads-Let : (at : ℕ) (declared : Let) → stmt_reading (record { notes = []; at = at; node = stmt_node.Let declared })
      ≡ line_at at (StmtNode-F.Let declared)
  reads-Let at declared = line at (stmt_node.Let declared) _ (fold-node-Let statement (statements.node_step reader) declared)

  pub reads-Return : (at : ℕ) (e : Option Expr) → stmt_reading (record { notes = []; at = at; node = stmt_node.Return e })
      ≡ line_at at (StmtNode-F.Return e)
  reads-Return at e = line at (stmt_node.Return e) _ (fold-node-Return statement (statements.node_step reader) e)

  pub reads-block : (items : List Stmt) (parts : List (ReadsTo C ReadStatement)) → map stmt_reading items ≡ parts
      → block_reading reader (block_of items []) ≡ statements.block_step reader (record { items = parts; tail = [] })
  reads-block items parts is = fold-block statement (statements.node_step reader) items []
      ∙ ap (λ (parts : List (ReadsTo C ReadStatement)). statements.block_step reader (record { items = parts; tail = [] })) is
