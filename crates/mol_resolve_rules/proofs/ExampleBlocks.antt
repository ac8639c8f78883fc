-- A body with a local, read in `Cart.total` of the shop: `{ int Desk = 1; return tax(Desk); }`.
use Rattle.std.proofs.Common.{◌≡◌, ℕ, false, List, [], ◌∷◌, Some, None, codes, refl}
use Rattle.jav_tree.specs.Blocks.{block_of}
use Rattle.jav_tree.specs.Expressions.{expr_at}
use Rattle.jav_tree.specs.declared.expr.Expr.{Expr}
use Rattle.jav_tree.specs.declared.expr.ExprNode.TheVariants as expr_node
use Rattle.jav_tree.specs.declared.stmt.Block.{Block}
use Rattle.jav_tree.specs.declared.stmt.Else.TheOpen.{StmtNode-F}
use Rattle.jav_tree.specs.declared.stmt.Let.{Let}
use Rattle.jav_tree.specs.declared.stmt.Stmt.{Stmt}
use Rattle.jav_tree.specs.declared.stmt.StmtNode.{StmtNode}
use Rattle.jav_tree.specs.declared.stmt.StmtNode.TheVariants as node
use Rattle.jav_tree.specs.declared.types.TypeName.TheVariants as names
use Rattle.jav_names.specs.UnitViews.{MemberKey, header_of}
use Rattle.jav_names.proofs.ExampleReadings.{cart}
use Rattle.mol_values_types.specs.Blocks as by_identity
use Rattle.mol_values_types.specs.declared.iblock.IStmtNode.TheVariants as nodes
use Rattle.mol_values_types.specs.declared.iexpr.IExpr.TheVariants as exprs
use Rattle.mol_values_types.specs.declared.itype.IType.TheVariants as types
use Rattle.mol_resolve_rules.specs.Locals.{no_locals}
use Rattle.mol_resolve_rules.specs.Outcomes.{fine}
use Rattle.mol_resolve_rules.specs.Readers.{Reader}
use Rattle.mol_resolve_rules.specs.ReadStatements.{ReadsTo, ReadStatement, block_reading}
use Rattle.mol_resolve_rules.specs.Numbering.{ids_by}
use Rattle.mol_resolve_rules.proofs.ExampleShop.{base, files, view}
use Rattle.mol_resolve_rules.proofs.ReadEquations.{reads-Lit, reads-Name, reads-Call, one-read, tree-Prim, line_at, reads-Let, reads-Return, reads-block}

abbrev in_total : Reader ℕ MemberKey
in_total = record { view = view; ids = ids_by view files; header = header_of (0, cart); class = 0; params = []; in_constructor = false }

-- ---- the tree

abbrev one : Expr
one = expr_at 13 (expr_node.Lit (codes "1"))

abbrev desk_name : Expr
desk_name = expr_at 27 (expr_node.Name (codes "Desk"))

abbrev tax_call : Expr
tax_call = expr_at 23 (expr_node.Call None (codes "tax") (desk_name ∷ []))

abbrev let_desk : Let
let_desk = record { is_final = false; ty = names.Prim (codes "int"); names = record { name = codes "Desk"; init = Some one } ∷ [] }

abbrev line : ℕ → StmtNode → Stmt
line at made = record { notes = []; at = at; node = made }

abbrev body : Block
body = block_of (line 2 (node.Let let_desk) ∷ line 16 (node.Return (Some tax_call)) ∷ []) []

abbrev lines : List (ReadsTo ℕ ReadStatement)
lines = line_at in_total 2 (StmtNode-F.Let let_desk) ∷ line_at in_total 16 (StmtNode-F.Return (Some tax_call)) ∷ []

-- The local is number 0, and the call is that of the static method `:12`, whose parameter is `:13`.
desk_local : (block_reading in_total body no_locals).outcome ≡ fine (by_identity.block_of
    (record {
      notes = [];
      node = nodes.Let
          (record { is_final = false; ty = types.Int; names = record { name = codes "Desk"; init = Some (exprs.Lit (codes "1")) } ∷ [] });
    } ∷ record {
      notes = [];
      node = nodes.Return (Some (exprs.StaticCall (base 12) (record { param = base 13; value = exprs.Local 0 } ∷ [])));
    } ∷ []) [])
desk_local = rw (
  reads-block in_total (line 2 (node.Let let_desk) ∷ line 16 (node.Return (Some tax_call)) ∷ []) lines
      (λ i. reads-Let in_total 2 let_desk i ∷ reads-Return in_total 16 (Some tax_call) i ∷ []),
  tree-Prim in_total (codes "int"),
  reads-Lit in_total 13 (codes "1"),
  reads-Call in_total 23 (codes "tax") (desk_name ∷ []) _ (one-read in_total desk_name _ (reads-Name in_total 27 (codes "Desk"))),
) refl
