-- Bodies of worked programs, tidied: those of `pay` in the class Till, and of `total` in Cart.
use Rattle.std.specs.Prelude.{◌≡◌, ℕ, List, [], ◌∷◌, map, codes, Option, Some, false}
use Rattle.std.proofs.Common.{sym, ap, ◌∙◌}
use Rattle.mol_base.specs.declared.ident.Id.{Id}
use Rattle.mol_table_rules.specs.Tidy.{tidy_node, tidy_statement, tidy_value, else_step, node_step, block_step, if_step, statement_step}
use Rattle.mol_values_types.specs.Blocks.{block_of}
use Rattle.mol_values_types.specs.declared.iblock.IBlock.{IBlock}
use Rattle.mol_values_types.specs.declared.iblock.IElse.{IElse}
use Rattle.mol_values_types.specs.declared.iblock.IElse.TheFolds.{fold-roll-IStmtNode, fold-roll-IBlock, fold-roll-IStmt}
use Rattle.mol_values_types.specs.declared.iblock.IElse.TheOpen.{IStmtNode-F}
use Rattle.mol_values_types.specs.declared.iblock.IElse.TheViews.{roll-IStmt}
use Rattle.mol_values_types.specs.declared.iblock.IIf.{IIf}
use Rattle.mol_values_types.specs.declared.iblock.ILet.{ILet}
use Rattle.mol_values_types.specs.declared.iblock.IStmt.{IStmt}
use Rattle.mol_values_types.specs.declared.iblock.IStmtNode.{IStmtNode}
use Rattle.mol_values_types.specs.declared.iblock.IStmtNode.TheVariants as nodes
use Rattle.mol_values_types.specs.declared.iexpr.IExpr.{IExpr}
use Rattle.mol_values_types.specs.declared.iexpr.IExpr.TheVariants as exprs
use Rattle.mol_values_types.specs.declared.itype.IType.TheVariants as types
use Rattle.mol_values_types.specs.declared.param.Param.{Param}
use Rattle.mol_values_types.specs.declared.value.Value.{Value}
use Rattle.mol_values_types.specs.declared.value.Value.TheVariants as values
use Rattle.mol_table_rules.proofs.TidyExamples.{base, ann, given, lit, tidied, lit_is, none, no_params, total, changed, add, shorter, add_shorter, amount, tax}

-- a statement without comments
abbrev stated : IStmtNode → IStmt
stated node = roll-IStmt (record { notes = []; node = node })

abbrev done : IExpr → IStmt
done e = stated (nodes.Do e)

abbrev returned : IExpr → IStmt
returned e = stated (nodes.Return (Some e))

-- `int` and a name, with this first value
abbrev int_local : List ℕ → IExpr → ILet
int_local name e = record { is_final = false; ty = types.Int; names = record { name = name; init = Some e } ∷ [] }

abbrev declared : List ℕ → IExpr → IStmt
declared name e = stated (nodes.Let (int_local name e))

-- the value of a cell `body`
abbrev body : List IStmt → Value
body items = values.Body (Some (record { block = block_of items [] }))

-- ---- how each part is tidied

module _ (present : Id → List Param) (bare : Id → Option Id) where
  abbrev tidied_statement : IStmt → IStmt
  tidied_statement = tidy_statement present bare

  stated_is : (node new : IStmtNode) → tidy_node present bare node ≡ new → tidied_statement (stated node) ≡ stated new
  stated_is node new is =
      fold-roll-IStmt IElse IStmtNode IBlock IIf IStmt (else_step present bare) (node_step present bare) (block_step present bare) (if_step present bare) (statement_step present bare)
      (record { notes = []; node = node })
      ∙ ap stated is

  done_is : (e new : IExpr) → tidied present bare e ≡ new → tidied_statement (done e) ≡ done new
  done_is e new is =
      stated_is (nodes.Do e) (nodes.Do new)
      (ap (tidy_node present bare) (sym (nodes.rolls-Do e))
      ∙ fold-roll-IStmtNode IElse IStmtNode IBlock IIf IStmt (else_step present bare) (node_step present bare) (block_step present bare) (if_step present bare) (statement_step present bare) (IStmtNode-F.Do e)
      ∙ ap nodes.Do is)

  returned_is : (e new : IExpr) → tidied present bare e ≡ new → tidied_statement (returned e) ≡ returned new
  returned_is e new is =
      stated_is (nodes.Return (Some e)) (nodes.Return (Some new))
      (ap (tidy_node present bare) (sym (nodes.rolls-Return (Some e)))
      ∙ fold-roll-IStmtNode IElse IStmtNode IBlock IIf IStmt (else_step present bare) (node_step present bare) (block_step present bare) (if_step present bare) (statement_step present bare) (IStmtNode-F.Return (Some e))
      ∙ ap (λ (v : IExpr). nodes.Return (Some v)) is)

  declared_is : (name : List ℕ) (e new : IExpr) → tidied present bare e ≡ new → tidied_statement (declared name e) ≡ declared name new
  declared_is name e new is =
      stated_is (nodes.Let (int_local name e)) (nodes.Let (int_local name new))
      (ap (tidy_node present bare) (sym (nodes.rolls-Let (int_local name e)))
      ∙ fold-roll-IStmtNode IElse IStmtNode IBlock IIf IStmt (else_step present bare) (node_step present bare) (block_step present bare) (if_step present bare) (statement_step present bare) (IStmtNode-F.Let (int_local name e))
      ∙ ap (λ (v : IExpr). nodes.Let (int_local name v)) is)

  body_is : (items new : List IStmt) → map tidied_statement items ≡ new → tidy_value present bare (body items) ≡ body new
  body_is items new is =
      ap (λ (b : IBlock). values.Body (Some (record { block = b })))
      (fold-roll-IBlock IElse IStmtNode IBlock IIf IStmt (else_step present bare) (node_step present bare) (block_step present bare) (if_step present bare) (statement_step present bare)
      (record { items = items; tail = [] })
      ∙ ap (λ (list : List IStmt). block_of list []) is)

-- ---- `return cart.total();`

pub pay_total : tidy_value no_params none (body (returned (exprs.CallOn (base 11) (exprs.Param (base 19)) []) ∷ [])) ≡ body (returned (exprs.CallOn (base 11) (exprs.Param (base 19)) []) ∷ [])
pay_total = body_is no_params none _ _ (λ i. returned_is no_params none _ _ total i ∷ [])

-- ---- `cart.add(2, 3); return 0;`, which becomes `cart.add(3, 2, 0); return 0;`

pub pay_add : tidy_value changed none (body (
    done (exprs.CallOn (base 14) (exprs.Param (base 19)) (given (base 15) (lit (codes "2")) ∷ given (base 16) (lit (codes "3")) ∷ []))
    ∷ returned (lit (codes "0")) ∷ []))
    ≡ body (
    done (exprs.CallOn (base 14) (exprs.Param (base 19)) (given (base 16) (lit (codes "3")) ∷ given (base 15) (lit (codes "2")) ∷ given (ann 1) (lit (codes "0")) ∷ []))
    ∷ returned (lit (codes "0")) ∷ [])
pay_add = body_is changed none _ _ (λ i. done_is changed none _ _ add i ∷ returned_is changed none _ _ (lit_is changed none (codes "0")) i ∷ [])

-- ---- `cart.add(1, Cart.tax(2)); return 0;`, which becomes `cart.add(1); return 0;`

pub pay_add_shorter : tidy_value shorter none (body (
    done (exprs.CallOn (base 14) (exprs.Param (base 19)) (given (base 15) (lit (codes "1")) ∷ given (base 16) (exprs.StaticCall (base 12) (given (base 13) (lit (codes "2")) ∷ [])) ∷ []))
    ∷ returned (lit (codes "0")) ∷ []))
    ≡ body (done (exprs.CallOn (base 14) (exprs.Param (base 19)) (given (base 15) (lit (codes "1")) ∷ [])) ∷ returned (lit (codes "0")) ∷ [])
pay_add_shorter = body_is shorter none _ _ (λ i. done_is shorter none _ _ add_shorter i ∷ returned_is shorter none _ _ (lit_is shorter none (codes "0")) i ∷ [])

-- ---- `int Desk = 1; return tax(Desk);`

pub total_tax : tidy_value amount none (body (declared (codes "Desk") (lit (codes "1")) ∷ returned (exprs.StaticCall (base 12) (given (base 13) (exprs.Local 0) ∷ [])) ∷ []))
    ≡ body (declared (codes "Desk") (lit (codes "1")) ∷ returned (exprs.StaticCall (base 12) (given (base 13) (exprs.Local 0) ∷ [])) ∷ [])
total_tax = body_is amount none _ _ (λ i. declared_is amount none (codes "Desk") _ _ (lit_is amount none (codes "1")) i ∷ returned_is amount none _ _ tax i ∷ [])
