-- How loops are written, from their headers and bodies (JLS 14.12, 14.14).
use Rattle.std.proofs.Common.{◌≡◌, Bool, List, [], ◌∷◌, map, length, take, Option, Some, None, option_map, refl, sym, ap, ◌∙◌, subst}
use Rattle.mol_base.specs.declared.ident.Id.{Id}
use Rattle.mol_spell_body.proofs.Declared.{tree_of}
use Rattle.mol_spell_body.proofs.InTurn.{block_ends, declared_stays, made_on, none_declared, then_on}
use Rattle.mol_spell_body.specs.GoesOn.{GoesOn}
use Rattle.mol_spell_body.specs.Loops.{each_header, for_header, for_part, header_of, loop_node, loop_of, while_header}
use Rattle.mol_spell_body.specs.declared.headers.Header.{Header}
use Rattle.mol_spell_body.specs.declared.headers.Header.TheVariants as header
use Rattle.mol_spell_body.specs.declared.loops.Loop.{Loop}
use Rattle.jav_tree.specs.declared.expr.Expr.{Expr}
use Rattle.jav_tree.specs.declared.stmt.Block.{Block}
use Rattle.jav_tree.specs.declared.stmt.ForStart.{ForStart}
use Rattle.jav_tree.specs.declared.stmt.ForStart.TheVariants as openings
use Rattle.jav_tree.specs.declared.stmt.Let.{Let}
use Rattle.jav_tree.specs.declared.stmt.StmtNode.{StmtNode}
use Rattle.jav_names.specs.DottedNames.{Name}
use Rattle.mol_resolve_rules.specs.Locals.{Locals, declare}
use Rattle.mol_resolve_rules.specs.ProgramViews.{seen}
use Rattle.mol_spell_rules.specs.SpelledExpressions.{spelled_expr, trees}
use Rattle.mol_spell_rules.specs.SpelledStatements.{declared_type, header as for_rest, spelled_block, spelled_let, spelled_start, then_next}
use Rattle.mol_spell_rules.specs.Writers.{Writer}
use Rattle.mol_values_types.specs.declared.iblock.IBlock.{IBlock}
use Rattle.mol_values_types.specs.declared.iblock.IForStart.{IForStart}
use Rattle.mol_values_types.specs.declared.iblock.IForStart.TheVariants as starts
use Rattle.mol_values_types.specs.declared.iblock.ILet.{ILet}
use Rattle.mol_values_types.specs.declared.iexpr.IExpr.{IExpr}
use Rattle.mol_values_types.specs.declared.itype.IType.{IType}

module _ (writer : Writer) (locals : Locals Id) where
  pub all-trees : (es : List IExpr) → trees (map (spelled_expr writer locals) es) ≡ map (tree_of writer locals) es
  all-trees [] = refl
  all-trees (e ∷ es) = ap (λ rest. tree_of writer locals e ∷ rest) (all-trees es)

  pub while-goes : (test : IExpr) (made : Header) → made ≡ header.While (tree_of writer locals test)
      → GoesOn (while_header writer test) made locals locals
  while-goes test made is = none_declared (while_header writer test) made locals refl is

  -- the test and the steps of a `for`
  rest-goes : (test : Option IExpr) (steps : List IExpr) (tree : Option Expr) (all : List Expr)
      → tree ≡ option_map (tree_of writer locals) test → all ≡ map (tree_of writer locals) steps
      → GoesOn (for_rest writer test steps) (tree, all) locals locals
  rest-goes None steps tree all is are = none_declared (for_rest writer None steps) (tree, all) locals refl
      (λ i. (is i, (are ∙ sym (all-trees steps)) i))
  rest-goes (Some e) steps tree all is are = none_declared (for_rest writer (Some e) steps) (tree, all) locals refl
      (λ i. (is i, (are ∙ sym (all-trees steps)) i))

  pub each-goes : (is_final : Bool) (type : IType) (name : Name) (e : IExpr) (made : Header) (after : Locals Id)
      → made ≡ header.Each is_final (declared_type writer locals type).tree name (tree_of writer locals e)
      → after ≡ declare (record { name = name; type = seen type }) locals
      → GoesOn (each_header writer is_final type name e) made locals after
  each-goes is_final type name e made after is declared = record {
    is_written = is;
    are_declared = declared;
    stay_in_scope = declared_stays (record { name = name; type = seen type }) locals after declared;
  }

module _ (writer : Writer) where
  pub for-goes : (start : IForStart) (test : Option IExpr) (steps : List IExpr) (first : ForStart) (tree : Option Expr) (all : List Expr)
      (made : Header) (locals after : Locals Id) → GoesOn (spelled_start writer start) first locals after
      → tree ≡ option_map (tree_of writer after) test → all ≡ map (tree_of writer after) steps → made ≡ header.For first tree all
      → GoesOn (for_header writer start test steps) made locals after
  for-goes start test steps first tree all made locals after goes is are made_is =
      made_on for_part (λ locals. then_next (spelled_start writer start locals) (for_rest writer test steps)) (first, (tree, all)) made
      locals after
      (then_on (spelled_start writer start) (for_rest writer test steps) first (tree, all) locals after after goes
      (rest-goes writer after test steps tree all is are)) made_is

  -- ---- what stands before the first `;` in the header of a `for`

  pub no-start : (start : IForStart) (locals : Locals Id) → start ≡ starts.None
      → GoesOn (spelled_start writer start) openings.None locals locals
  no-start start locals is =
      subst (λ start. GoesOn (spelled_start writer start) openings.None locals locals) (sym is)
      (none_declared (spelled_start writer starts.None) openings.None locals refl refl)

  pub start-of-let : (start : IForStart) (declared : ILet) (inner : Let) (locals after : Locals Id) → start ≡ starts.Let declared
      → GoesOn (spelled_let writer declared) inner locals after → GoesOn (spelled_start writer start) (openings.Let inner) locals after
  start-of-let start declared inner locals after is goes =
      subst (λ start. GoesOn (spelled_start writer start) (openings.Let inner) locals after) (sym is)
      (made_on (λ declared. openings.Let declared) (spelled_let writer declared) inner (openings.Let inner) locals after goes refl)

  -- the expressions may be found as another value
  pub start-of-exprs : (start : IForStart) (es found : List IExpr) (all : List Expr) (locals : Locals Id) → start ≡ starts.Do es
      → found ≡ es
      → all ≡ map (tree_of writer locals) found → GoesOn (spelled_start writer start) (openings.Do all) locals locals
  start-of-exprs start es found all locals is same are =
      subst (λ start. GoesOn (spelled_start writer start) (openings.Do all) locals locals) (sym is)
      (none_declared (spelled_start writer (starts.Do es)) (openings.Do all) locals refl
      (ap (λ all. openings.Do all) (are ∙ ap (map (tree_of writer locals)) same ∙ sym (all-trees writer locals es))))

  -- ---- a loop, and the end of its block

  pub loop-goes : (kind : Loop) (block : IBlock) (head : Header) (body : Block) (tree : StmtNode) (locals middle after ended : Locals Id)
      → GoesOn (header_of writer kind) head locals middle → GoesOn (spelled_block writer block) body middle after
      → tree ≡ loop_node (head, body)
      → ended ≡ record { declared = after.declared; in_scope = take (length locals.in_scope) after.in_scope }
      → GoesOn (loop_of writer kind block) tree locals ended
  loop-goes kind block head body tree locals middle after ended first further is ends =
      block_ends _ tree locals after ended
      (made_on loop_node (λ locals. then_next (header_of writer kind locals) (spelled_block writer block)) (head, body) tree locals after
      (then_on (header_of writer kind) (spelled_block writer block) head body locals middle after first further) is) ends
