-- How blocks, statements and branches are written, from their parts (JLS 14.2, 14.9).
use Rattle.std.proofs.Common.{◌≡◌, List, length, take, sym, ap, ◌∙◌}
use Rattle.mol_base.specs.declared.ident.Id.{Id}
use Rattle.mol_spell_body.proofs.Declared.{tree_of}
use Rattle.mol_spell_body.proofs.InTurn.{block_ends, made_on, none_declared, said_so}
use Rattle.mol_spell_places.proofs.body_places_lemmas.StatementSteps.{block-is, else-block, else-if, else-none, if-is, stmt-is}
use Rattle.mol_spell_body.specs.GoesOn.{GoesOn}
use Rattle.mol_spell_body.specs.Made as made
use Rattle.mol_spell_places.specs.body_places.Statements.{else_spelling, if_spelling, node_spelling, statements_spelling, stmt_spelling}
use Rattle.jav_tree.specs.declared.expr.Expr.{Expr}
use Rattle.jav_tree.specs.declared.stmt.Block.{Block}
use Rattle.jav_tree.specs.declared.stmt.Else.{Else}
use Rattle.jav_tree.specs.declared.stmt.Else.TheVariants as otherwise
use Rattle.jav_tree.specs.declared.stmt.Stmt.{Stmt}
use Rattle.jav_tree.specs.declared.stmt.StmtNode.{StmtNode}
use Rattle.jav_names.specs.DottedNames.{Name}
use Rattle.mol_resolve_rules.specs.Locals.{Locals}
use Rattle.mol_spell_rules.specs.SpelledStatements.{Spells, in_block, mapped, one_expr, spelled_block, then_next}
use Rattle.mol_spell_rules.specs.Writers.{Writer}
use Rattle.mol_values_types.specs.declared.iblock.IBlock.{IBlock, out-IBlock}
use Rattle.mol_values_types.specs.declared.iblock.IElse.{IElse}
use Rattle.mol_values_types.specs.declared.iblock.IElse.TheVariants as elses
use Rattle.mol_values_types.specs.declared.iblock.IIf.{IIf, out-IIf}
use Rattle.mol_values_types.specs.declared.iblock.IStmt.{IStmt}
use Rattle.mol_values_types.specs.declared.iexpr.IExpr.{IExpr}

module _ (writer : Writer) (locals : Locals Id) where
  -- a block and its end
  pub block-goes : (block : IBlock) (items : List IStmt) (tail : List Name) (all : List Stmt) (tree : Block) (after ended : Locals Id)
      → items ≡ (out-IBlock block).items → tail ≡ (out-IBlock block).tail → GoesOn (statements_spelling writer items) all locals after
      → tree ≡ made.block tail all
      → ended ≡ record { declared = after.declared; in_scope = take (length locals.in_scope) after.in_scope }
      → GoesOn (spelled_block writer block) tree locals ended
  block-goes block items tail all tree after ended same same_tail goes is ends =
      said_so (λ locals. in_block locals (mapped (made.block tail) (statements_spelling writer items locals)))
      (spelled_block writer block) tree
      locals ended
      (block-is writer block locals
      ∙ sym (λ i. in_block locals (mapped (made.block (same_tail i)) (statements_spelling writer (same i) locals))))
      (block_ends (λ locals. mapped (made.block tail) (statements_spelling writer items locals)) tree locals after ended
      (made_on (made.block tail) (statements_spelling writer items) all tree locals after goes is) ends)

  -- a statement with its comments
  pub statement-goes : (s : IStmt) (notes : List Name) (inner : StmtNode) (tree : Stmt) (after : Locals Id) → notes ≡ s.notes
      → GoesOn (node_spelling writer s.node) inner locals after → tree ≡ made.statement notes inner
      → GoesOn (stmt_spelling writer s) tree locals after
  statement-goes s notes inner tree after same goes is =
      said_so (λ locals. mapped (made.statement s.notes) (node_spelling writer s.node locals)) (stmt_spelling writer s) tree locals after
      (stmt-is writer s.notes s.node locals)
      (made_on (made.statement s.notes) (node_spelling writer s.node) inner tree locals after goes
      (is ∙ ap (λ notes. made.statement notes inner) same))

  -- an `if`, whose parts may be found as other values
  pub if-goes : (branch : IIf) (test : IExpr) (then : IBlock) (rest : IElse) (test_tree : Expr) (then_tree : Block) (rest_tree : Else)
      (tree : StmtNode) (after : Locals Id) → test ≡ (out-IIf branch).test → then ≡ (out-IIf branch).then → rest ≡ (out-IIf branch).rest
      → test_tree ≡ tree_of writer locals test
      → GoesOn (λ locals. then_next (spelled_block writer then locals) (else_spelling writer rest)) (then_tree, rest_tree) locals after
      → tree ≡ made.branches ((test_tree, then_tree), rest_tree) → GoesOn (if_spelling writer branch) tree locals after
  if-goes branch test then rest test_tree then_tree rest_tree tree after same same_then same_rest test_is goes is =
      let whole : if_spelling writer branch locals
      ≡ mapped made.branches (then_next (then_next (one_expr writer test locals) (spelled_block writer then)) (else_spelling writer rest)) =
      if-is writer branch locals
      ∙ sym (λ i. mapped made.branches (then_next (then_next (one_expr writer (same i) locals) (spelled_block writer (same_then i)))
      (else_spelling writer (same_rest i))))
      in
      record {
        is_written = is ∙ (λ i. made.branches ((test_is i, (goes.is_written i).0), (goes.is_written i).1))
            ∙ sym (ap (λ part. part.tree) whole);
        are_declared = goes.are_declared ∙ sym (ap (λ part. part.locals) whole);
        stay_in_scope = goes.stay_in_scope;
      }

-- # What follows `else`

module _ (writer : Writer) (rest : IElse) (tree : Else) (locals after : Locals Id) where
  abbrev Comes : Type 0
  Comes = GoesOn (else_spelling writer rest) tree locals after

  pub else-of-block : (block : IBlock) (inner : Block) → rest ≡ elses.Block block → GoesOn (spelled_block writer block) inner locals after
      → tree ≡ otherwise.Block inner → Comes
  else-of-block block inner is goes made_is =
      said_so (λ locals. mapped (λ block. otherwise.Block block) (spelled_block writer block locals))
      (else_spelling writer rest) tree locals after
      (ap (λ rest. else_spelling writer rest locals) is ∙ ap (λ (spells : Spells Else). spells locals) (else-block writer block))
      (made_on (λ block. otherwise.Block block) (spelled_block writer block) inner tree locals after goes made_is)

  -- the branch may be found as another value
  pub else-of-if : (branch found : IIf) (inner : StmtNode) → rest ≡ elses.If branch → found ≡ branch
      → GoesOn (if_spelling writer found) inner locals after → tree ≡ made.else_if inner → Comes
  else-of-if branch found inner is same goes made_is =
      said_so (λ locals. mapped made.else_if (if_spelling writer found locals)) (else_spelling writer rest) tree locals after
      (ap (λ rest. else_spelling writer rest locals) (is ∙ ap (λ branch. elses.If branch) (sym same))
      ∙ ap (λ (spells : Spells Else). spells locals) (else-if writer found))
      (made_on made.else_if (if_spelling writer found) inner tree locals after goes made_is)

pub no-else : (writer : Writer) (rest : IElse) (locals : Locals Id) → rest ≡ elses.None
    → GoesOn (else_spelling writer rest) otherwise.None locals locals
no-else writer rest locals is =
    let whole = ap (λ rest. else_spelling writer rest locals) is ∙ ap (λ (spells : Spells Else). spells locals) (else-none writer) in
    none_declared (else_spelling writer rest) otherwise.None locals (ap (λ part. part.locals) whole) (sym (ap (λ part. part.tree) whole))
