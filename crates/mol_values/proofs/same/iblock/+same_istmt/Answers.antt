use Rattle.std.proofs.Common.{◌≡◌, ◌∙◌, sym, ap}
use Rattle.mol_values_types.specs.declared.iblock.IBlock.{IBlock, out-IBlock}
use Rattle.mol_values_types.specs.declared.iblock.IElse.TheBlock.{struct-IBlock, shape-the_row-IStmt-1, hidden-the_row-IStmt-1}
use Rattle.mol_values_types.specs.declared.iblock.IElse.TheViews.{is-struct-IBlock}
use Rattle.mol_values.proofs.same.iblock.+same_istmt.Goals as goal

-- a block is what it has
same_block : (a b : IBlock) → (out-IBlock a).items ≡ (out-IBlock b).items → (out-IBlock a).tail ≡ (out-IBlock b).tail → a ≡ b
same_block a b items tail =
    is-struct-IBlock a ∙ (λ i. struct-IBlock (shape-the_row-IStmt-1 (items i)) (hidden-the_row-IStmt-1 (items i)) (tail i)) ∙ sym (is-struct-IBlock b)

pub same_block-returns : goal.same_block-returns
same_block-returns t c =
    let items = sym c.items.ensures ∙ c.same_stmts.ensures.0 c.if-not-same_stmts.false ∙ c.items-2.ensures in (
      λ is. same_block c.args.one.now c.args.other.now items (sym c.items-3.ensures ∙ c.same_texts.ensures.0 is ∙ c.items-4.ensures),
      λ e. c.same_texts.ensures.1 (c.items-3.ensures ∙ ap (λ block. (out-IBlock block).tail) e ∙ sym c.items-4.ensures),
    )
