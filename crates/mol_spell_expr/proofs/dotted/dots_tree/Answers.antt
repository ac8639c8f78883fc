use Rattle.std.proofs.Common.{◌∙◌, Some, None, rules, lit<}
use Rattle.std.proofs.lemmas.Result.{IfOk-weaker}
use Rattle.std.proofs.lemmas.Str.Pattern.{split_parts}
use Rattle.mol_spell_expr.proofs.DottedTrees.{last-name, one-further}
use Rattle.mol_spell_expr.proofs.dotted.dots_tree.Goals as goal

pub loop-name-preserved : goal.loop-name-preserved
loop-name-preserved c =
    let rest = c.loop-name.rest.now in
    let parts = split_parts 46 rest (Some (c.in-Some.name, c.in-Some.behind)) c.in-Some.ensures.cases (lit< tt) in
    let further = one-further c.loop-name.tree c.in_ok-tree.tree rest c.in-Some.name.now c.in-Some.behind.now parts.0 parts.1
    c.in_ok-tree.ensures in
    (search rules, further ∙ c.loop-name.invariant.1)

pub returns : goal.returns
returns c =
    let rest = c.loop-name.rest.now in
    let none = split_parts 46 rest None c.in_default.ensures.cases (lit< tt) in
    IfOk-weaker c.dot_after-2.result _ _ (λ tree written. written ∙ last-name c.loop-name.tree rest none ∙ c.loop-name.invariant.1)
    c.dot_after-2.ensures
