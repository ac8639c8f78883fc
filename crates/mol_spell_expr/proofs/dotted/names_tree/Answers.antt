use Rattle.std.proofs.Common.{◌∙◌, Some, None, ap, lit<}
use Rattle.std.proofs.lemmas.Result.{IfOk-weaker}
use Rattle.std.proofs.lemmas.Str.Pattern.{split_parts}
use Rattle.mol_spell_expr.proofs.DottedTrees.{names_after, names-further, name-alone}
use Rattle.mol_spell_expr.proofs.dotted.names_tree.Goals as goal

pub returns-in_ok-first-in-Some : goal.returns-in_ok-first-in-Some
returns-in_ok-first-in-Some c =
    let text = c.args.text.now in
    let front = c.in-Some.front.now in
    let rest = c.in-Some.rest.now in
    let parts = split_parts 46 text (Some (c.in-Some.front, c.in-Some.rest)) c.in-Some.ensures.cases (lit< tt) in
    IfOk-weaker c.dots_tree.result _ _ (λ tree written. written ∙ ap (λ first. names_after first rest) c.in_ok-first-in-Some.ensures
    ∙ names-further front rest text parts.0 parts.1) c.dots_tree.ensures

pub returns-in-None : goal.returns-in-None
returns-in-None c =
    let text = c.args.text.now in
    let none = split_parts 46 text None c.in-None.ensures.cases (lit< tt) in
    IfOk-weaker c.named-in-None.result _ _ (λ tree written. written ∙ name-alone text none) c.named-in-None.ensures
