use Rattle.std.proofs.Common.{◌∙◌, inr, ap, Err}
use Rattle.std.proofs.lemmas.Result.{err_from_is_err_and}
use Rattle.jav_lex.specs.Token.{all_seen}
use Rattle.jav_source.proofs.Reading.{tokens_there, tree_there}
use Rattle.jav_source.proofs.source.unit_of.Goals as goal

pub returns-in_err-tokens-clause-only : goal.returns-in_err-tokens-clause-only
returns-in_err-tokens-clause-only c unit is =
    let p = err_from_is_err_and c.from_residual.result c.from_residual.ensures.1 in
    inr (p.1 ∙ ap Err (p.2 ∙ tokens_there c.args.bytes.now _ unit c.in_err-tokens.ensures.fault is))

pub returns-clause-only : goal.returns-clause-only
returns-clause-only c unit is = c.tree_of.ensures.only unit (rw c.items.ensures (tree_there c.args.bytes.now (all_seen c.in_ok-tokens.tokens) c.in_ok-tokens.ensures.tokens unit is))
