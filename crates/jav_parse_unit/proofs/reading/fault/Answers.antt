use Rattle.std.proofs.Common.{◌≡◌, inr, ◌∙◌}
use Rattle.jav_parse_unit.proofs.Wrong.{wrong_from}
use Rattle.jav_parse_unit.proofs.reading.fault.Goals as goal

pub returns-in-Ok : goal.returns-in-Ok
returns-in-Ok c = inr (c.in-Ok.ensures ∙ wrong_from c.args.alloc c.args.language c.args.tokens.now c.args.left c.saturating_sub-at.result c.split_at.result.0.now c.split_at.result.1.now
    c.bad-item.result c.saturating_sub-at.ensures c.split_at.ensures.front c.split_at.ensures.back c.in-len1-up.len_at_least c.bad-item.is)
