use Rattle.std.proofs.Common.{◌∙◌}
use Rattle.jav_parse_unit.proofs.EndOf.{this_read}
use Rattle.jav_parse_unit.proofs.feature.ends_in_this.Goals as goal

pub returns-in-len1-up : goal.returns-in-len1-up
returns-in-len1-up c = c.is_this.ensures ∙ this_read _ _ c.in-len1-up.len_at_least c.last-item.is
