use Rattle.jav_parse_unit.proofs.EndOf.{end_of_read}
use Rattle.jav_parse_unit.proofs.reading.end_of.Goals as goal

pub returns-in-len1-up : goal.returns-in-len1-up
returns-in-len1-up c = end_of_read _ _ c.in-len1-up.len_at_least c.last-item.is
