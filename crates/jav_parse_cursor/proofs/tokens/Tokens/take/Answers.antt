use Rattle.std.proofs.Common.{◌≡◌, Ok}
use Rattle.jav_parse_cursor.proofs.Cursor.{taken}
use Rattle.jav_parse_cursor.proofs.tokens.Tokens.take.Goals as goal

pub returns-in-len1-up : goal.returns-in-len1-up
returns-in-len1-up c = rw (← c.self.view_is) (taken c.self.inside.rest.now c.token-item.result c.in-len1-up.len_at_least c.token-item.is)
