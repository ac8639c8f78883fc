-- How a token of the program is seen.
use Rattle.std.specs.Prelude.{List, map}
use Rattle.mol_base.specs.Token.{Token}
use Rattle.jav_lex.specs.declared.token.Token as code

-- a token of the program as definitions see it
abbrev pub seen : code.Token → Token
seen t = record { kind = t.kind; text = t.text; start = t.start; end = t.end }

abbrev pub all_seen : List code.Token → List Token
all_seen tokens = map seen tokens
