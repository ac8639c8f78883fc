-- Faults of a source in messages, and where they are.
use Rattle.std.specs.Prelude.{ℕ, List, codes, Option, None, Some}
use Rattle.jav_lex.specs.Fault as lexical
use Rattle.jav_lex.specs.declared.fault.LexFault.{LexFault}
use Rattle.jav_lex.specs.declared.fault.LexFault.TheVariants as lex
use Rattle.jav_parse_unit.specs.declared.fault.ParseFault.{ParseFault}
use Rattle.jav_parse_unit.specs.declared.fault.ParseFault.TheVariants as parse
use Rattle.jav_parse_unit.specs.declared.feature.Feature.{Feature}
use Rattle.jav_source.specs.declared.fault.TextFault.{TextFault}
use Rattle.jav_source.specs.declared.fault.TextFault.TheVariants.{Lex, Parse}

-- the byte at which a syntax fault is
abbrev pub syntax_at : ParseFault → ℕ
syntax_at (parse.Expected at) = at
syntax_at (parse.Refused feature at) = at
syntax_at (parse.CommentPlace at) = at
syntax_at (parse.TooDeep at) = at
syntax_at (parse.TooMany at) = at
syntax_at parse.OutOfMemory = 0

-- the byte at which a fault is
abbrev pub place : TextFault → ℕ
place (Lex fault) = lexical.place fault
place (Parse fault) = syntax_at fault

abbrev pub lexical_word : LexFault → List ℕ
lexical_word (lex.NotUtf8 at) = codes "not-utf8"
lexical_word (lex.BadChar at) = codes "bad-char"
lexical_word (lex.OpenString at) = codes "open-string"
lexical_word (lex.OpenComment at) = codes "open-comment"
lexical_word (lex.BadEscape at) = codes "bad-escape"
lexical_word (lex.UnicodeEscape at) = codes "unicode-escape"
lexical_word (lex.FloatLiteral at) = codes "float-literal"
lexical_word (lex.BadNumber at) = codes "bad-number"
lexical_word (lex.TextBlock at) = codes "text-block"
lexical_word (lex.NameTooLong at) = codes "name-too-long"
lexical_word lex.OutOfMemory = codes "out-of-memory"

abbrev pub syntax_word : ParseFault → List ℕ
syntax_word (parse.Expected at) = codes "expected"
syntax_word (parse.Refused feature at) = codes "refused"
syntax_word (parse.CommentPlace at) = codes "comment-place"
syntax_word (parse.TooDeep at) = codes "too-deep"
syntax_word (parse.TooMany at) = codes "too-many"
syntax_word parse.OutOfMemory = codes "out-of-memory"

-- its name: the words of its variant in lower case, joined by `-`
abbrev pub name : TextFault → List ℕ
name (Lex fault) = lexical_word fault
name (Parse fault) = syntax_word fault

-- the part of Java that a syntax fault refuses
abbrev pub refused : ParseFault → Option Feature
refused (parse.Expected at) = None
refused (parse.Refused feature at) = Some feature
refused (parse.CommentPlace at) = None
refused (parse.TooDeep at) = None
refused (parse.TooMany at) = None
refused parse.OutOfMemory = None

-- the part of Java that is refused, where it is one
abbrev pub feature : TextFault → Option Feature
feature (Lex fault) = None
feature (Parse fault) = refused fault
