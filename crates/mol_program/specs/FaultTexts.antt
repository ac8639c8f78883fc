-- What is wrong with a file of a program, in messages, and where that is.
use Rattle.std.specs.Prelude.{ℕ, List, length, min, Option, None}
use Rattle.jav_lex.specs.Fault as lexical
use Rattle.jav_parse_unit.specs.declared.feature.Feature.{Feature}
use Rattle.mol_resolve_faults.specs.ResolveFaults.{name_of, place_of}
use Rattle.mol_program.specs.declared.fault.SourceFault.{SourceFault}
use Rattle.mol_program.specs.declared.fault.SourceFault.TheVariants.{Lex, Parse, Resolve}
use Rattle.jav_source.specs.FaultTexts.{lexical_word, refused, syntax_at, syntax_word}

-- The byte at which it is; of a fault of names the place of its tree, or the end of the file if that is less.
abbrev pub place_at : List ℕ → SourceFault → ℕ
place_at bytes (Lex fault) = lexical.place fault
place_at bytes (Parse fault) = syntax_at fault
place_at bytes (Resolve fault) = min (place_of fault).at (length bytes)

-- its name: the words of its variant in lower case, joined by `-`
abbrev pub name : SourceFault → List ℕ
name (Lex fault) = lexical_word fault
name (Parse fault) = syntax_word fault
name (Resolve fault) = name_of fault

-- the part of Java that is refused, where it is one
abbrev pub feature : SourceFault → Option Feature
feature (Lex fault) = None
feature (Parse fault) = refused fault
feature (Resolve fault) = None
