-- How names read, beside what they are the names of.
use Rattle.std.specs.Prelude.{Option, None, Some, option_map, if◌then◌else◌}
use Rattle.std.specs.Option.{option_and_then}
use Rattle.mol_scope.specs.asked.Answers.{is_answer}
use Rattle.mol_base.specs.declared.ident.Id.{Id}
use Rattle.mol_faults_expr.specs.declared.reading.Reading.{Reading}
use Rattle.mol_faults_expr.specs.declared.reading.Reading.TheVariants as readings
use Rattle.mol_spell_rules.specs.references.References.{Target}
use Rattle.mol_resolve_rules.specs.Locals.{Locals}
use Rattle.mol_resolve_rules.specs.Readers.{Reader}
use Rattle.mol_spell_rules.specs.Answers.{answer}
use Rattle.mol_spell_rules.specs.ReadInstead.{asked_instead}
use Rattle.mol_spell_rules.specs.Writers.{Asked}
use Rattle.mol_faults_rules.specs.Met.{is_of_program, kept_met}

-- a target, if it is of the program and no local
abbrev pub program_target : Target → Option Target
program_target target = if is_of_program target then Some target else None

-- Nothing where a name reads as its target; else what of the program it reads as instead.
abbrev pub reading : Target → Option Target → Option Target → Option (Option Target)
reading target read instead = if is_answer target read then None else Some (option_and_then program_target instead)

-- the same of a name that asks this
abbrev pub reads_as : Reader Id Id → Locals Id → Target → Asked → Option (Option Target)
reads_as reader locals target asked = reading target (answer reader locals asked) (asked_instead reader locals asked)

abbrev pub kept_reading : Reading → Option (Option Target)
kept_reading readings.AsNamed = None
kept_reading (readings.Instead met) = Some (option_map kept_met met)
