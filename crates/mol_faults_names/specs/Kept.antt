-- Values that names read as, and places, as the code has them.
use Rattle.jav_names.specs.DottedNames.{Name, Names}
use Rattle.jav_names.specs.LookUps.{leftmost}
use Rattle.mol_scope.specs.asked.Places.{IsAt, program_of, reader_of}
use Rattle.mol_base.specs.declared.ident.Id.{Id}
use Rattle.mol_spell_places.specs.body_locals.Kept.{locals_of}
use Rattle.mol_faults_names.specs.Reads.{Reads}
use Rattle.mol_faults_names.specs.declared.reads.Reads.{Reads as Kept}
use Rattle.mol_faults_names.specs.declared.class_path.ClassPath.{ClassPath as Path}
use Rattle.mol_faults_names.specs.declared.class_path.ClassPath.TheVariants as paths
use Rattle.mol_faults_names.specs.declared.first.First.{First}
use Rattle.mol_faults_names.specs.declared.first.First.TheVariants as firsts
use Rattle.mol_faults_names.specs.declared.place.InsteadPlace.{InsteadPlace}
use Rattle.mol_faults_names.specs.declared.word.Word.{Word}
use Rattle.mol_faults_names.specs.declared.word.Word.TheVariants as words
use Rattle.mol_scope.specs.first_names.Readings.{IsRead}
use Rattle.mol_scope.specs.declared.first_names.reading.FirstType.TheVariants as types
use Rattle.mol_scope.specs.declared.first_names.reading.Leftmost.{Leftmost}
use Rattle.mol_scope.specs.declared.first_names.reading.Leftmost.TheVariants as answers
use Rattle.mol_spell_rules.specs.references.References.{Target, field_target, local_target, outside_target, param_target}
use Rattle.mol_resolve_rules.specs.Locals.{Locals}
use Rattle.mol_resolve_rules.specs.Readers.{Reader, place_of}
use Rattle.mol_resolve_rules.specs.ReadTrees.{ClassPath, whole_path, front_path, no_path}
use Rattle.mol_table_rules.specs.Program.{Program}
use Rattle.mol_scope.specs.types.Kept.{view_value}

abbrev pub word_of : Word → Target
word_of (words.Local number) = local_target number
word_of (words.Param id) = param_target id
word_of (words.Field id) = field_target id
word_of (words.Outside text) = outside_target text.now

abbrev pub reads_of : Kept → Reads
reads_of kept = record { target = word_of kept.word; type = view_value kept.ty }

abbrev pub kept_path : Path → ClassPath Id
kept_path (paths.Whole class) = whole_path class
kept_path paths.Front = front_path
kept_path paths.Neither = no_path

abbrev pub leftmost_of : First → Leftmost
leftmost_of (firsts.Variable variable) = answers.Variable variable
leftmost_of (firsts.Class class spelling) = answers.Type (types.Class class spelling)
leftmost_of (firsts.Imported full) = answers.Type (types.Imported full)
leftmost_of firsts.Outside = answers.Type types.Outside

-- ---- places

abbrev pub program_at : InsteadPlace → Program
program_at place = program_of place.names.now

abbrev pub reader_at : InsteadPlace → Reader Id Id
reader_at place = reader_of place.names.now

abbrev pub locals_at : InsteadPlace → Locals Id
locals_at place = locals_of place.locals.now

-- The names and numbers of variables at the place are those of its locals and parameters.
abbrev pub IsPlace : InsteadPlace → Type 0
IsPlace place = IsAt place.names.now (locals_at place)

-- This is what the leftmost of these names reads as.
abbrev pub IsFirst : InsteadPlace → First → Name → Names → Type 0
IsFirst place first name rest =
    IsRead (leftmost_of first) (leftmost (reader_at place).view (place_of (reader_at place) (locals_at place)) name rest)
