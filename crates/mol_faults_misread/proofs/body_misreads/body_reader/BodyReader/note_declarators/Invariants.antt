use Rattle.std.proofs.Common.{map, take}
use Rattle.mol_spell_places.specs.body_locals.Kept.{locals_of}
use Rattle.mol_faults_misread.proofs.body_misreads.body_reader.BodyReader.note_declarators.Given as goal
use Rattle.mol_faults_misread.specs.body_misreads.NotedOn.{NotedOn}
use Rattle.mol_resolve_rules.specs.ProgramViews.{seen}
use Rattle.mol_spell_rules.specs.SpelledStatements.{declarator, each}

abbrev pub invariant-loop-name : goal.invariant-loop-name
invariant-loop-name g l =
    let writer = g.P.Places.writer l.self.places.now in
    NotedOn writer (each (map (declarator writer (seen l.ty)) (take l.name-index l.names))) (locals_of l.initial.locals) l.initial.misreads
    (locals_of l.locals) l.misreads
