use Rattle.std.proofs.Common.{map, take}
use Rattle.mol_spell_body.proofs.body_writer.BodyWriter.declarators.Given as goal
use Rattle.mol_spell_body.specs.GoesOn.{GoesOn}
use Rattle.mol_spell_places.specs.body_locals.Kept.{locals_of}
use Rattle.mol_resolve_rules.specs.ProgramViews.{seen}
use Rattle.mol_spell_rules.specs.SpelledStatements.{declarator, each}

abbrev pub invariant-loop-name : goal.invariant-loop-name
invariant-loop-name g l =
    GoesOn (each (map (declarator (g.P.Places.writer l.self.places.now) (seen l.ty)) (take l.name-index l.names))) l.trees
    (locals_of l.initial.locals) (locals_of l.locals)
