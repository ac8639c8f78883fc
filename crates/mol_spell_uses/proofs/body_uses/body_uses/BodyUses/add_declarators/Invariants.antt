use Rattle.std.proofs.Common.{map, take}
use Rattle.mol_spell_places.specs.body_locals.Kept.{locals_of}
use Rattle.mol_spell_uses.proofs.body_uses.body_uses.BodyUses.add_declarators.Given as goal
use Rattle.mol_spell_uses.specs.body_uses.UsesOn.{UsesOn}
use Rattle.mol_resolve_rules.specs.ProgramViews.{seen}
use Rattle.mol_spell_rules.specs.SpelledStatements.{declarator, each}

abbrev pub invariant-loop-name : goal.invariant-loop-name
invariant-loop-name g l =
    UsesOn (each (map (declarator (g.P.Places.writer l.self.places.now) (seen l.ty)) (take l.name-index l.names)))
    (locals_of l.initial.locals) l.initial.uses (locals_of l.locals) l.uses
