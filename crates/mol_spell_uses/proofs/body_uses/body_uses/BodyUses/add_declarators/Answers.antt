use Rattle.mol_spell_places.specs.body_locals.Kept.{locals_of}
use Rattle.mol_spell_uses.proofs.body_uses_lemmas.InTurn.{each_more, each_none, each_whole}
use Rattle.mol_spell_uses.proofs.body_uses.body_uses.BodyUses.add_declarators.Goals as goal
use Rattle.mol_resolve_rules.specs.ProgramViews.{seen}
use Rattle.mol_spell_rules.specs.SpelledStatements.{declarator}

pub loop-name-init : goal.loop-name-init
loop-name-init g c =
    each_none (declarator (g.P.Places.writer c.args.self.now.places.now) (seen c.args.ty.now)) (locals_of c.args.locals.now) c.args.uses.now

pub loop-name-preserved : goal.loop-name-preserved
loop-name-preserved g c =
    each_more (declarator (g.P.Places.writer c.args.self.now.places.now) (seen c.args.ty.now)) c.args.names.now c.loop-name.name-index
    c.name-item.result _ _ _ _ _ _ c.loop-name-test.true c.name-item.is c.loop-name.invariant c.in_ok-add_declarator.ensures

pub returns : goal.returns
returns g c =
    each_whole (declarator (g.P.Places.writer c.args.self.now.places.now) (seen c.args.ty.now)) c.args.names.now c.loop-name.name-index
    _ _ _ _ c.loop-name-test.false c.loop-name.invariant
