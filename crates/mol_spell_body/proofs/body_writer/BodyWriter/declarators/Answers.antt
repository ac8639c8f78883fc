use Rattle.mol_spell_body.proofs.InTurn.{each_more, each_none, each_whole}
use Rattle.mol_spell_places.specs.body_locals.Kept.{locals_of}
use Rattle.mol_resolve_rules.specs.ProgramViews.{seen}
use Rattle.mol_spell_rules.specs.SpelledStatements.{declarator}
use Rattle.mol_spell_body.proofs.body_writer.BodyWriter.declarators.Goals as goal

pub loop-name-init : goal.loop-name-init
loop-name-init g c =
    let writer = g.P.Places.writer c.args.self.now.places.now in
    each_none (declarator writer (seen c.args.ty.now)) c.new-trees.result (locals_of c.args.locals.now) c.new-trees.ensures

pub loop-name-preserved : goal.loop-name-preserved
loop-name-preserved g c =
    let writer = g.P.Places.writer c.args.self.now.places.now in
    each_more (declarator writer (seen c.args.ty.now)) c.args.names.now c.loop-name.name-index c.name-item.result _ _ _ _ _ _
    c.loop-name-test.true c.name-item.is c.loop-name.invariant c.in_ok-tree.ensures c.in_ok-add.ensures.ok

pub returns : goal.returns
returns g c =
    let writer = g.P.Places.writer c.args.self.now.places.now in
    each_whole (declarator writer (seen c.args.ty.now)) c.args.names.now c.loop-name.name-index _ _ _ c.loop-name-test.false
    c.loop-name.invariant
