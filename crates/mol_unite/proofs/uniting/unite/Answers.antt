use Rattle.mol_unite.proofs.Together.{each-clean, each-order, united-together}
use Rattle.mol_unite.proofs.uniting.unite.Goals as goal

pub returns-clause-united : goal.returns-clause-united
returns-clause-united c =
    united-together c.args.base.now c.args.first.now c.args.second.now c.lesser_first.result c.lesser_first.ensures

pub returns-clause-every_order : goal.returns-clause-every_order
returns-clause-every_order c =
    each-order c.args.base.now c.args.first.now c.args.second.now c.ids.ensures.rules c.requires.alive c.requires.first c.requires.second
    c.requires.apart c.requires.none c.lesser_first.result c.lesser_first.ensures

pub returns-clause-clean : goal.returns-clause-clean
returns-clause-clean c =
    each-clean c.args.base.now c.args.first.now c.args.second.now c.ids.ensures.rules c.requires.alive c.requires.first c.requires.second
    c.requires.apart c.requires.none c.lesser_first.result c.lesser_first.ensures
