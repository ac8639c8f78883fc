use Rattle.mol_spell_names.proofs.simple_names_lemmas.NamesLeft.{none-taken, taken-further, taken-whole}
use Rattle.mol_spell_names.proofs.simple_names.bearers.bearers_of.Goals as goal

pub loop-used-init : goal.loop-used-init
loop-used-init c = rw c.new-bearers.ensures.empty (none-taken c.args.table.now)

pub loop-used-preserved : goal.loop-used-preserved
loop-used-preserved c =
    taken-further c.args.table.now c.args.uses.now c.loop-used.used-index c.used-item.result c.loop-used.bearers.entries _
    c.loop-used-test.true c.used-item.is c.loop-used.invariant c.in_ok-add_use.ensures

pub returns : goal.returns
returns c =
    taken-whole c.args.table.now c.args.uses.now c.loop-used.used-index c.loop-used.bearers.entries c.loop-used-test.false
    c.loop-used.invariant
