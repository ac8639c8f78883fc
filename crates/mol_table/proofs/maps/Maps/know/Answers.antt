use Rattle.std.proofs.Common.{◌∙◌, ap, sym, subst}
use Rattle.mol_table.specs.Maps.{program_in}
use Rattle.mol_table_rules.specs.Room.{AreKnown}
use Rattle.mol_table_rules.specs.Writes.{known_by}
use Rattle.mol_table_rules.proofs.Writing.{with_params-known}
use Rattle.mol_table.proofs.maps.Maps.know.Goals as goal

pub returns-else-not-all_known-clause-known : goal.returns-else-not-all_known-clause-known
returns-else-not-all_known-clause-known c =
    let known = (program_in c.args.self.now).known in
    let are = subst (AreKnown known) c.items.ensures (c.all_known.ensures.0 c.if-not-all_known.false) in
    sym (ap (known_by known c.args.id.now) c.in-Params.is ∙ with_params-known c.in-Params.params known c.args.id.now are)
