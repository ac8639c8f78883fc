use Rattle.std.proofs.Common.{sym, subst}
use Rattle.mol_table_rules.specs.Renumber.{MayRenumber}
use Rattle.mol_table_numbers.proofs.renumbered.renumber.Goals as goal

pub renumbered-requires-clause-may : goal.renumbered-requires-clause-may
renumbered-requires-clause-may c = subst MayRenumber (sym c.maps.ensures.program) c.requires
