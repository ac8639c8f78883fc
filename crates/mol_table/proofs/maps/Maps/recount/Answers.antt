use Rattle.std.proofs.Common.{◌≡◌, ◌∙◌, sym, ap, subst, arith, is_some, true}
use Rattle.std.specs.FinMap.{get}
use Rattle.mol_table_rules.specs.Counting.{number_at}
use Rattle.mol_table.specs.Maps.{counts_in}
use Rattle.mol_table.proofs.Counted.{lowered-kept}
use Rattle.mol_table_rules.proofs.Living.{number-lowered}
use Rattle.mol_table.proofs.maps.Maps.recount.Goals as goal

pub raise-requires-clause-there : goal.raise-requires-clause-there
raise-requires-clause-there c own is =
    subst (λ cs. is_some (get cs own) ≡ true) (sym c.lower.ensures.counts) (lowered-kept (counts_in c.args.self.now) c.args.was own (c.requires.now own is))

pub raise-requires-clause-small : goal.raise-requires-clause-small
raise-requires-clause-small c own =
    let small = c.requires.small own in
    let less = ap (λ cs. number_at cs own) c.lower.ensures.counts ∙ number-lowered (counts_in c.args.self.now) c.args.was own in
    omega (arith, small, less)
