use Rattle.std.proofs.Common.{◌∙◌, sym, ap}
use Rattle.mol_table_rules.specs.Counting.{is_of}
use Rattle.mol_values_types.proofs.Ties.{id_ties}
use Rattle.mol_table_numbers.proofs.search.declares.Goals as goal

pub returns-in-Some : goal.returns-in-Some
returns-in-Some c = c.eq.ensures ∙ id_ties c.args.method.now c.in-Some.own ∙ sym (ap (is_of c.args.method.now) (sym c.living_of.ensures ∙ c.in-Some.is))
