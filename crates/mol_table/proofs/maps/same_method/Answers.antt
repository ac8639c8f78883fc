use Rattle.std.proofs.Common.{◌∙◌, sym}
use Rattle.mol_table_rules.specs.Counting.{same_method}
use Rattle.mol_values_types.proofs.Ties.{id_ties}
use Rattle.mol_table.proofs.maps.same_method.Goals as goal

pub returns-in-Some-Some : goal.returns-in-Some-Some
returns-in-Some-Some c = c.eq.ensures ∙ id_ties c.in-Some-Some.first c.in-Some-Some.second ∙ (λ i. same_method (sym c.in-Some-Some.is-0 i) (sym c.in-Some-Some.is-1 i))
