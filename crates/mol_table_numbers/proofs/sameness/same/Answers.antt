use Rattle.mol_table_numbers.proofs.Agreeing.{same_from, agree_back}
use Rattle.mol_table_rules.proofs.Sameness.{sameness}
use Rattle.mol_table_numbers.proofs.sameness.same.Goals as goal

pub returns-then-living_agree-clause-same : goal.returns-then-living_agree-clause-same
returns-then-living_agree-clause-same c = (
  λ is. same_from _ _ (c.living_agree.ensures.0 c.if-living_agree.true) (c.living_agree-then-living_agree.ensures.0 is),
  λ same. c.living_agree-then-living_agree.ensures.1 (agree_back _ _ same),
)

pub returns-then-living_agree-clause-equivalence : goal.returns-then-living_agree-clause-equivalence
returns-then-living_agree-clause-equivalence c = sameness

pub returns-else-living_agree-clause-equivalence : goal.returns-else-living_agree-clause-equivalence
returns-else-living_agree-clause-equivalence c = sameness
