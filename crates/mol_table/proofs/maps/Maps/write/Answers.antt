use Rattle.std.proofs.Common.{sym, subst}
use Rattle.mol_table.specs.Maps.{StartsWith}
use Rattle.mol_table.specs.declared.maps.Maps.{Maps}
use Rattle.mol_table.proofs.maps.Maps.write.Goals as goal

pub returns-clause-starts : goal.returns-clause-starts
returns-clause-starts c ids starts =
    subst (λ (maps : Maps). StartsWith ids maps.known.entries) (sym c.put_value.ensures.rest) (c.know.ensures.starts ids starts)
