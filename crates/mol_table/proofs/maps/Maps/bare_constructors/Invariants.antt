use Rattle.std.proofs.Common.{◌≡◌, take}
use Rattle.mol_base.specs.declared.ident.Id.{Id}
use Rattle.mol_table.specs.Bare.{bare_by}
use Rattle.mol_table.specs.Maps.{program_in}
use Rattle.mol_table.specs.Tidying.{bare_in}
use Rattle.mol_table.proofs.maps.Maps.bare_constructors.Given as goal

abbrev pub invariant-loop-id : goal.invariant-loop-id
invariant-loop-id l = (class : Id) → bare_in l.index.entries class ≡ bare_by (program_in l.self) class (take l.id-index l.id-items)
