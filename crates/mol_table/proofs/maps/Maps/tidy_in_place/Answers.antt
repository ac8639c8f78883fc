use Rattle.std.proofs.Common.{◌≡◌, ◌∙◌, ap}
use Rattle.mol_table.proofs.TidiedInPlace.{mapped-alike}
use Rattle.mol_table.proofs.TidiedMaps.{tidied-program}
use Rattle.mol_table.proofs.maps.Maps.tidy_in_place.Goals as goal
use Rattle.mol_table.specs.Maps.{cells_of, knowns_of, program_in}
use Rattle.mol_table.specs.Tidying.{value_by}
use Rattle.mol_table.specs.declared.maps.Maps.{Maps}

pub returns-clause-program : goal.returns-clause-program
returns-clause-program c =
    let old = c.args.self.now in
    let now = c.tidy_values.new.self in
    let index = c.in_ok-index.index.entries in
    tidied-program old index (cells_of now.cells.entries) (knowns_of now.known.entries) c.in_ok-index.ensures
    (ap cells_of c.in_ok-tidy_values.ensures.cells ∙ mapped-alike (value_by old index) old.cells.entries)
    (ap (λ (maps : Maps). (program_in maps).known) c.tidy_values.ensures.rest)
