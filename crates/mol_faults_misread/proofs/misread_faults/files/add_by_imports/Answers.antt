use Rattle.std.proofs.Common.{◌∙◌}
use Rattle.mol_faults_misread.proofs.misread_faults.files.add_by_imports.Goals as goal

pub add_cells-requires-clause-imports : goal.add_cells-requires-clause-imports
add_cells-requires-clause-imports g c = c.in_ok-imports.ensures ∙ c.imported.ensures
