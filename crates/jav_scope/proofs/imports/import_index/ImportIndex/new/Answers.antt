use Rattle.std.proofs.Common.{subst}
use Rattle.jav_names.specs.index.Seeking.{FindsSame}
use Rattle.jav_scope.proofs.imports.import_index.ImportIndex.new.Goals as goal

pub invariant_of-result : goal.invariant_of-result
invariant_of-result c = subst (FindsSame c.in_ok-simple_names.simple_names) c.in_ok-entries.ensures c.in_ok-simple_names.ensures
