use Rattle.std.proofs.Common.{◌+◌, ◌*◌}
use Rattle.mol_log_words.proofs.types.+type_name.Given as goal

abbrev pub decreases-items : goal.decreases-items
decreases-items l = 3 * l.dimensions

abbrev pub decreases-type_after : goal.decreases-type_after
decreases-type_after l = 3 * l.dimensions + 1

abbrev pub decreases-type_name : goal.decreases-type_name
decreases-type_name l = 3 * l.dimensions + 2
