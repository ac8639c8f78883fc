-- Whether two values are the same.
use Rattle.std.specs.Prelude.{◌==◌, Bool, true, false, ◌&&◌}
use base.Stored.{Gv, gnil, gnum, gcons}
use Rattle.mol_values_types.specs.contracts.value.Value.{the_row}
use Rattle.mol_values_types.specs.declared.value.Value.{Value}

-- whether two codes are the same
abbrev pub same_code : Gv → Gv → Bool
same_code gnil gnil = true
same_code (gnum m) (gnum n) = m == n
same_code (gcons a b) (gcons c d) = same_code a c && same_code b d
same_code first second = false

-- whether two values have the same code: no two values have one code
abbrev pub same_value : Value → Value → Bool
same_value first second = same_code (the_row.coded.code first) (the_row.coded.code second)
