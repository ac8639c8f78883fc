-- Classes and imported types as they are spelled, as the code keeps them.
use Rattle.std.specs.Prelude.{[], if◌then◌else◌}
use Rattle.jav_names.specs.DottedNames.{Dotted, cut}
use Rattle.mol_faults_expr.specs.declared.spelled.Spelled.{Spelled}

abbrev pub names_of : Spelled → Dotted
names_of spelled = if spelled.is_simple then record { first = spelled.text; rest = [] } else cut spelled.text
