-- The faults of a member as the code keeps them.
use Rattle.mol_resolve_faults.specs.beside.Beside as definition
use Rattle.mol_resolve_faults.specs.declared.beside.faulty.Faulty.{Faulty}

abbrev pub faulty_of : Faulty → definition.Faulty
faulty_of faulty = record {
  duplicate = faulty.duplicate;
  overload = faulty.overload;
  result = faulty.result;
  static = faulty.hides_static;
}
