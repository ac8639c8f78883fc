-- A fault as the code keeps it.
use Rattle.mol_resolve_rules.specs.Outcomes.{TreeFault}
use Rattle.mol_resolve_faults.specs.Kinds.{kind_of}
use Rattle.mol_resolve_faults.specs.declared.first_fault.Noted.{Noted}

abbrev pub noted_fault : Noted → TreeFault
noted_fault fault = record { kind = kind_of fault.kind; at = fault.at }
