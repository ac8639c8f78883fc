-- The faults for which files are refused, each with its place and its name.
use Rattle.std.specs.Prelude.{ℕ, List, codes}
use Rattle.mol_resolve_rules.specs.FaultKinds as kind
use Rattle.mol_resolve_rules.specs.Outcomes.{TreeFault}
use Rattle.mol_resolve_faults.specs.declared.fault.FaultPlace.{FaultPlace}
use Rattle.mol_resolve_faults.specs.declared.fault.ResolveFault.{ResolveFault}
use Rattle.mol_resolve_faults.specs.declared.fault.ResolveFault.TheVariants as fault

abbrev pub fault_of : kind.FaultKind → FaultPlace → ResolveFault
fault_of kind.path_differs place = fault.PathDiffers place
fault_of kind.duplicate_class place = fault.DuplicateClass place
fault_of kind.package_is_class place = fault.PackageIsClass place
fault_of kind.super_cycle place = fault.SuperCycle place
fault_of kind.import_clash place = fault.ImportClash place
fault_of kind.duplicate_member place = fault.DuplicateMember place
fault_of kind.overload_by_type place = fault.OverloadByType place
fault_of kind.result_differs place = fault.ResultDiffers place
fault_of kind.static_hidden place = fault.StaticHidden place
fault_of kind.redeclared place = fault.Redeclared place
fault_of kind.unknown_name place = fault.UnknownName place
fault_of kind.unknown_member place = fault.UnknownMember place
fault_of kind.static_by_instance place = fault.StaticByInstance place
fault_of kind.receiver_type place = fault.ReceiverType place

-- a fault in the file of this number
abbrev pub resolve_fault : ℕ → TreeFault → ResolveFault
resolve_fault number fault = fault_of fault.kind (record { unit = number; at = fault.at })

abbrev pub place_of : ResolveFault → FaultPlace
place_of (fault.PathDiffers place) = place
place_of (fault.DuplicateClass place) = place
place_of (fault.PackageIsClass place) = place
place_of (fault.SuperCycle place) = place
place_of (fault.ImportClash place) = place
place_of (fault.DuplicateMember place) = place
place_of (fault.OverloadByType place) = place
place_of (fault.ResultDiffers place) = place
place_of (fault.StaticHidden place) = place
place_of (fault.Redeclared place) = place
place_of (fault.UnknownName place) = place
place_of (fault.UnknownMember place) = place
place_of (fault.StaticByInstance place) = place
place_of (fault.ReceiverType place) = place
place_of fault.OutOfMemory = record { unit = 0; at = 0 }

abbrev pub name_of : ResolveFault → List ℕ
name_of (fault.PathDiffers place) = codes "path-differs"
name_of (fault.DuplicateClass place) = codes "duplicate-class"
name_of (fault.PackageIsClass place) = codes "package-is-class"
name_of (fault.SuperCycle place) = codes "super-cycle"
name_of (fault.ImportClash place) = codes "import-clash"
name_of (fault.DuplicateMember place) = codes "duplicate-member"
name_of (fault.OverloadByType place) = codes "overload-by-type"
name_of (fault.ResultDiffers place) = codes "result-differs"
name_of (fault.StaticHidden place) = codes "static-hidden"
name_of (fault.Redeclared place) = codes "redeclared"
name_of (fault.UnknownName place) = codes "unknown-name"
name_of (fault.UnknownMember place) = codes "unknown-member"
name_of (fault.StaticByInstance place) = codes "static-by-instance"
name_of (fault.ReceiverType place) = codes "receiver-type"
name_of fault.OutOfMemory = codes "out-of-memory"
