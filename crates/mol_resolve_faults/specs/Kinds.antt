-- The kinds of faults of the code, as those of the definitions.
use Rattle.mol_resolve_rules.specs.FaultKinds as kind
use Rattle.mol_resolve_faults.specs.declared.kind.FaultKind.{FaultKind}
use Rattle.mol_resolve_faults.specs.declared.kind.FaultKind.TheVariants.{PathDiffers, DuplicateClass, PackageIsClass, SuperCycle, ImportClash, DuplicateMember, OverloadByType, ResultDiffers, StaticHidden, Redeclared, UnknownName, UnknownMember, StaticByInstance, ReceiverType}

abbrev pub kind_of : FaultKind → kind.FaultKind
kind_of PathDiffers = kind.path_differs
kind_of DuplicateClass = kind.duplicate_class
kind_of PackageIsClass = kind.package_is_class
kind_of SuperCycle = kind.super_cycle
kind_of ImportClash = kind.import_clash
kind_of DuplicateMember = kind.duplicate_member
kind_of OverloadByType = kind.overload_by_type
kind_of ResultDiffers = kind.result_differs
kind_of StaticHidden = kind.static_hidden
kind_of Redeclared = kind.redeclared
kind_of UnknownName = kind.unknown_name
kind_of UnknownMember = kind.unknown_member
kind_of StaticByInstance = kind.static_by_instance
kind_of ReceiverType = kind.receiver_type
