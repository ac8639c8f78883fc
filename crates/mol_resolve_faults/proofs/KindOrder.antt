-- The order of kinds in the code is that of the definitions; faults are in a total order.
use Rattle.std.proofs.Common.{◌≡◌, refl, rules}
use denote.Enum.Declared.{tag_of}
use Rattle.std.specs.Cmp.{IsTotalOrder}
use Rattle.std.specs.Cmp.Rules.{comparing}
use Rattle.mol_resolve_rules.specs.FaultKinds.{rank_of}
use Rattle.mol_resolve_faults.specs.First.{tree_fault_cmp}
use Rattle.mol_resolve_faults.specs.Kinds.{kind_of}
use Rattle.mol_resolve_faults.specs.contracts.kind.FaultKind.{the_type}
use Rattle.mol_resolve_faults.specs.declared.kind.FaultKind.{FaultKind}
use Rattle.mol_resolve_faults.specs.declared.kind.FaultKind.TheVariants.{PathDiffers, DuplicateClass, PackageIsClass, SuperCycle, ImportClash, DuplicateMember, OverloadByType, ResultDiffers, StaticHidden, Redeclared, UnknownName, UnknownMember, StaticByInstance, ReceiverType}

pub kind_tag : (kind : FaultKind) → tag_of the_type kind ≡ rank_of (kind_of kind)
kind_tag PathDiffers = refl
kind_tag DuplicateClass = refl
kind_tag PackageIsClass = refl
kind_tag SuperCycle = refl
kind_tag ImportClash = refl
kind_tag DuplicateMember = refl
kind_tag OverloadByType = refl
kind_tag ResultDiffers = refl
kind_tag StaticHidden = refl
kind_tag Redeclared = refl
kind_tag UnknownName = refl
kind_tag UnknownMember = refl
kind_tag StaticByInstance = refl
kind_tag ReceiverType = refl

pub tree_fault_cmp-total : IsTotalOrder tree_fault_cmp
tree_fault_cmp-total = search (comparing, rules) depth 9
