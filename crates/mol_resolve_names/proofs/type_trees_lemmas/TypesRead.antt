-- What the reading of a type comes to whose name reads as something.
use Rattle.std.proofs.Common.{◌≡◌, ℕ, Option, Some, refl, subst}
use Rattle.jav_tree.specs.declared.types.TypeName.{TypeName}
use Rattle.jav_names.specs.seen.Kept.{view_type}
use Rattle.jav_names.specs.declared.seen.seen_type.SeenType.{SeenType}
use Rattle.jav_names.specs.UnitViews.{MemberKey}
use Rattle.mol_resolve_readings.specs.meant.Kept.{view_reading}
use Rattle.mol_resolve_readings.specs.reads.Reads.{Reads}
use Rattle.mol_resolve_rules.specs.Outcomes.{TreeFault}
use Rattle.mol_resolve_rules.specs.Readers.{Reader}
use Rattle.mol_resolve_rules.specs.ReadTypes.{read_type, seen_type, type_or_fault, type_tree}
use Rattle.mol_values_types.specs.declared.itype.IType.{IType}

pub type_there : (reader : Reader ℕ MemberKey) (at : ℕ) (ty : TypeName) (tree : IType) (seen : SeenType) (faults : Option TreeFault)
    → Some tree ≡ type_tree reader ty → view_type seen ≡ seen_type reader ty
    → Reads (read_type reader at ty) (view_reading (Some (record { tree = tree; ty = seen }))) faults faults
type_there reader at ty tree seen faults is seen_is =
    subst (λ outcome. Reads outcome (view_reading (Some (record { tree = tree; ty = seen }))) faults faults)
    (λ i. type_or_fault reader at (is i) (seen_is i)) record { value_read = refl; faults_noted = refl }
