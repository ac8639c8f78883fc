-- Why an operation does not apply: a name, and an identity without its address, as it may be known to no base.
use Rattle.std.specs.Prelude.{ℕ, List, ◌∷◌, ◌++◌, codes}
use Rattle.mol_base.specs.Identity.{spelled_id}
use Rattle.mol_base.specs.declared.ident.Id.{Id}
use Rattle.mol_op.specs.declared.fault.OpFault.{OpFault}
use Rattle.mol_op.specs.declared.fault.OpFault.TheVariants.{Unknown, WrongKind, NotStatic, BadTag, NotFresh}

abbrev pub fault_name : OpFault → List ℕ
fault_name (Unknown id) = codes "unknown"
fault_name (WrongKind id) = codes "wrong-kind"
fault_name (NotStatic id) = codes "not-static"
fault_name (BadTag id) = codes "bad-tag"
fault_name (NotFresh id) = codes "not-fresh"

-- the identity concerned
abbrev pub fault_id : OpFault → Id
fault_id (Unknown id) = id
fault_id (WrongKind id) = id
fault_id (NotStatic id) = id
fault_id (BadTag id) = id
fault_id (NotFresh id) = id

abbrev pub op_fault_text : OpFault → List ℕ
op_fault_text fault = fault_name fault ++ 32 ∷ spelled_id (fault_id fault)
