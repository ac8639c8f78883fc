-- When a member repeats an earlier one of its class (JLS 8.3, 8.4.2, 8.8.2).
use Rattle.std.specs.Prelude.{nat_lt, Bool, ◌&&◌, not}
use Rattle.std.specs.List.{list_any}
use Rattle.std.specs.Ordering.{nat_cmp}
use Rattle.std.specs.Str.{bytes_eq}
use Rattle.jav_names.specs.StaticTypes.{is_unread}
use Rattle.jav_names.specs.seen.Kept.{view_type}
use Rattle.mol_resolve_rules.specs.FaultLists.{same_kind, same_types}
use Rattle.mol_resolve_rules.specs.MemberFaults as member
use Rattle.mol_resolve_classes.specs.signatures.SignatureOrder.{types_of}
use Rattle.mol_resolve_classes.specs.declared.signatures.member_kind.MemberKind.{MemberKind}
use Rattle.mol_resolve_classes.specs.declared.signatures.member_kind.MemberKind.TheVariants.{Field, Method, Constructor}
use Rattle.mol_resolve_classes.specs.declared.signatures.signature.Signature.{Signature}

abbrev pub kind_of : MemberKind → member.MemberKind
kind_of Field = member.a_field
kind_of Method = member.a_method
kind_of Constructor = member.a_constructor

-- the second stands before the first, and is of its kind, with its name and with equal types of parameters
abbrev pub repeats : (signature earlier : Signature) → Bool
repeats signature earlier = nat_lt earlier.place signature.place
    && ((same_kind (kind_of earlier.kind) (kind_of signature.kind) && bytes_eq earlier.name.now signature.name.now)
    && same_types nat_cmp (types_of earlier) (types_of signature))

-- each type of its parameters is known
abbrev pub is_known : Signature → Bool
is_known signature = not (list_any (λ ty. is_unread (view_type ty)) signature.params.now)
