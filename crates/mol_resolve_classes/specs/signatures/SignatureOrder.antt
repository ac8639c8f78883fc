-- An order of members in which those that are told apart by their places alone stand beside each other, the first before the others.
use Rattle.std.specs.Prelude.{ℕ, List, map}
use Rattle.std.specs.Cmp.Lexicographic.{slice_cmp}
use Rattle.std.specs.Ordering.{nat_cmp, on, then_cmp}
use Rattle.std.specs.declared.cmp.Ordering.{Ordering}
use Rattle.jav_names.specs.Views.{ViewType}
use Rattle.jav_names.specs.seen.Kept.{view_type}
use Rattle.mol_resolve_classes.specs.signatures.TypeOrder.{types_cmp}
use Rattle.mol_resolve_classes.specs.declared.signatures.member_kind.MemberKind.{MemberKind}
use Rattle.mol_resolve_classes.specs.declared.signatures.member_kind.MemberKind.TheVariants.{Field, Method, Constructor}
use Rattle.mol_resolve_classes.specs.declared.signatures.signature.Signature.{Signature}

abbrev pub kind_rank : MemberKind → ℕ
kind_rank Field = 0
kind_rank Method = 1
kind_rank Constructor = 2

-- the types of its parameters
abbrev pub types_of : Signature → List (ViewType ℕ)
types_of signature = map view_type signature.params.now

-- by kind, then by the bytes of the name, then by the types of parameters
abbrev pub key_cmp : Signature → Signature → Ordering
key_cmp = then_cmp
    (then_cmp (on (λ signature. kind_rank signature.kind) nat_cmp) (on (λ signature. signature.name.now) (slice_cmp nat_cmp)))
    (on types_of types_cmp)

-- and then by place
abbrev pub signature_cmp : Signature → Signature → Ordering
signature_cmp = then_cmp key_cmp (on (λ signature. signature.place) nat_cmp)
