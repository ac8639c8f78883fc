use Rattle.std.proofs.Common.{◌≡◌, drop}
use Rattle.std.specs.List.{list_any}
use Rattle.jav_names.specs.seen.Kept.{view_type}
use Rattle.jav_names.specs.StaticTypes.{is_unread}
use Rattle.mol_resolve_classes.proofs.signatures.type_order.all_known.Given as goal

abbrev pub invariant-loop-ty : goal.invariant-loop-ty
invariant-loop-ty l =
    list_any (λ ty. is_unread (view_type ty)) l.types ≡ list_any (λ ty. is_unread (view_type ty)) (drop l.ty-index l.types)
