use Rattle.std.proofs.Common.{map, ◌∙◌, ap}
use Rattle.jav_names.specs.seen.Kept.{view_type}
use Rattle.mol_resolve_members.specs.members.Rows.{type_at, types_of_params}
use Rattle.mol_resolve_members.proofs.members_lemmas.RowsKept.{row-made}
use Rattle.mol_resolve_members.proofs.members.member_row.MemberRow.new.Goals as goal

pub returns : goal.returns
returns c = λ source at.
    let see = type_at c.args.scope.now c.args.at.unit source in
    row-made see c.args.at.unit c.args.at.member c.args.member.now
    c.is_static.result (view_type c.in_ok-ty.ty) (map view_type c.in_ok-params.params.items)
    c.is_static.ensures (c.in_ok-ty.ensures source at) (c.in_ok-params.ensures source at ∙ ap (types_of_params see) c.params_of.ensures)
