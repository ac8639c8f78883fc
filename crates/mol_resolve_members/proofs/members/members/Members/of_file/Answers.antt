use Rattle.std.proofs.Common.{◌≡◌, ◌<◌, List, map, length, get_or, Some, slice_get, sym, ◌∙◌, ap, arith}
use Rattle.std.specs.Global.{Vec}
use Rattle.jav_scope.specs.declared.source.SourceUnit.{SourceUnit}
use Rattle.mol_resolve_members.specs.members.Rows.{kept_row}
use Rattle.mol_resolve_members.specs.members.Tables.{rows_at}
use Rattle.mol_resolve_members.specs.declared.members.member_row.MemberRow.{MemberRow}
use Rattle.mol_resolve_members.proofs.members_lemmas.RowsKept.{as_many, rows-there}
use Rattle.mol_resolve_members.proofs.members.members.Members.of_file.Goals as goal

pub bounds-rows-unit : goal.bounds-rows-unit
bounds-rows-unit c = omega (
  arith,
  c.requires,
  ap length c.self.view_is,
  ap length c.as_slice-rows.ensures.value,
  as_many c.self.inside.sources.now c.self.inside.rows.items c.self.invariant,
)

pub returns : goal.returns
returns c = λ source at.
    let sources = c.self.inside.sources.now in
    let there : slice_get sources c.args.unit ≡ Some source =
    ap (λ (all : List SourceUnit). slice_get all c.args.unit) c.self.view_is ∙ at in
    ap (map kept_row) c.as_slice.ensures.value
    ∙ rows-there sources c.self.inside.rows.items c.self.invariant c.args.unit source there c.index-rows-unit.result
    (c.index-rows-unit.is
    ∙ ap (λ (all : List (Vec MemberRow)). get_or all c.args.unit c.index-rows-unit.result) c.as_slice-rows.ensures.value)
    ∙ ap (λ (all : List SourceUnit). rows_at all (c.args.unit, source)) c.self.view_is
