use Rattle.std.proofs.Common.{◌≡◌, map, take}
use Rattle.std.specs.Global.{Vec}
use Rattle.jav_names.specs.UnitViews.{numbered}
use Rattle.mol_resolve_members.specs.members.Rows.{kept_row}
use Rattle.mol_resolve_members.specs.members.Tables.{rows_at}
use Rattle.mol_resolve_members.specs.declared.members.member_row.MemberRow.{MemberRow}
use Rattle.mol_resolve_members.proofs.members.members.Members.new.Given as goal

abbrev pub invariant-loop-place : goal.invariant-loop-place
invariant-loop-place l = map (λ (file_rows : Vec MemberRow). map kept_row file_rows.items) l.rows.items
    ≡ map (rows_at l.sources) (numbered (take l.place l.sources))
