use Rattle.std.proofs.Common.{◌≡◌, ◌∷◌, ◌++◌, [], ℕ, List, map, take, length, Some, slice_get, sym, ◌∙◌, ap, arith, refl}
use Rattle.std.specs.Global.{Vec}
use Rattle.std.proofs.lemmas.List.{map-append}
use Rattle.std.proofs.lemmas.Option.{slice_get_read}
use Rattle.jav_names.specs.UnitViews.{numbered}
use Rattle.jav_scope.proofs.Numbered.{mapped-more}
use Rattle.jav_scope.specs.declared.source.SourceUnit.{SourceUnit}
use Rattle.mol_resolve_rules.specs.MemberFaults.{row_of}
use Rattle.mol_resolve_members.specs.members.Rows.{kept_row, type_at}
use Rattle.mol_resolve_members.specs.members.Tables.{rows_at}
use Rattle.mol_resolve_members.specs.declared.members.member_row.MemberRow.{MemberRow}
use Rattle.mol_resolve_members.proofs.members_lemmas.RowsKept.{rows-made}
use Rattle.mol_resolve_members.proofs.members.members.Members.new.Goals as goal

pub rows_of_file-requires : goal.rows_of_file-requires
rows_of_file-requires c = omega (arith, c.in_ok-unit.ensures.ok, c.loop-place-test.true, ap length c.requires)

pub loop-place-preserved : goal.loop-place-preserved
loop-place-preserved c =
    let sources = c.args.sources.now in
    let place = c.loop-place.place in
    let source : SourceUnit = c.index-sources-place.result in
    let there : slice_get c.args.scope.now c.in_ok-unit.unit ≡ Some source =
    (λ i. slice_get (c.requires i) (c.in_ok-unit.ensures.ok i))
    ∙ slice_get_read sources (length sources) place source refl c.loop-place-test.true c.index-sources-place.is in
    let kept : map kept_row c.in_ok-file_rows.file_rows.items ≡ rows_at sources (place, source) =
    c.in_ok-file_rows.ensures source there
    ∙ (λ i. map (row_of (type_at (c.requires i) (c.in_ok-unit.ensures.ok i) source) (c.in_ok-unit.ensures.ok i))
    (numbered (c.items-members.ensures i)))
    ∙ rows-made sources place source in
    ap (map (λ (file_rows : Vec MemberRow). map kept_row file_rows.items)) c.in_ok-push.ensures.items
    ∙ map-append (λ (file_rows : Vec MemberRow). map kept_row file_rows.items) c.loop-place.rows.items _
    ∙ (λ i. c.loop-place.invariant i ++ kept i ∷ [])
    ∙ sym (mapped-more sources place source c.loop-place-test.true c.index-sources-place.is (rows_at sources))
