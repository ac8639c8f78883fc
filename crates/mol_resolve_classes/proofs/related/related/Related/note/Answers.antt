use Rattle.std.proofs.Common.{◌≡◌, List, length, map, flat_map, slice_get, ◌∙◌, ap, arith}
use Rattle.std.proofs.lemmas.List.{take_all}
use Rattle.jav_scope.specs.declared.source.SourceUnit.{SourceUnit}
use Rattle.mol_resolve_faults.specs.beside.Beside.{faulty_noted}
use Rattle.mol_resolve_members.specs.members.Rows.{kept_row}
use Rattle.mol_resolve_members.specs.members.Tables.{rows_at}
use Rattle.mol_resolve_faults.specs.First.{all_noted}
use Rattle.mol_resolve_members.specs.sources.Sources.{files_of}
use Rattle.mol_resolve_rules.specs.FaultLists.{faults_beside}
use Rattle.mol_resolve_rules.proofs.Stands.{get-below}
use Rattle.mol_resolve_classes.proofs.related_lemmas.ClassRows.{noted-more}
use Rattle.mol_resolve_classes.proofs.related.related.Related.note.Goals as goal

pub of_file-rows-requires : goal.of_file-rows-requires
of_file-rows-requires c = omega (
  arith,
  c.requires,
  ap (λ (all : List SourceUnit). length all) c.self.view_is,
  ap (λ (all : List SourceUnit). length all) c.self.invariant.same,
)

pub loop-row-preserved : goal.loop-row-preserved
loop-row-preserved c =
    let sources = c.args.self.now in
    let unit = c.args.unit in
    let files = files_of sources in
    let source = get-below sources unit c.requires in
    let same : c.self.inside.members.now ≡ sources = c.self.invariant.same ∙ c.self.view_is in
    let are : map kept_row c.of_file-rows.result.now ≡ rows_at sources (unit, source.0) =
    c.of_file-rows.ensures source.0 (ap (λ (all : List SourceUnit). slice_get all unit) same ∙ source.1)
    ∙ ap (λ (all : List SourceUnit). rows_at all (unit, source.0)) same in
    c.note.ensures
    ∙ (λ i. faulty_noted (c.faulty-faulty.ensures i) (c.place_of.ensures i) (c.loop-row.invariant i))
    ∙ noted-more sources unit source.0 source.1 c.of_file-rows.result.now are c.args.faults.now c.loop-row.row-index c.row-item.result
    c.loop-row-test.true c.row-item.is

pub returns : goal.returns
returns c = λ source at.
    let sources = c.args.self.now in
    let unit = c.args.unit in
    let files = files_of sources in
    let same : c.self.inside.members.now ≡ sources = c.self.invariant.same ∙ c.self.view_is in
    let are : map kept_row c.of_file-rows.result.now ≡ rows_at sources (unit, source) =
    c.of_file-rows.ensures source (ap (λ (all : List SourceUnit). slice_get all unit) same ∙ at)
    ∙ ap (λ (all : List SourceUnit). rows_at all (unit, source)) same in
    c.loop-row.invariant
    ∙ ap (λ rows. all_noted c.args.faults.now (flat_map (faults_beside files) (map kept_row rows)))
    (take_all c.loop-row.row-index c.of_file-rows.result.now (omega (arith, c.loop-row-test.false)))
    ∙ ap (λ rows. all_noted c.args.faults.now (flat_map (faults_beside files) rows)) are
