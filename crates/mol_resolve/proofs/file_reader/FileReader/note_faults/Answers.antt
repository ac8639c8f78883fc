use Rattle.std.proofs.Common.{◌∙◌, ℕ, List, ap, filter, flat_map, slice_get}
use Rattle.jav_scope.specs.declared.source.SourceUnit.{SourceUnit}
use Rattle.mol_resolve_expr.proofs.Outcomes.{noted_on}
use Rattle.mol_resolve_faults.specs.First.{all_noted}
use Rattle.mol_resolve.proofs.file_reader.FileReader.note_faults.Goals as goal
use Rattle.mol_resolve_members.specs.sources.Sources.{file_of, files_of}
use Rattle.mol_resolve_rules.specs.FaultKinds.{every_kind}
use Rattle.mol_resolve_rules.specs.FaultLists.{at_place, faults_beside, has_fault}
use Rattle.mol_resolve_rules.specs.Files.{File}
use Rattle.mol_resolve_rules.specs.ResolveFaults.{rows_in}

pub returns : goal.returns
returns c =
    let unit = c.args.unit in
    let source = c.args.source.now in
    let files = files_of c.args.self.now in
    let file : ℕ × File = (unit, file_of source) in
    let headers = c.self.invariant.headers_see ∙ c.self.view_is in
    let related = c.self.invariant.related_see ∙ c.self.view_is in
    noted_on (at_place 0 (filter (has_fault files file) every_kind)) (flat_map (faults_beside files) (rows_in files file)) _ _ _
    (c.in_ok-note.ensures ∙ ap (λ (all : List SourceUnit).
    all_noted c.args.faults.now (at_place 0 (filter (has_fault (files_of all) (unit, file_of source)) every_kind))) headers)
    (c.note-2.ensures source (ap (λ (all : List SourceUnit). slice_get all unit) related ∙ c.requires) ∙ ap (λ (all : List SourceUnit).
    all_noted c.note.new.faults (flat_map (faults_beside (files_of all)) (rows_in (files_of all) (unit, file_of source)))) related)
