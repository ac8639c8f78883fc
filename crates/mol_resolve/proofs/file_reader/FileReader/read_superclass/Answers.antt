use Rattle.std.proofs.Common.{◌∙◌, List, ap, option_map, refl, slice_get, subst}
use Rattle.jav_scope.specs.declared.source.SourceUnit.{SourceUnit}
use Rattle.mol_resolve_expr.proofs.Outcomes.{made_read}
use Rattle.mol_resolve_readings.specs.meant.Kept.{view_reading}
use Rattle.mol_resolve_entities.specs.member_entities.Headings.{tree_in, tree_read}
use Rattle.mol_resolve.proofs.file_members_lemmas.MaybeThere.{none-read, some-read}
use Rattle.mol_resolve_readings.specs.reads.Reads.{Reads}
use Rattle.mol_resolve.proofs.file_reader.FileReader.read_superclass.Goals as goal
use Rattle.mol_resolve_members.specs.sources.Sources.{file_of, files_of}
use Rattle.mol_resolve_rules.specs.ReadFiles.{file_reader}
use Rattle.mol_resolve_rules.specs.ReadTypes.{read_type}

pub returns-in-None : goal.returns-in-None
returns-in-None c = λ source stands.
    none-read (tree_read (file_reader (files_of c.args.self.now) (c.args.unit, file_of source)) 0) c.args.parent.now c.args.faults.now
    c.in-None.is

pub returns-in_ok-read-in-Some : goal.returns-in_ok-read-in-Some
returns-in_ok-read-in-Some c = λ source stands.
    let unit = c.args.unit in
    let scope = c.self.invariant.scope_sees ∙ c.self.view_is in
    let reader = file_reader (files_of c.args.self.now) (unit, file_of source) in
    let value = view_reading c.in_ok-read-in-Some.read in
    let read = subst (λ (all : List SourceUnit). Reads (read_type (file_reader (files_of all) (unit, file_of source)) 0 c.in-Some.ty)
    value c.args.faults.now c.read_type.new.faults) scope
    (c.in_ok-read-in-Some.ensures source (ap (λ (all : List SourceUnit). slice_get all unit) scope ∙ stands)) in
    some-read (tree_read reader 0) c.args.parent.now c.in-Some.ty (option_map tree_in value) c.extended.result _ _ c.in-Some.is
    (made_read tree_in (read_type reader 0 c.in-Some.ty) value (option_map tree_in value) _ _ read refl) c.extended.ensures
