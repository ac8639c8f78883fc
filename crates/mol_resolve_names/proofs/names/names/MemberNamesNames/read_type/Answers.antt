use Rattle.std.proofs.Common.{◌≡◌, ◌∙◌, ℕ, List, Some, map, slice_get, ap, subst}
use Rattle.std.proofs.lemmas.Result.{IfOk-weaker}
use Rattle.jav_scope.specs.declared.source.SourceUnit.{SourceUnit}
use Rattle.mol_resolve_names.specs.chains.InMembers.{view_param}
use Rattle.mol_resolve_readings.specs.meant.Kept.{view_reading}
use Rattle.mol_resolve_names.proofs.names_lemmas.TypesRead.{type-read}
use Rattle.mol_resolve_names.proofs.names.names.MemberNamesNames.read_type.Goals as goal
use Rattle.mol_resolve_readings.specs.reads.Reads.{Reads}
use Rattle.mol_resolve_members.specs.sources.Sources.{file_of, files_of}
use Rattle.mol_resolve_rules.specs.Outcomes.{Outcome}
use Rattle.mol_resolve_rules.specs.ReadFiles.{file_reader}
use Rattle.mol_resolve_rules.specs.ReadTypes.{ReadType, read_type}
use Rattle.mol_resolve_rules.specs.Readers.{Reader}
use Rattle.jav_names.specs.UnitViews.{MemberKey}

abbrev reader_at : List SourceUnit → ℕ → SourceUnit → Reader ℕ MemberKey
reader_at sources unit source = file_reader (files_of sources) (unit, file_of source)

pub returns : goal.returns
returns c =
    let names = c.args.self.now in
    let there : slice_get c.scope.result.now names.unit ≡ Some names.source.now =
    ap (λ (all : List SourceUnit). slice_get all names.unit) c.scope.ensures ∙ names.stands.file in
    IfOk-weaker c.read_type.result _ _ (λ read reads.
    subst (λ (outcome : Outcome (ReadType ℕ)). Reads outcome (view_reading read) c.args.faults.now c.read_type.new.faults)
    (ap (λ (all : List SourceUnit). read_type (reader_at all names.unit names.source.now) c.args.at c.args.ty.now) c.scope.ensures
    ∙ type-read (reader_at names.finder.now names.unit names.source.now) (map view_param names.params.items) names.in_constructor
    c.args.at c.args.ty.now) (reads names.source.now there)) c.read_type.ensures
