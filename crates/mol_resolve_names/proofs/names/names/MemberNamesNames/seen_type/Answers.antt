use Rattle.std.proofs.Common.{◌≡◌, ◌∙◌, List, Some, slice_get, sym, ap}
use Rattle.std.proofs.lemmas.Result.{IfOk-weaker}
use Rattle.jav_scope.specs.Entries.{units_of}
use Rattle.jav_scope.specs.declared.source.SourceUnit.{SourceUnit}
use Rattle.jav_tree.specs.declared.unit.Unit.{Unit}
use Rattle.jav_names.specs.TypeTexts.{type_in}
use Rattle.jav_names.specs.UnitViews.{classes_of, header_of}
use Rattle.mol_resolve_names.proofs.names.names.MemberNamesNames.seen_type.Goals as goal
use Rattle.mol_resolve_members.proofs.sources_lemmas.Sourced.{sources_viewed}
use Rattle.mol_resolve_members.specs.sources.Sources.{files_of}
use Rattle.mol_resolve_rules.specs.Files.{units}

pub returns : goal.returns
returns c =
    let names = c.args.self.now in
    let there : slice_get c.scope.result.now names.unit ≡ Some names.source.now =
    ap (λ (all : List SourceUnit). slice_get all names.unit) c.scope.ensures ∙ names.stands.file in
    let same : units_of c.scope.result.now ≡ units (files_of names.finder.now) =
    ap units_of c.scope.ensures ∙ sym (sources_viewed.same_units names.finder.now) in
    IfOk-weaker c.seen_type.result _ _ (λ seen is. is names.source.now there
    ∙ ap (λ (units : List Unit). type_in (classes_of units) (header_of (names.unit, names.source.now.unit)) c.args.ty.now) same)
    c.seen_type.ensures
