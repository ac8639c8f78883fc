use Rattle.std.proofs.Common.{◌≡◌, Bool, List, sym, ◌∙◌, ap, arith}
use Rattle.jav_scope.specs.declared.source.SourceUnit.{SourceUnit}
use Rattle.mol_resolve_classes.specs.headers.Headers.{fails}
use Rattle.mol_resolve_classes.proofs.header_faults_lemmas.FaultyFiles.{doubles-at, packages-at, circles-at}
use Rattle.mol_resolve_classes.proofs.header_faults_lemmas.HeadersNoted.{headers-noted}
use Rattle.mol_resolve_classes.specs.header_faults.FaultyClasses.{note_if}
use Rattle.mol_resolve_members.specs.sources.Sources.{file_of, files_of}
use Rattle.mol_resolve_rules.specs.FaultKinds.{FaultKind, path_differs, duplicate_class, package_is_class, super_cycle, import_clash}
use Rattle.mol_resolve_classes.proofs.header_faults.header_faults.HeaderFaults.note.Goals as goal

pub index-requires : goal.index-requires
index-requires c =
    let kept = c.self.inside in
    let at = doubles-at c.args.self.now c.args.unit c.args.source.now c.requires.source kept.sources.now c.self.view_is
    kept.doubles.items kept.packages.items kept.circles.items c.self.invariant in
    omega (arith, at.0, kept.doubles.ok.0)

pub index-requires-2 : goal.index-requires-2
index-requires-2 c =
    let kept = c.self.inside in
    let at = packages-at c.args.self.now c.args.unit c.args.source.now c.requires.source kept.sources.now c.self.view_is
    kept.doubles.items kept.packages.items kept.circles.items c.self.invariant in
    omega (arith, at.0, kept.packages.ok.0)

pub index-requires-3 : goal.index-requires-3
index-requires-3 c =
    let kept = c.self.inside in
    let at = circles-at c.args.self.now c.args.unit c.args.source.now c.requires.source kept.sources.now c.self.view_is
    kept.doubles.items kept.packages.items kept.circles.items c.self.invariant in
    omega (arith, at.0, kept.circles.ok.0)

pub returns : goal.returns
returns c =
    let kept = c.self.inside in
    let sources : List SourceUnit = c.args.self.now in
    let source : SourceUnit = c.args.source.now in
    let has : FaultKind → Bool = λ kind. fails sources kind (c.args.unit, source) in
    let path : c.in_ok-path_differs.field-0 ≡ has path_differs = c.in_ok-path_differs.ensures sources c.args.unit in
    let double : c.index.result.now ≡ has duplicate_class = c.index.ensures
    ∙ (doubles-at sources c.args.unit source c.requires.source kept.sources.now c.self.view_is kept.doubles.items kept.packages.items
    kept.circles.items c.self.invariant).1 c.index.result.now in
    let inside : c.index-2.result.now ≡ has package_is_class = c.index-2.ensures
    ∙ (packages-at sources c.args.unit source c.requires.source kept.sources.now c.self.view_is kept.doubles.items kept.packages.items
    kept.circles.items c.self.invariant).1 c.index-2.result.now in
    let circle : c.index-3.result.now ≡ has super_cycle = c.index-3.ensures
    ∙ (circles-at sources c.args.unit source c.requires.source kept.sources.now c.self.view_is kept.doubles.items kept.packages.items
    kept.circles.items c.self.invariant).1 c.index-3.result.now in
    let clash : c.imports_clash.result ≡ has import_clash = c.imports_clash.ensures
    ∙ ap (λ (all : List SourceUnit). fails all import_clash (c.args.unit, source)) c.requires.scope in
    c.note_if-5.ensures ∙ ap (note_if c.imports_clash.result import_clash) (c.note_if-4.ensures
    ∙ ap (note_if c.index-3.result.now super_cycle) (c.note_if-3.ensures
    ∙ ap (note_if c.index-2.result.now package_is_class) (c.note_if-2.ensures
    ∙ ap (note_if c.index.result.now duplicate_class) c.note_if.ensures)))
    ∙ (λ i. note_if (clash i) import_clash (note_if (circle i) super_cycle (note_if (inside i) package_is_class
    (note_if (double i) duplicate_class (note_if (path i) path_differs c.args.faults.now)))))
    ∙ sym (headers-noted (files_of sources) (c.args.unit, file_of source) c.args.faults.now)
