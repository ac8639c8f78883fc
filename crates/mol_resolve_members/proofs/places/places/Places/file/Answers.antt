use Rattle.std.proofs.Common.{◌≡◌, ◌<◌, List, length, sym, ◌∙◌, ap, subst, arith}
use Rattle.jav_scope.specs.declared.source.SourceUnit.{SourceUnit}
use Rattle.mol_resolve_members.specs.places.Orders.{numbers_by_path, position}
use Rattle.mol_resolve_members.proofs.places_lemmas.PlacesHeld.{file-place, files-length}
use Rattle.mol_resolve_members.proofs.places.places.Places.file.Goals as goal

pub index-requires : goal.index-requires
index-requires c =
    let kept = c.self.inside in
    let inside : c.args.unit < length kept.sources.now =
    subst (λ (all : List SourceUnit). c.args.unit < length all) (sym c.self.view_is) c.requires in
    omega (arith, inside, files-length kept.sources.now kept.files.items kept.before.items c.self.invariant, kept.files.ok.0)

pub returns : goal.returns
returns c =
    let kept = c.self.inside in
    let inside : c.args.unit < length kept.sources.now =
    subst (λ (all : List SourceUnit). c.args.unit < length all) (sym c.self.view_is) c.requires in
    c.index.ensures ∙ file-place kept.sources.now kept.files.items kept.before.items c.self.invariant c.args.unit c.index.result.now inside
    ∙ ap (λ (all : List SourceUnit). position (numbers_by_path all) c.args.unit) c.self.view_is
