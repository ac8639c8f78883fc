use Rattle.std.proofs.Common.{◌<◌, List, length, ap, subst, arith, refl}
use Rattle.std.proofs.lemmas.Option.{slice_get_read}
use Rattle.jav_scope.specs.declared.source.SourceUnit.{SourceUnit}
use Rattle.mol_resolve_faults.specs.beside.Classes.{rows_of}
use Rattle.mol_resolve_members.specs.sources.Sources.{files_of}
use Rattle.mol_resolve_classes.specs.related.Compared.{AreKept}
use Rattle.mol_resolve_classes.proofs.related.related.Related.faulty_in.Goals as goal

pub index-requires : goal.index-requires
index-requires c =
    let kept = c.self.inside in
    omega (arith, c.requires, ap (λ (all : List SourceUnit). length all) c.self.view_is, c.self.invariant.size, kept.classes.ok.0)

pub returns : goal.returns
returns c =
    let kept = c.self.inside in
    let unit = c.args.unit in
    let inside : unit < length kept.classes.items =
    omega (arith, c.requires, ap (λ (all : List SourceUnit). length all) c.self.view_is, c.self.invariant.size) in
    c.faulty_here.ensures (rows_of (files_of c.args.self.now) unit)
    (subst (λ (all : List SourceUnit). AreKept c.index.result.now (rows_of (files_of all) unit)) c.self.view_is
    (c.self.invariant.kept unit c.index.result.now
    (slice_get_read kept.classes.items (length kept.classes.items) unit c.index.result.now refl inside c.index.ensures)))
