use Rattle.std.proofs.Common.{◌∷◌, Some, refl, sym, ap, ◌∙◌}
use Rattle.mol_faults_expr.proofs.NamesAdded.{are-many, are-some, are-within, go-on}
use Rattle.mol_faults_expr.proofs.ReadHere.{is-place, reads-there}
use Rattle.mol_faults_expr.specs.Names.{class_reference}
use Rattle.mol_spell_rules.specs.references.References.{outside_target}
use Rattle.mol_spell_rules.specs.Writers.{path_asked}
use Rattle.mol_faults_expr.proofs.expr_reader.ExprReader.outside_class_before.Goals as goal

pub path_reads-requires-clause-at : goal.path_reads-requires-clause-at
path_reads-requires-clause-at g c =
    let writer = g.N.Names.writer c.args.self.now.names.now in
    let locals = g.N.Names.locals c.args.self.now.names.now in
    let place = c.args.self.now.place in
    let kept = c.args.self.now.locals.now in
    is-place writer locals place kept c.requires c.instead_place-place.result c.instead_place-place.ensures.names c.instead_place-place.ensures.locals

pub path_reads-requires-clause-some : goal.path_reads-requires-clause-some
path_reads-requires-clause-some g c = are-some _ _ _ _ c.in_ok-names.ensures (c.len-count.ensures ∙ c.in_ok-names.names.ok.0)

pub path_reads-requires-clause-within : goal.path_reads-requires-clause-within
path_reads-requires-clause-within g c =
    are-within _ _ _ _ c.in_ok-names.ensures (c.len-count.ensures ∙ c.in_ok-names.names.ok.0) _ _ (c.as_slice.ensures.value ∙ c.in_ok-add_to.ensures)

pub returns : goal.returns
returns g c =
    let writer = g.N.Names.writer c.args.self.now.names.now in
    let locals = g.N.Names.locals c.args.self.now.names.now in
    let place = c.args.self.now.place in
    let kept = c.args.self.now.locals.now in
    let follow = c.args.follow.now in
    let spelled = c.in_ok-names.ensures ∙ ap (λ names. names.first ∷ names.rest) (sym c.dotted.ensures) in
    record {
      noted = c.in_ok-note.ensures (class_reference writer locals c.args.full.now (Some follow)) (ap
          (λ text. outside_target text) c.as_str.ensures)
          (reads-there writer locals place kept c.requires c.instead_place-place.result c.instead_place-place.ensures.names c.instead_place-place.ensures.locals _
          (outside_target c.args.full.now) _ _ _
          (c.in_ok-reads.ensures follow
          (go-on _ _ _ _ spelled (c.len-count.ensures ∙ c.in_ok-names.names.ok.0) _ follow (c.as_slice.ensures.value ∙ c.in_ok-add_to.ensures))
          (are-many _ _ _ _ spelled (c.len-count.ensures ∙ c.in_ok-names.names.ok.0)))
          (ap (λ text. outside_target text) c.as_str.ensures)
          (ap (λ names. path_asked names follow) (c.dotted.ensures ∙ c.in_ok-spelled.ensures)));
      typed = refl;
    }
