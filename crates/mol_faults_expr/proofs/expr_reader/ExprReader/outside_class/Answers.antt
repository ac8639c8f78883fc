use Rattle.std.proofs.Common.{◌∷◌, None, refl, sym, ap, ◌∙◌}
use Rattle.mol_faults_expr.proofs.ReadHere.{is-place, reads-there}
use Rattle.mol_faults_expr.specs.Names.{class_reference}
use Rattle.mol_spell_rules.specs.references.References.{outside_target}
use Rattle.mol_spell_rules.specs.SpelledExpressions.{asks_outside}
use Rattle.mol_faults_expr.proofs.expr_reader.ExprReader.outside_class.Goals as goal

pub outside_reads-requires-clause-at : goal.outside_reads-requires-clause-at
outside_reads-requires-clause-at g c =
    let writer = g.N.Names.writer c.args.self.now.names.now in
    let locals = g.N.Names.locals c.args.self.now.names.now in
    let place = c.args.self.now.place in
    let kept = c.args.self.now.locals.now in
    is-place writer locals place kept c.requires c.instead_place-place.result c.instead_place-place.ensures.names c.instead_place-place.ensures.locals

pub outside_reads-requires-clause-names : goal.outside_reads-requires-clause-names
outside_reads-requires-clause-names g c =
    c.as_slice.ensures.value ∙ c.in_ok-names.ensures ∙ ap (λ names. names.first ∷ names.rest) (sym c.dotted.ensures)

pub returns : goal.returns
returns g c =
    let writer = g.N.Names.writer c.args.self.now.names.now in
    let locals = g.N.Names.locals c.args.self.now.names.now in
    let place = c.args.self.now.place in
    let kept = c.args.self.now.locals.now in
    record {
      noted = c.in_ok-note.ensures (class_reference writer locals c.args.full.now None) (ap
          (λ text. outside_target text) c.as_str.ensures)
          (reads-there writer locals place kept c.requires c.instead_place-place.result c.instead_place-place.ensures.names c.instead_place-place.ensures.locals _
          (outside_target c.args.full.now) _ _ _ (c.in_ok-reads.ensures writer locals) (ap (λ text. outside_target text) c.as_str.ensures)
          (ap (λ names. asks_outside writer locals names None) (c.dotted.ensures ∙ c.in_ok-spelled.ensures)));
      typed = refl;
    }
