use Rattle.std.proofs.Common.{◌∷◌, ◌++◌, [], map, sym, ◌∙◌, ap, arith}
use Rattle.std.proofs.lemmas.List.{map-append, take_all}
use Rattle.mol_resolve_members.specs.members.Rows.{kept_row}
use Rattle.mol_resolve_classes.specs.related.Compared.{seen_row, seen_signature}
use Rattle.mol_resolve_classes.proofs.related_lemmas.KeptInOrder.{listed-more}
use Rattle.mol_resolve_classes.proofs.related.class_members.signatures_of.Goals as goal

pub loop-row-preserved : goal.loop-row-preserved
loop-row-preserved c =
    ap (map seen_signature) c.in_ok-push.ensures.items
    ∙ map-append seen_signature c.loop-row.signatures.items _
    ∙ (λ i. c.loop-row.invariant i ++ c.signature.ensures i ∷ [])
    ∙ sym (listed-more c.args.rows.now c.loop-row.row-index c.row-item.result c.loop-row-test.true c.row-item.is seen_row)

pub returns : goal.returns
returns c =
    c.loop-row.invariant
    ∙ ap (λ rows. map seen_row (map kept_row rows)) (take_all c.loop-row.row-index c.args.rows.now (omega (arith, c.loop-row-test.false)))
