use Rattle.std.proofs.Common.{◌∙◌}
use Rattle.mol_resolve_members.specs.members.Rows.{kept_row}
use Rattle.mol_resolve_classes.proofs.related_lemmas.KeptFaults.{below-made, method-differs, method-hides}
use Rattle.mol_resolve_classes.proofs.related.methods.faulty_beside.Goals as goal

pub returns : goal.returns
returns c = λ rows same.
    let row = kept_row c.args.row.now in
    let method = c.declaration-method.result in
    below-made rows row c.differences-differences.result c.hides_static.result
    (c.differences-differences.ensures ∙ method-differs c.args.methods.now rows same method row c.declaration-method.ensures)
    (c.hides_static.ensures ∙ method-hides c.args.methods.now rows same method row c.declaration-method.ensures)
