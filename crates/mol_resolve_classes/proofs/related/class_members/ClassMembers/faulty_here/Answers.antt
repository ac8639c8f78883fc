use Rattle.std.proofs.Common.{◌∙◌}
use Rattle.mol_resolve_members.specs.members.Rows.{kept_row}
use Rattle.mol_resolve_classes.proofs.related_lemmas.KeptFaults.{duplicates-kept, here-made}
use Rattle.mol_resolve_classes.proofs.related.class_members.ClassMembers.faulty_here.Goals as goal

pub returns : goal.returns
returns c = λ rows kept.
    let row = kept_row c.args.row.now in
    here-made row.kind rows row c.is_repeated-duplicate.result c.differences_before-differences.result
    (c.is_repeated-duplicate.ensures ∙ duplicates-kept c.args.self.now rows kept c.signature.result row c.signature.ensures)
    (c.differences_before-differences.ensures rows kept)
