use Rattle.std.proofs.Common.{false, sym, ◌∙◌, ap}
use Rattle.mol_resolve_members.specs.members.Rows.{kept_row, kind_of}
use Rattle.mol_resolve_faults.specs.beside.Between.{faulty_here}
use Rattle.mol_resolve_classes.specs.declared.namesakes.differences.Differences.{Differences}
use Rattle.mol_resolve_classes.specs.related.Compared.{differing}
use Rattle.mol_resolve_classes.proofs.related_lemmas.KeptFaults.{constructor-differs_before, method-differs_before}
use Rattle.mol_resolve_classes.proofs.related.class_members.ClassMembers.differences_before.Goals as goal

pub returns-in-Field : goal.returns-in-Field
returns-in-Field c = λ rows kept.
    let row = kept_row c.args.row.now in
    ap (λ kind. differing (faulty_here kind rows row)) (sym (ap kind_of c.in-Field.is))

pub returns-in-Method : goal.returns-in-Method
returns-in-Method c = λ rows kept.
    let row = kept_row c.args.row.now in
    c.differences_before.ensures
    ∙ method-differs_before c.args.self.now rows kept c.declaration.result row c.declaration.ensures
    ∙ ap (λ kind. differing (faulty_here kind rows row)) (sym (ap kind_of c.in-Method.is))

pub returns-in-Ctor : goal.returns-in-Ctor
returns-in-Ctor c = λ rows kept.
    let row = kept_row c.args.row.now in
    ap (λ types. record { types = types; result = false })
    (ap (λ (d : Differences). d.types) c.differences_before-in-Ctor.ensures
    ∙ constructor-differs_before c.args.self.now rows kept c.declaration-in-Ctor.result row c.declaration-in-Ctor.ensures)
    ∙ ap (λ kind. differing (faulty_here kind rows row)) (sym (ap kind_of c.in-Ctor.is))
