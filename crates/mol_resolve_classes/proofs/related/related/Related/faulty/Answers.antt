use Rattle.std.proofs.Common.{sym, ◌∙◌, ap}
use Rattle.mol_resolve_faults.specs.beside.Between.{faulty_below, faulty_here}
use Rattle.mol_resolve_faults.specs.beside.Classes.{either, rows_above, rows_of}
use Rattle.mol_resolve_members.specs.members.Rows.{kept_row, kind_of}
use Rattle.mol_resolve_members.specs.sources.Sources.{files_of}
use Rattle.mol_resolve_classes.proofs.related_lemmas.FaultsAbove.{constructor-alone, field-alone}
use Rattle.mol_resolve_classes.proofs.related.related.Related.faulty.Goals as goal

pub returns-in-Field : goal.returns-in-Field
returns-in-Field c =
    let files = files_of c.args.self.now in
    let row = kept_row c.args.row.now in
    c.faulty_in-here.ensures
    ∙ field-alone (rows_of files c.args.unit) (rows_above files c.args.unit) row row.kind (ap kind_of c.in-Field.is)

pub returns-in-Ctor : goal.returns-in-Ctor
returns-in-Ctor c =
    let files = files_of c.args.self.now in
    let row = kept_row c.args.row.now in
    c.faulty_in-here.ensures
    ∙ constructor-alone (rows_of files c.args.unit) (rows_above files c.args.unit) row row.kind (ap kind_of c.in-Ctor.is)

pub returns-in-Method : goal.returns-in-Method
returns-in-Method c =
    let files = files_of c.args.self.now in
    let row = kept_row c.args.row.now in
    c.or.ensures ∙ (λ i. either (c.faulty_in-here.ensures i) (c.faulty_above.ensures i))
    ∙ ap (λ kind. either (faulty_here row.kind (rows_of files c.args.unit) row) (faulty_below kind (rows_above files c.args.unit) row))
    (sym (ap kind_of c.in-Method.is))
