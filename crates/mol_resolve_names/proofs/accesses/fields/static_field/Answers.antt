use Rattle.mol_resolve_names.proofs.accesses.fields.static_field.Goals as goal
use Rattle.mol_resolve_readings.specs.meant.Kept.{view_meant}
use Rattle.mol_resolve_names.proofs.accesses_lemmas.FieldsRead.{static-read, static-refused}

pub returns-in_ok-value-in-Some : goal.returns-in_ok-value-in-Some
returns-in_ok-value-in-Some c = λ reader over.
    static-read c.args.finder.now c.args.at reader over c.args.class c.args.name.now c.in-Some.field (view_meant c.in_ok-value-in-Some.value)
    c.args.faults.now c.in-Some.ensures
    c.in_ok-value-in-Some.ensures

pub returns-in-None : goal.returns-in-None
returns-in-None c = λ reader over.
    static-refused c.args.finder.now c.args.at reader over c.args.class c.args.name.now c.args.faults.now c.note.new.self
    c.in-None.ensures c.note.ensures
