use Rattle.mol_resolve_names.proofs.accesses.fields.field_of.Goals as goal
use Rattle.mol_resolve_readings.specs.meant.Kept.{view_meant}
use Rattle.mol_resolve_names.proofs.accesses_lemmas.FieldsRead.{field-missing, field-none, field-outside, field-read, field-static, field-unread}

pub returns-in_ok-field-in-Member : goal.returns-in_ok-field-in-Member
returns-in_ok-field-in-Member c = λ reader over.
    field-read c.args.finder.now c.args.at reader over c.args.name.now (view_meant c.args.value) c.in-Member.field (view_meant
    c.in_ok-field-in-Member.field) c.args.faults.now
    c.in-Member.ensures c.in_ok-field-in-Member.ensures

pub returns-in_ok-field-in-Outside : goal.returns-in_ok-field-in-Outside
returns-in_ok-field-in-Outside c = λ reader over.
    field-outside c.args.finder.now c.args.at reader over c.args.name.now (view_meant c.args.value) (view_meant
    c.in_ok-field-in-Outside.field) c.args.faults.now
    c.in-Outside.ensures c.in_ok-field-in-Outside.ensures

pub returns-in-Static : goal.returns-in-Static
returns-in-Static c = λ reader over.
    field-static c.args.finder.now c.args.at reader over c.args.name.now (view_meant c.args.value) c.args.faults.now c.note.new.self
    c.in-Static.ensures c.note.ensures

pub returns-in-Missing : goal.returns-in-Missing
returns-in-Missing c = λ reader over.
    field-missing c.args.finder.now c.args.at reader over c.args.name.now (view_meant c.args.value) c.args.faults.now
    c.note-in-Missing.new.self c.in-Missing.ensures c.note-in-Missing.ensures

pub returns-in-NoMembers : goal.returns-in-NoMembers
returns-in-NoMembers c = λ reader over.
    field-none c.args.finder.now c.args.at reader over c.args.name.now (view_meant c.args.value) c.args.faults.now
    c.note-in-NoMembers.new.self c.in-NoMembers.ensures c.note-in-NoMembers.ensures

pub returns-in-Unread : goal.returns-in-Unread
returns-in-Unread c = λ reader over. field-unread c.args.finder.now c.args.at reader over c.args.name.now (view_meant c.args.value)
    c.args.faults.now c.in-Unread.ensures
