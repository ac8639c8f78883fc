use Rattle.std.proofs.Common.{◌≡◌, ◌∙◌, Some, ap, subst}
use Rattle.jav_names.specs.DottedNames.{Name}
use Rattle.jav_names.specs.LookUps.{field_on}
use Rattle.mol_scope.specs.asked.Answers.{answer_of, text_of}
use Rattle.mol_scope.specs.asked.Places.{reader_of}
use Rattle.mol_faults_names.proofs.Members.{else-answer, field-answer, is-else, outside-answer}
use Rattle.mol_faults_names.specs.Kept.{locals_at}
use Rattle.mol_faults_names.specs.Reads.{outside_read}
use Rattle.mol_spell_rules.specs.references.References.{field_target, outside_target}
use Rattle.mol_resolve_rules.specs.StaticTypes.{field_value}
use Rattle.mol_spell_rules.specs.Answers.{field_of, on_value_answer}
use Rattle.mol_table_rules.specs.Program.{Program}
use Rattle.mol_scope.specs.types.Kept.{view_value}
use Rattle.mol_faults_names.proofs.place.InsteadPlace.field_on.Goals as goal

pub returns-in-Field : goal.returns-in-Field
returns-in-Field c =
    let place = c.args.self.now.names.now in
    let reader = reader_of place in
    let type = view_value c.args.ty.now in
    let field = c.in-Field.field in
    ap Some (c.field_read.ensures ∙ ap (λ (program : Program). record { target = field_target field; type = field_value program field })
    c.table.ensures)
    ∙ field-answer place c.args.name.now type field (field_on reader.view c.args.name.now type)
    (subst (λ (name : Name). Some (field_target field) ≡ on_value_answer reader name (field_of reader) (field_on reader.view name type))
    c.as_str.ensures (c.in-Field.ensures (locals_at c.args.self.now)))

pub returns-in-Outside : goal.returns-in-Outside
returns-in-Outside c =
    let place = c.args.self.now.names.now in
    let reader = reader_of place in
    let type = view_value c.args.ty.now in
    ap Some (λ i. outside_read (c.as_str-in-Outside.ensures i) (c.outside_field.ensures i))
    ∙ outside-answer place c.args.name.now type (text_of c.in-Outside.field-0) (field_on reader.view c.args.name.now type)
    (subst (λ (name : Name). Some (outside_target (text_of c.in-Outside.field-0))
    ≡ on_value_answer reader name (field_of reader) (field_on reader.view name type))
    c.as_str.ensures (c.in-Outside.ensures (locals_at c.args.self.now)))

pub returns-in_default : goal.returns-in_default
returns-in_default c =
    let place = c.args.self.now.names.now in
    let reader = reader_of place in
    let type = view_value c.args.ty.now in
    let read = c.field_on.result in
    else-answer place c.args.name.now type (answer_of read) (is-else read c.in_default.not-Field c.in_default.not-Outside)
    (field_on reader.view c.args.name.now type)
    (subst (λ (name : Name). answer_of read ≡ on_value_answer reader name (field_of reader) (field_on reader.view name type))
    c.as_str.ensures (c.field_on.ensures (locals_at c.args.self.now)))
