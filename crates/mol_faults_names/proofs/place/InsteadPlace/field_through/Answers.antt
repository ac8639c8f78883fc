use Rattle.std.proofs.Common.{◌≡◌, ◌∙◌, cond, None, Some, sym, ap, subst}
use Rattle.jav_scope.specs.declared.found.Found.{Found}
use Rattle.jav_scope.specs.declared.found.Found.TheVariants as answer
use Rattle.jav_names.specs.DottedNames.{Name}
use Rattle.jav_names.specs.LookUps.{field_from, field_through}
use Rattle.mol_scope.proofs.asked_lemmas.FoundMembers.{is_static_field}
use Rattle.mol_scope.proofs.asked_lemmas.MembersAnswered.{field-through, field_key}
use Rattle.mol_scope.specs.asked.Places.{program_of, reader_of}
use Rattle.mol_base.specs.declared.ident.Id.{Id}
use Rattle.mol_faults_names.proofs.Members.{through-field, through-none}
use Rattle.mol_spell_rules.specs.references.References.{field_target}
use Rattle.mol_resolve_rules.specs.ProgramViews.{program_view}
use Rattle.mol_resolve_rules.specs.StaticTypes.{field_value}
use Rattle.mol_table_rules.specs.Program.{Program}
use Rattle.mol_faults_names.proofs.place.InsteadPlace.field_through.Goals as goal

pub returns-then-is_static_field : goal.returns-then-is_static_field
returns-then-is_static_field c =
    let place = c.args.self.now.names.now in
    let field = c.in-Found.field in
    let found = subst (λ (name : Name). answer.Found field ≡ field_key place (field_from (program_view (program_of place)) c.args.class.now name))
    c.as_str.ensures c.in-Found.ensures in
    ap Some (c.field_read.ensures ∙ ap (λ (program : Program). record { target = field_target field; type = field_value program field })
    c.table-then-is_static_field.ensures)
    ∙ through-field place field (field_through (reader_of place).view c.args.class.now c.args.name.now)
    (ap (λ b. cond b (Some (field_target field)) None)
    (sym c.if-is_static_field.true ∙ c.is_static_field.ensures ∙ ap (λ (p : Program). is_static_field p field) c.table.ensures)
    ∙ field-through place c.args.class.now c.args.name.now (answer.Found field) found)

pub returns-else-is_static_field : goal.returns-else-is_static_field
returns-else-is_static_field c =
    let place = c.args.self.now.names.now in
    let field = c.in-Found.field in
    let found = subst (λ (name : Name). answer.Found field ≡ field_key place (field_from (program_view (program_of place)) c.args.class.now name))
    c.as_str.ensures c.in-Found.ensures in
    through-none place (field_through (reader_of place).view c.args.class.now c.args.name.now)
    (ap (λ b. cond b (Some (field_target field)) None)
    (sym c.if-is_static_field.false ∙ c.is_static_field.ensures ∙ ap (λ (p : Program). is_static_field p field) c.table.ensures)
    ∙ field-through place c.args.class.now c.args.name.now (answer.Found field) found)

pub returns-in-Outside : goal.returns-in-Outside
returns-in-Outside c =
    let place = c.args.self.now.names.now in
    through-none place (field_through (reader_of place).view c.args.class.now c.args.name.now)
    (field-through place c.args.class.now c.args.name.now answer.Outside
    (subst (λ (name : Name). ◌≡◌ {A = Found Id} answer.Outside (field_key place (field_from (program_view (program_of place)) c.args.class.now name)))
    c.as_str.ensures c.in-Outside.ensures))

pub returns-in-NotFound : goal.returns-in-NotFound
returns-in-NotFound c =
    let place = c.args.self.now.names.now in
    through-none place (field_through (reader_of place).view c.args.class.now c.args.name.now)
    (field-through place c.args.class.now c.args.name.now answer.NotFound
    (subst (λ (name : Name). ◌≡◌ {A = Found Id} answer.NotFound (field_key place (field_from (program_view (program_of place)) c.args.class.now name)))
    c.as_str.ensures c.in-NotFound.ensures))
