use Rattle.std.proofs.Common.{◌∙◌, cond, None, Some, sym, ap}
use Rattle.jav_scope.specs.declared.found.Found.TheVariants as answer
use Rattle.mol_scope.proofs.asked_lemmas.FoundMembers.{is_static_field}
use Rattle.mol_scope.proofs.asked_lemmas.MembersAnswered.{field-through}
use Rattle.mol_spell_rules.specs.references.References.{field_target}
use Rattle.mol_table_rules.specs.Program.{Program}
use Rattle.mol_scope.proofs.asked.place.NamePlace.field_through.Goals as goal

pub returns-then-is_static_field : goal.returns-then-is_static_field
returns-then-is_static_field c =
    ap (λ b. cond b (Some (field_target c.in-Found.field)) None)
    (sym c.if-is_static_field.true ∙ c.is_static_field.ensures ∙ ap (λ (p : Program). is_static_field p c.in-Found.field) c.table.ensures)
    ∙ field-through c.args.self.now c.args.class.now c.args.name.now (answer.Found c.in-Found.field) c.in-Found.ensures

pub returns-else-is_static_field : goal.returns-else-is_static_field
returns-else-is_static_field c =
    ap (λ b. cond b (Some (field_target c.in-Found.field)) None)
    (sym c.if-is_static_field.false ∙ c.is_static_field.ensures ∙ ap (λ (p : Program). is_static_field p c.in-Found.field) c.table.ensures)
    ∙ field-through c.args.self.now c.args.class.now c.args.name.now (answer.Found c.in-Found.field) c.in-Found.ensures

pub returns-in-Outside : goal.returns-in-Outside
returns-in-Outside c = field-through c.args.self.now c.args.class.now c.args.name.now answer.Outside c.in-Outside.ensures

pub returns-in-NotFound : goal.returns-in-NotFound
returns-in-NotFound c = field-through c.args.self.now c.args.class.now c.args.name.now answer.NotFound c.in-NotFound.ensures
