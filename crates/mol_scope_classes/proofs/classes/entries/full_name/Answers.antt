use Rattle.std.proofs.Common.{◌∙◌, Some, None, cond, option_map, sym, ap}
use Rattle.mol_base.specs.declared.ident.Id.{Id}
use Rattle.jav_names.specs.declared.id_index.entry.Entry.{Entry}
use Rattle.mol_scope_classes.specs.classes.ClassEntries.{class_as, class_entry}
use Rattle.mol_scope_classes.proofs.classes_lemmas.LivingClasses.{class_at-is}
use Rattle.mol_scope_classes.proofs.classes.entries.full_name.Goals as goal

pub returns-in_ok-entry : goal.returns-in_ok-entry
returns-in_ok-entry c =
    let program = c.args.table.now in
    let id : Id = c.args.id.now in
    ap (λ (entry : Entry). Some entry) c.in_ok-entry.ensures
    ∙ sym (ap (option_map class_entry) (class_at-is program id
    ∙ ap (λ b. cond b (Some (class_as program id)) None) (sym c.is_living_class.ensures ∙ c.if-is_living_class.true)))

pub returns-else-is_living_class : goal.returns-else-is_living_class
returns-else-is_living_class c =
    let program = c.args.table.now in
    let id : Id = c.args.id.now in
    sym (ap (option_map class_entry) (class_at-is program id
    ∙ ap (λ b. cond b (Some (class_as program id)) None) (sym c.is_living_class.ensures ∙ c.if-is_living_class.false)))
