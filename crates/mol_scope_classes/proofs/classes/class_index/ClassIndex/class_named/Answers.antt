use Rattle.std.proofs.Common.{◌∙◌, ap, find, option_map}
use Rattle.jav_names.specs.index.Spelled.{spelled}
use Rattle.jav_names.specs.LookUps.{class_named}
use Rattle.jav_names.specs.Views.{ViewClass}
use Rattle.mol_base.specs.declared.ident.Id.{Id}
use Rattle.jav_names.specs.id_index.Seeking.{is_sought}
use Rattle.jav_names.specs.declared.id_index.entry.Entry.{Entry}
use Rattle.mol_resolve_rules.specs.ProgramViews.{program_view}
use Rattle.mol_table_rules.specs.Program.{Program}
use Rattle.mol_scope_classes.proofs.classes_lemmas.ClassesFound.{class-found}
use Rattle.mol_scope_classes.proofs.classes.class_index.ClassIndex.class_named.Goals as goal

pub returns : goal.returns
returns c =
    let name = spelled c.args.name.now in
    c.first.ensures
    ∙ ap (λ owner. option_map (λ (entry : Entry). entry.id) (find (is_sought owner 0 name) c.self.inside.full_names)) c.no_owner.ensures
    ∙ class-found c.self.inside.table.now c.self.inside.full_names c.self.inside.count c.self.invariant name
    ∙ ap (λ (program : Program). option_map (λ (class : ViewClass Id). class.key) (class_named (program_view program).classes name))
    c.self.view_is
