use Rattle.std.proofs.Common.{◌∙◌, ap}
use Rattle.jav_scope.specs.Answers.{answered}
use Rattle.jav_scope.specs.declared.found.Found.{Found}
use Rattle.jav_names.specs.DottedNames.{Name}
use Rattle.jav_names.specs.LookUps.{method_from}
use Rattle.mol_base.specs.declared.ident.Id.{Id}
use Rattle.mol_spell_names.proofs.body_names_lemmas.FoundHere.{key_of}
use Rattle.mol_spell_names.proofs.body_names.methods.method_found.Goals as goal
use Rattle.mol_resolve_rules.specs.ProgramViews.{program_view}
use Rattle.mol_table_rules.specs.Program.{Program, name_at}

pub returns-in-Some : goal.returns-in-Some
returns-in-Some c =
    let program = c.args.members.now in
    let found : Name → Found Id =
    λ name. answered (key_of program) (method_from (program_view program) c.args.class.now name c.args.arity)
    in
    c.method_of.ensures ∙ ap found (c.in-Some.ensures ∙ ap (λ (program : Program). name_at program c.args.method.now) c.table.ensures)

pub returns-in-None : goal.returns-in-None
returns-in-None c =
    let program = c.args.members.now in
    let found : Name → Found Id =
    λ name. answered (key_of program) (method_from (program_view program) c.args.class.now name c.args.arity)
    in
    c.nameless_found.ensures
    ∙ ap found (c.in-None.ensures ∙ ap (λ (program : Program). name_at program c.args.method.now) c.table.ensures)
