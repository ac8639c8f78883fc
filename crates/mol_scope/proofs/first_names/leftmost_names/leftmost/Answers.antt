use Rattle.std.proofs.Common.{◌≡◌, ◌∙◌, ap, sym, get_or}
use Rattle.jav_scope.specs.Answers.{answered}
use Rattle.jav_names.specs.DottedNames.{Names}
use Rattle.jav_names.specs.Leftmost.{Leftmost}
use Rattle.jav_names.specs.LookUps.{leftmost_type, simple_type, variable}
use Rattle.mol_base.specs.declared.ident.Id.{Id}
use Rattle.mol_scope.specs.first_names.Readings.{file_place}
use Rattle.mol_scope.proofs.first_names_lemmas.FirstRead.{by-variable, by-none}
use Rattle.mol_resolve_rules.specs.ProgramReaders.{class_header}
use Rattle.mol_resolve_rules.specs.ProgramViews.{program_view}
use Rattle.mol_table_rules.specs.Program.{Program}
use Rattle.mol_scope.specs.variables.Keys.{found_in, variable_key}
use Rattle.mol_scope.proofs.first_names.leftmost_names.leftmost.Goals as goal

pub returns-in-Some : goal.returns-in-Some
returns-in-Some c = λ first rest is.
    let view = program_view c.args.place.now.members.now in
    let header = class_header c.args.place.now.members.now c.args.place.now.class c.args.imports.now in
    let place = file_place c.args.place.now c.args.imports.now in
    let otherwise : Leftmost Id Id = leftmost_type view.classes first rest (simple_type view.classes header first) in
    let name : c.as_str.result.now ≡ first =
    c.as_str.ensures ∙ c.index-names-0.is ∙ ap (λ (all : Names). get_or all 0 c.index-names-0.result) is in
    by-variable otherwise (variable view place first) c.in-Some.variable
    (c.in-Some.ensures header ∙ ap (λ n. found_in (answered variable_key (variable view place n))) name)

pub returns-in-None : goal.returns-in-None
returns-in-None c = λ first rest is.
    let view = program_view c.args.place.now.members.now in
    let header = class_header c.args.place.now.members.now c.args.place.now.class c.args.imports.now in
    let place = file_place c.args.place.now c.args.imports.now in
    let otherwise : Leftmost Id Id = leftmost_type view.classes first rest (simple_type view.classes header first) in
    let name : c.as_str.result.now ≡ first =
    c.as_str.ensures ∙ c.index-names-0.is ∙ ap (λ (all : Names). get_or all 0 c.index-names-0.result) is in
    by-none otherwise (variable view place first)
    (c.in-None.ensures header ∙ ap (λ n. found_in (answered variable_key (variable view place n))) name)
    ∙ sym (c.first_type.ensures first rest is
    ∙ ap (λ (program : Program). leftmost_type {M = Id} (program_view program).classes first rest
    (simple_type (program_view program).classes (class_header program c.args.place.now.class c.args.imports.now) first)) c.classes.ensures)
