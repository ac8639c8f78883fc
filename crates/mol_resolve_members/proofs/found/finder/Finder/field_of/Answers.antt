use Rattle.std.proofs.Common.{◌≡◌, ◌∙◌, List, ap}
use Rattle.jav_names.specs.LookUps.{field_from}
use Rattle.jav_scope.specs.Answers.{answered, field_ref}
use Rattle.jav_scope.specs.Entries.{view_in}
use Rattle.jav_scope.specs.declared.found.Found.TheVariants as answer
use Rattle.jav_scope.specs.declared.source.SourceUnit.{SourceUnit}
use Rattle.mol_resolve_members.specs.found.Found.{IsField}
use Rattle.mol_resolve_members.proofs.found_lemmas.AsAnswered.{as-found, as-nowhere, as-outside}
use Rattle.mol_resolve_members.proofs.found_lemmas.MembersThere.{field-member, field-stands}
use Rattle.mol_resolve_members.proofs.found.finder.Finder.field_of.Goals as goal

pub field-requires : goal.field-requires
field-requires c =
    let view = view_in c.args.self.now in
    field-member c.args.self.now c.args.class c.args.name.now c.in-Found.at (c.in-Found.ensures
    ∙ ap (λ (all : List SourceUnit). answered field_ref (field_from (view_in all) c.args.class c.args.name.now)) c.self.view_is)

pub returns-in-Found : goal.returns-in-Found
returns-in-Found c =
    let sources = c.args.self.now in
    let read = field_from (view_in sources) c.args.class c.args.name.now in
    let found_it : answer.Found c.in-Found.at ≡ answered field_ref read =
    c.in-Found.ensures
    ∙ ap (λ (all : List SourceUnit). answered field_ref (field_from (view_in all) c.args.class c.args.name.now)) c.self.view_is in
    as-found (IsField sources) field_ref read c.in-Found.at c.field.result found_it
    (λ field is same. c.field.ensures field (field-stands sources c.args.class c.args.name.now field is) same)

pub returns-in-Outside : goal.returns-in-Outside
returns-in-Outside c =
    as-outside (IsField c.args.self.now) field_ref (field_from (view_in c.args.self.now) c.args.class c.args.name.now) (c.in-Outside.ensures
    ∙ ap (λ (all : List SourceUnit). answered field_ref (field_from (view_in all) c.args.class c.args.name.now)) c.self.view_is)

pub returns-in-NotFound : goal.returns-in-NotFound
returns-in-NotFound c =
    as-nowhere (IsField c.args.self.now) field_ref (field_from (view_in c.args.self.now) c.args.class c.args.name.now)
    (c.in-NotFound.ensures
    ∙ ap (λ (all : List SourceUnit). answered field_ref (field_from (view_in all) c.args.class c.args.name.now)) c.self.view_is)
