use Rattle.std.proofs.Common.{◌≡◌, ◌∙◌, List, sym, ap}
use Rattle.jav_names.specs.LookUps.{method_from}
use Rattle.jav_scope.specs.Answers.{answered, declaration_ref}
use Rattle.jav_scope.specs.Entries.{view_in}
use Rattle.jav_scope.specs.declared.found.Found.TheVariants as answer
use Rattle.jav_scope.specs.declared.source.SourceUnit.{SourceUnit}
use Rattle.mol_resolve_members.specs.found.Found.{IsMethod}
use Rattle.mol_resolve_members.proofs.found_lemmas.AsAnswered.{as-found, as-nowhere, as-outside}
use Rattle.mol_resolve_members.proofs.found_lemmas.MembersThere.{method-member, method-stands, method-takes}
use Rattle.mol_resolve_members.proofs.found.finder.Finder.method_of.Goals as goal

pub method-requires : goal.method-requires
method-requires c =
    let view = view_in c.args.self.now in
    method-member c.args.self.now c.args.class c.args.name.now c.args.arity c.in-Found.at
    (c.in-Found.ensures ∙ ap (λ (all : List SourceUnit). answered declaration_ref
    (method_from (view_in all) c.args.class c.args.name.now c.args.arity)) c.self.view_is)

pub returns-in-Found : goal.returns-in-Found
returns-in-Found c =
    let sources = c.args.self.now in
    let read = method_from (view_in sources) c.args.class c.args.name.now c.args.arity in
    let found_it : answer.Found c.in-Found.at ≡ answered declaration_ref read =
    c.in-Found.ensures
    ∙ ap (λ (all : List SourceUnit). answered declaration_ref
    (method_from (view_in all) c.args.class c.args.name.now c.args.arity)) c.self.view_is in
    as-found (IsMethod sources) declaration_ref read c.in-Found.at c.method.result found_it
    (λ declared is same. c.method.ensures declared
    (method-stands sources c.args.class c.args.name.now c.args.arity declared is) same
    (sym (method-takes sources c.args.class c.args.name.now c.args.arity declared is)))

pub returns-in-Outside : goal.returns-in-Outside
returns-in-Outside c =
    as-outside (IsMethod c.args.self.now) declaration_ref (method_from (view_in c.args.self.now) c.args.class c.args.name.now c.args.arity)
    (c.in-Outside.ensures ∙ ap (λ (all : List SourceUnit). answered declaration_ref
    (method_from (view_in all) c.args.class c.args.name.now c.args.arity)) c.self.view_is)

pub returns-in-NotFound : goal.returns-in-NotFound
returns-in-NotFound c =
    as-nowhere (IsMethod c.args.self.now) declaration_ref (method_from (view_in c.args.self.now) c.args.class c.args.name.now c.args.arity)
    (c.in-NotFound.ensures ∙ ap (λ (all : List SourceUnit). answered declaration_ref
    (method_from (view_in all) c.args.class c.args.name.now c.args.arity)) c.self.view_is)
