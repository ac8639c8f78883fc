use Rattle.std.proofs.Common.{List, Option, ◌∙◌, ap, sym}
use Rattle.jav_names.specs.LookUps.{constructor_from}
use Rattle.jav_scope.specs.Answers.{answered, constructor_ref}
use Rattle.jav_scope.specs.Entries.{view_in}
use Rattle.jav_scope.specs.declared.found.Found.TheVariants as answer
use Rattle.jav_scope.specs.declared.found.MemberRef.{MemberRef}
use Rattle.jav_scope.specs.declared.source.SourceUnit.{SourceUnit}
use Rattle.mol_resolve_members.specs.found.Found.{IsConstructor}
use Rattle.mol_resolve_members.proofs.found_lemmas.AsAnswered.{as-nowhere, as-outside}
use Rattle.mol_resolve_members.proofs.found_lemmas.MembersThere.{as-declared, as-default, constructor-member}
use Rattle.mol_resolve_members.proofs.found.finder.Finder.constructor_of.Goals as goal

pub method-requires : goal.method-requires
method-requires c = constructor-member c.args.self.now c.args.class c.args.arity c.in-Found-Some.at
    (ap (λ (o : Option MemberRef). answer.Found o) (sym c.in-Found-Some.field-0-is) ∙ c.in-Found-Some.ensures
    ∙ ap (λ (all : List SourceUnit). answered constructor_ref (constructor_from (view_in all) c.args.class c.args.arity)) c.self.view_is)

pub returns-in-Found-Some : goal.returns-in-Found-Some
returns-in-Found-Some c = as-declared c.args.self.now c.args.class c.args.arity c.in-Found-Some.at c.method.result
    (ap (λ (o : Option MemberRef). answer.Found o) (sym c.in-Found-Some.field-0-is) ∙ c.in-Found-Some.ensures
    ∙ ap (λ (all : List SourceUnit). answered constructor_ref (constructor_from (view_in all) c.args.class c.args.arity)) c.self.view_is)
    c.method.ensures

pub returns-in-Found-None : goal.returns-in-Found-None
returns-in-Found-None c = as-default c.args.self.now c.args.class c.args.arity c.class_id.result
    (ap (λ (o : Option MemberRef). answer.Found o) (sym c.in-Found-None.field-0-is) ∙ c.in-Found-None.ensures
    ∙ ap (λ (all : List SourceUnit). answered constructor_ref (constructor_from (view_in all) c.args.class c.args.arity)) c.self.view_is)
    c.class_id.ensures

pub returns-in-Outside : goal.returns-in-Outside
returns-in-Outside c =
    as-outside (IsConstructor c.args.self.now) constructor_ref (constructor_from (view_in c.args.self.now) c.args.class c.args.arity)
    (c.in-Outside.ensures
    ∙ ap (λ (all : List SourceUnit). answered constructor_ref (constructor_from (view_in all) c.args.class c.args.arity)) c.self.view_is)

pub returns-in-NotFound : goal.returns-in-NotFound
returns-in-NotFound c =
    as-nowhere (IsConstructor c.args.self.now) constructor_ref (constructor_from (view_in c.args.self.now) c.args.class c.args.arity)
    (c.in-NotFound.ensures
    ∙ ap (λ (all : List SourceUnit). answered constructor_ref (constructor_from (view_in all) c.args.class c.args.arity)) c.self.view_is)
