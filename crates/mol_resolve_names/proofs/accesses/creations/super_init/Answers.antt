use Rattle.std.proofs.Common.{ℕ, List, subst}
use Rattle.jav_scope.specs.declared.found.Found.TheVariants as answer
use Rattle.jav_scope.specs.declared.source.SourceUnit.{SourceUnit}
use Rattle.mol_resolve_members.specs.found.Found.{Answers, IsConstructor}
use Rattle.mol_resolve_members.specs.declared.found.found_member.FoundConstructor.{FoundConstructor}
use Rattle.mol_resolve_names.proofs.accesses.creations.super_init.Goals as goal
use Rattle.jav_scope.specs.Entries.{view_in}
use Rattle.jav_names.specs.LookUps.{super_constructor}
use Rattle.mol_resolve_names.proofs.accesses_lemmas.CreationsRead.{only-declared, super-default, super-outside, super-read, super-refused}

abbrev Answered : List SourceUnit → (class arity : ℕ) → FoundConstructor → Type 0
Answered sources class arity found = Answers (IsConstructor sources) (answer.Found found) (super_constructor (view_in sources) class arity)

pub arguments-requires : goal.arguments-requires
arguments-requires c =
    let only = only-declared c.args.finder.now c.in-Found-Declared.constructor
    (super_constructor (view_in c.args.finder.now) c.args.class c.in_ok-arity.arity)
    (subst (Answered c.args.finder.now c.args.class c.in_ok-arity.arity) c.in-Found-Declared.field-0-is c.in-Found-Declared.ensures) in
    record { declared = only.0; is = only.2 }

pub returns-in_ok-args-in-Found-Declared : goal.returns-in_ok-args-in-Found-Declared
returns-in_ok-args-in-Found-Declared c = λ reader over.
    super-read c.args.finder.now c.args.at c.args.args reader over c.args.class c.args.arity c.in_ok-arity.arity c.in_ok-arity.ensures.ok
    c.in-Found-Declared.constructor c.in_ok-args-in-Found-Declared.args c.declared_super.result c.args.faults.now
    (subst (Answered c.args.finder.now c.args.class c.in_ok-arity.arity) c.in-Found-Declared.field-0-is c.in-Found-Declared.ensures)
    c.in_ok-args-in-Found-Declared.ensures c.declared_super.ensures

pub returns-in-Found-Default : goal.returns-in-Found-Default
returns-in-Found-Default c = λ reader over.
    super-default c.args.finder.now c.args.at c.args.args reader over c.args.class c.args.arity c.in_ok-arity.arity c.in_ok-arity.ensures.ok
    c.in-Found-Default.id c.args.faults.now (subst (Answered c.args.finder.now c.args.class c.in_ok-arity.arity) c.in-Found-Default.field-0-is c.in-Found-Default.ensures)

pub returns-in-Outside : goal.returns-in-Outside
returns-in-Outside c = λ reader over.
    super-outside c.args.finder.now c.args.at c.args.args reader over c.args.class c.args.arity c.in_ok-arity.arity c.in_ok-arity.ensures.ok
    c.outside_super.result c.args.faults.now c.in-Outside.ensures c.outside_super.ensures

pub returns-in-NotFound : goal.returns-in-NotFound
returns-in-NotFound c = λ reader over.
    super-refused c.args.finder.now c.args.at c.args.args reader over c.args.class c.args.arity c.in_ok-arity.arity c.in_ok-arity.ensures.ok
    c.args.faults.now c.note.new.self c.in-NotFound.ensures c.note.ensures
