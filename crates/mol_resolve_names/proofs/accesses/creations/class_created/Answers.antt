use Rattle.std.proofs.Common.{ℕ, List, subst}
use Rattle.jav_scope.specs.declared.found.Found.TheVariants as answer
use Rattle.jav_scope.specs.declared.source.SourceUnit.{SourceUnit}
use Rattle.mol_resolve_members.specs.found.Found.{Answers, IsConstructor}
use Rattle.mol_resolve_members.specs.declared.found.found_member.FoundConstructor.{FoundConstructor}
use Rattle.std.proofs.lemmas.Result.{IfOk-weaker}
use Rattle.mol_resolve_names.proofs.accesses.creations.class_created.Goals as goal
use Rattle.mol_resolve_readings.specs.meant.Kept.{view_meant, view_part}
use Rattle.jav_scope.specs.Entries.{view_in}
use Rattle.jav_names.specs.LookUps.{constructor_from}
use Rattle.mol_resolve_names.proofs.accesses_lemmas.CreationsRead.{created-default, created-outside, created-read, created-refused, only-declared}

abbrev Answered : List SourceUnit → (class arity : ℕ) → FoundConstructor → Type 0
Answered sources class arity found = Answers (IsConstructor sources) (answer.Found found) (constructor_from (view_in sources) class arity)

pub arguments-requires : goal.arguments-requires
arguments-requires c =
    let only = only-declared c.args.finder.now c.in-Found-Declared.constructor
    (constructor_from (view_in c.args.finder.now) c.args.class c.in_ok-arity.arity)
    (subst (Answered c.args.finder.now c.args.class c.in_ok-arity.arity) c.in-Found-Declared.field-0-is c.in-Found-Declared.ensures) in
    record { declared = only.0; is = only.2 }

pub returns-in_ok-args-in-Found-Declared : goal.returns-in_ok-args-in-Found-Declared
returns-in_ok-args-in-Found-Declared c = IfOk-weaker c.creation.result _ _ (λ value is reader over.
    created-read c.args.finder.now c.args.at c.args.args reader over c.args.class c.args.arity c.in_ok-arity.arity c.in_ok-arity.ensures.ok
    c.in-Found-Declared.constructor c.in_ok-args-in-Found-Declared.args (view_part value) c.args.faults.now
    (subst (Answered c.args.finder.now c.args.class c.in_ok-arity.arity) c.in-Found-Declared.field-0-is c.in-Found-Declared.ensures) c.in_ok-args-in-Found-Declared.ensures is)
    c.creation.ensures

pub returns-in_ok-value-in-Found-Default : goal.returns-in_ok-value-in-Found-Default
returns-in_ok-value-in-Found-Default c = λ reader over.
    created-default c.args.finder.now c.args.at c.args.args reader over c.args.class c.args.arity c.in_ok-arity.arity
    c.in_ok-arity.ensures.ok
    c.in-Found-Default.id (view_meant c.in_ok-value-in-Found-Default.value) c.args.faults.now
    (subst (Answered c.args.finder.now c.args.class c.in_ok-arity.arity) c.in-Found-Default.field-0-is c.in-Found-Default.ensures) c.in_ok-value-in-Found-Default.ensures

pub returns-in-Outside : goal.returns-in-Outside
returns-in-Outside c = λ reader over.
    created-outside c.args.finder.now c.args.at c.args.args reader over c.args.class c.args.arity c.in_ok-arity.arity
    c.in_ok-arity.ensures.ok
    c.args.faults.now c.in-Outside.ensures

pub returns-in-NotFound : goal.returns-in-NotFound
returns-in-NotFound c = λ reader over.
    created-refused c.args.finder.now c.args.at c.args.args reader over c.args.class c.args.arity c.in_ok-arity.arity
    c.in_ok-arity.ensures.ok
    c.args.faults.now c.note.new.self c.in-NotFound.ensures c.note.ensures
