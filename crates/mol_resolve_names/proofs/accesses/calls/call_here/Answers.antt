use Rattle.std.proofs.lemmas.Result.{IfOk-weaker}
use Rattle.mol_resolve_names.proofs.accesses.calls.call_here.Goals as goal
use Rattle.mol_resolve_readings.specs.meant.Kept.{view_part}
use Rattle.mol_resolve_members.specs.found.Found.{IsMethod}
use Rattle.jav_scope.specs.Entries.{view_in}
use Rattle.jav_names.specs.LookUps.{method_from}
use Rattle.mol_resolve_names.proofs.accesses_lemmas.OnlyFound.{only-found}
use Rattle.mol_resolve_names.proofs.accesses_lemmas.CallsRead.{here-outside, here-read, here-refused}

pub arguments-requires : goal.arguments-requires
arguments-requires c =
    let only = only-found (IsMethod c.args.finder.now) c.in-Found.method
    (method_from (view_in c.args.finder.now) c.args.class c.args.name.now c.in_ok-arity.arity) c.in-Found.ensures in
    record { declared = only.0; is = only.2 }

pub returns-in_ok-args-in-Found : goal.returns-in_ok-args-in-Found
returns-in_ok-args-in-Found c = IfOk-weaker c.own_call.result _ _ (λ value is reader over.
    here-read c.args.finder.now c.args.at c.args.args reader over c.args.class c.args.name.now c.args.arity c.in_ok-arity.arity
    c.in_ok-arity.ensures.ok c.in-Found.method c.in_ok-args-in-Found.args (view_part value) c.args.faults.now c.in-Found.ensures
    c.in_ok-args-in-Found.ensures is)
    c.own_call.ensures

pub returns-in-Outside : goal.returns-in-Outside
returns-in-Outside c = IfOk-weaker c.outside_own_call.result _ _ (λ value is reader over.
    here-outside c.args.finder.now c.args.at c.args.args reader over c.args.class c.args.name.now c.args.arity c.in_ok-arity.arity
    c.in_ok-arity.ensures.ok (view_part value) c.args.faults.now c.in-Outside.ensures is)
    c.outside_own_call.ensures

pub returns-in-NotFound : goal.returns-in-NotFound
returns-in-NotFound c = λ reader over.
    here-refused c.args.finder.now c.args.at c.args.args reader over c.args.class c.args.name.now c.args.arity c.in_ok-arity.arity
    c.in_ok-arity.ensures.ok c.args.faults.now c.note.new.self c.in-NotFound.ensures c.note.ensures
