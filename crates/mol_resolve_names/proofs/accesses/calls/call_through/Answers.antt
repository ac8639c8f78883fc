use Rattle.std.proofs.lemmas.Result.{IfOk-weaker}
use Rattle.mol_resolve_names.proofs.accesses.calls.call_through.Goals as goal
use Rattle.mol_resolve_readings.specs.meant.Kept.{view_part}
use Rattle.mol_resolve_members.specs.found.Found.{IsMethod}
use Rattle.jav_scope.specs.Entries.{view_in}
use Rattle.jav_names.specs.LookUps.{method_through}
use Rattle.mol_resolve_names.proofs.accesses_lemmas.OnlyFound.{only-some}
use Rattle.mol_resolve_names.proofs.accesses_lemmas.CallsRead.{through-read, through-refused}

pub arguments-requires : goal.arguments-requires
arguments-requires c =
    let only = only-some (IsMethod c.args.finder.now) c.in-Some.method
    (method_through (view_in c.args.finder.now) c.args.class c.args.name.now c.in_ok-arity.arity) c.in-Some.ensures in
    record { declared = only.0; is = only.2 }

pub returns-in_ok-args-in-Some : goal.returns-in_ok-args-in-Some
returns-in_ok-args-in-Some c = IfOk-weaker c.own_call.result _ _ (λ value is reader over.
    through-read c.args.finder.now c.args.at c.args.args reader over c.args.class c.args.name.now c.args.arity c.in_ok-arity.arity
    c.in_ok-arity.ensures.ok c.in-Some.method c.in_ok-args-in-Some.args (view_part value) c.args.faults.now c.in-Some.ensures
    c.in_ok-args-in-Some.ensures is)
    c.own_call.ensures

pub returns-in-None : goal.returns-in-None
returns-in-None c = λ reader over.
    through-refused c.args.finder.now c.args.at c.args.args reader over c.args.class c.args.name.now c.args.arity c.in_ok-arity.arity
    c.in_ok-arity.ensures.ok c.args.faults.now c.note.new.self c.in-None.ensures c.note.ensures
