use Rattle.std.proofs.lemmas.Result.{IfOk-weaker}
use Rattle.mol_resolve_names.proofs.accesses.calls.call_of.Goals as goal
use Rattle.mol_resolve_readings.specs.meant.Kept.{view_meant, view_part}
use Rattle.mol_resolve_members.specs.found.Found.{IsMethod}
use Rattle.jav_scope.specs.Entries.{view_in}
use Rattle.jav_names.specs.seen.Kept.{view_value}
use Rattle.jav_names.specs.LookUps.{method_on}
use Rattle.mol_resolve_names.proofs.accesses_lemmas.OnlyFound.{only-member}
use Rattle.mol_resolve_names.proofs.accesses_lemmas.CallsRead.{call-missing, call-none, call-outside, call-read, call-static, call-unread}

pub arguments-requires : goal.arguments-requires
arguments-requires c =
    let only = only-member (IsMethod c.args.finder.now) c.in-Member.method
    (method_on (view_in c.args.finder.now) c.args.name.now c.in_ok-arity.arity (view_value c.args.value.ty)) c.in-Member.ensures in
    record { declared = only.0; is = only.2 }

pub returns-in_ok-args-in-Member : goal.returns-in_ok-args-in-Member
returns-in_ok-args-in-Member c = IfOk-weaker c.call_of.result _ _ (λ call is reader over.
    call-read c.args.finder.now c.args.at c.args.args reader over c.args.name.now c.args.arity c.in_ok-arity.arity
    c.in_ok-arity.ensures.ok (view_meant c.args.value) c.in-Member.method c.in_ok-args-in-Member.args (view_part call) c.args.faults.now
    c.in-Member.ensures c.in_ok-args-in-Member.ensures is)
    c.call_of.ensures

pub returns-in-Outside : goal.returns-in-Outside
returns-in-Outside c = IfOk-weaker c.outside_call_of.result _ _ (λ call is reader over.
    call-outside c.args.finder.now c.args.at c.args.args reader over c.args.name.now c.args.arity c.in_ok-arity.arity
    c.in_ok-arity.ensures.ok (view_meant c.args.value) (view_part call) c.args.faults.now c.in-Outside.ensures is)
    c.outside_call_of.ensures

pub returns-in-Static : goal.returns-in-Static
returns-in-Static c = λ reader over.
    call-static c.args.finder.now c.args.at c.args.args reader over c.args.name.now c.args.arity c.in_ok-arity.arity
    c.in_ok-arity.ensures.ok (view_meant c.args.value) c.args.faults.now c.note.new.self
    c.in-Static.ensures c.note.ensures

pub returns-in-Missing : goal.returns-in-Missing
returns-in-Missing c = λ reader over.
    call-missing c.args.finder.now c.args.at c.args.args reader over c.args.name.now c.args.arity c.in_ok-arity.arity
    c.in_ok-arity.ensures.ok (view_meant c.args.value) c.args.faults.now c.note-in-Missing.new.self
    c.in-Missing.ensures c.note-in-Missing.ensures

pub returns-in-NoMembers : goal.returns-in-NoMembers
returns-in-NoMembers c = λ reader over.
    call-none c.args.finder.now c.args.at c.args.args reader over c.args.name.now c.args.arity c.in_ok-arity.arity
    c.in_ok-arity.ensures.ok (view_meant c.args.value) c.args.faults.now c.note-in-NoMembers.new.self
    c.in-NoMembers.ensures c.note-in-NoMembers.ensures

pub returns-in-Unread : goal.returns-in-Unread
returns-in-Unread c = λ reader over.
    call-unread c.args.finder.now c.args.at c.args.args reader over c.args.name.now c.args.arity c.in_ok-arity.arity
    c.in_ok-arity.ensures.ok (view_meant c.args.value) c.args.faults.now c.in-Unread.ensures
