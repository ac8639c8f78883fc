use Rattle.std.proofs.Common.{Some, subst}
use Rattle.std.proofs.lemmas.Option.{same_Some}
use Rattle.mol_top.specs.Carried.{CarriesOwn}
use Rattle.mol_top.specs.Command.{Command, paths_of}
use Rattle.mol_top.specs.Outside.{sink, state, store}
use Rattle.mol_top.specs.Words.{command_of}
use Rattle.mol_top.proofs.Answering.{answered_carries, done_carries, no_command, stopped, refused_cause, refused_prefix, left_from, done_cause, done_leaves, done_prefix, either_order}
use Rattle.mol_top.proofs.ReadingBack.{files_read_back}
use Rattle.mol_top.proofs.running.run.Goals as goal

pub returns-in-None-clause-prefix : goal.returns-in-None-clause-prefix
returns-in-None-clause-prefix g c =
    let old = state g.F.Files g.S.Sink c.args.files.now c.args.out.now in
    let new = state g.F.Files g.S.Sink c.args.files.now c.refuse.new.out in
    rw (← c.items.ensures, ← c.in-None.ensures)
    (refused_prefix _ old new c.usage.result (no_command old new c.usage.result c.usage.ensures.status c.usage.ensures.line (λ i. old.store.held)) c.refuse.result
    c.refuse.ensures.answer c.refuse.ensures.part)

pub returns-in-Err-clause-cause : goal.returns-in-Err-clause-cause
returns-in-Err-clause-cause g c =
    let old = state g.F.Files g.S.Sink c.args.files.now c.args.out.now in
    let new = state g.F.Files g.S.Sink c.prepare.new.files c.refuse-in-Err.new.out in
    rw (← c.items.ensures, ← c.in-Some.ensures)
    (refused_cause (Some (command_of c.in-Some.command)) old new c.in-Err.refusal.status c.refuse-in-Err.result c.refuse-in-Err.ensures.answer
    (stopped (command_of c.in-Some.command) old new c.in-Err.refusal c.in-Err.ensures.stop c.prepare.ensures.only_reads.held).cause)

pub returns-in-Err-clause-prefix : goal.returns-in-Err-clause-prefix
returns-in-Err-clause-prefix g c =
    let old = state g.F.Files g.S.Sink c.args.files.now c.args.out.now in
    let new = state g.F.Files g.S.Sink c.prepare.new.files c.refuse-in-Err.new.out in
    rw (← c.items.ensures, ← c.in-Some.ensures)
    (refused_prefix _ old new c.in-Err.refusal (stopped (command_of c.in-Some.command) old new c.in-Err.refusal c.in-Err.ensures.stop c.prepare.ensures.only_reads.held) c.refuse-in-Err.result
    c.refuse-in-Err.ensures.answer c.refuse-in-Err.ensures.part)

pub returns-in-Err-clause-carries : goal.returns-in-Err-clause-carries
returns-in-Err-clause-carries g c =
    rw (← c.items.ensures, ← c.in-Some.ensures) (λ command is. subst (λ (command : Command). CarriesOwn (paths_of command) c.refuse-in-Err.result)
    (same_Some (command_of c.in-Some.command) command is)
    (answered_carries (paths_of (command_of c.in-Some.command)) (sink g.S.Sink c.args.out.now) (sink g.S.Sink c.refuse-in-Err.new.out)
    c.in-Err.refusal.status c.refuse-in-Err.result c.refuse-in-Err.ensures.answer c.in-Err.ensures.carries))

pub returns-in-Err-clause-read_back : goal.returns-in-Err-clause-read_back
returns-in-Err-clause-read_back g c = λ command is held. files_read_back command held

pub returns-in-Err-clause-either_order : goal.returns-in-Err-clause-either_order
returns-in-Err-clause-either_order g c = λ command is held. either_order command held

pub returns-in-Ok-clause-cause : goal.returns-in-Ok-clause-cause
returns-in-Ok-clause-cause g c =
    let old = state g.F.Files g.S.Sink c.args.files.now c.args.out.now in
    let new = state g.F.Files g.S.Sink c.carry_out.new.files c.carry_out.new.out in
    rw (← c.items.ensures, ← c.in-Some.ensures) (done_cause (command_of c.in-Some.command) old new c.in-Ok.work c.in-Ok.ensures.work c.carry_out.result
    (rw c.prepare.ensures.only_reads.writes at c.carry_out.ensures.answer))

pub returns-in-Ok-clause-outcome : goal.returns-in-Ok-clause-outcome
returns-in-Ok-clause-outcome g c =
    let old = state g.F.Files g.S.Sink c.args.files.now c.args.out.now in
    let new = state g.F.Files g.S.Sink c.carry_out.new.files c.carry_out.new.out in
    rw (← c.items.ensures, ← c.in-Some.ensures) (done_leaves (command_of c.in-Some.command) old new c.in-Ok.work c.in-Ok.ensures.work c.carry_out.result
    (rw c.prepare.ensures.only_reads.held at c.carry_out.ensures.files) c.carry_out.ensures.report)

pub returns-in-Ok-clause-prefix : goal.returns-in-Ok-clause-prefix
returns-in-Ok-clause-prefix g c =
    let old = state g.F.Files g.S.Sink c.args.files.now c.args.out.now in
    let new = state g.F.Files g.S.Sink c.carry_out.new.files c.carry_out.new.out in
    rw (← c.items.ensures, ← c.in-Some.ensures) (done_prefix (command_of c.in-Some.command) old new c.in-Ok.work c.in-Ok.ensures.work c.carry_out.result
    (left_from c.in-Ok.work old new (store g.F.Files c.prepare.new.files) c.carry_out.result c.prepare.ensures.only_reads.held c.carry_out.ensures.left))

pub returns-in-Ok-clause-carries : goal.returns-in-Ok-clause-carries
returns-in-Ok-clause-carries g c =
    let mid = state g.F.Files g.S.Sink c.prepare.new.files c.args.out.now in
    let new = state g.F.Files g.S.Sink c.carry_out.new.files c.carry_out.new.out in
    rw (← c.items.ensures, ← c.in-Some.ensures) (λ command is. subst (λ (command : Command). CarriesOwn (paths_of command) c.carry_out.result)
    (same_Some (command_of c.in-Some.command) command is)
    (done_carries (paths_of (command_of c.in-Some.command)) c.in-Ok.work mid new c.carry_out.result c.in-Ok.ensures.inside
    c.carry_out.ensures.answer c.carry_out.ensures.left))

pub returns-in-Ok-clause-read_back : goal.returns-in-Ok-clause-read_back
returns-in-Ok-clause-read_back g c = λ command is held. files_read_back command held

pub returns-in-Ok-clause-either_order : goal.returns-in-Ok-clause-either_order
returns-in-Ok-clause-either_order g c = λ command is held. either_order command held
