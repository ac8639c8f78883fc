use Rattle.std.proofs.Common.{inl}
use Rattle.std.proofs.lemmas.Result.{IfErr-weaker, IfOk-weaker, err_from_is_err_and}
use Rattle.mol_top.proofs.BaseStops.{base_stopped, program_stopped}
use Rattle.mol_top.proofs.ReadBases.{base_carries, unclean_carries}
use Rattle.mol_top.proofs.ReplayedLogs.{replay_prepared, replay_stopped}
use Rattle.mol_top.proofs.replaying.prepare_replay.Goals as goal
use Rattle.mol_top.specs.Command.{Command, replay_paths}
use Rattle.mol_top.specs.Outside.{IfTold, store}
use Rattle.mol_top.specs.Prepared.{IsStopped, Prepares}
use Rattle.mol_top.specs.ReplayWork.{IsMadeOver, IsStoppedOver}
use Rattle.mol_top.specs.Replaying.{ReplayRefuses}
use Rattle.mol_top.specs.Words.{replay_words}

pub returns-in_err-base-clause-stop : goal.returns-in_err-base-clause-stop
returns-in_err-base-clause-stop g c =
    let w = replay_words c.args.words in
    let p = err_from_is_err_and c.from_residual.result c.from_residual.ensures.1 in
    rw (p.1, p.2) (base_stopped (Command.replay w) w.base (store g.F.Files c.args.files.now) (store g.F.Files c.read_kept_base.new.files) _
    (λ h s refuses. ReplayRefuses.base refuses) (λ h s line is. is) (λ path below. inl below) c.in_err-base.ensures.stop)

pub returns-in_err-base-clause-carries : goal.returns-in_err-base-clause-carries
returns-in_err-base-clause-carries g c =
    let p = err_from_is_err_and c.from_residual.result c.from_residual.ensures.1 in
    rw (p.1, p.2) (base_carries (replay_paths (replay_words c.args.words)) _ c.in_err-base.ensures.carries)

pub returns-in_err-digest-clause-stop : goal.returns-in_err-digest-clause-stop
returns-in_err-digest-clause-stop g c =
    let w = replay_words c.args.words in
    let old = store g.F.Files c.args.files.now in
    let new = store g.F.Files c.read_kept_base.new.files in
    let p = err_from_is_err_and c.from_residual-in_err-digest.result c.from_residual-in_err-digest.ensures.1 in
    rw (p.1, p.2) (base_stopped (Command.replay w) w.base old new _ (λ h s refuses. ReplayRefuses.base refuses) (λ h s line is. is)
    (λ path below. inl below) (program_stopped w.base old new c.in_ok-base.base.table (λ h e. c.in_ok-base.ensures.base h e) _
    c.in_err-digest.ensures.stop))

pub returns-in_err-digest-clause-carries : goal.returns-in_err-digest-clause-carries
returns-in_err-digest-clause-carries g c =
    let w = replay_words c.args.words in
    let p = err_from_is_err_and c.from_residual-in_err-digest.result c.from_residual-in_err-digest.ensures.1 in
    rw (p.1, p.2) (base_carries (replay_paths w) _ (unclean_carries w.base c.in_ok-base.base.table _ c.in_err-digest.ensures.stop))

pub returns-clause-work : goal.returns-clause-work
returns-clause-work g c =
    let w = replay_words c.args.words in
    let old = store g.F.Files c.args.files.now in
    let mid = store g.F.Files c.read_kept_base.new.files in
    let table = c.in_ok-base.base.table in
    IfOk-weaker c.log_work.result (λ work. IfTold mid.held (λ h. IsMadeOver w table h work)) (Prepares (Command.replay w) old)
    (λ work made. replay_prepared w old mid table
    (λ h e. record { is = c.in_ok-base.ensures.base h e; rules = c.rules.ensures; clean = c.in_ok-digest.ensures.clean })
    c.read_kept_base.ensures.only_reads work made) c.log_work.ensures.work

pub returns-clause-stop : goal.returns-clause-stop
returns-clause-stop g c =
    let w = replay_words c.args.words in
    let old = store g.F.Files c.args.files.now in
    let mid = store g.F.Files c.read_kept_base.new.files in
    let new = store g.F.Files c.log_work.new.files in
    let table = c.in_ok-base.base.table in
    IfErr-weaker c.log_work.result (IsStoppedOver w table mid new) (IsStopped (Command.replay w) old new)
    (λ refusal stopped. replay_stopped w old mid table
    (λ h e. record { is = c.in_ok-base.ensures.base h e; rules = c.rules.ensures; clean = c.in_ok-digest.ensures.clean })
    c.read_kept_base.ensures.only_reads new refusal stopped) c.log_work.ensures.stop

pub returns-clause-inside : goal.returns-clause-inside
returns-clause-inside g c = c.log_work.ensures.inside
