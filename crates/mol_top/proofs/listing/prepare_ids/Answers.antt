use Rattle.std.proofs.Common.{inl}
use Rattle.std.proofs.lemmas.Result.{err_from_is_err_and}
use Rattle.mol_top.proofs.BaseStops.{base_stopped, program_stopped}
use Rattle.mol_top.proofs.ListedBases.{ids_prepared}
use Rattle.mol_top.proofs.ReadBases.{base_carries, unclean_carries}
use Rattle.mol_top.proofs.FilesBelow.{none_written}
use Rattle.mol_top.proofs.listing.prepare_ids.Goals as goal
use Rattle.mol_top.specs.Command.{Command, ids_paths}
use Rattle.mol_top.specs.Outside.{store}
use Rattle.mol_top.specs.Words.{ids_words}

pub returns-in_err-base-clause-stop : goal.returns-in_err-base-clause-stop
returns-in_err-base-clause-stop g c =
    let w = ids_words c.args.words in
    let p = err_from_is_err_and c.from_residual.result c.from_residual.ensures.1 in
    rw (p.1, p.2) (base_stopped (Command.ids w) w.base (store g.F.Files c.args.files.now) (store g.F.Files c.read_base_program.new.files) _
    (λ h s refuses. refuses) (λ h s line is. is) (λ path below. inl below) c.in_err-base.ensures.stop)

pub returns-in_err-base-clause-carries : goal.returns-in_err-base-clause-carries
returns-in_err-base-clause-carries g c =
    let p = err_from_is_err_and c.from_residual.result c.from_residual.ensures.1 in
    rw (p.1, p.2) (base_carries (ids_paths (ids_words c.args.words)) _ c.in_err-base.ensures.carries)

pub returns-in_err-digest-clause-stop : goal.returns-in_err-digest-clause-stop
returns-in_err-digest-clause-stop g c =
    let w = ids_words c.args.words in
    let old = store g.F.Files c.args.files.now in
    let new = store g.F.Files c.read_base_program.new.files in
    let p = err_from_is_err_and c.from_residual-in_err-digest.result c.from_residual-in_err-digest.ensures.1 in
    rw (p.1, p.2) (base_stopped (Command.ids w) w.base old new _ (λ h s refuses. refuses) (λ h s line is. is) (λ path below. inl below)
    (program_stopped w.base old new c.in_ok-base.base.table (λ h e. (c.in_ok-base.ensures.base h e).program) _
    c.in_err-digest.ensures.stop))

pub returns-in_err-digest-clause-carries : goal.returns-in_err-digest-clause-carries
returns-in_err-digest-clause-carries g c =
    let w = ids_words c.args.words in
    let p = err_from_is_err_and c.from_residual-in_err-digest.result c.from_residual-in_err-digest.ensures.1 in
    rw (p.1, p.2) (base_carries (ids_paths w) _ (unclean_carries w.base c.in_ok-base.base.table _ c.in_err-digest.ensures.stop))

pub returns-in-Ok-clause-work : goal.returns-in-Ok-clause-work
returns-in-Ok-clause-work g c =
    ids_prepared (ids_words c.args.words) (store g.F.Files c.args.files.now) c.in_ok-base.base.table c.in-Ok.work
    (λ h e. (c.in_ok-base.ensures.base h e).program) c.rules.ensures c.in_ok-digest.ensures.clean c.in-Ok.ensures

pub returns-in-Ok-clause-inside : goal.returns-in-Ok-clause-inside
returns-in-Ok-clause-inside g c = none_written c.in-Ok.work (ids_paths (ids_words c.args.words)) c.in-Ok.ensures.files
