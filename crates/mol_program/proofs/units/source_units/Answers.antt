use Rattle.std.proofs.Common.{drop, take, ◌+◌}
use Rattle.std.proofs.lemmas.List.{map_push, take_more}
use Rattle.std.proofs.lemmas.Result.{err_from_is_err_and}
use Rattle.mol_base.specs.Files.{file_pair, file_pairs}
use Rattle.mol_program.proofs.FirstWrong.{first-unread}
use Rattle.mol_program.proofs.TreesOfFiles.{parsed-push, split-at}
use Rattle.mol_program.proofs.units.source_units.Goals as goal
use Rattle.mol_resolve_members.specs.sources.Sources.{file_of, files_of}

pub returns-in_err-unit-clause-fault : goal.returns-in_err-unit-clause-fault
returns-in_err-unit-clause-fault c =
    let files = c.args.files.now in
    let i = c.loop-file.file-index in
    let p = err_from_is_err_and c.from_residual.result c.from_residual.ensures.1 in
    rw (p.1, p.2) (first-unread (file_pairs files) (file_pairs (take i files)) (file_pairs (drop (i + 1) files))
    (files_of c.loop-file.units) (file_pair c.file-item.result) _
    (split-at files i c.file-item.result c.loop-file-test.true c.file-item.is) c.loop-file.invariant c.in_err-unit.ensures.fault)

pub loop-file-preserved : goal.loop-file-preserved
loop-file-preserved c =
    let before = take c.loop-file.file-index c.args.files.now in
    rw (
      c.in_ok-add.ensures.ok,
      take_more c.args.files.now c.loop-file.file-index c.file-item.result c.loop-file-test.true,
      ← c.file-item.is,
      map_push file_pair before c.file-item.result,
      map_push file_of c.loop-file.units c.in_ok-unit.unit,
    )
    (parsed-push (file_pairs before) (files_of c.loop-file.units) (file_pair c.file-item.result) (file_of c.in_ok-unit.unit)
    c.loop-file.invariant c.in_ok-unit.ensures.parsed)
