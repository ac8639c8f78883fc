use Rattle.std.proofs.Common.{ap, take, List, ℕ, [], ◌∷◌, ◌++◌}
use Rattle.std.proofs.lemmas.List.{take_more, map_push}
use Rattle.mol_top.specs.Output.{failure_of}
use Rattle.mol_top.proofs.output.failure_lines.Goals as goal

pub loop-file-preserved : goal.loop-file-preserved
loop-file-preserved c =
    rw (c.in_ok-push.ensures.items, take_more c.args.files.now c.loop-file.file-index c.file-item.result c.loop-file-test.true, ← c.file-item.is, map_push failure_of (take c.loop-file.file-index c.args.files.now) c.file-item.result, ← c.loop-file.invariant)
    (ap (λ (line : List ℕ). c.loop-file.lines.items ++ line ∷ []) c.in_ok-line.ensures)
