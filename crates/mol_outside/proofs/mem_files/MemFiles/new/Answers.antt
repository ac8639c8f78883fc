use Rattle.std.proofs.Common.{◌∙◌, ◌+◌, ap, arith, length, sum_by}
use Rattle.mol_outside.specs.Stored.{filled, size_of}
use Rattle.mol_outside.proofs.Storing.{filled_new}
use Rattle.mol_outside.proofs.mem_files.MemFiles.new.Goals as goal

pub returns : goal.returns
returns c =
    c.fill.ensures ∙ ap (filled _) c.items-files.ensures
    ∙ filled_new _ _ c.args.files.now _ c.args.failing.now c.args.room _ _ c.in_ok-with_capacity-2.ensures.items c.in_ok-copy.ensures (c.in-Some.ensures ∙ ap (λ files. c.args.room + sum_by size_of files) c.items-files.ensures) (omega (arith, ap length c.items-files.ensures, c.in-Some-checked_add.ensures))
