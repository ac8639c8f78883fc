use Rattle.std.proofs.Common.{refl}
use Rattle.mol_top.proofs.kept_base.kept_program.Goals as goal

pub returns-in-Ok-clause-kept : goal.returns-in-Ok-clause-kept
returns-in-Ok-clause-kept c = record {
  same = refl;
  are = record {
    small = c.requires.small;
    apart = c.requires.apart;
    read_as = (rw c.as_slice.ensures.value at c.in-Ok.ensures.program).read_as;
  };
}

pub returns-in-Err-clause-stop : goal.returns-in-Err-clause-stop
returns-in-Err-clause-stop c = rw c.as_slice.ensures.value at c.in-Err.ensures.stop
