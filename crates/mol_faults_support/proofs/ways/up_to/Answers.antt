use Rattle.std.proofs.Common.{◌+◌, take, sym, ap}
use Rattle.jav_names.proofs.Lists.{stands_nowhere}
use Rattle.mol_faults_support.proofs.UpTo.{up-to, up-to-none}
use Rattle.mol_faults_support.proofs.ways.up_to.Goals as goal

pub returns-in-Some : goal.returns-in-Some
returns-in-Some c =
    let classes = c.args.classes.now.keys in
    up-to classes c.args.last.now c.in-Some.place (sym c.in-Some.ensures.index) c.as_slice-all.ensures.unique _
    (ap (take (c.in-Some.place + 1)) c.as_slice-all.ensures.keys)

pub returns-in-None : goal.returns-in-None
returns-in-None c = λ class. (
  λ stands. absurd (stands_nowhere class stands),
  λ up. absurd (up-to-none c.args.classes.now.keys c.args.last.now (sym c.in-None.ensures.found) class up),
)
