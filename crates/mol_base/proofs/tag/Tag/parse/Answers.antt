use Rattle.std.proofs.Common.{◌<◌, sym, arith, length}
use Rattle.std.proofs.lemmas.Bool.Decides.{nat_tests}
use Rattle.std.proofs.Math.Seq.{take-append_seam}
use Rattle.mol_base.specs.Tag.{IsTagOrBase}
use Rattle.mol_base.proofs.Tags.{all_good, Keeps-padded}
use Rattle.mol_base.proofs.tag.Tag.parse.Goals as goal

pub invariant_of-result : goal.invariant_of-result
invariant_of-result c =
    let is : IsTagOrBase c.args.bytes.now = (omega (arith, c.if-bytes-gt-MAX_TAG.false), all_good c.args.bytes.now (sym c.in-None.ensures.place)) in
    rw c.with_zeros.ensures (Keeps-padded c.args.bytes.now is)

pub returns-in-None : goal.returns-in-None
returns-in-None c =
    let is : IsTagOrBase c.args.bytes.now = (omega (arith, c.if-bytes-gt-MAX_TAG.false), all_good c.args.bytes.now (sym c.in-None.ensures.place)) in
    let some : 0 < length c.args.bytes.now = grind (arith, nat_tests, c.is_empty.ensures, c.if-is_empty.false) in
    (rw c.with_zeros.ensures (take-append_seam c.args.bytes.now _), (some, is))
