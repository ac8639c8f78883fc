use Rattle.std.proofs.Common.{◌<◌, sym, arith}
use Rattle.std.proofs.lemmas.Bool.Decides.{nat_tests}
use Rattle.mol_base.specs.Lexical.Characters.{first}
use Rattle.mol_base.proofs.FirstChar.{first_char-low}
use Rattle.mol_base.proofs.lexical.bytes.first_char.Goals as goal

pub returns-in-len1-up : goal.returns-in-len1-up
returns-in-len1-up c =
    let low : first c.args.bytes.now < 128 = grind (arith, nat_tests, c.is_ascii.ensures, c.if-is_ascii.true) in
    rw c.from.ensures (sym (first_char-low c.args.bytes.now c.in-len1-up.len_at_least low))
