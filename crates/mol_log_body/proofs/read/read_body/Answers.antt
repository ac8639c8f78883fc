use Rattle.std.proofs.Common.{◌≡◌, List, length, subst, arith}
use Rattle.mol_log_words.specs.Words.{Word}
use Rattle.mol_log_words.specs.Reads.{Reads, answered}
use Rattle.mol_log_words.proofs.Readings.{reading}
use Rattle.mol_log_body.specs.BodyReader.{body}
use Rattle.mol_log_body.proofs.BackBodies.{laws_body}
use Rattle.mol_log_body.proofs.read.read_body.Goals as goal

pub returns : goal.returns
returns c =
    let out = c.body-read.result in
    let new = c.body-read.new.words in
    let read = subst (λ (ws : List Word). Reads (body 500 ws) out new) c.new-cursor.ensures c.body-read.ensures in
    let h = reading _ _ (laws_body 500 (omega arith)) c.args.words.now new out read in
    let e : c.whole.result ≡ answered (length c.args.words.now) (length new) out = cc in
    rw e h
