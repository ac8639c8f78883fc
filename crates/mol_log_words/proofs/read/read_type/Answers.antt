use Rattle.std.proofs.Common.{◌≡◌, List, length, subst}
use Rattle.mol_log_words.specs.Words.{Word}
use Rattle.mol_log_words.specs.Reads.{Reads, answered}
use Rattle.mol_log_words.proofs.Readings.{reading}
use Rattle.mol_log_words.specs.TypeReader.{type_name}
use Rattle.mol_log_words.proofs.BackTypes.{laws_type}
use Rattle.mol_log_words.proofs.read.read_type.Goals as goal

pub returns : goal.returns
returns c =
    let out = c.type_name-read.result in
    let new = c.type_name-read.new.words in
    let read = subst (λ (ws : List Word). Reads (type_name c.args.role 255 ws) out new) c.new-cursor.ensures c.type_name-read.ensures in
    let h = reading _ _ (laws_type c.args.role) c.args.words.now new out read in
    let e : c.whole.result ≡ answered (length c.args.words.now) (length new) out = cc in
    rw e h
