use Rattle.mol_base.proofs.Spelled.{id_of-parse}
use Rattle.mol_log_words.proofs.count.id_of_word.Goals as goal

pub returns : goal.returns
returns c = id_of-parse c.args.word.now c.parse.result c.parse.ensures.spells c.parse.ensures.only
