use Rattle.std.proofs.Common.{arith}
use Rattle.mol_log_words.proofs.TypeTurns.{items_none}
use Rattle.mol_log_words.proofs.types.+type_name.Goals as goal

pub items-returns-then-dimensions-eq0 : goal.items-returns-then-dimensions-eq0
items-returns-then-dimensions-eq0 t c _ = items_none c.args.dimensions c.args.words.now (omega arith)
