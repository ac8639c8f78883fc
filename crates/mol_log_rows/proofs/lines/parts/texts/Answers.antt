use Rattle.mol_log_rows.specs.lines.Reader.{texts_in}
use Rattle.mol_log_rows.proofs.lines_lemmas.Taken.{gives_and}
use Rattle.mol_log_rows.proofs.lines.parts.texts.Goals as goal

pub returns : goal.returns
returns c = gives_and _ texts_in _ c.texts_of.result c.in_ok-items.ensures c.texts_of.ensures
