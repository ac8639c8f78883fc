use Rattle.std.proofs.Common.{◌∙◌, sym}
use Rattle.std.proofs.lemmas.Result.{on_ok_weaker}
use Rattle.mol_log_writers.proofs.Lives.{no-life, of-life}
use Rattle.mol_log_writers.proofs.side.note_life.Goals as goal

pub returns-then-tells_life : goal.returns-then-tells_life
returns-then-tells_life c =
    on_ok_weaker c.note_living.result
    (of-life c.args.left.now c.args.at.now c.args.stamp.now c.args.index.now.entries _ (sym c.tells_life.ensures ∙ c.if-tells_life.true))
    c.note_living.ensures

pub returns : goal.returns
returns c =
    no-life c.args.left.now c.args.at.now c.args.stamp.now c.args.index.now.entries (sym c.tells_life.ensures ∙ c.if-tells_life.false)
