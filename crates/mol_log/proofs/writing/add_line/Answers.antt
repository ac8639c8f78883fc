use Rattle.serde_json.specs.View.{view}
use Rattle.mol_log.proofs.ReadBack.{read-back}
use Rattle.mol_log.proofs.writing.add_line.Goals as goal

pub returns-clause-read : goal.returns-clause-read
returns-clause-read c = λ number.
    read-back _ (view c.args.value.now) number c.in_ok-line.line.ok (c.in_ok-line.ensures.text c.requires.whole)
    (c.in_ok-line.ensures.reads_back c.requires.deep)
