use Rattle.std.proofs.Common.{◌∙◌, ap, subst, sym}
use Rattle.std.specs.Prelude.{IfOk}
use Rattle.mol_log.specs.declared.log.Log.{Log}
use Rattle.mol_log_rules.specs.Histories.{after}
use Rattle.mol_log_rules.specs.Logs.{history}
use Rattle.mol_merge.proofs.found.by_writes.Goals as goal
use Rattle.mol_merge.specs.Finding.{IsFound}
use Rattle.mol_unite.proofs.InTurn.{applies-behind}

pub from_left-requires-clause-left : goal.from_left-requires-clause-left
from_left-requires-clause-left c =
    c.in_ok-left.ensures ∙ ap (λ (log : Log). after c.args.base.now (history log)) (sym c.requires.one_writes)

pub from_left-requires-clause-later : goal.from_left-requires-clause-later
from_left-requires-clause-later c = sym c.requires.other_writes

pub from_left-requires-clause-behind : goal.from_left-requires-clause-behind
from_left-requires-clause-behind c =
    applies-behind c.args.base.now c.args.one.now c.args.other.now c.requires.one c.requires.other c.requires.apart c.in_ok-left.left
    c.in_ok-left.ensures

pub returns : goal.returns
returns c =
    subst (λ (log : Log). IfOk c.from_left.result (IsFound c.args.base.now (history log) (history c.args.other.now))) c.requires.one_writes
    (subst (λ (log : Log). IfOk c.from_left.result (IsFound c.args.base.now (history c.args.one_writes.now) (history log)))
    c.requires.other_writes c.from_left.ensures)
