use Rattle.std.proofs.Common.{◌∙◌, List, length, ◌==◌, ap}
use Rattle.mol_faults_rules.specs.declared.conflict.Conflict.{Conflict}
use Rattle.mol_log.specs.declared.log.Log.{Log}
use Rattle.mol_log_rules.specs.Histories.{after}
use Rattle.mol_log_rules.specs.Logs.{history}
use Rattle.mol_merge.proofs.Conflicting.{found-bads, found-united, tested-none, tested-some, together-is}
use Rattle.mol_merge.proofs.found.without_pairs.Goals as goal

pub returns-then-is_empty : goal.returns-then-is_empty
returns-then-is_empty c = λ base is pairs.
    let one = history c.args.one.now in
    let other = history c.args.other.now in
    let list = c.in_ok-list.list in
    let united = together-is base one other c.args.left c.in_ok-united.united is
    (c.in_ok-united.ensures ∙ ap (λ (log : Log). after c.args.left (history log)) c.requires.later) in
    found-united base one other c.in_ok-united.united list united pairs (c.in_ok-list.ensures base united)
    (tested-none list c.is_empty.result (c.is_empty.ensures ∙ ap (λ (xs : List Conflict). length xs == 0) c.items.ensures)
    c.if-is_empty.true)

pub returns-else-is_empty : goal.returns-else-is_empty
returns-else-is_empty c = λ base is pairs.
    let one = history c.args.one.now in
    let other = history c.args.other.now in
    let list = c.in_ok-list.list in
    let united = together-is base one other c.args.left c.in_ok-united.united is
    (c.in_ok-united.ensures ∙ ap (λ (log : Log). after c.args.left (history log)) c.requires.later) in
    found-bads base one other list pairs (c.in_ok-list.ensures base united)
    (tested-some list c.is_empty.result (c.is_empty.ensures ∙ ap (λ (xs : List Conflict). length xs == 0) c.items.ensures)
    c.if-is_empty.false)
