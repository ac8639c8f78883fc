use Rattle.std.proofs.Common.{◌∙◌, sym}
use Rattle.std.specs.Prelude.{IfErr, IfOk}
use Rattle.std.proofs.lemmas.Result.{err_from_is_err_and}
use Rattle.mol_log.specs.declared.log.Log.{Log}
use Rattle.mol_merge.proofs.Answered.{IsTooLarge, answer-large, no-memory, on-ok, refuses-first, refuses-second}
use Rattle.mol_merge.proofs.Ordered.{as-given, as-turned}
use Rattle.mol_merge.proofs.merging.merge_apart.Goals as goal
use Rattle.mol_merge.specs.Outcomes.{AreMergeable, ComesTo}

pub returns-in_err-have-clause-refused : goal.returns-in_err-have-clause-refused
returns-in_err-have-clause-refused c =
    let p = err_from_is_err_and c.from_residual.result c.from_residual.ensures.1 in
    rw (p.1, p.2) (no-memory c.args.base.now c.args.first.now c.args.second.now)

pub returns-in_err-refuse_first-clause-refused : goal.returns-in_err-refuse_first-clause-refused
returns-in_err-refuse_first-clause-refused c =
    let p = err_from_is_err_and c.from_residual-in_err-refuse_first.result c.from_residual-in_err-refuse_first.ensures.1 in
    rw (p.1, p.2) (λ other.
    refuses-first c.args.base.now c.args.first.now c.args.second.now c.requires.apart _ (c.in_err-refuse_first.ensures.refused other))

pub returns-in_err-refuse_second-clause-refused : goal.returns-in_err-refuse_second-clause-refused
returns-in_err-refuse_second-clause-refused c =
    let p = err_from_is_err_and c.from_residual-in_err-refuse_second.result c.from_residual-in_err-refuse_second.ensures.1 in
    rw (p.1, p.2) (λ other.
    refuses-second c.args.base.now c.args.first.now c.args.second.now c.requires.apart c.in_ok-refuse_first.ensures.replays _
    (c.in_err-refuse_second.ensures.refused other))

-- the first log goes first

pub returns-then-comes_first-clause-answer : goal.returns-then-comes_first-clause-answer
returns-then-comes_first-clause-answer c =
    as-given (λ (one other : Log). IfOk c.merge_in_turn.result (ComesTo c.args.base.now one other)) c.args.first.now c.args.second.now
    (sym c.comes_first.ensures ∙ c.if-comes_first.true) c.merge_in_turn.ensures.answer

pub returns-then-comes_first-clause-allowed : goal.returns-then-comes_first-clause-allowed
returns-then-comes_first-clause-allowed c = on-ok c.merge_in_turn.result (record {
  apart = c.requires.apart;
  first_replays = c.in_ok-refuse_first.ensures.replays;
  second_replays = c.in_ok-refuse_second.ensures.replays;
})

pub returns-then-comes_first-clause-refused : goal.returns-then-comes_first-clause-refused
returns-then-comes_first-clause-refused c =
    let base = c.args.base.now in
    let mergeable : AreMergeable base c.args.first.now c.args.second.now = record {
      apart = c.requires.apart;
      first_replays = c.in_ok-refuse_first.ensures.replays;
      second_replays = c.in_ok-refuse_second.ensures.replays;
    } in
    answer-large base c.args.first.now c.args.second.now c.merge_in_turn.result mergeable
    (as-given (λ (one other : Log). IfErr c.merge_in_turn.result (IsTooLarge base one other)) c.args.first.now c.args.second.now
    (sym c.comes_first.ensures ∙ c.if-comes_first.true) c.merge_in_turn.ensures.refused)

-- the second log goes first

pub merge_in_turn-requires-else-comes_first-clause-apart : goal.merge_in_turn-requires-else-comes_first-clause-apart
merge_in_turn-requires-else-comes_first-clause-apart c = λ tag there here. c.requires.apart tag here there

pub returns-else-comes_first-clause-answer : goal.returns-else-comes_first-clause-answer
returns-else-comes_first-clause-answer c =
    as-turned (λ (one other : Log). IfOk c.merge_in_turn-else-comes_first.result (ComesTo c.args.base.now one other)) c.args.first.now c.args.second.now
    (sym c.comes_first.ensures ∙ c.if-comes_first.false) c.merge_in_turn-else-comes_first.ensures.answer

pub returns-else-comes_first-clause-allowed : goal.returns-else-comes_first-clause-allowed
returns-else-comes_first-clause-allowed c = on-ok c.merge_in_turn-else-comes_first.result (record {
  apart = c.requires.apart;
  first_replays = c.in_ok-refuse_first.ensures.replays;
  second_replays = c.in_ok-refuse_second.ensures.replays;
})

pub returns-else-comes_first-clause-refused : goal.returns-else-comes_first-clause-refused
returns-else-comes_first-clause-refused c =
    let base = c.args.base.now in
    let mergeable : AreMergeable base c.args.first.now c.args.second.now = record {
      apart = c.requires.apart;
      first_replays = c.in_ok-refuse_first.ensures.replays;
      second_replays = c.in_ok-refuse_second.ensures.replays;
    } in
    answer-large base c.args.first.now c.args.second.now c.merge_in_turn-else-comes_first.result mergeable
    (as-turned (λ (one other : Log). IfErr c.merge_in_turn-else-comes_first.result (IsTooLarge base one other)) c.args.first.now c.args.second.now
    (sym c.comes_first.ensures ∙ c.if-comes_first.false) c.merge_in_turn-else-comes_first.ensures.refused)
