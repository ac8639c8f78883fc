use Rattle.std.proofs.Common.{◌≡◌, sym, ◌∙◌, ap, true}
use Rattle.std.specs.Str.Parse.{ParsesUnsigned}
use Rattle.mol_base.specs.Number.{starts_from_one}
use Rattle.mol_base.proofs.Numbers.{starts-decimal, parsed_spells, parsed_only, IsUtf8-spelled}
use Rattle.mol_base.proofs.number.parse_number.Goals as goal

pub returns-then-not-starts-clause-only : goal.returns-then-not-starts-clause-only
returns-then-not-starts-clause-only c = λ n is spelled.
    let starts : starts_from_one c.args.bytes.now ≡ true = ap starts_from_one (sym spelled) ∙ starts-decimal n is in
    absurd (cc)

pub returns-in-Ok-parse-clause-spells : goal.returns-in-Ok-parse-clause-spells
returns-in-Ok-parse-clause-spells c =
    let parsed : ParsesUnsigned 32 10 c.args.bytes.now c.parse.result = rw (← c.in-Ok.ensures.cases.0) c.parse.ensures.value.0 in
    parsed_spells c.args.bytes.now c.in-Ok-parse.number c.parse.result c.in-Ok-parse.is (sym c.starts.ensures ∙ c.if-not-starts.false) parsed

pub returns-in-Ok-parse-clause-only : goal.returns-in-Ok-parse-clause-only
returns-in-Ok-parse-clause-only c = λ n is spelled.
    let parsed : ParsesUnsigned 32 10 c.args.bytes.now c.parse.result = rw (← c.in-Ok.ensures.cases.0) c.parse.ensures.value.0 in
    let gives = parsed_only c.args.bytes.now n c.parse.result is spelled parsed in
    cc

pub returns-in-Err-parse-clause-only : goal.returns-in-Err-parse-clause-only
returns-in-Err-parse-clause-only c = λ n is spelled.
    let parsed : ParsesUnsigned 32 10 c.args.bytes.now c.parse.result = rw (← c.in-Ok.ensures.cases.0) c.parse.ensures.value.0 in
    let gives = parsed_only c.args.bytes.now n c.parse.result is spelled parsed in
    cc

pub returns-in-Err-clause-only : goal.returns-in-Err-clause-only
returns-in-Err-clause-only c = λ n is spelled. absurd (c.in-Err.ensures.cases.0 (IsUtf8-spelled c.args.bytes.now n is spelled))
