use Rattle.std.proofs.Common.{sym, Some, None}
use Rattle.jav_scope.proofs.CutTexts.{simple_name-whole, simple_name-after, last_parts}
use Rattle.jav_scope.proofs.entries.simple_name.Goals as goal

pub returns-in-Some : goal.returns-in-Some
returns-in-Some c =
    let text = c.args.text.now in
    let parts = last_parts text (Some (c.in-Some._front, c.in-Some.last)) c.in-Some.ensures.cases in
    sym (simple_name-after text c.in-Some._front.now c.in-Some.last.now parts.0 parts.1)

pub returns-in-None : goal.returns-in-None
returns-in-None c = sym (simple_name-whole c.args.text.now (last_parts c.args.text.now None c.in-None.ensures.cases))
