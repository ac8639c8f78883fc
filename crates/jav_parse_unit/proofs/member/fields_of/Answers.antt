use Rattle.std.proofs.Common.{◌≡◌, ap, arith, rules}
use Rattle.std.proofs.lemmas.Grind.{common_steps}
use Rattle.jav_parse_unit.proofs.FieldLists.{one_field, no_notes, no_place}
use Rattle.jav_parse_unit.proofs.member.fields_of.Goals as goal

pub loop-variable-preserved : goal.loop-variable-preserved
loop-variable-preserved c =
    let e = one_field c.args.front c.args.ty c.loop-variable.yielded c.in-Some.variable in
    let n = no_notes c.args.front c.loop-variable.yielded c.in-Some.variable in
    let p = no_place c.args.front c.loop-variable.yielded c.in-Some.variable in
    first_of (search (rules, e, n, p), grind (arith, common_steps, e, n, p))
