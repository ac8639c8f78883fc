use Rattle.std.proofs.Common.{None, Some, ◌∙◌, rules, lit<}
use Rattle.std.proofs.lemmas.Result.{on_ok_weaker}
use Rattle.std.proofs.lemmas.Str.Pattern.{split_parts}
use Rattle.mol_faults_expr.proofs.CutNames.{cut-further, cut-last}
use Rattle.mol_faults_expr.proofs.spelled.add_cut.Goals as goal

pub loop-name-preserved : goal.loop-name-preserved
loop-name-preserved c =
    let rest = c.loop-name.rest.now in
    let parts = split_parts 46 rest (Some (c.in-Some.name, c.in-Some.behind)) c.in-Some.ensures.cases (lit< tt) in
    (search rules, cut-further _ _ rest _ _ c.in_ok-add_name.ensures parts.0 parts.1 ∙ c.loop-name.invariant.1)

pub returns : goal.returns
returns c =
    let rest = c.loop-name.rest.now in
    let none = split_parts 46 rest None c.in_default.ensures.cases (lit< tt) in
    on_ok_weaker c.add_name-2.result (λ added. added ∙ cut-last c.loop-name.names.items rest none
    ∙ c.loop-name.invariant.1) c.add_name-2.ensures
