use Rattle.std.proofs.Common.{◌∙◌, sym, ap}
use Rattle.mol_spell_expr.proofs.WithLast.{as_found}
use Rattle.mol_spell_expr.specs.Parts.{over_operands}
use Rattle.mol_spell_expr.proofs.operators.over_both.Goals as goal

pub returns-in-Operator : goal.returns-in-Operator
returns-in-Operator c =
    as_found c.between.result (λ kind. over_operands kind c.args.first c.args.second) _ _ c.in-Operator.is c.between.ensures

pub returns-in-Assignment : goal.returns-in-Assignment
returns-in-Assignment c =
    as_found c.assigned.result (λ kind. over_operands kind c.args.first c.args.second) _ _ c.in-Assignment.is c.assigned.ensures

pub returns-in-Index : goal.returns-in-Index
returns-in-Index c =
    c.made.ensures ∙ sym (ap (λ kind. over_operands kind c.args.first c.args.second) c.in-Index.is)
