use Rattle.std.proofs.Common.{◌∙◌, sym, ap, Some, None, cond}
use Rattle.mol_base.specs.declared.ident.Id.{Id}
use Rattle.mol_table_rules.specs.Ancestors.{unmet}
use Rattle.mol_values_types.proofs.Ties.{any_tied}
use Rattle.mol_table_numbers.proofs.search.unmet.Goals as goal

pub returns-then-is_met : goal.returns-then-is_met
returns-then-is_met c =
    let class = c.in-Some.class in
    let met = sym (any_tied (λ (id : Id). id) class c.args.met.now) ∙ sym c.is_met.ensures ∙ c.if-is_met.true in
    sym (ap (unmet c.args.met.now) c.in-Some.is ∙ ap (λ b. cond b None (Some class)) met)

pub returns-else-is_met : goal.returns-else-is_met
returns-else-is_met c =
    let class = c.in-Some.class in
    let met = sym (any_tied (λ (id : Id). id) class c.args.met.now) ∙ sym c.is_met.ensures ∙ c.if-is_met.false in
    sym (ap (unmet c.args.met.now) c.in-Some.is ∙ ap (λ b. cond b None (Some class)) met)
