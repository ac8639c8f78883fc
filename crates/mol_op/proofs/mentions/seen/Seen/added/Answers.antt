use Rattle.std.proofs.Common.{◌∙◌, sym, ap, None, cond, Some}
use Rattle.std.specs.List.{list_any}
use Rattle.std.specs.Option.{option_or}
use Rattle.mol_values_types.specs.Order.{id_eq}
use Rattle.mol_values_types.specs.declared.known.Known.TheVariants as knowns
use Rattle.mol_values_types.specs.declared.param.Param.{Param}
use Rattle.mol_op.specs.Names.{first-added}
use Rattle.mol_op.proofs.mentions.seen.Seen.added.Goals as goal

pub returns-in-Some : goal.returns-in-Some
returns-in-Some c =
    let seen = c.args.self.now in
    sym (first-added seen.entities.now seen.method seen.params.now c.args.id.now
    ∙ ap (λ o. option_or o (cond (list_any (λ (param : Param). id_eq c.args.id.now param.id) seen.params.now) (Some (knowns.Param seen.method)) None)) (sym c.entity_of.ensures ∙ c.in-Some.is))

pub returns-then-is_listed : goal.returns-then-is_listed
returns-then-is_listed c =
    let seen = c.args.self.now in
    sym (first-added seen.entities.now seen.method seen.params.now c.args.id.now
    ∙ ap (λ o. option_or o (cond (list_any (λ (param : Param). id_eq c.args.id.now param.id) seen.params.now) (Some (knowns.Param seen.method)) None)) (sym c.entity_of.ensures ∙ c.in-None.is)
    ∙ ap (λ b. cond b (Some (knowns.Param seen.method)) None) (sym c.is_listed.ensures ∙ c.if-is_listed.true))

pub returns-else-is_listed : goal.returns-else-is_listed
returns-else-is_listed c =
    let seen = c.args.self.now in
    sym (first-added seen.entities.now seen.method seen.params.now c.args.id.now
    ∙ ap (λ o. option_or o (cond (list_any (λ (param : Param). id_eq c.args.id.now param.id) seen.params.now) (Some (knowns.Param seen.method)) None)) (sym c.entity_of.ensures ∙ c.in-None.is)
    ∙ ap (λ b. cond b (Some (knowns.Param seen.method)) None) (sym c.is_listed.ensures ∙ c.if-is_listed.false))
