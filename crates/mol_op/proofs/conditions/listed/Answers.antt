use Rattle.std.proofs.Common.{◌∙◌, sym, ap, subst, Option, Some}
use Rattle.mol_values_types.specs.declared.known.Known.{Known}
use Rattle.mol_op.specs.Tests.{IsVerdict, list_fault}
use Rattle.mol_op.proofs.conditions.listed.Goals as goal

pub returns-in-Some-Param : goal.returns-in-Some-Param
returns-in-Some-Param c =
    subst (λ (known : Option Known). IsVerdict (list_fault c.args.tag.now c.args.named c.args.method.now c.args.id.now known) c.own_param.result)
    (ap (λ (known : Known). Some known) (sym c.in-Some-Param.field-0-is) ∙ c.in-Some-Param.ensures) (c.own_param.ensures c.args.tag.now)
