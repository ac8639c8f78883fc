use Rattle.std.proofs.Common.{Some, ap}
use Rattle.std.proofs.lemmas.Result.{on_ok_weaker}
use Rattle.mol_spell_uses.proofs.body_uses.values.add_parent.Goals as goal
use Rattle.mol_spell_uses.specs.body_uses.PartUses.{value_uses}
use Rattle.mol_resolve_rules.specs.Locals.{no_locals}
use Rattle.mol_spell_uses.proofs.uses_lemmas.Added.{adds, adds-none}
use Rattle.mol_values_types.specs.declared.value.Value.TheVariants as values

pub returns-in-Some : goal.returns-in-Some
returns-in-Some c =
    on_ok_weaker c.add_declared_type.result (λ added writer. adds c.args.uses.now _ _ _
    (ap (λ parent. value_uses writer (Some (values.Super parent))) c.in-Some.is) (added writer no_locals)) c.add_declared_type.ensures

pub returns-in-None : goal.returns-in-None
returns-in-None c = λ writer.
    adds-none c.args.uses.now _ (ap (λ parent. value_uses writer (Some (values.Super parent))) c.in-None.is)
