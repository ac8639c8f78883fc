use Rattle.std.proofs.Common.{◌≡◌, ◌∙◌, subst}
use Rattle.std.specs.Map.{lookup}
use Rattle.mol_spell_names.proofs.program_index.program_index.ProgramIndex.uses_of.Goals as goal
use Rattle.mol_spell_names.specs.program_index.KeptUses.{living_uses}
use Rattle.mol_table_rules.specs.Program.{Program}
use Rattle.mol_values_types.specs.Order.{id_eq}

pub returns : goal.returns
returns c =
    let class = c.args.class.now in
    let found = lookup (id_eq class) c.self.inside.uses.entries in
    c.get.ensures.value ∙ subst (λ (program : Program). found ≡ living_uses program class) c.self.view_is (c.self.invariant.1 class)
