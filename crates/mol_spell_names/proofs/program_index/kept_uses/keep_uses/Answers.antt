use Rattle.std.proofs.Common.{◌∙◌, List, Some, cond, ap}
use Rattle.std.specs.Map.{lookup}
use Rattle.mol_base.specs.declared.ident.Id.{Id}
use Rattle.mol_spell_names.proofs.program_index.kept_uses.keep_uses.Goals as goal
use Rattle.mol_spell_rules.specs.Writers.{Use}
use Rattle.mol_values_types.specs.Order.{id_eq}

pub returns : goal.returns
returns c = λ (asked : Id).
    c.in_ok-insert.ensures.updates.0 asked
    ∙ ap (λ (uses : List Use). cond (id_eq c.args.class.now asked) (Some uses) (lookup (id_eq asked) c.args.kept.now.entries)) c.in_ok-uses.ensures
