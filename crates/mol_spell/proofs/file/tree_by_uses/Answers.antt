use Rattle.std.proofs.Common.{◌∙◌, map, ap}
use Rattle.mol_spell.proofs.file.tree_by_uses.Goals as goal
use Rattle.mol_spell_uses.specs.uses.Kept.{kept_use}

pub tree_by_names-requires-clause-names : goal.tree_by_names-requires-clause-names
tree_by_names-requires-clause-names c = record {
  in_program = c.in-Ok.ensures.0 ∙ c.classes.ensures;
  of_class = c.in-Ok.ensures.1;
  by_uses = ap (map kept_use) c.in-Ok.ensures.2 ∙ c.items.ensures ∙ c.requires.uses;
}
