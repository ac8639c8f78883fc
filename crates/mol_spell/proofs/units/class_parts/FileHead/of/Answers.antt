use Rattle.std.proofs.Common.{◌∙◌}
use Rattle.mol_spell.proofs.units.class_parts.FileHead.of.Goals as goal

pub returns : goal.returns
returns c = λ i. record {
  head = (c.in_ok-head.ensures ∙ c.head_of.ensures) i;
  «package» = (c.in_ok-package.ensures ∙ c.package_of.ensures) i;
  imports = c.in_ok-imports.ensures i;
}
