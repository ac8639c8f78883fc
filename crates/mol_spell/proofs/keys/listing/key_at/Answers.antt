use Rattle.std.proofs.Common.{◌∙◌}
use Rattle.mol_base.specs.Paths.{path_of}
use Rattle.mol_spell.proofs.keys.listing.key_at.Goals as goal

pub returns : goal.returns
returns c = λ i. record {
  path = (c.in_ok-path.ensures ∙ (λ k. path_of (c.package_of.ensures k) (c.name_of.ensures k))) i;
  class = c.args.class.now;
}
