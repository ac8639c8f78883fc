use Rattle.std.proofs.Common.{refl}
use Rattle.mol_spell.proofs.keys_lemmas.SlashesForDots.{replaced}
use Rattle.mol_spell.proofs.keys.paths.folders_of.Goals as goal

pub returns : goal.returns
returns c =
    let found = c.in_ok-replace.ensures.ok in
    replaced found.0 _ c.args.package.now _ refl found.1
