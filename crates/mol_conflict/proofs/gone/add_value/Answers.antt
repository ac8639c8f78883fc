use Rattle.std.proofs.Common.{◌∙◌, ap, sym}
use Rattle.std.proofs.lemmas.Result.{on_ok_weaker}
use Rattle.mol_base.proofs.Added.{adds}
use Rattle.mol_conflict.proofs.gone.add_value.Goals as goal
use Rattle.mol_conflict.specs.Found.{used_among}

pub returns : goal.returns
returns c =
    let base = c.args.programs.now.base.now in
    let gone = c.args.programs.now.gone.now in
    let other = c.args.programs.now.other.now in
    on_ok_weaker c.add_mentions.result (adds c.args.found.now.items _ _ _
    (ap (used_among base gone other c.args.at.now)
    (sym (c.items.ensures ∙ c.in_ok-mentions.ensures)))) c.add_mentions.ensures
