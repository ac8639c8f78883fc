use Rattle.std.proofs.Common.{◌∙◌, sym, ap}
use Rattle.std.proofs.lemmas.Result.{on_ok_weaker}
use Rattle.mol_faults_values.proofs.missing_faults.collected.add_value.Goals as goal
use Rattle.mol_faults_values.specs.missing_faults.Gone.{gone_among}
use Rattle.mol_base.proofs.Added.{adds}

pub returns : goal.returns
returns c =
    on_ok_weaker c.add_mentions.result (adds c.args.gone.now.items _ _ _
    (ap (gone_among c.args.table.now c.args.at.now) (sym (c.items.ensures ∙ c.in_ok-mentions.ensures)))) c.add_mentions.ensures
