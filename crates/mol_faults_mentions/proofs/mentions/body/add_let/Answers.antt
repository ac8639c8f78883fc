use Rattle.std.proofs.Common.{◌++◌, sym, ap}
use Rattle.std.proofs.lemmas.Result.{on_ok_weaker}
use Rattle.mol_base.proofs.Added.{adds, adds-both}
use Rattle.mol_faults_mentions.proofs.mentions.body.add_let.Goals as goal
use Rattle.mol_faults_mentions.specs.mentions.Parts.{names_mentions}
use Rattle.mol_table_rules.specs.Mentions.{type_mentions}

pub returns : goal.returns
returns c =
    on_ok_weaker c.add_names.result (λ next. adds c.args.mentions.now _ _ _
    (ap (λ names. type_mentions c.args.declared.now.ty ++ names_mentions names) (sym c.items.ensures))
    (adds-both c.args.mentions.now _ _ _ _ c.in_ok-add_type.ensures next)) c.add_names.ensures
