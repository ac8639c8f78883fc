use Rattle.std.proofs.Common.{◌∙◌, sym, ap}
use Rattle.std.proofs.lemmas.Result.{on_ok_weaker}
use Rattle.mol_base.proofs.Added.{adds, adds-none}
use Rattle.mol_faults_mentions.proofs.mentions_lemmas.Nodes.{exprs-each}
use Rattle.mol_faults_mentions.proofs.mentions.body.add_start.Goals as goal
use Rattle.mol_faults_mentions.specs.mentions.Parts.{each_expr}
use Rattle.mol_table_rules.specs.Mentions.{start_mentions}

pub returns-in-None : goal.returns-in-None
returns-in-None c = adds-none c.args.mentions.now _ (ap start_mentions c.in-None.is)

pub returns-in-Let : goal.returns-in-Let
returns-in-Let c =
    on_ok_weaker c.add_let.result (adds c.args.mentions.now _ _ _ (ap start_mentions c.in-Let.is)) c.add_let.ensures

pub returns-in-Do : goal.returns-in-Do
returns-in-Do c =
    on_ok_weaker c.add_all.result (adds c.args.mentions.now _ _ _
    (ap start_mentions c.in-Do.is ∙ exprs-each c.in-Do.items ∙ ap each_expr (sym c.items.ensures))) c.add_all.ensures
