use Rattle.std.proofs.Common.{◌++◌, sym, ap, ◌∙◌}
use Rattle.std.proofs.lemmas.List.{append-nil}
use Rattle.std.proofs.lemmas.Result.{on_ok_weaker}
use Rattle.mol_faults_expr.specs.Kept.{mode_of}
use Rattle.mol_resolve_rules.specs.ReadTrees.{followers}
use Rattle.mol_faults_expr.proofs.followers.add_followers.Goals as goal

pub returns-in-Some : goal.returns-in-Some
returns-in-Some c = on_ok_weaker c.add_to.result (λ added. added
    ∙ ap (λ mode. c.args.names.now.items ++ followers (mode_of mode)) (sym c.in-Some.is)) c.add_to.ensures

pub returns-in-None : goal.returns-in-None
returns-in-None c = sym (append-nil c.args.names.now.items)
    ∙ ap (λ mode. c.args.names.now.items ++ followers (mode_of mode)) (sym c.in-None.is)
