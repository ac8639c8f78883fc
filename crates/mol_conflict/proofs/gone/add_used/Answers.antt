use Rattle.std.proofs.Common.{◌∙◌, [], ap, sym, if◌then◌else◌}
use Rattle.std.proofs.lemmas.Result.{on_ok_weaker}
use Rattle.std.specs.FinMap.{get}
use Rattle.mol_base.proofs.Added.{adds, adds-none}
use Rattle.mol_conflict.proofs.gone.add_used.Goals as goal
use Rattle.mol_conflict.specs.Found.{used_in}

pub returns-then-lives : goal.returns-then-lives
returns-then-lives c =
    let base = c.args.programs.now.base.now in
    let gone = c.args.programs.now.gone.now in
    let other = c.args.programs.now.other.now in
    let at = c.args.at.now in
    on_ok_weaker c.add_used_in.result (adds c.args.found.now.items _ _ _
    (ap (λ living. if living then used_in base gone other at (get c.args.tidied.now.cells at) else []) (sym c.lives.ensures ∙ c.if-lives.true)
    ∙ ap (used_in base gone other at) (sym c.get.ensures)))
    c.add_used_in.ensures

pub returns : goal.returns
returns c =
    let base = c.args.programs.now.base.now in
    let gone = c.args.programs.now.gone.now in
    let other = c.args.programs.now.other.now in
    let at = c.args.at.now in
    adds-none c.args.found.now.items _
    (ap (λ living. if living then used_in base gone other at (get c.args.tidied.now.cells at) else [])
    (sym c.lives.ensures ∙ c.if-lives.false))
