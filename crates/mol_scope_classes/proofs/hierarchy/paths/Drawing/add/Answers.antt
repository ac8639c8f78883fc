use Rattle.std.proofs.lemmas.Result.{on_ok_weaker}
use Rattle.mol_scope_classes.proofs.hierarchy_lemmas.PathsDrawn.{more-drawn}
use Rattle.mol_scope_classes.proofs.hierarchy.paths.Drawing.add.Goals as goal

pub returns-in-Some : goal.returns-in-Some
returns-in-Some c = λ program up drawn.
    on_ok_weaker c.follow.result (λ follows.
    more-drawn program c.args.self.now.positions.entries c.follow.new.self.positions.entries c.args.self.now.lasts.entries
    c.follow.new.self.lasts.entries c.args.class.now c.args.above.now c.in-Some.place up drawn c.in-Some.ensures follows) c.follow.ensures
