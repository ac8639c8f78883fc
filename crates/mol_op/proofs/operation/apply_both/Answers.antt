use Rattle.std.proofs.Common.{◌∙◌, ap}
use Rattle.mol_op.specs.Changes.{know_all, written}
use Rattle.mol_op.specs.ChangeLaws.{within-know_all}
use Rattle.mol_op.specs.Together.{either-order, stay-new, apart-turned}
use Rattle.mol_op.proofs.operation.apply_both.Goals as goal

pub apply_fitting-requires-2 : goal.apply_fitting-requires-2
apply_fitting-requires-2 g c =
    let known = c.args.table.now.known in
    let names = g.A.Operation.names c.args.first.now in
    rw c.in_ok-apply_fitting.ensures.ok (g.met.B.Operation.grows c.args.second.now c.args.second_tag known (know_all known names) c.requires.second
    (within-know_all known names) (stay-new known names (g.B.Operation.names c.args.second.now) c.requires.apart.new))

pub returns-clause-turned : goal.returns-clause-turned
returns-clause-turned g c =
    c.in_ok-apply_fitting-2.ensures.ok
    ∙ ap (λ program. written program (g.B.Operation.writes c.args.second.now) (g.B.Operation.names c.args.second.now)) c.in_ok-apply_fitting.ensures.ok
    ∙ either-order c.args.table.now (g.A.Operation.writes c.args.first.now) (g.A.Operation.names c.args.first.now)
    (g.B.Operation.writes c.args.second.now) (g.B.Operation.names c.args.second.now) c.requires.apart

pub returns-clause-still : goal.returns-clause-still
returns-clause-still g c =
    let known = c.args.table.now.known in
    let names = g.A.Operation.names c.args.first.now in
    let others = g.B.Operation.names c.args.second.now in
    g.met.A.Operation.grows c.args.first.now c.args.first_tag known (know_all known others) c.requires.first
    (within-know_all known others) (stay-new known others names (apart-turned known names others c.requires.apart.new))

pub returns-clause-known : goal.returns-clause-known
returns-clause-known g c id what is =
    let known = c.args.table.now.known in
    let names = g.A.Operation.names c.args.first.now in
    let others = g.B.Operation.names c.args.second.now in
    rw (c.in_ok-apply_fitting-2.ensures.ok, c.in_ok-apply_fitting.ensures.ok) (within-know_all (know_all known names) others id what (within-know_all known names id what is))

pub returns-clause-follows : goal.returns-clause-follows
returns-clause-follows g c =
    let known = c.args.table.now.known in
    let names = g.A.Operation.names c.args.first.now in
    g.met.B.Operation.grows c.args.second.now c.args.second_tag known (know_all known names) c.requires.second
    (within-know_all known names) (stay-new known names (g.B.Operation.names c.args.second.now) c.requires.apart.new)
