use Rattle.std.proofs.Common.{◌≡◌, ◌∙◌, [], ap, length, suc}
use Rattle.jav_scope.specs.Entries.{view_in}
use Rattle.jav_names.specs.LookUps.{leftmost}
use Rattle.jav_names.specs.UnitViews.{place_in}
use Rattle.mol_resolve_names.proofs.chains_lemmas.ChainsBegun.{class-begun, nothing-begun, outside-begun, variable-begun}
use Rattle.mol_resolve_names.proofs.chains.chains.class_of.Goals as goal
use Rattle.mol_resolve_readings.specs.declared.reads.chain.Chain.TheVariants as chain

pub returns-in-Found-Class : goal.returns-in-Found-Class
returns-in-Found-Class c = λ source first rest at is.
    let read = leftmost (view_in c.args.scope.now) (place_in (c.args.unit, source.unit) [] []) first rest in
    let many : length c.args.names.now ≡ suc (length rest) = ap length is in
    (λ i. chain.Class c.in-Found-Class.class c.in-Found-Class.spelling (many i))
    ∙ class-begun (suc (length rest)) read c.in-Found-Class.class c.in-Found-Class.spelling
    ((rw c.in-Found-Class.field-0-is at c.in-Found-Class.ensures) source first rest at is)

pub returns-in-Found-Var : goal.returns-in-Found-Var
returns-in-Found-Var c = λ source first rest at is.
    variable-begun (suc (length rest)) (leftmost (view_in c.args.scope.now) (place_in (c.args.unit, source.unit) [] []) first rest) _
    ((rw c.in-Found-Var.field-0-is at c.in-Found-Var.ensures) source first rest at is)

pub returns-in-Outside : goal.returns-in-Outside
returns-in-Outside c = λ source first rest at is.
    outside-begun (suc (length rest)) (leftmost (view_in c.args.scope.now) (place_in (c.args.unit, source.unit) [] []) first rest)
    (c.in-Outside.ensures source first rest at is)

pub returns-in-NotFound : goal.returns-in-NotFound
returns-in-NotFound c = λ source first rest at is.
    nothing-begun (suc (length rest)) (leftmost (view_in c.args.scope.now) (place_in (c.args.unit, source.unit) [] []) first rest)
    (c.in-NotFound.ensures source first rest at is)
