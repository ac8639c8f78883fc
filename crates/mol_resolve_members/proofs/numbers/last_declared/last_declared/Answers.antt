use Rattle.std.proofs.Common.{[], refl}
use Rattle.mol_resolve_members.proofs.numbers_lemmas.DeclarationsFound.{left-after, none-after, none-left, none-more, shorter}
use Rattle.mol_resolve_members.proofs.numbers.last_declared.last_declared.Goals as goal

pub loop-rest-init : goal.loop-rest-init
loop-rest-init c = record { front = []; split = refl; last_is = refl }

pub returns-in_default-nearest : goal.returns-in_default-nearest
returns-in_default-nearest c =
    none-left c.args.scope.now c.args.name.now c.args.arity c.args.way.now c.loop-rest.rest.now c.loop-rest.last c.requires
    c.loop-rest.invariant c.in-len1-up.len_at_least _ refl c.in_default-nearest.ensures

pub returns-in_default-rest_after : goal.returns-in_default-rest_after
returns-in_default-rest_after c =
    none-after c.args.scope.now c.args.name.now c.args.arity c.args.way.now c.loop-rest.rest.now c.loop-rest.last c.requires
    c.loop-rest.invariant c.in-len1-up.len_at_least _ refl c.in-Some.declared c.in-Some.ensures c.in_default-rest_after.ensures

pub loop-rest-preserved : goal.loop-rest-preserved
loop-rest-preserved c =
    left-after c.args.scope.now c.args.name.now c.args.arity c.args.way.now c.loop-rest.rest.now c.loop-rest.last c.requires
    c.loop-rest.invariant c.in-len1-up.len_at_least _ refl c.in-Some.declared c.in-Some.ensures c.in-Some-rest_after.after.now
    c.in-Some-rest_after.ensures

pub loop-rest-smaller : goal.loop-rest-smaller
loop-rest-smaller c =
    shorter c.args.scope.now c.args.name.now c.args.arity c.args.way.now c.loop-rest.rest.now c.loop-rest.last c.requires
    c.loop-rest.invariant c.in-len1-up.len_at_least _ refl c.in-Some.declared c.in-Some.ensures c.in-Some-rest_after.after.now
    c.in-Some-rest_after.ensures

pub returns : goal.returns
returns c = none-more c.args.scope.now c.args.name.now c.args.arity c.args.way.now c.loop-rest.rest.now c.loop-rest.last
    c.loop-rest.invariant c.in_default.len_below
