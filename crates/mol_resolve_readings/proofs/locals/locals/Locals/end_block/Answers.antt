use Rattle.std.proofs.Common.{List, sym, subst}
use Rattle.mol_resolve_readings.specs.locals.Scoped.{Stands}
use Rattle.mol_resolve_readings.specs.declared.locals.local.Local.{Local}
use Rattle.mol_resolve_readings.proofs.locals_lemmas.Steps.{fewer}
use Rattle.mol_resolve_readings.proofs.locals.locals.Locals.end_block.Goals as goal

pub leave_from-requires : goal.leave_from-requires
leave_from-requires c =
    subst (λ (declared : List Local). Stands declared c.self.inside.in_scope.items c.self.inside.nearest.entries)
    (sym c.as_slice.ensures.value) c.self.invariant

pub invariant_of-self : goal.invariant_of-self
invariant_of-self c =
    subst (λ (declared : List Local). Stands declared c.leave_from.new.in_scope.items c.leave_from.new.nearest.entries)
    c.as_slice.ensures.value c.leave_from.ensures.stands

pub returns : goal.returns
returns c =
    fewer c.self.inside.declared.items c.self.inside.in_scope.items c.leave_from.new.in_scope.items c.args.mark c.args.self.now
    c.leave_from.ensures.scope c.self.view_is
