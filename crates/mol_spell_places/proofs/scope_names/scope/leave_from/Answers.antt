use Rattle.std.proofs.Common.{◌-◌, length, take, refl, sym, ◌∙◌, ap, arith}
use Rattle.std.proofs.lemmas.List.{take_all, take-take}
use Rattle.mol_spell_places.proofs.scope_names.scope.leave_from.Goals as goal

pub loop-in_scope-init : goal.loop-in_scope-init
loop-in_scope-init c = record { stands = c.requires; front = refl }

pub loop-in_scope-preserved : goal.loop-in_scope-preserved
loop-in_scope-preserved c =
    let items = c.loop-in_scope.in_scope.items in
    record {
      stands = c.leave.ensures.stands;
      front = ap (take c.args.mark) c.leave.ensures.scope ∙ take-take c.args.mark (length items - 1) items (omega arith)
          ∙ c.loop-in_scope.invariant.front;
    }

pub returns-clause-scope : goal.returns-clause-scope
returns-clause-scope c =
    sym (take_all c.args.mark c.loop-in_scope.in_scope.items (omega arith)) ∙ c.loop-in_scope.invariant.front
