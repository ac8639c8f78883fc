use Rattle.std.proofs.Common.{◌∙◌, cond, sym, ap}
use Rattle.jav_scope.specs.declared.found.Found.TheVariants as answer
use Rattle.mol_scope_classes.proofs.classes_lemmas.LivingClasses.{extended-class}
use Rattle.mol_scope_classes.proofs.classes.superclasses.living.Goals as goal

pub returns-then-is_living_class : goal.returns-then-is_living_class
returns-then-is_living_class c = sym (extended-class c.args.table.now c.args.class.now
    ∙ ap (λ b. cond b (answer.Found c.args.class.now) answer.NotFound) (sym c.is_living_class.ensures ∙ c.if-is_living_class.true))

pub returns-else-is_living_class : goal.returns-else-is_living_class
returns-else-is_living_class c = sym (extended-class c.args.table.now c.args.class.now
    ∙ ap (λ b. cond b (answer.Found c.args.class.now) answer.NotFound) (sym c.is_living_class.ensures ∙ c.if-is_living_class.false))
