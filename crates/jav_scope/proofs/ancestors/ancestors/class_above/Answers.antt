use Rattle.std.proofs.Common.{◌≡◌, ℕ, Bool, true, false, Option, Some, None, refl}
use Rattle.jav_names.specs.LookUps.{class_above, found_or, is_outside}
use Rattle.jav_scope.specs.Answers.{answered}
use Rattle.jav_scope.specs.Entries.{view_in}
use Rattle.jav_scope.specs.declared.found.Found.TheVariants as answer
use Rattle.jav_scope.proofs.ancestors.ancestors.class_above.Goals as goal

found : (o : Option ℕ) (b : Bool) (n : ℕ) → answer.Found n ≡ answered (λ number. number) (found_or o b) → Some n ≡ o
found (Some m) b n is = cc
found None true n is = absurd cc
found None false n is = absurd cc

outside : (o : Option ℕ) (b : Bool) → answer.Outside ≡ answered (λ number. number) (found_or o b) → None ≡ o
outside (Some m) b is = absurd cc
outside None b is = refl

not_found : (o : Option ℕ) (b : Bool) → answer.NotFound ≡ answered (λ number. number) (found_or o b) → None ≡ o
not_found (Some m) b is = absurd cc
not_found None b is = refl

pub returns-in-Found : goal.returns-in-Found
returns-in-Found c =
    let view = view_in c.args.scope.now in
    found (class_above view c.args.class) (is_outside (view.superclass c.args.class)) c.in-Found.above c.in-Found.ensures

pub returns-in-Outside : goal.returns-in-Outside
returns-in-Outside c =
    let view = view_in c.args.scope.now in
    outside (class_above view c.args.class) (is_outside (view.superclass c.args.class)) c.in-Outside.ensures

pub returns-in-NotFound : goal.returns-in-NotFound
returns-in-NotFound c =
    let view = view_in c.args.scope.now in
    not_found (class_above view c.args.class) (is_outside (view.superclass c.args.class)) c.in-NotFound.ensures
