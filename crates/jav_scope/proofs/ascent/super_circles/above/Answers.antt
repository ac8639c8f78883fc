use Rattle.std.proofs.Common.{◌≡◌, ℕ, Bool, true, false, Option, Some, None, unwrap_or, refl}
use Rattle.jav_names.specs.LookUps.{class_above, found_or, is_outside}
use Rattle.jav_scope.specs.Answers.{answered}
use Rattle.jav_scope.specs.Entries.{view_in}
use Rattle.jav_scope.specs.declared.found.Found.TheVariants as answer
use Rattle.jav_scope.proofs.ascent.super_circles.above.Goals as goal

found : (o : Option ℕ) (b : Bool) (end n : ℕ) → answer.Found n ≡ answered (λ number. number) (found_or o b) → n ≡ unwrap_or o end
found (Some m) b end n is = cc
found None true end n is = absurd cc
found None false end n is = absurd cc

is_outside-none : (o : Option ℕ) (b : Bool) (end : ℕ) → answer.Outside ≡ answered (λ number. number) (found_or o b) → end ≡ unwrap_or o end
is_outside-none (Some m) b end is = absurd cc
is_outside-none None b end is = refl

not_found-none : (o : Option ℕ) (b : Bool) (end : ℕ) → answer.NotFound ≡ answered (λ number. number) (found_or o b) → end ≡ unwrap_or o end
not_found-none (Some m) b end is = absurd cc
not_found-none None b end is = refl

pub returns-in-Found : goal.returns-in-Found
returns-in-Found c =
    let view = view_in c.args.scope.now in
    found (class_above view c.args.class) (is_outside (view.superclass c.args.class)) c.args.end c.in-Found.above c.in-Found.ensures

pub returns-in-Outside : goal.returns-in-Outside
returns-in-Outside c =
    let view = view_in c.args.scope.now in
    is_outside-none (class_above view c.args.class) (is_outside (view.superclass c.args.class)) c.args.end c.in-Outside.ensures

pub returns-in-NotFound : goal.returns-in-NotFound
returns-in-NotFound c =
    let view = view_in c.args.scope.now in
    not_found-none (class_above view c.args.class) (is_outside (view.superclass c.args.class)) c.args.end c.in-NotFound.ensures
