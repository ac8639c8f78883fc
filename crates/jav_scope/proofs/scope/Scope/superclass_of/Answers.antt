use Rattle.std.proofs.Common.{◌≡◌, ◌∙◌, List, length, ℕ, sym, ap, Some, None, slice_get, refl}
use Rattle.std.proofs.lemmas.Option.{slice_get_past, slice_get_read}
use Rattle.jav_scope.specs.Entries.{units_of}
use Rattle.jav_scope.specs.Scopes.{superclasses_in}
use Rattle.jav_scope.specs.declared.found.Found.{Found}
use Rattle.jav_scope.proofs.AboveClasses.{above-there, above-nowhere}
use Rattle.jav_scope.proofs.scope.Scope.superclass_of.Goals as goal

pub returns-in-Some : goal.returns-in-Some
returns-in-Some c =
    let xs : List (Found ℕ) = c.as_slice-superclasses.result.now in
    let class : ℕ = c.args.class in
    let found : Found ℕ = c.in-Some.found.now in
    let value : xs ≡ superclasses_in c.args.self.now =
    c.as_slice-superclasses.ensures.value ∙ c.self.invariant.superclasses ∙ ap superclasses_in c.self.view_is in
    let there : slice_get xs class ≡ Some found = slice_get_read xs (length xs) class found refl c.in-Some.ensures.lookup.3.0
    c.in-Some.ensures.lookup.1 in
    above-there (units_of c.args.self.now) class found (ap (λ (all : List (Found ℕ)). slice_get all class) (sym value) ∙ there)

pub returns-in-None : goal.returns-in-None
returns-in-None c =
    let xs : List (Found ℕ) = c.as_slice-superclasses.result.now in
    let class : ℕ = c.args.class in
    let value : xs ≡ superclasses_in c.args.self.now =
    c.as_slice-superclasses.ensures.value ∙ c.self.invariant.superclasses ∙ ap superclasses_in c.self.view_is in
    let past : slice_get xs class ≡ None = slice_get_past xs class c.in-None.ensures.lookup.3 in
    above-nowhere (units_of c.args.self.now) class (ap (λ (all : List (Found ℕ)). slice_get all class) (sym value) ∙ past)
