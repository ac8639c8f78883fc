-- The nearest local of a name is there where one of those in scope has the name.
use Rattle.std.proofs.Common.{◌≡◌, ℕ, Option, Some, None, is_some, slice_get, refl, sym, ap, ◌∙◌}
use Rattle.std.specs.Option.{option_and_then}
use Rattle.jav_names.specs.DottedNames.{Name}
use Rattle.jav_names.specs.LookUps.{last_place}
use Rattle.mol_resolve_readings.proofs.locals_lemmas.NearestNames.{none-near}
use Rattle.mol_resolve_readings.specs.locals.Scoped.{nearest_local}
use Rattle.mol_resolve_rules.specs.Locals.{Locals, local_name, names_in_scope}

module _ {C : Type 0} (locals : Locals C) (name : Name) where
  pub none-local : None ≡ nearest_local locals name → last_place name (names_in_scope locals) ≡ None
  none-local none = none-near (local_name locals) locals.in_scope name (sym none)

  pub some-local : is_some (nearest_local locals name) ≡ is_some (last_place name (names_in_scope locals))
  some-local = by (nearest_local locals name) refl where
    some-place : (number : ℕ) (place : Option ℕ) → option_and_then (slice_get locals.in_scope) place ≡ Some number
        → is_some (option_and_then (slice_get locals.in_scope) place) ≡ is_some place
    some-place number None is = absurd cc
    some-place number (Some place) is = ap is_some is

    by : (nearest : Option ℕ) → nearest_local locals name ≡ nearest
        → is_some (nearest_local locals name) ≡ is_some (last_place name (names_in_scope locals))
    by None is = ap is_some is ∙ sym (ap is_some (none-local (sym is)))
    by (Some number) is = some-place number (last_place name (names_in_scope locals)) is
