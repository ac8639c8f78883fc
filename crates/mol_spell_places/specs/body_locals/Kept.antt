-- The locals of a body as the code keeps them.
use Rattle.std.specs.Prelude.{◌≡◌, ℕ, ◌<◌, List, length, map, refl}
use Rattle.std.specs.Coded.{Coded, code_by, coded×, coded_list, coded_ℕ}
use Rattle.std.specs.List.{All}
use Rattle.jav_names.specs.DottedNames.{Names}
use Rattle.mol_base.specs.declared.ident.Id.{Id}
use Rattle.mol_spell_places.specs.declared.body_locals.body_local.BodyLocal.{BodyLocal}
use Rattle.mol_resolve_rules.specs.Locals.{Local, Locals, names_in_scope}
use Rattle.mol_resolve_rules.specs.ProgramViews.{seen}

-- all that were declared, and the numbers of those in scope
pub record Kept : Type 0 where
  pub declared : List BodyLocal
  pub in_scope : List ℕ

abbrev pub kept_code : Coded BodyLocal → Coded Kept
kept_code locals = code_by (List BodyLocal × List ℕ) (coded× (coded_list locals) (coded_list coded_ℕ))
    (λ kept. (kept.declared, kept.in_scope)) (λ both. record { declared = both.0; in_scope = both.1 }) (λ _. refl)

abbrev pub local_of : BodyLocal → Local Id
local_of local = record { name = local.name.now; type = seen local.ty.now }

abbrev pub locals_of : Kept → Locals Id
locals_of kept = record { declared = map local_of kept.declared; in_scope = kept.in_scope }

-- Each local in scope was declared, and these are the names of those in scope.
pub record AreNamed (declared : List BodyLocal) (in_scope : List ℕ) (names : Names) : Type 0 where
  pub inside : All (λ number. number < length declared) in_scope
  pub are_names : names ≡ names_in_scope (locals_of (record { declared = declared; in_scope = in_scope }))
