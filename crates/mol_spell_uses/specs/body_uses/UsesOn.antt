-- What statements add to what is used, and the locals after them.
use Rattle.std.specs.Prelude.{◌≡◌, ◌++◌, List, length, take}
use Rattle.mol_base.specs.declared.ident.Id.{Id}
use Rattle.mol_resolve_rules.specs.Locals.{Locals}
use Rattle.mol_spell_rules.specs.SpelledStatements.{Spells}
use Rattle.mol_spell_rules.specs.Writers.{Use}
use Rattle.mol_spell_uses.specs.uses.Uses.{uses_of}

-- A part is gone through from these locals and uses to those. The locals that were in scope stay so, before those that are declared.
pub record UsesOn {A : Type 0} (part : Spells A) (locals : Locals Id) (uses : List Use) (after : Locals Id) (more : List Use) : Type 0 where
  pub are_added : more ≡ uses ++ uses_of (part locals).references
  pub are_declared : after ≡ (part locals).locals
  pub stay_in_scope : take (length locals.in_scope) after.in_scope ≡ locals.in_scope
