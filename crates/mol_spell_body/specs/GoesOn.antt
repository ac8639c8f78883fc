-- What statements come to as they are written: their trees, and the locals after them.
use Rattle.std.specs.Prelude.{◌≡◌, length, take}
use Rattle.mol_base.specs.declared.ident.Id.{Id}
use Rattle.mol_resolve_rules.specs.Locals.{Locals}
use Rattle.mol_spell_rules.specs.SpelledStatements.{Spells}

-- Those locals that were in scope before stay in scope, before those that are declared.
pub record GoesOn {A : Type 0} (part : Spells A) (tree : A) (locals after : Locals Id) : Type 0 where
  pub is_written : tree ≡ (part locals).tree
  pub are_declared : after ≡ (part locals).locals
  pub stay_in_scope : take (length locals.in_scope) after.in_scope ≡ locals.in_scope
