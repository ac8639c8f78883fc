-- Which references of statements are noted, and the locals after them.
use Rattle.std.specs.Prelude.{◌≡◌, length, take}
use Rattle.mol_base.specs.declared.ident.Id.{Id}
use Rattle.mol_faults_expr.specs.Noted.{Noted, noted_after}
use Rattle.mol_resolve_rules.specs.Locals.{Locals}
use Rattle.mol_spell_rules.specs.SpelledStatements.{Spells}
use Rattle.mol_spell_rules.specs.Writers.{Writer}

-- A part is gone through from these locals and what is noted, to those and that. The locals that were in scope stay so, before those that
-- are declared.
pub record NotedOn (writer : Writer) {A : Type 0} (part : Spells A) (locals : Locals Id) (noted : Noted) (after : Locals Id) (more : Noted)
    : Type 0 where
  pub are_noted : more ≡ noted_after writer noted (part locals).references
  pub are_declared : after ≡ (part locals).locals
  pub stay_in_scope : take (length locals.in_scope) after.in_scope ≡ locals.in_scope
