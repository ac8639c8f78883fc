-- What statements come to as they are read: their value, the first of the faults that were noted, and the locals after them.
use Rattle.std.specs.Prelude.{◌≡◌, ℕ, length, take, Option}
use Rattle.mol_resolve_readings.specs.reads.Reads.{Reads}
use Rattle.mol_resolve_rules.specs.Locals.{Locals}
use Rattle.mol_resolve_rules.specs.Outcomes.{TreeFault}
use Rattle.mol_resolve_rules.specs.ReadStatements.{ReadOn}

-- Those locals that were in scope before stay in scope, before those that are declared.
pub record GoesOn {A : Type 0} (part : ReadOn ℕ A) (value : Option A) (locals after : Locals ℕ)
    (first next : Option TreeFault) : Type 0 where
  pub is_read : Reads part.outcome value first next
  pub are_declared : after ≡ part.locals
  pub stay_in_scope : take (length locals.in_scope) after.in_scope ≡ locals.in_scope
