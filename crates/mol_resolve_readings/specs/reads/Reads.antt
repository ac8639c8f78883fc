-- What a tree comes to as it is read: its value, and the first of the faults that were noted.
use Rattle.std.specs.Prelude.{◌≡◌, ℕ, Option}
use Rattle.jav_tree.specs.declared.expr.Expr.{Expr}
use Rattle.jav_names.specs.DottedNames.{Dotted}
use Rattle.jav_names.specs.UnitViews.{MemberKey}
use Rattle.mol_resolve_faults.specs.First.{all_noted}
use Rattle.mol_resolve_rules.specs.Outcomes.{TreeFault, Outcome}
use Rattle.mol_resolve_rules.specs.Readers.{Reader}
use Rattle.mol_resolve_rules.specs.ReadTrees.{reading}

-- a value that is that of the outcome, and the first fault after those of the outcome, where `before` was the first so far
pub record Reads {A : Type 0} (outcome : Outcome A) (value : Option A) (before after : Option TreeFault) : Type 0 where
  pub value_read : value ≡ outcome.value
  pub faults_noted : after ≡ all_noted before outcome.faults

-- the names that an expression is
abbrev pub names_of : Reader ℕ MemberKey → Expr → Option Dotted
names_of reader e = (reading reader e).names
