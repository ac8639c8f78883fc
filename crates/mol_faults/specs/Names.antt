-- Misread names by where they stand.
use Rattle.std.specs.Prelude.{◌↔◌, ℕ, List, map, Contains}
use Rattle.std.specs.List.Sorted.{IsSorted}
use Rattle.std.specs.Ordering.{nat_cmp, on, then_cmp}
use Rattle.std.specs.declared.cmp.Ordering.{Ordering}
use Rattle.mol_base.specs.Order.{id_cmp}
use Rattle.mol_base.specs.declared.ident.Id.{Id}
use Rattle.mol_faults_misread.specs.declared.misread_faults.names.MisreadName.{MisreadName}
use Rattle.mol_faults_misread.specs.misread_faults.Found.{Found, IsMisread, kept_name}
use Rattle.mol_table_rules.specs.Program.{Program}
use Rattle.mol_values_types.specs.declared.cell.Cell.{Cell}

-- an entity, and the number of a name in one of its cells
pub record Place : Type 0 where
  pub entity : Id
  pub number : ℕ

abbrev pub place : Cell → ℕ → Place
place at number = record { entity = at.id; number = number }

abbrev pub place_of : MisreadName → Place
place_of name = place name.at name.misread.number

abbrev pub place_cmp : Place → Place → Ordering
place_cmp = then_cmp (on (λ place. place.entity) id_cmp) (on (λ place. place.number) nat_cmp)

abbrev pub names_cmp : MisreadName → MisreadName → Ordering
names_cmp = on place_of place_cmp

-- These are the names that are misread in the files of a program as it stands, sorted.
pub record AreNames (program : Program) (names : List MisreadName) : Type 0 where
  pub sorted : IsSorted names_cmp names
  pub each : (found : Found) → Contains (map kept_name names) found ↔ IsMisread program found
