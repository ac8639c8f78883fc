-- Which classes of files have which faults.
use Rattle.std.specs.Prelude.{◌≡◌, Bool, if◌then◌else◌, List, length, map, Option}
use Rattle.std.specs.List.{range_with_len}
use Rattle.jav_scope.specs.Entries.{view_in}
use Rattle.jav_scope.specs.declared.source.SourceUnit.{SourceUnit}
use Rattle.jav_names.specs.LookUps.{is_in_circle}
use Rattle.mol_resolve_classes.specs.headers.Headers.{failing}
use Rattle.mol_resolve_faults.specs.First.{noted}
use Rattle.mol_resolve_rules.specs.FaultKinds as kind
use Rattle.mol_resolve_rules.specs.FaultKinds.{FaultKind}
use Rattle.mol_resolve_rules.specs.Outcomes.{TreeFault}

-- Of each file whether its class has the same full name as another, whether that name is a package, and whether its superclasses lead
-- back to it.
pub record AreFaulty (sources : List SourceUnit) (doubles packages circles : List Bool) : Type 0 where
  pub doubles_are : doubles ≡ failing kind.duplicate_class sources
  pub packages_are : packages ≡ failing kind.package_is_class sources
  pub circles_are : circles ≡ map (is_in_circle (view_in sources)) (range_with_len 0 (length sources))

-- the first fault, with one of this kind at the beginning of the file where there is such a one
abbrev pub note_if : Bool → FaultKind → Option TreeFault → Option TreeFault
note_if is kind first = if is then noted first (record { kind = kind; at = 0 }) else first
