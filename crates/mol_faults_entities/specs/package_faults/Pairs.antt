-- Pairs of classes, the second in a package that is the first or in it.
use Rattle.std.specs.Prelude.{◌↔◌, List, [], filter_map, Contains, Option, Some, None, cond}
use Rattle.jav_names.specs.DottedNames.{Name}
use Rattle.mol_base.specs.declared.ident.Id.{Id}
use Rattle.mol_spell_rules.specs.FaultList.{Fault, package_is_class}
use Rattle.mol_spell_rules.specs.NameFaults.{PackageIsClass}
use Rattle.mol_table_rules.specs.Program.{Program}
use Rattle.mol_table_rules.specs.Renumber.{is_living_class}
use Rattle.mol_faults_entities.specs.package_faults.Packages.{begins, dotted_name}
use Rattle.mol_faults_entities.specs.declared.package_faults.inside.Inside.{Inside}
use Rattle.mol_faults_entities.specs.declared.package_faults.package_rows.PackageRow.{PackageRow}

-- a class of this dotted name, and a class whose dotted package this begins
abbrev pub inside_of : Id → Name → PackageRow → Option Inside
inside_of class name row = cond (begins name row.dotted) (Some (record { class = class; inside = row.class })) None

-- the pairs of a class, if it lives
abbrev pub pairs_at : Program → List PackageRow → Id → List Inside
pairs_at program rows id = cond (is_living_class program id) (filter_map (inside_of id (dotted_name program id)) rows) []

-- These are all pairs of the program.
abbrev pub HasPairs : Program → List Inside → Type 0
HasPairs program pairs = (pair : Inside) → Contains pairs pair ↔ PackageIsClass program pair.class pair.inside

abbrev pub fault_of : Inside → Fault
fault_of pair = package_is_class pair.class pair.inside
