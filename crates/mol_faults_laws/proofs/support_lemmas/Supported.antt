-- Each kind of fault but misread names: where the part holds what it rests on, the part has it too, or is not clean by another one.
use Rattle.std.proofs.Common.{true≢false}
use Rattle.mol_faults_laws.proofs.support_lemmas.AddressesHeld.{same-address-held}
use Rattle.mol_faults_laws.proofs.support_lemmas.ApartHeld.{apart-held}
use Rattle.mol_faults_laws.proofs.support_lemmas.MissingHeld.{missing-held}
use Rattle.mol_faults_laws.proofs.support_lemmas.NamesHeld.{local-clash-held, outside-name-held, package-held}
use Rattle.mol_faults_laws.proofs.support_lemmas.OverridesHeld.{false-override-held}
use Rattle.mol_faults_laws.specs.support.Laws.{FaultsSupported, HoldSupport, IsPart, is_misread}
use Rattle.mol_spell_rules.specs.Clean.{Clean}
use Rattle.mol_spell_rules.specs.FaultList.{Fault, IsFault, apart, by_absence, by_address, by_local, by_outside_name, by_override, by_package, by_place, false_override, local_clash, misread, missing, outside_name, package_is_class, same_address}
use Rattle.mol_table_rules.specs.Program.{Program}
use Rattle.mol_table_rules.specs.Rules.{IsProgram}
use Rattle.std.specs.Prelude.{◌≡◌, false}

module _ (whole part : Program) (rules : IsProgram whole) (own : IsProgram part) (parts : IsPart whole part) where
  not-clean : (fault : Fault) → IsFault whole fault → is_misread fault ≡ false → HoldSupport whole part fault → Clean part → ⊥
  not-clean (same_address first second) (by_address h) plain holds clean =
      clean.addresses first second (same-address-held whole part rules own parts first second h holds)
  not-clean (false_override first second) (by_override h) plain holds clean =
      clean.overrides first second (false-override-held whole part rules own parts first second h holds)
  not-clean (apart method) (by_place h) plain holds clean =
      clean.together method (apart-held whole part rules own parts clean method holds h)
  not-clean (outside_name method) (by_outside_name h) plain holds clean =
      clean.names method (outside-name-held whole part rules own parts method h holds)
  not-clean (missing at target) (by_absence h) plain holds clean = missing-held whole part rules own parts clean at target holds h
  not-clean (misread at number target) fault plain holds clean = true≢false plain
  not-clean (local_clash at name) (by_local h) plain holds clean =
      clean.locals at name (local-clash-held whole part rules own parts at name h holds)
  not-clean (package_is_class class inside) (by_package h) plain holds clean =
      clean.packages class inside (package-held whole part rules own parts class inside h holds)

pub faults_supported : FaultsSupported
faults_supported = record {
  supported = λ whole part fault rules own parts is plain holds. not-clean whole part rules own parts fault is plain holds;
}
