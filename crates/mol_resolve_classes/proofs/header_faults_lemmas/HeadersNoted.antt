-- The faults that the header of a file shows are five tests, one after the other.
use Rattle.std.proofs.Common.{◌≡◌, ℕ, Bool, true, false, cond, List, [], ◌∷◌, filter, Option, refl, ◌∙◌}
use Rattle.mol_resolve_faults.specs.First.{all_noted}
use Rattle.mol_resolve_classes.specs.header_faults.FaultyClasses.{note_if}
use Rattle.mol_resolve_rules.specs.FaultKinds.{FaultKind, every_kind, path_differs, duplicate_class, package_is_class, super_cycle, import_clash}
use Rattle.mol_resolve_rules.specs.FaultLists.{at_place, has_fault}
use Rattle.mol_resolve_rules.specs.Files.{File, Files}
use Rattle.mol_resolve_rules.specs.Outcomes.{TreeFault}

step : (is : Bool) (kind : FaultKind) (rest : List FaultKind) (first : Option TreeFault)
    → all_noted first (at_place 0 (cond is (kind ∷ rest) rest)) ≡ all_noted (note_if is kind first) (at_place 0 rest)
step true kind rest first = refl
step false kind rest first = refl

module _ (files : Files) (file : ℕ × File) (first : Option TreeFault) where
  abbrev has : FaultKind → Bool
  has = has_fault files file

  abbrev left : List FaultKind → List FaultKind
  left = filter has

  pub headers-noted : all_noted first (at_place 0 (filter has every_kind))
      ≡ note_if (has import_clash) import_clash (note_if (has super_cycle) super_cycle (note_if (has package_is_class) package_is_class
      (note_if (has duplicate_class) duplicate_class (note_if (has path_differs) path_differs first))))
  headers-noted =
      let one = note_if (has path_differs) path_differs first in
      let two = note_if (has duplicate_class) duplicate_class one in
      let three = note_if (has package_is_class) package_is_class two in
      let four = note_if (has super_cycle) super_cycle three in
      step (has path_differs) path_differs (left (duplicate_class ∷ package_is_class ∷ super_cycle ∷ import_clash ∷ [])) first
      ∙ step (has duplicate_class) duplicate_class (left (package_is_class ∷ super_cycle ∷ import_clash ∷ [])) one
      ∙ step (has package_is_class) package_is_class (left (super_cycle ∷ import_clash ∷ [])) two
      ∙ step (has super_cycle) super_cycle (left (import_clash ∷ [])) three
      ∙ step (has import_clash) import_clash [] four
