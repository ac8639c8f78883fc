-- Two classes that extend each other.
use Rattle.std.proofs.Common.{◌≡◌, ℕ, List, [], ◌∷◌, Some, codes, refl, ap, arith}
use Rattle.jav_tree.specs.declared.unit.Unit.{Unit as Source}
use Rattle.jav_names.specs.Ancestors.{Extends, last_step, step}
use Rattle.jav_names.specs.UnitViews.{MemberKey, class_of, classes_of, header_of}
use Rattle.jav_names.specs.Views.{class_type, View}
use Rattle.jav_names.proofs.ExampleFiles.{named, file, with_superclasses, view-seen}
use Rattle.jav_names.proofs.WrittenTypes.{type_in-Named}
use Rattle.mol_resolve_rules.specs.FaultKinds.{super_cycle}
use Rattle.mol_resolve_rules.specs.Files.{Files, files_view}
use Rattle.mol_resolve_rules.specs.ResolveFaults.{Fails, by_superclass}
use Rattle.mol_resolve_rules.proofs.ExampleShop.{file_at}

-- `k.A` extends `B`, and `k.B` extends `A`
abbrev a : Source
a = file "k" [] "A" (Some (named "B")) []

abbrev b : Source
b = file "k" [] "B" (Some (named "A")) []

abbrev both : List Source
both = a ∷ b ∷ []

abbrev circle : Files
circle = file_at "k/A.java" a ∷ file_at "k/B.java" b ∷ []

seen : files_view circle ≡ with_superclasses both (Some (class_type 1) ∷ Some (class_type 0) ∷ [])
seen = view-seen both (Some (class_type 1) ∷ Some (class_type 0) ∷ [])
    (λ i. Some (type_in-Named (classes_of both) (header_of (0, a)) (codes "B") i)
    ∷ Some (type_in-Named (classes_of both) (header_of (1, b)) (codes "A") i) ∷ [])

a_extends : Extends (files_view circle) 0 1
a_extends = record {
  named = ap (λ (view : View ℕ MemberKey). view.superclass 0) seen;
  stands = record { class = class_of (1, b); stands = (1, omega arith, refl); is = refl };
}

b_extends : Extends (files_view circle) 1 0
b_extends = record {
  named = ap (λ (view : View ℕ MemberKey). view.superclass 1) seen;
  stands = record { class = class_of (0, a); stands = (0, omega arith, refl); is = refl };
}

-- a fault of each of them, at the beginning of its file
circle_of_a : Fails circle super_cycle 0 0
circle_of_a = by_superclass (step a_extends (last_step b_extends))

circle_of_b : Fails circle super_cycle 1 0
circle_of_b = by_superclass (step b_extends (last_step a_extends))
