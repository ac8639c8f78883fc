use Rattle.std.proofs.Common.{List, map, length, ◌∙◌, ap}
use Rattle.std.specs.List.{range_with_len}
use Rattle.jav_scope.specs.Entries.{view_in}
use Rattle.jav_scope.specs.declared.source.SourceUnit.{SourceUnit}
use Rattle.jav_names.specs.LookUps.{is_in_circle}
use Rattle.mol_resolve_classes.proofs.header_faults.header_faults.HeaderFaults.new.Goals as goal

pub invariant_of-result : goal.invariant_of-result
invariant_of-result c = record {
  doubles_are = c.in_ok-doubles.ensures;
  packages_are = c.in_ok-packages.ensures;
  circles_are = c.in_ok-circles.ensures
      ∙ ap (λ (all : List SourceUnit). map (is_in_circle (view_in all)) (range_with_len 0 (length all))) c.requires;
}
