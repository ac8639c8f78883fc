-- The view of source files: its order, and that the class of each file is one of it.
use Rattle.std.proofs.Common.{◌≡◌, ℕ, List, Contains, map, subst}
use Rattle.jav_tree.specs.declared.unit.Unit.{Unit as Source}
use Rattle.jav_names.specs.Laws.{UnitsViewed}
use Rattle.jav_names.specs.Types.{OwnStands}
use Rattle.jav_names.specs.UnitViews.{numbered, class_of, classes_of, header_of}
use Rattle.jav_names.proofs.Lists.{stands-mapped}
use Rattle.jav_names.proofs.UnitsOrdered.{view_of_ordered}

own-stands : (units : List Source) (unit : ℕ × Source) → Contains (numbered units) unit → OwnStands (classes_of units) (header_of unit)
own-stands units unit of-unit class is =
    let same : class_of unit ≡ class = cc in
    subst (Contains (map class_of (numbered units))) same (stands-mapped class_of (numbered units) unit of-unit)

pub units_viewed : UnitsViewed
units_viewed = record { ordered = view_of_ordered; own_classes = own-stands }
