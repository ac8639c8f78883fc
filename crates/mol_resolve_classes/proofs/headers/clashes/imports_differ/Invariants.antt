use Rattle.std.proofs.Common.{◌≡◌, false, Some, slice_get, take}
use Rattle.std.specs.List.{list_any}
use Rattle.jav_scope.specs.declared.source.SourceUnit.{SourceUnit}
use Rattle.mol_resolve_classes.specs.headers.Clashes.{differs}
use Rattle.mol_resolve_classes.proofs.headers.clashes.imports_differ.Given as goal

abbrev pub invariant-loop-import : goal.invariant-loop-import
invariant-loop-import l = (source : SourceUnit) → slice_get l.scope l.unit ≡ Some source
    → list_any (differs source.unit.imports) (take l.import-index l.imports) ≡ false
