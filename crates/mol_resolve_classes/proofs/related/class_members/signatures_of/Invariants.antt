use Rattle.std.proofs.Common.{◌≡◌, map, take}
use Rattle.mol_resolve_members.specs.members.Rows.{kept_row}
use Rattle.mol_resolve_classes.specs.related.Compared.{seen_row, seen_signature}
use Rattle.mol_resolve_classes.proofs.related.class_members.signatures_of.Given as goal

abbrev pub invariant-loop-row : goal.invariant-loop-row
invariant-loop-row l = map seen_signature l.signatures.items ≡ map seen_row (map kept_row (take l.row-index l.rows))
