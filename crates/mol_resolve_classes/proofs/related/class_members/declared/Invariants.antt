use Rattle.std.proofs.Common.{◌≡◌, filter, map, take}
use Rattle.mol_resolve_members.specs.members.Rows.{kept_row}
use Rattle.mol_resolve_classes.specs.signatures.Repeats.{kind_of}
use Rattle.mol_resolve_classes.specs.related.Compared.{is_kind, seen_declaration, seen_declared}
use Rattle.mol_resolve_classes.proofs.related.class_members.declared.Given as goal

abbrev pub invariant-loop-row : goal.invariant-loop-row
invariant-loop-row l = map seen_declaration l.declared.items
    ≡ map seen_declared (filter (is_kind (kind_of l.kind)) (map kept_row (take l.row-index l.rows)))
