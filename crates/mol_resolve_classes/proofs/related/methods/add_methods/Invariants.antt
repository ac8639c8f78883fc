use Rattle.std.proofs.Common.{◌≡◌, ◌++◌, map, take}
use Rattle.mol_resolve_members.specs.members.Rows.{kept_row}
use Rattle.mol_resolve_classes.specs.related.Compared.{header_of_declaration, methods_in}
use Rattle.mol_resolve_classes.specs.related.Tables.{AreNumbered}
use Rattle.mol_resolve_classes.proofs.related.methods.add_methods.Given as goal

abbrev pub invariant-loop-row : goal.invariant-loop-row
invariant-loop-row l = record {
  methods : map header_of_declaration l.methods.items
      ≡ map header_of_declaration l.fn.methods.items ++ methods_in (map kept_row (take l.row-index l.rows));
  numbered : AreNumbered l.methods.items;
}
