use Rattle.std.proofs.Common.{◌≡◌, map}
use Rattle.mol_resolve_classes.specs.related.Compared.{header_of_declaration, methods_in}
use Rattle.mol_resolve_classes.specs.related.Tables.{AreNumbered}
use Rattle.mol_resolve_classes.proofs.related_lemmas.MethodsIn.{rows_to}
use Rattle.mol_resolve_classes.proofs.related.methods.list_methods.Given as goal

abbrev pub invariant-loop-unit : goal.invariant-loop-unit
invariant-loop-unit l = record {
  methods : map header_of_declaration l.methods.items ≡ methods_in (rows_to l.members l.unit);
  numbered : AreNumbered l.methods.items;
}
