use Rattle.std.proofs.Common.{◌≡◌, List, ap, arith, length, map, subst}
use Rattle.std.specs.Prelude.{IfSome}
use Rattle.jav_scope.specs.declared.source.SourceUnit.{SourceUnit}
use Rattle.mol_resolve_members.specs.sources.Sources.{files_of}
use Rattle.mol_resolve_rules.specs.ResolveFaults.{rows}
use Rattle.mol_resolve_classes.specs.related.Compared.{header_of_declaration, methods_in}
use Rattle.mol_resolve_classes.specs.related.Tables.{AreKeptOf}
use Rattle.mol_resolve_classes.proofs.related.related.Related.new.Goals as goal

pub classes_of-requires : goal.classes_of-requires
classes_of-requires c = omega (arith, c.in_ok-count.ensures.ok, c.requires.count, ap length c.requires.same)

pub methods_if_deep-requires : goal.methods_if_deep-requires
methods_if_deep-requires c = omega (arith, c.in_ok-count.ensures.ok, c.requires.count, ap length c.requires.same)

pub invariant_of-result : goal.invariant_of-result
invariant_of-result c = record {
  same = c.requires.same;
  size = omega (arith, c.in_ok-classes.ensures.size, c.in_ok-count.ensures.ok, c.requires.count);
  kept = subst (λ (all : List SourceUnit). AreKeptOf all c.in_ok-classes.classes.items) c.requires.same c.in_ok-classes.ensures.kept;
  methods = subst (λ (all : List SourceUnit). IfSome c.in_ok-methods.methods
      (λ methods. map header_of_declaration methods ≡ methods_in (rows (files_of all)))) c.requires.same c.in_ok-methods.ensures;
}
