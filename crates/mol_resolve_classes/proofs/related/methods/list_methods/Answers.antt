use Rattle.std.proofs.Common.{◌++◌, ◌<◌, List, length, map, flat_map, ◌∙◌, sym, ap, subst, arith, refl}
use Rattle.std.proofs.lemmas.List.{take_all}
use Rattle.jav_scope.specs.declared.source.SourceUnit.{SourceUnit}
use Rattle.jav_names.specs.UnitViews.{numbered}
use Rattle.mol_resolve_members.specs.members.Tables.{rows_at}
use Rattle.mol_resolve_rules.proofs.Stands.{get-below}
use Rattle.mol_resolve_classes.specs.related.Compared.{header_of_declaration, methods_in}
use Rattle.mol_resolve_classes.specs.related.Tables.{AreNumbered}
use Rattle.mol_resolve_classes.proofs.related_lemmas.MethodsIn.{class-more, rows-of_sources}
use Rattle.mol_resolve_classes.proofs.related.methods.list_methods.Goals as goal

pub loop-unit-init : goal.loop-unit-init
loop-unit-init c = record {
  methods = ap (map header_of_declaration) c.new-methods.ensures.items;
  numbered = subst AreNumbered (sym c.new-methods.ensures.items) refl;
}

pub of_file-rows-requires : goal.of_file-rows-requires
of_file-rows-requires c = omega (arith, c.loop-unit-test.true, c.requires)

pub loop-unit-preserved : goal.loop-unit-preserved
loop-unit-preserved c =
    let sources = c.args.members.now in
    let unit = c.loop-unit.unit in
    let inside : unit < length sources = omega (arith, c.loop-unit-test.true, c.requires) in
    let source = get-below sources unit inside in
    record {
      methods = c.in_ok-add_methods.ensures.methods
          ∙ (λ i. c.loop-unit.invariant.methods i ++ methods_in (c.of_file-rows.ensures source.0 source.1 i))
          ∙ sym (class-more sources unit source.0 inside source.1);
      numbered = c.in_ok-add_methods.ensures.numbered;
    }

pub returns-clause-methods : goal.returns-clause-methods
returns-clause-methods c =
    let sources = c.args.members.now in
    c.loop-unit.invariant.methods
    ∙ ap (λ (taken : List SourceUnit). methods_in (flat_map (rows_at sources) (numbered taken)))
    (take_all c.loop-unit.unit sources (omega (arith, c.loop-unit-test.false, c.requires)))
    ∙ ap methods_in (rows-of_sources sources)
