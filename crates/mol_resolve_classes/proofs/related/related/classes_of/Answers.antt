use Rattle.std.proofs.Common.{◌+◌, ◌∷◌, ◌<◌, [], List, length, ◌∙◌, sym, ap, subst, arith, length-append}
use Rattle.mol_resolve_faults.specs.beside.Classes.{rows_of}
use Rattle.mol_resolve_members.specs.sources.Sources.{files_of}
use Rattle.mol_resolve_rules.proofs.Stands.{get-below}
use Rattle.mol_resolve_classes.specs.related.Compared.{AreKept}
use Rattle.mol_resolve_classes.specs.related.Tables.{AreKeptOf}
use Rattle.mol_resolve_classes.specs.declared.related.class_members.ClassMembers.{ClassMembers}
use Rattle.mol_resolve_classes.proofs.related_lemmas.ClassRows.{in-order, kept-more, none-kept, rows-are}
use Rattle.mol_resolve_classes.proofs.related.related.classes_of.Goals as goal

pub loop-unit-init : goal.loop-unit-init
loop-unit-init c =
    let sources = c.args.members.now in
    record {
      size = ap length c.new-classes.ensures.items;
      kept = subst (λ (all : List ClassMembers). AreKeptOf sources all) (sym c.new-classes.ensures.items) (none-kept sources);
    }

pub of_file-rows-requires : goal.of_file-rows-requires
of_file-rows-requires c = omega (arith, c.loop-unit-test.true, c.requires)

pub new-requires : goal.new-requires
new-requires c =
    let sources = c.args.members.now in
    let unit = c.loop-unit.unit in
    let inside : unit < length sources = omega (arith, c.loop-unit-test.true, c.requires) in
    let source = get-below sources unit inside in
    in-order sources unit source.0 source.1 c.of_file-rows.result.now (c.of_file-rows.ensures source.0 source.1)

pub loop-unit-preserved : goal.loop-unit-preserved
loop-unit-preserved c =
    let sources = c.args.members.now in
    let unit = c.loop-unit.unit in
    let classes = c.loop-unit.classes.items in
    let next = c.in_ok-of_class.of_class in
    let inside : unit < length sources = omega (arith, c.loop-unit-test.true, c.requires) in
    let source = get-below sources unit inside in
    let kept = subst (AreKept next)
    (c.of_file-rows.ensures source.0 source.1 ∙ rows-are sources unit source.0 source.1
    ∙ ap (rows_of (files_of sources)) (sym c.loop-unit.invariant.size)) c.in_ok-of_class.ensures in
    record {
      size = ap length c.in_ok-push.ensures.items ∙ length-append classes (next ∷ []) ∙ ap (λ n. n + 1) c.loop-unit.invariant.size;
      kept = subst (λ (all : List ClassMembers). AreKeptOf sources all) (sym c.in_ok-push.ensures.items)
          (kept-more sources classes next c.loop-unit.invariant.kept kept);
    }
