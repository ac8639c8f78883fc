use Rattle.std.proofs.Common.{◌≡◌, ◌≢◌, ◌≤◌, ◌∙◌, ◌∷◌, [], List, sym, ap, subst, arith, length}
use Rattle.std.specs.List.{AllByRecursion}
use Rattle.std.specs.Vec.Iter.{into_iter_items}
use Rattle.indexmap.specs.IndexMap.{spare}
use Rattle.mol_table.specs.Maps.{program_in}
use Rattle.mol_table_rules.specs.Room.{values_in, names_of, AreFresh, AreApart}
use Rattle.mol_table_rules.specs.Program.{Program}
use Rattle.mol_table_rules.specs.Writes.{with_entity, with_entities}
use Rattle.mol_table_rules.specs.declared.entity.NewEntity.{NewEntity}
use Rattle.mol_table_rules.proofs.Living.{entity-elsewhere}
use Rattle.mol_table.proofs.maps.Maps.put_entities.Goals as goal

still-fresh : (program : Program) (entity : NewEntity) (rest : List NewEntity) → AllByRecursion (λ (other : NewEntity). entity.id ≢ other.id) rest
    → AreFresh program.known rest → AreFresh (with_entity program entity).known rest
still-fresh program entity [] apart fresh = tt {0}
still-fresh program entity (other ∷ rest) apart fresh = (
  entity-elsewhere program entity other.id (λ same. apart.0 (sym same)) ∙ fresh.0,
  still-fresh program entity rest apart.1 fresh.1,
)

pub put_entity-requires-clause-cells : goal.put_entity-requires-clause-cells
put_entity-requires-clause-cells c =
    let room = subst (λ es. values_in es ≤ spare c.loop-entity.self.cells) c.in-Some.ensures.steps.0 c.loop-entity.invariant.cells in
    omega (arith, room)

pub put_entity-requires-clause-names : goal.put_entity-requires-clause-names
put_entity-requires-clause-names c =
    let room = subst (λ es. names_of es ≤ spare c.loop-entity.self.known) c.in-Some.ensures.steps.0 c.loop-entity.invariant.names in
    omega (arith, room)

pub put_entity-requires-clause-living : goal.put_entity-requires-clause-living
put_entity-requires-clause-living c =
    let room = subst (λ es. length es ≤ spare c.loop-entity.self.living) c.in-Some.ensures.steps.0 c.loop-entity.invariant.living in
    omega (arith, room)

pub put_entity-requires-clause-fresh : goal.put_entity-requires-clause-fresh
put_entity-requires-clause-fresh c =
    (subst (AreFresh (program_in c.loop-entity.self).known) c.in-Some.ensures.steps.0 c.loop-entity.invariant.fresh).0

pub loop-entity-preserved : goal.loop-entity-preserved
loop-entity-preserved c =
    let entity = c.in-Some.entity in
    let i = c.loop-entity.invariant in
    let old = c.loop-entity.self in
    let rest = into_iter_items c.next.new.self in
    let was : into_iter_items c.loop-entity.entity-iterator ≡ entity ∷ rest = c.in-Some.ensures.steps.0 in
    let differ = subst AreApart was i.differ in
    let fresh = subst (AreFresh (program_in old).known) was i.fresh in
    let cells = subst (λ es. values_in es ≤ spare old.cells) was i.cells in
    let names = subst (λ es. names_of es ≤ spare old.known) was i.names in
    let living = subst (λ es. length es ≤ spare old.living) was i.living in
    record {
      program = ap (λ p. with_entities p rest) c.put_entity.ensures.program
          ∙ subst (λ es. with_entities (program_in old) es ≡ with_entities (program_in c.args.self.now) c.args.entities.items) was i.program;
      counted = c.put_entity.ensures.counted;
      starts = λ ids starts. c.put_entity.ensures.starts ids (i.starts ids starts);
      count = omega (arith, ap names_of was, i.count, c.put_entity.ensures.count);
      fresh = subst (λ (p : Program). AreFresh p.known rest) (sym c.put_entity.ensures.program) (still-fresh (program_in old) entity rest differ.0 fresh.1);
      differ = differ.1;
      cells = omega (arith, cells, c.put_entity.ensures.cells_room);
      names = omega (arith, names, c.put_entity.ensures.known_room);
      living = omega (arith, living, c.put_entity.ensures.living_room);
    }
