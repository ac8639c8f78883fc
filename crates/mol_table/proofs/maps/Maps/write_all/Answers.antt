use Rattle.std.proofs.Common.{◌≡◌, ◌≤◌, ◌<◌, ◌∙◌, ◌∷◌, ap, subst, arith, length}
use mathlib.Core.Logic.{inl}
use Rattle.std.specs.Vec.Iter.{into_iter_items}
use Rattle.indexmap.specs.IndexMap.{spare}
use Rattle.mol_table.specs.Maps.{program_in}
use Rattle.mol_table_rules.specs.Room.{names_in, names_among}
use Rattle.mol_table_rules.specs.Program.{cell}
use Rattle.mol_table_rules.specs.Writes.{with_value, with_values}
use Rattle.mol_table.proofs.maps.Maps.write_all.Goals as goal

pub write-requires-clause-cell : goal.write-requires-clause-cell
write-requires-clause-cell c =
    let room = subst (λ vs. length vs ≤ spare c.loop-value.self.cells) c.in-Some.ensures.steps.0 c.loop-value.invariant.cells_room in
    let some : 0 < spare c.loop-value.self.cells = omega (arith, room) in
    inl some

pub write-requires-clause-names : goal.write-requires-clause-names
write-requires-clause-names c =
    let room = subst (λ vs. names_among vs ≤ spare c.loop-value.self.known) c.in-Some.ensures.steps.0 c.loop-value.invariant.known_room in
    let some : names_in c.in-Some.value ≤ spare c.loop-value.self.known = omega (arith, room) in
    inl some

pub loop-value-preserved : goal.loop-value-preserved
loop-value-preserved c =
    let id = c.args.id.now in
    let value = c.in-Some.value in
    let old = c.loop-value in
    let i = c.loop-value.invariant in
    let rest = into_iter_items c.next.new.self in
    let was : into_iter_items old.value-iterator ≡ value ∷ rest = c.in-Some.ensures.steps.0 in
    let cells_room = subst (λ vs. length vs ≤ spare old.self.cells) was i.cells_room in
    let known_room = subst (λ vs. names_among vs ≤ spare old.self.known) was i.known_room in
    let lengths = ap length was in
    let names = ap names_among was in
    record {
      program = ap (λ p. with_values p id rest) (c.write.ensures.program ∙ ap (λ s. with_value (program_in old.self) (cell id s) value) c.slot.ensures)
          ∙ subst (λ vs. with_values (program_in old.self) id vs ≡ with_values (program_in c.args.self.now) id c.args.values.items) was i.program;
      starts = λ ids starts. c.write.ensures.starts ids (i.starts ids starts);
      count = omega (arith, names, i.count, c.write.ensures.count);
      cells_room = omega (arith, cells_room, c.write.ensures.cells_room);
      known_room = omega (arith, known_room, c.write.ensures.known_room);
      cells_used = omega (arith, lengths, i.cells_used, c.write.ensures.cells_room);
      known_used = omega (arith, names, i.known_used, c.write.ensures.known_room);
      rest = c.write.ensures.rest ∙ i.rest;
    }
