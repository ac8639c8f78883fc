use Rattle.std.proofs.Common.{◌≡◌, ◌∙◌, List, sym, subst, false}
use Rattle.std.specs.List.{list_any}
use Rattle.mol_base.specs.declared.ident.Id.{Id}
use Rattle.mol_table_rules.specs.Program.{same_id}
use Rattle.mol_values_types.proofs.Ties.{any_tied}
use Rattle.mol_scope_classes.specs.hierarchy.Placed.{IsLine}
use Rattle.mol_scope_classes.proofs.hierarchy_lemmas.LinesNoted.{noted-placed, noted-line, noted-kept, noted-new}
use Rattle.mol_scope_classes.proofs.hierarchy.forest.Forest.note.Goals as goal

pub loop-below-preserved : goal.loop-below-preserved
loop-below-preserved c =
    let program = c.args.table.now in
    let numbers = c.loop-below.self.numbers.entries in
    let places = c.loop-below.self.places.items in
    let class : Id = c.args.class.now in
    let below : Id = c.in-Some.below in
    let above = c.loop-below.above in
    let keys : List Id = c.loop-below.classes.keys in
    let rest : List Id = c.pop.new.self.keys in
    let new_numbers = c.add_below.new.self.numbers.entries in
    let new_places = c.add_below.new.self.places.items in
    let was = c.loop-below.invariant in
    let apart : list_any (same_id below) rest ≡ false = sym (any_tied (λ x. x) below rest) ∙ c.in-Some.ensures.updates.1 in
    let adds = c.in_ok-above.ensures.added in
    record {
      placed = noted-placed program numbers places class below above keys rest c.in-Some.ensures.keys apart was.line was.unplaced
          new_numbers new_places adds was.placed;
      line = subst (IsLine program new_numbers class rest) (sym c.in_ok-above.ensures.number)
          (noted-line program numbers places class below above keys rest c.in-Some.ensures.keys apart was.line was.unplaced
          new_numbers new_places adds);
      unplaced = noted-new program numbers places class below above keys rest c.in-Some.ensures.keys apart was.line was.unplaced
          new_numbers new_places adds;
      kept = λ x had. noted-kept program numbers places class below above keys rest c.in-Some.ensures.keys apart was.line was.unplaced
          new_numbers new_places adds x (was.kept x had);
    }
