use Rattle.std.proofs.Common.{sym, ◌∙◌, arith, ℕ, List}
use Rattle.mol_base.proofs.LineCounts.{line-first, column-first, line-ends, line-same, column-ends, column-begins, column-same}
use Rattle.mol_base.proofs.lines.line_and_column.Goals as goal
use Rattle.mol_base.proofs.lines.line_and_column.Goals.{then-ends_line, else-ends_line+then-begins_character, else-ends_line+else-begins_character}

pub loop-place-init : goal.loop-place-init
loop-place-init c = record {
  line = sym (line-first c.args.bytes.now);
  column = sym (column-first c.args.bytes.now);
  line_room = omega arith;
  column_room = omega arith;
}

pub loop-place-preserved : goal.loop-place-preserved
loop-place-preserved c =
    let bytes : List ℕ = c.args.bytes.now in
    let at : ℕ = c.loop-place.place in
    elim c.if-ends_line.branch [
      | then-ends_line w ↦ let ends = sym c.ends_line.ensures ∙ w.if-ends_line.true in record {
        line = omega (arith, line-ends bytes at ends, w.line-is, c.loop-place.invariant.line);
        column = omega (arith, column-ends bytes at ends, w.column-is);
        line_room = omega arith;
        column_room = omega arith;
      }
      | else-ends_line+then-begins_character w ↦ let goes = sym c.ends_line.ensures ∙ w.if-ends_line.false in
          let begins = sym w.begins_character.ensures ∙ w.if-begins_character.true in record {
            line = omega (arith, line-same bytes at goes, w.line-is, c.loop-place.invariant.line);
            column = omega (arith, column-begins bytes at goes begins, w.column-is, c.loop-place.invariant.column);
            line_room = omega arith;
            column_room = omega arith;
          }
      | else-ends_line+else-begins_character w ↦ let goes = sym c.ends_line.ensures ∙ w.if-ends_line.false in
          let same = sym w.begins_character.ensures ∙ w.if-begins_character.false in record {
            line = omega (arith, line-same bytes at goes, w.line-is, c.loop-place.invariant.line);
            column = omega (arith, column-same bytes at goes same, w.column-is, c.loop-place.invariant.column);
            line_room = omega arith;
            column_room = omega arith;
          }
    ]
