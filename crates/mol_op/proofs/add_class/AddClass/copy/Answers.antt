use mathlib.Core.Bool.{Bool-set}
use mathlib.Core.HLevel.{is_prop→PathP}
use Rattle.std.proofs.Common.{true}
use Rattle.std.specs.Prelude.{IsTrue}
use Rattle.mol_op.proofs.add_class.AddClass.copy.Goals as goal
use Rattle.mol_op.specs.Kept.{add_class_formed}

-- a test that holds has one proof, so operations with the same fields are the same
pub returns : goal.returns
returns c =
    let old = c.args.self.now in
    let the_package = c.in_ok-copy.ensures in
    let the_name = c.in_ok-copy-2.ensures in
    let the_parent = c.in_ok-copy_parent.ensures in
    let the_words = c.in_ok-copy-3.ensures in
    let the_notes = c.in_ok-copy-4.ensures in
    λ i. record {
      class = old.class;
      «package» = the_package i;
      name = the_name i;
      parent = the_parent i;
      words = the_words i;
      notes = the_notes i;
      formed = is_prop→PathP (λ j. IsTrue (add_class_formed (the_package j) (the_name j) (the_parent j) (the_words j) (the_notes j)))
          (λ j. Bool-set _ true) c.result-2-1.given.0 old.formed i;
    }
