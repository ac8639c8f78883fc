use Rattle.std.proofs.Common.{◌≡◌, ◌∙◌, sym, ap, subst}
use Rattle.mol_table.proofs.table.Table.into_tidied.Goals as goal
use Rattle.mol_table.specs.Maps.{IsOrdered, counts_in, program_in}
use Rattle.mol_table.specs.declared.maps.Maps.{Maps}
use Rattle.mol_table_rules.proofs.TidyOfTidied.{tidy-tidy}
use Rattle.mol_table_rules.proofs.TidyRules.{tidy-Counted, tidy-IsProgram}
use Rattle.mol_table_rules.specs.Counting.{Counted, Counts}
use Rattle.mol_table_rules.specs.Program.{Program}
use Rattle.mol_table_rules.specs.Rules.{IsProgram}
use Rattle.mol_table_rules.specs.Tidy.{tidy}

pub invariant_of-result : goal.invariant_of-result
invariant_of-result c =
    let maps = c.self.inside.maps in
    let old = program_in maps in
    let is : program_in c.tidy_in_place.new.self ≡ tidy old = c.in_ok-tidy_in_place.ensures.program in
    let rest = c.tidy_in_place.ensures.rest in
    record {
      rules = subst IsProgram (sym is) (tidy-IsProgram old c.self.invariant.rules);
      counted = subst (λ (counts : Counts). Counted (program_in c.tidy_in_place.new.self) counts)
          (sym (ap (λ (m : Maps). counts_in m) rest))
          (subst (λ (p : Program). Counted p (counts_in maps)) (sym is) (tidy-Counted old (counts_in maps) c.self.invariant.counted));
      ordered = subst IsOrdered (sym rest) c.self.invariant.ordered;
    }

pub returns-clause-tidied : goal.returns-clause-tidied
returns-clause-tidied c =
    let old = program_in c.self.inside.maps in
    let is : program_in c.tidy_in_place.new.self ≡ tidy old = c.in_ok-tidy_in_place.ensures.program in
    ap tidy is ∙ tidy-tidy old c.self.invariant.rules ∙ sym is
