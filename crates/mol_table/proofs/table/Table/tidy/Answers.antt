use Rattle.std.proofs.Common.{◌≡◌, ◌∙◌, sym, ap, subst}
use Rattle.mol_table_rules.specs.Counting.{Counts, Counted}
use Rattle.mol_table.specs.Maps.{program_in, counts_in}
use Rattle.mol_table_rules.specs.Program.{Program}
use Rattle.mol_table_rules.specs.Rules.{IsProgram}
use Rattle.mol_table_rules.specs.Tidy.{tidy}
use Rattle.mol_table_rules.proofs.TidyOfTidied.{tidy-tidy}
use Rattle.mol_table_rules.proofs.TidyRules.{tidy-IsProgram, tidy-Counted}
use Rattle.mol_table.proofs.table.Table.tidy.Goals as goal

pub invariant_of-result : goal.invariant_of-result
invariant_of-result c =
    let old = program_in c.self.inside.maps in
    let ensures = c.in_ok-tidied.ensures in
    record {
      rules = subst IsProgram (sym ensures.program) (tidy-IsProgram old c.self.invariant.rules);
      counted = subst (λ (counts : Counts). Counted (program_in c.in_ok-tidied.field-0) counts) (sym ensures.counts)
          (subst (λ (p : Program). Counted p (counts_in c.self.inside.maps)) (sym ensures.program) (tidy-Counted old (counts_in c.self.inside.maps) c.self.invariant.counted));
      ordered = ensures.ordered;
    }

pub returns-clause-tidied : goal.returns-clause-tidied
returns-clause-tidied c =
    let old = program_in c.self.inside.maps in
    let is : program_in c.in_ok-tidied.field-0 ≡ tidy old = c.in_ok-tidied.ensures.program in
    ap tidy is ∙ tidy-tidy old c.self.invariant.rules ∙ sym is
