-- What `ids` makes of a base.
use Rattle.std.proofs.Common.{refl}
use Rattle.mol_spell_rules.specs.Clean.{Clean}
use Rattle.mol_table_rules.specs.Program.{Program}
use Rattle.mol_table_rules.specs.Rules.{IsProgram as KeepsRules}
use Rattle.mol_top.specs.Bases.{IsBaseOf}
use Rattle.mol_top.specs.Command.{Command, IdsWords}
use Rattle.mol_top.specs.Listing.{ids_outcome}
use Rattle.mol_top.specs.Output.{IsWork}
use Rattle.mol_top.specs.Outside.{IfTold, Store}
use Rattle.mol_top.specs.Prepared.{Prepares}
use Rattle.mol_top.specs.declared.output.Work.{Work}

pub ids_prepared : (w : IdsWords) (old : Store) (program : Program) (work : Work) → IfTold old.held (λ h. IsBaseOf w.base h program)
    → KeepsRules program → Clean program → IsWork work (ids_outcome program) → Prepares (Command.ids w) old work
ids_prepared w old program work of rules clean is = λ h e. record {
  outcome = ids_outcome program;
  comes = record { program = program; base = record { is = of h e; rules = rules; clean = clean }; is = refl };
  is = is;
}
