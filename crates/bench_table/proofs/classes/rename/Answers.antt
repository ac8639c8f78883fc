use Rattle.std.proofs.Common.{sym, subst, ℕ, List, []}
use Rattle.std.specs.Prelude.{codes}
use Rattle.mol_table_rules.specs.Rules.{IsProgram}
use Rattle.mol_table_rules.specs.Writes.{with_value}
use Rattle.mol_values_types.specs.declared.cell.Cell.{Cell}
use Rattle.mol_values_types.specs.declared.value.Value.TheVariants as values
use Rattle.mol_table_rules.proofs.ClassNames.{rules-named}
use Rattle.bench_table.specs.Classes.{id_of, name_of}
use Rattle.bench_table.proofs.Filling.{name-d}
use Rattle.bench_table.proofs.classes.rename.Goals as goal

pub set-requires-clause-rules : goal.set-requires-clause-rules
set-requires-clause-rules c =
    let table = c.args.table.now in
    subst (λ (at : Cell). IsProgram (with_value table at (values.Name c.in_ok-from_str.field-0))) (sym c.name_of.ensures)
    (subst (λ (text : List ℕ). IsProgram (with_value table (name_of c.args.number) (values.Name text))) (sym c.in_ok-from_str.ensures)
    (rules-named table c.ids-known.ensures.rules (id_of [] c.args.number) c.requires (codes "D") name-d))
