use Rattle.std.proofs.Common.{◌≡◌, ◌∙◌, sym, ap, subst, arith}
use Rattle.std.specs.FinMap as finite
use Rattle.mol_base.specs.declared.ident.Id.{Id}
use Rattle.mol_table_rules.specs.Counting.{Counts, Counted, passing}
use Rattle.mol_table_rules.specs.Life.{lives}
use Rattle.std.specs.Prelude.{List}
use Rattle.mol_table_numbers.specs.Looked.{HasNames, HasLiving, renumbered_counts}
use Rattle.mol_table.specs.Maps.{cells_of, knowns_of, program_in, counts_in, Stands}
use Rattle.mol_table_rules.specs.Program.{Program}
use Rattle.mol_table_rules.specs.Renumber.{number, renumber}
use Rattle.mol_table_rules.specs.Rules.{IsProgram}
use Rattle.mol_table_numbers.specs.Numbering.{AreApart, AreNames}
use Rattle.mol_table_numbers.proofs.Collected.{order-apart, has-names}
use Rattle.mol_table_numbers.proofs.RenumberRules.{renumber-IsProgram, renumber-Counted}
use Rattle.mol_table_numbers.proofs.renumbered.renumbered.Goals as goal

pub new_names-requires-clause-few : goal.new_names-requires-clause-few
new_names-requires-clause-few c = let long = c.in_ok-order.ensures.long in let few = c.requires.may.few in omega (arith, long, few)

pub new_names-requires-clause-apart : goal.new_names-requires-clause-apart
new_names-requires-clause-apart c =
    let program = program_in c.args.maps.now in
    subst AreApart (sym c.deref.ensures.value) (order-apart (lives program) (number program) (passing (lives program) (finite.keys program.known)) c.in_ok-order.order.items c.in_ok-order.ensures)

pub renamed_cells-requires : goal.renamed_cells-requires
renamed_cells-requires c =
    let program = program_in c.args.maps.now in
    has-names program (passing (lives program) (finite.keys program.known)) c.in_ok-order.order.items c.in_ok-names.names.entries c.in_ok-order.ensures
    (subst (λ (ids : List Id). AreNames ids c.in_ok-names.names.entries) c.deref.ensures.value c.in_ok-names.ensures)

pub renamed_known-requires-clause-names : goal.renamed_known-requires-clause-names
renamed_known-requires-clause-names c =
    let program = program_in c.args.maps.now in
    has-names program (passing (lives program) (finite.keys program.known)) c.in_ok-order.order.items c.in_ok-names.names.entries c.in_ok-order.ensures
    (subst (λ (ids : List Id). AreNames ids c.in_ok-names.names.entries) c.deref.ensures.value c.in_ok-names.ensures)

pub renamed_known-requires-clause-order : goal.renamed_known-requires-clause-order
renamed_known-requires-clause-order c = subst (λ (ids : List Id). HasLiving (program_in c.args.maps.now) ids) (sym c.deref-2.ensures.value) c.in_ok-order.ensures.has

pub renamed_numbers-requires : goal.renamed_numbers-requires
renamed_numbers-requires c =
    let program = program_in c.args.maps.now in
    has-names program (passing (lives program) (finite.keys program.known)) c.in_ok-order.order.items c.in_ok-names.names.entries c.in_ok-order.ensures
    (subst (λ (ids : List Id). AreNames ids c.in_ok-names.names.entries) c.deref.ensures.value c.in_ok-names.ensures)

pub returns-clause-program : goal.returns-clause-program
returns-clause-program c =
    ap program_in c.note_first_cells.ensures ∙ (λ i. record { cells = c.in_ok-renamed_cells.ensures i; known = c.in_ok-renamed_known.ensures.known i })

pub returns-clause-stands : goal.returns-clause-stands
returns-clause-stands c =
    let program = program_in c.args.maps.now in
    let names : HasNames program c.in_ok-names.names.entries =
    has-names program (passing (lives program) (finite.keys program.known)) c.in_ok-order.order.items c.in_ok-names.names.entries c.in_ok-order.ensures
    (subst (λ (ids : List Id). AreNames ids c.in_ok-names.names.entries) c.deref.ensures.value c.in_ok-names.ensures) in
    let stands = c.requires.stands in
    let may = c.requires.may in
    let new : Program = record { cells = cells_of c.in_ok-renamed_cells.field-0.entries; known = knowns_of c.in_ok-renamed_known.field-0.entries } in
    let is : new ≡ renumber program = λ i. record { cells = c.in_ok-renamed_cells.ensures i; known = c.in_ok-renamed_known.ensures.known i } in
    subst Stands (sym c.note_first_cells.ensures) (record {
      rules = subst IsProgram (sym is) (renumber-IsProgram program names.apart stands.rules may.tidied may.present);
      counted = subst (λ (counts : Counts). Counted new counts) (sym c.in_ok-renamed_numbers.ensures)
          (subst (λ (p : Program). Counted p (renumbered_counts program (counts_in c.args.maps.now))) (sym is)
          (renumber-Counted program names.apart stands.rules may.tidied may.present (counts_in c.args.maps.now) stands.counted));
      ordered = c.in_ok-renamed_known.ensures.ordered;
    })
