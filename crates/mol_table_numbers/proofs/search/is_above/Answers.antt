use Rattle.std.proofs.Common.{◌∙◌, sym, ap}
use Rattle.std.specs.List.{list_any}
use Rattle.mol_base.specs.declared.ident.Id.{Id}
use Rattle.mol_table_rules.specs.Faults.{is_above}
use Rattle.mol_table.specs.Maps.{program_in}
use Rattle.mol_table_rules.specs.Program.{same_id, owner_at}
use Rattle.mol_values_types.proofs.Ties.{any_tied}
use Rattle.mol_table_numbers.proofs.search.is_above.Goals as goal

pub returns-in_default : goal.returns-in_default
returns-in_default c =
    let program = program_in c.args.maps.now in
    sym (ap (λ o. is_above program o (owner_at program c.args.decl.now)) (sym c.owner.ensures ∙ c.in_default.is))

pub returns : goal.returns
returns c =
    let program = program_in c.args.maps.now in
    let class = c.in-Some.class in
    let above = c.in-Some-owner.above in
    c.is_met.ensures ∙ any_tied (λ (id : Id). id) above c.deref.result.now
    ∙ ap (list_any (same_id above)) (c.deref.ensures.value ∙ c.in_ok-classes.ensures)
    ∙ sym (λ i. is_above program ((sym c.owner.ensures ∙ c.in-Some.is) i) ((sym c.owner-2.ensures ∙ c.in-Some-owner.is) i))
