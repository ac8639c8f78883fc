use Rattle.std.proofs.Common.{◌∙◌, sym, ap}
use Rattle.std.specs.FinMap.{get}
use Rattle.mol_spell_names.proofs.body_names_lemmas.PlacesRead.{writer-is}
use Rattle.mol_spell_names.proofs.body_names.body_names.BodyNames.new.Goals as goal
use Rattle.mol_spell_names.specs.body_names.FilePlaces.{declared_in, param_names_in}
use Rattle.mol_table_rules.specs.Program.{Program}

pub invariant_of-result : goal.invariant_of-result
invariant_of-result g c =
    let id = c.args.id.now in
    let method = c.declared_method-method.ensures ∙ ap (λ (program : Program). declared_in (get program.known id)) c.table.ensures in
    record { are_params = c.in_ok-params.ensures ∙ sym (ap (param_names_in c.args.members.now) method) }

pub returns : goal.returns
returns g c = λ slot.
    let id = c.args.id.now in
    writer-is c.args.members.now (g.F.FileNames.imports c.args.file.now) (g.F.FileNames.simple c.args.file.now) c.args.class id _ slot
    (c.declared_method-method.ensures ∙ ap (λ (program : Program). declared_in (get program.known id)) c.table.ensures)
