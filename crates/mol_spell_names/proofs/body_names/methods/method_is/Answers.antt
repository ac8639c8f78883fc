use Rattle.std.proofs.Common.{◌∙◌, sym, ap}
use Rattle.mol_spell_names.proofs.body_names.methods.method_is.Goals as goal
use Rattle.mol_spell_names.specs.body_names.FoundAs.{is_method_found}
use Rattle.mol_table_rules.specs.Program.{same_id}

pub returns-in-Found : goal.returns-in-Found
returns-in-Found c =
    let method = c.args.method.now in
    c.is_same.ensures ∙ ap (same_id method) c.declared_method.ensures ∙ sym (ap (is_method_found c.args.table.now method) c.in-Found.is)
