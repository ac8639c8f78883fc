use Rattle.std.proofs.Common.{◌∙◌, sym, ap}
use Rattle.std.proofs.lemmas.Result.{on_ok_weaker}
use Rattle.mol_spell_names.proofs.program_index_lemmas.UsesKept.{living-kept, other-kept}
use Rattle.mol_spell_names.proofs.program_index.kept_uses.keep_living.Goals as goal
use Rattle.mol_table_rules.specs.Program.{Program}
use Rattle.mol_table_rules.specs.Renumber.{is_living_class}

pub returns-then-is_living_class : goal.returns-then-is_living_class
returns-then-is_living_class c =
    let class = c.args.class.now in
    on_ok_weaker c.keep_uses.result (λ puts rest before. living-kept c.args.names.now class rest c.args.kept.now.entries before
    c.keep_uses.new.kept.entries
    (ap (λ (program : Program). is_living_class program class) (sym c.table.ensures) ∙ sym c.is_living_class.ensures ∙ c.if-is_living_class.true)
    puts) c.keep_uses.ensures

pub returns-else-is_living_class : goal.returns-else-is_living_class
returns-else-is_living_class c =
    let class = c.args.class.now in
    λ rest before. other-kept c.args.names.now class rest c.args.kept.now.entries before
    (ap (λ (program : Program). is_living_class program class) (sym c.table.ensures) ∙ sym c.is_living_class.ensures
    ∙ c.if-is_living_class.false)
