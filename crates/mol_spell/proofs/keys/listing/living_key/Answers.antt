use Rattle.std.proofs.Common.{◌∙◌, if◌then◌else◌, Some, None, sym, ap}
use Rattle.mol_spell_rules.specs.SpelledUnits.{UnitKey as Key, key_at}
use Rattle.mol_spell.proofs.keys.listing.living_key.Goals as goal

pub returns-in_ok-key : goal.returns-in_ok-key
returns-in_ok-key c =
    let key : Key = key_at c.args.table.now c.args.id.now in
    ap (λ (key : Key). Some key) c.in_ok-key.ensures
    ∙ sym (ap (λ b. if b then Some key else None) (sym c.is_living_class.ensures ∙ c.if-is_living_class.true))

pub returns-else-is_living_class : goal.returns-else-is_living_class
returns-else-is_living_class c =
    let key : Key = key_at c.args.table.now c.args.id.now in
    sym (ap (λ b. if b then Some key else None) (sym c.is_living_class.ensures ∙ c.if-is_living_class.false))
