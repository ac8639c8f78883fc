use Rattle.std.proofs.Common.{◌∙◌, Some, sym, ap}
use Rattle.jav_tree.specs.declared.unit.Member.{Member}
use Rattle.mol_spell_rules.specs.SpelledUnits.{declaration_member}
use Rattle.mol_spell.proofs.units_lemmas.MembersListed.{declared-kind}
use Rattle.mol_spell.proofs.units.unit_writer.UnitWriter.declaration.Goals as goal
use Rattle.mol_values_types.specs.declared.known.Known.{Known}

pub returns-in_ok-member-in-Some-Method : goal.returns-in_ok-member-in-Some-Method
returns-in_ok-member-in-Some-Method g c =
    let unit = c.args.self.now in
    let id = c.args.id.now in
    let method = c.args.method.now in
    ap (λ (member : Member). Some member) c.in_ok-member-in-Some-Method.ensures
    ∙ declared-kind unit.index.now unit.class id method c.in-Some-Method.kind
    ∙ ap (declaration_member unit.index.now unit.class id method)
    (ap (λ (known : Known). Some known) (sym c.in-Some-Method.field-0-is) ∙ c.in-Some-Method.ensures)
