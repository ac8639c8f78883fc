use Rattle.std.proofs.Common.{◌≡◌, Option, sym, subst}
use Rattle.std.specs.Prelude.{IfOk}
use Rattle.jav_tree.specs.declared.unit.Member.{Member}
use Rattle.mol_spell_rules.specs.SpelledUnits.{spelled_member}
use Rattle.mol_spell.proofs.units.unit_writer.UnitWriter.member.Goals as goal
use Rattle.mol_values_types.specs.declared.known.Known.{Known}

pub returns-in-Field : goal.returns-in-Field
returns-in-Field g c =
    let unit = c.args.self.now in
    subst (λ (known : Known). IfOk c.field.result (λ (tree : Option Member). tree
    ≡ spelled_member unit.index.now unit.class (c.args.member.now.id, known))) (sym c.in-Field.is) c.field.ensures

pub returns-in-Decl : goal.returns-in-Decl
returns-in-Decl g c =
    let unit = c.args.self.now in
    subst (λ (known : Known). IfOk c.declaration.result (λ (tree : Option Member). tree
    ≡ spelled_member unit.index.now unit.class (c.args.member.now.id, known))) (sym c.in-Decl.is) c.declaration.ensures
