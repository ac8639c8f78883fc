use Rattle.std.proofs.Common.{ap, Option, ◌∙◌}
use Rattle.jav_tree.specs.declared.stmt.Block.{Block}
use Rattle.jav_tree.specs.declared.unit.Member.TheVariants as members
use Rattle.mol_spell_rules.specs.SpelledUnits.{body_tree}
use Rattle.mol_table_rules.specs.Program.{Program}
use Rattle.mol_spell.proofs.units_lemmas.MadeOf.{moved, with_last}
use Rattle.mol_spell.proofs.units.unit_writer.UnitWriter.method.Goals as goal
use Rattle.mol_spell.specs.units.Headings.{member_head}
use Rattle.mol_spell.specs.units.MemberTrees.{method_of}
use Rattle.mol_spell.specs.declared.units.heads.MemberHead.{MemberHead}
use Rattle.mol_spell.specs.declared.units.methods.Signature.{Signature}

pub returns : goal.returns
returns g c =
    let unit = c.args.self.now in
    let id = c.args.id.now in
    let is_static = c.args.is_static in
    let first = c.in_ok-head.head in
    let signature = c.in_ok-signature.signature in
    let body = body_tree unit.index.now unit.class id in
    let head = c.in_ok-head.ensures ∙ ap (λ (program : Program). member_head program id) c.table.ensures in
    moved c.method_of.result
    (λ (signature : Signature). members.Method (method_of (member_head unit.index.now id) is_static signature body)) _ _
    c.in_ok-signature.ensures
    (moved c.method_of.result (λ (head : MemberHead). members.Method (method_of head is_static signature body)) _ _ head
    (with_last c.method_of.result c.body_of.result
    (λ (block : Option Block). members.Method (method_of first is_static signature block)) body c.method_of.ensures c.body_of.ensures))
