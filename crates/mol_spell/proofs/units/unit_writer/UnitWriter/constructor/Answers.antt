use Rattle.std.proofs.Common.{ap, List, Option, ◌∙◌}
use Rattle.std.specs.Option.{option_map_or}
use Rattle.std.specs.Prelude.{[]}
use Rattle.jav_tree.specs.Blocks.{block_of}
use Rattle.jav_tree.specs.declared.stmt.Block.{Block}
use Rattle.jav_tree.specs.declared.unit.Member.{Member}
use Rattle.jav_tree.specs.declared.unit.Member.TheVariants as members
use Rattle.jav_tree.specs.declared.unit.Param.{Param as ParamName}
use Rattle.mol_spell_rules.specs.SpelledUnits.{body_tree}
use Rattle.mol_table_rules.specs.Program.{Program}
use Rattle.mol_spell.proofs.units_lemmas.MadeOf.{moved, with_last}
use Rattle.mol_spell.proofs.units.unit_writer.UnitWriter.constructor.Goals as goal
use Rattle.mol_spell.specs.units.Headings.{member_head}
use Rattle.mol_spell.specs.units.MemberTrees.{constructor_of}
use Rattle.mol_spell.specs.declared.units.heads.MemberHead.{MemberHead}

abbrev made : MemberHead → List ParamName → Option Block → Member
made head params block = members.Ctor (constructor_of head params (option_map_or (λ block. block) block (block_of [] [])))

pub returns : goal.returns
returns g c =
    let unit = c.args.self.now in
    let id = c.args.id.now in
    let first = c.in_ok-head.head in
    let params = c.in_ok-params.params in
    let body = body_tree unit.index.now unit.class id in
    let head = c.in_ok-head.ensures ∙ ap (λ (program : Program). member_head program id) c.table.ensures in
    moved c.constructor_of.result (λ (params : List ParamName). made (member_head unit.index.now id) params body) _ _ c.in_ok-params.ensures
    (moved c.constructor_of.result (λ (head : MemberHead). made head params body) _ _ head
    (with_last c.constructor_of.result c.body_of.result (made first params) body c.constructor_of.ensures c.body_of.ensures))
