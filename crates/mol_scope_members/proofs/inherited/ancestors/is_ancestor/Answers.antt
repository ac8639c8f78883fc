use Rattle.std.proofs.Common.{◌∙◌, sym, subst}
use Rattle.mol_table_rules.specs.Rules.{IsProgram}
use Rattle.mol_values_types.proofs.Ties.{id_ties}
use Rattle.mol_scope_members.proofs.inherited_lemmas.Reached.{ancestor-is, never-itself}
use Rattle.mol_scope_members.proofs.inherited.ancestors.is_ancestor.Goals as goal

pub returns-then-eq : goal.returns-then-eq
returns-then-eq c =
    never-itself c.args.members.now (subst IsProgram c.table.ensures c.rules.ensures) c.args.class.now c.args.above.now
    (sym (id_ties c.args.class.now c.args.above.now) ∙ sym c.eq.ensures ∙ c.if-eq.true)

pub returns : goal.returns
returns c =
    c.is_on_way.ensures
    ∙ ancestor-is c.args.members.now (subst IsProgram c.table.ensures c.rules.ensures) c.args.class.now c.args.above.now
    (sym (id_ties c.args.class.now c.args.above.now) ∙ sym c.eq.ensures ∙ c.if-eq.false)
