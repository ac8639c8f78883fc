use Rattle.std.proofs.Common.{◌∙◌, None, cond, sym, ap}
use Rattle.mol_base.specs.Order.{id_cmp, id_cmp-total}
use Rattle.mol_base.specs.declared.ident.Id.{Id}
use Rattle.mol_table_rules.specs.Renumber.{topmost}
use Rattle.mol_values_types.proofs.Lookups.{get_is}
use Rattle.mol_values_types.proofs.Ties.{id_ties, any_tied}
use Rattle.mol_values_types.specs.Order.{id_eq}
use Rattle.mol_scope_members.specs.topmost.Highest.{top_in}
use Rattle.mol_scope_members.proofs.topmost.topmost.Topmost.decl.Goals as goal

pub returns-then-contains : goal.returns-then-contains
returns-then-contains c =
    let tops = c.self.inside.highest.entries in
    let unordered = c.self.inside.unordered.keys in
    let method : Id = c.args.method.now in
    let listed = sym (any_tied (λ x. x) method unordered) ∙ sym c.contains.ensures ∙ c.if-contains.true in
    sym (ap (λ b. cond b None (top_in tops method)) listed) ∙ c.self.invariant method
    ∙ ap (λ p. topmost p method) c.self.view_is

pub returns : goal.returns
returns c =
    let tops = c.self.inside.highest.entries in
    let unordered = c.self.inside.unordered.keys in
    let method : Id = c.args.method.now in
    let listed = sym (any_tied (λ x. x) method unordered) ∙ sym c.contains.ensures ∙ c.if-contains.false in
    c.copied.ensures ∙ c.get.ensures.value ∙ get_is id_cmp id_eq id_ties id_cmp-total method tops
    ∙ sym (ap (λ b. cond b None (top_in tops method)) listed) ∙ c.self.invariant method
    ∙ ap (λ p. topmost p method) c.self.view_is
