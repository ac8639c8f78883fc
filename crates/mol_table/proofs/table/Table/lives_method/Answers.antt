use Rattle.std.proofs.Common.{◌∙◌, ap, sym}
use Rattle.std.specs.Prelude.{not, ◌==◌}
use Rattle.mol_table_rules.specs.Life.{lives_method}
use Rattle.mol_table_rules.proofs.Counts.{any-passing}
use Rattle.mol_table.proofs.table.Table.lives_method.Goals as goal

pub returns : goal.returns
returns c =
    ap (λ n. not (n == 0)) (c.number.ensures ∙ c.self.invariant.counted.numbers c.args.method.now) ∙ sym (any-passing _ _)
    ∙ ap (λ p. lives_method p c.args.method.now) c.self.view_is
