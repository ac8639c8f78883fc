use Rattle.std.proofs.Common.{◌∙◌, sym}
use Rattle.mol_base.specs.Order.{id_cmp, id_cmp-IsAntisymmetric, id_cmp-total}
use Rattle.mol_log_rules.specs.Living.{is_life_cell}
use Rattle.mol_log_writers.proofs.Lives.{life-both, life-one}
use Rattle.mol_log_writers.proofs.Noting.{put}
use Rattle.mol_log_writers.proofs.side.note_living.Goals as goal
use Rattle.mol_values_types.proofs.Ties.{id_ties}
use Rattle.mol_values_types.specs.Order.{id_eq}

pub returns-in_ok-insert-in-Some : goal.returns-in_ok-insert-in-Some
returns-in_ok-insert-in-Some c =
    life-both c.args.left.now c.args.id.now c.args.stamp.now c.args.index.now.entries c.in-Some.method c.insert.new.self.entries _
    (sym c.method_of.ensures ∙ c.in-Some.is)
    (put id_cmp (is_life_cell c.args.left.now) id_cmp-total id_cmp-IsAntisymmetric id_eq id_ties c.args.id.now c.args.stamp.now _ _
    c.in_ok-insert.ensures.updates.0)
    (put id_cmp (is_life_cell c.args.left.now) id_cmp-total id_cmp-IsAntisymmetric id_eq id_ties c.in-Some.method c.args.stamp.now _ _
    c.in_ok-insert-in-Some.ensures.updates.0)

pub returns-in-None : goal.returns-in-None
returns-in-None c =
    life-one c.args.left.now c.args.id.now c.args.stamp.now c.args.index.now.entries _ (sym c.method_of.ensures ∙ c.in-None.is)
    (put id_cmp (is_life_cell c.args.left.now) id_cmp-total id_cmp-IsAntisymmetric id_eq id_ties c.args.id.now c.args.stamp.now _ _
    c.in_ok-insert.ensures.updates.0)
