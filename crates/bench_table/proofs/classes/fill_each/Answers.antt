use Rattle.std.proofs.Common.{◌≡◌, ◌+◌, ◌∙◌, ap, arith}
use Rattle.mol_base.specs.declared.ident.Id.{Id}
use Rattle.bench_table.specs.Classes.{id_of}
use Rattle.bench_table.proofs.classes.fill_each.Goals as goal

pub loop-index-init : goal.loop-index-init
loop-index-init c = λ number less. c.requires number

pub add_class-requires : goal.add_class-requires
add_class-requires c = c.loop-index.invariant (c.loop-index.index + 1) (omega arith)

pub loop-index-preserved : goal.loop-index-preserved
loop-index-preserved c =
    λ number less.
    c.in_ok-add_class.ensures (id_of c.args.tag number)
    (λ e. let same : number ≡ c.loop-index.index + 1 = ap (λ (id : Id). id.num) e in absurd (omega arith))
    ∙ c.loop-index.invariant number (omega arith)
