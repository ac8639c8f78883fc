use Rattle.std.proofs.Common.{◌≡◌, ◌++◌, map, drop}
use Rattle.mol_spell_rules.specs.DefaultCreations.{expr_creations, joined}
use Rattle.mol_faults_mentions.specs.creations.Parts.{argument_creations}
use Rattle.mol_faults_mentions.proofs.creations.exprs.+expr_creations.Given as goal

abbrev pub invariant-add_arguments-loop-arg : goal.invariant-add_arguments-loop-arg
invariant-add_arguments-loop-arg l = l.classes.items ++ joined (map argument_creations (drop l.arg-index l.args))
    ≡ l.initial.classes.items ++ joined (map argument_creations l.args)

abbrev pub invariant-add_all-loop-item : goal.invariant-add_all-loop-item
invariant-add_all-loop-item l = l.classes.items ++ joined (map expr_creations (drop l.item-index l.items))
    ≡ l.initial.classes.items ++ joined (map expr_creations l.items)
