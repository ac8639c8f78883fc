use Rattle.std.proofs.Common.{◌≡◌, ◌++◌, map, drop}
use Rattle.mol_spell_rules.specs.DefaultCreations.{joined}
use Rattle.mol_faults_mentions.specs.creations.Parts.{statement_creations}
use Rattle.mol_faults_mentions.proofs.creations.bodies.+block_creations.Given as goal

abbrev pub invariant-add_statements-loop-item : goal.invariant-add_statements-loop-item
invariant-add_statements-loop-item l = l.classes.items ++ joined (map statement_creations (drop l.item-index l.items))
    ≡ l.initial.classes.items ++ joined (map statement_creations l.items)
