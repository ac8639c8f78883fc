use Rattle.std.proofs.Common.{◌≡◌, ◌∙◌, ◌||◌, None, cond, false, sym, true≢false}
use Rattle.mol_faults_entities.proofs.override_faults_lemmas.PairsAbove.{eq-is, none-alike, none-own}
use Rattle.mol_faults_entities.proofs.override_faults.overridden.pair_above.Goals.{then-eq, else-eq}
use Rattle.mol_faults_entities.proofs.override_faults.overridden.pair_above.Goals as goal
use Rattle.mol_faults_entities.specs.pair_faults.Pairs.{ordered_pair}
use Rattle.mol_values_types.specs.Order.{id_eq}

pub returns-then-eq-2 : goal.returns-then-eq-2
returns-then-eq-2 c =
    let row = c.args.row.now in
    let above = c.args.above.now in
    elim c.if-eq.branch [
      | then-eq w ↦ sym (none-alike row above (eq-is row.method above.method (sym c.eq.ensures ∙ w.if-eq.true)))
      | else-eq w ↦ sym (none-own row above
          (eq-is row.owner above.owner (sym w.eq-else-eq.ensures ∙ sym w.value-is ∙ c.if-eq-2.true)))
    ]

pub returns-else-eq-2 : goal.returns-else-eq-2
returns-else-eq-2 c =
    let row = c.args.row.now in
    let above = c.args.above.now in
    elim c.if-eq.branch [
      | then-eq w ↦ absurd (true≢false (sym w.if-eq.true ∙ sym w.value-is ∙ c.if-eq-2.false))
      | else-eq w ↦
          let methods : id_eq row.method above.method ≡ false = sym c.eq.ensures ∙ w.if-eq.false in
          let owners : id_eq row.owner above.owner ≡ false = sym w.eq-else-eq.ensures ∙ sym w.value-is ∙ c.if-eq-2.false in
          c.ordered.ensures ∙ (λ i. cond (sym methods i || sym owners i) None (ordered_pair row.id above.id))
    ]
