use Rattle.std.proofs.Common.{◌∙◌, ◌++◌, ◌∷◌, [], cond, not, Bool, Some, None, Option, option_map, append-nil, filter_map, map, sym, ap, if◌then◌else◌}
use Rattle.std.proofs.lemmas.List.{take_all}
use Rattle.mol_faults_entities.specs.pair_faults.Addresses.{Location, located, located_at, location_of}
use Rattle.mol_faults_entities.proofs.pair_faults_lemmas.MadeRows.{rows-made, rows-more}
use Rattle.mol_faults_entities.proofs.pair_faults_lemmas.Rows.{located-making}
use Rattle.mol_faults_entities.proofs.pair_faults.addressed.living_addresses.Goals as goal
use Rattle.mol_faults_entities.proofs.pair_faults.addressed.living_addresses.Goals.{then-lives+in-Some+else-is_err, then-lives+in_default, else-lives}
use Rattle.mol_table_rules.specs.Faults.{address}

pub loop-id-preserved : goal.loop-id-preserved
loop-id-preserved c =
    let program = c.args.table.now in
    let ids = c.ids-id-items.result.now in
    let i = c.loop-id.id-index in
    let id = c.id-item.result in
    let before = c.loop-id.rows.items in
    let found : Option Location = option_map (location_of id) (address program id) in
    elim c.if-lives.branch [
      | then-lives+in-Some+else-is_err w ↦
          let pushed = w.push.ensures.items
          ∙ ap (λ b. if b then before ++ w.in-Some.row ∷ [] else before) (w.is_err.ensures.negation ∙ ap not w.if-is_err.false) in
          let made = w.in-Some.ensures ∙ sym (ap (λ (b : Bool). cond b found None) (sym c.lives.ensures ∙ w.if-lives.true)) in
          rows-more located (located_at program) ids i id c.loop-id-test.true c.id-item.is before _ (Some w.in-Some.row)
          c.loop-id.invariant made (ap (λ rows. rows.items) w.rows-is ∙ pushed)
      | then-lives+in_default w ↦
          let made = sym (ap (option_map located) w.in_default.is) ∙ w.entity_at.ensures
          ∙ sym (ap (λ (b : Bool). cond b found None) (sym c.lives.ensures ∙ w.if-lives.true)) in
          rows-more located (located_at program) ids i id c.loop-id-test.true c.id-item.is before _ None c.loop-id.invariant made
          (ap (λ rows. rows.items) w.rows-is ∙ sym (append-nil before))
      | else-lives w ↦
          let made = sym (ap (λ (b : Bool). cond b found None) (sym c.lives.ensures ∙ w.if-lives.false)) in
          rows-more located (located_at program) ids i id c.loop-id-test.true c.id-item.is before _ None c.loop-id.invariant made
          (ap (λ rows. rows.items) w.rows-is ∙ sym (append-nil before))
    ]

pub returns : goal.returns
returns c =
    let program = c.args.table.now in
    let ids = c.ids-id-items in
    rows-made program (λ (l : Location). l.id) (located_at program) (located-making program) ids.result.now ids.ensures.known
    (map located c.loop-id.rows.items)
    (c.loop-id.invariant
    ∙ ap (filter_map (located_at program)) (take_all c.loop-id.id-index ids.result.now c.loop-id-test.false))
