use Rattle.std.proofs.Common.{◌∙◌, ◌++◌, ◌∷◌, [], cond, not, Bool, Some, None, Option, option_map, append-nil, filter_map, map, sym, ap, if◌then◌else◌}
use Rattle.std.specs.FinMap.{get}
use Rattle.std.proofs.lemmas.List.{take_all}
use Rattle.mol_faults_entities.specs.override_faults.Declarations.{Row, declared_as, declared_at, row_of}
use Rattle.mol_faults_entities.proofs.override_faults_lemmas.DeclaredRows.{declared-making}
use Rattle.mol_faults_entities.proofs.override_faults.rows.declarations.Goals as goal
use Rattle.mol_faults_entities.proofs.override_faults.rows.declarations.Goals.{then-is_live+in-Some+else-is_err, then-is_live+in_default, else-is_live}
use Rattle.mol_faults_entities.proofs.pair_faults_lemmas.MadeRows.{rows-made, rows-more}

pub loop-id-preserved : goal.loop-id-preserved
loop-id-preserved c =
    let program = c.args.table.now in
    let positions = c.args.paths.now.positions.entries in
    let ids = c.ids-id-items.result.now in
    let i = c.loop-id.id-index in
    let id = c.id-item.result in
    let before = c.loop-id.rows.items in
    let found : Option Row = declared_as program positions id (get program.known id) in
    elim c.if-is_live.branch [
      | then-is_live+in-Some+else-is_err w ↦
          let pushed = w.push.ensures.items
          ∙ ap (λ b. if b then before ++ w.in-Some.row ∷ [] else before) (w.is_err.ensures.negation ∙ ap not w.if-is_err.false) in
          let made = w.in-Some.ensures ∙ sym (ap (λ (b : Bool). cond b found None) (sym c.is_live.ensures ∙ w.if-is_live.true)) in
          rows-more row_of (declared_at program positions) ids i id c.loop-id-test.true c.id-item.is before _ (Some w.in-Some.row)
          c.loop-id.invariant made (ap (λ rows. rows.items) w.rows-is ∙ pushed)
      | then-is_live+in_default w ↦
          let made = sym (ap (option_map row_of) w.in_default.is) ∙ w.declared_as.ensures
          ∙ sym (ap (λ (b : Bool). cond b found None) (sym c.is_live.ensures ∙ w.if-is_live.true)) in
          rows-more row_of (declared_at program positions) ids i id c.loop-id-test.true c.id-item.is before _ None c.loop-id.invariant made
          (ap (λ rows. rows.items) w.rows-is ∙ sym (append-nil before))
      | else-is_live w ↦
          let made = sym (ap (λ (b : Bool). cond b found None) (sym c.is_live.ensures ∙ w.if-is_live.false)) in
          rows-more row_of (declared_at program positions) ids i id c.loop-id-test.true c.id-item.is before _ None c.loop-id.invariant made
          (ap (λ rows. rows.items) w.rows-is ∙ sym (append-nil before))
    ]

pub returns : goal.returns
returns c =
    let program = c.args.table.now in
    let positions = c.args.paths.now.positions.entries in
    let ids = c.ids-id-items in
    rows-made program (λ (r : Row). r.id) (declared_at program positions) (declared-making program positions) ids.result.now
    ids.ensures.known
    (map row_of c.loop-id.rows.items)
    (c.loop-id.invariant
    ∙ ap (filter_map (declared_at program positions)) (take_all c.loop-id.id-index ids.result.now c.loop-id-test.false))
