use Rattle.std.proofs.Common.{◌≡◌, ◌∙◌, ℕ, Bool, true, false, cond, Option, Some, refl, ap}
use Rattle.std.specs.FinMap.{get, from_entries, get-insert}
use Rattle.std.specs.Option.{option_map_or}
use Rattle.mol_base.specs.Order.{id_cmp, id_cmp-total, id_cmp-IsAntisymmetric}
use Rattle.mol_base.specs.declared.ident.Id.{Id}
use Rattle.mol_table_rules.specs.Program.{same_id}
use Rattle.mol_values_types.proofs.Lookups.{inserted}
use Rattle.mol_values_types.proofs.Ties.{id_ties}
use Rattle.mol_values_types.specs.Order.{id_eq}
use Rattle.mol_scope_classes.specs.hierarchy.Paths.{place_on}
use Rattle.mol_scope_classes.specs.declared.hierarchy.position.Position.{Position}
use Rattle.mol_scope_classes.proofs.hierarchy.paths.Drawing.follow.Goals as goal

chosen : {X : Type 0} (b : Bool) (new default : X) (o : Option X)
    → option_map_or (λ (x : X). x) (cond b (Some new) o) default ≡ cond b new (option_map_or (λ (x : X). x) o default)
chosen true new default o = refl
chosen false new default o = refl

pub returns : goal.returns
returns c =
    let class : Id = c.args.class in
    let place : Position = c.args.place in
    let positions = c.args.self.now.positions.entries in
    let lasts = c.args.self.now.lasts.entries in
    let ended = inserted id_cmp id_eq id_ties id_cmp-total id_cmp-IsAntisymmetric place.top place.depth lasts c.insert.new.self.entries
    c.in_ok-insert.ensures.updates.0 in
    let put = inserted id_cmp id_eq id_ties id_cmp-total id_cmp-IsAntisymmetric class place positions c.insert-2.new.self.entries
    c.in_ok-insert-2.ensures.updates.0 in
    record {
      placed = λ (id : Id).
          ap (λ found. option_map_or (λ (p : Position). p) found (place_on id 0))
          (ap (λ map. get map id) put ∙ get-insert id_cmp-total (from_entries {R = id_cmp} positions) class place id)
          ∙ chosen (same_id id class) place (place_on id 0) (get (from_entries {R = id_cmp} positions) id);
      ends = λ (id : Id).
          ap (λ found. option_map_or (λ (n : ℕ). n) found 0)
          (ap (λ map. get map id) ended ∙ get-insert id_cmp-total (from_entries {R = id_cmp} lasts) place.top place.depth id)
          ∙ chosen (same_id id place.top) place.depth 0 (get (from_entries {R = id_cmp} lasts) id);
    }
