use Rattle.std.proofs.Common.{◌≡◌, ◌∙◌, Bool, true, false, Some, cond, ◌||◌, length, refl, ap, arith}
use Rattle.std.specs.FinMap.{get, from_entries, get-insert}
use Rattle.mol_base.specs.Order.{id_cmp, id_cmp-total, id_cmp-IsAntisymmetric}
use Rattle.mol_base.specs.declared.ident.Id.{Id}
use Rattle.mol_table_rules.specs.Program.{same_id}
use Rattle.mol_values_types.proofs.Lookups.{inserted}
use Rattle.mol_values_types.proofs.Ties.{id_ties}
use Rattle.mol_values_types.specs.Order.{id_eq}
use Rattle.mol_scope_classes.specs.hierarchy.Placed.{number_in}
use Rattle.mol_scope_classes.proofs.hierarchy.forest.Forest.add_below.Goals as goal

or-false : (b : Bool) → b ≡ (b || false)
or-false true = refl
or-false false = refl

pub returns-clause-added : goal.returns-clause-added
returns-clause-added c =
    let old = c.args.self.now.numbers.entries in
    let new = c.insert.new.self.entries in
    let class : Id = c.args.class in
    let e = inserted id_cmp id_eq id_ties id_cmp-total id_cmp-IsAntisymmetric class c.len-number.result old new
    c.in_ok-insert.ensures.updates.0 in
    let last : c.len-number.result ≡ length c.args.self.now.places.items = omega (arith, c.len-number.ensures) in
    record {
      place = c.below-place.result;
      below = c.below-place.ensures;
      added = record {
        grown = c.in_ok-push.ensures.items;
        numbered = λ (q : Id).
            ap (λ map. get map q) e ∙ get-insert id_cmp-total (from_entries {R = id_cmp} old) class c.len-number.result q
            ∙ (λ j. cond (or-false (same_id q class) j) (Some (last j)) (number_in old q));
      };
    }
