use Rattle.std.proofs.Common.{◌≡◌, ◌+◌, ◌∷◌, ◌++◌, ◌∙◌, [], ℕ, Bool, true, false, Option, Some, cond, ◌||◌, List, length, take, refl, sym, ap, arith}
use Rattle.std.specs.FinMap.{get, from_entries, get-insert}
use Rattle.std.specs.List.{list_any}
use Rattle.std.proofs.lemmas.List.{take_more, take_all}
use Rattle.std.proofs.lemmas.List.Folds.{list_any-append}
use Rattle.mol_base.specs.Order.{id_cmp, id_cmp-total, id_cmp-IsAntisymmetric}
use Rattle.mol_base.specs.declared.ident.Id.{Id}
use Rattle.mol_table_rules.specs.Program.{same_id}
use Rattle.mol_values_types.proofs.Lookups.{inserted}
use Rattle.mol_values_types.proofs.Ties.{id_ties}
use Rattle.mol_values_types.specs.Order.{id_eq}
use Rattle.mol_scope_classes.specs.hierarchy.Placed.{number_in}
use Rattle.mol_scope_classes.proofs.hierarchy.forest.Forest.add_top.Goals as goal

put-more : (a b : Bool) (s n : Option ℕ) → cond b s (cond a s n) ≡ cond (a || (b || false)) s n
put-more true true s n = refl
put-more true false s n = refl
put-more false true s n = refl
put-more false false s n = refl

pub loop-class-preserved : goal.loop-class-preserved
loop-class-preserved c =
    let classes : List Id = c.args.classes.now in
    let i = c.loop-class.class-index in
    let class : Id = c.class-item.result in
    let last : ℕ = length c.args.self.now.places.items in
    let was = c.args.self.now.numbers.entries in
    let old = c.loop-class.self.numbers.entries in
    let new = c.insert.new.self.entries in
    let e = inserted id_cmp id_eq id_ties id_cmp-total id_cmp-IsAntisymmetric class c.len-number.result old new
    c.in_ok-insert.ensures.updates.0 in
    let taken : take (i + 1) classes ≡ take i classes ++ class ∷ [] =
    take_more classes i class c.loop-class-test.true ∙ ap (λ x. take i classes ++ x ∷ []) (sym c.class-item.is) in
    let same : c.len-number.result ≡ last = omega (arith, c.len-number.ensures) in
    record {
      places = c.loop-class.invariant.places;
      numbers = λ (q : Id).
          ap (λ map. get map q) e ∙ get-insert id_cmp-total (from_entries {R = id_cmp} old) class c.len-number.result q
          ∙ (λ j. cond (same_id q class) (Some (same j)) (c.loop-class.invariant.numbers q j))
          ∙ put-more (list_any (same_id q) (take i classes)) (same_id q class) (Some last) (number_in was q)
          ∙ ap (λ b. cond b (Some last) (number_in was q)) (sym (ap (list_any (same_id q)) taken
          ∙ list_any-append (same_id q) (take i classes) (class ∷ [])));
    }

pub returns-clause-added : goal.returns-clause-added
returns-clause-added c =
    let classes : List Id = c.args.classes.now in
    record {
      grown = c.loop-class.invariant.places;
      numbered = λ (q : Id). c.loop-class.invariant.numbers q
          ∙ ap (λ ids. cond (list_any (same_id q) ids) (Some (length c.args.self.now.places.items))
          (number_in c.args.self.now.numbers.entries q))
          (take_all c.loop-class.class-index classes c.loop-class-test.false);
    }
