use Rattle.std.proofs.Common.{◌∙◌, sym, ap, subst, arith, map}
use Rattle.std.specs.FinMap as finite
use Rattle.mol_base.specs.declared.ident.Id.{Id}
use Rattle.std.specs.Prelude.{List, Result, Ok, Err, IfOk}
use Rattle.mol_table_rules.specs.Counting.{passing}
use Rattle.mol_table_rules.specs.Life.{lives}
use Rattle.mol_table.specs.Maps.{program_in}
use Rattle.mol_table_numbers.specs.Numbering.{AreApart, AreNames, IsInOrder}
use Rattle.mol_table_rules.specs.Renumber.{is_living_class, class_number, number}
use Rattle.mol_table_numbers.specs.declared.rank.Rank.{Rank}
use Rattle.mol_table_numbers.proofs.Collected.{order-apart}
use Rattle.mol_table_numbers.proofs.Orders.{has-classes, few-classes, ranks-in-order}
use Rattle.mol_table_numbers.proofs.order.printed_order.Goals as goal

if_ok : {A E : Type 0} (r : Result A E) (P Q : A → Type 0) → ((x : A) → P x → Q x) → IfOk r P → IfOk r Q
if_ok (Ok x) P Q f h = f x h
if_ok (Err e) P Q f h = h

pub class_order-requires : goal.class_order-requires
class_order-requires c = c.requires.stands.ordered

pub new_names-requires-clause-few : goal.new_names-requires-clause-few
new_names-requires-clause-few c =
    let program = program_in c.args.maps.now in
    let long = c.in_ok-order.ensures.long in
    let few = few-classes program (finite.keys program.known) c.requires.may.few in
    omega (arith, long, few)

pub new_names-requires-clause-apart : goal.new_names-requires-clause-apart
new_names-requires-clause-apart c =
    let program = program_in c.args.maps.now in
    subst AreApart (sym c.deref.ensures.value) (order-apart (is_living_class program) (class_number program) (passing (is_living_class program) (finite.keys program.known)) c.in_ok-order.order.items c.in_ok-order.ensures)

pub tops-requires-clause-stands : goal.tops-requires-clause-stands
tops-requires-clause-stands c = c.requires.stands

pub tops-requires-clause-together : goal.tops-requires-clause-together
tops-requires-clause-together c = c.requires.may.together

pub ranks-requires-clause-counted : goal.ranks-requires-clause-counted
ranks-requires-clause-counted c = c.requires.stands.counted

pub ranks-requires-clause-classes : goal.ranks-requires-clause-classes
ranks-requires-clause-classes c =
    let program = program_in c.args.maps.now in
    has-classes program (passing (is_living_class program) (finite.keys program.known)) c.in_ok-order.order.items c.in_ok-classes.classes.entries c.in_ok-order.ensures
    (subst (λ (ids : List Id). AreNames ids c.in_ok-classes.classes.entries) c.deref.ensures.value c.in_ok-classes.ensures)

pub ranks-requires-clause-tops : goal.ranks-requires-clause-tops
ranks-requires-clause-tops c = c.in_ok-tops.ensures

pub returns : goal.returns
returns c =
    let maps = c.args.maps.now in
    let program = program_in maps in
    let sorted = c.sort_unstable.new.self.items in
    let order = ranks-in-order maps c.requires.stands.ordered c.len-size.ensures.unique c.in_ok-ranks.ranks.items sorted c.in_ok-ranks.ensures c.sort_unstable.ensures.permutation c.sort_unstable.ensures.sorted in
    if_ok c.rank_ids.result _ _
    (λ ids is. subst (λ (list : List Id). IsInOrder (lives program) (number program) (passing (lives program) (finite.keys program.known)) list)
    (sym (is ∙ ap (map (λ (rank : Rank). rank.own)) c.deref-2.ensures.value)) order)
    c.rank_ids.ensures
