use Rattle.std.proofs.Common.{◌∙◌, sym, ap, subst, map}
use Rattle.std.specs.FinMap as finite
use Rattle.std.specs.Prelude.{List, Result, Ok, Err, IfOk}
use Rattle.mol_base.specs.declared.ident.Id.{Id}
use Rattle.mol_table_rules.specs.Counting.{passing}
use Rattle.mol_table.specs.Maps.{program_in}
use Rattle.mol_table_numbers.specs.Numbering.{IsInOrder}
use Rattle.mol_table_rules.specs.Renumber.{is_living_class, class_number}
use Rattle.mol_table_numbers.specs.declared.classes.ClassFile.{ClassFile}
use Rattle.mol_table_numbers.proofs.Orders.{classes-in-order}
use Rattle.mol_table_numbers.proofs.classes.class_order.Goals as goal

if_ok : {A E : Type 0} (r : Result A E) (P Q : A → Type 0) → ((x : A) → P x → Q x) → IfOk r P → IfOk r Q
if_ok (Ok x) P Q f h = f x h
if_ok (Err e) P Q f h = h

pub returns : goal.returns
returns c =
    let maps = c.args.maps.now in
    let program = program_in maps in
    let sorted = c.sort_unstable.new.self.items in
    let order = classes-in-order maps c.requires c.len-size.ensures.unique c.in_ok-files.files.items sorted c.in_ok-files.ensures c.sort_unstable.ensures.permutation c.sort_unstable.ensures.sorted in
    if_ok c.class_ids.result _ _
    (λ ids is. subst (λ (list : List Id). IsInOrder (is_living_class program) (class_number program) (passing (is_living_class program) (finite.keys program.known)) list)
    (sym (is ∙ ap (map (λ (file : ClassFile). file.class)) c.deref.ensures.value)) order)
    c.class_ids.ensures
