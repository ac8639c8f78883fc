use Rattle.std.proofs.Common.{◌≡◌, ◌∙◌, sym, ap, Some, cond}
use Rattle.std.specs.FinMap.{get}
use Rattle.mol_table_rules.specs.Program.{same_id}
use Rattle.mol_table_numbers.specs.Tops.{IsHeight, tops_of, top_of, upper}
use Rattle.mol_table_numbers.specs.declared.tops.Top.{Top}
use Rattle.mol_table_rules.proofs.Counts.{none-some}
use Rattle.mol_table_numbers.proofs.HeightsFound.{held}
use Rattle.mol_table_numbers.proofs.TopsFound.{tops-same, tops-more}
use Rattle.mol_table_numbers.proofs.tops.note_top.Goals as goal

pub returns-in_default-clause-tops : goal.returns-in_default-clause-tops
returns-in_default-clause-tops c = λ ends decls are.
    tops-same c.args.maps.now decls c.args.tops.now.entries c.args.decl.now
    (λ method class living owned. none-some method (sym (sym c.living_of.ensures ∙ c.in_default.is) ∙ living)) are

pub returns-in_default-owner-clause-tops : goal.returns-in_default-owner-clause-tops
returns-in_default-owner-clause-tops c = λ ends decls are.
    tops-same c.args.maps.now decls c.args.tops.now.entries c.args.decl.now
    (λ method class living owned. none-some class (sym (sym c.owner.ensures ∙ c.in_default-owner.is) ∙ owned)) are

pub returns-clause-tops : goal.returns-clause-tops
returns-clause-tops c =
    let maps = c.args.maps.now in
    let decl = c.args.decl.now in
    let method = c.in-Some.method in
    let class = c.in-Some-owner.owner in
    let old = c.args.tops.now.entries in
    let new = c.put_top.new.tops.entries in
    let height = c.in-Some-2.height in
    let found = held (IsHeight maps class) _ height c.in-Some-2.is c.in_ok-height.ensures.height in
    let top : ◌≡◌ {A = Top} (record { height = height; decl = decl }) (top_of maps decl class) = λ i. record { height = found.is i; decl = decl } in
    λ ends decls are. tops-more maps decls old new decl method class (sym c.living_of.ensures ∙ c.in-Some.is) (sym c.owner.ensures ∙ c.in-Some-owner.is) found.ends
    (λ at. c.in_ok-put_top.ensures at ∙ ap (λ top. cond (same_id at method) (Some (upper (get (tops_of old) method) top)) (get (tops_of old) at)) top) are
