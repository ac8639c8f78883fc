use Rattle.std.proofs.Common.{◌∙◌, sym, ap}
use Rattle.std.specs.Prelude.{not, ◌||◌, Result, Ok, Err, IfOk}
use Rattle.mol_table_rules.specs.Faults.{is_above}
use Rattle.mol_table.specs.Maps.{program_in}
use Rattle.mol_table_rules.specs.Program.{owner_at}
use Rattle.mol_table_numbers.proofs.search.is_above_living.Goals as goal

if_ok : {A E : Type 0} (r : Result A E) (P Q : A → Type 0) → ((x : A) → P x → Q x) → IfOk r P → IfOk r Q
if_ok (Ok x) P Q f h = f x h
if_ok (Err e) P Q f h = h

pub returns-then-declares : goal.returns-then-declares
returns-then-declares c =
    let program = program_in c.args.maps.now in
    let above = is_above program (owner_at program c.args.below.now) (owner_at program c.args.decl.now) in
    if_ok c.is_above.result _ _ (λ b is. is ∙ ap (λ d. not d || above) (sym c.if-declares.true ∙ c.declares.ensures)) c.is_above.ensures

pub returns-else-declares : goal.returns-else-declares
returns-else-declares c =
    let program = program_in c.args.maps.now in
    let above = is_above program (owner_at program c.args.below.now) (owner_at program c.args.decl.now) in
    ap (λ d. not d || above) (sym c.if-declares.false ∙ c.declares.ensures)
