-- Sameness is an equivalence, and programs that hold the same everywhere are one.
use Rattle.std.specs.Prelude.{◌≡◌}
use Rattle.std.proofs.Common.{refl, sym, ◌∙◌}
use Rattle.std.specs.FinMap.{get, same_map}
use Rattle.mol_base.specs.Order.{id_cmp-total, id_cmp-IsAntisymmetric}
use Rattle.mol_base.specs.declared.ident.Id.{Id}
use Rattle.mol_table_rules.proofs.CellOrder.{cell_cmp-total, cell_cmp-IsAntisymmetric}
use Rattle.mol_table_rules.specs.Program.{Program}
use Rattle.mol_table_rules.specs.Sameness.{Same, IsSameness}
use Rattle.mol_values_types.specs.declared.cell.Cell.{Cell}

pub same_program : (first second : Program) → ((at : Cell) → get first.cells at ≡ get second.cells at)
    → ((id : Id) → get first.known id ≡ get second.known id) → first ≡ second
same_program first second cells known =
    let c = same_map cell_cmp-total cell_cmp-IsAntisymmetric first.cells second.cells cells in
    let k = same_map id_cmp-total id_cmp-IsAntisymmetric first.known second.known known in
    λ i. record { cells = c i; known = k i }

same_itself : (program : Program) → Same program program
same_itself program = record { living = λ id. refl; agree = λ id slot living. refl }

same_back : (first second : Program) → Same first second → Same second first
same_back first second same = record {
  living = λ id. sym (same.living id);
  agree = λ id slot living. sym (same.agree id slot (same.living id ∙ living));
}

same_on : (first second third : Program) → Same first second → Same second third → Same first third
same_on first second third same then = record {
  living = λ id. same.living id ∙ then.living id;
  agree = λ id slot living. same.agree id slot living ∙ then.agree id slot (sym (same.living id) ∙ living);
}

pub sameness : IsSameness
sameness = record { itself = same_itself; back = same_back; on = same_on }
