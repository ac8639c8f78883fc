use Rattle.std.proofs.Common.{◌≡◌, ◌++◌, sym, subst}
use Rattle.std.proofs.lemmas.List.{append-nil}
use Rattle.std.proofs.lemmas.Result.{on_ok_weaker}
use Rattle.std.specs.Prelude.{OnOk}
use Rattle.mol_spell_names.proofs.uses_lemmas.MembersUsed.{one-cell}
use Rattle.mol_spell_names.proofs.uses.file_cells.FileCells.add_member.Goals as goal
use Rattle.mol_spell_names.specs.uses.CellUses.{member_uses}
use Rattle.mol_table_rules.specs.Program.{cell}
use Rattle.mol_values_types.specs.declared.cell.Slot.TheVariants as slots
use Rattle.mol_values_types.specs.declared.known.Known.{Known}

pub returns-in-Field : goal.returns-in-Field
returns-in-Field c =
    let file = c.args.self.now in
    subst (λ (known : Known). OnOk c.add_cell.result (c.add_cell.new.uses
    ≡ c.args.uses.now ++ member_uses file.index.now file.class (c.args.id.now, known))) (sym c.in-Field.is)
    (on_ok_weaker c.add_cell.result (one-cell file.index.now file.class (cell c.args.id.now slots.Value) c.args.uses.now _)
    c.add_cell.ensures)

pub returns-in-Decl : goal.returns-in-Decl
returns-in-Decl c =
    let file = c.args.self.now in
    subst (λ (known : Known). OnOk c.add_declaration.result (c.add_declaration.new.uses
    ≡ c.args.uses.now ++ member_uses file.index.now file.class (c.args.id.now, known))) (sym c.in-Decl.is) c.add_declaration.ensures

pub returns-in-Class : goal.returns-in-Class
returns-in-Class c =
    let file = c.args.self.now in
    subst (λ (known : Known). c.args.uses.now ≡ c.args.uses.now ++ member_uses file.index.now file.class (c.args.id.now, known))
    (sym c.in-Class.is) (sym (append-nil c.args.uses.now))

pub returns-in-Method : goal.returns-in-Method
returns-in-Method c =
    let file = c.args.self.now in
    subst (λ (known : Known). c.args.uses.now ≡ c.args.uses.now ++ member_uses file.index.now file.class (c.args.id.now, known))
    (sym c.in-Method.is) (sym (append-nil c.args.uses.now))

pub returns-in-Param : goal.returns-in-Param
returns-in-Param c =
    let file = c.args.self.now in
    subst (λ (known : Known). c.args.uses.now ≡ c.args.uses.now ++ member_uses file.index.now file.class (c.args.id.now, known))
    (sym c.in-Param.is) (sym (append-nil c.args.uses.now))
