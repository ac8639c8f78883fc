use Rattle.std.proofs.Common.{◌≡◌, ◌++◌, map, sym, subst}
use Rattle.std.proofs.lemmas.List.{append-nil}
use Rattle.std.proofs.lemmas.Result.{on_ok_weaker}
use Rattle.std.specs.Prelude.{OnOk}
use Rattle.mol_faults_misread.proofs.misread_faults_lemmas.SameFile.{one-cell}
use Rattle.mol_faults_misread.proofs.misread_faults.cells.FileCells.add_member.Goals as goal
use Rattle.mol_faults_misread.specs.misread_faults.Found.{kept_name, member_misreads}
use Rattle.mol_table_rules.specs.Program.{cell}
use Rattle.mol_values_types.specs.declared.cell.Slot.TheVariants as slots
use Rattle.mol_values_types.specs.declared.known.Known.{Known}

pub returns-in-Field : goal.returns-in-Field
returns-in-Field g c =
    let cells = c.args.self.now in
    let imports = g.F.FileNames.imports cells.file.now in
    let simple = g.F.FileNames.simple cells.file.now in
    let so_far = map kept_name c.args.names.now.items in
    subst (λ (known : Known). OnOk c.add_cell.result (map kept_name c.add_cell.new.names.items
    ≡ so_far ++ member_misreads cells.index.now imports simple cells.class (c.args.id.now, known))) (sym c.in-Field.is)
    (on_ok_weaker c.add_cell.result
    (one-cell cells.index.now imports simple cells.class (cell c.args.id.now slots.Value) so_far _) c.add_cell.ensures)

pub returns-in-Decl : goal.returns-in-Decl
returns-in-Decl g c =
    let cells = c.args.self.now in
    let imports = g.F.FileNames.imports cells.file.now in
    let simple = g.F.FileNames.simple cells.file.now in
    let so_far = map kept_name c.args.names.now.items in
    subst (λ (known : Known). OnOk c.add_declaration.result (map kept_name c.add_declaration.new.names.items
    ≡ so_far ++ member_misreads cells.index.now imports simple cells.class (c.args.id.now, known))) (sym c.in-Decl.is)
    c.add_declaration.ensures

pub returns-in-Class : goal.returns-in-Class
returns-in-Class g c =
    let cells = c.args.self.now in
    let imports = g.F.FileNames.imports cells.file.now in
    let simple = g.F.FileNames.simple cells.file.now in
    let so_far = map kept_name c.args.names.now.items in
    subst (λ (known : Known). so_far ≡ so_far ++ member_misreads cells.index.now imports simple cells.class (c.args.id.now, known))
    (sym c.in-Class.is) (sym (append-nil so_far))

pub returns-in-Method : goal.returns-in-Method
returns-in-Method g c =
    let cells = c.args.self.now in
    let imports = g.F.FileNames.imports cells.file.now in
    let simple = g.F.FileNames.simple cells.file.now in
    let so_far = map kept_name c.args.names.now.items in
    subst (λ (known : Known). so_far ≡ so_far ++ member_misreads cells.index.now imports simple cells.class (c.args.id.now, known))
    (sym c.in-Method.is) (sym (append-nil so_far))

pub returns-in-Param : goal.returns-in-Param
returns-in-Param g c =
    let cells = c.args.self.now in
    let imports = g.F.FileNames.imports cells.file.now in
    let simple = g.F.FileNames.simple cells.file.now in
    let so_far = map kept_name c.args.names.now.items in
    subst (λ (known : Known). so_far ≡ so_far ++ member_misreads cells.index.now imports simple cells.class (c.args.id.now, known))
    (sym c.in-Param.is) (sym (append-nil so_far))
