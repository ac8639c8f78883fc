use Rattle.std.proofs.Common.{◌∙◌, ap, refl}
use Rattle.std.specs.FinMap.{get}
use Rattle.mol_faults_expr.specs.Noted.{noted_after}
use Rattle.mol_faults_misread.proofs.misread_faults_lemmas.Scoped.{cell-read}
use Rattle.mol_faults_misread.proofs.misread_faults.cells.FileCells.misreads_in.Goals as goal
use Rattle.mol_faults_misread.specs.misread_faults.Scopes.{in_constructor, params_in}
use Rattle.mol_spell_rules.specs.UnitCells.{references_in}
use Rattle.mol_table_rules.specs.Program.{Program, value_at}

pub note_value-requires : goal.note_value-requires
note_value-requires g c =
    let cells = c.args.self.now in
    let file = cells.file.now in
    let at = c.args.at.now in
    cell-read _ _ _ _ _ _ cells.index.now (g.F.FileNames.imports file) (g.F.FileNames.simple file) cells.class at c.requires.places refl
    refl c.requires.imports
    (c.params_in_scope.ensures ∙ ap (λ (program : Program). params_in program (get program.known at.id)) c.table-table.ensures)
    (c.is_in_constructor.ensures ∙ ap (λ (program : Program). in_constructor program (get program.known at.id)) c.table-table.ensures)
    c.param_names.ensures

pub returns : goal.returns
returns g c =
    let at = c.args.at.now in
    let value = c.get.ensures ∙ ap (λ (program : Program). value_at program at.id at.slot) c.table-table.ensures in
    c.in_ok-note_value.ensures
    ∙ (λ i. noted_after (c.requires.places i) (c.new-misreads.ensures i) (references_in (c.requires.places i) (value i)))
