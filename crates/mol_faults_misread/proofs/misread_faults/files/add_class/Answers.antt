use Rattle.std.proofs.Common.{◌≡◌, ◌∙◌, [], map, sym, ap, if◌then◌else◌}
use Rattle.std.proofs.lemmas.Result.{on_ok_weaker}
use Rattle.mol_faults_misread.proofs.misread_faults.files.add_class.Goals as goal
use Rattle.mol_faults_misread.specs.misread_faults.Found.{file_misreads, kept_name}
use Rattle.mol_base.proofs.Added.{adds, adds-none}
use Rattle.mol_spell_names.proofs.program_index_lemmas.UsesKept.{found-lives, missed-dead}
use Rattle.mol_spell_rules.specs.SimpleNames.{uses_in}
use Rattle.mol_table_rules.specs.Program.{Program}

pub add_by_uses-requires-clause-table : goal.add_by_uses-requires-clause-table
add_by_uses-requires-clause-table c = c.members-members.ensures ∙ sym c.names-index.ensures

pub add_by_uses-requires-clause-uses : goal.add_by_uses-requires-clause-uses
add_by_uses-requires-clause-uses c =
    (found-lives c.args.program.now c.args.id.now _ c.in-Some.ensures).1
    ∙ ap (λ (program : Program). uses_in program c.args.id.now) (sym c.names-index.ensures)

pub returns-in-Some : goal.returns-in-Some
returns-in-Some c =
    let class = c.args.id.now in
    let program : Program = c.args.program.now in
    let index : Program = c.names-index.result.now in
    let files : index ≡ program = c.names-index.ensures in
    let own = file_misreads program class in
    let old = map kept_name c.args.found.now.items in
    let new = map kept_name c.add_by_uses.new.found.items in
    on_ok_weaker c.add_by_uses.result (adds old new (file_misreads index class) _
    (ap (λ lives. if lives then own else []) (found-lives program class _ c.in-Some.ensures).0
    ∙ ap (λ (program : Program). file_misreads program class) (sym files))) c.add_by_uses.ensures

pub returns-in-None : goal.returns-in-None
returns-in-None c =
    let own = file_misreads c.args.program.now c.args.id.now in
    adds-none (map kept_name c.args.found.now.items) _
    (ap (λ lives. if lives then own else []) (missed-dead c.args.program.now c.args.id.now c.in-None.ensures))
