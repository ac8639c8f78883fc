use Rattle.std.proofs.Common.{◌∙◌, sym, ap, subst, List}
use Rattle.std.specs.FinMap.{get}
use Rattle.mol_base.specs.declared.ident.Id.{Id}
use Rattle.mol_table_rules.specs.Program.{Program}
use Rattle.mol_table_rules.specs.Writes.{AreNew, with_entities}
use Rattle.mol_table_rules.specs.declared.entity.NewEntity.{NewEntity}
use Rattle.bench_table.specs.Classes.{id_of}
use Rattle.bench_table.proofs.Filling.{fill-new, fill-known, fill-elsewhere, on-ok}
use Rattle.bench_table.proofs.classes.fill.Goals as goal

pub add-requires : goal.add-requires
add-requires c =
    subst (λ (entities : List NewEntity). AreNew c.args.table.now entities) (sym c.in_ok-classes.ensures)
    (fill-new c.args.table.now c.ids-known.ensures.rules c.args.tag c.requires c.args.count)

pub returns-clause-known : goal.returns-clause-known
returns-clause-known c =
    on-ok c.add.result
    (λ same number some within. ap (λ (p : Program). get p.known (id_of c.args.tag number)) (same ∙ ap (with_entities c.args.table.now) c.in_ok-classes.ensures)
    ∙ fill-known c.args.table.now c.args.tag c.args.count number some within)
    c.add.ensures.ok

pub returns-clause-elsewhere : goal.returns-clause-elsewhere
returns-clause-elsewhere c =
    on-ok c.add.result
    (λ same (id : Id) apart. ap (λ (p : Program). get p.known id) (same ∙ ap (with_entities c.args.table.now) c.in_ok-classes.ensures)
    ∙ fill-elsewhere c.args.table.now c.args.tag c.args.count id apart)
    c.add.ensures.ok
