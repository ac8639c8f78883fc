use Rattle.std.proofs.Common.{◌∙◌, sym, ap, subst, List}
use Rattle.std.specs.FinMap.{get}
use Rattle.mol_base.specs.declared.ident.Id.{Id}
use Rattle.mol_table_rules.specs.Program.{Program}
use Rattle.mol_table_rules.specs.Writes.{AreNew, with_entities}
use Rattle.mol_table_rules.specs.declared.entity.NewEntity.{NewEntity}
use Rattle.bench_table.specs.Classes.{id_of}
use Rattle.bench_table.proofs.Filling.{class-new, class-elsewhere, on-ok}
use Rattle.bench_table.proofs.classes.add_class.Goals as goal

pub add-requires : goal.add-requires
add-requires c =
    subst (λ (entities : List NewEntity). AreNew c.args.table.now entities) (sym c.in_ok-single_class.ensures)
    (class-new c.args.table.now c.ids-known.ensures.rules (id_of c.args.tag c.args.number) c.requires)

pub returns : goal.returns
returns c =
    on-ok c.add.result
    (λ same (id : Id) apart. ap (λ (p : Program). get p.known id) (same ∙ ap (with_entities c.args.table.now) c.in_ok-single_class.ensures)
    ∙ class-elsewhere c.args.table.now (id_of c.args.tag c.args.number) id apart)
    c.add.ensures.ok
