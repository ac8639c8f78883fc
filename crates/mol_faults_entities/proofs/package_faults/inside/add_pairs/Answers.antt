use Rattle.std.proofs.Common.{◌≡◌, ◌∙◌, ◌++◌, [], List, cond, filter_map, sym, ap, subst}
use Rattle.std.specs.Prelude.{OnOk}
use Rattle.std.proofs.lemmas.List.{append-nil}
use Rattle.mol_base.specs.declared.ident.Id.{Id}
use Rattle.mol_faults_entities.specs.package_faults.Packages.{dotted_name}
use Rattle.mol_faults_entities.specs.package_faults.Pairs.{inside_of}
use Rattle.mol_faults_entities.specs.declared.package_faults.inside.Inside.{Inside}
use Rattle.mol_faults_entities.specs.declared.package_faults.package_rows.PackageRow.{PackageRow}
use Rattle.mol_faults_entities.proofs.package_faults.inside.add_pairs.Goals as goal

pub returns-in_ok-name : goal.returns-in_ok-name
returns-in_ok-name c =
    let program = c.args.table.now in
    let rows : List PackageRow = c.args.rows.now in
    let id : Id = c.args.id.now in
    let named = ap (λ name. filter_map (inside_of id name) rows) (c.bytes.ensures.bytes ∙ c.in_ok-name.ensures)
    ∙ sym (ap (λ b. cond b (filter_map (inside_of id (dotted_name program id)) rows) [])
    (sym c.is_living_class.ensures ∙ c.if-is_living_class.true)) in
    subst (λ (pairs : List Inside). OnOk c.add_inside.result (c.add_inside.new.pairs.items ≡ c.args.pairs.now.items ++ pairs)) named
    c.add_inside.ensures

pub returns-else-is_living_class : goal.returns-else-is_living_class
returns-else-is_living_class c =
    let program = c.args.table.now in
    let rows : List PackageRow = c.args.rows.now in
    let id : Id = c.args.id.now in
    let old : List Inside = c.args.pairs.now.items in
    sym (ap (λ b. old ++ cond b (filter_map (inside_of id (dotted_name program id)) rows) [])
    (sym c.is_living_class.ensures ∙ c.if-is_living_class.false)
    ∙ append-nil old)
