use Rattle.std.proofs.Common.{◌≡◌, ◌∙◌, ◌∷◌, ◌++◌, [], false, true, List, ℕ, Some, None, cond, filter_map, take, sym, ap}
use Rattle.std.specs.Option.{option_to_list}
use Rattle.std.proofs.lemmas.List.{append_assoc, take_all}
use Rattle.mol_base.specs.declared.ident.Id.{Id}
use Rattle.mol_faults_entities.specs.package_faults.Packages.{begins}
use Rattle.mol_faults_entities.specs.package_faults.Pairs.{inside_of}
use Rattle.mol_faults_entities.specs.declared.package_faults.package_rows.PackageRow.{PackageRow}
use Rattle.mol_faults_entities.proofs.package_faults_lemmas.RunsFound.{made-more, run-starts, run-ended}
use Rattle.mol_faults_entities.proofs.package_faults.inside.add_inside.Goals as goal

pub loop-row-preserved : goal.loop-row-preserved
loop-row-preserved c =
    let class : Id = c.args.class.now in
    let name : List ℕ = c.args.name.now in
    let run : List PackageRow = c.rows_from-run.result.now in
    let i = c.loop-row.row-index in
    let row : PackageRow = c.row-item.result in
    let begun : begins name row.dotted ≡ true = ap (begins name) (sym c.bytes.ensures.bytes) ∙ sym c.starts_with.ensures.value
    ∙ c.if-not-starts_with.false in
    c.in_ok-push.ensures.items
    ∙ ap (λ pairs. pairs ++ record { class = class; inside = row.class } ∷ []) c.loop-row.invariant
    ∙ append_assoc c.args.pairs.now.items (filter_map (inside_of class name) (take i run))
    (record { class = class; inside = row.class } ∷ [])
    ∙ ap (λ pairs. c.args.pairs.now.items ++ pairs) (sym (made-more (inside_of class name) run i row c.loop-row-test.true c.row-item.is
    ∙ ap (λ b. filter_map (inside_of class name) (take i run) ++ option_to_list
    (cond b (Some (record { class = class; inside = row.class })) None)) begun))

pub returns-then-not-starts_with : goal.returns-then-not-starts_with
returns-then-not-starts_with c =
    let class : Id = c.args.class.now in
    let name : List ℕ = c.args.name.now in
    let rows : List PackageRow = c.args.rows.now in
    let run = c.rows_from-run.ensures in
    let i = c.loop-row.row-index in
    let row : PackageRow = c.row-item.result in
    let fails : begins name row.dotted ≡ false = ap (begins name) (sym c.bytes.ensures.bytes) ∙ sym c.starts_with.ensures.value
    ∙ c.if-not-starts_with.true in
    c.loop-row.invariant ∙ ap (λ pairs. c.args.pairs.now.items ++ pairs)
    (run-ended class name rows c.requires run.place run.within run.parts c.rows_from-run.result.now run.is i row c.loop-row-test.true
    c.row-item.is fails)

pub returns : goal.returns
returns c =
    let class : Id = c.args.class.now in
    let name : List ℕ = c.args.name.now in
    let run = c.rows_from-run.ensures in
    c.loop-row.invariant ∙ ap (λ pairs. c.args.pairs.now.items ++ pairs)
    (ap (filter_map (inside_of class name)) (take_all c.loop-row.row-index c.rows_from-run.result.now c.loop-row-test.false ∙ run.is)
    ∙ sym (run-starts class name c.args.rows.now c.requires run.place run.within run.parts))
