use Rattle.std.proofs.Common.{◌≡◌, ◌∙◌, ℕ, List, [], ◌∷◌, ◌++◌, codes, ap}
use Rattle.std.proofs.lemmas.List.{append_assoc}
use Rattle.mol_report.specs.Labels.{cell_text}
use Rattle.mol_report.proofs.fault_text.push_clash.Goals as goal

pub returns : goal.returns
returns c =
    let out : List ℕ = c.args.out.now.items in
    let cell : List ℕ = cell_text c.args.labels.now c.args.cell.now in
    let name : List ℕ = c.bytes.result.now in
    let word : List ℕ = codes "local-clash " in
    c.in_ok-extend_from_slice.ensures.items
    ∙ ap (λ l. l ++ name) (c.in_ok-push.ensures.items ∙ ap (λ l. l ++ 32 ∷ []) c.in_ok-push_in_cell.ensures)
    ∙ append_assoc (out ++ word ++ cell) (32 ∷ []) name
    ∙ ap (λ n. out ++ word ++ cell ++ 32 ∷ n) c.bytes.ensures.bytes
