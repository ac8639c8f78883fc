use Rattle.std.proofs.Common.{List, ℕ, [], ◌∷◌, ◌++◌, ap, ◌∙◌}
use Rattle.mol_log.proofs.LogKept.{no_entries}
use Rattle.mol_log.proofs.log.Log.empty.Goals as goal

pub invariant_of-result : goal.invariant_of-result
invariant_of-result c =
    let tag = c.args.tag in
    let tags = c.in_ok-add.ensures.ok ∙ ap (λ (ts : List (List ℕ)). ts ++ tag ∷ []) c.new-tags.ensures in
    record { formed = ∣ no_entries tag c.add.new.self c.new.result tags c.new.ensures (c.requires, c.bytes.ensures.tag) ∣₁ }
