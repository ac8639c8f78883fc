use Rattle.std.proofs.Common.{◌≡◌, ◌∙◌, ℕ, List, [], ◌∷◌, ◌++◌, length, ap}
use Rattle.std.specs.FinMap.{get}
use Rattle.std.specs.Fmt.{decimal}
use Rattle.std.proofs.lemmas.List.{append_assoc}
use Rattle.mol_report.specs.Labels.{owner_text}
use Rattle.mol_table_rules.specs.Program.{owner_at, params_at}
use Rattle.mol_report.proofs.DeclarationAddresses.{declaration-address}
use Rattle.mol_report.proofs.addresses.push_declaration.Goals as goal

-- what is appended piece by piece
joined : (out owner name count : List ℕ)
    → out ++ owner ++ 46 ∷ [] ++ name ++ 47 ∷ [] ++ count ≡ out ++ (owner ++ 46 ∷ name ++ 47 ∷ count)
joined out owner name count =
    append_assoc (out ++ owner ++ 46 ∷ [] ++ name) (47 ∷ []) count
    ∙ ap (λ l. l ++ 47 ∷ count) (append_assoc (out ++ owner) (46 ∷ []) name ∙ append_assoc out owner (46 ∷ name))
    ∙ append_assoc out (owner ++ 46 ∷ name) (47 ∷ count)

pub returns : goal.returns
returns c =
    let base = c.args.base.now in
    let method = c.args.method.now in
    let out : List ℕ = c.args.out.now.items in
    let owner = owner_text base (owner_at base c.args.decl.now) in
    let name : List ℕ = c.as_bytes.result.now in
    let known = get base.known method in
    c.in_ok-push_number.ensures
    ∙ ap (λ l. l ++ decimal (length c.params_of.result.now))
    (c.in_ok-push-2.ensures.items ∙ ap (λ l. l ++ 47 ∷ []) (c.in_ok-extend_from_slice.ensures.items
    ∙ ap (λ l. l ++ name) (c.in_ok-push.ensures.items ∙ ap (λ l. l ++ 46 ∷ []) c.in_ok-push_owner.ensures)))
    ∙ joined out owner name (decimal (length c.params_of.result.now))
    ∙ (λ i. out ++ (owner ++ 46 ∷ (c.as_bytes.ensures.value ∙ c.declared_name.ensures) i ++ 47 ∷ decimal (length (c.params_of.ensures i))))
    ∙ ap (λ l. out ++ l) (declaration-address base c.args.decl.now method known)
