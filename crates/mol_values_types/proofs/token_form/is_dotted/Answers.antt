use Rattle.std.proofs.Common.{nat_eq, rules}
use Rattle.std.proofs.lemmas.Iterator.Search.{all_from_yields_List}
use Rattle.std.proofs.lemmas.Iterator.Splits.{YieldsList-from_slice_split}
use Rattle.mol_values_types.specs.TokenForms.{is_name}
use Rattle.mol_values_types.proofs.token_form.is_dotted.Goals as goal

pub returns : goal.returns
returns c =
    let all = all_from_yields_List is_name _ _ c.all.result c.all.ensures.ran
    (YieldsList-from_slice_split _
    (λ byte. nat_eq byte 46) c.args.bytes.now c.split.ensures.rest c.split.ensures.done c.split.ensures.closure
    (λ x b q k. search rules))
    (λ x b q k. search rules) in
    search rules
