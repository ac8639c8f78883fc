-- Values are tidied alike by two lists of parameters that agree on what the tidied one mentions.
use Rattle.std.specs.Prelude.{◌≡◌, List, Option, None, Some, option_map}
use Rattle.std.proofs.Common.{refl, ap}
use Rattle.std.proofs.lemmas.List.Elements.{recursion_from_All, Contains-get_or}
use Rattle.mol_base.specs.declared.ident.Id.{Id}
use Rattle.mol_table_laws.specs.Laws.{AgreeOn, TidiedAlike}
use Rattle.mol_table_rules.specs.Mentions.{Mention, body_mentions, type_mentions, maybe_mentions, mentions}
use Rattle.mol_table_rules.specs.Tidy.{tidy_expr, tidy_body, tidy_value}
use Rattle.mol_values_types.specs.declared.iblock.IBody.{IBody}
use Rattle.mol_values_types.specs.declared.param.Param.{Param}
use Rattle.mol_values_types.specs.declared.value.Value.{Value}
use Rattle.mol_values_types.specs.declared.value.Value.TheVariants as values
use Rattle.mol_table_laws.proofs.Blocks.{block-alike, maybe-alike}
use Rattle.mol_table_laws.proofs.Expressions.{AreGood, back, expr-alike}

module _ (here there : Id → List Param) where
  good-from : (mentioned : List Mention) → AgreeOn mentioned here there → AreGood here there mentioned
  good-from mentioned agree =
      recursion_from_All (λ (mention : Mention). here mention.id ≡ there mention.id) mentioned
      (λ k other within. agree _ (Contains-get_or mentioned k other within))

module _ (here there : Id → List Param) (bare : Id → Option Id) where
  body-alike : (o : Option IBody) → AreGood here there (body_mentions (option_map (tidy_body here bare) o))
      → option_map (tidy_body here bare) o ≡ option_map (tidy_body there bare) o
  body-alike None good = refl
  body-alike (Some body) good = let same = block-alike here there bare body.block good in λ i. Some (record { block = same i })

  pub value-alike : (value : Value) → AreGood here there (mentions (tidy_value here bare value)) → tidy_value here bare value ≡ tidy_value there bare value
  value-alike (values.Live x) good = refl
  value-alike (values.Package x) good = refl
  value-alike (values.Owner x) good = refl
  value-alike (values.Method x) good = refl
  value-alike (values.Name x) good = refl
  value-alike (values.Super x) good = refl
  value-alike (values.Result x) good = refl
  value-alike (values.Params x) good = refl
  value-alike (values.Kind x) good = refl
  value-alike (values.Fixed x) good = refl
  value-alike (values.Words x) good = refl
  value-alike (values.Notes x) good = refl
  value-alike (values.Body body) good = ap values.Body (body-alike body good)
  value-alike (values.Value ty init) good =
      ap (values.Value ty) (maybe-alike here there bare init
      (back here there (type_mentions ty) (maybe_mentions (option_map (tidy_expr here bare) init)) good))

pub tidied_alike : TidiedAlike
tidied_alike = record {
  expressions = λ here there bare e agree. expr-alike here there bare e (good-from here there _ agree);
  values = λ here there bare value agree. value-alike here there bare value (good-from here there _ agree);
}
