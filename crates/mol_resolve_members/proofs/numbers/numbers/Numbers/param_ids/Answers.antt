use Rattle.std.proofs.Common.{◌≡◌, ◌+◌, ◌≤◌, ◌∷◌, ◌++◌, [], ℕ, map, sym, ◌∙◌, ap, arith}
use Rattle.std.proofs.lemmas.List.FromFn.{map-range_with_len_more}
use Rattle.mol_table_rules.specs.Renumber.{base_id}
use Rattle.mol_resolve_members.specs.places.Listings.{key_of}
use Rattle.mol_resolve_rules.specs.Numbering.{below}
use Rattle.mol_resolve_rules.proofs.FilesStand.{some-same}
use Rattle.mol_resolve_members.specs.numbers.Given.{method_number}
use Rattle.mol_resolve_members.proofs.numbers_lemmas.IdsFound.{param-ids}
use Rattle.mol_resolve_members.proofs.numbers_lemmas.MethodNumbers.{param-fits}
use Rattle.mol_resolve_members.proofs.numbers.numbers.Numbers.param_ids.Goals as goal

pub number-number-requires-clause-fits : goal.number-number-requires-clause-fits
number-number-requires-clause-fits c =
    let arity = c.requires.arity in
    let more : 1 + c.loop-place.place ≤ arity.declared.arity = omega (arith, arity.takes, c.loop-place-test.true) in
    param-fits c.args.self.now (key_of c.args.at) arity.declared arity.stands (1 + c.loop-place.place) more

pub loop-place-preserved : goal.loop-place-preserved
loop-place-preserved c =
    let id = λ (param : ℕ). base_id (method_number c.args.self.now (key_of c.args.at) (1 + param)) in
    c.in_ok-push.ensures.items
    ∙ (λ i. c.loop-place.invariant i ++ (c.base_id.ensures ∙ ap base_id c.number-number.ensures) i ∷ [])
    ∙ sym (map-range_with_len_more id 0 c.loop-place.place c.loop-place.place (omega arith))

pub returns : goal.returns
returns c = λ declared found.
    let arity = c.requires.arity in
    let same : arity.declared ≡ declared = some-same (sym arity.stands ∙ found) in
    let all : c.loop-place.place ≡ declared.arity =
    omega (arith, c.loop-place-test.false, c.loop-place.auto.place-end, arity.takes, ap (λ declared. declared.arity) same) in
    c.loop-place.invariant
    ∙ ap (λ count. map (λ param. base_id (method_number c.args.self.now (key_of c.args.at) (1 + param))) (below count)) all
    ∙ param-ids c.args.self.now (key_of c.args.at) declared found
