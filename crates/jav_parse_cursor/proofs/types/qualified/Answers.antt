use Rattle.std.proofs.Common.{◌≡◌, ◌∙◌, ◌-◌, ap, sym, arith, rules, length, take, Ok, ◌∷◌, []}
use Rattle.std.proofs.lemmas.List.{length-map}
use Rattle.jav_lex.specs.Token.{seen, all_seen}
use Rattle.jav_parse_cursor.specs.Reading.{and_then}
use Rattle.jav_parse_cursor.specs.TypeRules.{further_names, qualified}
use Rattle.jav_parse_cursor.proofs.NamesRead.{names_left, names_are}
use Rattle.jav_parse_cursor.proofs.types.qualified.Goals as goal

pub overflow_sub-taken : goal.overflow_sub-taken
overflow_sub-taken c =
    let k = c.in_ok-further_names.ensures in
    let l = names_left _ _ _ _ _ k.1 in
    let s = ap length c.rest-after.ensures in
    let m = length-map c.rest-after.result.now seen in
    omega arith

pub returns : goal.returns
unfolding qualified
returns c =
    let k = c.in_ok-further_names.ensures in
    let f = ap (further_names c.args.limits.turns (seen c.in_ok-first.first.now ∷ [])) c.rest-after.ensures ∙ k.1 in
    let n = names_are _ _ _ _ _ f in
    ap (λ o. and_then o (λ t. further_names c.args.limits.turns (t ∷ []))) c.in_ok-first.ensures
    ∙ k.1
    ∙ ap (λ x. Ok (x, c.further_names.new.tokens))
    (n ∙ ap (λ m. seen c.in_ok-first.first.now ∷ all_seen (take (length c.rest-after.result.now - m) c.rest-after.result.now)) (sym c.left.ensures))
