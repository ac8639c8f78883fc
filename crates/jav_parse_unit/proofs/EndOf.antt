-- The last of some tokens.
use Rattle.std.proofs.Common.{◌≡◌, ℕ, ◌+◌, ◌-◌, ◌≤◌, ◌<◌, List, [], ◌∷◌, ◌++◌, length, take, get_or, refl, sym, ap, ◌∙◌, arith, Bool}
use Rattle.std.proofs.lemmas.List.{take_all, take_more, map_push}
use Rattle.mol_base.specs.Token.{Token}
use Rattle.jav_lex.specs.Token.{seen, all_seen}
use Rattle.jav_lex.specs.declared.token.Token as code
use Rattle.jav_parse_unit.specs.BadToken.{end_of}
use Rattle.jav_parse_unit.specs.Features.{ends_in_this}

end_of_last : (front : List Token) (t : Token) → end_of (front ++ t ∷ []) ≡ t.end
end_of_last [] t = refl
end_of_last (u ∷ []) t = refl
end_of_last (u ∷ v ∷ front) t = end_of_last (v ∷ front) t

this_at_end : (front : List Token) (t : Token) → ends_in_this (front ++ t ∷ []) ≡ ends_in_this (t ∷ [])
this_at_end [] t = refl
this_at_end (u ∷ []) t = refl
this_at_end (u ∷ v ∷ front) t = this_at_end (v ∷ front) t

split_last : (xs : List code.Token) (x : code.Token) → 1 ≤ length xs → x ≡ get_or xs (length xs - 1) x → all_seen xs ≡ all_seen (take (length xs - 1) xs) ++ seen x ∷ []
split_last xs x some e =
    let lt : length xs - 1 < length xs = omega arith in
    let all : length xs ≤ length xs - 1 + 1 = omega arith in
    ap all_seen (sym (take_all (length xs - 1 + 1) xs all) ∙ take_more xs (length xs - 1) x lt ∙ ap (λ y. take (length xs - 1) xs ++ y ∷ []) (sym e))
    ∙ map_push seen (take (length xs - 1) xs) x

pub end_of_read : (xs : List code.Token) (x : code.Token) → 1 ≤ length xs → x ≡ get_or xs (length xs - 1) x → x.end ≡ end_of (all_seen xs)
end_of_read xs x some e = sym (ap end_of (split_last xs x some e) ∙ end_of_last (all_seen (take (length xs - 1) xs)) (seen x))

pub this_read : (xs : List code.Token) (x : code.Token) → 1 ≤ length xs → x ≡ get_or xs (length xs - 1) x → ends_in_this (seen x ∷ []) ≡ ends_in_this (all_seen xs)
this_read xs x some e = sym (ap ends_in_this (split_last xs x some e) ∙ this_at_end (all_seen (take (length xs - 1) xs)) (seen x))
