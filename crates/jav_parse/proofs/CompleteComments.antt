-- Comments of the grammar are read.
use Rattle.std.proofs.Common.{◌≡◌, ℕ, zero, suc, ◌<◌, false, List, [], ◌∷◌, ◌++◌, length, Ok, refl, sym, ap, ◌∙◌, append_assoc, append-nil, arith}
use Rattle.mol_base.specs.Token.{Token}
use Rattle.jav_tree.specs.Tokens.{Comments, none, comment}
use Rattle.jav_parse_cursor.specs.declared.sort.Sort.{Sort}
use Rattle.jav_parse_cursor.specs.declared.sort.Sort.TheVariants as sort
use Rattle.jav_parse_cursor.specs.Reading.{comments, take_token, sort as next}
use Rattle.jav_parse_cursor.specs.Sorts.{sort_of, same_sort}
use Rattle.jav_parse.proofs.ReadingSteps.{IsNot, is_not, same_self}
use Rattle.jav_parse.proofs.SortsOfTokens.{comment_sort}

comments_end : (n : ℕ) (notes : List (List ℕ)) (rest : List Token) → IsNot sort.Comment rest → comments (suc n) notes rest ≡ Ok (notes, rest)
unfolding comments
comments_end n notes rest h = rw h refl

comment_goes : (n : ℕ) (notes : List (List ℕ)) (t : Token) (rest : List Token) → sort_of t ≡ sort.Comment → comments (suc n) notes (t ∷ rest) ≡ comments n (notes ++ t.text ∷ []) rest
unfolding comments next take_token
comment_goes n notes t rest h = rw (h, same_self sort.Comment) refl

pub comments_read : {texts : List (List ℕ)} {cs : List Token} → Comments texts cs → (n : ℕ) → length cs < n → (notes : List (List ℕ)) (rest : List Token) → IsNot sort.Comment rest
    → comments n notes (cs ++ rest) ≡ Ok (notes ++ texts, rest)
comments_read c zero few notes rest h = absurd (omega arith)
comments_read none (suc n) few notes rest h = comments_end n notes rest h ∙ ap (λ r. Ok (r, rest)) (sym (append-nil notes))
comments_read (comment {t = t} {texts = texts} {ts = ts} k c) (suc n) few notes rest h =
    comment_goes n notes t (ts ++ rest) (comment_sort k) ∙ comments_read c n (omega arith) (notes ++ t.text ∷ []) rest h
    ∙ ap (λ r. Ok (r, rest)) (append_assoc notes (t.text ∷ []) texts)

-- what follows comments, or the first of them
pub comments_not : {texts : List (List ℕ)} {cs : List Token} → Comments texts cs → (s : Sort) → same_sort sort.Comment s ≡ false → (rest : List Token) → IsNot s rest → IsNot s (cs ++ rest)
comments_not none s q rest h = h
comments_not (comment {t = t} {ts = ts} k c) s q rest h = is_not s sort.Comment t (ts ++ rest) (comment_sort k) q
