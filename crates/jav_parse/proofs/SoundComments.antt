-- Comments that are read.
use Rattle.std.proofs.Common.{◌≡◌, ℕ, zero, suc, List, [], ◌∷◌, ◌++◌, refl, sym, ap, ◌∙◌, append_assoc}
use Rattle.std.proofs.lemmas.List.{append-nil}
use Rattle.mol_base.specs.Token.{Token}
use Rattle.jav_tree.specs.Tokens.{IsComment, Comments, none, comment}
use Rattle.jav_parse_cursor.specs.declared.sort.Sort.TheVariants as sort
use Rattle.jav_parse_cursor.specs.Reading.{comments}
use Rattle.jav_parse.proofs.Meets.{Reads, reads_pure, reads_refuse, reads_map, reads_token, reads_when}
use Rattle.jav_parse.proofs.TokenSorts as token

-- Comments, after some that stand elsewhere.
pub record Noted (before notes : List (List ℕ)) (ts : List Token) : Type 0 where
  pub own : List (List ℕ)
  pub all : notes ≡ before ++ own
  pub are : Comments own ts

-- one more at the end
pub more_comments : {own : List (List ℕ)} {ts : List Token} (t : Token) → Comments own ts → IsComment t → Comments (own ++ t.text ∷ []) (ts ++ t ∷ [])
more_comments t none h = comment h none
more_comments t (comment k rest) h = comment k (more_comments t rest h)

pub both_comments : {xs ys : List (List ℕ)} {ts us : List Token} → Comments xs ts → Comments ys us → Comments (xs ++ ys) (ts ++ us)
both_comments none k = k
both_comments (comment h rest) k = comment h (both_comments rest k)

one_more : (before notes : List (List ℕ)) (ts : List Token) (t : Token) → IsComment t → Noted before notes ts → Noted before (notes ++ t.text ∷ []) (ts ++ t ∷ [])
one_more before notes ts t h k = record {
  own = k.own ++ t.text ∷ [];
  all = ap (λ r. r ++ t.text ∷ []) k.all ∙ append_assoc before k.own (t.text ∷ []);
  are = more_comments t k.are h;
}

pub reads_comments : (n : ℕ) (before notes : List (List ℕ)) (ts : List Token) → Noted before notes ts → Reads (λ y vs. Noted before y (ts ++ vs)) (comments n notes)
unfolding comments
reads_comments zero before notes ts h = reads_refuse (notes, [], rw append-nil h)
reads_comments (suc n) before notes ts h = reads_when sort.Comment
    (reads_token (λ z. cc)
    (λ t k. reads_map (reads_comments n before (notes ++ t.text ∷ []) (ts ++ t ∷ []) (one_more before notes ts t (token.comment_is t k) h)) (λ y us q. rw append_assoc at q)))
    (reads_pure notes (rw append-nil h))

no_notes : (before : List (List ℕ)) → Noted before before []
no_notes before = record { own = []; all = sym (append-nil before); are = none }

-- the same after comments that stand elsewhere
pub comments_after : (n : ℕ) (before : List (List ℕ)) → Reads (λ y vs. Noted before y vs) (comments n before)
comments_after n before = reads_comments n before before [] (no_notes before)

-- the same after comments that were read
pub comments_with : (n : ℕ) (notes : List (List ℕ)) (ts : List Token) → Comments notes ts → Reads (λ y vs. Comments y (ts ++ vs)) (comments n notes)
comments_with n notes ts h = reads_map (reads_comments n [] notes ts (record { own = notes; all = refl; are = h })) (λ y vs k. rw k.all k.are)

-- the comments that stand here
pub comments_here : (n : ℕ) → Reads Comments (comments n [])
comments_here n = comments_with n [] [] none
