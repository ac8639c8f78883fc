-- Indents and comments as phrases.
use Rattle.std.proofs.Common.{◌≡◌, ℕ, zero, suc, true, List, [], ◌∷◌, ◌++◌, refl, append_assoc}
use Rattle.std.proofs.lemmas.Bool.{and_parts}
use Rattle.mol_base.specs.Token.{Token}
use Rattle.mol_base.specs.Lexical.Front.{token_kind}
use Rattle.mol_base.specs.declared.token_kind.TokenKind.TheVariants as kind
use Rattle.jav_print_laws.specs.pieces.Pieces.{may_follow}
use Rattle.jav_tree.specs.Lines.{line_end, indent, comment_lines}
use Rattle.jav_tree.specs.TokenTexts.{are_comments}
use Rattle.jav_tree.specs.Tokens.{Comments}
use Rattle.jav_tree.specs.Tokens as tokens
use Rattle.jav_print_laws.proofs.layout_lemmas.Names.{comment_kind_is}
use Rattle.jav_print_laws.proofs.layout_lemmas.Phrases.{Phrase, Any, Nothing, nothing, Then, both, OneOf, one_of, empty, token, makes, then, space, line}

-- an indent, and a phrase
pub indented : {Is : List Token → Type 0} {May : ℕ → Type 0} {t : List ℕ} (n : ℕ) → Phrase Is May t → Phrase Is May (indent n ++ t)
indented zero p = p
indented {t = t} (suc n) p = space (space (space (space (indented n p))))

comment_may : (text : List ℕ) → may_follow kind.Comment text 10 ≡ true
unfolding may_follow
comment_may text = refl

no_comments : (ts : List Token) → Nothing ts → Comments [] ts
no_comments _ nothing = tokens.none

more_comments : (text : List ℕ) (texts : List (List ℕ)) (ts : List Token) → Then (OneOf kind.Comment text) (Comments texts) ts → Comments (text ∷ texts) ts
more_comments _ texts _ (both _ _ (one_of t is) rest) = tokens.comment (record { comment = is }) rest

regroup_comment : (x y z : List ℕ) → x ++ (y ++ (10 ∷ z)) ≡ x ++ y ++ line_end ++ z
regroup_comment x y z = let e : x ++ (y ++ (line_end ++ z)) ≡ x ++ y ++ line_end ++ z = simp append_assoc refl in e

-- comments, each on a line of its own at this indent
pub comments : (n : ℕ) (texts : List (List ℕ)) → are_comments texts ≡ true → Phrase (Comments texts) Any (comment_lines n texts)
comments n [] all = makes empty refl no_comments
comments n (text ∷ texts) all =
    let p = and_parts _ (are_comments texts) all in
    let known = comment_kind_is (token_kind text) p.0 in
    makes (indented n (then (token kind.Comment text known) (line (comments n texts p.1)) (λ b ok. comment_may text))) (regroup_comment (indent n) text (comment_lines n texts)) (more_comments text texts)
