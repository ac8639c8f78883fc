-- Comments by their form, and the scan for their ends.
use Rattle.std.proofs.Common.{◌≡◌, ℕ, suc, ◌+◌, Bool, true, false, ◌&&◌, List, [], ◌∷◌, ◌++◌, drop, length, get_or, refl, sym, ◌∙◌, ap, subst, arith, cond, nat_eq, length-append}
use Rattle.std.specs.Prelude.{All, IsFalse, nat_lt, codes}
use Rattle.std.proofs.lemmas.Bool.{and_parts, cond_both, lt-ltb, eqb-true, true≢false}
use Rattle.std.proofs.lemmas.List.Elements.{All-nil, All-cons, All-head, All-tail}
use Rattle.mol_base.specs.Lexical.Characters.{is_line_end, first}
use Rattle.mol_base.specs.Lexical.Comments.{line_len, before_close, line_comment, block_comment}
use Rattle.mol_base.specs.Lexical.Forms.Comment.{IsComment, line, block}
use Rattle.mol_base.specs.Lexical.Front.{front, IsWhole}
use Rattle.mol_base.specs.declared.token_kind.TokenKind.{TokenKind}
use Rattle.mol_base.specs.declared.token_kind.TokenKind.TheVariants.{Comment}
use Rattle.mol_base.specs.declared.lexical.front.Front.TheVariants.{Taken, Wrong}
use Rattle.mol_base.specs.declared.lexical.front.Flaw.TheVariants.{OpenComment}

abbrev InLine : ℕ → Type 0
InLine byte = IsFalse (is_line_end byte)

line_len-all : (text : List ℕ) → All InLine text → line_len text ≡ length text
line_len-all [] all = refl
line_len-all (b ∷ bs) all =
    let here : is_line_end b ≡ false = All-head InLine b bs all in
    rw here (omega (arith, line_len-all bs (All-tail InLine b bs all)))

all-line_len : (text : List ℕ) → line_len text ≡ length text → All InLine text
all-line_len [] h = All-nil InLine
all-line_len (b ∷ bs) h =
    cond_both (is_line_end b) 0 (1 + line_len bs) (λ x. x ≡ suc (length bs) → All InLine (b ∷ bs)) (λ _ none. absurd (omega arith))
    (λ here more. All-cons InLine b bs here (all-line_len bs (omega arith))) h

-- nothing stands after any `*/` of the body and the one after it
abbrev EndsFirst : List ℕ → Type 0
EndsFirst body = (before after : List ℕ) → body ++ codes "*/" ≡ before ++ codes "*/" ++ after → after ≡ []

none_left : (xs : List ℕ) → length xs ≡ 0 → xs ≡ []
none_left [] h = refl
none_left (x ∷ xs) h = absurd (omega arith)

before_close-first : (body : List ℕ) → EndsFirst body → before_close (body ++ codes "*/") ≡ length body
before_close-first [] ends = refl
before_close-first (b ∷ bs) ends =
    let rest : List ℕ = bs ++ codes "*/" in
    let len : length rest ≡ length bs + 2 = length-append bs (codes "*/") in
    cond_both (nat_eq b 42 && nat_eq (first rest) 47) 0 (1 + before_close rest) (λ x. x ≡ suc (length bs))
    (λ is. absurd (closed rest refl (eqb-true b 42 (and_parts (nat_eq b 42) (nat_eq (first rest) 47) is).0) (eqb-true (first rest) 47 (and_parts (nat_eq b 42) (nat_eq (first rest) 47) is).1)))
    (λ _. omega (arith, before_close-first bs (λ before after e. ends (b ∷ before) after (ap (λ (xs : List ℕ). b ∷ xs) e))))
  where
    closed : (rest : List ℕ) → bs ++ codes "*/" ≡ rest → b ≡ 42 → first rest ≡ 47 → ⊥
    closed [] e star slash = let len = ap (λ (xs : List ℕ). length xs) e in absurd (omega (arith, length-append bs (codes "*/")))
    closed (c ∷ after) e star slash =
        let len : length (bs ++ codes "*/") ≡ suc (length after) = ap (λ (xs : List ℕ). length xs) e in
        let none : after ≡ [] = ends [] after (cc) in
        let gone : length after ≡ 0 = ap (λ (xs : List ℕ). length xs) none in
        absurd (omega (arith, length-append bs (codes "*/")))

EndsFirst-before_close : (r : List ℕ) → before_close r + 2 ≡ length r → (body : List ℕ) × (r ≡ body ++ codes "*/") × EndsFirst body
EndsFirst-before_close [] h = absurd (omega arith)
EndsFirst-before_close (b ∷ bs) h =
    cond_both (nat_eq b 42 && nat_eq (first bs) 47) 0 (1 + before_close bs) (λ x. x + 2 ≡ suc (length bs) → (body : List ℕ) × (b ∷ bs ≡ body ++ codes "*/") × EndsFirst body)
    (λ is two. let both = and_parts (nat_eq b 42) (nat_eq (first bs) 47) is in at_end bs (eqb-true b 42 both.0) (eqb-true (first bs) 47 both.1) (omega arith))
    (λ not more. further not (EndsFirst-before_close bs (omega arith))) h
  where
    at_end : (rest : List ℕ) → b ≡ 42 → first rest ≡ 47 → length rest ≡ 1 → (body : List ℕ) × (b ∷ rest ≡ body ++ codes "*/") × EndsFirst body
    at_end [] star slash len = absurd (omega arith)
    at_end (c ∷ rest) star slash len =
        let none : rest ≡ [] = none_left rest (omega arith) in
        ([], cc, λ before after e. none_left after (omega (arith, ap (λ (xs : List ℕ). length xs) e, length-append (before ++ codes "*/") after, length-append before (codes "*/"))))

    further : (nat_eq b 42 && nat_eq (first bs) 47) ≡ false → (body : List ℕ) × (bs ≡ body ++ codes "*/") × EndsFirst body → (body : List ℕ) × (b ∷ bs ≡ body ++ codes "*/") × EndsFirst body
    further not rest = (b ∷ rest.0, ap (λ (xs : List ℕ). b ∷ xs) rest.1, split) where
      split : EndsFirst (b ∷ rest.0)
      split [] after e =
          let star : b ≡ 42 = ap (λ (xs : List ℕ). get_or xs 0 0) e in
          let slash : first bs ≡ 47 = ap (λ (xs : List ℕ). first xs) rest.1 ∙ ap (λ (xs : List ℕ). get_or xs 1 0) e in
          absurd (true≢false (rw (star, slash) at not))
      split (x ∷ before) after e = rest.2 before after (ap (λ (xs : List ℕ). drop 1 xs) e)

-- a comment is the whole of what is taken
pub IsWhole-comment : (bytes : List ℕ) → IsComment bytes → IsWhole Comment bytes
unfolding front line_comment block_comment
IsWhole-comment bytes (line c) = let P : List ℕ → Type 0 = IsWhole Comment in subst P (sym c.spelled) (ap (λ (n : ℕ). Taken Comment n) (omega (arith, line_len-all c.text c.within_line)))
IsWhole-comment bytes (block c) =
    let rest : List ℕ = c.body ++ codes "*/" in
    let len : length rest ≡ length c.body + 2 = length-append c.body (codes "*/") in
    let same : before_close rest ≡ length c.body = before_close-first c.body c.first_end in
    let inside : nat_lt (length c.body) (length rest) ≡ true = lt-ltb _ _ (omega arith) in
    let P : List ℕ → Type 0 = IsWhole Comment in
    subst P (sym c.spelled) (rw (same, inside) (ap (λ (n : ℕ). Taken Comment n) (omega arith)))

-- and what is taken as a comment, as a whole, is one
pub IsComment-line : (r : List ℕ) (kind : TokenKind) → first r ≡ 47 → get_or r 1 0 ≡ 47 → line_comment r ≡ Taken kind (length r) → (kind ≡ Comment) × IsComment r
unfolding line_comment
IsComment-line [] kind one two taken = absurd (omega arith)
IsComment-line (a ∷ []) kind one two taken = absurd (omega arith)
IsComment-line (a ∷ b ∷ text) kind one two taken =
    let is : kind ≡ Comment = cc in
    let len : line_len (a ∷ b ∷ text) ≡ suc (suc (length text)) = cc in
    let all : All InLine (a ∷ b ∷ text) = all-line_len (a ∷ b ∷ text) len in
    (is, line (record { text = text; spelled = cc; within_line = All-tail InLine b text (All-tail InLine a (b ∷ text) all) }))

block_taken : (t : Bool) (k n : ℕ) (kind : TokenKind) → cond t (Taken Comment (2 + k + 2)) (Wrong OpenComment 0) ≡ Taken kind n → (kind ≡ Comment) × (2 + k + 2 ≡ n)
block_taken true k n kind is = (cc, cc)
block_taken false k n kind is = absurd cc

pub IsComment-block : (r : List ℕ) (kind : TokenKind) → first r ≡ 47 → get_or r 1 0 ≡ 42 → block_comment r ≡ Taken kind (length r) → (kind ≡ Comment) × IsComment r
unfolding block_comment
IsComment-block [] kind one two taken = absurd (omega arith)
IsComment-block (a ∷ []) kind one two taken = absurd (omega arith)
IsComment-block (a ∷ b ∷ rest) kind one two taken =
    let end = block_taken (nat_lt (before_close rest) (length rest)) (before_close rest) (suc (suc (length rest))) kind taken in
    let parts = EndsFirst-before_close rest (omega (arith, end.1)) in
    let spelled : rest ≡ parts.0 ++ codes "*/" = parts.1 in
    (end.0, block (record { body = parts.0; spelled = cc; first_end = parts.2 }))
