-- What a token's sort says of its kind and text: the tables of sorts, read both ways.
use Rattle.std.proofs.Common.{◌≡◌, ◌⊎◌, inl, inr, ℕ, Bool, true, false, List, [], ◌∷◌, if◌then◌else◌, refl, sym, subst}
use Rattle.std.specs.Str.{bytes_eq}
use Rattle.std.proofs.lemmas.Slice.Eq.{bytes_eq-Decides}
use denote.Enum.Bare.{same_true, true_same}
use Rattle.mol_base.specs.Token.{Token}
use Rattle.mol_base.specs.declared.token_kind.TokenKind.{TokenKind}
use Rattle.mol_base.specs.declared.token_kind.TokenKind.TheVariants as kind
use Rattle.jav_parse_cursor.specs.contracts.sort.Sort.{the_type}
use Rattle.jav_parse_cursor.specs.declared.sort.Sort.{Sort}
use Rattle.jav_parse_cursor.specs.declared.sort.Sort.TheVariants as sort
use Rattle.jav_parse_cursor.specs.Sorts.{same_sort, looked_up, symbols, keywords, by_kind, sort_of}

-- two sorts that test as the same are the same
pub is_same : (a b : Sort) → same_sort a b ≡ true → a ≡ b
unfolding same_sort
is_same a b h = same_true the_type tt a b h

-- the texts of the rows of a sort
abbrev pub texts_of : Sort → List (List ℕ × Sort) → List (List ℕ)
texts_of s [] = []
texts_of s (row ∷ rest) = if same_sort row.1 s then row.0 ∷ texts_of s rest else texts_of s rest

-- a text is one of these
abbrev pub OneOf : List (List ℕ) → List ℕ → Type 0
OneOf [] text = ⊥
OneOf (word ∷ rest) text = (text ≡ word) ⊎ OneOf rest text

later : (keep : Bool) (word : List ℕ) (rest : List (List ℕ)) (text : List ℕ) → OneOf rest text → OneOf (if keep then word ∷ rest else rest) text
later true word rest text h = inr h
later false word rest text h = h

here : (keep : Bool) (word : List ℕ) (rest : List (List ℕ)) (text : List ℕ) → keep ≡ true → text ≡ word → OneOf (if keep then word ∷ rest else rest) text
here true word rest text k e = inl e
here false word rest text k e = absurd (cc)

-- the test of a row
written_by : (found : Bool) (word : List ℕ) (own next s : Sort) (rest : List (List ℕ)) (text : List ℕ) → (found ≡ true → text ≡ word)
    → (same_sort next s ≡ true → OneOf rest text) → same_sort (if found then own else next) s ≡ true → OneOf (if same_sort own s then word ∷ rest else rest) text
written_by true word own next s rest text e go h = here (same_sort own s) word rest text h (e refl)
written_by false word own next s rest text e go h = later (same_sort own s) word rest text (go h)

-- a text that is found with a sort is one of the texts of that sort
pub written : (rows : List (List ℕ × Sort)) (s : Sort) (text : List ℕ) → same_sort sort.Other s ≡ false → same_sort (looked_up rows text) s ≡ true → OneOf (texts_of s rows) text
written [] s text other h = absurd (cc)
written (row ∷ rest) s text other h = written_by (bytes_eq row.0 text) row.0 row.1 (looked_up rest text) s (texts_of s rest) text
    (λ b. sym ((bytes_eq-Decides row.0 text).0 b)) (λ k. written rest s text other k) h

-- a sort that a word, a literal, a comment and any other token do not have
abbrev pub Apart : Sort → Type 0
Apart s = (same_sort sort.Name s ≡ false) × (same_sort sort.Literal s ≡ false) × (same_sort sort.Comment s ≡ false) × (same_sort sort.Other s ≡ false)

true_not_false : {A : Type 0} (b : Bool) → b ≡ true → b ≡ false → A
true_not_false b h k = absurd (cc)

symbol_by : (k : TokenKind) (text : List ℕ) (s : Sort) → Apart s → ((w : List ℕ) → OneOf (texts_of s keywords) w → ⊥) → same_sort (by_kind k text) s ≡ true
    → (k ≡ kind.Symbol) × OneOf (texts_of s symbols) text
symbol_by kind.Word text s a none h = true_not_false (same_sort sort.Name s) h a.0
symbol_by kind.Literal text s a none h = true_not_false (same_sort sort.Literal s) h a.1
symbol_by kind.Comment text s a none h = true_not_false (same_sort sort.Comment s) h a.2
symbol_by kind.Symbol text s a none h = (refl, written symbols s text a.3 h)
symbol_by kind.Keyword text s a none h = absurd (none text (written keywords s text a.3 h))

keyword_by : (k : TokenKind) (text : List ℕ) (s : Sort) → Apart s → ((w : List ℕ) → OneOf (texts_of s symbols) w → ⊥) → same_sort (by_kind k text) s ≡ true
    → (k ≡ kind.Keyword) × OneOf (texts_of s keywords) text
keyword_by kind.Word text s a none h = true_not_false (same_sort sort.Name s) h a.0
keyword_by kind.Literal text s a none h = true_not_false (same_sort sort.Literal s) h a.1
keyword_by kind.Comment text s a none h = true_not_false (same_sort sort.Comment s) h a.2
keyword_by kind.Symbol text s a none h = absurd (none text (written symbols s text a.3 h))
keyword_by kind.Keyword text s a none h = (refl, written keywords s text a.3 h)

same_as : (a s : Sort) → a ≡ s → same_sort a s ≡ true
unfolding same_sort
same_as a s e = true_same the_type a s e

-- a token of a sort that only symbols have
pub symbol_of : (t : Token) (s : Sort) → Apart s → ((w : List ℕ) → OneOf (texts_of s keywords) w → ⊥) → sort_of t ≡ s → (t.kind ≡ kind.Symbol) × OneOf (texts_of s symbols) t.text
unfolding sort_of
symbol_of t s a none h = symbol_by t.kind t.text s a none (same_as (by_kind t.kind t.text) s h)

-- a token of a sort that only keywords have
pub keyword_of : (t : Token) (s : Sort) → Apart s → ((w : List ℕ) → OneOf (texts_of s symbols) w → ⊥) → sort_of t ≡ s → (t.kind ≡ kind.Keyword) × OneOf (texts_of s keywords) t.text
unfolding sort_of
keyword_of t s a none h = keyword_by t.kind t.text s a none (same_as (by_kind t.kind t.text) s h)

-- a token of this kind has the sort of its kind, or that of a row
sort_by : (k : TokenKind) (text : List ℕ) (s : Sort) → ((w : List ℕ) → OneOf (texts_of s symbols) w → ⊥) → ((w : List ℕ) → OneOf (texts_of s keywords) w → ⊥) → same_sort sort.Other s ≡ false
    → same_sort (by_kind k text) s ≡ true → ((k ≡ kind.Word) × (same_sort sort.Name s ≡ true)) ⊎ (((k ≡ kind.Literal) × (same_sort sort.Literal s ≡ true)) ⊎ ((k ≡ kind.Comment) × (same_sort sort.Comment s ≡ true)))
sort_by kind.Word text s n m o h = inl (refl, h)
sort_by kind.Literal text s n m o h = inr (inl (refl, h))
sort_by kind.Comment text s n m o h = inr (inr (refl, h))
sort_by kind.Symbol text s n m o h = absurd (n text (written symbols s text o h))
sort_by kind.Keyword text s n m o h = absurd (m text (written keywords s text o h))

-- a name
pub word_of : (t : Token) → sort_of t ≡ sort.Name → t.kind ≡ kind.Word
unfolding sort_of same_sort
word_of t h = elim (sort_by t.kind t.text sort.Name (λ w n. n) (λ w n. n) refl (same_as (by_kind t.kind t.text) sort.Name h)) [ inl a ↦ a.0 | inr b ↦ elim b [ inl a ↦ absurd (cc) | inr a ↦ absurd (cc) ] ]

-- a literal
pub literal_of : (t : Token) → sort_of t ≡ sort.Literal → t.kind ≡ kind.Literal
unfolding sort_of same_sort
literal_of t h = elim (sort_by t.kind t.text sort.Literal (λ w n. n) (λ w n. n) refl (same_as (by_kind t.kind t.text) sort.Literal h)) [ inl a ↦ absurd (cc) | inr b ↦ elim b [ inl a ↦ a.0 | inr a ↦ absurd (cc) ] ]

-- a comment
pub comment_of : (t : Token) → sort_of t ≡ sort.Comment → t.kind ≡ kind.Comment
unfolding sort_of same_sort
comment_of t h = elim (sort_by t.kind t.text sort.Comment (λ w n. n) (λ w n. n) refl (same_as (by_kind t.kind t.text) sort.Comment h)) [ inl a ↦ absurd (cc) | inr b ↦ elim b [ inl a ↦ absurd (cc) | inr a ↦ a.0 ] ]

-- what holds of each of some texts
abbrev pub EachOf : (List ℕ → Type 0) → List (List ℕ) → Type 0
EachOf P [] = Unit {0}
EachOf P (word ∷ rest) = P word × EachOf P rest

pub each : (P : List ℕ → Type 0) (words : List (List ℕ)) (text : List ℕ) → EachOf P words → OneOf words text → P text
each P [] text h n = absurd n
each P (word ∷ rest) text h (inl e) = subst P (sym e) h.0
each P (word ∷ rest) text h (inr n) = each P rest text h.1 n
