-- Texts put together from pieces: what their tokens are, which bytes may follow them, and with which byte they begin.
use Rattle.std.proofs.Common.{◌≡◌, ℕ, ◌+◌, true, List, [], ◌∷◌, ◌++◌, codes, Some, refl, ◌∙◌, ap, length, append-nil}
use Prim.Native.String.{String}
use Rattle.mol_base.specs.Token.{Token}
use Rattle.mol_base.specs.Lexical.Characters.{first, is_space}
use Rattle.mol_base.specs.Lexical.Front.{token_kind}
use Rattle.mol_base.specs.declared.token_kind.TokenKind.{TokenKind}
use Rattle.mol_base.specs.declared.token_kind.TokenKind.TheVariants as kind
use Rattle.jav_print_laws.specs.pieces.Pieces.{Piece, blank, word, text_of, tokens_from, lead, breaks, may_follow, Fits}
use Rattle.jav_tree.specs.Tokens.{IsSymbol}
use Rattle.jav_print_laws.proofs.layout_lemmas.Appended.{lead-append, tokens-append, fits-append, text-append}

-- A text in pieces, whose tokens are of a sort at each place. Where a byte may follow, the pieces fit before it.
pub record Phrase (Is : List Token → Type 0) (May : ℕ → Type 0) (text : List ℕ) : Type 0 where
  pub pieces : List Piece
  pub spelled : text_of pieces ≡ text
  pub derives : (at : ℕ) → Is (tokens_from at pieces)
  pub fits : (next : ℕ) → May next → Fits pieces next
  pub head : ℕ → ℕ
  pub heads : (next : ℕ) → lead pieces next ≡ head next

-- any byte, and one that ends a name or a literal
abbrev pub Any : ℕ → Type 0
Any b = Unit {0}

abbrev pub Breaks : ℕ → Type 0
Breaks b = breaks b ≡ true

-- # Sorts of tokens

-- none
pub data Nothing : List Token → Type 0 where
  nothing : Nothing []

-- one
pub data Alone (Is : Token → Type 0) : List Token → Type 0 where
  alone : (t : Token) → Is t → Alone Is (t ∷ [])

-- some, and then others
pub data Then (Is Are : List Token → Type 0) : List Token → Type 0 where
  both : (ts us : List Token) → Is ts → Are us → Then Is Are (ts ++ us)

-- the token of this kind and text
pub data OneOf (k : TokenKind) : List ℕ → List Token → Type 0 where
  one_of : (t : Token) → t.kind ≡ k → OneOf k t.text (t ∷ [])

-- # Phrases

abbrev pub empty : Phrase Nothing Any []
empty = record { pieces = []; spelled = refl; derives = λ at. nothing; fits = λ next ok. tt; head = λ next. next; heads = λ next. refl }

abbrev pub one_token : {Is : Token → Type 0} (k : TokenKind) (text : List ℕ) → token_kind text ≡ Some k → ((start end : ℕ) → Is (record { kind = k; text = text; start = start; end = end }))
    → Phrase (Alone Is) (λ b. may_follow k text b ≡ true) text
one_token k text known is = record {
  pieces = word k text ∷ [];
  spelled = append-nil text;
  derives = λ at. alone _ (is at (at + length text));
  fits = λ next ok. (known, ok, tt);
  head = λ next. first text;
  heads = λ next. refl;
}

-- white space, and a phrase
abbrev pub after_blank : {Is : List Token → Type 0} {May : ℕ → Type 0} {t : List ℕ} (b : ℕ) → is_space b ≡ true → Phrase Is May t → Phrase Is May (b ∷ t)
after_blank b space p = record {
  pieces = blank b ∷ p.pieces;
  spelled = ap (λ bs. b ∷ bs) p.spelled;
  derives = λ at. p.derives (at + 1);
  fits = λ next ok. (space, p.fits next ok);
  head = λ next. b;
  heads = λ next. refl;
}

abbrev pub space : {Is : List Token → Type 0} {May : ℕ → Type 0} {t : List ℕ} → Phrase Is May t → Phrase Is May (32 ∷ t)
space p = after_blank 32 refl p

abbrev pub line : {Is : List Token → Type 0} {May : ℕ → Type 0} {t : List ℕ} → Phrase Is May t → Phrase Is May (10 ∷ t)
line p = after_blank 10 refl p

-- Two phrases, where the first byte of the second may follow the first.
pub then-spelled : {Is Are : List Token → Type 0} {May Next : ℕ → Type 0} {t s : List ℕ} (p : Phrase Is May t) (q : Phrase Are Next s) → text_of (p.pieces ++ q.pieces) ≡ t ++ s
then-spelled p q = text-append p.pieces q.pieces ∙ rw (p.spelled, q.spelled) refl

pub then-derives : {Is Are : List Token → Type 0} {May Next : ℕ → Type 0} {t s : List ℕ} (p : Phrase Is May t) (q : Phrase Are Next s) (at : ℕ) → Then Is Are (tokens_from at (p.pieces ++ q.pieces))
then-derives p q at = rw (tokens-append at p.pieces q.pieces) (both _ _ (p.derives at) (q.derives _))

pub then-fits : {Is Are : List Token → Type 0} {May Next : ℕ → Type 0} {t s : List ℕ} (p : Phrase Is May t) (q : Phrase Are Next s) → ((n : ℕ) → Next n → May (q.head n))
    → (next : ℕ) → Next next → Fits (p.pieces ++ q.pieces) next
then-fits p q meets next ok = fits-append p.pieces q.pieces next (rw (q.heads next) (p.fits (q.head next) (meets next ok))) (q.fits next ok)

pub then-heads : {Is Are : List Token → Type 0} {May Next : ℕ → Type 0} {t s : List ℕ} (p : Phrase Is May t) (q : Phrase Are Next s) (next : ℕ) → lead (p.pieces ++ q.pieces) next ≡ p.head (q.head next)
then-heads p q next = lead-append p.pieces q.pieces next ∙ p.heads (lead q.pieces next) ∙ ap p.head (q.heads next)

abbrev pub then : {Is Are : List Token → Type 0} {May Next : ℕ → Type 0} {t s : List ℕ} (p : Phrase Is May t) (q : Phrase Are Next s) → ((n : ℕ) → Next n → May (q.head n))
    → Phrase (Then Is Are) Next (t ++ s)
then p q meets = record {
  pieces = p.pieces ++ q.pieces;
  spelled = then-spelled p q;
  derives = then-derives p q;
  fits = then-fits p q meets;
  head = λ next. p.head (q.head next);
  heads = then-heads p q;
}

-- the same where anything may follow the first
abbrev pub next_to : {Is Are : List Token → Type 0} {Next : ℕ → Type 0} {t s : List ℕ} (p : Phrase Is Any t) (q : Phrase Are Next s) → Phrase (Then Is Are) Next (t ++ s)
next_to p q = then p q (λ n ok. tt)

-- The same phrase, of another sort, in other words for its text, or before fewer bytes.
abbrev pub reads : {Is Are : List Token → Type 0} {May Next : ℕ → Type 0} {t s : List ℕ} → Phrase Is May t → t ≡ s → ((n : ℕ) → Next n → May n) → ((ts : List Token) → Is ts → Are ts)
    → Phrase Are Next s
reads p same fewer makes = record {
  pieces = p.pieces;
  spelled = p.spelled ∙ same;
  derives = λ at. makes _ (p.derives at);
  fits = λ next ok. p.fits next (fewer next ok);
  head = p.head;
  heads = p.heads;
}

abbrev pub narrow : {Is : List Token → Type 0} {May Next : ℕ → Type 0} {t : List ℕ} → Phrase Is May t → ((n : ℕ) → Next n → May n) → Phrase Is Next t
narrow p fewer = reads p refl fewer (λ ts is. is)

abbrev pub makes : {Is Are : List Token → Type 0} {May : ℕ → Type 0} {t s : List ℕ} → Phrase Is May t → t ≡ s → ((ts : List Token) → Is ts → Are ts) → Phrase Are May s
makes p same make = reads p same (λ n ok. ok) make

-- # Tokens

abbrev pub token : (k : TokenKind) (text : List ℕ) → token_kind text ≡ Some k → Phrase (OneOf k text) (λ b. may_follow k text b ≡ true) text
token k text known = record {
  pieces = word k text ∷ [];
  spelled = append-nil text;
  derives = λ at. one_of (record { kind = k; text = text; start = at; end = at + length text }) refl;
  fits = λ next ok. (known, ok, tt);
  head = λ next. first text;
  heads = λ next. refl;
}

abbrev pub symbol : (text : String) → token_kind (codes text) ≡ Some kind.Symbol → Phrase (Alone (IsSymbol text)) (λ b. may_follow kind.Symbol (codes text) b ≡ true) (codes text)
symbol text known = one_token kind.Symbol (codes text) known (λ start end. record { symbol = refl; written = refl })
