-- The text of modifiers, word by word in their order.
use Rattle.std.proofs.Common.{◌≡◌, ℕ, List, [], ◌∷◌, ◌++◌, map, filter, codes, cond, Bool, true, false, not, ◌||◌, refl, sym, ap, ◌∙◌, append_assoc, append-nil, Result, Ok, Err, OnOk}
use Rattle.std.specs.List.{list_any}
use Rattle.std.specs.Str.{bytes_eq}
use Rattle.jav_tree.specs.Lines.{all_of}
use Rattle.jav_tree.specs.Layout.{words_text}
use Rattle.jav_print.specs.Modifiers.{modifier_text, with_kept}

-- the texts of those words that are not `@Override`
abbrev shown : List (List ℕ) → List ℕ
shown words = all_of (map (λ word. word ++ codes " ") (filter (λ word. not (bytes_eq word (codes "@Override"))) words))

-- one word more, where it stands
shown_if : (stands : Bool) (word : List ℕ) (rest : List (List ℕ)) → not (bytes_eq word (codes "@Override")) ≡ true
    → shown (cond stands (word ∷ rest) rest) ≡ modifier_text stands (word ++ codes " ") ++ shown rest
shown_if true word rest other = ap (λ b. all_of (map (λ w. w ++ codes " ") (cond b (word ∷ filter (λ w. not (bytes_eq w (codes "@Override"))) rest) (filter (λ w. not (bytes_eq w (codes "@Override"))) rest)))) other
shown_if false word rest other = refl

not_shown : (stands : Bool) (rest : List (List ℕ)) → shown (cond stands (codes "@Override" ∷ rest) rest) ≡ shown rest
not_shown true rest = refl
not_shown false rest = refl

-- the texts of the words from one on, where this says which words stand
abbrev from_word : (List ℕ → Bool) → List (List ℕ) → List ℕ
from_word has [] = []
from_word has (word ∷ rest) = modifier_text (has word) (word ++ codes " ") ++ from_word has rest

abbrev line_words : List (List ℕ)
line_words = codes "public" ∷ codes "protected" ∷ codes "private" ∷ codes "abstract" ∷ codes "static" ∷ codes "final" ∷ codes "transient" ∷ codes "volatile" ∷ []

-- none of the words is `@Override`
data InLine : List (List ℕ) → Type 0 where
  none : InLine []
  more : {word : List ℕ} {rest : List (List ℕ)} → not (bytes_eq word (codes "@Override")) ≡ true → InLine rest → InLine (word ∷ rest)

shown_words : (has : List ℕ → Bool) (words : List (List ℕ)) → InLine words → shown (filter has words) ≡ from_word has words
shown_words has _ none = refl
shown_words has (word ∷ rest) (more other others) = shown_if (has word) word (filter has rest) other ∙ ap (λ t. modifier_text (has word) (word ++ codes " ") ++ t) (shown_words has rest others)

all_in_line : InLine line_words
all_in_line = more refl (more refl (more refl (more refl (more refl (more refl (more refl (more refl none)))))))

words_pieces : (words : List (List ℕ)) → words_text words ≡ from_word (λ word. list_any (bytes_eq word) words) line_words
words_pieces words = not_shown (list_any (bytes_eq (codes "@Override")) words) (filter (λ word. list_any (bytes_eq word) words) line_words)
    ∙ shown_words (λ word. list_any (bytes_eq word) words) line_words all_in_line

-- the same with a word given: whether it stands, and its text with the space
abbrev Given : Type 0
Given = Bool × List ℕ

abbrev pieces : List Given → List ℕ
pieces [] = []
pieces (word ∷ rest) = modifier_text word.0 word.1 ++ pieces rest

-- all eight, in their order
abbrev given : (b1 b2 b3 b4 b5 b6 b7 b8 : Bool) → List Given
given b1 b2 b3 b4 b5 b6 b7 b8 = (b1, codes "public ") ∷ (b2, codes "protected ") ∷ (b3, codes "private ") ∷ (b4, codes "abstract ") ∷ (b5, codes "static ") ∷ (b6, codes "final ") ∷ (b7, codes "transient ") ∷ (b8, codes "volatile ") ∷ []

-- whether a word stands among others
abbrev pub among_words : List (List ℕ) → List ℕ → Bool
among_words words word = list_any (bytes_eq word) words

modifier_pieces : (is_static is_abstract : Bool) (words : List (List ℕ)) → words_text (with_kept is_static is_abstract words) ≡
    pieces (given (among_words words (codes "public")) (among_words words (codes "protected")) (among_words words (codes "private")) (is_abstract || among_words words (codes "abstract")) (is_static || among_words words (codes "static")) (among_words words (codes "final")) (among_words words (codes "transient")) (among_words words (codes "volatile")))
modifier_pieces true true words = words_pieces (with_kept true true words)
modifier_pieces true false words = words_pieces (with_kept true false words)
modifier_pieces false true words = words_pieces (with_kept false true words)
modifier_pieces false false words = words_pieces (with_kept false false words)

-- a piece that was appended, before what follows
put : {after : List ℕ} (before piece rest : List ℕ) → after ≡ before ++ piece → after ++ rest ≡ before ++ (piece ++ rest)
put before piece rest now = ap (λ t. t ++ rest) now ∙ append_assoc before piece rest

-- eight pieces that were appended
pub modifiers_done : (is_static is_abstract : Bool) (words : List (List ℕ)) (b1 b2 b3 b4 b5 b6 b7 b8 : Bool) (start p1 p2 p3 p4 p5 p6 p7 p8 : List ℕ)
    → b1 ≡ among_words words (codes "public") → b2 ≡ among_words words (codes "protected") → b3 ≡ among_words words (codes "private") → b4 ≡ (is_abstract || among_words words (codes "abstract")) → b5 ≡ (is_static || among_words words (codes "static")) → b6 ≡ among_words words (codes "final") → b7 ≡ among_words words (codes "transient") → b8 ≡ among_words words (codes "volatile")
    → p1 ≡ start ++ modifier_text b1 (codes "public ") → p2 ≡ p1 ++ modifier_text b2 (codes "protected ") → p3 ≡ p2 ++ modifier_text b3 (codes "private ") → p4 ≡ p3 ++ modifier_text b4 (codes "abstract ") → p5 ≡ p4 ++ modifier_text b5 (codes "static ") → p6 ≡ p5 ++ modifier_text b6 (codes "final ") → p7 ≡ p6 ++ modifier_text b7 (codes "transient ") → p8 ≡ p7 ++ modifier_text b8 (codes "volatile ")
    → p8 ≡ start ++ words_text (with_kept is_static is_abstract words)
modifiers_done is_static is_abstract words b1 b2 b3 b4 b5 b6 b7 b8 start p1 p2 p3 p4 p5 p6 p7 p8 e1 e2 e3 e4 e5 e6 e7 e8 f1 f2 f3 f4 f5 f6 f7 f8 =
    sym (append-nil p8)
    ∙ put p7 (modifier_text b8 (codes "volatile ")) (pieces []) f8
    ∙ put p6 (modifier_text b7 (codes "transient ")) (pieces ((b8, codes "volatile ") ∷ [])) f7
    ∙ put p5 (modifier_text b6 (codes "final ")) (pieces ((b7, codes "transient ") ∷ (b8, codes "volatile ") ∷ [])) f6
    ∙ put p4 (modifier_text b5 (codes "static ")) (pieces ((b6, codes "final ") ∷ (b7, codes "transient ") ∷ (b8, codes "volatile ") ∷ [])) f5
    ∙ put p3 (modifier_text b4 (codes "abstract ")) (pieces ((b5, codes "static ") ∷ (b6, codes "final ") ∷ (b7, codes "transient ") ∷ (b8, codes "volatile ") ∷ [])) f4
    ∙ put p2 (modifier_text b3 (codes "private ")) (pieces ((b4, codes "abstract ") ∷ (b5, codes "static ") ∷ (b6, codes "final ") ∷ (b7, codes "transient ") ∷ (b8, codes "volatile ") ∷ [])) f3
    ∙ put p1 (modifier_text b2 (codes "protected ")) (pieces ((b3, codes "private ") ∷ (b4, codes "abstract ") ∷ (b5, codes "static ") ∷ (b6, codes "final ") ∷ (b7, codes "transient ") ∷ (b8, codes "volatile ") ∷ [])) f2
    ∙ put start (modifier_text b1 (codes "public ")) (pieces ((b2, codes "protected ") ∷ (b3, codes "private ") ∷ (b4, codes "abstract ") ∷ (b5, codes "static ") ∷ (b6, codes "final ") ∷ (b7, codes "transient ") ∷ (b8, codes "volatile ") ∷ [])) f1
    ∙ ap (λ t. start ++ t) (ap pieces same ∙ sym (modifier_pieces is_static is_abstract words))
  where
    same : given b1 b2 b3 b4 b5 b6 b7 b8 ≡ given (among_words words (codes "public")) (among_words words (codes "protected")) (among_words words (codes "private")) (is_abstract || among_words words (codes "abstract")) (is_static || among_words words (codes "static")) (among_words words (codes "final")) (among_words words (codes "transient")) (among_words words (codes "volatile"))
    same = cc

-- a fact of a success from another
pub on_ok : {T E : Type 0} (r : Result T E) (P Q : Type 0) → (P → Q) → OnOk r P → OnOk r Q
on_ok (Ok x) P Q f p = f p
on_ok (Err e) P Q f p = p
