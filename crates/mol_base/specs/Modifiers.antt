-- Modifiers: what each may stand before, and the order in which they are printed (JLS 8.1.1, 8.3.1, 8.4.3, 8.8.3).
-- A modifier is its text. The annotation `@Override` (JLS 9.6.4.4) counts as one.
use Rattle.std.specs.Prelude.{◌≡◌, ℕ, ◌+◌, Bool, true, not, nat_le, List, [], ◌∷◌, map, filter, count_by, codes}
use Prim.Native.String.{String}
use Rattle.std.specs.List.{list_all, list_any}
use Rattle.std.specs.Str.{bytes_eq}
use Rattle.mol_base.specs.Among.{among}
use Rattle.mol_base.specs.declared.modifier.Modified.{Modified}
use Rattle.mol_base.specs.declared.modifier.Modified.TheVariants as of

-- # Lists

-- all modifiers, in the order in which they are printed
abbrev pub all_words : List String
all_words = "@Override" ∷ "public" ∷ "protected" ∷ "private" ∷ "abstract" ∷ "static" ∷ "final" ∷ "transient" ∷ "volatile" ∷ []

-- what may stand before a class (JLS 8.1.1), a field (8.3.1) and a constructor (8.8.3)
abbrev pub class_words : List String
class_words = "public" ∷ "abstract" ∷ "final" ∷ []

abbrev pub field_words : List String
field_words = "public" ∷ "protected" ∷ "private" ∷ "static" ∷ "final" ∷ "transient" ∷ "volatile" ∷ []

abbrev pub constructor_words : List String
constructor_words = "public" ∷ "protected" ∷ "private" ∷ []

-- what may stand before a method with a block, before one without (JLS 8.4.3), and what is kept of either as words
abbrev pub method_words : List String
method_words = "@Override" ∷ "public" ∷ "protected" ∷ "private" ∷ "static" ∷ "final" ∷ []

abbrev pub abstract_words : List String
abstract_words = "@Override" ∷ "public" ∷ "protected" ∷ "private" ∷ "abstract" ∷ "final" ∷ []

abbrev pub kept_words : List String
kept_words = "@Override" ∷ "public" ∷ "protected" ∷ "private" ∷ "final" ∷ []

-- # Order

-- how often a text stands in a list
abbrev pub times : List (List ℕ) → List ℕ → ℕ
times words word = count_by (bytes_eq word) words

-- whether a modifier stands in a list
abbrev pub has : List (List ℕ) → String → Bool
has words word = list_any (bytes_eq (codes word)) words

-- those of the modifiers that stand in a list, each once, in the order in which they are printed
abbrev pub in_order : List (List ℕ) → List (List ℕ)
in_order words = filter (λ word. list_any (bytes_eq word) words) (map codes all_words)

-- without `static` and `abstract`, which a method keeps elsewhere
abbrev pub kept_of_method : List (List ℕ) → List (List ℕ)
kept_of_method words = filter (λ word. not (among ("static" ∷ "abstract" ∷ []) word)) (in_order words)

-- # What is allowed

-- at most one of the access words (JLS 6.6) stands in a list
abbrev pub has_one_access : List (List ℕ) → Bool
has_one_access words = nat_le (times words (codes "public") + times words (codes "protected") + times words (codes "private")) 1

-- Each is one of the allowed ones, none stands twice, and at most one of the three access words stands there.
pub record AllowedWords (allowed : List String) (words : List (List ℕ)) : Type 0 where
  pub known : list_all (among allowed) words ≡ true
  pub once : list_all (λ word. nat_le (times words (codes word)) 1) allowed ≡ true
  pub one_access : has_one_access words ≡ true

abbrev pub ClassWords : List (List ℕ) → Type 0
ClassWords = AllowedWords class_words

abbrev pub FieldWords : List (List ℕ) → Type 0
FieldWords = AllowedWords field_words

-- a method with a block
abbrev pub MethodWords : List (List ℕ) → Type 0
MethodWords = AllowedWords method_words

-- a method without one: it is abstract, and so not static
abbrev pub AbstractWords : List (List ℕ) → Type 0
AbstractWords words = AllowedWords abstract_words words × (has words "abstract" ≡ true)

abbrev pub ConstructorWords : List (List ℕ) → Type 0
ConstructorWords = AllowedWords constructor_words

-- a method with a block or without, `static` and `abstract` left out
abbrev pub KeptWords : List (List ℕ) → Type 0
KeptWords = AllowedWords kept_words

-- these modifiers may stand before this, in some order
abbrev pub AreAllowed : Modified → List (List ℕ) → Type 0
AreAllowed of.Class = ClassWords
AreAllowed of.Field = FieldWords
AreAllowed of.Method = MethodWords
AreAllowed of.AbstractMethod = AbstractWords
AreAllowed of.KeptMethod = KeptWords
AreAllowed of.Constructor = ConstructorWords

-- they stand in the order in which they are printed
abbrev pub AreInOrder : List (List ℕ) → Type 0
AreInOrder words = in_order words ≡ words
