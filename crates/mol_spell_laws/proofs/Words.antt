-- Modifiers that a program may hold are those that may stand before what is printed. Which these are is decided by which words stand; so
-- what
-- holds of all of them is computed for each choice of words.
use Rattle.std.proofs.Common.{◌≡◌, Bool, true, false, cond, List, [], ◌∷◌, codes, refl, sym, ◌∙◌, ap, subst, true≢false}
use Prim.Native.String.{String}
use Rattle.std.specs.Prelude.{◌&&◌, ◌||◌, not, nat_le}
use Rattle.std.specs.Cmp.Lexicographic.{pointwise, pointwise_decides, bytes_decides}
use Rattle.std.specs.List.{list_all, list_any}
use Rattle.std.specs.Str.{bytes_eq}
use Rattle.std.proofs.lemmas.Bool.{and_parts}
use Rattle.std.proofs.lemmas.Slice.Eq.{bytes_eq-Decides}
use Rattle.mol_base.proofs.Allowed.{AllowedWords-test}
use Rattle.mol_base.specs.Among.{among}
use Rattle.mol_base.specs.Modifiers.{class_words, field_words, constructor_words, method_words, abstract_words, kept_words, times, in_order, kept_of_method, has_one_access, AllowedWords, AreInOrder, ClassWords, FieldWords, ConstructorWords, MethodWords, AbstractWords}
use Rattle.jav_names.specs.DottedNames.{Name}
use Rattle.mol_values_types.specs.Words.{are_words}

abbrev Texts : Type 0
Texts = List Name

-- ---- each choice

abbrev for_both : (Bool → Bool) → Bool
for_both holds = holds true && holds false

of-both : (holds : Bool → Bool) → for_both holds ≡ true → (b : Bool) → holds b ≡ true
of-both holds both true = (and_parts (holds true) (holds false) both).0
of-both holds both false = (and_parts (holds true) (holds false) both).1

abbrev for_three : (Bool → Bool → Bool → Bool) → Bool
for_three holds = for_both (λ a. for_both (λ b. for_both (λ c. holds a b c)))

of-three : (holds : Bool → Bool → Bool → Bool) → for_three holds ≡ true → (a b c : Bool) → holds a b c ≡ true
of-three holds all a b c = of-both (holds a b)
    (of-both (λ b. for_both (λ c. holds a b c)) (of-both (λ a. for_both (λ b. for_both (λ c. holds a b c))) all a) b) c

abbrev for_five : (Bool → Bool → Bool → Bool → Bool → Bool) → Bool
for_five holds = for_both (λ a. for_both (λ b. for_three (holds a b)))

of-five : (holds : Bool → Bool → Bool → Bool → Bool → Bool) → for_five holds ≡ true → (a b c d e : Bool) → holds a b c d e ≡ true
of-five holds all a b = of-three (holds a b) (of-both (λ b. for_three (holds a b))
    (of-both (λ a. for_both (λ b. for_three (holds a b))) all a) b)

abbrev for_seven : (Bool → Bool → Bool → Bool → Bool → Bool → Bool → Bool) → Bool
for_seven holds = for_both (λ a. for_both (λ b. for_five (holds a b)))

of-seven : (holds : Bool → Bool → Bool → Bool → Bool → Bool → Bool → Bool) → for_seven holds ≡ true → (a b c d e f g : Bool)
    → holds a b c d e f g ≡ true
of-seven holds all a b = of-five (holds a b) (of-both (λ b. for_five (holds a b))
    (of-both (λ a. for_both (λ b. for_five (holds a b))) all a) b)

-- a word where it stands, before the others
abbrev put : Bool → String → Texts → Texts
put stands word rest = cond stands (codes word ∷ rest) rest

-- the words of a class, of a field, of a constructor, and of a method, in their order
abbrev of_class : (u a f : Bool) → Texts
of_class u a f = put u "public" (put a "abstract" (put f "final" []))

abbrev of_field : (u p r s f t v : Bool) → Texts
of_field u p r s f t v =
    put u "public" (put p "protected" (put r "private" (put s "static" (put f "final" (put t "transient" (put v "volatile" []))))))

abbrev of_constructor : (u p r : Bool) → Texts
of_constructor u p r = put u "public" (put p "protected" (put r "private" []))

abbrev of_method : (o u p r f : Bool) → Texts
of_method o u p r f = put o "@Override" (put u "public" (put p "protected" (put r "private" (put f "final" []))))

-- ---- tests

abbrev are_allowed : List String → Texts → Bool
are_allowed allowed words =
    list_all (among allowed) words && (list_all (λ word. nat_le (times words (codes word)) 1) allowed && has_one_access words)

allowed-is : (allowed : List String) (words : Texts) → are_allowed allowed words ≡ true → AllowedWords allowed words
allowed-is allowed words is = (AllowedWords-test allowed words (are_allowed allowed words) refl).0 is

abbrev are_same : Texts → Texts → Bool
are_same = pointwise bytes_eq

same-is : (xs ys : Texts) → are_same xs ys ≡ true → xs ≡ ys
same-is xs ys is = (pointwise_decides bytes_decides xs ys).0 is

-- where one access word stands at most, this holds
abbrev with_access : Texts → Bool → Bool
with_access words holds = not (has_one_access words) || holds

access-gives : (words : Texts) (holds : Bool) → with_access words holds ≡ true → has_one_access words ≡ true → holds ≡ true
access-gives words holds is one = sym (ap (λ (b : Bool). not b || holds) one) ∙ is

abbrev class_holds : (u a f : Bool) → Bool
class_holds u a f = with_access (of_class u a f) (are_allowed class_words (of_class u a f))

class-all : for_three class_holds ≡ true
class-all = refl

abbrev field_holds : (u p r s f t v : Bool) → Bool
field_holds u p r s f t v = with_access (of_field u p r s f t v) (are_allowed field_words (of_field u p r s f t v))

field-all : for_seven field_holds ≡ true
field-all = refl

abbrev constructor_holds : (u p r : Bool) → Bool
constructor_holds u p r = with_access (of_constructor u p r) (are_allowed constructor_words (of_constructor u p r))

constructor-all : for_three constructor_holds ≡ true
constructor-all = refl

-- The words of a method, also with the word that its tree keeps elsewhere.
abbrev method_test : Texts → Bool
method_test words =
    are_allowed method_words words && are_same (kept_of_method words) words
    && (are_allowed method_words (codes "static" ∷ words) && are_same (kept_of_method (codes "static" ∷ words)) words)
    && (are_allowed abstract_words (codes "abstract" ∷ words) && are_same (kept_of_method (codes "abstract" ∷ words)) words)

abbrev method_holds : (o u p r f : Bool) → Bool
method_holds o u p r f = with_access (of_method o u p r f) (method_test (of_method o u p r f))

method-all : for_five method_holds ≡ true
method-all = refl

-- ---- words in order are those that stand

abbrev stands : Texts → String → Bool
stands words word = list_any (bytes_eq (codes word)) words

-- a word that is not allowed does not stand
none-stands : (p : Name → Bool) (words : Texts) (word : Name) → list_all p words ≡ true → p word ≡ false
    → list_any (bytes_eq word) words ≡ false
none-stands p [] word all fails = refl
none-stands p (x ∷ words) word all fails = by (bytes_eq word x) refl (none-stands p words word parts.1 fails) where
  parts : (p x ≡ true) × (list_all p words ≡ true)
  parts = and_parts (p x) (list_all p words) all

  by : (b : Bool) → bytes_eq word x ≡ b → list_any (bytes_eq word) words ≡ false → (b || list_any (bytes_eq word) words) ≡ false
  by true same rest = absurd (true≢false (sym (subst (λ (y : Name). p y ≡ true) (sym ((bytes_eq-Decides word x).0 same)) parts.0) ∙ fails))
  by false differs rest = rest

-- of words in order, with none but these
module _ (allowed : List String) (words : Texts) (are : are_words allowed words ≡ true) where
  parts : ((list_all (among allowed) words && pointwise bytes_eq (in_order words) words) ≡ true) × (has_one_access words ≡ true)
  parts = and_parts (list_all (among allowed) words && pointwise bytes_eq (in_order words) words) (has_one_access words) are

  front : (list_all (among allowed) words ≡ true) × (pointwise bytes_eq (in_order words) words ≡ true)
  front = and_parts (list_all (among allowed) words) (pointwise bytes_eq (in_order words) words) parts.0

  pub ordered-is : AreInOrder words
  ordered-is = same-is (in_order words) words front.1

  access : has_one_access words ≡ true
  access = parts.1

  none : (word : String) → among allowed (codes word) ≡ false → stands words word ≡ false
  none word fails = none-stands (among allowed) words (codes word) front.0 fails

-- ---- classes, fields and constructors

pub class-words-are : (words : Texts) → are_words class_words words ≡ true → ClassWords words
class-words-are words are =
    let s = stands words in
    let no = none class_words words are in
    let is : words ≡ of_class (s "public") (s "abstract") (s "final")
    = sym (ordered-is class_words words are)
    ∙ (λ i. put (no "@Override" refl i) "@Override" (put (s "public") "public" (put (no "protected" refl i) "protected"
    (put (no "private" refl i) "private" (put (s "abstract") "abstract" (put (no "static" refl i) "static" (put (s "final") "final"
    (put (no "transient" refl i) "transient" (put (no "volatile" refl i) "volatile" []))))))))) in
    let all = of-three class_holds class-all (s "public") (s "abstract") (s "final") in
    allowed-is class_words words (access-gives words (are_allowed class_words words)
    (subst (λ (ws : Texts). with_access ws (are_allowed class_words ws) ≡ true) (sym is) all) (access class_words words are))

pub field-words-are : (words : Texts) → are_words field_words words ≡ true → FieldWords words
field-words-are words are =
    let s = stands words in
    let no = none field_words words are in
    let is : words ≡ of_field (s "public") (s "protected") (s "private") (s "static") (s "final") (s "transient") (s "volatile")
    = sym (ordered-is field_words words are)
    ∙ (λ i. put (no "@Override" refl i) "@Override" (put (s "public") "public" (put (s "protected") "protected"
    (put (s "private") "private" (put (no "abstract" refl i) "abstract" (put (s "static") "static" (put (s "final") "final"
    (put (s "transient") "transient" (put (s "volatile") "volatile" []))))))))) in
    let all = of-seven field_holds field-all (s "public") (s "protected") (s "private") (s "static") (s "final") (s "transient")
    (s "volatile") in
    allowed-is field_words words (access-gives words (are_allowed field_words words)
    (subst (λ (ws : Texts). with_access ws (are_allowed field_words ws) ≡ true) (sym is) all) (access field_words words are))

pub constructor-words-are : (words : Texts) → are_words constructor_words words ≡ true → ConstructorWords words
constructor-words-are words are =
    let s = stands words in
    let no = none constructor_words words are in
    let is : words ≡ of_constructor (s "public") (s "protected") (s "private")
    = sym (ordered-is constructor_words words are)
    ∙ (λ i. put (no "@Override" refl i) "@Override" (put (s "public") "public" (put (s "protected") "protected"
    (put (s "private") "private" (put (no "abstract" refl i) "abstract" (put (no "static" refl i) "static" (put (no "final" refl i) "final"
    (put (no "transient" refl i) "transient" (put (no "volatile" refl i) "volatile" []))))))))) in
    let all = of-three constructor_holds constructor-all (s "public") (s "protected") (s "private") in
    allowed-is constructor_words words (access-gives words (are_allowed constructor_words words)
    (subst (λ (ws : Texts). with_access ws (are_allowed constructor_words ws) ≡ true) (sym is) all) (access constructor_words words are))

-- ---- methods

-- the words of a method with a block, of a static one, and of one without a block
pub record MethodWordsAre (words : Texts) : Type 0 where
  pub instance : MethodWords words
  pub instance_kept : kept_of_method words ≡ words
  pub static : MethodWords (codes "static" ∷ words)
  pub static_kept : kept_of_method (codes "static" ∷ words) ≡ words
  pub abstract_words : AbstractWords (codes "abstract" ∷ words)
  pub abstract_kept : kept_of_method (codes "abstract" ∷ words) ≡ words

pub method-words-are : (words : Texts) → are_words kept_words words ≡ true → MethodWordsAre words
method-words-are words are =
    let s = stands words in
    let no = none kept_words words are in
    let is : words ≡ of_method (s "@Override") (s "public") (s "protected") (s "private") (s "final")
    = sym (ordered-is kept_words words are)
    ∙ (λ i. put (s "@Override") "@Override" (put (s "public") "public" (put (s "protected") "protected"
    (put (s "private") "private" (put (no "abstract" refl i) "abstract" (put (no "static" refl i) "static" (put (s "final") "final"
    (put (no "transient" refl i) "transient" (put (no "volatile" refl i) "volatile" []))))))))) in
    let all = of-five method_holds method-all (s "@Override") (s "public") (s "protected") (s "private") (s "final") in
    tested words (access-gives words (method_test words)
    (subst (λ (ws : Texts). with_access ws (method_test ws) ≡ true) (sym is) all) (access kept_words words are)) where
      tested : (words : Texts) → method_test words ≡ true → MethodWordsAre words
      tested words test =
          let last = and_parts (are_allowed method_words words && are_same (kept_of_method words) words
          && (are_allowed method_words (codes "static" ∷ words) && are_same (kept_of_method (codes "static" ∷ words)) words))
          (are_allowed abstract_words (codes "abstract" ∷ words) && are_same (kept_of_method (codes "abstract" ∷ words)) words) test in
          let two = and_parts (are_allowed method_words words && are_same (kept_of_method words) words)
          (are_allowed method_words (codes "static" ∷ words) && are_same (kept_of_method (codes "static" ∷ words)) words) last.0 in
          let a = and_parts (are_allowed method_words words) (are_same (kept_of_method words) words) two.0 in
          let b = and_parts (are_allowed method_words (codes "static" ∷ words))
          (are_same (kept_of_method (codes "static" ∷ words)) words) two.1 in
          let c = and_parts (are_allowed abstract_words (codes "abstract" ∷ words))
          (are_same (kept_of_method (codes "abstract" ∷ words)) words) last.1 in
          record {
            instance = allowed-is method_words words a.0;
            instance_kept = same-is _ _ a.1;
            static = allowed-is method_words (codes "static" ∷ words) b.0;
            static_kept = same-is _ _ b.1;
            abstract_words = (allowed-is abstract_words (codes "abstract" ∷ words) c.0, refl);
            abstract_kept = same-is _ _ c.1;
          }
