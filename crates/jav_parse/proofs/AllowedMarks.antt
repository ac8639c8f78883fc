-- Modifiers that are allowed somewhere fit there.
use Rattle.std.proofs.Common.{◌≡◌, ℕ, ◌+◌, ◌≤◌, ◌&&◌, ◌||◌, Bool, true, false, nat_lt, nat_le, List, [], ◌∷◌, codes, refl, sym, ◌∙◌, subst, arith}
use Rattle.std.proofs.lemmas.Bool.Decides.{nat_tests}
use Rattle.std.proofs.lemmas.Slice.Eq.{bytes_eq-Decides}
use Rattle.std.specs.List.{list_all, list_any}
use Rattle.std.specs.Str.{bytes_eq}
use Prim.Native.String.{String}
use Rattle.mol_base.specs.Among.{among}
use Rattle.mol_base.specs.Modifiers.{times, AllowedWords, ClassWords, FieldWords, MethodWords, AbstractWords, ConstructorWords, class_words, field_words, method_words, abstract_words, constructor_words}
use Rattle.jav_parse_unit.specs.declared.words.Words.{Words as Modifiers}
use Rattle.jav_parse_unit.specs.WordRules as rules
use Rattle.jav_parse.proofs.CompleteWords.{MayBeRead, marks_of}
use Rattle.jav_parse.proofs.Modifiers.{Within, bits, any_counts}

both_of : (a b : Bool) → (a && b) ≡ true → (a ≡ true) × (b ≡ true)
both_of true b h = (refl, h)
both_of false b h = absurd (cc)

le_of : (a b : ℕ) → nat_le a b ≡ true → a ≤ b
le_of a b h = grind (arith, nat_tests)

-- a text that is not allowed stands nowhere
apart_by : (allowed : List String) (x t : List ℕ) (b : Bool) → (b ≡ true → x ≡ t) → among allowed t ≡ true → among allowed x ≡ false → b ≡ false
apart_by allowed x t true e h n = absurd (let same = e refl in cc)
apart_by allowed x t false e h n = refl

stands_nowhere : (allowed : List String) (words : List (List ℕ)) (x : List ℕ) → list_all (among allowed) words ≡ true → among allowed x ≡ false → list_any (bytes_eq x) words ≡ false
stands_nowhere allowed [] x h n = refl
stands_nowhere allowed (t ∷ ts) x h n =
    let k = both_of (among allowed t) (list_all (among allowed) ts) h in
    rw (apart_by allowed x t (bytes_eq x t) (λ e. (bytes_eq-Decides x t).0 e) k.0 n) (stands_nowhere allowed ts x k.1 n)

none_counted : (n : ℕ) → false ≡ nat_lt 0 n → n ≤ 1
none_counted n h = grind (arith, nat_tests)

once_here : {C : Type 0} (a b : Bool) → (a || b) ≡ true → (a ≡ true → C) → (b ≡ true → C) → C
once_here true b h f g = f refl
once_here false b h f g = g h

once_by : (allowed : List String) (words : List (List ℕ)) (x : List ℕ) → list_all (λ word. nat_le (times words (codes word)) 1) allowed ≡ true → among allowed x ≡ true → times words x ≤ 1
once_by [] words x h e = absurd (cc)
once_by (y ∷ ys) words x h e =
    let k = both_of (nat_le (times words (codes y)) 1) (list_all (λ word. nat_le (times words (codes word)) 1) ys) h in
    once_here (bytes_eq x (codes y)) (among ys x) e
    (λ b. subst (λ r. times words r ≤ 1) (sym ((bytes_eq-Decides x (codes y)).0 b)) (le_of (times words (codes y)) 1 k.0))
    (λ b. once_by ys words x k.1 b)

once_any : (allowed : List String) (words : List (List ℕ)) → AllowedWords allowed words → (x : List ℕ) (b : Bool) → among allowed x ≡ b → times words x ≤ 1
once_any allowed words a x true e = once_by allowed words x a.once e
once_any allowed words a x false e = none_counted (times words x) (sym (stands_nowhere allowed words x a.known e) ∙ any_counts (bytes_eq x) words)

may_read : (fit : Modifiers → Bool) (allowed : List String) (words : List (List ℕ)) → AllowedWords allowed words → ((w : Modifiers) → Within (bits w) (marks_of words) → fit w ≡ true) → MayBeRead fit words
may_read fit allowed words a f = record {
  once = λ x. once_any allowed words a (codes x) (among allowed (codes x)) refl;
  access = le_of (times words (codes "public") + times words (codes "protected") + times words (codes "private")) 1 a.one_access;
  fits = f;
}

-- what is not allowed is not marked
unmarked : (allowed : List String) (words : List (List ℕ)) → AllowedWords allowed words → (x : String) (b : Bool) → among allowed (codes x) ≡ false → (b ≡ true → list_any (bytes_eq (codes x)) words ≡ true) → b ≡ false
unmarked allowed words a x true n f = absurd (let e = f refl in let no = stands_nowhere allowed words (codes x) a.known n in cc)
unmarked allowed words a x false n f = refl

and_none : (a b : Bool) → b ≡ false → (a && b) ≡ false
and_none true b e = e
and_none false b e = refl

or_other : (a b : Bool) → b ≡ true → (a || b) ≡ true
or_other true b e = refl
or_other false b e = e

pub class_marks : (words : List (List ℕ)) → ClassWords words → (w : Modifiers) → Within (bits w) (marks_of words) → rules.fit_class w ≡ true
class_marks words a w f = rw (
  unmarked class_words words a "@Override" w.overrides refl (f.0),
  unmarked class_words words a "protected" w.is_protected refl (f.1.1.0),
  unmarked class_words words a "private" w.is_private refl (f.1.1.1.0),
  unmarked class_words words a "static" w.is_static refl (f.1.1.1.1.1.0),
  unmarked class_words words a "transient" w.is_transient refl (f.1.1.1.1.1.1.1.0),
  unmarked class_words words a "volatile" w.is_volatile refl (f.1.1.1.1.1.1.1.1.0),
) refl

pub field_marks : (words : List (List ℕ)) → FieldWords words → (w : Modifiers) → Within (bits w) (marks_of words) → rules.fit_field w ≡ true
field_marks words a w f = rw (unmarked field_words words a "@Override" w.overrides refl (f.0), unmarked field_words words a "abstract" w.is_abstract refl (f.1.1.1.1.0)) refl

pub method_marks : (words : List (List ℕ)) → MethodWords words → (w : Modifiers) → Within (bits w) (marks_of words) → (rules.fit_method w ≡ true) × (w.is_abstract ≡ false)
method_marks words a w f =
    let no = unmarked method_words words a "abstract" w.is_abstract refl (f.1.1.1.1.0) in
    (rw (unmarked method_words words a "transient" w.is_transient refl (f.1.1.1.1.1.1.1.0), unmarked method_words words a "volatile" w.is_volatile refl (f.1.1.1.1.1.1.1.1.0), no) refl, no)

pub abstract_marks : (words : List (List ℕ)) → AbstractWords words → (w : Modifiers) → Within (bits w) (marks_of words) → rules.fit_method w ≡ true
abstract_marks words a w f =
    rw (
      unmarked abstract_words words a.0 "transient" w.is_transient refl (f.1.1.1.1.1.1.1.0),
      unmarked abstract_words words a.0 "volatile" w.is_volatile refl (f.1.1.1.1.1.1.1.1.0),
      and_none w.is_abstract w.is_static (unmarked abstract_words words a.0 "static" w.is_static refl (f.1.1.1.1.1.0)),
    ) refl

pub constructor_marks : (words : List (List ℕ)) → ConstructorWords words → (w : Modifiers) → Within (bits w) (marks_of words) → rules.fit_constructor w ≡ true
constructor_marks words a w f =
    rw (
      unmarked constructor_words words a "@Override" w.overrides refl (f.0),
      unmarked constructor_words words a "abstract" w.is_abstract refl (f.1.1.1.1.0),
      unmarked constructor_words words a "static" w.is_static refl (f.1.1.1.1.1.0),
      unmarked constructor_words words a "final" w.is_final refl (f.1.1.1.1.1.1.0),
      unmarked constructor_words words a "transient" w.is_transient refl (f.1.1.1.1.1.1.1.0),
      unmarked constructor_words words a "volatile" w.is_volatile refl (f.1.1.1.1.1.1.1.1.0),
    ) refl

constructor_field : (words : List (List ℕ)) → ConstructorWords words → (w : Modifiers) → Within (bits w) (marks_of words) → rules.fit_field w ≡ true
constructor_field words a w f = rw (unmarked constructor_words words a "@Override" w.overrides refl (f.0), unmarked constructor_words words a "abstract" w.is_abstract refl (f.1.1.1.1.0)) refl

member_of_field : (w : Modifiers) → rules.fit_field w ≡ true → rules.fit_member w ≡ true
member_of_field w e = rw e refl

pub class_may : (words : List (List ℕ)) → ClassWords words → MayBeRead rules.fit_class words
class_may words a = may_read rules.fit_class class_words words a (class_marks words a)

pub field_may : (words : List (List ℕ)) → FieldWords words → MayBeRead rules.fit_member words
field_may words a = may_read rules.fit_member field_words words a (λ w f. member_of_field w (field_marks words a w f))

pub method_may : (words : List (List ℕ)) → MethodWords words → MayBeRead rules.fit_member words
method_may words a = may_read rules.fit_member method_words words a (λ w f. or_other (rules.fit_field w) (rules.fit_method w) ((method_marks words a w f).0))

pub abstract_may : (words : List (List ℕ)) → AbstractWords words → MayBeRead rules.fit_member words
abstract_may words a = may_read rules.fit_member abstract_words words a.0 (λ w f. or_other (rules.fit_field w) (rules.fit_method w) (abstract_marks words a w f))

pub constructor_may : (words : List (List ℕ)) → ConstructorWords words → MayBeRead rules.fit_member words
constructor_may words a = may_read rules.fit_member constructor_words words a (λ w f. member_of_field w (constructor_field words a w f))
