-- Cutting a text at its first dot, and what follows its last one.
use Rattle.std.proofs.Common.{◌≡◌, ◌≢◌, ℕ, suc, ◌+◌, ◌<◌, ◌≤◌, ◌==◌, Bool, true, false, if◌then◌else◌, List, [], ◌∷◌, ◌++◌, length, take, drop, get_or, Option, Some, None, refl, sym, ◌∙◌, ap, subst, arith, ne_eqb, lit<}
use denote.Ref.{Bor}
use Rattle.std.specs.Prelude.{MatchOption}
use Rattle.std.specs.Str.{NoCharPasses}
use Rattle.std.specs.Str.Pattern.{RFindsChar}
use Rattle.std.proofs.lemmas.List.{get_or_default, take-append-drop}
use Rattle.std.proofs.lemmas.List.Elements.{All-nil}
use Rattle.std.proofs.lemmas.Str.Pattern.{NoCharPasses-char, drop_at_char}
use Rattle.jav_names.specs.DottedNames.{Name, Names, dot, HasNoDot, joined, Dotted, cut, last_of, simple_name}
use Rattle.jav_names.specs.LookUps.{class_named, class_or_written, simple_type, type_named, with_more}
use Rattle.jav_names.specs.Types.{Header, TypeReading, class_read, imported, written, no_type}
use Rattle.jav_names.specs.Views.{Classes}
use Rattle.jav_names.proofs.CutNames.{names_cut}

abbrev pub DotsNowhere : Name → Type 0
DotsNowhere text = (i : ℕ) → i < length text → get_or text i 0 ≢ dot

pub cut-whole : (text : Name) → DotsNowhere text → cut text ≡ record { first = text; rest = [] }
cut-whole text none = names_cut.parts text [] (λ h. none h.0 h.1 (get_or_default text h.0 0 dot h.1 ∙ h.2)) (All-nil HasNoDot)

pub cut-front : (front back : Name) → DotsNowhere front
    → cut (front ++ dot ∷ back) ≡ record { first = front; rest = (cut back).first ∷ (cut back).rest }
cut-front [] back none = refl
cut-front (byte ∷ front) back none =
    let differs : (byte == dot) ≡ false = ne_eqb byte dot (none 0 (omega arith)) in
    rw (cut-front front back (λ i within. none (suc i) (omega (arith, within))), differs) refl

-- ---- the last name

abbrev Ends : Name → Dotted → Type 0
Ends name cut = (first : Name) × (rest : Names) × (cut.rest ≡ first ∷ rest) × (last_of first rest ≡ name)

last-is : (name : Name) (cut : Dotted) → Ends name cut → last_of cut.first cut.rest ≡ name
last-is name cut ends = ap (last_of cut.first) ends.2 ∙ ends.3

ends-so : (front back : Name) → Ends (simple_name back) (cut (front ++ dot ∷ back))
ends-so [] back = ((cut back).first, (cut back).rest, refl, refl)
ends-so (byte ∷ front) back = by_test (byte == dot) (cut (front ++ dot ∷ back)) (ends-so front back) where
  by_test : (b : Bool) (c : Dotted) → Ends (simple_name back) c
      → Ends (simple_name back) (if b then record { first = []; rest = c.first ∷ c.rest } else record
      { first = byte ∷ c.first; rest = c.rest })
  by_test true c ends = (c.first, c.rest, refl, last-is (simple_name back) c ends)
  by_test false c ends = ends

pub simple_name-whole : (text : Name) → DotsNowhere text → simple_name text ≡ text
simple_name-whole text none = ap (λ (c : Dotted). last_of c.first c.rest) (cut-whole text none)

pub simple_name-behind : (front back : Name) → simple_name (front ++ dot ∷ back) ≡ simple_name back
simple_name-behind front back = last-is (simple_name back) (cut (front ++ dot ∷ back)) (ends-so front back)

pub simple_name-after : (text front last : Name) → text ≡ front ++ dot ∷ last → DotsNowhere last → simple_name text ≡ last
simple_name-after text front last is none = ap simple_name is ∙ simple_name-behind front last ∙ simple_name-whole last none

-- what stands before and after the last dot of a text, and the lengths of these
abbrev pub IsLastSplit : Name → Option (Bor (List ℕ) × Bor (List ℕ)) → Type 0
IsLastSplit text r = MatchOption r (RFindsChar 46 text None)
    (λ x. (i : ℕ) × (j : ℕ) × RFindsChar 46 text (Some (i, j)) × (x.0.now ≡ take i text) × (x.1.now ≡ drop j text) × (i ≤ j)
    × (length x.0.now ≡ i) × (length x.1.now + j ≡ length text))

pub last_parts : (text : Name) (r : Option (Bor (List ℕ) × Bor (List ℕ))) → IsLastSplit text r
    → MatchOption r (DotsNowhere text) (λ x. (text ≡ x.0.now ++ dot ∷ x.1.now) × DotsNowhere x.1.now)
last_parts text None h = λ i. NoCharPasses-char 46 text i h (lit< tt)
last_parts text (Some x) h = (
  sym (take-append-drop h.0 text) ∙ (λ k. sym h.3 k ++ (drop_at_char 46 text h.0 h.1 h.2.1 (lit< tt) ∙ ap (λ l. dot ∷ l) (sym h.4)) k),
  λ i. NoCharPasses-char 46 x.1.now i (subst (NoCharPasses (λ d. d == 46)) (sym h.4) h.2.0) (lit< tt),
)

-- ---- a type's name with dots

-- what the first name reads as, and then the rest of the text
abbrev pub with_rest : {C : Type 0} → Classes C → Name → Name → TypeReading C → TypeReading C
with_rest classes text rest (class_read class) = no_type
with_rest classes text rest (imported import more) = imported import rest
with_rest classes text rest (written first) = class_or_written (class_named classes text) text
with_rest classes text rest no_type = no_type

module _ {C : Type 0} (classes : Classes C) (header : Header C) where
  pub read-simple : (text : Name) → DotsNowhere text → type_named classes header (cut text).first (cut text).rest
      ≡ simple_type classes header text
  read-simple text none = ap (λ (c : Dotted). type_named classes header c.first c.rest) (cut-whole text none)

  pub read-more : (text first rest : Name) → text ≡ first ++ dot ∷ rest → DotsNowhere first
      → type_named classes header (cut text).first (cut text).rest ≡ with_rest classes text rest (simple_type classes header first)
  read-more text first rest is none =
      ap (λ (c : Dotted). type_named classes header c.first c.rest) (ap cut is ∙ cut-front first rest none)
      ∙ by_first (simple_type classes header first) where
        back : joined (cut rest).first (cut rest).rest ≡ rest
        back = names_cut.whole rest

        by_first : (read : TypeReading C) → with_more classes first (cut rest).first (cut rest).rest read ≡ with_rest classes text rest read
        by_first (class_read class) = refl
        by_first (imported import more) = ap (imported import) back
        by_first (written word) = ap (λ t. class_or_written (class_named classes t) t) (ap (λ t. first ++ dot ∷ t) back ∙ sym is)
        by_first no_type = refl
