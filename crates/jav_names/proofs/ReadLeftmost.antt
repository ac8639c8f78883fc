-- The first of several names has exactly one reading.
use Rattle.std.proofs.Common.{◌≡◌, ℕ, zero, suc, ◌<◌, [], ◌∷◌, ◌++◌, Option, Some, None, take, refl, sym, ◌∙◌, ap, subst, arith, append_assoc}
use Rattle.jav_names.specs.DottedNames.{Name, Names, dot, joined}
use Rattle.jav_names.specs.Laws.{IsTheAnswer}
use Rattle.jav_names.specs.Leftmost.{Leftmost, leftmost_class, IsNoVariable, IsFewest, ReadsLeftmost}
use Rattle.jav_names.specs.LookUps.{class_named, simple_type, variable, here_or, fewest, class_or_outside, leftmost_type, variable_or, leftmost}
use Rattle.jav_names.specs.Types.{IsClassNamed, NoClassNamed, TypeReading, class_read, imported, written, no_type, ReadsSimple}
use Rattle.jav_names.specs.Variables.{Place, Variable, ReadsVariable}
use Rattle.jav_names.specs.Views.{ViewClass, Classes, AreOrdered, View, IsOrdered, Found, found, outside, not_found}
use Rattle.jav_names.proofs.ReadTypes.{class_named-is, is-class_named, class_named-none, none-class_named, simple-answered}
use Rattle.jav_names.proofs.ReadVariables.{variable-answered}

-- names after a text that already has some of them
joined-more : (text next : Name) (rest : Names) → joined (text ++ dot ∷ next) rest ≡ text ++ dot ∷ joined next rest
joined-more text next [] = refl
joined-more text next (name ∷ rest) = append_assoc text (dot ∷ next) (dot ∷ joined name rest)

-- ---- the fewest names that spell a class

module _ {C : Type 0} (classes : Classes C) where
  -- one more name goes to the text
  IsFewest-more : (text next : Name) (rest : Names) (further : ℕ) (class : ViewClass C) → NoClassNamed classes text
      → IsFewest classes (text ++ dot ∷ next) rest further class → IsFewest classes text (next ∷ rest) (suc further) class
  IsFewest-more text next rest further class none is = record {
    here = subst (λ name. IsClassNamed classes name class) (joined-more text next (take further rest)) is.here;
    none_fewer = fewer;
  } where
    fewer : (k : ℕ) → k < suc further → NoClassNamed classes (joined text (take k (next ∷ rest)))
    fewer zero below = none
    fewer (suc k) below = subst (NoClassNamed classes) (joined-more text next (take k rest)) (is.none_fewer k (omega (arith, below)))

  IsFewest-rest : (text next : Name) (rest : Names) (further : ℕ) (class : ViewClass C)
      → IsFewest classes text (next ∷ rest) (suc further) class → IsFewest classes (text ++ dot ∷ next) rest further class
  IsFewest-rest text next rest further class is = record {
    here = subst (λ name. IsClassNamed classes name class) (sym (joined-more text next (take further rest))) is.here;
    none_fewer =
        λ k below. subst (NoClassNamed classes) (sym (joined-more text next (take k rest))) (is.none_fewer (suc k) (omega (arith, below)));
  }

module _ {C : Type 0} (classes : Classes C) (ordered : AreOrdered classes) where
  abbrev IsAnswer : Name → Names → C × ℕ → Type 0
  IsAnswer text names o = (class : ViewClass C) × IsFewest classes text names o.1 class × (class.key ≡ o.0)

  at_text : (text : Name) (names : Names) (class : ViewClass C) (o : C × ℕ) → class_named classes text ≡ Some class
      → Some (class.key, 0) ≡ Some o
      → IsAnswer text names o
  at_text text names class o has is =
      let same : (class.key, 0) ≡ o = cc in
      subst (IsAnswer text names) same
      (class, record { here = class_named-is classes ordered text class has; none_fewer = λ k below. absurd (omega (arith, below)) }, refl)

  fewest-is : (text : Name) (names : Names) (o : C × ℕ) → fewest classes text names ≡ Some o → IsAnswer text names o
  fewest-is text [] o = by_class (class_named classes text) refl where
    by_class : (c : Option (ViewClass C)) → class_named classes text ≡ c → here_or c None ≡ Some o → IsAnswer text [] o
    by_class None none is = absurd cc
    by_class (Some class) has is = at_text text [] class o has is
  fewest-is text (next ∷ rest) o =
      by_class (class_named classes text) refl (fewest classes (text ++ dot ∷ next) rest) (fewest-is (text ++ dot ∷ next) rest) where
        by_class : (c : Option (ViewClass C)) → class_named classes text ≡ c → (later : Option (C × ℕ))
            → ((p : C × ℕ) → later ≡ Some p → IsAnswer (text ++ dot ∷ next) rest p) → here_or c later ≡ Some o
            → IsAnswer text (next ∷ rest) o
        by_class (Some class) has later more is = at_text text (next ∷ rest) class o has is
        by_class None none None more is = absurd cc
        by_class None none (Some p) more is =
            let answer = more p refl in
            let same : (p.0, suc p.1) ≡ o = cc in
            subst (IsAnswer text (next ∷ rest)) same
            (answer.0, IsFewest-more classes text next rest p.1 answer.0 (class_named-none classes text none) answer.1, answer.2)

  fewest-none : (text : Name) (names : Names) → fewest classes text names ≡ None → (k : ℕ)
      → NoClassNamed classes (joined text (take k names))
  fewest-none text [] is k = by_class (class_named classes text) refl is k where
    at_place : NoClassNamed classes text → (j : ℕ) → NoClassNamed classes (joined text (take j []))
    at_place none zero = none
    at_place none (suc j) = none

    by_class : (c : Option (ViewClass C)) → class_named classes text ≡ c → here_or c None ≡ None → (j : ℕ)
        → NoClassNamed classes (joined text (take j []))
    by_class None none at = at_place (class_named-none classes text none)
    by_class (Some class) has at = absurd cc
  fewest-none text (next ∷ rest) is k =
      by_class (class_named classes text) refl (fewest classes (text ++ dot ∷ next) rest) (fewest-none (text ++ dot ∷ next) rest) is k where
        at_place : NoClassNamed classes text → ((j : ℕ) → NoClassNamed classes (joined (text ++ dot ∷ next) (take j rest))) → (j : ℕ)
            → NoClassNamed classes (joined text (take j (next ∷ rest)))
        at_place none later zero = none
        at_place none later (suc j) = subst (NoClassNamed classes) (joined-more text next (take j rest)) (later j)

        by_class : (c : Option (ViewClass C)) → class_named classes text ≡ c → (later : Option (C × ℕ))
            → (later ≡ None → (j : ℕ) → NoClassNamed classes (joined (text ++ dot ∷ next) (take j rest))) → here_or c later ≡ None
            → (j : ℕ) → NoClassNamed classes (joined text (take j (next ∷ rest)))
        by_class None none None more at = at_place (class_named-none classes text none) (more refl)
        by_class None none (Some p) more at = absurd cc
        by_class (Some class) has later more at = absurd cc

  is-fewest : (text : Name) (names : Names) (further : ℕ) (class : ViewClass C) → IsFewest classes text names further class
      → fewest classes text names ≡ Some (class.key, further)
  is-fewest text [] zero class is = rw (is-class_named classes ordered text class is.here) refl
  is-fewest text (next ∷ rest) zero class is = rw (is-class_named classes ordered text class is.here) refl
  is-fewest text [] (suc further) class is =
      let none = none-class_named classes text (is.none_fewer zero (omega arith)) in
      let some = is-class_named classes ordered text class is.here in
      absurd (let e : None ≡ Some class = sym none ∙ some in cc)
  is-fewest text (next ∷ rest) (suc further) class is =
      rw (
        none-class_named classes text (is.none_fewer zero (omega arith)),
        is-fewest (text ++ dot ∷ next) rest further class (IsFewest-rest classes text next rest further class is),
      ) refl

  none-fewest : (text : Name) (names : Names) → ((k : ℕ) → NoClassNamed classes (joined text (take k names)))
      → fewest classes text names ≡ None
  none-fewest text [] none = rw (none-class_named classes text (none zero)) refl
  none-fewest text (next ∷ rest) none =
      rw (
        none-class_named classes text (none zero),
        none-fewest (text ++ dot ∷ next) rest
            (λ k. subst (NoClassNamed classes) (sym (joined-more text next (take k rest))) (none (suc k))),
      ) refl

-- ---- the leftmost name

module _ {C M : Type 0} (view : View C M) (ordered : IsOrdered view) (place : Place C) (first : Name) (rest : Names) where
  simple-is : (reading : TypeReading C) → ReadsSimple view.classes place.header first reading
      → reading ≡ simple_type view.classes place.header first
  simple-is = (simple-answered view.classes ordered.classes place.header first).only

  -- ---- variables

  no_variable : (reading : Found (Variable C M)) → variable view place first ≡ reading → ((x : Variable C M) → ¬ (reading ≡ found x))
      → IsNoVariable view place first
  no_variable reading is not x reads = not x (sym is ∙ sym ((variable-answered view ordered place first).only (found x) reads))

  no_variable-or : IsNoVariable view place first → (otherwise : Leftmost C M)
      → variable_or (variable view place first) otherwise ≡ otherwise
  no_variable-or none otherwise = by_read (variable view place first) (variable-answered view ordered place first).holds where
    by_read : (reading : Found (Variable C M)) → ReadsVariable view place first reading → variable_or reading otherwise ≡ otherwise
    by_read (found x) reads = absurd (none x reads)
    by_read outside reads = refl
    by_read not_found reads = refl

  -- ---- what else it may be

  reads_written : (text : Name) → IsNoVariable view place first → ReadsSimple view.classes place.header first (written text)
      → (o : Option (C × ℕ))
      → fewest view.classes first rest ≡ o → ReadsLeftmost view place first rest (class_or_outside o)
  reads_written text none (ReadsSimple.as_written a b c) None missing =
      ReadsLeftmost.as_written none (ReadsSimple.as_written a b c) (fewest-none view.classes ordered.classes first rest missing)
  reads_written text none (ReadsSimple.as_written a b c) (Some o) has =
      let answer = fewest-is view.classes ordered.classes first rest o has in
      subst (λ key. ReadsLeftmost view place first rest (leftmost_class key (suc o.1))) answer.2
      (ReadsLeftmost.by_full_name none (ReadsSimple.as_written a b c) answer.1)

  reads_type : (reading : TypeReading C) → IsNoVariable view place first → ReadsSimple view.classes place.header first reading
      → ReadsLeftmost view place first rest (leftmost_type view.classes first rest reading)
  reads_type (class_read class) none r = ReadsLeftmost.by_class none r
  reads_type (imported full []) none r = ReadsLeftmost.by_import none r
  reads_type (imported full (b ∷ bs)) none r = elim r [ ]
  reads_type (written text) none r = reads_written text none r _ refl
  reads_type no_type none r = elim r [ ]

  reads : (reading : Found (Variable C M)) → variable view place first ≡ reading
      → ReadsLeftmost view place first rest
      (variable_or reading (leftmost_type view.classes first rest (simple_type view.classes place.header first)))
  reads (found x) is =
      ReadsLeftmost.by_variable (subst (ReadsVariable view place first) is (variable-answered view ordered place first).holds)
  reads outside is =
      reads_type _ (no_variable outside is (λ x e. absurd cc)) (simple-answered view.classes ordered.classes place.header first).holds
  reads not_found is = reads_type _ (no_variable not_found is (λ x e. absurd cc))
      (simple-answered view.classes ordered.classes place.header first).holds

  -- ---- and nothing more

  by_type : (reading : TypeReading C) → IsNoVariable view place first → ReadsSimple view.classes place.header first reading
      → leftmost view place first rest ≡ leftmost_type view.classes first rest reading
  by_type reading none r =
      no_variable-or none (leftmost_type view.classes first rest (simple_type view.classes place.header first))
      ∙ ap (leftmost_type view.classes first rest) (sym (simple-is reading r))

  only : (reading : Leftmost C M) → ReadsLeftmost view place first rest reading → reading ≡ leftmost view place first rest
  only reading (ReadsLeftmost.by_variable {variable = x} reads) =
      rw (sym ((variable-answered view ordered place first).only (found x) reads)) refl
  only reading (ReadsLeftmost.by_class none r) = sym (by_type _ none r)
  only reading (ReadsLeftmost.by_import none r) = sym (by_type _ none r)
  only reading (ReadsLeftmost.by_full_name {further = further} {class = c} none r fewest_names) =
      sym (by_type _ none r ∙ ap class_or_outside (is-fewest view.classes ordered.classes first rest further c fewest_names))
  only reading (ReadsLeftmost.as_written none r missing) =
      sym (by_type _ none r ∙ ap class_or_outside (none-fewest view.classes ordered.classes first rest missing))

  pub leftmost-answered : IsTheAnswer (ReadsLeftmost view place first rest) (leftmost view place first rest)
  leftmost-answered = record { holds = reads _ refl; only = only }
