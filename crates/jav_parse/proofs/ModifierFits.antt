-- Before what modifiers that fit may stand.
use Rattle.std.proofs.Common.{◌≡◌, ℕ, ◌&&◌, ◌||◌, not, Bool, true, false, List, [], ◌∷◌, refl, sym, ◌∙◌}
use Rattle.mol_base.specs.Modifiers.{ClassWords, FieldWords, MethodWords, AbstractWords, ConstructorWords, class_words, field_words, method_words, abstract_words, constructor_words}
use Rattle.jav_parse_unit.specs.declared.words.Words.{Words as Modifiers}
use Rattle.jav_parse_unit.specs.WordRules as rules
use Rattle.jav_parse.proofs.Modifiers.{Marked, allowed_by, abstract_is}

first_no : (a b : Bool) → not (a || b) ≡ true → (a ≡ false) × (not b ≡ true)
first_no true b h = absurd (cc)
first_no false b h = (refl, h)

pub not_is : (a : Bool) → not a ≡ true → a ≡ false
not_is true h = absurd (cc)
not_is false h = refl

pub both_true : (a b : Bool) → (a && b) ≡ true → (a ≡ true) × (b ≡ true)
both_true true b h = (refl, h)
both_true false b h = absurd (cc)

not_both : (a b : Bool) → (a && b) ≡ false → a ≡ true → b ≡ false
not_both true b h e = h
not_both false b h e = absurd (cc)

none : (a c : Bool) → a ≡ false → a ≡ true → c ≡ true
none a c e q = absurd (cc)

pub class_fits : (w : Modifiers) (list : List (List ℕ)) → Marked w list → rules.fit_class w ≡ true → ClassWords list
class_fits w list m h =
    let a = first_no w.overrides (w.is_protected || (w.is_private || (w.is_static || (w.is_transient || w.is_volatile)))) h in
    let b = first_no w.is_protected (w.is_private || (w.is_static || (w.is_transient || w.is_volatile))) a.1 in
    let c = first_no w.is_private (w.is_static || (w.is_transient || w.is_volatile)) b.1 in
    let d = first_no w.is_static (w.is_transient || w.is_volatile) c.1 in
    let e = first_no w.is_transient w.is_volatile d.1 in
    allowed_by w list m class_words (false ∷ true ∷ false ∷ false ∷ true ∷ false ∷ true ∷ false ∷ false ∷ []) refl (
      none w.overrides false a.0,
      (
        (λ q. refl),
        (
          none w.is_protected false b.0,
          (
            none w.is_private false c.0,
            (
              (λ q. refl),
              (
                none w.is_static false d.0,
                (
                  (λ q. refl),
                  (none w.is_transient false e.0, (none w.is_volatile false (not_is w.is_volatile e.1), tt)),
                ),
              ),
            ),
          ),
        ),
      ),
    )

pub field_fits : (w : Modifiers) (list : List (List ℕ)) → Marked w list → rules.fit_field w ≡ true → FieldWords list
field_fits w list m h =
    let a = first_no w.overrides w.is_abstract h in
    allowed_by w list m field_words (false ∷ true ∷ true ∷ true ∷ false ∷ true ∷ true ∷ true ∷ true ∷ []) refl
    (none w.overrides false a.0, ((λ q. refl), ((λ q. refl), ((λ q. refl), (none w.is_abstract false (not_is w.is_abstract a.1), ((λ q. refl), ((λ q. refl), ((λ q. refl), ((λ q. refl), tt)))))))))

-- no word of a method is one of a field alone
method_no : (w : Modifiers) → rules.fit_method w ≡ true → (w.is_transient ≡ false) × (w.is_volatile ≡ false) × ((w.is_abstract && w.is_static) ≡ false)
method_no w h =
    let a = first_no w.is_transient (w.is_volatile || (w.is_abstract && w.is_static)) h in
    let b = first_no w.is_volatile (w.is_abstract && w.is_static) a.1 in
    (a.0, b.0, not_is (w.is_abstract && w.is_static) b.1)

pub method_fits : (w : Modifiers) (list : List (List ℕ)) → Marked w list → rules.fit_method w ≡ true → w.is_abstract ≡ false → MethodWords list
method_fits w list m h e =
    let a = method_no w h in
    allowed_by w list m method_words (true ∷ true ∷ true ∷ true ∷ false ∷ true ∷ true ∷ false ∷ false ∷ []) refl
    ((λ q. refl), ((λ q. refl), ((λ q. refl), ((λ q. refl), (none w.is_abstract false e, ((λ q. refl), ((λ q. refl), (none w.is_transient false a.0, (none w.is_volatile false a.1, tt)))))))))

pub abstract_fits : (w : Modifiers) (list : List (List ℕ)) → Marked w list → rules.fit_method w ≡ true → w.is_abstract ≡ true → AbstractWords list
abstract_fits w list m h e =
    let a = method_no w h in (
      allowed_by w list m abstract_words (true ∷ true ∷ true ∷ true ∷ true ∷ false ∷ true ∷ false ∷ false ∷ []) refl
          ((λ q. refl), ((λ q. refl), ((λ q. refl), ((λ q. refl), ((λ q. refl), (none w.is_static false (not_both w.is_abstract w.is_static a.2 e), ((λ q. refl), (none w.is_transient false a.0, (none w.is_volatile false a.1, tt))))))))),
      sym (abstract_is w list m) ∙ e,
    )

pub abstract_no_static : (w : Modifiers) → rules.fit_method w ≡ true → w.is_abstract ≡ true → w.is_static ≡ false
abstract_no_static w h e = not_both w.is_abstract w.is_static ((method_no w h).2) e

pub constructor_fits : (w : Modifiers) (list : List (List ℕ)) → Marked w list → rules.fit_constructor w ≡ true → ConstructorWords list
constructor_fits w list m h =
    let a = both_true (rules.fit_field w) (rules.fit_method w && not (w.is_static || w.is_final)) h in
    let b = both_true (rules.fit_method w) (not (w.is_static || w.is_final)) a.1 in
    let c = first_no w.is_static w.is_final b.1 in
    let d = first_no w.overrides w.is_abstract a.0 in
    let e = method_no w b.0 in
    allowed_by w list m constructor_words (false ∷ true ∷ true ∷ true ∷ false ∷ false ∷ false ∷ false ∷ false ∷ []) refl (
      none w.overrides false d.0,
      (
        (λ q. refl),
        (
          (λ q. refl),
          (
            (λ q. refl),
            (
              none w.is_abstract false (not_is w.is_abstract d.1),
              (
                none w.is_static false c.0,
                (
                  none w.is_final false (not_is w.is_final c.1),
                  (none w.is_transient false e.0, (none w.is_volatile false e.1, tt)),
                ),
              ),
            ),
          ),
        ),
      ),
    )
