-- Steps of a command, one after another.
use Rattle.std.proofs.Common.{◌≡◌, ◌⊎◌, inl, inr, Option, None, Some, refl, sym, ◌∙◌, ap, subst}
use Rattle.std.proofs.lemmas.Option.{same_Some}

-- A step is refused, in one way, or gives one thing, and not both.
pub record IsExactStep {R X : Type 0} (Refuses : R → Type 0) (Gives : X → Type 0) : Type 0 where
  pub either : ((refusal : R) × Refuses refusal) ⊎ ((x : X) × Gives x)
  pub apart : (refusal : R) (x : X) → Refuses refusal → ¬ Gives x
  pub one_refusal : (first second : R) → Refuses first → Refuses second → first ≡ second
  pub one_gift : (first second : X) → Gives first → Gives second → first ≡ second

-- # What may refuse

pub none_some : {A : Type 0} (o : Option A) (a : A) → o ≡ Some a → o ≡ None → ⊥
none_some o a is none = let no : Some a ≡ None = sym is ∙ none in absurd cc

pub one_some : {A : Type 0} (o : Option A) (a b : A) → o ≡ Some a → o ≡ Some b → a ≡ b
one_some o a b is also = same_Some a b (sym is ∙ also)

module _ {R X : Type 0} (may_refuse : Option R) (x : X) where
  option_either : (o : Option R) → may_refuse ≡ o
      → ((refusal : R) × (may_refuse ≡ Some refusal)) ⊎ ((y : X) × ((may_refuse ≡ None) × (y ≡ x)))
  option_either (Some refusal) is = inl (refusal, is)
  option_either None none = inr (x, (none, refl))

  -- where nothing refuses, this is given
  pub option_step : IsExactStep (λ (refusal : R). may_refuse ≡ Some refusal) (λ (y : X). (may_refuse ≡ None) × (y ≡ x))
  option_step = record {
    either = option_either may_refuse refl;
    apart = λ refusal y is given. none_some may_refuse refusal is given.0;
    one_refusal = one_some may_refuse;
    one_gift = λ first second is also. is.1 ∙ sym also.1;
  }

-- what nothing refuses
pub sure_step : {R X : Type 0} {Gives : X → Type 0} (x : X) → Gives x
    → ((first second : X) → Gives first → Gives second → first ≡ second) → IsExactStep (λ (refusal : R). ⊥) Gives
sure_step x given one = record {
  either = inr (x, given);
  apart = λ refusal y refused gives. absurd refused;
  one_refusal = λ first second refused also. absurd refused;
  one_gift = one;
}

-- # One after another

-- a step refuses, or the next one does on what it gives
abbrev pub SomeRefuses : {R X : Type 0} → (R → Type 0) → (X → Type 0) → (X → R → Type 0) → R → Type 0
SomeRefuses {X = X} Refuses Gives RefusesOn refusal = Refuses refusal ⊎ ((x : X) × Gives x × RefusesOn x refusal)

-- the next one gives something on what it gives
abbrev pub BothGive : {X Y : Type 0} → (X → Type 0) → (X → Y → Type 0) → Y → Type 0
BothGive {X = X} Gives GivesOn y = (x : X) × Gives x × GivesOn x y

module _ {R X Y : Type 0} {Refuses : R → Type 0} {Gives : X → Type 0} {RefusesOn : X → R → Type 0} {GivesOn : X → Y → Type 0}
    (step : IsExactStep Refuses Gives) (next : (x : X) → Gives x → IsExactStep (RefusesOn x) (GivesOn x)) where
  turn_either : ((refusal : R) × SomeRefuses Refuses Gives RefusesOn refusal) ⊎ ((y : Y) × BothGive Gives GivesOn y)
  turn_either = by step.either where
    by_next : (x : X) → Gives x → ((refusal : R) × RefusesOn x refusal) ⊎ ((y : Y) × GivesOn x y)
        → ((refusal : R) × SomeRefuses Refuses Gives RefusesOn refusal) ⊎ ((y : Y) × BothGive Gives GivesOn y)
    by_next x given (inl refused) = inl (refused.0, inr (x, given, refused.1))
    by_next x given (inr more) = inr (more.0, (x, given, more.1))

    by : ((refusal : R) × Refuses refusal) ⊎ ((x : X) × Gives x)
        → ((refusal : R) × SomeRefuses Refuses Gives RefusesOn refusal) ⊎ ((y : Y) × BothGive Gives GivesOn y)
    by (inl refused) = inl (refused.0, inl refused.1)
    by (inr given) = by_next given.0 given.1 (next given.0 given.1).either

  turn_apart : (refusal : R) (y : Y) → SomeRefuses Refuses Gives RefusesOn refusal → ¬ (BothGive Gives GivesOn y)
  turn_apart refusal y (inl refused) given = step.apart refusal given.0 refused given.1
  turn_apart refusal y (inr refused) given =
      let same : given.0 ≡ refused.0 = step.one_gift given.0 refused.0 given.1 refused.1 in
      (next refused.0 refused.1).apart refusal y refused.2 (subst (λ (x : X). GivesOn x y) same given.2)

  turn_one_refusal : (first second : R) → SomeRefuses Refuses Gives RefusesOn first → SomeRefuses Refuses Gives RefusesOn second
      → first ≡ second
  turn_one_refusal first second (inl refused) (inl also) = step.one_refusal first second refused also
  turn_one_refusal first second (inl refused) (inr also) = absurd (step.apart first also.0 refused also.1)
  turn_one_refusal first second (inr refused) (inl also) = absurd (step.apart second refused.0 also refused.1)
  turn_one_refusal first second (inr refused) (inr also) =
      let same : also.0 ≡ refused.0 = step.one_gift also.0 refused.0 also.1 refused.1 in
      (next refused.0 refused.1).one_refusal first second refused.2 (subst (λ (x : X). RefusesOn x second) same also.2)

  turn_one_gift : (first second : Y) → BothGive Gives GivesOn first → BothGive Gives GivesOn second → first ≡ second
  turn_one_gift first second given also =
      let same : also.0 ≡ given.0 = step.one_gift also.0 given.0 also.1 given.1 in
      (next given.0 given.1).one_gift first second given.2 (subst (λ (x : X). GivesOn x second) same also.2)

  pub in_turn : IsExactStep (SomeRefuses Refuses Gives RefusesOn) (BothGive Gives GivesOn)
  in_turn = record { either = turn_either; apart = turn_apart; one_refusal = turn_one_refusal; one_gift = turn_one_gift }

-- # In other words

module _ {R X : Type 0} {Refuses Also : R → Type 0} {Gives Yields : X → Type 0} (step : IsExactStep Refuses Gives)
    (to : (refusal : R) → Refuses refusal → Also refusal) (from : (refusal : R) → Also refusal → Refuses refusal)
    (yields : (x : X) → Gives x → Yields x) (gives : (x : X) → Yields x → Gives x) where
  also_either : ((refusal : R) × Refuses refusal) ⊎ ((x : X) × Gives x) → ((refusal : R) × Also refusal) ⊎ ((x : X) × Yields x)
  also_either (inl refused) = inl (refused.0, to refused.0 refused.1)
  also_either (inr given) = inr (given.0, yields given.0 given.1)

  -- the same step
  pub reworded : IsExactStep Also Yields
  reworded = record {
    either = also_either step.either;
    apart = λ refusal x refused given. step.apart refusal x (from refusal refused) (gives x given);
    one_refusal = λ first second refused also. step.one_refusal first second (from first refused) (from second also);
    one_gift = λ first second given also. step.one_gift first second (gives first given) (gives second also);
  }

module _ {R S X : Type 0} {Refuses : R → Type 0} {Gives : X → Type 0} (step : IsExactStep Refuses Gives) (told : R → S) where
  refused_either : ((refusal : R) × Refuses refusal) ⊎ ((x : X) × Gives x)
      → ((status : S) × ((refusal : R) × Refuses refusal × (status ≡ told refusal))) ⊎ ((x : X) × Gives x)
  refused_either (inl refused) = inl (told refused.0, (refused.0, refused.1, refl))
  refused_either (inr given) = inr given

  -- a refusal is told as something
  pub refused_as : IsExactStep (λ (status : S). (refusal : R) × Refuses refusal × (status ≡ told refusal)) Gives
  refused_as = record {
    either = refused_either step.either;
    apart = λ status x refused given. step.apart refused.0 x refused.1 given;
    one_refusal = λ first second refused also.
        refused.2 ∙ ap told (step.one_refusal refused.0 also.0 refused.1 also.1) ∙ sym also.2;
    one_gift = step.one_gift;
  }

module _ {R X Y : Type 0} {Refuses : R → Type 0} {Gives : X → Type 0} (step : IsExactStep Refuses Gives) (made : X → Y) where
  made_either : ((refusal : R) × Refuses refusal) ⊎ ((x : X) × Gives x)
      → ((refusal : R) × Refuses refusal) ⊎ ((y : Y) × ((x : X) × Gives x × (y ≡ made x)))
  made_either (inl refused) = inl refused
  made_either (inr given) = inr (made given.0, (given.0, given.1, refl))

  -- something is made of what is given
  pub given_as : IsExactStep Refuses (λ (y : Y). (x : X) × Gives x × (y ≡ made x))
  given_as = record {
    either = made_either step.either;
    apart = λ refusal y refused given. step.apart refusal given.0 refused given.1;
    one_refusal = step.one_refusal;
    one_gift = λ first second given also.
        given.2 ∙ ap made (step.one_gift given.0 also.0 given.1 also.1) ∙ sym also.2;
  }
