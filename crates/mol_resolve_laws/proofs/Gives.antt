-- What holds of the value of an outcome, if it has one.
use Rattle.std.proofs.Common.{◌≡◌, ℕ, List, [], Option, Some, None, option_map, refl, subst}
use Rattle.std.specs.Option.{option_zip}
use Rattle.mol_resolve_rules.proofs.FilesStand.{some-same}
use Rattle.mol_resolve_rules.specs.FaultKinds.{FaultKind}
use Rattle.mol_resolve_rules.specs.Outcomes.{TreeFault, Outcome, fine, silent, refused, with_faults, mapped, over_value, over, given, beside, both}

-- Where there is a value, P holds of it.
pub record Gives {A : Type 0} (P : A → Type 0) (outcome : Outcome A) : Type 0 where
  pub each : (a : A) → outcome.value ≡ Some a → P a

pub none-some : {A : Type 0} {a : A} → ¬ (None ≡ Some a)
none-some is = cc

module _ {A : Type 0} (P : A → Type 0) where
  pub gives-fine : (a : A) → P a → Gives P (fine a)
  gives-fine a holds = record { each = λ b is. subst P (some-same is) holds }

  pub gives-refused : (kind : FaultKind) (at : ℕ) → Gives P (refused kind at)
  gives-refused kind at = record { each = λ a is. absurd (none-some is) }

  pub gives-silent : Gives P silent
  gives-silent = record { each = λ a is. absurd (none-some is) }

  pub gives-with_faults : (faults : List TreeFault) (o : Outcome A) → Gives P o → Gives P (with_faults faults o)
  gives-with_faults faults o gives = record { each = λ a is. gives.each a is }

module _ {A B : Type 0} (P : A → Type 0) (Q : B → Type 0) where
  pub gives-mapped : (make : A → B) (o : Outcome A) → Gives P o → ((a : A) → P a → Q (make a)) → Gives Q (mapped make o)
  gives-mapped make o gives holds = record { each = λ b is. by o.value refl b is } where
    by : (v : Option A) → o.value ≡ v → (b : B) → option_map make v ≡ Some b → Q b
    by None none b is = absurd (none-some is)
    by (Some a) some b is = subst Q (some-same is) (holds a (gives.each a some))

  pub gives-both : (o : Outcome A) (second : Outcome B) → Gives P o → Gives Q second
      → Gives (λ (pair : A × B). P pair.0 × Q pair.1) (both o second)
  gives-both o second gives more = record { each = λ pair is. by o.value second.value refl refl pair is } where
    by : (v : Option A) (w : Option B) → o.value ≡ v → second.value ≡ w → (pair : A × B) → option_zip v w ≡ Some pair
        → P pair.0 × Q pair.1
    by None w none other pair is = absurd (none-some is)
    by (Some a) None some none pair is = absurd (none-some is)
    by (Some a) (Some b) some other pair is =
        subst (λ (pair : A × B). P pair.0 × Q pair.1) (some-same is) (gives.each a some, more.each b other)

  gives-over_value : (v : Option A) (faults : List TreeFault) (make : A → Outcome B) → ((a : A) → v ≡ Some a → Gives Q (make a))
      → Gives Q (over_value v faults make)
  gives-over_value None faults make gives = record { each = λ b is. absurd (none-some is) }
  gives-over_value (Some a) faults make gives = record { each = λ b is. (gives a refl).each b is }

  pub gives-over : (o : Outcome A) (make : A → Outcome B) → Gives P o → ((a : A) → P a → Gives Q (make a)) → Gives Q (over o make)
  gives-over o make gives holds = gives-over_value o.value o.faults make (λ a is. holds a (gives.each a is))

  pub gives-beside : (o : Outcome A) (make : Option A → Outcome B) → Gives P o
      → ((v : Option A) → ((a : A) → v ≡ Some a → P a) → Gives Q (make v)) → Gives Q (beside o make)
  gives-beside o make gives holds = record { each = λ b is. (holds o.value gives.each).each b is }

pub gives-given : {A B : Type 0} (P : A → Type 0) (Q : B → Type 0) (v : Option A) (make : A → Outcome B)
    → ((a : A) → v ≡ Some a → P a) → ((a : A) → P a → Gives Q (make a)) → Gives Q (given v make)
gives-given P Q v make gives holds = gives-over_value P Q v [] make (λ a is. holds a (gives a is))
