-- Outcomes with the same faults, and values of which a relation holds.
use Rattle.std.proofs.Common.{◌≡◌, ℕ, List, [], ◌++◌, Option, Some, None, option_map, refl, ap}
use Rattle.std.specs.Prelude.{⊤}
use Rattle.std.specs.Option.{option_zip}
use Rattle.mol_resolve_rules.specs.FaultKinds.{FaultKind}
use Rattle.mol_resolve_rules.specs.Outcomes.{TreeFault, Outcome, fine, silent, refused, with_faults, mapped, over_value, over, given, beside, both}

-- there are two values of which the relation holds, or there is none
abbrev pub SameOption : {A B : Type 0} → (A → B → Type 0) → Option A → Option B → Type 0
SameOption R None None = ⊤
SameOption R None (Some b) = ⊥
SameOption R (Some a) None = ⊥
SameOption R (Some a) (Some b) = R a b

pub record OutcomesAlike {A B : Type 0} (R : A → B → Type 0) (o : Outcome A) (r : Outcome B) : Type 0 where
  pub values : SameOption R o.value r.value
  pub faults : o.faults ≡ r.faults

-- the first is what a function makes of the second
abbrev pub Made : {A B : Type 0} → (B → A) → A → B → Type 0
Made make a b = a ≡ make b

pub made-some : {A B : Type 0} (make : B → A) (v : Option A) (w : Option B) → SameOption (Made make) v w → v ≡ option_map make w
made-some make None None same = refl
made-some make None (Some b) same = absurd same
made-some make (Some a) None same = absurd same
made-some make (Some a) (Some b) same = λ i. Some (same i)

pub made-outcome : {A B : Type 0} (make : B → A) (o : Outcome A) (r : Outcome B) → OutcomesAlike (Made make) o r → o ≡ mapped make r
made-outcome make o r alike = λ i. record { value = made-some make o.value r.value alike.values i; faults = alike.faults i }

-- what is made of values of which the relation holds is equal
module _ {A B X : Type 0} (R : A → B → Type 0) (make : A → X) (made : B → X) where
  equal-some : ((a : A) (b : B) → R a b → make a ≡ made b) → (v : Option A) (w : Option B) → SameOption R v w
      → option_map make v ≡ option_map made w
  equal-some each None None same = refl
  equal-some each None (Some b) same = absurd same
  equal-some each (Some a) None same = absurd same
  equal-some each (Some a) (Some b) same = ap (λ (x : X). Some x) (each a b same)

  pub equal-mapped : (o : Outcome A) (r : Outcome B) → OutcomesAlike R o r → ((a : A) (b : B) → R a b → make a ≡ made b)
      → mapped make o ≡ mapped made r
  equal-mapped o r alike each = λ i. record { value = equal-some each o.value r.value alike.values i; faults = alike.faults i }

module _ {A B : Type 0} (R : A → B → Type 0) where
  pub alike-fine : (a : A) (b : B) → R a b → OutcomesAlike R (fine a) (fine b)
  alike-fine a b same = record { values = same; faults = refl }

  pub alike-silent : OutcomesAlike R silent silent
  alike-silent = record { values = tt; faults = refl }

  pub alike-refused : (kind : FaultKind) (at : ℕ) → OutcomesAlike R (refused kind at) (refused kind at)
  alike-refused kind at = record { values = tt; faults = refl }

  pub alike-with_faults : (faults others : List TreeFault) (o : Outcome A) (r : Outcome B) → faults ≡ others → OutcomesAlike R o r
      → OutcomesAlike R (with_faults faults o) (with_faults others r)
  alike-with_faults faults others o r same alike = record { values = alike.values; faults = λ i. same i ++ alike.faults i }

module _ {A B X Y : Type 0} (R : A → B → Type 0) (S : X → Y → Type 0) where
  some-mapped : (make : A → X) (made : B → Y) → ((a : A) (b : B) → R a b → S (make a) (made b))
      → (v : Option A) (w : Option B) → SameOption R v w → SameOption S (option_map make v) (option_map made w)
  some-mapped make made each None None same = tt
  some-mapped make made each None (Some b) same = absurd same
  some-mapped make made each (Some a) None same = absurd same
  some-mapped make made each (Some a) (Some b) same = each a b same

  pub alike-mapped : (make : A → X) (made : B → Y) (o : Outcome A) (r : Outcome B) → OutcomesAlike R o r
      → ((a : A) (b : B) → R a b → S (make a) (made b)) → OutcomesAlike S (mapped make o) (mapped made r)
  alike-mapped make made o r alike each = record {
    values = some-mapped make made each o.value r.value alike.values;
    faults = alike.faults;
  }

  over-value : (make : A → Outcome X) (made : B → Outcome Y) → ((a : A) (b : B) → R a b → OutcomesAlike S (make a) (made b))
      → (v : Option A) (w : Option B) (faults others : List TreeFault) → SameOption R v w → faults ≡ others
      → OutcomesAlike S (over_value v faults make) (over_value w others made)
  over-value make made each None None faults others same are = record { values = tt; faults = are }
  over-value make made each None (Some b) faults others same are = absurd same
  over-value make made each (Some a) None faults others same are = absurd same
  over-value make made each (Some a) (Some b) faults others same are =
      alike-with_faults S faults others (make a) (made b) are (each a b same)

  pub alike-over : (make : A → Outcome X) (made : B → Outcome Y) (o : Outcome A) (r : Outcome B) → OutcomesAlike R o r
      → ((a : A) (b : B) → R a b → OutcomesAlike S (make a) (made b)) → OutcomesAlike S (over o make) (over r made)
  alike-over make made o r alike each = over-value make made each o.value r.value o.faults r.faults alike.values alike.faults

  pub alike-given : (make : A → Outcome X) (made : B → Outcome Y) (v : Option A) (w : Option B) → SameOption R v w
      → ((a : A) (b : B) → R a b → OutcomesAlike S (make a) (made b)) → OutcomesAlike S (given v make) (given w made)
  alike-given make made v w same each = over-value make made each v w [] [] same refl

  pub alike-beside : (make : Option A → Outcome X) (made : Option B → Outcome Y) (o : Outcome A) (r : Outcome B) → OutcomesAlike R o r
      → ((v : Option A) (w : Option B) → SameOption R v w → OutcomesAlike S (make v) (made w))
      → OutcomesAlike S (beside o make) (beside r made)
  alike-beside make made o r alike each =
      alike-with_faults S o.faults r.faults (make o.value) (made r.value) alike.faults (each o.value r.value alike.values)

  -- two of which each is related to its other
  abbrev pub Both : A × X → B × Y → Type 0
  Both pair other = R pair.0 other.0 × S pair.1 other.1

  some-zipped : (v : Option A) (w : Option B) (x : Option X) (y : Option Y) → SameOption R v w → SameOption S x y
      → SameOption Both (option_zip v x) (option_zip w y)
  some-zipped None None x y same are = tt
  some-zipped None (Some b) x y same are = absurd same
  some-zipped (Some a) None x y same are = absurd same
  some-zipped (Some a) (Some b) None None same are = tt
  some-zipped (Some a) (Some b) None (Some y) same are = absurd are
  some-zipped (Some a) (Some b) (Some x) None same are = absurd are
  some-zipped (Some a) (Some b) (Some x) (Some y) same are = (same, are)

  pub alike-both : (o : Outcome A) (r : Outcome B) (p : Outcome X) (q : Outcome Y) → OutcomesAlike R o r → OutcomesAlike S p q
      → OutcomesAlike Both (both o p) (both r q)
  alike-both o r p q alike also = record {
    values = some-zipped o.value r.value p.value q.value alike.values also.values;
    faults = λ i. alike.faults i ++ also.faults i;
  }
