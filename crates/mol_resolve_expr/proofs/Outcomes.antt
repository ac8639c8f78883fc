-- What is read of the parts of a tree, put together.
use Rattle.std.proofs.Common.{◌≡◌, ◌⊎◌, inl, inr, List, [], ◌++◌, Contains, Option, Some, None, option_map, refl, sym, ap, ◌∙◌, subst}
use Rattle.std.proofs.lemmas.List.Elements.{Contains-append_left, Contains-append_right, Contains-append_cases}
use Rattle.std.specs.Option.{option_zip}
use Rattle.mol_resolve_faults.proofs.SameFaults.{kept_alike}
use Rattle.mol_resolve_faults.specs.First.{noted, all_noted}
use Rattle.mol_resolve_readings.specs.reads.Reads.{Reads}
use Rattle.mol_resolve_rules.specs.FaultKinds.{FaultKind}
use Rattle.mol_resolve_rules.specs.Outcomes.{TreeFault, Outcome, refused, mapped, over, over_value, given, beside, both}
use Prim.Native.Nat.{ℕ}

-- faults of a part, and then others
pub noted_on : (faults others : List TreeFault) (before middle after : Option TreeFault) → middle ≡ all_noted before faults
    → after ≡ all_noted middle others → after ≡ all_noted before (faults ++ others)
noted_on faults others before middle after first next =
    next ∙ ap (λ noted. all_noted noted others) first ∙ sym (kept_alike.in_turn before faults others)

either_side : (faults others : List TreeFault) (fault : TreeFault) → Contains (faults ++ others) fault → Contains (others ++ faults) fault
either_side faults others fault at = by (Contains-append_cases faults others fault at) where
  by : Contains faults fault ⊎ Contains others fault → Contains (others ++ faults) fault
  by (inl first) = Contains-append_right others faults fault first
  by (inr next) = Contains-append_left others faults fault next

-- the same, in the other order
exchanged : (faults others : List TreeFault) (before : Option TreeFault) → all_noted before (faults ++ others) ≡ all_noted before (others ++ faults)
exchanged faults others before =
    kept_alike.alike before (faults ++ others) (others ++ faults) (either_side faults others) (either_side others faults)

pub refused_read : {A : Type 0} (kind : FaultKind) (at : ℕ) (before after : Option TreeFault)
    → after ≡ noted before (record { kind = kind; at = at }) → Reads {A = A} (refused kind at) None before after
refused_read kind at before after is = record { value_read = refl; faults_noted = is }

module _ {A B : Type 0} where
  pub made_read : (make : A → B) (part : Outcome A) (x : Option A) (z : Option B) (before after : Option TreeFault)
      → Reads part x before after → z ≡ option_map make x → Reads (mapped make part) z before after
  made_read make part x z before after read is =
      record { value_read = is ∙ ap (option_map make) read.value_read; faults_noted = read.faults_noted }

  pub both_read : (first : Outcome A) (second : Outcome B) (x : Option A) (y : Option B) (before middle after : Option TreeFault)
      → Reads first x before middle → Reads second y middle after → Reads (both first second) (option_zip x y) before after
  both_read first second x y before middle after one two = record {
    value_read = λ i. option_zip (one.value_read i) (two.value_read i);
    faults_noted = noted_on first.faults second.faults before middle after one.faults_noted two.faults_noted;
  }

  -- the second was read first
  pub both_exchanged : (first : Outcome A) (second : Outcome B) (x : Option A) (y : Option B) (before middle after : Option TreeFault)
      → Reads second y before middle → Reads first x middle after → Reads (both first second) (option_zip x y) before after
  both_exchanged first second x y before middle after two one = record {
    value_read = λ i. option_zip (one.value_read i) (two.value_read i);
    faults_noted = noted_on second.faults first.faults before middle after two.faults_noted one.faults_noted
        ∙ exchanged second.faults first.faults before;
  }

  pub beside_read : (part : Outcome A) (make : Option A → Outcome B) (x : Option A) (y : Option B)
      (before middle after : Option TreeFault) → Reads part x before middle → Reads (make x) y middle after
      → Reads (beside part make) y before after
  beside_read part make x y before middle after one two =
      let made = subst (λ value. Reads (make value) y middle after) one.value_read two in
      record {
        value_read = made.value_read;
        faults_noted = noted_on part.faults (make part.value).faults before middle after one.faults_noted made.faults_noted;
      }

  over_by : (part : Outcome A) (make : A → Outcome B) (value : Option A) → value ≡ part.value
      → over part make ≡ over_value value part.faults make
  over_by part make value is = ap (λ value. over_value value part.faults make) (sym is)

  pub over_read : (part : Outcome A) (make : A → Outcome B) (a : A) (y : Option B) (before middle after : Option TreeFault)
      → Reads part (Some a) before middle → Reads (make a) y middle after → Reads (over part make) y before after
  over_read part make a y before middle after one two =
      subst (λ outcome. Reads outcome y before after) (sym (over_by part make (Some a) one.value_read)) record {
        value_read = two.value_read;
        faults_noted = noted_on part.faults (make a).faults before middle after one.faults_noted two.faults_noted;
      }

  pub over_none : (part : Outcome A) (make : A → Outcome B) (before after : Option TreeFault) → Reads part None before after
      → Reads (over part make) None before after
  over_none part make before after one =
      subst (λ outcome. Reads outcome None before after) (sym (over_by part make None one.value_read))
      record { value_read = refl; faults_noted = one.faults_noted }

  given_none : (part : Outcome A) (make : A → Outcome B) (y : Option B) (before middle after : Option TreeFault)
      → Reads part None before middle → Reads {A = B} (record { value = None; faults = [] }) y middle after → Reads (over part make) y before after
  given_none part make y before middle after one two =
      subst (λ outcome. Reads outcome y before after) (sym (over_by part make None one.value_read))
      record { value_read = two.value_read; faults_noted = two.faults_noted ∙ one.faults_noted }

  -- what is made of a part where that has a value
  pub given_read : (part : Outcome A) (make : A → Outcome B) (x : Option A) (y : Option B) (before middle after : Option TreeFault)
      → Reads part x before middle → Reads (given x make) y middle after → Reads (over part make) y before after
  given_read part make None y before middle after one two = given_none part make y before middle after one two
  given_read part make (Some a) y before middle after one two = over_read part make a y before middle after one two
