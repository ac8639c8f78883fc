-- What reading comes to: a value, if each name in what is read has a meaning, and faults.
use Rattle.std.specs.Prelude.{ℕ, List, [], ◌∷◌, ◌++◌, Option, Some, None, option_map}
use Rattle.std.specs.Option.{option_zip}
use Rattle.mol_resolve_rules.specs.FaultKinds.{FaultKind}

-- a fault and its place in the file, in bytes
pub record TreeFault : Type 0 where
  pub kind : FaultKind
  pub at : ℕ

-- There may be neither a value nor a fault: then there is a fault elsewhere that says what is wrong.
pub record Outcome (A : Type 0) : Type 0 where
  pub value : Option A
  pub faults : List TreeFault

abbrev pub fine : {A : Type 0} → A → Outcome A
fine a = record { value = Some a; faults = [] }

abbrev pub silent : {A : Type 0} → Outcome A
silent = record { value = None; faults = [] }

abbrev pub refused : {A : Type 0} → FaultKind → ℕ → Outcome A
refused kind at = record { value = None; faults = record { kind = kind; at = at } ∷ [] }

-- further faults, before those that there are
abbrev pub with_faults : {A : Type 0} → List TreeFault → Outcome A → Outcome A
with_faults faults outcome = record { value = outcome.value; faults = faults ++ outcome.faults }

abbrev pub mapped : {A B : Type 0} → (A → B) → Outcome A → Outcome B
mapped make part = record { value = option_map make part.value; faults = part.faults }

-- Something over a part: where the part has no value nothing is made, and the faults are those of the part.
abbrev pub over_value : {A B : Type 0} → Option A → List TreeFault → (A → Outcome B) → Outcome B
over_value None faults make = record { value = None; faults = faults }
over_value (Some a) faults make = with_faults faults (make a)

abbrev pub over : {A B : Type 0} → Outcome A → (A → Outcome B) → Outcome B
over part make = over_value part.value part.faults make

-- nothing is made, and nothing told, where there is no value
abbrev pub given : {A B : Type 0} → Option A → (A → Outcome B) → Outcome B
given value make = over_value value [] make

-- Something that asks nothing of a part but to have its value: whatever the part comes to, both tell their faults.
abbrev pub beside : {A B : Type 0} → Outcome A → (Option A → Outcome B) → Outcome B
beside part make = with_faults part.faults (make part.value)

-- several parts have a value where each has one
abbrev pub both : {A B : Type 0} → Outcome A → Outcome B → Outcome (A × B)
both first second = record { value = option_zip first.value second.value; faults = first.faults ++ second.faults }

abbrev pub put_first : {A : Type 0} → A × List A → List A
put_first parts = parts.0 ∷ parts.1

abbrev pub all : {A : Type 0} → List (Outcome A) → Outcome (List A)
all [] = fine []
all (part ∷ parts) = mapped put_first (both part (all parts))

abbrev pub maybe : {A : Type 0} → Option (Outcome A) → Outcome (Option A)
maybe None = fine None
maybe (Some part) = mapped (λ a. Some a) part
