-- How an object is read: member after member, each at the key that is next.
use Rattle.std.specs.Prelude.{◌≡◌, ℕ, Bool, if◌then◌else◌, List, [], ◌∷◌, Option, None, Some, option_map, option_and_then, Result, Ok, Err}
use Rattle.std.specs.Str.{bytes_eq}
use Rattle.serde_json.specs.Data.{Data, null, Items, no_items, item, Members, no_members, member}
use Rattle.serde_json.specs.Find.{as_str, as_array, as_object}
use Rattle.serde_json.specs.View.{view, members_view}
use Rattle.serde_json.specs.declared.value.Value.{Value}
use Rattle.mol_base.specs.Spelled.{id_of, stamp_of}
use Rattle.mol_base.specs.declared.ident.Id.{Id}
use Rattle.mol_base.specs.declared.ident.Stamp.{Stamp}
use Rattle.mol_log_rows.specs.declared.lines.members.Members.{Members as OpenObject}
use Rattle.mol_log_rows.specs.declared.lines.object_fault.ObjectFault.{ObjectFault}
use Rattle.mol_log_rows.specs.declared.lines.object_fault.ObjectFault.TheVariants.{WrongForm}

-- # Readers

-- what was read with the members after it, or nothing
abbrev pub Outcome : Type 0 → Type 0
Outcome A = Option (A × Members)

abbrev pub Reader : Type 0 → Type 0
Reader A = Members → Outcome A

unfoldable pub and_then : {A B : Type 0} → Outcome A → (A → Reader B) → Outcome B
and_then (Some p) next = next p.0 p.1
and_then None next = None

infixl 10 ◌>>=◌
abbrev pub ◌>>=◌ : {A B : Type 0} → Reader A → (A → Reader B) → Reader B
reader >>= next = λ ms. and_then (reader ms) next

abbrev pub pure : {A : Type 0} → A → Reader A
pure a = λ ms. Some (a, ms)

abbrev pub before : {A : Type 0} → Members → A → A × Members
before ms a = (a, ms)

-- what stands at this key, which is the next one
unfoldable pub part : {A : Type 0} → List ℕ → (Data → Option A) → Reader A
part key from no_members = None
part key from (member k d ms) = if bytes_eq k key then option_map (before ms) (from d) else None

-- whether no member is left
abbrev pub nothing_left : Members → Outcome (Unit {0})
nothing_left no_members = Some (tt, no_members)
nothing_left (member k d ms) = None

-- what was read, where no member is left
abbrev pub whole : {A : Type 0} → Outcome A → Option A
whole None = None
whole (Some p) = elim p.1 [ no_members ↦ Some p.0 | member k d ms ↦ None ]

-- the object as a whole
abbrev pub object_from : {A : Type 0} → Reader A → Data → Option A
object_from reader d = option_and_then (λ ms. whole (reader ms)) (as_object d)

-- # What the calls that read ensure, unless memory runs out

-- the members that are not taken yet
abbrev pub members_left : OpenObject → Members
members_left members = members_view members.rest

abbrev pub Reads : {A : Type 0} → Outcome A → Result A ObjectFault → Members → Type 0
Reads outcome (Ok a) new = outcome ≡ Some (a, new)
Reads outcome (Err fault) new = fault ≡ WrongForm → outcome ≡ None

-- the same of a value of JSON
abbrev pub ReadsData : Outcome Data → Result Value ObjectFault → Members → Type 0
ReadsData outcome (Ok value) new = outcome ≡ Some (view value, new)
ReadsData outcome (Err fault) new = outcome ≡ None

-- the same where it is known what is read
abbrev pub ReadsKnown : {A U : Type 0} → A → Outcome A → Result U ObjectFault → Members → Type 0
ReadsKnown a outcome (Ok u) new = outcome ≡ Some (a, new)
ReadsKnown a outcome (Err fault) new = fault ≡ WrongForm → outcome ≡ None

-- the same of one value
abbrev pub Gives : {A : Type 0} → Option A → Result A ObjectFault → Type 0
Gives found (Ok a) = found ≡ Some a
Gives found (Err fault) = fault ≡ WrongForm → found ≡ None

-- # Parts

-- the value, where it passes the test
abbrev pub passing : {A : Type 0} → (A → Bool) → A → Option A
passing test a = if test a then Some a else None

abbrev pub kept : {A : Type 0} → (A → Bool) → Option A → Option A
kept test found = option_and_then (passing test) found

abbrev pub id_from : Data → Option Id
id_from d = option_and_then id_of (as_str d)

abbrev pub stamp_from : Data → Option Stamp
stamp_from d = option_and_then stamp_of (as_str d)

-- the text that is asked for
abbrev pub same_from : List ℕ → Data → Option (List ℕ)
same_from text d = kept (λ found. bytes_eq found text) (as_str d)

abbrev pub text_before : List ℕ → Option (List (List ℕ)) → Option (List (List ℕ))
text_before text more = option_map (λ texts. text ∷ texts) more

unfoldable pub texts_in : Items → Option (List (List ℕ))
texts_in no_items = Some []
texts_in (item d ds) = option_and_then (λ text. text_before text (texts_in ds)) (as_str d)

abbrev pub texts_from : Data → Option (List (List ℕ))
texts_from d = option_and_then texts_in (as_array d)

abbrev pub maybe_from : Data → Option (Option (List (List ℕ)))
maybe_from null = Some None
maybe_from d = option_map Some (texts_from d)
