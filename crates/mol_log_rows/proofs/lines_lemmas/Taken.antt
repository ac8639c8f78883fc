-- What stands at a key, read on.
use Rattle.std.proofs.Common.{◌≡◌, ℕ, List, Bool, true, false, Result, Ok, Err, Option, Some, None, option_map, option_and_then, refl, sym, ap, ◌∙◌, subst}
use Rattle.std.specs.Prelude.{if◌then◌else◌, ok_or}
use Rattle.std.specs.Str.{bytes_eq}
use Rattle.std.specs.Cmp.Lexicographic.{same_text}
use Rattle.serde_json.specs.Data.{Data, Members, no_members, member}
use Rattle.serde_json.specs.Find.{as_str}
use Rattle.mol_log_rows.specs.lines.Reader.{Outcome, part, before, passing, same_from, Reads, Gives}
use Rattle.mol_log_rows.specs.declared.lines.object_fault.ObjectFault.{ObjectFault}
use Rattle.mol_log_rows.specs.declared.lines.object_fault.ObjectFault.TheVariants.{WrongForm}

-- what was read, and the members after it
abbrev pub value_of : {A : Type 0} → A → Outcome A → A
value_of missing (Some p) = p.0
value_of missing None = missing

abbrev pub rest_of : {A : Type 0} → Members → Outcome A → Members
rest_of missing (Some p) = p.1
rest_of missing None = missing

module _ {A : Type 0} (key : List ℕ) (from : Data → Option A) where
  abbrev nothing : Outcome Data
  nothing = None

  abbrev none : Outcome A
  none = None

  tested : (d d' : Data) (ms rest : Members) (b : Bool) → (if b then option_map (before ms) (Some d) else nothing) ≡ Some (d', rest)
      → (if b then option_map (before ms) (from d) else none) ≡ option_map (before rest) (from d')
  tested d d' ms rest true e =
      let data_is : d ≡ d' = ap (value_of d) e in
      let rest_is : ms ≡ rest = ap (rest_of ms) e in
      λ i. option_map (before (rest_is i)) (from (data_is i))
  tested d d' ms rest false e = absurd cc

  -- where something stands at the key it is read
  pub part_with : (ms : Members) (d : Data) (rest : Members) → part key Some ms ≡ Some (d, rest) → part key from ms ≡ option_map (before rest) (from d)
  unfolding part
  part_with no_members d rest e = absurd cc
  part_with (member k d' ms) d rest e = tested d' d ms rest (bytes_eq k key) e

  refused : (d : Data) (ms : Members) (b : Bool) → (if b then option_map (before ms) (Some d) else nothing) ≡ None
      → (if b then option_map (before ms) (from d) else none) ≡ None
  refused d ms true e = absurd cc
  refused d ms false e = refl

  -- where nothing does, nothing is read
  pub part_without : (ms : Members) → part key Some ms ≡ None → part key from ms ≡ None
  unfolding part
  part_without no_members e = refl
  part_without (member k d ms) e = refused d ms (bytes_eq k key) e

  -- what is read of it is what the function gives
  pub reads_with : (ms : Members) (d : Data) (rest : Members) (result : Result A ObjectFault) → part key Some ms ≡ Some (d, rest) → Gives (from d) result
      → Reads (part key from ms) result rest
  reads_with ms d rest (Ok a) e gives = part_with ms d rest e ∙ ap (option_map (before rest)) gives
  reads_with ms d rest (Err fault) e gives = λ no. part_with ms d rest e ∙ ap (option_map (before rest)) (gives no)

-- ---- what was read at a key, tested or read on

module _ {A B : Type 0} (key : List ℕ) (from : Data → Option A) (f : A → Option B) where
  abbrev further : Data → Option B
  further d = option_and_then f (from d)

  abbrev none_first : Outcome A
  none_first = None

  abbrev none_further : Outcome B
  none_further = None

  on_value : (ms rest : Members) (a : A) (o : Option A) → option_map (before ms) o ≡ Some (a, rest) → option_map (before ms) (option_and_then f o) ≡ option_map (before rest) (f a)
  on_value ms rest a None e = absurd cc
  on_value ms rest a (Some b) e =
      let value_is : b ≡ a = ap (value_of b) e in
      let rest_is : ms ≡ rest = ap (rest_of ms) e in
      λ i. option_map (before (rest_is i)) (f (value_is i))

  on_test : (d : Data) (ms rest : Members) (a : A) (b : Bool) → (if b then option_map (before ms) (from d) else none_first) ≡ Some (a, rest)
      → (if b then option_map (before ms) (further d) else none_further) ≡ option_map (before rest) (f a)
  on_test d ms rest a true e = on_value ms rest a (from d) e
  on_test d ms rest a false e = absurd cc

  part_and : (ms : Members) (a : A) (rest : Members) → part key from ms ≡ Some (a, rest) → part key further ms ≡ option_map (before rest) (f a)
  unfolding part
  part_and no_members a rest e = absurd cc
  part_and (member k d ms) a rest e = on_test d ms rest a (bytes_eq k key) e

  off_value : (ms : Members) (o : Option A) → option_map (before ms) o ≡ None → option_map (before ms) (option_and_then f o) ≡ None
  off_value ms None e = refl
  off_value ms (Some b) e = absurd cc

  off_test : (d : Data) (ms : Members) (b : Bool) → (if b then option_map (before ms) (from d) else none_first) ≡ None
      → (if b then option_map (before ms) (further d) else none_further) ≡ None
  off_test d ms true e = off_value ms (from d) e
  off_test d ms false e = refl

  -- where nothing is read, nothing is read on
  pub part_and_without : (ms : Members) → part key from ms ≡ None → part key further ms ≡ None
  unfolding part
  part_and_without no_members e = refl
  part_and_without (member k d ms) e = off_test d ms (bytes_eq k key) e

  -- what is read is what the function gives
  pub reads_and : (ms : Members) (a : A) (rest : Members) (result : Result B ObjectFault) → part key from ms ≡ Some (a, rest) → Gives (f a) result
      → Reads (part key further ms) result rest
  reads_and ms a rest (Ok b) e gives = part_and ms a rest e ∙ ap (option_map (before rest)) gives
  reads_and ms a rest (Err fault) e gives = λ no. part_and ms a rest e ∙ ap (option_map (before rest)) (gives no)

-- ---- a value that is there or not

pub gives_or : {A : Type 0} (found : Option A) (result : Result A ObjectFault) → result ≡ ok_or found WrongForm → Gives found result
gives_or None (Ok a) e = absurd cc
gives_or None (Err fault) e = λ wrong. refl
gives_or (Some b) (Ok a) e = let same : a ≡ b = cc in ap Some (sym same)
gives_or (Some b) (Err fault) e = absurd cc

-- a text that passes a test, and one that does not
pub passes : {A : Type 0} (test : A → Bool) (a : A) → test a ≡ true → passing test a ≡ Some a
passes test a is = ap (λ b. if b then Some a else None) is

pub fails : {A : Type 0} (test : A → Bool) (a : A) → test a ≡ false → passing test a ≡ None
fails test a not = ap (λ b. if b then Some a else None) not

-- what is made of a value that is there
pub gives_and : {A B : Type 0} (found : Option A) (f : A → Option B) (a : A) (result : Result B ObjectFault) → found ≡ Some a → Gives (f a) result
    → Gives (option_and_then f found) result
gives_and found f a (Ok b) e gives = ap (option_and_then f) e ∙ gives
gives_and found f a (Err fault) e gives = λ wrong. ap (option_and_then f) e ∙ gives wrong

-- the same of an equal value
pub gives_same : {A B : Type 0} (f : A → Option B) (a b : A) (result : Result B ObjectFault) → a ≡ b → Gives (f a) result → Gives (f b) result
gives_same f a b result same gives = subst (λ x. Gives (f x) result) same gives

-- ---- the text that is asked for

module _ (key wanted : List ℕ) (ms : Members) (text : List ℕ) (rest : Members) (read : part key as_str ms ≡ Some (text, rest)) where
  abbrev same : List ℕ → Bool
  same found = bytes_eq found wanted

  pub part_is : bytes_eq text wanted ≡ true → part key (same_from wanted) ms ≡ Some (wanted, rest)
  part_is is =
      part_and key as_str (passing same) ms text rest read ∙ ap (option_map (before rest)) (passes same text is)
      ∙ ap (λ t. Some (t, rest)) (same_text text wanted (sym is))

  pub part_is_not : bytes_eq text wanted ≡ false → part key (same_from wanted) ms ≡ None
  part_is_not isnt = part_and key as_str (passing same) ms text rest read ∙ ap (option_map (before rest)) (fails same text isnt)
