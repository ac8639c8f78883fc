-- What is read of an object is what stands there.
use Rattle.std.proofs.Common.{◌≡◌, ℕ, List, [], ◌∷◌, Bool, true, false, Option, Some, None, sym, ◌∙◌, ap, refl, arith, option_map, option_and_then}
use Rattle.std.specs.Prelude.{◌&&◌, nat_le, if◌then◌else◌}
use Rattle.std.specs.Str.{bytes_eq}
use Rattle.std.proofs.lemmas.Bool.Decides.{nat_tests}
use Rattle.std.specs.Cmp.Lexicographic.{same_text}
use Rattle.serde_json.specs.Data.{Data, null, string, array, object, Items, no_items, item, Members, no_members, member}
use Rattle.serde_json.specs.Find.{as_str, as_array}
use Rattle.mol_base.specs.Identity.{IsId, IsStamp, spelled_id, spelled_stamp}
use Rattle.mol_base.specs.Number.{IsNumber}
use Rattle.mol_base.specs.Spelled.{is_tag, is_tag_or_base, is_number, is_id, is_stamp, id_of, stamp_of}
use Rattle.mol_base.specs.declared.ident.Id.{Id}
use Rattle.mol_base.specs.declared.ident.Stamp.{Stamp}
use Rattle.mol_base.proofs.Spelled.{is_tag-to, is_tag_or_base-to, id_of-some, stamp_of-some}
use Rattle.mol_log_rows.specs.lines.Objects.{text_items, texts_data, maybe_texts}
use Rattle.mol_log_rows.specs.lines.Reader.{Outcome, Reader, and_then, pure, part, before, kept, whole, object_from, texts_in, text_before, texts_from, maybe_from}
use Rattle.mol_log_rows.proofs.lines_lemmas.Taken.{value_of, rest_of}

-- ---- a part and what follows it

-- what a reader took first
pub record Step {A B : Type 0} (key : List ℕ) (from : Data → Option A) (next : A → Reader B) (ms : Members) (p : B × Members) : Type 0 where
  pub value : A
  pub rest : Members
  pub found : Data
  pub is : ms ≡ member key found rest
  pub read : from found ≡ Some value
  pub more : next value rest ≡ Some p

module _ {A B : Type 0} (key : List ℕ) (from : Data → Option A) (next : A → Reader B) where
  taken : (k : List ℕ) (d : Data) (ms : Members) (p : B × Members) (o : Option A) → from d ≡ o → k ≡ key → and_then (option_map (before ms) o) next ≡ Some p
      → Step key from next (member k d ms) p
  unfolding and_then
  taken k d ms p None f same e = absurd cc
  taken k d ms p (Some a) f same e = record { value = a; rest = ms; found = d; is = ap (λ l. member l d ms) same; read = f; more = e }

  abbrev nothing : Option (A × Members)
  nothing = None

  tested : (k : List ℕ) (d : Data) (ms : Members) (p : B × Members) (b : Bool) → bytes_eq k key ≡ b
      → and_then (if b then option_map (before ms) (from d) else nothing) next ≡ Some p → Step key from next (member k d ms) p
  unfolding and_then
  tested k d ms p true same e = taken k d ms p (from d) refl (same_text k key (sym same)) e
  tested k d ms p false same e = absurd cc

  pub step : (ms : Members) (p : B × Members) → and_then (part key from ms) next ≡ Some p → Step key from next ms p
  unfolding part and_then
  step no_members p e = absurd cc
  step (member k d ms) p e = tested k d ms p (bytes_eq k key) refl e

-- ---- values

pub kept_is : {A : Type 0} (test : A → Bool) (o : Option A) (a : A) → kept test o ≡ Some a → (o ≡ Some a) × (test a ≡ true)
kept_is test None a e = absurd cc
kept_is {A} test (Some b) a e = by_test (test b) refl e where
  by_test : (t : Bool) → test b ≡ t → (if t then Some b else None) ≡ Some a → (Some b ≡ Some a) × (test a ≡ true)
  by_test true is f = let same : b ≡ a = cc in (f, ap test (sym same) ∙ is)
  by_test false is f = absurd cc

pub str_is : (d : Data) (text : List ℕ) → as_str d ≡ Some text → d ≡ string text
str_is (string s) text e = let same : s ≡ text = cc in ap string same
str_is d text e = absurd cc

and_true : (a b : Bool) → a ≡ true → b ≡ true → (a && b) ≡ true
and_true a b p q = rw (p, q) refl

number_right : (n : ℕ) → IsNumber n → is_number n ≡ true
number_right n is = and_true (nat_le 1 n) _ (grind (arith, nat_tests, is.0)) (grind (arith, nat_tests, is.1))

id_right : (id : Id) → IsId id → is_id id ≡ true
id_right id is = and_true (is_tag_or_base id.tag) _ (is_tag_or_base-to id.tag is.0) (number_right id.num is.1)

stamp_right : (stamp : Stamp) → IsStamp stamp → is_stamp stamp ≡ true
stamp_right stamp is = and_true (is_tag stamp.tag) _ (is_tag-to stamp.tag is.0) (number_right stamp.seq is.1)

pub id_found : (d : Data) (id : Id) → option_and_then id_of (as_str d) ≡ Some id → (d ≡ string (spelled_id id)) × (is_id id ≡ true)
id_found (string s) id e = let is = id_of-some s id e in (ap string (sym is.1), id_right id is.0)
id_found d id e = absurd cc

pub stamp_found : (d : Data) (stamp : Stamp) → option_and_then stamp_of (as_str d) ≡ Some stamp → (d ≡ string (spelled_stamp stamp)) × (is_stamp stamp ≡ true)
stamp_found (string s) stamp e = let is = stamp_of-some s stamp e in (ap string (sym is.1), stamp_right stamp is.0)
stamp_found d stamp e = absurd cc

-- a text that passes a test
pub text_found : (test : List ℕ → Bool) (d : Data) (text : List ℕ) → kept test (as_str d) ≡ Some text → (d ≡ string text) × (test text ≡ true)
text_found test d text e = let is = kept_is test (as_str d) text e in (str_is d text is.0, is.1)

-- the text that is asked for
pub same_found : (name : List ℕ) (d : Data) (text : List ℕ) → kept (λ found. bytes_eq found name) (as_str d) ≡ Some text → d ≡ string name
same_found name d text e =
    let is = text_found (λ found. bytes_eq found name) d text e in
    is.0 ∙ ap string (same_text text name (sym is.1))

-- ---- lists of texts

more_texts : (text : List ℕ) (ds : Items) (o : Option (List (List ℕ))) (texts : List (List ℕ)) → ((more : List (List ℕ)) → o ≡ Some more → ds ≡ text_items more)
    → text_before text o ≡ Some texts → item (string text) ds ≡ text_items texts
more_texts text ds None texts rest e = absurd cc
more_texts text ds (Some more) texts rest e = let same : text ∷ more ≡ texts = cc in ap (item (string text)) (rest more refl) ∙ ap text_items same

pub texts_in_found : (ds : Items) (texts : List (List ℕ)) → texts_in ds ≡ Some texts → ds ≡ text_items texts
unfolding texts_in
texts_in_found no_items texts e = let same : [] ≡ texts = cc in ap text_items same
texts_in_found (item (string text) ds) texts e = more_texts text ds (texts_in ds) texts (texts_in_found ds) e
texts_in_found (item d ds) texts e = absurd cc

pub texts_found : (d : Data) (texts : List (List ℕ)) → option_and_then texts_in (as_array d) ≡ Some texts → d ≡ texts_data texts
texts_found (array ds) texts e = ap array (texts_in_found ds texts e)
texts_found d texts e = absurd cc

abbrev no_texts : Option (List (List ℕ))
no_texts = None

mapped : (o : Option (List (List ℕ))) (texts : Option (List (List ℕ))) → option_map Some o ≡ Some texts → (found : List (List ℕ)) × (o ≡ Some found) × (Some found ≡ texts)
mapped None texts e = absurd cc
mapped (Some found) texts e = let same : Some found ≡ texts = cc in (found, refl, same)

pub maybe_found : (d : Data) (texts : Option (List (List ℕ))) → maybe_from d ≡ Some texts → d ≡ maybe_texts texts
maybe_found null texts e = let same : no_texts ≡ texts = cc in ap maybe_texts same
maybe_found d texts e = let is = mapped (texts_from d) texts e in texts_found d is.0 is.1 ∙ ap maybe_texts is.2

-- ---- objects

-- what the whole of an object was read as
pub whole_found : {A : Type 0} (reader : Reader A) (d : Data) (a : A) → object_from reader d ≡ Some a → (ms : Members) × (d ≡ object ms) × (reader ms ≡ Some (a, no_members))
whole_found {A} reader (object ms) a e = (ms, refl, by (reader ms) e) where
  by : (o : Outcome A) → whole o ≡ Some a → o ≡ Some (a, no_members)
  by None e = absurd cc
  by (Some p) e = rest p.0 p.1 e where
    rest : (b : A) (ms : Members) → whole (Some (before ms b)) ≡ Some a → Some (before ms b) ≡ Some (before no_members a)
    rest b no_members e = let same : b ≡ a = cc in ap (λ c. Some (before no_members c)) same
    rest b (member k d ms) e = absurd cc
whole_found reader d a e = absurd cc

-- what `pure` gave
pub pure_is : {A : Type 0} (a b : A) (ms rest : Members) → pure a ms ≡ Some (b, rest) → (a ≡ b) × (ms ≡ rest)
pure_is a b ms rest e = (ap (value_of a) e, ap (rest_of ms) e)

-- a member, and those after it
pub follow : {ms rest more : Members} {key : List ℕ} {d e : Data} → ms ≡ member key d rest → d ≡ e → rest ≡ more → ms ≡ member key e more
follow {key} is same after = is ∙ (λ i. member key (same i) (after i))
