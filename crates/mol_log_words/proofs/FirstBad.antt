-- A reader that keeps the laws, and reads back what is spelled, stops at the first bad word.
use Rattle.std.proofs.Common.{◌≡◌, ℕ, ◌+◌, ◌<◌, ◌≤◌, List, [], ◌∷◌, ◌++◌, length, Ok, Err, refl, sym, ap, ◌∙◌, subst, append_assoc, arith}
use Rattle.std.proofs.lemmas.List.{append-nil, length-append}
use Rattle.mol_log_words.specs.Words.{Word}
use Rattle.mol_log_words.specs.FirstBad.{Form, StopsBefore, IsFirstBad}
use Rattle.mol_log_words.specs.Reader.{Outcome, Parser}
use Rattle.mol_log_words.proofs.Prefix.{SameHead, Meets, Reads}

-- what is spelled is read
abbrev pub Back : {T : Type 0} → Form T → Parser T → Type 0
Back {T} S p = (t : T) (ts rest : List Word) → S t ts → p (ts ++ rest) ≡ Ok (t, rest)

abbrev pub rest_of : {T : Type 0} → Outcome T → List Word
rest_of (Ok x) = x.1
rest_of (Err bad) = bad

abbrev tree_of : {T : Type 0} → T → Outcome T → T
tree_of t (Ok x) = x.0
tree_of t (Err bad) = t

not_nil : {t : Word} {ts : List Word} → [] ≡ t ∷ ts → ⊥
not_nil h = cc

not_read : {T : Type 0} {x : T × List Word} {bad : List Word} → ◌≡◌ {A = Outcome T} (Ok x) (Err bad) → ⊥
not_read h = cc

regroup : (front more : List Word) (t : Word) → front ++ t ∷ more ≡ (front ++ t ∷ []) ++ more
regroup front more t = sym (append_assoc front (t ∷ []) more)

place_of : (ts front rest : List Word) (at : ℕ) → ts ≡ front ++ rest → at + length rest ≡ length ts → at ≡ length front
place_of ts front rest at e h = let n = ap length e ∙ length-append front rest in omega arith

-- the two laws of a reader of a form
pub record Laws {T : Type 0} (S : Form T) (p : Parser T) : Type 0 where
  pub sound : Reads S p
  pub back : Back S p

module _ {T : Type 0} (S : Form T) (p : Parser T) (laws : Laws S p) where
  whole : (t : T) (ts : List Word) → S t ts → p ts ≡ Ok (t, [])
  whole t ts h = ap p (sym (append-nil ts)) ∙ laws.back t ts [] h

  stops_at_refusal : (front bad : List Word) → ((rest : List Word) → SameHead bad rest → p (front ++ rest) ≡ Err rest)
      → StopsBefore S front bad
  stops_at_refusal front [] keeps = λ t h. not_read (sym (whole t front h) ∙ ap p (sym (append-nil front)) ∙ keeps [] tt)
  stops_at_refusal front (w ∷ bad) keeps = λ go.
      not_read (sym (whole go.1 ((front ++ w ∷ []) ++ go.0) go.2) ∙ ap p (sym (regroup front go.0 w)) ∙ keeps (w ∷ go.0) refl)

  stops_after_tree : (front rest : List Word) (w : Word) (t : T) → ((more : List Word) → p (front ++ more) ≡ Ok (t, more))
      → StopsBefore S front (w ∷ rest)
  stops_after_tree front rest w t keeps = λ go.
      not_nil (ap rest_of (sym (whole go.1 ((front ++ w ∷ []) ++ go.0) go.2) ∙ ap p (sym (regroup front go.0 w)) ∙ keeps (w ∷ go.0)))

  -- what an outcome says of the words
  Tells : List Word → Outcome T → Type 0
  Tells ts (Ok x) = ((x.1 ≡ []) → S x.0 ts) × ((at : ℕ) → at < length ts → at + length x.1 ≡ length ts → IsFirstBad S ts at)
  Tells ts (Err bad) = (at : ℕ) → at + length bad ≡ length ts → IsFirstBad S ts at

  too_long : (ts : List Word) (t : T) (rest : List Word) → Meets S p ts (Ok (t, rest)) → (at : ℕ) → at < length ts
      → at + length rest ≡ length ts → IsFirstBad S ts at
  too_long ts t [] h at low e = absurd (omega arith)
  too_long ts t (w ∷ rest) h at low e = record {
    front = h.0;
    rest = w ∷ rest;
    split = h.1;
    place = place_of ts h.0 (w ∷ rest) at h.1 e;
    before = ([], t, rw append-nil h.2);
    bad = stops_after_tree h.0 rest w t h.3;
  }

  tells_by : (ts : List Word) (o : Outcome T) → Meets S p ts o → Tells ts o
  unfolding Tells
  tells_by ts (Ok x) h = (λ none. subst (S x.0) (sym (h.1 ∙ ap (λ r. h.0 ++ r) none ∙ append-nil h.0)) h.2, too_long ts x.0 x.1 h)
  tells_by ts (Err bad) h = λ at e. record {
    front = h.0;
    rest = bad;
    split = h.1;
    place = place_of ts h.0 bad at h.1 e;
    before = (h.2, h.3, h.4);
    bad = stops_at_refusal h.0 bad h.5;
  }

  tells : (ts : List Word) (o : Outcome T) → p ts ≡ o → Tells ts o
  tells ts o e = subst (Tells ts) e (tells_by ts (p ts) (laws.sound.at ts))

  none_left : (rest : List Word) → length rest ≡ 0 → rest ≡ []
  none_left [] h = refl
  none_left (w ∷ rest) h = absurd (omega arith)

  pub tree : (ts : List Word) (t : T) (rest : List Word) → p ts ≡ Ok (t, rest) → length rest ≡ 0 → S t ts
  unfolding Tells
  tree ts t rest e none = (tells ts (Ok (t, rest)) e).0 (none_left rest none)

  pub longer : (ts : List Word) (t : T) (rest : List Word) → p ts ≡ Ok (t, rest) → 0 < length rest → (at : ℕ) → at + length rest ≡ length ts
      → IsFirstBad S ts at
  unfolding Tells
  longer ts t rest e some at place = (tells ts (Ok (t, rest)) e).1 at (omega arith) place

  pub refused : (ts bad : List Word) → p ts ≡ Err bad → (at : ℕ) → at + length bad ≡ length ts → IsFirstBad S ts at
  unfolding Tells
  refused ts bad e = tells ts (Err bad) e

  -- a tree is the one that is read
  pub only : (ts : List Word) (x : T) (rest : List Word) → p ts ≡ Ok (x, rest) → (t : T) → S t ts → (x ≡ t) × (length rest ≡ 0)
  only ts x rest e t h = let both = sym e ∙ whole t ts h in (ap (tree_of t) both, ap length (ap rest_of both))

  pub none : (ts bad : List Word) → p ts ≡ Err bad → (t : T) → S t ts → ⊥
  none ts bad e t h = not_read (sym (whole t ts h) ∙ e)

  left_by : (ts : List Word) (o : Outcome T) → Meets S p ts o → length (rest_of o) ≤ length ts
  left_by ts (Ok x) h = let n = ap length h.1 ∙ length-append h.0 x.1 in omega arith
  left_by ts (Err bad) h = let n = ap length h.1 ∙ length-append h.0 bad in omega arith

  pub left : (ts : List Word) (o : Outcome T) → p ts ≡ o → length (rest_of o) ≤ length ts
  left ts o e = subst (λ o. length (rest_of o) ≤ length ts) e (left_by ts (p ts) (laws.sound.at ts))
