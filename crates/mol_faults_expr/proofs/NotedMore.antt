-- Names that are noted, some after others.
use Rattle.std.proofs.Common.{◌≡◌, ℕ, suc, ◌+◌, ◌<◌, ◌≤◌, Bool, true, false, cond, ◌&&◌, not, List, [], ◌∷◌, ◌++◌, length, take, get_or, Option, None, Some, if◌then◌else◌, refl, sym, ◌∙◌, ap, append_assoc}
use Rattle.std.proofs.lemmas.List.{append-nil, take_all, take_more}
use Rattle.std.specs.List.{flat_map}
use Rattle.std.specs.Option.{option_and_then}
use Rattle.mol_base.specs.declared.ident.Id.{Id}
use Rattle.jav_names.specs.OnValues.{StaticType}
use Rattle.mol_scope.specs.asked.Answers.{is_answer}
use Rattle.mol_faults_expr.specs.Noted.{Noted, misreading, note, noted_after}
use Rattle.mol_faults_expr.specs.Readings.{program_target}
use Rattle.mol_spell_rules.specs.references.References.{Target}
use Rattle.mol_spell_rules.specs.Answers.{answered}
use Rattle.mol_spell_rules.specs.FaultList.{FaultTarget, fault_target}
use Rattle.mol_spell_rules.specs.NameFaults.{is_gone}
use Rattle.mol_spell_rules.specs.ReadInstead.{instead}
use Rattle.mol_spell_rules.specs.Writers.{Reference, Writer}

module _ (writer : Writer) where
  pub noted-append : (noted : Noted) (rs ss : List Reference)
      → noted_after writer noted (rs ++ ss) ≡ noted_after writer (noted_after writer noted rs) ss
  noted-append noted [] ss = refl
  noted-append noted (r ∷ rs) ss = noted-append (note writer noted r) rs ss

  -- some, and then others
  pub noted-both : (before middle after : Noted) (first second : List Reference) → middle ≡ noted_after writer before first
      → after ≡ noted_after writer middle second → after ≡ noted_after writer before (first ++ second)
  noted-both before middle after first second once again =
      again ∙ ap (λ noted. noted_after writer noted second) once ∙ sym (noted-append before first second)

  -- one, and then others
  pub noted-first : (before middle after : Noted) (r : Reference) (rs : List Reference) → middle ≡ note writer before r
      → after ≡ noted_after writer middle rs → after ≡ noted_after writer before (r ∷ rs)
  noted-first before middle after r rs once again = again ∙ ap (λ noted. noted_after writer noted rs) once

  -- some, and then one
  pub noted-last : (before middle after : Noted) (rs : List Reference) (r : Reference) → middle ≡ noted_after writer before rs
      → after ≡ note writer middle r → after ≡ noted_after writer before (rs ++ r ∷ [])
  noted-last before middle after rs r once again = noted-both before middle after rs (r ∷ []) once again

  -- a value, and then a member of it
  pub noted-value : (before middle after : Noted) (rs : List Reference) (of : StaticType Id → Reference) (kept known : StaticType Id)
      → kept ≡ known → middle ≡ noted_after writer before rs → after ≡ note writer middle (of kept)
      → after ≡ noted_after writer before (rs ++ of known ∷ [])
  noted-value before middle after rs of kept known same once again =
      noted-last before middle after rs (of known) once (again ∙ ap (λ type. note writer middle (of type)) same)

  -- ---- one more

  abbrev chosen : Noted → Reference → Bool → Noted
  chosen noted reference misread = record {
    count = suc noted.count;
    misread = cond misread (noted.misread ++ misreading writer noted.count reference ∷ []) noted.misread;
  }

  -- it reads as what it is the name of
  pub note-reads : (noted : Noted) (reference : Reference) → is_answer reference.target (answered writer.reader reference) ≡ true
      → record noted { count = suc noted.count } ≡ note writer noted reference
  note-reads noted reference is = ap (chosen noted reference) (by (is_gone writer.program reference.target)
      ∙ ap (λ b. not (is_gone writer.program reference.target) && not b) (sym is)) where
        by : (gone : Bool) → false ≡ (not gone && not true)
        by true = refl
        by false = refl

  -- that is gone
  pub note-gone : (noted : Noted) (reference : Reference) → is_gone writer.program reference.target ≡ true
      → record noted { count = suc noted.count } ≡ note writer noted reference
  note-gone noted reference is = ap (chosen noted reference)
      (sym (ap (λ b. not b && not (is_answer reference.target (answered writer.reader reference))) is))

  abbrev pub one_more : Noted → FaultTarget → Option Target → Option Target → Noted
  one_more noted target named instead_of = record {
    count = suc noted.count;
    misread = noted.misread ++ record { number = noted.count; target = target; named = named; instead = instead_of } ∷ [];
  }

  -- it reads as something else that is there
  pub note-misread : (noted : Noted) (reference : Reference) (target : FaultTarget) (named instead_of : Option Target)
      → is_gone writer.program reference.target ≡ false → is_answer reference.target (answered writer.reader reference) ≡ false
      → target ≡ fault_target reference.target → named ≡ program_target reference.target
      → instead_of ≡ option_and_then program_target (instead writer.reader reference)
      → one_more noted target named instead_of ≡ note writer noted reference
  note-misread noted reference target named instead_of there differs is_target is_named is_instead =
      (λ i. one_more noted (is_target i) (is_named i) (is_instead i))
      ∙ ap (chosen noted reference) (λ i. not (sym there i) && not (sym differs i))

  -- ---- several

  module _ {A : Type 0} (of : A → List Reference) where
    flat_map-more : (xs : List A) (x : A) → flat_map of (xs ++ x ∷ []) ≡ flat_map of xs ++ of x
    flat_map-more [] x = append-nil (of x)
    flat_map-more (y ∷ ys) x = ap (λ us. of y ++ us) (flat_map-more ys x) ∙ sym (append_assoc (of y) (flat_map of ys) (of x))

    pub noted-more : (xs : List A) (i : ℕ) (x : A) (before so_far after : Noted) → i < length xs → x ≡ get_or xs i x
        → so_far ≡ noted_after writer before (flat_map of (take i xs)) → after ≡ noted_after writer so_far (of x)
        → after ≡ noted_after writer before (flat_map of (take (i + 1) xs))
    noted-more xs i x before so_far after within at first next =
        noted-both before so_far after (flat_map of (take i xs)) (of x) first next
        ∙ ap (λ rs. noted_after writer before rs) (sym (flat_map-more (take i xs) x)
        ∙ ap (flat_map of) (ap (λ x. take i xs ++ x ∷ []) at ∙ sym (take_more xs i x within)))

    pub noted-whole : (xs : List A) (i : ℕ) (before after : Noted) → length xs ≤ i
        → after ≡ noted_after writer before (flat_map of (take i xs)) → after ≡ noted_after writer before (flat_map of xs)
    noted-whole xs i before after past is = is ∙ ap (λ xs. noted_after writer before (flat_map of xs)) (take_all i xs past)

-- ---- how a name reads

-- as its target
pub named-so : (b : Bool) (instead_of : Option Target) → None ≡ (if b then None else Some instead_of) → b ≡ true
named-so true instead_of is = refl
named-so false instead_of is = absurd cc

-- as something else
pub instead-so : (b : Bool) (kept instead_of : Option Target) → Some kept ≡ (if b then None else Some instead_of)
    → (b ≡ false) × (kept ≡ instead_of)
instead-so true kept instead_of is = absurd cc
instead-so false kept instead_of is = (refl, let same : kept ≡ instead_of = cc in same)

pub as-named : (b : Bool) (instead_of : Option Target) → b ≡ true → None ≡ (if b then None else Some instead_of)
as-named b instead_of is = ap (λ b. if b then None else Some instead_of) (sym is)

pub as-instead : (b : Bool) (kept instead_of : Option Target) → b ≡ false → kept ≡ instead_of
    → Some kept ≡ (if b then None else Some instead_of)
as-instead b kept instead_of is same = ap Some same ∙ ap (λ b. if b then None else Some instead_of) (sym is)
