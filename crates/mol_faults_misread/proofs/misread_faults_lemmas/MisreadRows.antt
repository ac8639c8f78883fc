-- What is noted of references are those that are misread, by their places.
use Rattle.std.proofs.Common.{◌≡◌, ◌⊎◌, inl, inr, ℕ, suc, zero, ◌+◌, Bool, true, false, cond, List, [], ◌∷◌, ◌++◌, Some, Contains, slice_get, refl, sym, ap, ◌∙◌, subst, arith}
use Rattle.jav_names.proofs.Lists.{stands_first, stands_nowhere, stands_where}
use Rattle.mol_faults_expr.specs.Noted.{Misreading, Noted, is_misread, misreading, none_noted, note, noted_after}
use Rattle.mol_resolve_rules.proofs.Stands.{behind, in_either, in_front}
use Rattle.mol_spell_rules.specs.Writers.{Reference, Writer}

-- A row is that of a reference that is misread, with so many references before the first one.
pub record IsRow (writer : Writer) (before : ℕ) (references : List Reference) (row : Misreading) : Type 0 where
  pub place : ℕ
  pub reference : Reference
  pub stands : slice_get references place ≡ Some reference
  pub misread : is_misread writer reference ≡ true
  pub is : misreading writer (before + place) reference ≡ row

module _ (writer : Writer) where
  -- what is noted with a reference that is misread or not
  abbrev chosen : Noted → Reference → Bool → List Misreading
  chosen noted reference misread =
      cond misread (noted.misread ++ misreading writer noted.count reference ∷ []) noted.misread

  -- ---- what is noted is a row

  one-noted : (noted : Noted) (reference : Reference) (references : List Reference) (row : Misreading) (misread : Bool)
      → is_misread writer reference ≡ misread → Contains (chosen noted reference misread) row
      → Contains noted.misread row ⊎ IsRow writer noted.count (reference ∷ references) row
  one-noted noted reference references row false is stands = inl stands
  one-noted noted reference references row true is stands = by (in_either noted.misread (last ∷ []) row stands) where
    last : Misreading
    last = misreading writer noted.count reference

    by : Contains noted.misread row ⊎ Contains (last ∷ []) row
        → Contains noted.misread row ⊎ IsRow writer noted.count (reference ∷ references) row
    by (inl earlier) = inl earlier
    by (inr here) = by_place (stands_where last row [] here) where
      by_place : (last ≡ row) ⊎ Contains [] row → Contains noted.misread row ⊎ IsRow writer noted.count (reference ∷ references) row
      by_place (inr none) = absurd (stands_nowhere row none)
      by_place (inl same) = inr (record {
        place = 0;
        reference = reference;
        stands = refl;
        misread = is;
        is = ap (λ number. misreading writer number reference) (let n : noted.count + 0 ≡ noted.count = omega arith in n) ∙ same;
      })

  pub from-noted : (noted : Noted) (references : List Reference) (row : Misreading)
      → Contains (noted_after writer noted references).misread row → Contains noted.misread row ⊎ IsRow writer noted.count references row
  from-noted noted [] row stands = inl stands
  from-noted noted (reference ∷ references) row stands = by (from-noted (note writer noted reference) references row stands) where
    by : Contains (note writer noted reference).misread row ⊎ IsRow writer (suc noted.count) references row
        → Contains noted.misread row ⊎ IsRow writer noted.count (reference ∷ references) row
    by (inl here) = one-noted noted reference references row (is_misread writer reference) refl here
    by (inr later) = inr (record {
      place = suc later.place;
      reference = later.reference;
      stands = later.stands;
      misread = later.misread;
      is = ap (λ number. misreading writer number later.reference)
          (let n : noted.count + suc later.place ≡ suc noted.count + later.place = omega arith in n) ∙ later.is;
    })

  -- ---- each row is noted

  stays-noted : (noted : Noted) (references : List Reference) (row : Misreading) → Contains noted.misread row
      → Contains (noted_after writer noted references).misread row
  stays-noted noted [] row stands = stands
  stays-noted noted (reference ∷ references) row stands =
      stays-noted (note writer noted reference) references row (by (is_misread writer reference)) where
        by : (misread : Bool) → Contains (chosen noted reference misread) row
        by true = in_front noted.misread (misreading writer noted.count reference ∷ []) row stands
        by false = stands

  at-place : (noted : Noted) (references : List Reference) (place : ℕ) (reference : Reference)
      → slice_get references place ≡ Some reference → is_misread writer reference ≡ true
      → Contains (noted_after writer noted references).misread (misreading writer (noted.count + place) reference)
  at-place noted [] place reference stands misread = absurd cc
  at-place noted (first ∷ references) zero reference stands misread =
      stays-noted (note writer noted first) references (misreading writer (noted.count + 0) reference)
      (subst (λ (row : Misreading). Contains (note writer noted first).misread row) row-is
      (subst (λ (b : Bool). Contains (chosen noted first b) (misreading writer noted.count first)) (sym first-misread)
      (behind noted.misread (misreading writer noted.count first ∷ []) (misreading writer noted.count first)
      (stands_first (misreading writer noted.count first) [])))) where
        same : first ≡ reference
        same = cc

        first-misread : is_misread writer first ≡ true
        first-misread = ap (is_misread writer) same ∙ misread

        row-is : misreading writer noted.count first ≡ misreading writer (noted.count + 0) reference
        row-is = λ i. misreading writer ((let n : noted.count ≡ noted.count + 0 = omega arith in n) i) (same i)
  at-place noted (first ∷ references) (suc place) reference stands misread =
      subst (λ (number : ℕ). Contains (noted_after writer (note writer noted first) references).misread
      (misreading writer number reference)) (let n : suc noted.count + place ≡ noted.count + suc place = omega arith in n)
      (at-place (note writer noted first) references place reference stands misread)

  -- ---- from the first reference on

  pub rows-are : (references : List Reference) (row : Misreading) → Contains (noted_after writer none_noted references).misread row
      → IsRow writer 0 references row
  rows-are references row stands = by (from-noted none_noted references row stands) where
    by : Contains [] row ⊎ IsRow writer 0 references row → IsRow writer 0 references row
    by (inl none) = absurd (stands_nowhere row none)
    by (inr is) = is

  pub rows-stand : (references : List Reference) (place : ℕ) (reference : Reference) → slice_get references place ≡ Some reference
      → is_misread writer reference ≡ true
      → Contains (noted_after writer none_noted references).misread (misreading writer place reference)
  rows-stand references place reference stands misread =
      subst (λ (number : ℕ). Contains (noted_after writer none_noted references).misread (misreading writer number reference))
      (let n : 0 + place ≡ place = omega arith in n) (at-place none_noted references place reference stands misread)
