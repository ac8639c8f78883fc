-- A text in which each `.` that is found gives way to `/` is the text with `/` for `.`, byte by byte.
use Rattle.std.proofs.Common.{◌≡◌, ◌≢◌, ℕ, zero, suc, ◌<◌, ◌≤◌, inl, inr, Bool, true, false, cond, eqb, List, [], ◌∷◌, ◌++◌, map, length, take, drop, Option, Some, None, refl, sym, ap, ◌∙◌, subst, arith}
use Rattle.std.proofs.lemmas.Bool.{eqb-true}
use Rattle.std.proofs.lemmas.List.{map-append, take-append-drop}
use Rattle.std.specs.Borrow.{Bor}
use Rattle.std.specs.Str.Pattern.{FindsText, LacksTextAt}
use Rattle.std.specs.Str.Replace.{ContinuesAfterMatch, ReplacesMatches}
use Rattle.mol_base.specs.Paths.{slash_for_dot}

abbrev dot : List ℕ
dot = 46 ∷ []

abbrev slash : List ℕ
slash = 47 ∷ []

-- ---- what no `.` stands in

kept : (x : ℕ) → x ≢ 46 → slash_for_dot x ≡ x
kept x differs = by (eqb x 46) refl where
  by : (b : Bool) → eqb x 46 ≡ b → cond b 47 x ≡ x
  by true is = absurd (differs (eqb-true x 46 is))
  by false is = refl

kept-head : (x : ℕ) (s : List ℕ) → LacksTextAt dot (x ∷ s) 0 → slash_for_dot x ≡ x
kept-head x s lacks = kept x (λ is. lacks s (ap (λ x. x ∷ s) is))

all-kept : (s : List ℕ) → ((i : ℕ) → i ≤ length s → LacksTextAt dot s i) → map slash_for_dot s ≡ s
all-kept [] lacks = refl
all-kept (x ∷ s) lacks = λ k.
    kept-head x s (lacks 0 (omega arith)) k ∷ all-kept s (λ i within. lacks (suc i) (omega (arith, within))) k

front-kept : (s : List ℕ) (a : ℕ) → ((i : ℕ) → i < a → LacksTextAt dot s i) → map slash_for_dot (take a s) ≡ take a s
front-kept s zero lacks = refl
front-kept [] (suc a) lacks = refl
front-kept (x ∷ s) (suc a) lacks = λ k.
    kept-head x s (lacks 0 (omega arith)) k ∷ front-kept s a (λ i within. lacks (suc i) (omega (arith, within))) k

-- ---- one `.` after the other

-- a `.` stands from here to there, and none before it
abbrev FirstDot : List ℕ → ℕ → ℕ → Type 0
FirstDot s a b = FindsText dot s (Some (a, b))

one-replaced : (s rest : List ℕ) (a b : ℕ) → FirstDot s a b → rest ≡ map slash_for_dot (drop b s)
    → take a s ++ (slash ++ rest) ≡ map slash_for_dot s
one-replaced s rest a b first is =
    (λ k. sym (front-kept s a first.0) k ++ (47 ∷ is k))
    ∙ ap (λ back. map slash_for_dot (take a s) ++ map slash_for_dot back) (sym first.1.split)
    ∙ sym (map-append slash_for_dot (take a s) (drop a s))
    ∙ ap (map slash_for_dot) (take-append-drop a s)

abbrev finds : Bor (List ℕ) → List ℕ → Option (ℕ × ℕ) → Type 0
finds p = FindsText p.now

abbrev keeps : Bor (List ℕ) → Bor (List ℕ) → Type 0
keeps p q = q.now ≡ p.now

module _ (Rest : List ℕ → List ℕ → Type 0) (whole : (t out : List ℕ) → Rest t out → out ≡ map slash_for_dot t) where
  rest-replaced : (s rest : List ℕ) (a b : ℕ) → FirstDot s a b → ContinuesAfterMatch finds keeps slash Rest s a b rest
      → rest ≡ map slash_for_dot (drop b s)
  rest-replaced s rest a b first (inl goes) = whole (drop b s) rest goes.1
  rest-replaced s rest a b first (inr stays) = absurd (omega (arith, first.1.ends, stays.0))

pub replaced : (n : ℕ) (p : Bor (List ℕ)) (s out : List ℕ) → p.now ≡ dot → ReplacesMatches finds keeps slash n p s out
    → out ≡ map slash_for_dot s
replaced zero p s out is none = none.1 ∙ sym (all-kept s (subst (λ d. FindsText d s None) is none.0))
replaced (suc n) p s out is found =
    let a = found.0 in
    let b = found.1 in
    let first = subst (λ d. FindsText d s (Some (a, b))) is found.4 in
    let further = λ (t out : List ℕ). replaced n found.2 t out (found.5 ∙ is) in
    let rest = rest-replaced (ReplacesMatches finds keeps slash n found.2) further s found.3 a b first found.6 in
    found.7 ∙ one-replaced s found.3 a b first rest
