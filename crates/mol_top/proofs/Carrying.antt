-- What an answer carries, from a step to the whole.
use Rattle.std.proofs.Common.{◌≡◌, ◌∙◌, ℕ, zero, suc, inl, inr, List, [], ◌∷◌, map, sym, ap, subst, refl, arith, Bool, true, false, cond, Option}
use Rattle.std.specs.Prelude.{IsSomeAnd, Some, filter}
use Rattle.std.specs.List.{Contains}
use Rattle.mol_top.specs.Carried.{Carries, CarriesOwn, IsInOut, IsInput, IsInside, IsRead, IsSourcePath, NoPath}
use Rattle.mol_top.specs.Command.{NamedPaths, joined}
use Rattle.mol_top.specs.Files.{is_java}
use Rattle.mol_top.specs.ReadLogs.{CarriesLog}
use Rattle.mol_top.specs.Steps.{IsAmong, Only}
use Rattle.mol_top.specs.declared.status.Status.{Status}
use Rattle.mol_top.specs.declared.status.Status.TheVariants.{ReadFailed, Missing, WriteFailed, OutInUse, Limit}

-- a step carries what the whole may carry
pub Carries-more : (r0 r1 i0 i1 o0 o1 : List ℕ → Type 0) (s : Status) → ((p : List ℕ) → r1 p → r0 p) → ((p : List ℕ) → i1 p → i0 p)
    → ((p : List ℕ) → o1 p → o0 p) → Carries r1 i1 o1 s → Carries r0 i0 o0 s
Carries-more r0 r1 i0 i1 o0 o1 (ReadFailed p) r i o carried = r p carried
Carries-more r0 r1 i0 i1 o0 o1 (Missing p) r i o carried = i p carried
Carries-more r0 r1 i0 i1 o0 o1 (OutInUse p) r i o carried = o p carried
Carries-more r0 r1 i0 i1 o0 o1 (WriteFailed p) r i o (inl none) = inl none
Carries-more r0 r1 i0 i1 o0 o1 (WriteFailed p) r i o (inr below) = inr (o p below)
Carries-more r0 r1 i0 i1 o0 o1 (Limit w n) r i o carried = carried
Carries-more r0 r1 i0 i1 o0 o1 s r i o carried = tt

-- # Paths of a command

module _ (paths : NamedPaths) (status : Status) where
  -- the reading of a log that the words name
  pub log_carried : (path : List ℕ) → Contains paths.inputs path → CarriesLog path status → CarriesOwn paths status
  log_carried path named carried =
      Carries-more (IsRead paths) (Only path) (IsInput paths) (Only path) (IsInOut paths) NoPath status
      (λ read is. inl (inr (subst (Contains paths.inputs) (sym is) named))) (λ read is. inr (subst (Contains paths.inputs) (sym is) named))
      (λ read none. absurd none) carried

  -- the look at the folder in which files are written
  pub out_carried : (out : List ℕ) → paths.out ≡ Some out → Carries (Only out) NoPath (IsInside out) status → CarriesOwn paths status
  out_carried out named carried =
      Carries-more (IsRead paths) (Only out) (IsInput paths) NoPath (IsInOut paths) (IsInside out) status
      (λ path is. inr (named ∙ ap Some (sym is))) (λ path none. absurd none)
      (λ path inside. subst (λ (o : Option (List ℕ)). IsSomeAnd o (λ out. IsInside out path)) (sym named) inside) carried

  -- no path, though perhaps a number
  pub number_carried : Carries NoPath NoPath NoPath status → CarriesOwn paths status
  number_carried carried =
      Carries-more (IsRead paths) NoPath (IsInput paths) NoPath (IsInOut paths) NoPath status
      (λ path none. absurd none) (λ path none. absurd none) (λ path none. absurd none) carried

-- # Paths of a base

after_first : (base p path : List ℕ) (rest : List (List ℕ)) → is_java p ≡ true → Contains (joined base p ∷ map (joined base) rest) path
    → (Contains (map (joined base) rest) path → IsSourcePath base path) → IsSourcePath base path
after_first base p path rest is (zero, within, at) later = inr (p, is, sym at)
after_first base p path rest is (suc k, within, at) later = later (k, omega (arith, within), at)

by_end : (base p path : List ℕ) (rest : List (List ℕ)) (b : Bool) → is_java p ≡ b → Contains (map (joined base) (cond b (p ∷ rest) rest)) path
    → (Contains (map (joined base) rest) path → IsSourcePath base path) → IsSourcePath base path
by_end base p path rest true is among later = after_first base p path rest is among later
by_end base p path rest false is among later = later among

pub java_among : (base : List ℕ) (paths : List (List ℕ)) (path : List ℕ) → IsAmong base (filter is_java paths) path → IsSourcePath base path
java_among base [] path among = absurd (omega (arith, among.1))
java_among base (p ∷ paths) path among = by_end base p path (filter is_java paths) (is_java p) refl among (java_among base paths path)
