-- What holds of each text of a list holds of a text that is among them, and the same of bytes.
use Rattle.std.proofs.Common.{◌≡◌, inl, inr, ℕ, true, List, [], ◌∷◌, codes, nat_eq, sym}
use Prim.Native.String.{String}
use Rattle.std.specs.List.{list_any}
use Rattle.std.specs.Str.{bytes_eq}
use Rattle.std.proofs.lemmas.Bool.{or_cases, eqb-true}
use Rattle.std.proofs.lemmas.Slice.Eq.{bytes_eq-Decides}
use Rattle.mol_base.specs.Among.{among}

abbrev pub Each : (List ℕ → Type 0) → List String → Type 0
Each P [] = Unit {0}
Each P (s ∷ rest) = P (codes s) × Each P rest

pub among-each : (P : List ℕ → Type 0) (ss : List String) (text : List ℕ) → Each P ss → among ss text ≡ true → P text
among-each P [] text each h = absurd cc
among-each P (s ∷ ss) text each h = elim (or_cases (bytes_eq text (codes s)) (among ss text) h) [
  | inl same ↦ (let e : text ≡ codes s = (bytes_eq-Decides text (codes s)).0 same in rw e each.0)
  | inr more ↦ among-each P ss text each.1 more
]

abbrev pub EachByte : (ℕ → Type 0) → List ℕ → Type 0
EachByte P [] = Unit {0}
EachByte P (c ∷ rest) = P c × EachByte P rest

pub any-each : (P : ℕ → Type 0) (cs : List ℕ) (b : ℕ) → EachByte P cs → list_any (λ c. nat_eq c b) cs ≡ true → P b
any-each P [] b each h = absurd cc
any-each P (c ∷ cs) b each h = elim (or_cases (nat_eq c b) (list_any (λ x. nat_eq x b) cs) h) [ inl is ↦ (let e : b ≡ c = sym (eqb-true c b is) in rw e each.0) | inr more ↦ any-each P cs b each.1 more ]
