-- Tilings of a source: how they go on, and that there is one at most.
use Rattle.std.proofs.Common.{◌≡◌, ◌⊎◌, inl, inr, ℕ, ◌+◌, ◌-◌, ◌<◌, ◌≤◌, true, false, List, [], ◌∷◌, ◌++◌, take, drop, length, refl, sym, ◌∙◌, ap, arith, add-zero}
use Rattle.std.specs.Prelude.{nat_lt, slice_index}
use Rattle.std.proofs.lemmas.Bool.Decides.{nat_tests}
use Rattle.std.proofs.lemmas.Bool.{cases_Bool, ltb-true}
use Rattle.std.proofs.lemmas.List.{get_or-drop}
use Rattle.mol_base.specs.Token.{Token}
use Rattle.mol_base.specs.Lexical.Characters.{is_space, first}
use Rattle.mol_base.specs.Lexical.Front.{front}
use Rattle.mol_base.specs.declared.token_kind.TokenKind.{TokenKind}
use Rattle.mol_base.specs.declared.lexical.front.Flaw.{Flaw}
use Rattle.mol_base.specs.declared.lexical.front.Front.TheVariants.{Space, Taken, Wrong}
use Rattle.mol_base.specs.Source.{IsBlank, IsTaken, Tiles}
use Rattle.mol_base.proofs.Sources.{front-space, front-IsTaken}

-- white space is at the front of the rest of a source where it stands
front-space_at : (bytes : List ℕ) (i : ℕ) → is_space (slice_index bytes i) ≡ true → front (drop i bytes) ≡ Space
front-space_at bytes i is =
    let here : first (drop i bytes) ≡ slice_index bytes i = get_or-drop i bytes 0 0 ∙ ap (λ (n : ℕ). slice_index bytes n) (add-zero i) in
    front-space (drop i bytes) (rw here is)

pub IsBlank-nil : (bytes : List ℕ) (at : ℕ) → at ≤ length bytes → IsBlank bytes at at
IsBlank-nil bytes at room = record { ordered = omega arith; inside = room; blank = λ i low high. absurd (omega arith) }

IsBlank-more : (bytes : List ℕ) (from at : ℕ) → IsBlank bytes from at → at < length bytes → is_space (slice_index bytes at) ≡ true → IsBlank bytes from (at + 1)
IsBlank-more bytes from at blank inside is = record {
  ordered = omega arith;
  inside = omega arith;
  blank = λ i low high. by_place i low high (cases_Bool (nat_lt i at));
}
  where
    by_place : (i : ℕ) → from ≤ i → i < at + 1 → ((nat_lt i at ≡ true) ⊎ (nat_lt i at ≡ false)) → is_space (slice_index bytes i) ≡ true
    by_place i low high (inl before) = blank.blank i low (ltb-true i at before)
    by_place i low high (inr here) = let same : i ≡ at = grind (arith, nat_tests, here) in rw same is

-- a byte of white space more
pub Tiles-space : (bytes : List ℕ) (from at : ℕ) (ts : List Token) → Tiles bytes from ts at → at < length bytes → is_space (slice_index bytes at) ≡ true → Tiles bytes from ts (at + 1)
Tiles-space bytes from at [] tiles inside is = IsBlank-more bytes from at tiles inside is
Tiles-space bytes from at (t ∷ ts) tiles inside is = (tiles.0, tiles.1, Tiles-space bytes t.end at ts tiles.2 inside is)

-- a token more
pub Tiles-token : (bytes : List ℕ) (from : ℕ) (ts : List Token) (t : Token) → Tiles bytes from ts t.start → IsTaken bytes t → Tiles bytes from (ts ++ t ∷ []) t.end
Tiles-token bytes from [] t tiles taken = (tiles, taken, IsBlank-nil bytes t.end taken.inside)
Tiles-token bytes from (u ∷ ts) t tiles taken = (tiles.0, tiles.1, Tiles-token bytes u.end ts t tiles.2 taken)

pub Tiles-ordered : (bytes : List ℕ) (from at : ℕ) (ts : List Token) → Tiles bytes from ts at → from ≤ at
Tiles-ordered bytes from at [] tiles = tiles.ordered
Tiles-ordered bytes from at (t ∷ ts) tiles = omega (arith, tiles.0.ordered, tiles.1.some, Tiles-ordered bytes t.end at ts tiles.2)

-- what is no white space does not stand in white space
no_token_inside : (bytes : List ℕ) (from to at n : ℕ) (kind : TokenKind) → IsBlank bytes from to → from ≤ at → front (drop at bytes) ≡ Taken kind n → to ≤ at
no_token_inside bytes from to at n kind blank low taken = by_place (cases_Bool (nat_lt at to)) where
  by_place : ((nat_lt at to ≡ true) ⊎ (nat_lt at to ≡ false)) → to ≤ at
  by_place (inl before) = let space = front-space_at bytes at (blank.blank at low (ltb-true at to before)) in absurd cc
  by_place (inr after) = grind (arith, nat_tests, after)

no_flaw_inside : (bytes : List ℕ) (from to at n : ℕ) (flaw : Flaw) → IsBlank bytes from to → from ≤ at → front (drop at bytes) ≡ Wrong flaw n → to ≤ at
no_flaw_inside bytes from to at n flaw blank low wrong = by_place (cases_Bool (nat_lt at to)) where
  by_place : ((nat_lt at to ≡ true) ⊎ (nat_lt at to ≡ false)) → to ≤ at
  by_place (inl before) = let space = front-space_at bytes at (blank.blank at low (ltb-true at to before)) in absurd cc
  by_place (inr after) = grind (arith, nat_tests, after)

-- the same, where a token is at the end of the white space
no_flaw_at : (bytes : List ℕ) (from at : ℕ) (t : Token) (n : ℕ) (flaw : Flaw) → IsBlank bytes from t.start → IsTaken bytes t → IsBlank bytes from at → front (drop at bytes) ≡ Wrong flaw n → ⊥
no_flaw_at bytes from at t n flaw before taken blank wrong =
    let low : t.start ≤ at = no_flaw_inside bytes from t.start at n flaw before blank.ordered wrong in
    let high : at ≤ t.start = no_token_inside bytes from at t.start (t.end - t.start) t.kind blank before.ordered (front-IsTaken bytes t taken) in
    let same : at ≡ t.start = omega arith in
    let here : front (drop t.start bytes) ≡ Wrong flaw n = rw same at wrong in
    let there = front-IsTaken bytes t taken in
    cc

same_start : (bytes : List ℕ) (from : ℕ) (t u : Token) → IsBlank bytes from t.start → IsTaken bytes t → IsBlank bytes from u.start → IsTaken bytes u → t.start ≡ u.start
same_start bytes from t u before taken before' taken' =
    let low : t.start ≤ u.start = no_token_inside bytes from t.start u.start (u.end - u.start) u.kind before before'.ordered (front-IsTaken bytes u taken') in
    let high : u.start ≤ t.start = no_token_inside bytes from u.start t.start (t.end - t.start) t.kind before' before.ordered (front-IsTaken bytes t taken) in
    omega arith

-- two tokens that start at one place are one
same_token : (bytes : List ℕ) (t u : Token) → t.start ≡ u.start → IsTaken bytes t → IsTaken bytes u → t ≡ u
same_token bytes t u same taken taken' =
    let there : front (drop t.start bytes) ≡ Taken u.kind (u.end - u.start) = rw same (front-IsTaken bytes u taken') in
    let here : front (drop t.start bytes) ≡ Taken t.kind (t.end - t.start) = front-IsTaken bytes t taken in
    let kind : t.kind ≡ u.kind = cc in
    let len : t.end - t.start ≡ u.end - u.start = cc in
    let end : t.end ≡ u.end = omega (arith, taken.some, taken'.some) in
    let text : t.text ≡ u.text = taken.text ∙ ap (λ (n : ℕ). take n (drop t.start bytes)) len ∙ ap (λ (n : ℕ). take (u.end - u.start) (drop n bytes)) same ∙ sym taken'.text in
    ap (λ (x : TokenKind). record { kind = x; text = t.text; start = t.start; end = t.end }) kind
    ∙ ap (λ (x : List ℕ). record { kind = u.kind; text = x; start = t.start; end = t.end }) text
    ∙ ap (λ (x : ℕ). record { kind = u.kind; text = u.text; start = x; end = t.end }) same
    ∙ ap (λ (x : ℕ). record { kind = u.kind; text = u.text; start = u.start; end = x }) end

-- up to where tokens tile a source no flaw stands in the place of a token
pub no_flaw_before : (bytes : List ℕ) (from to at n : ℕ) (flaw : Flaw) (ts us : List Token) → Tiles bytes from ts to → Tiles bytes from us at → front (drop at bytes) ≡ Wrong flaw n → to ≤ at
no_flaw_before bytes from to at n flaw [] [] tiles tiles' wrong = no_flaw_inside bytes from to at n flaw tiles tiles'.ordered wrong
no_flaw_before bytes from to at n flaw [] (u ∷ us) tiles tiles' wrong =
    let low : to ≤ u.start = no_token_inside bytes from to u.start (u.end - u.start) u.kind tiles tiles'.0.ordered (front-IsTaken bytes u tiles'.1) in
    omega (arith, tiles'.1.some, Tiles-ordered bytes u.end at us tiles'.2)
no_flaw_before bytes from to at n flaw (t ∷ ts) [] tiles tiles' wrong = absurd (no_flaw_at bytes from at t n flaw tiles.0 tiles.1 tiles' wrong)
no_flaw_before bytes from to at n flaw (t ∷ ts) (u ∷ us) tiles tiles' wrong =
    let same = same_token bytes t u (same_start bytes from t u tiles.0 tiles.1 tiles'.0 tiles'.1) tiles.1 tiles'.1 in
    let ends : u.end ≡ t.end = ap (λ (x : Token). x.end) (sym same) in
    no_flaw_before bytes t.end to at n flaw ts us tiles.2 (rw ends at tiles'.2) wrong

-- a source is tiled in one way at most
pub one_tiling : (bytes : List ℕ) (from : ℕ) (ts us : List Token) → Tiles bytes from ts (length bytes) → Tiles bytes from us (length bytes) → ts ≡ us
one_tiling bytes from [] [] tiles tiles' = refl
one_tiling bytes from [] (u ∷ us) tiles tiles' = absurd (omega (arith, no_token_inside bytes from (length bytes) u.start (u.end - u.start) u.kind tiles tiles'.0.ordered (front-IsTaken bytes u tiles'.1), tiles'.1.some, tiles'.1.inside))
one_tiling bytes from (t ∷ ts) [] tiles tiles' = absurd (omega (arith, no_token_inside bytes from (length bytes) t.start (t.end - t.start) t.kind tiles' tiles.0.ordered (front-IsTaken bytes t tiles.1), tiles.1.some, tiles.1.inside))
one_tiling bytes from (t ∷ ts) (u ∷ us) tiles tiles' =
    let same = same_token bytes t u (same_start bytes from t u tiles.0 tiles.1 tiles'.0 tiles'.1) tiles.1 tiles'.1 in
    let ends : u.end ≡ t.end = ap (λ (x : Token). x.end) (sym same) in
    let rest = one_tiling bytes t.end ts us tiles.2 (rw ends at tiles'.2) in
    cc
