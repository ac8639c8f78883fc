-- The tokens of a source, and what the scan finds at the front of its rest.
use Rattle.std.proofs.Common.{◌≡◌, ◌⊎◌, inl, inr, ℕ, ◌+◌, ◌-◌, ◌<◌, ◌≤◌, true, List, [], ◌∷◌, take, drop, length, refl, sym, subst, arith}
use Rattle.std.proofs.lemmas.Bool.{cases_lt}
use Rattle.std.proofs.lemmas.List.{get_or-take, length-drop}
use Rattle.std.proofs.lemmas.List.Elements.{All-nil, All-cons}
use Rattle.mol_base.specs.Token.{Token}
use Rattle.mol_base.specs.Source.{IsTaken, Tiles, IsSource}
use Rattle.mol_base.specs.Lexical.Characters.{is_space, first}
use Rattle.mol_base.specs.Lexical.Flaws.{HasNoFlaw, TakesSound}
use Rattle.mol_base.specs.Lexical.Tokens.{IsToken, AreTokens}
use Rattle.mol_base.specs.Lexical.Front.{front, IsWithin, IsLongest, TakesLongest}
use Rattle.mol_base.specs.declared.token_kind.TokenKind.{TokenKind}
use Rattle.mol_base.specs.declared.lexical.front.Front.{Front}
use Rattle.mol_base.specs.declared.lexical.front.Front.TheVariants.{Space, Taken, Wrong}
use Rattle.mol_base.proofs.Ends.{front-within}
use Rattle.mol_base.proofs.Flawed.{front-IsFlaw, IsFlaw-front}
use Rattle.mol_base.proofs.Longest.{front-longest}
use Rattle.mol_base.proofs.Whole.{IsWhole-token, IsToken-unique}

-- white space is at the front where the first byte is white space
pub front-space : (bytes : List ℕ) → is_space (first bytes) ≡ true → front bytes ≡ Space
unfolding front
front-space bytes is = rw is

-- two longest tokens of the same bytes are one
IsLongest-one : (bytes : List ℕ) (kind other : TokenKind) (n m : ℕ) → n ≤ length bytes → m ≤ length bytes → IsLongest bytes kind n → IsLongest bytes other m → Taken kind n ≡ Taken other m
IsLongest-one bytes kind other n m room room' longest longest' = by_order (cases_lt n m) (cases_lt m n) where
  by_order : ((n < m) ⊎ (m ≤ n)) → ((m < n) ⊎ (n ≤ m)) → Taken kind n ≡ Taken other m
  by_order (inl less) _ = absurd (longest.no_longer m other less room' longest'.token)
  by_order (inr _) (inl less) = absurd (longest'.no_longer n kind less room longest.token)
  by_order (inr low) (inr high) =
      let same : m ≡ n = omega arith in
      let there : IsToken other (take n bytes) = rw same at longest'.token in
      let kinds : kind ≡ other = IsToken-unique kind other (take n bytes) longest.token there in
      cc

-- the longest token is taken at the front, where no flaw begins there
pub front-longest_token : (bytes : List ℕ) (kind : TokenKind) (n : ℕ) → 0 < n → n ≤ length bytes → IsLongest bytes kind n → HasNoFlaw bytes → front bytes ≡ Taken kind n
front-longest_token bytes kind n some room longest no_flaw = by_front (front bytes) refl (front-within bytes (omega arith)) (front-longest bytes (omega arith)) where
  by_front : (f : Front) → front bytes ≡ f → IsWithin bytes f → TakesLongest bytes f → f ≡ Taken kind n
  by_front Space is within longest' =
      let here : first (take n bytes) ≡ first bytes = get_or-take n bytes 0 0 some in
      let space = front-space (take n bytes) (rw here within) in
      let taken = IsWhole-token kind (take n bytes) longest.token in
      absurd cc
  by_front (Taken other m) is within longest' = IsLongest-one bytes other kind m n within.1 room longest' longest
  by_front (Wrong flaw offset) is within longest' = absurd (no_flaw flaw offset (IsFlaw-front bytes flaw offset (omega arith) is))

-- what is taken at the front is the longest token, and no flaw begins there
pub front-takes : (bytes : List ℕ) (kind : TokenKind) (n : ℕ) → 0 < length bytes → front bytes ≡ Taken kind n → IsLongest bytes kind n × HasNoFlaw bytes
front-takes bytes kind n some is =
    let P : Front → Type 0 = TakesLongest bytes in
    (subst P is (front-longest bytes some), λ flaw offset flawed. let wrong = front-IsFlaw bytes flaw offset some flawed in absurd cc)

pub front-TakesSound : (bytes : List ℕ) → 0 < length bytes → TakesSound bytes (front bytes)
front-TakesSound bytes some kind n high room = (λ both. front-longest_token bytes kind n high room both.0 both.1, front-takes bytes kind n some)

-- a token of a source is taken at the front of the rest from its start on
pub front-IsTaken : (bytes : List ℕ) (t : Token) → IsTaken bytes t → front (drop t.start bytes) ≡ Taken t.kind (t.end - t.start)
front-IsTaken bytes t taken =
    let len = length-drop t.start bytes in
    let some = taken.some in
    let inside = taken.inside in
    front-longest_token (drop t.start bytes) t.kind (t.end - t.start) (omega arith) (omega arith) taken.longest taken.no_flaw

-- and what is taken there is a token of the source
pub IsTaken-front : (bytes : List ℕ) (t : Token) (n : ℕ) → front (drop t.start bytes) ≡ Taken t.kind n → t.start < length bytes → t.end ≡ t.start + n → t.text ≡ take n (drop t.start bytes) → IsTaken bytes t
IsTaken-front bytes t n is inside end text =
    let len = length-drop t.start bytes in
    let count : n ≡ t.end - t.start = omega arith in
    let found : front (drop t.start bytes) ≡ Taken t.kind (t.end - t.start) = rw count at is in
    let both = front-takes (drop t.start bytes) t.kind (t.end - t.start) (omega arith) found in
    let P : Front → Type 0 = IsWithin (drop t.start bytes) in
    let within : IsWithin (drop t.start bytes) (Taken t.kind (t.end - t.start)) = subst P found (front-within (drop t.start bytes) (omega arith)) in
    record {
      longest = both.0;
      no_flaw = both.1;
      some = omega (arith, within.0);
      inside = omega (arith, within.1, within.0);
      text = rw count at text;
    }

-- each token of a tiling is one by its form
pub AreTokens-Tiles : (bytes : List ℕ) (from to : ℕ) (ts : List Token) → Tiles bytes from ts to → AreTokens ts
AreTokens-Tiles bytes from to [] tiles = All-nil (λ token. IsToken token.kind token.text)
AreTokens-Tiles bytes from to (t ∷ ts) tiles =
    let P : List ℕ → Type 0 = IsToken t.kind in
    All-cons (λ token. IsToken token.kind token.text) t ts (subst P (sym tiles.1.text) tiles.1.longest.token) (AreTokens-Tiles bytes t.end to ts tiles.2)

-- and so is each token of a source
pub AreTokens-IsSource : (bytes : List ℕ) (ts : List Token) → IsSource bytes ts → AreTokens ts
AreTokens-IsSource bytes ts source = AreTokens-Tiles bytes 0 (length bytes) ts source.tiles
