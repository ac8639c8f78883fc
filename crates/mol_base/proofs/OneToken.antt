-- The kind that is computed is that of the one token that the bytes are.
use Rattle.std.proofs.Common.{◌≡◌, ℕ, Bool, true, false, List, length, Option, Some, None, refl, subst, cond, nat_eq}
use Rattle.std.specs.Prelude.{IfSome, ◌↔◌}
use Rattle.std.specs.Str.{IsUtf8, is_utf8}
use Rattle.std.proofs.lemmas.Bool.{and_parts, and_from, cond_both, eqb-true, eq-eqb}
use Rattle.std.proofs.lemmas.Str.{IsUtf8-from_is_utf8, is_utf8-from_IsUtf8}
use Rattle.mol_base.specs.Lexical.Characters.{before_unicode_escape}
use Rattle.mol_base.specs.Lexical.Front.{front, is_clean, whole, token_kind}
use Rattle.mol_base.specs.Lexical.Tokens.{IsOneToken}
use Rattle.mol_base.specs.declared.token_kind.TokenKind.{TokenKind}
use Rattle.mol_base.specs.declared.lexical.front.Front.{Front}
use Rattle.mol_base.specs.declared.lexical.front.Front.TheVariants.{Space, Taken, Wrong}
use Rattle.mol_base.proofs.Escaping.{HasNoEscape-from_scan, HasNoEscape-scan}
use Rattle.mol_base.proofs.Whole.{IsToken-whole, IsWhole-token}

whole-some : (n : ℕ) (f : Front) (kind : TokenKind) → whole n f ≡ Some kind → f ≡ Taken kind n
whole-some n Space kind h = absurd cc
whole-some n (Wrong flaw at) kind h = absurd cc
whole-some n (Taken k m) kind h = by_len (nat_eq m n) refl h where
  by_len : (t : Bool) → nat_eq m n ≡ t → cond t (Some k) None ≡ Some kind → Taken k m ≡ Taken kind n
  by_len true is h' = let same : m ≡ n = eqb-true m n is in let kinds : k ≡ kind = cc in cc
  by_len false is h' = absurd cc

whole-taken : (n : ℕ) (kind : TokenKind) → whole n (Taken kind n) ≡ Some kind
whole-taken n kind = rw (eq-eqb n n refl) refl

-- bytes without a bad sequence and without a Unicode escape
clean-parts : (bytes : List ℕ) → is_clean bytes ≡ true → IsUtf8 bytes × (before_unicode_escape false bytes ≡ length bytes)
unfolding is_clean
clean-parts bytes h =
    let parts = and_parts (is_utf8 bytes) (nat_eq (before_unicode_escape false bytes) (length bytes)) h in
    (IsUtf8-from_is_utf8 bytes parts.0, eqb-true (before_unicode_escape false bytes) (length bytes) parts.1)

clean-from : (bytes : List ℕ) → IsUtf8 bytes → before_unicode_escape false bytes ≡ length bytes → is_clean bytes ≡ true
unfolding is_clean
clean-from bytes text escapes = and_from (is_utf8 bytes) _ (is_utf8-from_IsUtf8 bytes text) (eq-eqb _ _ escapes)

one_token : (bytes : List ℕ) (kind : TokenKind) → is_clean bytes ≡ true → whole (length bytes) (front bytes) ≡ Some kind → IsOneToken kind bytes
one_token bytes kind clean taken =
    let parts = clean-parts bytes clean in
    record { utf8 = parts.0; escapes = HasNoEscape-from_scan bytes parts.1; token = IsToken-whole kind bytes (whole-some (length bytes) (front bytes) kind taken) }

pub IsOneToken-token_kind : (bytes : List ℕ) → IfSome (token_kind bytes) (λ kind. IsOneToken kind bytes)
unfolding token_kind
IsOneToken-token_kind bytes =
    let P : Option TokenKind → Type 0 = λ o. IfSome o (λ kind. IsOneToken kind bytes) in
    cond_both (is_clean bytes) (whole (length bytes) (front bytes)) None P (λ clean. by_kind clean (whole (length bytes) (front bytes)) refl) (λ _. tt)
  where
    by_kind : is_clean bytes ≡ true → (o : Option TokenKind) → whole (length bytes) (front bytes) ≡ o → IfSome o (λ kind. IsOneToken kind bytes)
    by_kind clean None e = tt
    by_kind clean (Some kind) e = one_token bytes kind clean e

pub token_kind-IsOneToken : (kind : TokenKind) (bytes : List ℕ) → IsOneToken kind bytes → token_kind bytes ≡ Some kind
unfolding token_kind
token_kind-IsOneToken kind bytes is =
    let taken : front bytes ≡ Taken kind (length bytes) = IsWhole-token kind bytes is.token in
    rw (clean-from bytes is.utf8 (HasNoEscape-scan bytes is.escapes), taken) (whole-taken (length bytes) kind)

-- the law, both ways
pub token_kind-is : (kind : TokenKind) (bytes : List ℕ) → (token_kind bytes ≡ Some kind) ↔ IsOneToken kind bytes
token_kind-is kind bytes = (λ e. some_of (token_kind bytes) e (IsOneToken-token_kind bytes), token_kind-IsOneToken kind bytes) where
  some_of : (o : Option TokenKind) → o ≡ Some kind → IfSome o (λ k. IsOneToken k bytes) → IsOneToken kind bytes
  some_of None e is = absurd cc
  some_of (Some k) e is = let same : k ≡ kind = cc in let P : TokenKind → Type 0 = λ x. IsOneToken x bytes in subst P same is
