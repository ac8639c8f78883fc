-- Spelled identities and stamps, cut at their separator.
use Rattle.std.proofs.Common.{◌≡◌, ℕ, ◌≤◌, List, [], ◌∷◌, length, Bool, true, false, sym, ◌∙◌, ap, refl, arith, inl, inr}
use Rattle.std.specs.Prelude.{◌==◌, ◌⊎◌, not, nat_lt, None}
use Rattle.std.specs.List.{list_all, position, position_or_len}
use Rattle.std.proofs.lemmas.Bool.Decides.{nat_tests}
use Rattle.std.proofs.lemmas.Option.{none-some}
use Rattle.mol_base.specs.Tag.{is_tag_byte, IsTag}
use Rattle.mol_base.specs.declared.tag_fault.TagFault.{TagFault}
use Rattle.mol_base.specs.declared.tag_fault.TagFault.TheVariants.{Empty, TooLong, BadByte}
use Rattle.mol_base.specs.TagFault.{IsTagFault}
use Rattle.mol_base.proofs.Tags.{both_true}

-- no byte of a tag is `:` or `@`
no_separator : (byte separator : ℕ) → is_tag_byte byte ≡ true → (separator ≡ 58) ⊎ (separator ≡ 64) → not (byte == separator) ≡ true
no_separator byte separator tag (inl colon) = rw colon (grind (arith, nat_tests, tag))
no_separator byte separator tag (inr at) = rw at (grind (arith, nat_tests, tag))

pub lacks_separator : (bytes : List ℕ) (separator : ℕ) → list_all is_tag_byte bytes ≡ true → (separator ≡ 58) ⊎ (separator ≡ 64) → list_all (λ b. not (b == separator)) bytes ≡ true
lacks_separator [] separator tag which = refl
lacks_separator (byte ∷ bytes) separator tag which =
    let parts = both_true (is_tag_byte byte) (list_all is_tag_byte bytes) tag in
    rw (no_separator byte separator parts.0 which, lacks_separator bytes separator parts.1 which) refl

passed : {X : Type 0} (p : X → Bool) (xs : List X) → list_all p xs ≡ true → length xs ≤ position_or_len (λ x. not (p x)) xs
passed p [] all = omega arith
passed p (x ∷ xs) all =
    let parts = both_true (p x) (list_all p xs) all in
    rw parts.0 (omega (arith, passed p xs parts.1))

-- where each byte is good, none is bad
none_bad : (bytes : List ℕ) → list_all is_tag_byte bytes ≡ true → position (λ byte. not (is_tag_byte byte)) bytes ≡ None
none_bad bytes all =
    let past : nat_lt (position_or_len (λ byte. not (is_tag_byte byte)) bytes) (length bytes) ≡ false = grind (arith, nat_tests, passed is_tag_byte bytes all) in
    rw past refl

-- a tag has no fault
pub no_fault : (bytes : List ℕ) (fault : TagFault) → IsTag bytes → IsTagFault bytes fault → ⊥
no_fault bytes Empty tag none = absurd (omega (arith, tag.0, ap length none))
no_fault bytes TooLong tag long = omega (arith, tag.1.0, long)
no_fault bytes (BadByte at) tag bad = none-some at (sym (none_bad bytes tag.1.1) ∙ bad.2)
