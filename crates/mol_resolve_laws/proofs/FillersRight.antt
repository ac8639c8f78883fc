-- What stands for a parameter that a call does not give is a literal.
use Rattle.std.proofs.Common.{◌≡◌, true, ◌==◌, ◌&&◌, ◌||◌, [], ◌∷◌, codes, drop, refl, ◌∙◌, ap, subst, lit<}
use Rattle.std.proofs.lemmas.Str.{IsUtf8-from_ascii}
use Rattle.std.proofs.lemmas.Str.Ascii.{IsAscii-cons, IsAscii-nil}
use Rattle.jav_names.specs.DottedNames.{Name}
use Rattle.mol_base.proofs.Escaping.{HasNoEscape-from_scan}
use Rattle.mol_base.proofs.OneToken.{token_kind-IsOneToken}
use Rattle.mol_base.specs.Lexical.Characters.{first}
use Rattle.mol_base.specs.Lexical.Forms.Number.{plain, zero}
use Rattle.mol_base.specs.Lexical.Forms.Quoted.{octal_1, IsOneCharacter}
use Rattle.mol_base.specs.Lexical.Names.{word_literals}
use Rattle.mol_base.specs.Lexical.Tokens.{IsOneToken, word, number, character}
use Rattle.mol_base.specs.declared.token_kind.TokenKind.TheVariants as kind
use Rattle.mol_resolve_rules.specs.Expected.{filler_step, filler_of}
use Rattle.mol_values_types.specs.TokenForms.{is_literal_kind, is_number, is_filler}
use Rattle.mol_values_types.specs.declared.itype.IType.{IType}
use Rattle.mol_values_types.specs.declared.itype.IType.TheFolds.{fold-roll-IType, ind-IType, map-IType}
use Rattle.mol_values_types.specs.declared.itype.IType.TheOpen.{IType-F}
use Rattle.mol_values_types.specs.declared.itype.IType.TheViews.{roll-IType}

literal-filler : (text : Name) → IsOneToken kind.Literal text → is_filler text ≡ true
literal-filler text token =
    ap (λ b. b || (first text == 45 && is_number (drop 1 text))) (ap is_literal_kind (token_kind-IsOneToken kind.Literal text token))

zero-is : is_filler (codes "0") ≡ true
zero-is = literal-filler (codes "0") (record {
  utf8 = IsUtf8-from_ascii (codes "0") (IsAscii-cons 48 [] (lit< tt) IsAscii-nil);
  escapes = HasNoEscape-from_scan (codes "0") refl;
  token = number (plain (zero refl));
})

false-is : is_filler (codes "false") ≡ true
unfolding word_literals
false-is = literal-filler (codes "false") (record {
  utf8 = IsUtf8-from_ascii (codes "false") (IsAscii-cons 102 (97 ∷ 108 ∷ 115 ∷ 101 ∷ []) (lit< tt)
      (IsAscii-cons 97 (108 ∷ 115 ∷ 101 ∷ []) (lit< tt) (IsAscii-cons 108 (115 ∷ 101 ∷ []) (lit< tt)
      (IsAscii-cons 115 (101 ∷ []) (lit< tt) (IsAscii-cons 101 [] (lit< tt) IsAscii-nil)))));
  escapes = HasNoEscape-from_scan (codes "false") refl;
  token = word (1, lit< tt, refl);
})

null-is : is_filler (codes "null") ≡ true
unfolding word_literals
null-is = literal-filler (codes "null") (record {
  utf8 = IsUtf8-from_ascii (codes "null") (IsAscii-cons 110 (117 ∷ 108 ∷ 108 ∷ []) (lit< tt)
      (IsAscii-cons 117 (108 ∷ 108 ∷ []) (lit< tt) (IsAscii-cons 108 (108 ∷ []) (lit< tt) (IsAscii-cons 108 [] (lit< tt) IsAscii-nil))));
  escapes = HasNoEscape-from_scan (codes "null") refl;
  token = word (2, lit< tt, refl);
})

char-is : is_filler (39 ∷ 92 ∷ 48 ∷ 39 ∷ []) ≡ true
char-is = literal-filler (39 ∷ 92 ∷ 48 ∷ 39 ∷ []) (record {
  utf8 = IsUtf8-from_ascii (39 ∷ 92 ∷ 48 ∷ 39 ∷ []) (IsAscii-cons 39 (92 ∷ 48 ∷ 39 ∷ []) (lit< tt)
      (IsAscii-cons 92 (48 ∷ 39 ∷ []) (lit< tt) (IsAscii-cons 48 (39 ∷ []) (lit< tt) (IsAscii-cons 39 [] (lit< tt) IsAscii-nil))));
  escapes = HasNoEscape-from_scan (39 ∷ 92 ∷ 48 ∷ 39 ∷ []) refl;
  token = character (record { body = 92 ∷ 48 ∷ []; spelled = refl; form = IsOneCharacter.escape (octal_1 48 refl refl) });
})

step-is : (x : IType-F Name) → is_filler (filler_step x) ≡ true
step-is IType-F.Boolean = false-is
step-is IType-F.Byte = zero-is
step-is IType-F.Short = zero-is
step-is IType-F.Int = zero-is
step-is IType-F.Long = zero-is
step-is IType-F.Char = char-is
step-is reference = null-is

pub filler-right : (type : IType) → is_filler (filler_of type) ≡ true
filler-right = ind-IType (λ type. is_filler (filler_of type) ≡ true)
    (λ x y is. subst (λ z. is_filler (filler_of (roll-IType z)) ≡ true) is (layer y)) where
      layer : (y : IType-F ((type : IType) × (is_filler (filler_of type) ≡ true)))
          → is_filler (filler_of (roll-IType (map-IType _ _ (λ p. p.0) y))) ≡ true
      layer y = ap is_filler (fold-roll-IType Name filler_step (map-IType _ _ (λ p. p.0) y))
          ∙ step-is (map-IType _ _ filler_of (map-IType _ _ (λ p. p.0) y))
