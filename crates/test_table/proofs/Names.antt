-- Names and packages of the worked programs.
use Rattle.std.specs.Prelude.{◌≡◌, true, ◌&&◌, [], ◌∷◌, codes}
use Rattle.std.proofs.Common.{refl, ap, arith}
use Rattle.mol_base.specs.Lexical.Names.{keywords, word_literals}
use Rattle.mol_values_types.specs.TokenForms.{is_dotted, is_name}
use Rattle.mol_values_types.proofs.AsciiNames.{ascii-name}

pub shop_dotted : is_dotted (codes "shop") ≡ true
unfolding keywords word_literals
shop_dotted = ap (λ b. b && true) (ascii-name 115 (104 ∷ 111 ∷ 112 ∷ []) refl refl (omega arith) refl)

pub bank_dotted : is_dotted (codes "bank") ≡ true
unfolding keywords word_literals
bank_dotted = ap (λ b. b && true) (ascii-name 98 (97 ∷ 110 ∷ 107 ∷ []) refl refl (omega arith) refl)

pub name_cart : is_name (codes "Cart") ≡ true
unfolding keywords word_literals
name_cart = ascii-name 67 (97 ∷ 114 ∷ 116 ∷ []) refl refl (omega arith) refl

pub name_desk : is_name (codes "Desk") ≡ true
unfolding keywords word_literals
name_desk = ascii-name 68 (101 ∷ 115 ∷ 107 ∷ []) refl refl (omega arith) refl

pub name_till : is_name (codes "Till") ≡ true
unfolding keywords word_literals
name_till = ascii-name 84 (105 ∷ 108 ∷ 108 ∷ []) refl refl (omega arith) refl
