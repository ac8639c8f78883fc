-- The packages and the class outside that the cases name.
use Rattle.std.specs.Prelude.{◌≡◌, true, ◌&&◌, [], ◌∷◌, codes}
use Rattle.std.proofs.Common.{refl, ap, arith}
use Rattle.mol_base.specs.Lexical.Names.{keywords, word_literals}
use Rattle.mol_values_types.specs.TokenForms.{is_dotted}
use Rattle.mol_values_types.proofs.AsciiNames.{ascii-name}

pub shop_dotted : is_dotted (codes "shop") ≡ true
unfolding keywords word_literals
shop_dotted = ap (λ b. b && true) (ascii-name 115 (104 ∷ 111 ∷ 112 ∷ []) refl refl (omega arith) refl)

pub store_dotted : is_dotted (codes "store") ≡ true
unfolding keywords word_literals
store_dotted = ap (λ b. b && true) (ascii-name 115 (116 ∷ 111 ∷ 114 ∷ 101 ∷ []) refl refl (omega arith) refl)

pub string_dotted : is_dotted (codes "String") ≡ true
unfolding keywords word_literals
string_dotted = ap (λ b. b && true) (ascii-name 83 (116 ∷ 114 ∷ 105 ∷ 110 ∷ 103 ∷ []) refl refl (omega arith) refl)
