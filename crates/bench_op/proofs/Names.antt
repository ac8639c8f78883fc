-- The names that are given are names.
use Rattle.std.proofs.Common.{◌≡◌, true, ◌&&◌, [], refl, ap, arith}
use Rattle.std.specs.Prelude.{codes}
use Rattle.mol_base.specs.Lexical.Names.{keywords, word_literals}
use Rattle.mol_values_types.proofs.AsciiNames.{ascii-name}
use Rattle.mol_values_types.specs.TokenForms.{is_name, is_dotted}

pub first_class : is_name (codes "C") ≡ true
unfolding keywords word_literals
first_class = ascii-name 67 [] refl refl (omega arith) refl

pub second_class : is_name (codes "D") ≡ true
unfolding keywords word_literals
second_class = ascii-name 68 [] refl refl (omega arith) refl

pub field : is_name (codes "f") ≡ true
unfolding keywords word_literals
field = ascii-name 102 [] refl refl (omega arith) refl

pub first_method : is_name (codes "m") ≡ true
unfolding keywords word_literals
first_method = ascii-name 109 [] refl refl (omega arith) refl

pub second_method : is_name (codes "n") ≡ true
unfolding keywords word_literals
second_method = ascii-name 110 [] refl refl (omega arith) refl

pub first_package : is_dotted (codes "p") ≡ true
unfolding keywords word_literals
first_package = ap (λ b. b && true) (ascii-name 112 [] refl refl (omega arith) refl)

pub second_package : is_dotted (codes "q") ≡ true
unfolding keywords word_literals
second_package = ap (λ b. b && true) (ascii-name 113 [] refl refl (omega arith) refl)
