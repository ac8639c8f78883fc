-- A reserved word is a keyword or a literal.
use Rattle.std.specs.Prelude.{◌≡◌, ℕ, ◌||◌, List}
use Rattle.std.specs.Str.{bytes_eq}
use Rattle.std.proofs.lemmas.List.Folds.{list_any-append}
use Rattle.mol_base.specs.Lexical.Names.{keywords, word_literals, is_keyword, is_word_literal}
use Rattle.mol_base.specs.ReservedWords.{is_reserved}

pub is_reserved-split : (name : List ℕ) → is_reserved name ≡ (is_keyword name || is_word_literal name)
unfolding is_keyword is_word_literal
is_reserved-split name = list_any-append (λ word. bytes_eq word name) keywords word_literals
