-- The tables of the program are those of the grammar.
use Rattle.std.proofs.Common.{◌≡◌, ℕ, List, map, refl}
use Rattle.jav_parse_unit.specs.Features as features
use Rattle.jav_parse_unit.specs.declared.feature.TheConstants.{SYMBOLS, KEYWORDS}
use Rattle.jav_parse_unit.specs.FeatureTables.{found}

pub symbols_are : (text : List ℕ) → found (map (λ row. (row.0.now, row.1)) SYMBOLS) text ≡ features.looked_up features.symbol_rows text
symbols_are text = refl

pub keywords_are : (text : List ℕ) → found (map (λ row. (row.0.now, row.1)) KEYWORDS) text ≡ features.looked_up features.keyword_rows text
keywords_are text = refl
