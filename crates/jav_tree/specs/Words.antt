-- Modifiers as tokens (JLS 8.1.1, 8.3.1, 8.4.3, 8.8.3, 9.6.4.4). As texts they stand in mol_base.
use Rattle.std.specs.Prelude.{◌≡◌, ℕ, List, [], ◌∷◌, codes, true}
pub use Rattle.mol_base.specs.Modifiers.{all_words, times, has, in_order, kept_of_method, AllowedWords, ClassWords, FieldWords, MethodWords, AbstractWords, ConstructorWords}
use Rattle.mol_base.specs.Among.{among}
use Rattle.mol_base.specs.Token.{Token}
use Rattle.mol_base.specs.declared.token_kind.TokenKind.TheVariants as kind
use Rattle.jav_tree.specs.Tokens.{IsSymbol, IsName}

-- Words words ts: the tokens ts are these modifiers, in the order of the source. `@Override` is two tokens.
pub data Words : List (List ℕ) → List Token → Type 0 where
  none : Words [] []
  keyword : {t : Token} {words : List (List ℕ)} {ts : List Token} → t.kind ≡ kind.Keyword
      → among ("public" ∷ "protected" ∷ "private" ∷ "abstract" ∷ "static" ∷ "final" ∷ "transient" ∷ "volatile" ∷ []) t.text ≡ true
      → Words words ts → Words (t.text ∷ words) (t ∷ ts)
  override : {sign t : Token} {words : List (List ℕ)} {ts : List Token} → IsSymbol "@" sign → IsName t → t.text ≡ codes "Override"
      → Words words ts → Words (codes "@Override" ∷ words) (sign ∷ t ∷ ts)
