-- What is known of the rule of types.
use Rattle.std.proofs.Common.{◌≡◌, ℕ, ◌<◌, true, List, [], length, Ok, refl, sym, ap, ◌∙◌}
use Rattle.std.proofs.lemmas.List.{append-nil}
use Rattle.mol_base.specs.Token.{Token}
use Rattle.jav_tree.specs.declared.types.TypeName.{TypeName}
use Rattle.jav_tree.specs.Trees.{IsType}
use Rattle.jav_parse_cursor.specs.declared.limits.Limits.{Limits}
use Rattle.jav_parse_unit.specs.declared.reading.Language.TheVariants as asked
use Rattle.jav_parse_cursor.specs.Reading.{sort}
use Rattle.jav_parse_cursor.specs.Sorts.{same_sort}
use Rattle.jav_parse_cursor.specs.TypeRules.{whole_type}
use Rattle.jav_parse.proofs.Calls.{ReadsTrees}
use Rattle.jav_parse.proofs.CompleteTypes.{whole_read}
use Rattle.jav_parse.proofs.Languages.{agree_type}
use Rattle.jav_parse.proofs.LookaheadTypes.{local_whole_type}
use Rattle.jav_parse.proofs.SoundTypes.{reads_whole_type}
use Rattle.jav_parse.proofs.Wider.{wider_whole_type}

type_read : (l : Limits) (to : TypeName) (ts : List Token) → l.builds ≡ true → IsType l.most to ts → length ts < l.turns → whole_type l ts ≡ Ok (to, [])
unfolding sort same_sort
type_read l to ts b t few = ap (whole_type l) (sym (append-nil ts)) ∙ whole_read l b t few [] refl refl

-- a type is no higher than any limit
abbrev pub TypeWithin : ℕ → ℕ → TypeName → List Token → Type 0
TypeWithin most d = IsType most

pub reads_types : ReadsTrees TypeWithin asked.WholeType (λ l d. whole_type l)
reads_types = record {
  asked_is = λ l d ts. refl;
  local = λ l d. local_whole_type l;
  agree = λ l k d e like tops. agree_type l k d e like tops;
  sound = λ l d b some high. reads_whole_type l b;
  whole = λ l d b some to ts t few. type_read l to ts b t few;
  higher = λ le t. t;
  wider = λ le t. wider_whole_type le t;
}
