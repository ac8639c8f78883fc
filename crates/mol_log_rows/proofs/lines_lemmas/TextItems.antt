-- A list of values, one text after the other.
use Rattle.std.proofs.Common.{◌≡◌, ℕ, ◌+◌, ◌<◌, List, [], ◌∷◌, ◌++◌, length, take, get_or, refl, ap, ◌∙◌, sym}
use Rattle.std.proofs.lemmas.List.{take_more}
use Rattle.serde_json.specs.Data.{Data, string, Items, item, no_items}
use Rattle.serde_json.specs.View.{view, items_view}
use Rattle.serde_json.specs.declared.value.Value.{Value}
use Rattle.mol_log_rows.specs.lines.Objects.{text_items}

-- items with one more at the end
abbrev pushed : Items → Data → Items
pushed no_items d = item d no_items
pushed (item e es) d = item e (pushed es d)

pushed-view : (items : List Value) (value : Value) → items_view (items ++ value ∷ []) ≡ pushed (items_view items) (view value)
pushed-view [] value = refl
pushed-view (v ∷ vs) value = ap (item (view v)) (pushed-view vs value)

pushed-text : (texts : List (List ℕ)) (text : List ℕ) → pushed (text_items texts) (string text) ≡ text_items (texts ++ text ∷ [])
pushed-text [] text = refl
pushed-text (t ∷ ts) text = ap (item (string t)) (pushed-text ts text)

-- one more value, one more text
pub add_text : (items : List Value) (value : Value) (texts : List (List ℕ)) (at : ℕ) (text : List ℕ) → at < length texts → get_or texts at text ≡ text
    → items_view items ≡ text_items (take at texts)
    → view value ≡ string text
    → items_view (items ++ value ∷ []) ≡ text_items (take (at + 1) texts)
add_text items value texts at text within here before is =
    pushed-view items value ∙ rw (before, is) (pushed-text (take at texts) text)
    ∙ ap text_items (sym (take_more texts at text within ∙ ap (λ t. take at texts ++ t ∷ []) here))
