-- Objects, lists and texts of JSON (RFC 8259, sections 4, 5 and 7), as the lines of a log have them.
use Rattle.std.specs.Prelude.{ℕ, List, [], ◌∷◌, Option, None, Some, codes}
use Prim.Native.String.{String}
use Rattle.serde_json.specs.Data.{Data, null, string, array, object, Items, no_items, item, Members, no_members, member}

-- a key and what stands there
abbrev pub Pair : Type 0
Pair = String × Data

-- These members and no other. Of an object the data has each key once, ascending by bytes, so a list of pairs does too.
abbrev pub members : List Pair → Members
members [] = no_members
members (pair ∷ pairs) = member (codes pair.0) pair.1 (members pairs)

abbrev pub object_of : List Pair → Data
object_of pairs = object (members pairs)

abbrev pub items : List Data → Items
items [] = no_items
items (d ∷ ds) = item d (items ds)

abbrev pub text_items : List (List ℕ) → Items
text_items [] = no_items
text_items (text ∷ texts) = item (string text) (text_items texts)

-- a list of texts: words, modifiers, comments, tags
abbrev pub texts_data : List (List ℕ) → Data
texts_data texts = array (text_items texts)

-- one that may be absent
abbrev pub maybe_texts : Option (List (List ℕ)) → Data
maybe_texts None = null
maybe_texts (Some texts) = texts_data texts
