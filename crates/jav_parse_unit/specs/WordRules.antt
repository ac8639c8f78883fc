-- The rules of modifiers.
use Rattle.std.specs.Prelude.{ℕ, zero, suc, Bool, true, false, not, ◌||◌, ◌&&◌, if◌then◌else◌, List, [], ◌∷◌, ◌++◌, Option, Some, None, codes, Ok, Err}
use Rattle.std.specs.Str.{bytes_eq}
use Rattle.mol_base.specs.Token.{Token}
use Rattle.jav_parse_cursor.specs.declared.sort.Sort.{Sort}
use Rattle.jav_parse_cursor.specs.declared.sort.Sort.TheVariants as sort
use Rattle.jav_parse_unit.specs.declared.words.Words.{Words as Modifiers}
use Rattle.jav_parse_cursor.specs.Sorts.{same_sort, sort_of}
use Rattle.jav_parse_cursor.specs.Reading.{Parser, ◌>>=◌, ◌>>◌, pure, refuse, peek, take_token, when_next, expect_override}

abbrev pub no_words : Modifiers
no_words = record { overrides = false; is_public = false; is_protected = false; is_private = false; is_abstract = false; is_static = false; is_final = false; is_transient = false; is_volatile = false }

abbrev pub has_access : Modifiers → Bool
has_access w = w.is_public || (w.is_protected || w.is_private)

-- whether a class may have these
abbrev pub fit_class : Modifiers → Bool
fit_class w = not (w.overrides || (w.is_protected || (w.is_private || (w.is_static || (w.is_transient || w.is_volatile)))))

abbrev pub fit_field : Modifiers → Bool
fit_field w = not (w.overrides || w.is_abstract)

-- a method, with or without a block
abbrev pub fit_method : Modifiers → Bool
fit_method w = not (w.is_transient || (w.is_volatile || (w.is_abstract && w.is_static)))

abbrev pub fit_constructor : Modifiers → Bool
fit_constructor w = fit_field w && (fit_method w && not (w.is_static || w.is_final))

abbrev pub fit_member : Modifiers → Bool
fit_member w = fit_field w || fit_method w

-- whether a token begins a modifier
abbrev pub is_word : Sort → Bool
is_word sort.At = true
is_word sort.Public = true
is_word sort.Protected = true
is_word sort.Private = true
is_word sort.Abstract = true
is_word sort.Static = true
is_word sort.Final = true
is_word sort.Transient = true
is_word sort.Volatile = true
is_word _ = false

abbrev pub once : Bool → Modifiers → Option Modifiers
once is_there w = if is_there then None else Some w

-- these and one more, or none where it is there, or is a second access word
abbrev pub and_word : Modifiers → Sort → Option Modifiers
and_word w sort.At = once w.overrides (record w { overrides = true })
and_word w sort.Public = once (has_access w) (record w { is_public = true })
and_word w sort.Protected = once (has_access w) (record w { is_protected = true })
and_word w sort.Private = once (has_access w) (record w { is_private = true })
and_word w sort.Abstract = once w.is_abstract (record w { is_abstract = true })
and_word w sort.Static = once w.is_static (record w { is_static = true })
and_word w sort.Final = once w.is_final (record w { is_final = true })
and_word w sort.Transient = once w.is_transient (record w { is_transient = true })
and_word w sort.Volatile = once w.is_volatile (record w { is_volatile = true })
and_word w _ = None

-- the texts, and one more where it is there
abbrev pub with_if : List (List ℕ) → Bool → List ℕ → List (List ℕ)
with_if all is_there word = if is_there then all ++ word ∷ [] else all

-- the modifiers as texts, in the order in which they are printed
unfoldable pub texts : Modifiers → List (List ℕ)
texts w =
    let a = with_if [] w.overrides (codes "@Override") in
    let b = with_if a w.is_public (codes "public") in
    let c = with_if b w.is_protected (codes "protected") in
    let d = with_if c w.is_private (codes "private") in
    let e = with_if d w.is_abstract (codes "abstract") in
    let f = with_if e w.is_static (codes "static") in
    let g = with_if f w.is_final (codes "final") in
    let h = with_if g w.is_transient (codes "transient") in
    with_if h w.is_volatile (codes "volatile")

abbrev pub method_texts : Modifiers → List (List ℕ)
method_texts w = texts (record w { is_abstract = false; is_static = false })

-- a modifier
unfoldable pub take_word : Parser Token
take_word = when_next sort.At (take_token >> expect_override) take_token

-- modifiers, which must fit at each
unfoldable pub words : (Modifiers → Bool) → ℕ → Modifiers → Parser Modifiers
words fit zero all = refuse
words fit (suc n) all = peek >>= (λ s. if is_word s
    then elim (and_word all s) [ Some more ↦ (if fit more then take_word >> words fit n more else refuse) | None ↦ refuse ] else pure all)
