-- What of Java is left out, by the token at which a source shows it.
use Rattle.std.specs.Prelude.{ℕ, List, [], ◌∷◌, codes, Bool, true, false, ◌&&◌, if◌then◌else◌, Option, Some, None}
use Prim.Native.String.{String}
use Rattle.std.specs.Str.{bytes_eq}
use Rattle.mol_base.specs.Token.{Token}
use Rattle.mol_base.specs.declared.token_kind.TokenKind.{TokenKind}
use Rattle.mol_base.specs.declared.token_kind.TokenKind.TheVariants as kind
use Rattle.jav_parse_unit.specs.declared.feature.Feature.{Feature}
use Rattle.jav_parse_unit.specs.declared.feature.Feature.TheVariants as feature

-- a text, and the feature that a token of this text shows
pub record Row : Type 0 where
  pub text : String
  pub feature : Feature

abbrev row : String → Feature → Row
row text feature = record { text = text; feature = feature }

abbrev pub symbol_rows : List Row
symbol_rows = row "<" feature.Generics ∷ row "->" feature.Lambda ∷ row "::" feature.MethodReference ∷ row "..." feature.Varargs
    ∷ row "@" feature.Annotation ∷ row "*" feature.OnDemand ∷ row ":" feature.Label ∷ row "{" feature.Braces ∷ row "[" feature.ArrayDeclarator ∷ []

abbrev pub keyword_rows : List Row
keyword_rows = row "interface" feature.Interface ∷ row "implements" feature.Implements ∷ row "enum" feature.Enum ∷ row "switch" feature.Switch
    ∷ row "case" feature.Case ∷ row "default" feature.Default ∷ row "do" feature.Do ∷ row "synchronized" feature.Synchronized
    ∷ row "assert" feature.Assert ∷ row "native" feature.Native ∷ row "strictfp" feature.Strictfp ∷ row "goto" feature.Goto ∷ row "const" feature.Const
    ∷ row "float" feature.Float ∷ row "double" feature.Double ∷ row "try" feature.Try ∷ row "catch" feature.Catch ∷ row "finally" feature.Finally
    ∷ row "throws" feature.Throws ∷ row "static" feature.StaticPlace ∷ row "class" feature.NestedClass ∷ []

-- the feature of the first row with this text
abbrev pub looked_up : List Row → List ℕ → Option Feature
looked_up [] text = None
looked_up (r ∷ rest) text = if bytes_eq text (codes r.text) then Some r.feature else looked_up rest text

-- the feature of a token by its kind and text
abbrev pub feature_by : TokenKind → List ℕ → Option Feature
feature_by kind.Symbol text = looked_up symbol_rows text
feature_by kind.Keyword text = looked_up keyword_rows text
feature_by kind.Word text = None
feature_by kind.Literal text = None
feature_by kind.Comment text = None

abbrev is_keyword : TokenKind → Bool
is_keyword kind.Keyword = true
is_keyword _ = false

abbrev is_symbol : TokenKind → Bool
is_symbol kind.Symbol = true
is_symbol _ = false

-- whether the last of some tokens is `this`
abbrev pub ends_in_this : List Token → Bool
ends_in_this [] = false
ends_in_this (t ∷ []) = is_keyword t.kind && bytes_eq t.text (codes "this")
ends_in_this (t ∷ u ∷ rest) = ends_in_this (u ∷ rest)

-- The feature at a bad token, with the tokens before it, which count for `(` alone: after `this` it is a call of a constructor.
abbrev pub feature_at : List Token → Token → Option Feature
feature_at before t =
    if is_symbol t.kind && bytes_eq t.text (codes "(") then (if ends_in_this before then Some feature.ThisCall else None) else feature_by t.kind t.text

-- its name in messages
abbrev pub name : Feature → List ℕ
name feature.Generics = codes "generics"
name feature.Interface = codes "interface"
name feature.Implements = codes "implements"
name feature.Enum = codes "enum"
name feature.Switch = codes "switch"
name feature.Case = codes "case"
name feature.Default = codes "default"
name feature.Do = codes "do"
name feature.Synchronized = codes "synchronized"
name feature.Assert = codes "assert"
name feature.Native = codes "native"
name feature.Strictfp = codes "strictfp"
name feature.Goto = codes "goto"
name feature.Const = codes "const"
name feature.Float = codes "float"
name feature.Double = codes "double"
name feature.Try = codes "try"
name feature.Catch = codes "catch"
name feature.Finally = codes "finally"
name feature.Throws = codes "throws"
name feature.Lambda = codes "lambda"
name feature.MethodReference = codes "method-reference"
name feature.Varargs = codes "varargs"
name feature.Annotation = codes "annotation"
name feature.OnDemand = codes "on-demand"
name feature.StaticPlace = codes "static-place"
name feature.NestedClass = codes "nested-class"
name feature.Label = codes "label"
name feature.Braces = codes "braces"
name feature.ArrayDeclarator = codes "array-declarator"
name feature.ThisCall = codes "this-call"
