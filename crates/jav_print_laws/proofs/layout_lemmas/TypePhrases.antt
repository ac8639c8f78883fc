-- Types as phrases.
use Rattle.std.proofs.Common.{◌≡◌, ℕ, zero, suc, ◌≤◌, Bool, true, false, List, [], ◌∷◌, ◌++◌, Some, refl, sym, ap, ◌∙◌, subst, append_assoc, append-nil}
use Rattle.mol_base.specs.Among.{among}
use Rattle.mol_base.specs.Token.{Token}
use Rattle.mol_base.specs.Lexical.Front.{token_kind}
use Rattle.mol_base.specs.declared.token_kind.TokenKind.TheVariants as kind
use Rattle.jav_tree.specs.declared.types.TypeName.{TypeName}
use Rattle.jav_tree.specs.declared.types.TypeName.TheVariants as ty
use Rattle.jav_tree.specs.declared.types.TypeName.TheOpen.{TypeName-F}
use Rattle.jav_tree.specs.declared.types.TypeName.TheFolds.{fold-roll-TypeName, ind-TypeName, map-TypeName}
use Rattle.jav_tree.specs.declared.types.TypeName.TheViews.{roll-TypeName}
use Rattle.jav_tree.specs.PrintableExpressions.{TypeUses, type_uses, type_uses_step}
use Rattle.jav_tree.specs.Tokens.{IsSymbol, IsKeyword}
use Rattle.jav_tree.specs.Types.{IsPrimitive, Qualified, BaseType, Brackets, WholeType, array_of}
use Rattle.jav_tree.specs.Types as types
use Rattle.jav_tree.specs.Members.{Result}
use Rattle.jav_tree.specs.Members as members
use Rattle.jav_tree.specs.TypeText.{type_text}
use Rattle.jav_tree.specs.TokenTexts.{is_dotted_name}
use Rattle.jav_tree.specs.Widths.{type_width, type_width_step}
use Rattle.jav_tree.proofs.StatementTexts.{text-Prim, text-Named, text-ArrayOf, text-Void}
use Rattle.jav_print_laws.proofs.layout_lemmas.Bytes.{bracket_breaks}
use Rattle.jav_print_laws.proofs.layout_lemmas.Each.{among-each}
use Rattle.jav_print_laws.proofs.layout_lemmas.Keywords.{IsWordy, primitive_words, keyword_may, void_word}
use Rattle.jav_print_laws.proofs.layout_lemmas.Names.{qualified}
use Rattle.jav_print_laws.proofs.layout_lemmas.Phrases.{Phrase, Breaks, Alone, alone, Then, both, OneOf, one_of, token, narrow, reads, makes, then, next_to}
use Rattle.jav_print_laws.proofs.layout_lemmas.Signs.{left_bracket, right_bracket}

-- what a type may be and how wide it is, case by case
uses-Prim : (text : List ℕ) → type_uses (ty.Prim text) ≡ type_uses_step (TypeName-F.Prim text)
uses-Prim text = ap type_uses (sym (ty.rolls-Prim text)) ∙ fold-roll-TypeName _ type_uses_step (TypeName-F.Prim text)

uses-Named : (text : List ℕ) → type_uses (ty.Named text) ≡ type_uses_step (TypeName-F.Named text)
uses-Named text = ap type_uses (sym (ty.rolls-Named text)) ∙ fold-roll-TypeName _ type_uses_step (TypeName-F.Named text)

uses-ArrayOf : (item : TypeName) → type_uses (ty.ArrayOf item) ≡ type_uses_step (TypeName-F.ArrayOf (type_uses item))
uses-ArrayOf item = ap type_uses (sym (ty.rolls-ArrayOf item)) ∙ fold-roll-TypeName _ type_uses_step (TypeName-F.ArrayOf item)

uses-Void : type_uses ty.Void ≡ type_uses_step TypeName-F.Void
uses-Void = ap type_uses (sym ty.rolls-Void) ∙ fold-roll-TypeName _ type_uses_step TypeName-F.Void

width-Prim : (text : List ℕ) → type_width (ty.Prim text) ≡ 0
width-Prim text = ap type_width (sym (ty.rolls-Prim text)) ∙ fold-roll-TypeName _ type_width_step (TypeName-F.Prim text)

width-Named : (text : List ℕ) → type_width (ty.Named text) ≡ 0
width-Named text = ap type_width (sym (ty.rolls-Named text)) ∙ fold-roll-TypeName _ type_width_step (TypeName-F.Named text)

width-Void : type_width ty.Void ≡ 0
width-Void = ap type_width (sym ty.rolls-Void) ∙ fold-roll-TypeName _ type_width_step TypeName-F.Void

width-ArrayOf : (item : TypeName) → type_width (ty.ArrayOf item) ≡ suc (type_width item)
width-ArrayOf item = ap type_width (sym (ty.rolls-ArrayOf item)) ∙ fold-roll-TypeName _ type_width_step (TypeName-F.ArrayOf item)

-- a type with this many pairs of brackets
pub data Bracketed : TypeName → ℕ → List Token → Type 0 where
  bracketed : {base : TypeName} {n : ℕ} {ts us : List Token} → BaseType base ts → Brackets n us → Bracketed (array_of n base) n (ts ++ us)

-- a class by its name
pub data ClassName : TypeName → List Token → Type 0 where
  class_name : {q : List ℕ} {ts : List Token} → Qualified q ts → ClassName (ty.Named q) ts

-- the phrases of a type that may be this and has this width
pub record TypePhrases (u : TypeUses) (width : ℕ) (to : TypeName) : Type 0 where
  pub base : u.is_base ≡ true → Phrase (BaseType to) Breaks (type_text to)
  pub class : u.is_class ≡ true → Phrase (ClassName to) Breaks (type_text to)
  pub array : u.is_array ≡ true → (k : ℕ) × (width ≡ suc k) × (u.is_type ≡ true)
  pub type : u.is_type ≡ true → Phrase (Bracketed to width) Breaks (type_text to)
  pub result : (limit : ℕ) → width ≤ limit → u.is_result ≡ true → Phrase (Result limit to) Breaks (type_text to)

pub whole_of : (limit : ℕ) (to : TypeName) (n : ℕ) → n ≤ limit → (ts : List Token) → Bracketed to n ts → WholeType limit to ts
whole_of limit _ _ few _ (bracketed b k) = types.whole b k few

result_of : (limit : ℕ) (to : TypeName) (n : ℕ) → n ≤ limit → (ts : List Token) → Bracketed to n ts → Result limit to ts
result_of limit to n few ts b = members.type (whole_of limit to n few ts b)

no_brackets : {to : TypeName} {ts : List Token} → BaseType to ts → Bracketed to zero ts
no_brackets {to} {ts} b = let P : List Token → Type 0 = λ us. Bracketed to zero us in subst P (append-nil ts) (bracketed b types.none)

more_brackets : {left right : Token} (n : ℕ) (ts : List Token) → Brackets n ts → IsSymbol "[" left → IsSymbol "]" right → Brackets (suc n) (ts ++ left ∷ right ∷ [])
more_brackets _ _ types.none l r = types.pair l r types.none
more_brackets _ _ (types.pair {n = n} {ts = ts} l' r' rest) l r = types.pair l' r' (more_brackets n ts rest l r)

array_type : (item : TypeName) (n : ℕ) (ts : List Token) → Then (Bracketed item n) (Then (Alone (IsSymbol "[")) (Alone (IsSymbol "]"))) ts → Bracketed (ty.ArrayOf item) (suc n) ts
array_type _ _ _ (both _ _ (bracketed {n = n} {ts = ts} {us = us} b k) (both _ _ (alone left l) (alone right r))) =
    rw (append_assoc ts us (left ∷ right ∷ [])) (bracketed b (more_brackets n us k l r))

primitive_word : (text : List ℕ) → among ("boolean" ∷ "byte" ∷ "short" ∷ "char" ∷ "int" ∷ "long" ∷ []) text ≡ true → token_kind text ≡ Some kind.Keyword
primitive_word text h = among-each IsWordy ("boolean" ∷ "byte" ∷ "short" ∷ "char" ∷ "int" ∷ "long" ∷ []) text primitive_words h

primitive : (text : List ℕ) → among ("boolean" ∷ "byte" ∷ "short" ∷ "char" ∷ "int" ∷ "long" ∷ []) text ≡ true → (ts : List Token) → OneOf kind.Keyword text ts → BaseType (ty.Prim text) ts
primitive _ known _ (one_of t word) = types.primitive (among-each (λ text. t.text ≡ text → IsPrimitive t) ("boolean" ∷ "byte" ∷ "short" ∷ "char" ∷ "int" ∷ "long" ∷ []) t.text
    (λ e. types.boolean word e, (λ e. types.byte word e, (λ e. types.short word e, (λ e. types.char word e, (λ e. types.int word e, (λ e. types.long word e, tt)))))) known refl)

of_base : (to : TypeName) (is_base is_class : Bool) → (is_base ≡ true → Phrase (BaseType to) Breaks (type_text to)) → (is_class ≡ true → Phrase (ClassName to) Breaks (type_text to))
    → TypePhrases (record { is_base = is_base; is_class = is_class; is_array = false; is_type = is_base; is_result = is_base }) 0 to
of_base to is_base is_class p q = record {
  base = p;
  class = q;
  array = λ h. absurd cc;
  type = λ h. makes (p h) refl (λ ts b. no_brackets b);
  result = λ limit few h. makes (p h) refl (λ ts b. result_of limit to zero few ts (no_brackets b));
}

of_prim : (text : List ℕ) → TypePhrases (type_uses_step (TypeName-F.Prim text)) 0 (ty.Prim text)
of_prim text = of_base (ty.Prim text) (among ("boolean" ∷ "byte" ∷ "short" ∷ "char" ∷ "int" ∷ "long" ∷ []) text) false
    (λ known. makes (narrow (token kind.Keyword text (primitive_word text known)) (λ b ok. keyword_may text b ok)) (sym (text-Prim text)) (primitive text known))
    (λ h. absurd cc)

named_base : (q : List ℕ) (ts : List Token) → Qualified q ts → BaseType (ty.Named q) ts
named_base q ts x = types.named x

named_class : (q : List ℕ) (ts : List Token) → Qualified q ts → ClassName (ty.Named q) ts
named_class q ts x = class_name x

of_named : (q : List ℕ) → TypePhrases (type_uses_step (TypeName-F.Named q)) 0 (ty.Named q)
of_named q = of_base (ty.Named q) (is_dotted_name q) (is_dotted_name q) (λ known. makes (qualified q known) (sym (text-Named q)) (named_base q)) (λ known. makes (qualified q known) (sym (text-Named q)) (named_class q))

of_array : (item : TypeName) (u : TypeUses) (width : ℕ) → TypePhrases u width item → TypePhrases (type_uses_step (TypeName-F.ArrayOf u)) (suc width) (ty.ArrayOf item)
of_array item u width p = record {
  base = λ h. absurd cc;
  class = λ h. absurd cc;
  array = λ h. (width, refl, h);
  type = whole;
  result = λ limit few h. makes (whole h) refl (result_of limit (ty.ArrayOf item) (suc width) few);
}
  where
    whole : u.is_type ≡ true → Phrase (Bracketed (ty.ArrayOf item) (suc width)) Breaks (type_text (ty.ArrayOf item))
    whole h = reads (then (p.type h) (next_to left_bracket right_bracket) (λ b ok. bracket_breaks)) (sym (text-ArrayOf item)) (λ b ok. tt) (array_type item width)

of_void : TypePhrases (type_uses_step TypeName-F.Void) 0 ty.Void
of_void = record {
  base = λ h. absurd cc;
  class = λ h. absurd cc;
  array = λ h. absurd cc;
  type = λ h. absurd cc;
  result = λ limit few h. makes void_word (sym text-Void) (void_result limit);
}
  where
    void_result : (limit : ℕ) (ts : List Token) → Alone (IsKeyword "void") ts → Result limit ty.Void ts
    void_result limit _ (alone t is) = members.void is

abbrev Phrased : TypeName → Type 0
Phrased to = TypePhrases (type_uses to) (type_width to) to

of_layer : (x : TypeName-F ((to : TypeName) × Phrased to)) → Phrased (roll-TypeName (map-TypeName _ _ (λ p. p.0) x))
of_layer (TypeName-F.Prim text) = rw (ty.rolls-Prim text, uses-Prim text, width-Prim text) (of_prim text)
of_layer (TypeName-F.Named q) = rw (ty.rolls-Named q, uses-Named q, width-Named q) (of_named q)
of_layer (TypeName-F.ArrayOf item) = rw (ty.rolls-ArrayOf item.0, uses-ArrayOf item.0, width-ArrayOf item.0) (of_array item.0 _ _ item.1)
of_layer TypeName-F.Void = rw (ty.rolls-Void, uses-Void, width-Void) of_void

pub type_phrases : (to : TypeName) → TypePhrases (type_uses to) (type_width to) to
type_phrases = ind-TypeName Phrased (λ x y is. subst (λ z. Phrased (roll-TypeName z)) is (of_layer y))
