-- Names, literals and comments of the grammar, as what is printable tests them.
use Rattle.std.proofs.Common.{◌≡◌, ◌⊎◌, inl, inr, ℕ, ◌<◌, ◌≤◌, ◌+◌, Bool, true, false, List, [], ◌∷◌, ◌++◌, length, codes, get_or, cond, nat_eq, Some, refl, sym, ap, ◌∙◌, arith, append_assoc}
use Rattle.std.specs.Prelude.{All, IsTrue}
use Rattle.std.specs.List.{list_all, slice_split, onto_first}
use Rattle.std.specs.Str.{NonePass, chars}
use Rattle.std.proofs.lemmas.Bool.{and_from, cases_Bool, cases_lt, eqb-true, ne_eqb, true≢false}
use Rattle.std.proofs.lemmas.List.Elements.{All-head, All-tail, All-from_get_or}
use Rattle.std.proofs.lemmas.List.Folds.{list_all-append}
use Rattle.std.proofs.lemmas.List.Splits.{slice_split-cons_yes, slice_split_none, length-slice_split}
use Rattle.std.proofs.lemmas.Str.{NoCharPasses-byte, encodes-chars}
use Rattle.ucd_derived.specs.Binary.{is_xid_start, is_xid_continue}
use Rattle.ucd_derived.specs.XidStartRanges.{xid_start_ranges}
use Rattle.ucd_derived.specs.XidContinueRanges.{xid_continue_ranges}
use Rattle.ucd_table.specs.Rows.{in_ranges}
use Rattle.mol_base.specs.Token.{Token}
use Rattle.mol_base.specs.Lexical.Front.{token_kind}
use Rattle.mol_base.specs.Lexical.Forms.Name.{IsWord}
use Rattle.mol_base.specs.Lexical.Names.{is_start, is_part}
use Rattle.mol_base.specs.Lexical.Tokens.{IsOneToken}
use Rattle.mol_base.specs.declared.token_kind.TokenKind.TheVariants as kind
use Rattle.mol_base.proofs.OneToken.{token_kind-is, token_kind-IsOneToken}
use Rattle.mol_base.proofs.Words.{is_part-start}
use Rattle.jav_tree.specs.Tokens.{IsName, IsLiteral, IsComment, Comments}
use Rattle.jav_tree.specs.Tokens as tokens
use Rattle.jav_tree.specs.TokenTexts.{is_word_kind, is_literal_kind, is_comment_kind, is_name, is_literal, are_comments, is_dotted_name}
use Rattle.jav_tree.specs.Types.{Qualified}
use Rattle.jav_tree.specs.Types as types
use Rattle.jav_print_laws.specs.printable.GrammarTrees.{AreOneTokens}

-- # Tokens

-- the kind of a token is that of its text
abbrev pub Kept : Token → Type 0
Kept t = token_kind t.text ≡ Some t.kind

abbrev pub Known : List Token → Type 0
Known [] = Unit {0}
Known (t ∷ ts) = Kept t × Known ts

pub known : (ts : List Token) → AreOneTokens ts → Known ts
known [] are = tt
known (t ∷ ts) are =
    let P : Token → Type 0 = λ token. IsOneToken token.kind token.text in
    (token_kind-IsOneToken t.kind t.text (All-head P t ts are), known ts (All-tail P t ts are))

pub split : (ts us : List Token) → Known (ts ++ us) → Known ts × Known us
split [] us k = (tt, k)
split (t ∷ ts) us k = let rest = split ts us k.1 in ((k.0, rest.0), rest.1)

pub name_is : (t : Token) → IsName t → Kept t → is_name t.text ≡ true
name_is t is k = ap is_word_kind (k ∙ ap Some is.word)

pub literal_is : (t : Token) → IsLiteral t → Kept t → is_literal t.text ≡ true
literal_is t is k = ap is_literal_kind (k ∙ ap Some is.literal)

pub comments_are : {texts : List (List ℕ)} {ts : List Token} → Comments texts ts → Known ts → are_comments texts ≡ true
comments_are tokens.none k = refl
comments_are (tokens.comment {t} {texts} is rest) k = and_from _ (are_comments texts) (ap is_comment_kind (k.0 ∙ ap Some is.comment)) (comments_are rest k.1)

-- comments after others are comments
pub more_comments : (xs ys : List (List ℕ)) → are_comments xs ≡ true → are_comments ys ≡ true → are_comments (xs ++ ys) ≡ true
more_comments xs ys first rest = list_all-append (λ text. is_comment_kind (token_kind text)) xs ys ∙ and_from _ _ first rest

-- # No dot stands in an identifier

abbrev is_dot : ℕ → Bool
is_dot b = nat_eq b 46

dot_no_part : is_part 46 ≡ false
unfolding is_part is_start is_xid_start in_ranges xid_start_ranges is_xid_continue xid_continue_ranges
dot_no_part = refl

part_no_dot : (c : ℕ) → is_part c ≡ true → is_dot c ≡ false
part_no_dot c part = by (cases_Bool (is_dot c)) where
  by : ((is_dot c ≡ true) ⊎ (is_dot c ≡ false)) → is_dot c ≡ false
  by (inr differs) = differs
  by (inl dot) = let same : c ≡ 46 = eqb-true c 46 dot in let part' : is_part 46 ≡ true = rw same at part in absurd (true≢false (sym part' ∙ dot_no_part))

parts_no_dot : (cs : List ℕ) → All (λ c. IsTrue (is_part c)) cs → NonePass is_dot cs
parts_no_dot [] all = tt
parts_no_dot (c ∷ cs) all = let P : ℕ → Type 0 = λ x. IsTrue (is_part x) in (part_no_dot c (All-head P c cs all), parts_no_dot cs (All-tail P c cs all))

word_no_dot : (text : List ℕ) → IsWord text → All (λ b. is_dot b ≡ false) text
word_no_dot text is = All-from_get_or (λ b. is_dot b ≡ false) text 0 (λ i inside. by_byte i inside (cases_lt (get_or text i 0) 128)) where
  none : NonePass is_dot (chars text)
  none = let name = is.identifier.name in rw name.characters (part_no_dot name.first (is_part-start name.first name.starts), parts_no_dot name.others name.goes_on)

  by_byte : (i : ℕ) → i < length text → ((get_or text i 0 < 128) ⊎ (128 ≤ get_or text i 0)) → is_dot (get_or text i 0) ≡ false
  by_byte i inside (inl low) = NoCharPasses-byte is_dot text i (chars text, encodes-chars text is.identifier.name.utf8, none) inside low
  by_byte i inside (inr high) = ne_eqb (get_or text i 0) 46 (λ same. omega arith)

name_no_dot : (t : Token) → IsName t → Kept t → All (λ b. is_dot b ≡ false) t.text
name_no_dot t is k = word_no_dot t.text ((token_kind-is kind.Word t.text).0 (k ∙ ap Some is.word)).token

-- # Names with dots

onto-append : (x : ℕ) (parts more : List (List ℕ)) (n : ℕ) → length parts ≡ n + 1 → onto_first x (parts ++ more) ≡ onto_first x parts ++ more
onto-append x [] more n some = absurd (omega arith)
onto-append x (part ∷ parts) more n some = refl

split-append : (xs : List ℕ) (y : ℕ) (ys : List ℕ) → is_dot y ≡ true → slice_split is_dot (xs ++ y ∷ ys) ≡ slice_split is_dot xs ++ slice_split is_dot ys
split-append [] y ys dot = slice_split-cons_yes is_dot y ys dot
split-append (x ∷ xs) y ys dot = by (is_dot x) (split-append xs y ys dot) where
  by : (b : Bool) → slice_split is_dot (xs ++ y ∷ ys) ≡ slice_split is_dot xs ++ slice_split is_dot ys
      → cond b ([] ∷ slice_split is_dot (xs ++ y ∷ ys)) (onto_first x (slice_split is_dot (xs ++ y ∷ ys))) ≡ cond b ([] ∷ slice_split is_dot xs) (onto_first x (slice_split is_dot xs)) ++ slice_split is_dot ys
  by true rest = ap (λ parts. [] ∷ parts) rest
  by false rest = ap (onto_first x) rest ∙ onto-append x (slice_split is_dot xs) (slice_split is_dot ys) _ (length-slice_split is_dot xs)

one_part : (t : Token) → IsName t → Kept t → is_dotted_name t.text ≡ true
one_part t is k = ap (list_all is_name) (slice_split_none is_dot t.text (name_no_dot t is k)) ∙ and_from (is_name t.text) true (name_is t is k) refl

pub dotted_is : {q : List ℕ} {ts : List Token} → Qualified q ts → Known ts → is_dotted_name q ≡ true
dotted_is (types.name {t} is) k = one_part t is k.0
dotted_is (types.dotted {dot} {t} {q} {ts} d _ is) k =
    let parts = split ts (dot ∷ t ∷ []) k in
    ap is_dotted_name (append_assoc q (codes ".") t.text)
    ∙ ap (list_all is_name) (split-append q 46 t.text refl)
    ∙ list_all-append is_name (slice_split is_dot q) (slice_split is_dot t.text)
    ∙ and_from (is_dotted_name q) (is_dotted_name t.text) (dotted_is d parts.0) (one_part t is parts.1.1.0)
