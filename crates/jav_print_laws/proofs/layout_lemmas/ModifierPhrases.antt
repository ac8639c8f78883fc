-- Modifiers and parameters as phrases.
use Rattle.std.proofs.Common.{◌≡◌, ℕ, ◌≤◌, Bool, true, false, cond, List, [], ◌∷◌, ◌++◌, map, filter, length, codes, Some, refl, sym, ap, ◌∙◌, append_assoc, arith}
use Rattle.std.specs.List.{list_all}
use Rattle.std.specs.Str.{is_utf8, chars}
use Rattle.std.proofs.lemmas.Bool.{and_parts}
use Rattle.ucd_derived.specs.Binary.{is_xid_start, is_xid_continue}
use Rattle.ucd_derived.specs.XidStartRanges.{xid_start_ranges}
use Rattle.ucd_derived.specs.XidContinueRanges.{xid_continue_ranges}
use Rattle.ucd_table.specs.Rows.{in_ranges}
use Rattle.mol_base.specs.Among.{among}
use Rattle.mol_base.specs.Token.{Token}
use Rattle.mol_base.specs.Lexical.Characters.{first_char}
use Rattle.mol_base.specs.Lexical.Names.{is_start, is_part, starts_name, goes_on, name, word_kind, is_keyword, keywords, is_word_literal, word_literals}
use Rattle.mol_base.specs.Lexical.Front.{front, is_clean, token_kind}
use Rattle.mol_base.specs.declared.token_kind.TokenKind.TheVariants as kind
use Rattle.jav_tree.specs.declared.unit.Param.{Param}
use Rattle.jav_tree.specs.Height.{tallest}
use Rattle.jav_tree.specs.Layout.{words_text, override_line, param_text, params_text}
use Rattle.jav_tree.specs.Lines.{line_end, indent, all_of, listed}
use Rattle.jav_tree.specs.Members.{Parameter, ParameterList, Parameters}
use Rattle.jav_tree.specs.Members as members
use Rattle.jav_tree.specs.PrintableExpressions.{type_uses}
use Rattle.jav_tree.specs.Printable.{is_param}
use Rattle.jav_tree.specs.Statements as statements
use Rattle.jav_tree.specs.TokenTexts.{is_name}
use Rattle.jav_tree.specs.Tokens.{IsSymbol}
use Rattle.jav_tree.specs.Types.{WholeType}
use Rattle.jav_tree.specs.TypeText.{type_text}
use Rattle.jav_tree.specs.Widths.{param_width}
use Rattle.jav_tree.specs.Words.{Words, in_order, has}
use Rattle.jav_tree.specs.Words as words
use Rattle.jav_print_laws.proofs.layout_lemmas.Bytes.{space_breaks, line_breaks, close_breaks, comma_breaks}
use Rattle.jav_print_laws.proofs.layout_lemmas.Derivations.{Made}
use Rattle.jav_print_laws.proofs.layout_lemmas.Each.{among-each}
use Rattle.jav_print_laws.proofs.layout_lemmas.ExpressionPhrases.{whole}
use Rattle.jav_print_laws.proofs.layout_lemmas.Keywords.{IsWordy, modifier_words, keyword_may, word_may}
use Rattle.jav_print_laws.proofs.layout_lemmas.LinePhrases.{indented}
use Rattle.jav_print_laws.proofs.layout_lemmas.Lists.{ForEach, list_phrase}
use Rattle.jav_print_laws.proofs.layout_lemmas.Names as names
use Rattle.jav_print_laws.proofs.layout_lemmas.OrderedModifiers.{line_words, is_line_word, stands_in, others, others_are_line_words, in_order-line, none_left_out}
use Rattle.jav_print_laws.proofs.layout_lemmas.Phrases.{Phrase, Any, Breaks, Alone, alone, Then, both, OneOf, one_of, token, makes, narrow, then, next_to, space, line}
use Rattle.jav_print_laws.proofs.layout_lemmas.Signs.{left_paren, right_paren, at_sign}

-- # Modifiers

no_words : {Is : List Token → Type 0} (ts : List Token) → Is ts → Then (Words []) Is ts
no_words ts is = both [] ts words.none is

one_word : {Is : List Token → Type 0} (w : List ℕ) (ws : List (List ℕ)) → among line_words w ≡ true → (ts : List Token) → Then (OneOf kind.Keyword w) (Then (Words ws) Is) ts → Then (Words (w ∷ ws)) Is ts
one_word _ ws known _ (both _ _ (one_of t word) (both us vs rest is)) = both (t ∷ us) vs (words.keyword word known rest) is

regroup_word : (x y z : List ℕ) → x ++ (32 ∷ (y ++ z)) ≡ x ++ codes " " ++ y ++ z
regroup_word x y z = let e : x ++ (codes " " ++ (y ++ z)) ≡ x ++ codes " " ++ y ++ z = simp append_assoc refl in e

-- modifiers with a space after each, and a phrase
pub after_words : {Is : List Token → Type 0} {May : ℕ → Type 0} {t : List ℕ} (ws : List (List ℕ)) → list_all (among line_words) ws ≡ true → Phrase Is May t
    → Phrase (Then (Words ws) Is) May (all_of (map (λ word. word ++ codes " ") ws) ++ t)
after_words [] all p = makes p refl (λ ts is. no_words ts is)
after_words {t = t} (w ∷ ws) all p =
    let parts = and_parts (among line_words w) (list_all (among line_words) ws) all in
    let known : token_kind w ≡ Some kind.Keyword = among-each IsWordy line_words w modifier_words parts.0 in
    makes (then (narrow (token kind.Keyword w known) (λ b ok. keyword_may w b ok)) (space (after_words ws parts.1 p)) (λ b ok. space_breaks)) (regroup_word w (all_of (map (λ word. word ++ codes " ") ws)) t) (λ ts is. one_word w ws parts.0 ts is)

-- the words of a class, a field or a constructor, which are in order
pub ordered_words : {Is : List Token → Type 0} {May : ℕ → Type 0} {t : List ℕ} (ws : List (List ℕ)) → in_order ws ≡ ws → list_all (among line_words) ws ≡ true → Phrase Is May t → Phrase (Then (Words ws) Is) May (words_text ws ++ t)
ordered_words {t = t} ws ordered all p =
    let e : words_text ws ≡ all_of (map (λ word. word ++ codes " ") ws) = ap (λ xs. all_of (map (λ word. word ++ codes " ") xs)) (ap (filter is_line_word) ordered ∙ none_left_out ws all) in
    rw e (after_words ws all p)

-- `@Override`
override_name : token_kind (codes "Override") ≡ Some kind.Word
unfolding token_kind is_clean is_utf8 chars front starts_name first_char is_start is_xid_start in_ranges xid_start_ranges is_part is_xid_continue xid_continue_ranges goes_on name word_kind is_keyword keywords is_word_literal word_literals lib.Utf8.encode
override_name = refl

overridden : {Is : List Token → Type 0} (ws : List (List ℕ)) (text : List ℕ) → text ≡ codes "Override" → (ts : List Token) → Then (Alone (IsSymbol "@")) (Then (OneOf kind.Word text) (Then (Words ws) Is)) ts → Then (Words (codes "@Override" ∷ ws)) Is ts
overridden ws _ same _ (both _ _ (alone s sign) (both _ _ (one_of t word) (both us vs rest is))) = both (s ∷ t ∷ us) vs (words.override sign (record { word = word }) same rest) is

-- the line `@Override`, if it stands there, an indent, the other words, and a phrase
abbrev pub headed_text : Bool → List (List ℕ) → List ℕ → List ℕ
headed_text b ws t = cond b (indent 1 ++ codes "@Override" ++ line_end) [] ++ (indent 1 ++ (all_of (map (λ word. word ++ codes " ") ws) ++ t))

headed_words : {Is : List Token → Type 0} {May : ℕ → Type 0} {t : List ℕ} (b : Bool) (ws : List (List ℕ)) → list_all (among line_words) ws ≡ true → Phrase Is May t
    → Phrase (Then (Words (cond b (codes "@Override" ∷ ws) ws)) Is) May (headed_text b ws t)
headed_words true ws all p =
    makes (indented 1 (next_to at_sign (then (narrow (token kind.Word (codes "Override") override_name) (λ b ok. word_may (codes "Override") b ok)) (line (indented 1 (after_words ws all p))) (λ b ok. line_breaks)))) refl (λ ts is. overridden ws (codes "Override") refl ts is)
headed_words false ws all p = indented 1 (after_words ws all p)

pub method_words_phrase : {Is : List Token → Type 0} {May : ℕ → Type 0} {t : List ℕ} (ws kept : List (List ℕ)) → has kept "@Override" ≡ stands_in ws (codes "@Override") → Phrase Is May t
    → Phrase (Then (Words (in_order ws)) Is) May (override_line kept ++ (indent 1 ++ (words_text ws ++ t)))
method_words_phrase {t = t} ws kept same p =
    let e : words_text ws ≡ all_of (map (λ word. word ++ codes " ") (others ws)) = ap (λ xs. all_of (map (λ word. word ++ codes " ") xs)) (in_order-line ws) in
    rw (same, e) (headed_words (stands_in ws (codes "@Override")) (others ws) (others_are_line_words ws) p)

-- # Parameters

a_parameter : (limit : ℕ) (to : _) (text : List ℕ) (ts : List Token) → Then (WholeType limit to) (OneOf kind.Word text) ts → Parameter limit (record { ty = to; name = text }) ts
a_parameter limit to _ _ (both _ _ t (one_of n word)) = members.parameter statements.no t (record { word = word })

abbrev Parametered : ℕ → ℕ → Param → List Token → Type 0
Parametered limit h p = Parameter limit p

parameter_phrases : (limit : ℕ) (ps : List Param) → tallest (map param_width ps) ≤ limit → list_all is_param ps ≡ true → ForEach (λ p. Phrase (Made (λ (x : Param). x) (Parametered limit) p) Breaks (param_text p)) ps
parameter_phrases limit [] few all = tt
parameter_phrases limit (p ∷ ps) few all =
    let parts = and_parts (is_param p) (list_all is_param ps) all in let q = and_parts (type_uses p.ty).is_type (is_name p.name) parts.0 in (
      makes (then (whole limit p.ty (omega arith) q.0) (space (names.name p.name q.1)) (λ b ok. space_breaks)) (sym (append_assoc (type_text p.ty) (codes " ") p.name))
          (λ ts d. record { height = 0; tree = p; derived = a_parameter limit p.ty p.name ts d; same = refl }),
      parameter_phrases limit ps (omega arith) parts.1,
    )

-- behind the opening parenthesis
abbrev pub OpenParameters : ℕ → List Param → List Token → Type 0
OpenParameters limit ps ts = (left : Token) → IsSymbol "(" left → Parameters limit ps (left ∷ ts)

no_parameters : (limit : ℕ) (ts : List Token) → Alone (IsSymbol ")") ts → OpenParameters limit [] ts
no_parameters limit _ (alone r right) l left = members.none left right

some_parameters : (limit : ℕ) (ps : List Param) → length ps ≤ limit → (ts : List Token) → Then (Made (map (λ (x : Param). x)) (λ h qs us. ParameterList limit qs us) (map (λ (x : Param). x) ps)) (Alone (IsSymbol ")")) ts → OpenParameters limit ps ts
some_parameters limit ps few _ (both ts _ d (alone r right)) l left =
    let e : d.tree ≡ ps = sym (map-id d.tree) ∙ d.same ∙ map-id ps in
    let list : ParameterList limit ps ts = rw e at d.derived in
    members.some left list right few
  where
    map-id : (xs : List Param) → map (λ x. x) xs ≡ xs
    map-id [] = refl
    map-id (x ∷ xs) = ap (λ ys. x ∷ ys) (map-id xs)

pub open_parameters : (limit : ℕ) (ps : List Param) → length ps ≤ limit → tallest (map param_width ps) ≤ limit → list_all is_param ps ≡ true → Phrase (OpenParameters limit ps) Any (listed (map param_text ps) ++ codes ")")
open_parameters limit [] few narrow_all all = makes right_paren refl (no_parameters limit)
open_parameters limit (p ∷ ps) few narrow_all all =
    makes (then (list_phrase (λ (x : Param). x) (Parametered limit) (λ h qs us. ParameterList limit qs us) (λ h x ts d. members.last d) (λ h k c x xs ts us d known ds. members.more d known ds) (λ (x : Param). x) param_text p ps comma_breaks
    (parameter_phrases limit (p ∷ ps) narrow_all all)) right_paren (λ b ok. close_breaks)) refl (some_parameters limit (p ∷ ps) few)

pub closed_parameters : (limit : ℕ) (ps : List Param) (ts : List Token) → Then (Alone (IsSymbol "(")) (OpenParameters limit ps) ts → Parameters limit ps ts
closed_parameters limit ps _ (both _ _ (alone l left) d) = d l left

abbrev pub parameters : (limit : ℕ) (ps : List Param) → length ps ≤ limit → tallest (map param_width ps) ≤ limit → list_all is_param ps ≡ true → Phrase (Parameters limit ps) Any (params_text ps)
parameters limit ps few narrow_all all = makes (next_to left_paren (open_parameters limit ps few narrow_all all)) refl (closed_parameters limit ps)
