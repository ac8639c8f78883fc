-- Classes as phrases.
use Rattle.std.proofs.Common.{◌≡◌, ℕ, max, ◌≤◌, true, List, [], ◌∷◌, ◌++◌, map, codes, Option, Some, None, refl, sym, ap, ◌∙◌, append_assoc, append-nil, arith}
use Rattle.std.specs.Prelude.{All}
use Rattle.std.proofs.lemmas.List.Elements.{All-head, All-tail}
use Rattle.std.proofs.lemmas.Bool.{and_parts}
use Rattle.mol_base.specs.Token.{Token}
use Rattle.mol_base.specs.declared.token_kind.TokenKind.TheVariants as kind
use Rattle.jav_tree.specs.declared.types.TypeName.{TypeName}
use Rattle.jav_tree.specs.declared.unit.ClassDecl.{ClassDecl}
use Rattle.jav_tree.specs.declared.unit.Member.{Member}
use Rattle.jav_tree.specs.Height.{tallest}
use Rattle.jav_tree.specs.Layout.{words_text, members_lines, tail_lines, parent_text, class_text}
use Rattle.jav_tree.specs.Lines.{line_end, comment_lines}
use Rattle.jav_tree.specs.Members.{Body}
use Rattle.jav_tree.specs.Members as members
use Rattle.jav_tree.specs.Places.{unplaced_member}
use Rattle.jav_tree.specs.Printable.{IsPrintableMember, IsPrintableClass, is_parent}
use Rattle.jav_tree.specs.TokenTexts.{is_name, are_comments}
use Rattle.jav_tree.specs.Tokens.{IsSymbol, IsKeyword, Comments}
use Rattle.jav_tree.specs.Tokens as tokens
use Rattle.jav_tree.specs.TypeText.{type_text}
use Rattle.jav_tree.specs.Units.{Parent}
use Rattle.jav_tree.specs.Units as units
use Rattle.jav_tree.specs.Widths.{member_width}
use Rattle.jav_tree.specs.Words.{Words}
use Rattle.jav_print_laws.proofs.layout_lemmas.Bytes.{space_breaks}
use Rattle.jav_print_laws.proofs.layout_lemmas.Derivations.{Made}
use Rattle.jav_print_laws.proofs.layout_lemmas.Keywords.{class_word, extends_word}
use Rattle.jav_print_laws.proofs.layout_lemmas.LinePhrases.{comments}
use Rattle.jav_print_laws.proofs.layout_lemmas.MemberPhrases.{plain_member, Membered, member_phrase}
use Rattle.jav_print_laws.proofs.layout_lemmas.ModifierPhrases.{ordered_words}
use Rattle.jav_print_laws.proofs.layout_lemmas.Names.{name}
use Rattle.jav_print_laws.proofs.layout_lemmas.OrderedModifiers.{class_line_words}
use Rattle.jav_print_laws.proofs.layout_lemmas.Phrases.{Phrase, Any, Nothing, nothing, Alone, alone, Then, both, OneOf, empty, makes, then, next_to, space, line}
use Rattle.jav_print_laws.proofs.layout_lemmas.Signs.{left_brace, right_brace}
use Rattle.jav_print_laws.proofs.layout_lemmas.TypePhrases.{ClassName, class_name, type_phrases}

-- # Members

abbrev pub AllMembered : ℕ → List ℕ → List Member → List Token → Type 0
AllMembered limit class ys = Made (map unplaced_member) (λ h xs ts. Body limit (Some class) h xs ts) ys

no_members : {Is : List Token → Type 0} (limit : ℕ) (class : List ℕ) (ts : List Token) → Is ts → Then (AllMembered limit class []) Is ts
no_members limit class ts is = both [] ts (record { height = 0; tree = []; derived = members.none; same = refl }) is

last_member : {Is : List Token → Type 0} (limit : ℕ) (class : List ℕ) (y : Member) (ts : List Token) → Then (Membered limit class y) Is ts → Then (AllMembered limit class (y ∷ [])) Is ts
last_member {Is} limit class y _ (both ts us d is) =
    let made : Then (AllMembered limit class (y ∷ [])) Is ((ts ++ []) ++ us) = both (ts ++ []) us (record { height = max d.height 0; tree = d.tree ∷ []; derived = members.more d.derived members.none; same = ap (λ x. x ∷ []) d.same }) is in
    rw (append-nil ts) at made

more_members : {Is : List Token → Type 0} (limit : ℕ) (class : List ℕ) (y : Member) (ys : List Member) (ts : List Token) → Then (Membered limit class y) (Then (AllMembered limit class ys) Is) ts → Then (AllMembered limit class (y ∷ ys)) Is ts
more_members {Is} limit class y ys _ (both ts _ d (both us vs ds is)) =
    let made : Then (AllMembered limit class (y ∷ ys)) Is ((ts ++ us) ++ vs) =
    both (ts ++ us) vs (record { height = max d.height ds.height; tree = d.tree ∷ ds.tree; derived = members.more d.derived ds.derived; same = (let a = d.same in let b = ds.same in cc) }) is in
    rw (append_assoc ts us vs) at made

regroup_last : (x y : List ℕ) → x ++ (10 ∷ y) ≡ x ++ line_end ++ y
regroup_last x y = let e : x ++ (line_end ++ y) ≡ x ++ line_end ++ y = sym (append_assoc x line_end y) in e

regroup_more : (x y z : List ℕ) → x ++ (10 ∷ (10 ∷ (y ++ z))) ≡ (x ++ line_end) ++ line_end ++ y ++ z
regroup_more x y z = let e : x ++ (line_end ++ (line_end ++ (y ++ z))) ≡ (x ++ line_end) ++ line_end ++ y ++ z = simp append_assoc refl in e

-- the members of a class, and a phrase
pub after_members : {Is : List Token → Type 0} {t : List ℕ} (limit : ℕ) (class : List ℕ) (ms : List Member) → is_name class ≡ true → tallest (map member_width ms) ≤ limit → All IsPrintableMember ms → Phrase Is Any t
    → Phrase (Then (AllMembered limit class (map plain_member ms)) Is) Any (members_lines class ms ++ t)
after_members limit class [] named few all p = makes p refl (λ ts is. no_members limit class ts is)
after_members {t = t} limit class (m ∷ []) named few all p =
    let q = member_phrase limit class m named (omega arith) (All-head IsPrintableMember m [] all) in
    makes (next_to q.phrase (line p)) (regroup_last q.own_text t ∙ ap (λ x. x ++ t) (sym q.lines_are)) (λ ts is. last_member limit class (plain_member m) ts is)
after_members {t = t} limit class (m ∷ n ∷ rest) named few all p =
    let q = member_phrase limit class m named (omega arith) (All-head IsPrintableMember m (n ∷ rest) all) in
    let r = after_members limit class (n ∷ rest) named (omega arith) (All-tail IsPrintableMember m (n ∷ rest) all) p in
    makes (next_to q.phrase (line (line r))) (regroup_more q.own_text (members_lines class (n ∷ rest)) t ∙ ap (λ x. x ++ line_end ++ members_lines class (n ∷ rest) ++ t) (sym q.lines_are))
    (λ ts is. more_members limit class (plain_member m) (map plain_member (n ∷ rest)) ts is)

-- # The end of a class

last_line : (ts : List Token) → Then (Alone (IsSymbol "}")) Nothing ts → Alone (IsSymbol "}") ts
last_line _ (both _ _ (alone r right) nothing) = alone r right

brace_line : Phrase (Alone (IsSymbol "}")) Any (codes "}" ++ line_end)
brace_line = makes (next_to right_brace (line empty)) refl last_line

no_tail : (ts : List Token) → Alone (IsSymbol "}") ts → Then (Comments []) (Alone (IsSymbol "}")) ts
no_tail ts is = both [] ts tokens.none is

closing : (ms : List Member) (tail : List (List ℕ)) → are_comments tail ≡ true → Phrase (Then (Comments tail) (Alone (IsSymbol "}"))) Any (tail_lines ms tail ++ (codes "}" ++ line_end))
closing [] [] all = makes brace_line refl no_tail
closing (m ∷ ms) [] all = makes brace_line refl no_tail
closing [] (c ∷ cs) all = next_to (comments 1 (c ∷ cs) all) brace_line
closing (m ∷ ms) (c ∷ cs) all = line (next_to (comments 1 (c ∷ cs) all) brace_line)

-- # What a class extends

-- behind the space that stands behind the name
abbrev parent_rest : Option TypeName → List ℕ
parent_rest None = []
parent_rest (Some to) = codes "extends " ++ (type_text to ++ codes " ")

no_parent : {Is : List Token → Type 0} (ts : List Token) → Is ts → Then (Parent None) Is ts
no_parent ts is = both [] ts units.none is

some_parent : {Is : List Token → Type 0} (to : TypeName) (ts : List Token) → Then (Alone (IsKeyword "extends")) (Then (ClassName to) Is) ts → Then (Parent (Some to)) Is ts
some_parent _ _ (both _ _ (alone w word) (both ts us (class_name q) is)) = both (w ∷ ts) us (units.extends word q) is

regroup_parent : (x y : List ℕ) → codes "extends" ++ (32 ∷ (x ++ (32 ∷ y))) ≡ codes "extends " ++ (x ++ codes " ") ++ y
regroup_parent x y = let e : codes "extends " ++ (x ++ (codes " " ++ y)) ≡ codes "extends " ++ (x ++ codes " ") ++ y = simp append_assoc refl in e

after_parent : {Is : List Token → Type 0} {t : List ℕ} (parent : Option TypeName) → is_parent parent ≡ true → Phrase Is Any t → Phrase (Then (Parent parent) Is) Any (parent_rest parent ++ t)
after_parent None known p = makes p refl (λ ts is. no_parent ts is)
after_parent {t = t} (Some to) known p = makes (then extends_word (space (then ((type_phrases to).class known) (space p) (λ n ok. space_breaks))) (λ n ok. space_breaks)) (regroup_parent (type_text to) t) (λ ts is. some_parent to ts is)

parent_text-is : (parent : Option TypeName) → 32 ∷ (parent_rest parent ++ codes "{") ≡ parent_text parent ++ codes " {"
parent_text-is None = refl
parent_text-is (Some to) = let e : codes " extends " ++ (type_text to ++ codes " ") ++ codes "{" ≡ codes " extends " ++ type_text to ++ codes " {" = simp append_assoc refl in e

-- # A class from its modifiers on

abbrev pub ClassTokens : ℕ → ClassDecl → List Token → Type 0
ClassTokens limit c = Then (Words c.words) (Then (Alone (IsKeyword "class")) (Then (OneOf kind.Word c.name) (Then (Parent c.parent) (Then (Alone (IsSymbol "{")) (Then (AllMembered limit c.name (map plain_member c.members)) (Then (Comments c.tail) (Alone (IsSymbol "}"))))))))

-- the text of a class from its modifiers on
abbrev pub class_own_text : ClassDecl → List ℕ
class_own_text c = words_text c.words ++ (codes "class " ++ (c.name ++ (parent_text c.parent ++ codes " {" ++ (line_end ++ (members_lines c.name c.members ++ (tail_lines c.members c.tail ++ (codes "}" ++ line_end)))))))

pub class_text-is : (c : ClassDecl) → comment_lines 0 c.front ++ class_own_text c ≡ class_text c
class_text-is c = by (comment_lines 0 c.front) (words_text c.words) c.name (parent_text c.parent) (members_lines c.name c.members) (tail_lines c.members c.tail) where
  by : (f w n p m t : List ℕ) → f ++ (w ++ (codes "class " ++ (n ++ (p ++ codes " {" ++ (line_end ++ (m ++ (t ++ (codes "}" ++ line_end)))))))) ≡ f ++ w ++ codes "class " ++ n ++ p ++ codes " {" ++ line_end ++ m ++ t ++ codes "}" ++ line_end
  by f w n p m t = simp append_assoc refl

regroup_class : (n p m : List ℕ) → n ++ (32 ∷ (p ++ (codes "{" ++ (10 ∷ m)))) ≡ n ++ (32 ∷ (p ++ codes "{") ++ (10 ∷ m))
regroup_class n p m = ap (λ x. n ++ (32 ∷ x)) (sym (append_assoc p (codes "{") (10 ∷ m)))

pub class_phrase : (limit : ℕ) (c : ClassDecl) → tallest (map member_width c.members) ≤ limit → IsPrintableClass c → Phrase (ClassTokens limit c) Any (class_own_text c)
class_phrase limit c few is =
    let noted = and_parts (are_comments c.front) (are_comments c.tail) is.comments in
    let inner = after_members limit c.name c.members is.named few is.members (closing c.members c.tail noted.1) in
    let rest = members_lines c.name c.members ++ (tail_lines c.members c.tail ++ (codes "}" ++ line_end)) in
    let text = regroup_class c.name (parent_rest c.parent) rest ∙ ap (λ x. c.name ++ (x ++ (10 ∷ rest))) (parent_text-is c.parent) in
    let headed = makes (then (name c.name is.named) (space (after_parent c.parent is.parent (next_to left_brace (line inner)))) (λ n ok. space_breaks)) text (λ ts x. x) in
    ordered_words c.words is.ordered (class_line_words c.words is.allowed.known) (then class_word (space headed) (λ n ok. space_breaks))
