-- Source files as phrases.
use Rattle.std.proofs.Common.{◌≡◌, ℕ, ◌≤◌, true, List, [], ◌∷◌, ◌++◌, map, codes, refl, sym, ap, ◌∙◌, append_assoc, append-nil, arith}
use Rattle.std.specs.List.{list_all}
use Rattle.std.specs.List.Sorted.{IsSorted}
use Rattle.std.specs.Cmp.Lexicographic.{slice_cmp}
use Rattle.std.specs.Ordering.{nat_cmp}
use Rattle.std.proofs.lemmas.Bool.{and_parts}
use Rattle.std.proofs.lemmas.List.Sorted.{IsPermutation-refl}
use Rattle.mol_base.specs.Token.{Token}
use Rattle.jav_tree.specs.declared.unit.Member.{Member}
use Rattle.jav_tree.specs.declared.unit.Unit.{Unit as Source}
use Rattle.jav_tree.specs.Layout.{import_line, class_text, unit_text}
use Rattle.jav_tree.specs.Lines.{line_end, all_of, comment_lines}
use Rattle.jav_tree.specs.Places.{unplaced_member, unplaced_unit}
use Rattle.jav_tree.specs.Printable.{IsPrintable}
use Rattle.jav_tree.specs.TokenTexts.{is_dotted_name, are_comments}
use Rattle.jav_tree.specs.Tokens.{IsSymbol, IsKeyword, Comments}
use Rattle.jav_tree.specs.Tokens as tokens
use Rattle.jav_tree.specs.Types.{Qualified}
use Rattle.jav_tree.specs.Units.{Imports, AscendingOf, SourceFile}
use Rattle.jav_tree.specs.Units as units
use Rattle.jav_tree.specs.Widths.{unit_width}
use Rattle.jav_tree.specs.WithParens.{member_with_parens, unit_with_parens}
use Rattle.jav_tree.specs.Words.{ClassWords, in_order}
use Rattle.jav_print_laws.proofs.layout_lemmas.Bytes.{space_breaks, semi_breaks}
use Rattle.jav_print_laws.proofs.layout_lemmas.ClassPhrases.{ClassTokens, class_text-is, class_phrase}
use Rattle.jav_print_laws.proofs.layout_lemmas.Derivations.{Made}
use Rattle.jav_print_laws.proofs.layout_lemmas.Keywords.{package_word, import_word}
use Rattle.jav_print_laws.proofs.layout_lemmas.LinePhrases.{comments}
use Rattle.jav_print_laws.proofs.layout_lemmas.MemberPhrases.{plain_member}
use Rattle.jav_print_laws.proofs.layout_lemmas.Names.{qualified}
use Rattle.jav_print_laws.proofs.layout_lemmas.Phrases.{Phrase, Any, Alone, alone, Then, both, one_of, makes, then, next_to, space, line}
use Rattle.jav_print_laws.proofs.layout_lemmas.Signs.{semicolon}

-- # Imports

last_import : {Is : List Token → Type 0} (q : List ℕ) (front : List (List ℕ)) (ts : List Token) → Then (Alone (IsKeyword "import")) (Then (Qualified q) (Then (Alone (IsSymbol ";")) (Then (Comments front) Is))) ts → Then (Imports (q ∷ []) front) Is ts
last_import {Is} q front _ (both _ _ (alone w word) (both ts _ x (both _ _ (alone s semi) (both us vs c is)))) =
    let imported : Imports (q ∷ []) (front ++ []) (w ∷ (ts ++ s ∷ []) ++ (us ++ [])) = units.import word (units.named x semi) c units.none in
    let made : Then (Imports (q ∷ []) (front ++ [])) Is ((w ∷ (ts ++ s ∷ []) ++ (us ++ [])) ++ vs) = both (w ∷ (ts ++ s ∷ []) ++ (us ++ [])) vs imported is in
    let e : (w ∷ (ts ++ s ∷ []) ++ (us ++ [])) ++ vs ≡ w ∷ (ts ++ (s ∷ (us ++ vs))) = simp (append_assoc, append-nil) refl in
    rw (append-nil front, e) at made

more_imports : {Is : List Token → Type 0} (q : List ℕ) (rest front : List (List ℕ)) (ts : List Token) → Then (Alone (IsKeyword "import")) (Then (Qualified q) (Then (Alone (IsSymbol ";")) (Then (Imports rest front) Is))) ts → Then (Imports (q ∷ rest) front) Is ts
more_imports {Is} q rest front _ (both _ _ (alone w word) (both ts _ x (both _ _ (alone s semi) (both us vs c is)))) =
    let imported : Imports (q ∷ rest) front (w ∷ (ts ++ s ∷ []) ++ us) = units.import word (units.named x semi) tokens.none c in
    let made : Then (Imports (q ∷ rest) front) Is ((w ∷ (ts ++ s ∷ []) ++ us) ++ vs) = both (w ∷ (ts ++ s ∷ []) ++ us) vs imported is in
    let e : (w ∷ (ts ++ s ∷ []) ++ us) ++ vs ≡ w ∷ (ts ++ (s ∷ (us ++ vs))) = simp append_assoc refl in
    rw e at made

regroup_import : (x y : List ℕ) → codes "import " ++ (x ++ (codes ";" ++ (10 ∷ y))) ≡ codes "import " ++ x ++ codes ";" ++ line_end ++ y
regroup_import x y = let e : codes "import " ++ (x ++ (codes ";" ++ (line_end ++ y))) ≡ codes "import " ++ x ++ codes ";" ++ line_end ++ y = simp append_assoc refl in e

-- imports, an empty line, comments, and a phrase
after_imports : {Is : List Token → Type 0} {t : List ℕ} (q : List ℕ) (rest front : List (List ℕ)) → list_all is_dotted_name (q ∷ rest) ≡ true → are_comments front ≡ true → Phrase Is Any t
    → Phrase (Then (Imports (q ∷ rest) front) Is) Any (all_of (map import_line (q ∷ rest)) ++ (line_end ++ (comment_lines 0 front ++ t)))
after_imports {t = t} q [] front all noted p =
    let parts = and_parts (is_dotted_name q) (list_all is_dotted_name []) all in
    let e : import_line q ++ (line_end ++ (comment_lines 0 front ++ t)) ≡ all_of (import_line q ∷ []) ++ (line_end ++ (comment_lines 0 front ++ t)) = ap (λ x. x ++ (line_end ++ (comment_lines 0 front ++ t))) (sym (append-nil (import_line q))) in
    makes (then import_word (space (then (qualified q parts.0) (next_to semicolon (line (line (next_to (comments 0 front noted) p)))) (λ n ok. semi_breaks))) (λ n ok. space_breaks))
    (regroup_import q (line_end ++ (comment_lines 0 front ++ t)) ∙ e) (λ ts is. last_import q front ts is)
after_imports {t = t} q (n ∷ rest) front all noted p =
    let parts = and_parts (is_dotted_name q) (list_all is_dotted_name (n ∷ rest)) all in
    let more = all_of (map import_line (n ∷ rest)) in let after = line_end ++ (comment_lines 0 front ++ t) in
    makes (then import_word (space (then (qualified q parts.0) (next_to semicolon (line (after_imports n rest front parts.1 noted p))) (λ n ok. semi_breaks))) (λ n ok. space_breaks))
    (regroup_import q (more ++ after) ∙ sym (append_assoc (import_line q) more after)) (λ ts is. more_imports q (n ∷ rest) front ts is)

-- # Source files

abbrev pub plain_unit : Source → Source
plain_unit u = unplaced_unit (unit_with_parens u)

abbrev pub Sourced : ℕ → Source → List Token → Type 0
Sourced limit u = Made unplaced_unit (SourceFile limit) (plain_unit u)

abbrev Packaged : List (List ℕ) → List ℕ → (List Token → Type 0) → List Token → Type 0
Packaged head q Is = Then (Comments head) (Then (Alone (IsKeyword "package")) (Then (Qualified q) (Then (Alone (IsSymbol ";")) Is)))

together_members : (ms : List Member) → map unplaced_member (map member_with_parens ms) ≡ map plain_member ms
together_members [] = refl
together_members (m ∷ ms) = ap (λ ys. plain_member m ∷ ys) (together_members ms)

-- a source file of these parts
abbrev unit_of : Source → List (List ℕ) → List (List ℕ) → List Member → List (List ℕ) → Source
unit_of u front words members tail = record { head = u.head; «package» = u.«package»; imports = u.imports; class = record { front = front; words = words; name = u.class.name; parent = u.class.parent; members = members; tail = tail } }

same_unit : (u : Source) (front words tail : List (List ℕ)) (members : List Member) → front ≡ u.class.front → words ≡ u.class.words → tail ≡ u.class.tail → map unplaced_member members ≡ map plain_member u.class.members
    → unplaced_unit (unit_of u front words members tail) ≡ plain_unit u
same_unit u front words tail members e f g same =
    ap (λ x. unit_of u x words (map unplaced_member members) tail) e ∙ ap (λ x. unit_of u u.class.front x (map unplaced_member members) tail) f
    ∙ ap (λ x. unit_of u u.class.front u.class.words (map unplaced_member members) x) g ∙ ap (λ x. unit_of u u.class.front u.class.words x u.class.tail) (same ∙ sym (together_members u.class.members))

-- without imports the comments after the package are those of the class
without_imports : (limit : ℕ) (u : Source) → ClassWords u.class.words → in_order u.class.words ≡ u.class.words → (ts : List Token)
    → Packaged u.head u.«package» (Then (Comments u.class.front) (ClassTokens limit u.class)) ts → Sourced limit (record u { imports = [] }) ts
without_imports limit u allowed ordered ts d = by u.class.name ts d where
  by : (text : List ℕ) (ts : List Token) → Packaged u.head u.«package» (Then (Comments u.class.front) (ClassTokens limit (record u.class { name = text }))) ts → Sourced limit (record u { imports = []; class = record u.class { name = text } }) ts
  by _ _ (both cs _ c (both _ _ (alone p packaged) (both qs _ q (both _ _ (alone s semi) (both fs _ f (both ws _ w (both _ _ (alone k class) (both _ _ (one_of n word) (both es _ e (both _ _ (alone l left) (both ms _ m (both ts _ t (alone r right))))))))))))) =
      let rest = fs ++ (ws ++ (k ∷ n ∷ es ++ (l ∷ ms ++ (ts ++ r ∷ [])))) in
      let v : Source = record u { imports = []; class = record u.class { name = n.text } } in
      let made : SourceFile limit m.height (unit_of v (u.class.front ++ []) (in_order u.class.words) m.tree (u.class.tail ++ [])) (cs ++ (p ∷ (qs ++ s ∷ []) ++ rest)) =
      units.source c packaged (units.named q semi) f units.none (record { same_names = IsPermutation-refl []; ascending = λ i d low high. absurd (omega arith) }) w allowed class (record { word = word }) e left m.derived t right tokens.none in
      record {
        height = m.height;
        tree = unit_of v (u.class.front ++ []) (in_order u.class.words) m.tree (u.class.tail ++ []);
        derived = rw (append_assoc qs (s ∷ []) rest) at made;
        same = same_unit v (u.class.front ++ []) (in_order u.class.words) (u.class.tail ++ []) m.tree (append-nil u.class.front) ordered (append-nil u.class.tail) m.same;
      }

-- with imports they are those after the last import
with_imports : (limit : ℕ) (u : Source) → ClassWords u.class.words → in_order u.class.words ≡ u.class.words → IsSorted (slice_cmp nat_cmp) u.imports → (ts : List Token)
    → Packaged u.head u.«package» (Then (Imports u.imports u.class.front) (ClassTokens limit u.class)) ts → Sourced limit u ts
with_imports limit u allowed ordered sorted ts d = by u.class.name ts d where
  by : (text : List ℕ) (ts : List Token) → Packaged u.head u.«package» (Then (Imports u.imports u.class.front) (ClassTokens limit (record u.class { name = text }))) ts → Sourced limit (record u { class = record u.class { name = text } }) ts
  by _ _ (both cs _ c (both _ _ (alone p packaged) (both qs _ q (both _ _ (alone s semi) (both is _ i (both ws _ w (both _ _ (alone k class) (both _ _ (one_of n word) (both es _ e (both _ _ (alone l left) (both ms _ m (both ts _ t (alone r right))))))))))))) =
      let rest = is ++ (ws ++ (k ∷ n ∷ es ++ (l ∷ ms ++ (ts ++ r ∷ [])))) in
      let v : Source = record u { class = record u.class { name = n.text } } in
      let made : SourceFile limit m.height (unit_of v u.class.front (in_order u.class.words) m.tree (u.class.tail ++ [])) (cs ++ (p ∷ (qs ++ s ∷ []) ++ rest)) =
      units.source c packaged (units.named q semi) tokens.none i (record { same_names = IsPermutation-refl u.imports; ascending = sorted }) w allowed class (record { word = word }) e left m.derived t right tokens.none in
      record {
        height = m.height;
        tree = unit_of v u.class.front (in_order u.class.words) m.tree (u.class.tail ++ []);
        derived = rw (append_assoc qs (s ∷ []) rest) at made;
        same = same_unit v u.class.front (in_order u.class.words) (u.class.tail ++ []) m.tree refl ordered (append-nil u.class.tail) m.same;
      }

regroup_package : (h q x : List ℕ) → h ++ (codes "package " ++ (q ++ (codes ";" ++ (10 ∷ (10 ∷ x))))) ≡ h ++ codes "package " ++ q ++ codes ";" ++ line_end ++ line_end ++ x
regroup_package h q x = let e : h ++ (codes "package " ++ (q ++ (codes ";" ++ (line_end ++ (line_end ++ x))))) ≡ h ++ codes "package " ++ q ++ codes ";" ++ line_end ++ line_end ++ x = simp append_assoc refl in e

-- comments, the package, an empty line, and a phrase
packaged : {Is : List Token → Type 0} {t : List ℕ} (head : List (List ℕ)) (q : List ℕ) → are_comments head ≡ true → is_dotted_name q ≡ true → Phrase Is Any t
    → Phrase (Packaged head q Is) Any (comment_lines 0 head ++ codes "package " ++ q ++ codes ";" ++ line_end ++ line_end ++ t)
packaged {t = t} head q noted known p =
    makes (next_to (comments 0 head noted) (then package_word (space (then (qualified q known) (next_to semicolon (line (line p))) (λ n ok. semi_breaks))) (λ n ok. space_breaks))) (regroup_package (comment_lines 0 head) q t) (λ ts x. x)

unit_of_imports : (limit : ℕ) (u : Source) (imports : List (List ℕ)) → unit_width u ≤ limit → IsPrintable (record u { imports = imports }) → Phrase (Sourced limit (record u { imports = imports })) Any (unit_text (record u { imports = imports }))
unit_of_imports limit u [] few is =
    let c = u.class in
    let noted = and_parts (are_comments c.front) (are_comments c.tail) is.class.comments in
    let p = packaged u.head u.«package» is.comments is.packaged (next_to (comments 0 c.front noted.0) (class_phrase limit c few is.class)) in
    makes p (ap (λ x. comment_lines 0 u.head ++ codes "package " ++ u.«package» ++ codes ";" ++ line_end ++ line_end ++ x) (class_text-is c) ∙ no_lines (comment_lines 0 u.head ++ codes "package " ++ u.«package» ++ codes ";" ++ line_end ++ line_end) (class_text c))
    (without_imports limit u is.class.allowed is.class.ordered)
  where
    no_lines : (x y : List ℕ) → x ++ y ≡ x ++ [] ++ y
    no_lines x y = ap (λ z. z ++ y) (sym (append-nil x))
unit_of_imports limit u (q ∷ rest) few is =
    let c = u.class in
    let noted = and_parts (are_comments c.front) (are_comments c.tail) is.class.comments in
    let p = packaged u.head u.«package» is.comments is.packaged (after_imports q rest c.front is.imports noted.0 (class_phrase limit c few is.class)) in
    makes p (ap (λ x. comment_lines 0 u.head ++ codes "package " ++ u.«package» ++ codes ";" ++ line_end ++ line_end ++ (all_of (map import_line (q ∷ rest)) ++ (line_end ++ x))) (class_text-is c)
    ∙ lines (comment_lines 0 u.head ++ codes "package " ++ u.«package» ++ codes ";" ++ line_end ++ line_end) (all_of (map import_line (q ∷ rest))) (class_text c))
    (with_imports limit (record u { imports = q ∷ rest }) is.class.allowed is.class.ordered is.ascending)
  where
    lines : (x y z : List ℕ) → x ++ (y ++ (line_end ++ z)) ≡ x ++ (y ++ line_end) ++ z
    lines x y z = simp append_assoc refl

pub unit_phrase : (limit : ℕ) (u : Source) → unit_width u ≤ limit → IsPrintable u → Phrase (Sourced limit u) Any (unit_text u)
unit_phrase limit u few is = unit_of_imports limit u u.imports few is
