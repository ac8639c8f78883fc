-- Texts that are appended piece by piece.
use Rattle.std.proofs.Common.{◌≡◌, ℕ, zero, suc, ◌+◌, ◌<◌, ◌≤◌, List, [], ◌∷◌, ◌++◌, map, codes, length, get_or, take, refl, sym, ap, ◌∙◌, append_assoc, append-nil, add-one, drop, Result, Ok, Err, OnOk, arith}
use Rattle.std.specs.List.{flat_map}
use Rattle.std.proofs.lemmas.List.{take_more, take_all, flat_map_more}
use Rattle.jav_tree.specs.declared.expr.Expr.{Expr}
use Rattle.jav_tree.specs.declared.stmt.Stmt.{Stmt}
use Rattle.jav_tree.specs.declared.unit.Member.{Member}
use Rattle.jav_tree.specs.Lines.{line_end, indent, all_of, listed, comment_line, comment_lines}
use Rattle.jav_tree.specs.ExpressionText.{sizes_text, brackets_text}
use Rattle.jav_tree.specs.StatementText.{stmt_text, at_depth}
use Rattle.jav_tree.specs.Layout.{members_lines, member_lines, import_line}
use Rattle.jav_print.specs.Written.{text_of, texts, written}

-- # Loops that append a piece for each item

pub grown : {X : Type 0} (g : X → List ℕ) (xs : List X) (i : ℕ) (x : X) (start before after : List ℕ) → i < length xs → x ≡ get_or xs i x
    → before ≡ start ++ flat_map g (take i xs) → after ≡ before ++ g x → after ≡ start ++ flat_map g (take (i + 1) xs)
grown g xs i x start before after within is was now =
    now ∙ ap (λ t. t ++ g x) was ∙ flat_map_more g start (take i xs) x
    ∙ ap (λ ys. start ++ flat_map g ys) (ap (λ y. take i xs ++ y ∷ []) is ∙ sym (take_more xs i x within))

pub grown_all : {X : Type 0} (g : X → List ℕ) (xs : List X) (i : ℕ) (start page : List ℕ) → length xs ≤ i → page ≡ start ++ flat_map g (take i xs) → page ≡ start ++ flat_map g xs
grown_all g xs i start page past was = was ∙ ap (λ ys. start ++ flat_map g ys) (take_all i xs past)

-- # Pieces put together

pub two : {first second : List ℕ} (start a b : List ℕ) → first ≡ start ++ a → second ≡ first ++ b → second ≡ start ++ (a ++ b)
two {first} {second} start a b was now = now ∙ ap (λ t. t ++ b) was ∙ append_assoc start a b

pub on_two : {T E : Type 0} (r : Result T E) (start a b first second : List ℕ) → first ≡ start ++ a → OnOk r (second ≡ first ++ b) → OnOk r (second ≡ start ++ (a ++ b))
on_two (Ok x) start a b first second was now = two start a b was now
on_two (Err e) start a b first second was now = now

-- # Texts as pieces

pub indent_more : (n : ℕ) → indent n ++ codes "    " ≡ indent (suc n)
indent_more zero = refl
indent_more (suc n) = append_assoc (codes "    ") (indent n) (codes "    ") ∙ ap (λ t. codes "    " ++ t) (indent_more n)

pub brackets_more : (n : ℕ) → brackets_text n ++ codes "[]" ≡ brackets_text (suc n)
brackets_more zero = refl
brackets_more (suc n) = append_assoc (codes "[]") (brackets_text n) (codes "[]") ∙ ap (λ t. codes "[]" ++ t) (brackets_more n)

pub indented : (n : ℕ) (start before after : List ℕ) → before ≡ start ++ indent n → after ≡ before ++ codes "    " → after ≡ start ++ indent (n + 1)
indented n start before after was now = now ∙ ap (λ t. t ++ codes "    ") was ∙ append_assoc start (indent n) (codes "    ") ∙ ap (λ t. start ++ t) (indent_more n) ∙ ap (λ m. start ++ indent m) (sym (add-one n))

pub bracketed : (n : ℕ) (start before after : List ℕ) → before ≡ start ++ brackets_text n → after ≡ before ++ codes "[]" → after ≡ start ++ brackets_text (n + 1)
bracketed n start before after was now = now ∙ ap (λ t. t ++ codes "[]") was ∙ append_assoc start (brackets_text n) (codes "[]") ∙ ap (λ t. start ++ t) (brackets_more n) ∙ ap (λ m. start ++ brackets_text m) (sym (add-one n))

pub listed_pieces : {X : Type 0} (f : X → List ℕ) (x : X) (xs : List X) → listed (map f (x ∷ xs)) ≡ f x ++ flat_map (λ y. codes ", " ++ f y) xs
listed_pieces f x [] = sym (append-nil (f x))
listed_pieces f x (y ∷ ys) = ap (λ t. f x ++ codes ", " ++ t) (listed_pieces f y ys)
    ∙ append_assoc (f x) (codes ", ") (f y ++ flat_map (λ z. codes ", " ++ f z) ys)
    ∙ ap (λ t. f x ++ t) (sym (append_assoc (codes ", ") (f y) (flat_map (λ z. codes ", " ++ f z) ys)))

pub members_pieces : (name : List ℕ) (x : Member) (xs : List Member) → members_lines name (x ∷ xs) ≡ member_lines name x ++ flat_map (λ y. line_end ++ member_lines name y) xs
members_pieces name x [] = sym (append-nil (member_lines name x))
members_pieces name x (y ∷ ys) = ap (λ t. member_lines name x ++ line_end ++ t) (members_pieces name y ys)
    ∙ append_assoc (member_lines name x) line_end (member_lines name y ++ flat_map (λ z. line_end ++ member_lines name z) ys)
    ∙ ap (λ t. member_lines name x ++ t) (sym (append_assoc line_end (member_lines name y) (flat_map (λ z. line_end ++ member_lines name z) ys)))

-- the text of an expression by itself
abbrev pub plain_text : Expr → List ℕ
plain_text e = text_of (written e)

-- a further one in a list
abbrev pub next_text : Expr → List ℕ
next_text e = codes ", " ++ plain_text e

pub texts_written : (es : List Expr) → texts (map written es) ≡ map plain_text es
texts_written [] = refl
texts_written (e ∷ es) = ap (λ ts. plain_text e ∷ ts) (texts_written es)

abbrev pub size_text : Expr → List ℕ
size_text e = codes "[" ++ plain_text e ++ codes "]"

pub sizes_pieces : (es : List Expr) → sizes_text (texts (map written es)) ≡ flat_map size_text es
sizes_pieces [] = refl
sizes_pieces (e ∷ es) = ap (λ t. codes "[" ++ plain_text e ++ codes "]" ++ t) (sizes_pieces es)

pub comment_pieces : (n : ℕ) (comments : List (List ℕ)) → comment_lines n comments ≡ flat_map (comment_line n) comments
comment_pieces n [] = refl
comment_pieces n (comment ∷ rest) = ap (λ t. comment_line n comment ++ t) (comment_pieces n rest)

abbrev pub stmt_lines : ℕ → Stmt → List ℕ
stmt_lines n s = (stmt_text s).lines n

pub stmt_pieces : (n : ℕ) (items : List Stmt) → all_of (at_depth n (map stmt_text items)) ≡ flat_map (stmt_lines n) items
stmt_pieces n [] = refl
stmt_pieces n (s ∷ rest) = ap (λ t. stmt_lines n s ++ t) (stmt_pieces n rest)

pub import_pieces : (names : List (List ℕ)) → all_of (map import_line names) ≡ flat_map import_line names
import_pieces [] = refl
import_pieces (name ∷ rest) = ap (λ t. import_line name ++ t) (import_pieces rest)

-- # Lists whose first item is printed before the others

pub listed_all : {X : Type 0} (f : X → List ℕ) (items rest : List X) (first : X) (i : ℕ) (start one page : List ℕ) → 1 ≤ length items → rest ≡ drop 1 items → first ≡ get_or items 0 first
    → one ≡ start ++ f first → length rest ≤ i → page ≡ one ++ flat_map (λ y. codes ", " ++ f y) (take i rest) → page ≡ start ++ listed (map f items)
listed_all f [] rest first i start one page some cut is was past now = absurd (omega arith)
listed_all f (x ∷ xs) rest first i start one page some cut is was past now =
    grown_all (λ y. codes ", " ++ f y) rest i one page past now ∙ ap (λ ys. one ++ flat_map (λ y. codes ", " ++ f y) ys) cut
    ∙ ap (λ t. t ++ flat_map (λ y. codes ", " ++ f y) xs) (was ∙ ap (λ y. start ++ f y) is)
    ∙ append_assoc start (f x) (flat_map (λ y. codes ", " ++ f y) xs) ∙ ap (λ t. start ++ t) (sym (listed_pieces f x xs))

pub members_all : (name : List ℕ) (items rest : List Member) (first : Member) (i : ℕ) (start one page : List ℕ) → 1 ≤ length items → rest ≡ drop 1 items → first ≡ get_or items 0 first
    → one ≡ start ++ member_lines name first → length rest ≤ i → page ≡ one ++ flat_map (λ y. line_end ++ member_lines name y) (take i rest) → page ≡ start ++ members_lines name items
members_all name [] rest first i start one page some cut is was past now = absurd (omega arith)
members_all name (x ∷ xs) rest first i start one page some cut is was past now =
    grown_all (λ y. line_end ++ member_lines name y) rest i one page past now ∙ ap (λ ys. one ++ flat_map (λ y. line_end ++ member_lines name y) ys) cut
    ∙ ap (λ t. t ++ flat_map (λ y. line_end ++ member_lines name y) xs) (was ∙ ap (λ y. start ++ member_lines name y) is)
    ∙ append_assoc start (member_lines name x) (flat_map (λ y. line_end ++ member_lines name y) xs) ∙ ap (λ t. start ++ t) (sym (members_pieces name x xs))

-- the expressions of a list
pub trees_all : (items rest : List Expr) (first : Expr) (i : ℕ) (start one page : List ℕ) → 1 ≤ length items → rest ≡ drop 1 items → first ≡ get_or items 0 first
    → one ≡ start ++ plain_text first → length rest ≤ i → page ≡ one ++ flat_map next_text (take i rest) → page ≡ start ++ listed (texts (map written items))
trees_all items rest first i start one page some cut is was past now = listed_all plain_text items rest first i start one page some cut is was past now ∙ ap (λ ts. start ++ listed ts) (sym (texts_written items))

pub sizes_all : (items : List Expr) (i : ℕ) (start page : List ℕ) → length items ≤ i → page ≡ start ++ flat_map size_text (take i items) → page ≡ start ++ sizes_text (texts (map written items))
sizes_all items i start page past now = grown_all size_text items i start page past now ∙ ap (λ t. start ++ t) (sym (sizes_pieces items))

pub stmts_all : (n : ℕ) (items : List Stmt) (i : ℕ) (start page : List ℕ) → length items ≤ i → page ≡ start ++ flat_map (stmt_lines n) (take i items) → page ≡ start ++ all_of (at_depth n (map stmt_text items))
stmts_all n items i start page past now = grown_all (stmt_lines n) items i start page past now ∙ ap (λ t. start ++ t) (sym (stmt_pieces n items))

pub imports_all : (names : List (List ℕ)) (i : ℕ) (start page : List ℕ) → length names ≤ i → page ≡ start ++ flat_map import_line (take i names) → page ≡ start ++ all_of (map import_line names)
imports_all names i start page past now = grown_all import_line names i start page past now ∙ ap (λ t. start ++ t) (sym (import_pieces names))
