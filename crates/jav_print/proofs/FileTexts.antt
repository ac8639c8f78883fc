-- The texts of a class and of a file, piece by piece.
use Rattle.std.proofs.Common.{◌≡◌, ℕ, List, ◌++◌, codes, Option, false, ap, sym, ◌∙◌, append_assoc}
use Rattle.jav_tree.specs.declared.unit.ClassDecl.{ClassDecl}
use Rattle.jav_tree.specs.declared.types.TypeName.{TypeName}
use Rattle.jav_tree.specs.declared.unit.Member.{Member}
use Rattle.jav_tree.specs.declared.unit.Unit.{Unit as Source}
use Rattle.jav_tree.specs.Lines.{line_end, comment_lines}
use Rattle.jav_tree.specs.Layout.{words_text, parent_text, members_lines, tail_lines, class_text, import_lines, unit_text}
use Rattle.jav_print.specs.Modifiers.{with_kept, class_header}

-- a piece that was appended after another
joined : (start front piece : List ℕ) {before after : List ℕ} → before ≡ start ++ front → after ≡ before ++ piece → after ≡ start ++ (front ++ piece)
joined start front piece e f = f ∙ ap (λ t. t ++ piece) e ∙ append_assoc start front piece

abbrev header_text : List (List ℕ) → List (List ℕ) → List ℕ → Option TypeName → List ℕ
header_text front words name parent = comment_lines 0 front ++ words_text words ++ codes "class " ++ name ++ parent_text parent ++ codes " {" ++ line_end

pub header_done : (class : ClassDecl) (front words : List (List ℕ)) (name : List ℕ) (s0 s1 s2 s3 s4 s5 s6 : List ℕ)
    → front ≡ class.front → words ≡ class.words → name ≡ class.name
    → s1 ≡ s0 ++ comment_lines 0 front → s2 ≡ s1 ++ words_text (with_kept false false words) → s3 ≡ s2 ++ codes "class " → s4 ≡ s3 ++ name
    → s5 ≡ s4 ++ parent_text class.parent → s6 ≡ s5 ++ codes " {\n" → s6 ≡ s0 ++ class_header class
header_done class front words name s0 s1 s2 s3 s4 s5 s6 f w n e1 e2 e3 e4 e5 e6 =
    let j2 = joined s0 (comment_lines 0 front) (words_text words) e1 e2 in
    let j3 = joined s0 (comment_lines 0 front ++ words_text words) (codes "class ") j2 e3 in
    let j4 = joined s0 (comment_lines 0 front ++ words_text words ++ codes "class ") name j3 e4 in
    let j5 = joined s0 (comment_lines 0 front ++ words_text words ++ codes "class " ++ name) (parent_text class.parent) j4 e5 in
    let j6 = joined s0 (comment_lines 0 front ++ words_text words ++ codes "class " ++ name ++ parent_text class.parent) (codes " {" ++ line_end) j5 e6 in
    j6 ∙ ap (λ t. s0 ++ t) (sym (append_assoc (comment_lines 0 front ++ words_text words ++ codes "class " ++ name ++ parent_text class.parent) (codes " {") line_end)
    ∙ ap (λ x. header_text x words name class.parent) f ∙ ap (λ x. header_text class.front x name class.parent) w ∙ ap (λ x. header_text class.front class.words x class.parent) n)

abbrev class_pieces : ClassDecl → List Member → List Member → List (List ℕ) → List ℕ
class_pieces class members others tail = class_header class ++ members_lines class.name members ++ tail_lines others tail ++ codes "}" ++ line_end

pub class_done : (class : ClassDecl) (members others : List Member) (tail : List (List ℕ)) (s0 s1 s2 s3 s4 : List ℕ)
    → members ≡ class.members → others ≡ class.members → tail ≡ class.tail
    → s1 ≡ s0 ++ class_header class → s2 ≡ s1 ++ members_lines class.name members → s3 ≡ s2 ++ tail_lines others tail → s4 ≡ s3 ++ codes "}\n"
    → s4 ≡ s0 ++ class_text class
class_done class members others tail s0 s1 s2 s3 s4 m o t e1 e2 e3 e4 =
    let j2 = joined s0 (class_header class) (members_lines class.name members) e1 e2 in
    let j3 = joined s0 (class_header class ++ members_lines class.name members) (tail_lines others tail) j2 e3 in
    let j4 = joined s0 (class_header class ++ members_lines class.name members ++ tail_lines others tail) (codes "}" ++ line_end) j3 e4 in
    j4 ∙ ap (λ x. s0 ++ x) (sym (append_assoc (class_header class ++ members_lines class.name members ++ tail_lines others tail) (codes "}") line_end)
    ∙ ap (λ x. class_pieces class x others tail) m ∙ ap (λ x. class_pieces class class.members x tail) o ∙ ap (λ x. class_pieces class class.members class.members x) t)

abbrev file_pieces : List (List ℕ) → List ℕ → List (List ℕ) → ClassDecl → List ℕ
file_pieces head name imports class = comment_lines 0 head ++ codes "package " ++ name ++ codes ";" ++ line_end ++ line_end ++ import_lines imports ++ class_text class

pub unit_done : (unit : Source) (head : List (List ℕ)) (name : List ℕ) (imports : List (List ℕ)) (s0 s1 s2 s3 s4 s5 s6 : List ℕ)
    → head ≡ unit.head → name ≡ unit.«package» → imports ≡ unit.imports
    → s1 ≡ s0 ++ comment_lines 0 head → s2 ≡ s1 ++ codes "package " → s3 ≡ s2 ++ name → s4 ≡ s3 ++ codes ";\n\n"
    → s5 ≡ s4 ++ import_lines imports → s6 ≡ s5 ++ class_text unit.class → s6 ≡ s0 ++ unit_text unit
unit_done unit head name imports s0 s1 s2 s3 s4 s5 s6 h n i e1 e2 e3 e4 e5 e6 =
    let j2 = joined s0 (comment_lines 0 head) (codes "package ") e1 e2 in
    let j3 = joined s0 (comment_lines 0 head ++ codes "package ") name j2 e3 in
    let j4 = joined s0 (comment_lines 0 head ++ codes "package " ++ name) (codes ";" ++ line_end ++ line_end) j3 e4 in
    let parted = sym (append_assoc (comment_lines 0 head ++ codes "package " ++ name) (codes ";" ++ line_end) line_end)
    ∙ ap (λ x. x ++ line_end) (sym (append_assoc (comment_lines 0 head ++ codes "package " ++ name) (codes ";") line_end)) in
    let j5 = joined s0 (comment_lines 0 head ++ codes "package " ++ name ++ codes ";" ++ line_end ++ line_end) (import_lines imports) (j4 ∙ ap (λ x. s0 ++ x) parted) e5 in
    let j6 = joined s0 (comment_lines 0 head ++ codes "package " ++ name ++ codes ";" ++ line_end ++ line_end ++ import_lines imports) (class_text unit.class) j5 e6 in
    j6 ∙ ap (λ x. s0 ++ x) (ap (λ x. file_pieces x name imports unit.class) h ∙ ap (λ x. file_pieces unit.head x imports unit.class) n ∙ ap (λ x. file_pieces unit.head unit.«package» x unit.class) i)
