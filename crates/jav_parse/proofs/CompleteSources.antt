-- Classes and whole source files of the grammar are read.
use Rattle.std.proofs.Common.{◌≡◌, inl, inr, ℕ, suc, ◌+◌, ◌<◌, ◌≤◌, true, List, [], ◌∷◌, ◌++◌, length, Option, Some, None, Ok, refl, sym, ap, ◌∙◌, subst, append-nil, arith}
use Rattle.std.proofs.lemmas.List.{length-append}
use Rattle.mol_base.specs.Among.{among}
use Rattle.mol_base.specs.Token.{Token}
use Rattle.jav_tree.specs.declared.types.TypeName.{TypeName}
use Rattle.jav_tree.specs.declared.types.TypeName.TheVariants as ty
use Rattle.jav_tree.specs.declared.unit.ClassDecl.{ClassDecl}
use Rattle.jav_tree.specs.declared.unit.Member.{Member}
use Rattle.jav_tree.specs.declared.unit.Unit.{Unit as Source}
use Rattle.jav_tree.specs.Tokens.{IsSymbol, IsKeyword, IsName, Comments}
use Rattle.jav_tree.specs.Members.{Body}
use Rattle.jav_tree.specs.Trees.{IsUnit}
use Rattle.jav_tree.specs.Units as units
use Rattle.jav_tree.specs.Units.{Named, Imports, Parent, AscendingOf, SourceFile}
use Rattle.jav_tree.specs.Words.{Words, ClassWords, in_order}
use Rattle.jav_parse_cursor.specs.declared.limits.Limits.{Limits}
use Rattle.jav_parse_cursor.specs.declared.sort.Sort.TheVariants as sort
use Rattle.jav_parse_unit.specs.declared.unit.ImportList.{ImportList}
use Rattle.jav_parse_unit.specs.declared.unit.MemberList.{MemberList}
use Rattle.jav_parse_unit.specs.declared.words.Words.{Words as Modifiers}
use Rattle.jav_parse_cursor.specs.Nodes.{text_of}
use Rattle.jav_parse_cursor.specs.Reading.{take_token, comments, sort as next}
use Rattle.jav_parse_cursor.specs.Sorts.{same_sort, sort_of, keywords}
use Rattle.jav_parse_cursor.specs.TypeRules.{qualified}
use Rattle.jav_parse_unit.specs.UnitRules as rules
use Rattle.jav_parse_unit.specs.WordRules as words
use Rattle.jav_parse.proofs.AllowedMarks.{class_may}
use Rattle.jav_parse.proofs.CompleteComments.{comments_read}
use Rattle.jav_parse.proofs.CompleteDeclared.{modifiers, words_not}
use Rattle.jav_parse.proofs.CompleteTypes.{qualified_read, text_read}
use Rattle.jav_parse.proofs.CompleteWords.{words_read}
use Rattle.jav_parse.proofs.Modifiers.{texts_in_order}
use Rattle.jav_parse.proofs.ReadingSteps.{IsNot, is_not, expect_goes, same_self}
use Rattle.jav_parse.proofs.SortsOfTokens.{name_sort, begin_sort, keyword_sort}
use Rattle.jav_parse.proofs.StatementReads.{StatementReads}
use Rattle.jav_parse.proofs.Written.{OneOf, texts_of}
use Rattle.jav_parse.proofs.CompleteUnits.{members_read, path_read, imports_read, imports_not}

no_parent : (n : ℕ) (rest : List Token) → IsNot sort.Extends rest → rules.parent n rest ≡ Ok (None, rest)
unfolding rules.parent
no_parent n rest h = rw h refl

parent_goes : (n : ℕ) (word : Token) (ts names rest : List Token) → sort_of word ≡ sort.Extends → qualified n ts ≡ Ok (names, rest) → rules.parent n (word ∷ ts) ≡ Ok (Some (ty.Named (text_of names)), rest)
unfolding rules.parent next take_token
parent_goes n word ts names rest h k = rw (h, same_self sort.Extends, k) refl

parent_read : (n : ℕ) (parent : Option TypeName) (es : List Token) → Parent parent es → length es < n → (rest : List Token) → IsNot sort.Extends rest → IsNot sort.Dot rest → rules.parent n (es ++ rest) ≡ Ok (parent, rest)
parent_read n parent es units.none few rest h d = no_parent n rest h
parent_read n parent es (units.extends {word = word} {ts = ts} hw q) few rest h d =
    parent_goes n word (ts ++ rest) ts rest (keyword_sort "extends" word hw) (qualified_read q n (omega arith) rest d) ∙ ap (λ r. Ok (Some (ty.Named r), rest)) (text_read q)

body_goes : (l : Limits) (top : ℕ) (name left : Token) (ts mid rest : List Token) (items : List Member) (first tail : List (List ℕ)) → sort_of left ≡ sort.Begin
    → rules.members l top (Some name.text) l.turns [] ts ≡ Ok (record { items = items; tail = first }, mid) → comments l.turns first mid ≡ Ok (tail, rest)
    → rules.class_body l top name (left ∷ ts) ≡ Ok (record { items = items; tail = tail }, rest)
unfolding rules.class_body
body_goes l top name left ts mid rest items first tail h k j = rw (expect_goes left ts h, k, j) refl

class_goes : (l : Limits) (top : ℕ) (front : List (List ℕ)) (w : Modifiers) (word name : Token) (ts after mid rest : List Token) (parent : Option TypeName) (body : MemberList)
    → words.words words.fit_class l.turns words.no_words ts ≡ Ok (w, word ∷ name ∷ after) → sort_of word ≡ sort.Class → sort_of name ≡ sort.Name → rules.parent l.turns after ≡ Ok (parent, mid)
    → rules.class_body l top name mid ≡ Ok (body, rest) → rules.class l top front ts ≡ Ok (rules.class_of front w name parent body, rest)
unfolding rules.class
class_goes l top front w word name ts after mid rest parent body h k j p q = rw (h, expect_goes word (name ∷ after) k, expect_goes name after j, p, q) refl

import_list_goes : (l : Limits) (ts mid rest : List Token) (notes : List (List ℕ)) (all : ImportList) → comments l.turns [] ts ≡ Ok (notes, mid)
    → rules.further_imports l l.turns (record { names = []; notes = notes }) mid ≡ Ok (all, rest) → rules.import_list l ts ≡ Ok (all, rest)
unfolding rules.import_list
import_list_goes l ts mid rest notes all h k = rw (h, k) refl

unit_goes : (l : Limits) (top : ℕ) (packaged : Token) (ts after mid back rest : List Token) (head : List (List ℕ)) (q : List ℕ) (all : ImportList) (decl : ClassDecl)
    → comments l.turns [] ts ≡ Ok (head, packaged ∷ after) → sort_of packaged ≡ sort.Package → rules.named l.turns after ≡ Ok (q, mid) → rules.import_list l mid ≡ Ok (all, back)
    → rules.class l top all.notes back ≡ Ok (decl, rest) → rules.unit l top ts ≡ Ok (record { head = head; «package» = q; imports = all.names; class = decl }, rest)
unfolding rules.unit
unit_goes l top packaged ts after mid back rest head q all decl h k n i c = rw (h, expect_goes packaged after k, n, i, c) refl

no_import : (w : List ℕ) → among modifiers w ≡ true → OneOf (texts_of sort.Import keywords) w → ⊥
unfolding same_sort
no_import w a (inl e) = let b = subst (λ r. among modifiers r ≡ true) e a in cc
no_import w a (inr n) = n

-- the words of a class and the class itself begin with no such token
class_not : {list : List (List ℕ)} {us : List Token} → Words list us → (word : Token) → IsKeyword "class" word → (rest : List Token) → (IsNot sort.Comment (us ++ word ∷ rest)) × (IsNot sort.Import (us ++ word ∷ rest))
unfolding same_sort
class_not h word hw rest =
    let k : sort_of word ≡ sort.Class = keyword_sort "class" word hw in
    (words_not h sort.Comment refl (λ w a n. n) refl (word ∷ rest) (is_not sort.Comment sort.Class word rest k refl), words_not h sort.Import refl no_import refl (word ∷ rest) (is_not sort.Import sort.Class word rest k refl))

class_read : (l : Limits) → l.builds ≡ true → StatementReads l → (top : ℕ) (h : ℕ) → h ≤ top → (front list : List (List ℕ)) (ws : List Token) → Words list ws → ClassWords list → (word : Token) → IsKeyword "class" word
    → (name : Token) → IsName name → (parent : Option TypeName) (es : List Token) → Parent parent es → (left : Token) → IsSymbol "{" left → (members : List Member) (ms : List Token) → Body l.most (Some name.text) h members ms
    → (tail : List (List ℕ)) (ts : List Token) → Comments tail ts → (right : Token) → IsSymbol "}" right → (last : List (List ℕ)) (ls : List Token) → Comments last ls
    → length ws + suc (suc (length es + suc (length ms + (length ts + suc (length ls))))) < l.turns
    → rules.class l top front (ws ++ (word ∷ name ∷ es ++ (left ∷ ms ++ (ts ++ right ∷ ls))))
    ≡ Ok (record { front = front; words = in_order list; name = name.text; parent = parent; members = members; tail = tail ++ last }, [])
unfolding same_sort next
class_read l b reads top h low front list ws hw fit word hc name hn parent es hp left hl members ms hm tail ts ht right hr last ls hs short =
    let w = words_read words.fit_class (class_may list fit) hw in
    let inside = ms ++ (ts ++ right ∷ ls) in
    let braces = left ∷ inside in
    let after = es ++ braces in
    let s1 = length-append ts (right ∷ ls) in
    let s2 = length-append ms (ts ++ right ∷ ls) in
    let s3 = length-append es braces in
    let class_sort : sort_of word ≡ sort.Class = keyword_sort "class" word hc in
    let k1 : words.words words.fit_class l.turns words.no_words (ws ++ (word ∷ name ∷ after)) ≡ Ok (w.last, word ∷ name ∷ after) = w.read l.turns (word ∷ name ∷ after) (omega arith) (rw class_sort refl) in
    let k2 : rules.parent l.turns after ≡ Ok (parent, braces) =
    parent_read l.turns parent es hp (omega arith) braces (is_not sort.Extends sort.Begin left inside (begin_sort hl) refl) (is_not sort.Dot sort.Begin left inside (begin_sort hl) refl) in
    let k3 : rules.members l top (Some name.text) l.turns [] inside ≡ Ok (record { items = members; tail = tail }, ls) =
    members_read l b reads top (Some name.text) h members ms hm low tail ts ht right hr ls (omega arith) l.turns [] (omega arith) in
    let k4 : comments l.turns tail ls ≡ Ok (tail ++ last, []) = ap (comments l.turns tail) (sym (append-nil ls)) ∙ comments_read hs l.turns (omega arith) tail [] refl in
    let k5 : rules.class_body l top name braces ≡ Ok (record { items = members; tail = tail ++ last }, []) = body_goes l top name left inside ls [] members tail (tail ++ last) (begin_sort hl) k3 k4 in
    class_goes l top front w.last word name (ws ++ (word ∷ name ∷ after)) after braces [] parent (record { items = members; tail = tail ++ last }) k1 class_sort (name_sort hn) k2 k5
    ∙ rw (texts_in_order w.last list w.marks) refl

source_read : (l : Limits) → l.builds ≡ true → StatementReads l → (d h : ℕ) → h ≤ d → (u : Source) (all : List Token) → SourceFile l.most h u all → length all < l.turns
    → (names : List (List ℕ)) × (rules.unit l d all ≡ Ok (record u { imports = names }, [])) × AscendingOf names u.imports
unfolding same_sort next
source_read l b reads d h low u all (units.source {packaged = packaged} {class = word} {name = name} {left = left} {right = right} {q = q} {head = head} {first = first} {others = others} {words = list} {names = names} {imports = imports} {tail = tail} {last = last}
    {parent = parent} {members = members} {cs = cs} {ps = ps} {fs = fs} {is = is} {ws = ws} {es = es} {ms = ms} {ts = ts} {ls = ls} hc hp hq hf hi asc hw fit hk hn he hl hm ht hr hs) short =
    let inside = ms ++ (ts ++ right ∷ ls) in
    let class_tokens = ws ++ (word ∷ name ∷ es ++ (left ∷ inside)) in
    let back = is ++ class_tokens in
    let mid = fs ++ back in
    let after = ps ++ mid in
    let s1 = length-append cs (packaged ∷ after) in
    let s2 = length-append ps mid in
    let s3 = length-append fs back in
    let s4 = length-append is class_tokens in
    let s5 = length-append ws (word ∷ name ∷ es ++ (left ∷ inside)) in
    let s6 = length-append es (left ∷ inside) in
    let s7 = length-append ms (ts ++ right ∷ ls) in
    let s8 = length-append ts (right ∷ ls) in
    let apart = class_not hw word hk (name ∷ es ++ (left ∷ inside)) in
    let package_is : sort_of packaged ≡ sort.Package = keyword_sort "package" packaged hp in
    let k1 : comments l.turns [] (cs ++ (packaged ∷ after)) ≡ Ok (head, packaged ∷ after) = comments_read hc l.turns (omega arith) [] (packaged ∷ after) (is_not sort.Comment sort.Package packaged after package_is refl) in
    let k2 : rules.named l.turns after ≡ Ok (q, mid) = path_read l.turns q ps hq (omega arith) mid in
    let k3 : comments l.turns [] mid ≡ Ok (first, back) = comments_read hf l.turns (omega arith) [] back (imports_not hi class_tokens (apart.0)) in
    let k4 : rules.further_imports l l.turns (record { names = []; notes = first }) back ≡ Ok (record { names = names; notes = first ++ others }, class_tokens) =
    imports_read l names others is hi class_tokens (apart.1) (apart.0) (omega arith) l.turns (record { names = []; notes = first }) (omega arith) in
    let k5 : rules.import_list l mid ≡ Ok (record { names = names; notes = first ++ others }, class_tokens) = import_list_goes l mid back class_tokens first (record { names = names; notes = first ++ others }) k3 k4 in
    let k6 = class_read l b reads d h low (first ++ others) list ws hw fit word hk name hn parent es he left hl members ms hm tail ts ht right hr last ls hs (omega arith) in (
      names,
      unit_goes l d packaged (cs ++ (packaged ∷ after)) after mid class_tokens [] head q (record { names = names; notes = first ++ others })
          (record { front = first ++ others; words = in_order list; name = name.text; parent = parent; members = members; tail = tail ++ last }) k1 package_is k2 k5 k6,
      asc,
    )

-- a source file, with its imports in their order
pub source_whole : ((l : Limits) → l.builds ≡ true → StatementReads l) → (l : Limits) (d : ℕ) → l.builds ≡ true → 0 < l.most → (u : Source) (ts : List Token) → IsUnit l.most d u ts → length ts < l.turns
    → (names : List (List ℕ)) × (rules.unit l d ts ≡ Ok (record u { imports = names }, [])) × AscendingOf names u.imports
source_whole statements l d b some u ts h short = source_read l b (statements l b) d h.0 h.1 u ts h.2 short
