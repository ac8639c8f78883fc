-- Source files of the grammar are read.
use Rattle.std.proofs.Common.{◌≡◌, ℕ, zero, suc, ◌+◌, ◌<◌, ◌≤◌, true, List, [], ◌∷◌, ◌++◌, length, Option, None, Ok, refl, sym, ap, ◌∙◌, subst, append_assoc, append-nil, arith}
use Rattle.std.proofs.lemmas.List.{length-append}
use Rattle.mol_base.specs.Token.{Token}
use Rattle.jav_tree.specs.declared.unit.Member.{Member}
use Rattle.jav_tree.specs.Tokens.{IsSymbol, Comments}
use Rattle.jav_tree.specs.Members as tree
use Rattle.jav_tree.specs.Members.{Declared, Body}
use Rattle.jav_tree.specs.Trees.{IsMember}
use Rattle.jav_tree.specs.Units as units
use Rattle.jav_tree.specs.Units.{Named, Imports, Parent, AscendingOf, SourceFile}
use Rattle.jav_parse_cursor.specs.declared.limits.Limits.{Limits}
use Rattle.jav_parse_cursor.specs.declared.sort.Sort.TheVariants as sort
use Rattle.jav_parse_unit.specs.declared.unit.ImportList.{ImportList}
use Rattle.jav_parse_unit.specs.MemberRules.{declared}
use Rattle.jav_parse_cursor.specs.Nodes.{text_of}
use Rattle.jav_parse_cursor.specs.Reading.{take_token, comments, sort as next}
use Rattle.jav_parse_cursor.specs.Sorts.{same_sort, sort_of}
use Rattle.jav_parse_cursor.specs.TypeRules.{qualified}
use Rattle.jav_parse_unit.specs.UnitRules as rules
use Rattle.jav_parse_unit.specs.WholeRules.{declaration}
use Rattle.jav_parse.proofs.CompleteComments.{comments_read}
use Rattle.jav_parse.proofs.CompleteDeclared.{declared_read}
use Rattle.jav_parse.proofs.CompleteParameters.{Short}
use Rattle.jav_parse.proofs.CompleteTypes.{qualified_read, text_read}
use Rattle.jav_parse.proofs.ReadingSteps.{IsNot, is_not, expect_goes, same_self}
use Rattle.jav_parse.proofs.SortsOfTokens.{semi_sort, finish_sort, keyword_sort}
use Rattle.jav_parse.proofs.StatementReads.{StatementReads}

-- ---- a member alone

declaration_goes : (l : Limits) (d : ℕ) (ts us : List Token) (notes : List (List ℕ)) (ms : List Member) → comments l.turns [] ts ≡ Ok (notes, us) → declared l d None notes us ≡ Ok (ms, []) → declaration l d ts ≡ Ok (ms, [])
declaration_goes l d ts us notes ms h k = rw (h, k) refl

pub member_whole : ((l : Limits) → l.builds ≡ true → StatementReads l) → (l : Limits) (d : ℕ) → l.builds ≡ true → 0 < l.most → (ms : List Member) (ts : List Token) → IsMember l.most d ms ts → length ts < l.turns
    → declaration l d ts ≡ Ok (ms, [])
member_whole statements l d b some ms ts h short =
    let r = declared_read l b (statements l b) None h.0 ms ts h.2 in
    let size = length-append r.cs r.us in
    let all = ap length r.split in
    let none : r.us ++ [] ≡ r.us = append-nil r.us in
    declaration_goes l d ts r.us r.notes ms
    (ap (comments l.turns []) r.split ∙ comments_read r.noted l.turns (omega arith) [] r.us (subst (IsNot sort.Comment) none ((r.stands []).0)))
    (ap (declared l d None r.notes) (sym none) ∙ r.read d h.1 [] (omega arith))

-- ---- members of a class

declared_some : {limit h : ℕ} {class : Option (List ℕ)} {ms : List Member} {ts : List Token} → Declared limit class h ms ts → 0 < length ts
declared_some (tree.field {semi = semi} {ts = cs} {us = us} {vs = vs} {ws = ws} hc hw fit ht hv hs) =
    let a = length-append cs (us ++ (vs ++ (ws ++ semi ∷ []))) in
    let b = length-append us (vs ++ (ws ++ semi ∷ [])) in
    let c = length-append vs (ws ++ semi ∷ []) in
    let d = length-append ws (semi ∷ []) in omega arith
declared_some (tree.method {name = name} {ts = cs} {us = us} {vs = vs} {ws = ws} {xs = xs} {ys = ys} hc hw fit ht hn hp hk hb) =
    let a = length-append cs (us ++ (vs ++ (name ∷ ws ++ (xs ++ ys)))) in
    let b = length-append us (vs ++ (name ∷ ws ++ (xs ++ ys))) in
    let c = length-append vs (name ∷ ws ++ (xs ++ ys)) in omega arith
declared_some (tree.abstract_method {name = name} {semi = semi} {ts = cs} {us = us} {vs = vs} {ws = ws} hc hw fit ht hn hp hs) =
    let a = length-append cs (us ++ (vs ++ (name ∷ ws ++ semi ∷ []))) in
    let b = length-append us (vs ++ (name ∷ ws ++ semi ∷ [])) in
    let c = length-append vs (name ∷ ws ++ semi ∷ []) in omega arith
declared_some (tree.constructor_of {name = name} {ts = cs} {us = us} {vs = vs} {ws = ws} {xs = xs} hc hw fit hn may hp hk hb) =
    let a = length-append cs (us ++ (name ∷ vs ++ (ws ++ xs))) in
    let b = length-append us (name ∷ vs ++ (ws ++ xs)) in omega arith

members_end : (l : Limits) (top : ℕ) (class : Option (List ℕ)) (n : ℕ) (all : List Member) (ts rest : List Token) (notes : List (List ℕ)) (right : Token) → comments l.turns [] ts ≡ Ok (notes, right ∷ rest)
    → sort_of right ≡ sort.Finish → rules.members l top class (suc n) all ts ≡ Ok (record { items = all; tail = notes }, rest)
unfolding rules.members next take_token
members_end l top class n all ts rest notes right h k = rw (h, k, same_self sort.Finish) refl

members_go : (l : Limits) (top : ℕ) (class : Option (List ℕ)) (n : ℕ) (all ms : List Member) (ts mid rest : List Token) (notes : List (List ℕ)) → comments l.turns [] ts ≡ Ok (notes, mid) → IsNot sort.Finish mid
    → declared l top class notes mid ≡ Ok (ms, rest) → rules.members l top class (suc n) all ts ≡ rules.members l top class n (all ++ ms) rest
unfolding rules.members
members_go l top class n all ms ts mid rest notes h n1 k = rw (h, n1, k) refl

by_turns : (n : ℕ) (P : ℕ → Type 0) → 0 < n → ((m : ℕ) → n ≡ suc m → P (suc m)) → P n
by_turns zero P p f = absurd (omega arith)
by_turns (suc n) P p f = f n refl

pub members_read : (l : Limits) → l.builds ≡ true → StatementReads l → (top : ℕ) (class : Option (List ℕ)) (h : ℕ) (ms : List Member) (ts : List Token) → Body l.most class h ms ts → h ≤ top
    → (tail : List (List ℕ)) (us : List Token) → Comments tail us → (right : Token) → IsSymbol "}" right → (rest : List Token) → length ts + (length us + suc (length rest)) < l.turns
    → (n : ℕ) (all : List Member) → length ts < n → rules.members l top class n all (ts ++ (us ++ right ∷ rest)) ≡ Ok (record { items = all ++ ms; tail = tail }, rest)
unfolding same_sort
members_read l b reads top class h ms ts tree.none low tail us hc right hr rest short n all few =
    by_turns n (λ k. rules.members l top class k all (us ++ right ∷ rest) ≡ Ok (record { items = all ++ []; tail = tail }, rest)) (omega arith)
    (λ m e. members_end l top class m all (us ++ right ∷ rest) rest tail right (comments_read hc l.turns (omega arith) [] (right ∷ rest) (is_not sort.Comment sort.Finish right rest (finish_sort hr) refl)) (finish_sort hr)
    ∙ ap (λ r. Ok (record { items = r; tail = tail }, rest)) (sym (append-nil all)))
members_read l b reads top class h ms ts (tree.more {h = j} {k = k} {ms = ps} {ns = qs} {ts = xs} {us = ys} d body) low tail us hc right hr rest short n all few =
    let r = declared_read l b reads class j ps xs d in
    let after = ys ++ (us ++ right ∷ rest) in
    let s1 = length-append xs ys in
    let s2 = length-append ys (us ++ right ∷ rest) in
    let s3 = length-append us (right ∷ rest) in
    let s4 = length-append r.cs r.us in
    let s5 = ap length r.split in
    let s6 = declared_some d in
    let e : (xs ++ ys) ++ (us ++ right ∷ rest) ≡ r.cs ++ (r.us ++ after) = append_assoc xs ys (us ++ right ∷ rest) ∙ ap (λ z. z ++ after) r.split ∙ append_assoc r.cs r.us after in
    by_turns n (λ m. rules.members l top class m all ((xs ++ ys) ++ (us ++ right ∷ rest)) ≡ Ok (record { items = all ++ (ps ++ qs); tail = tail }, rest)) (omega arith)
    (λ m more. ap (rules.members l top class (suc m) all) e
    ∙ members_go l top class m all ps (r.cs ++ (r.us ++ after)) (r.us ++ after) after r.notes (comments_read r.noted l.turns (omega arith) [] (r.us ++ after) ((r.stands after).0)) ((r.stands after).1) (r.read top (omega arith) after (omega arith))
    ∙ members_read l b reads top class k qs ys body (omega arith) tail us hc right hr rest (omega arith) m (all ++ ps) (omega arith)
    ∙ ap (λ z. Ok (record { items = z; tail = tail }, rest)) (append_assoc all ps qs))

-- ---- packages and imports

path_goes : (n : ℕ) (ts names rest : List Token) (semi : Token) → qualified n ts ≡ Ok (names, semi ∷ rest) → sort_of semi ≡ sort.Semi → rules.named n ts ≡ Ok (text_of names, rest)
unfolding rules.named
path_goes n ts names rest semi h k = rw (h, expect_goes semi rest k) refl

pub path_read : (n : ℕ) (q : List ℕ) (ts : List Token) → Named q ts → length ts < n → (rest : List Token) → rules.named n (ts ++ rest) ≡ Ok (q, rest)
unfolding same_sort
path_read n q ts (units.named {semi = semi} {ts = us} h hs) few rest =
    let size = length-append us (semi ∷ []) in
    rw (append_assoc us (semi ∷ []) rest) (path_goes n (us ++ semi ∷ rest) us rest semi (qualified_read h n (omega arith) (semi ∷ rest) (is_not sort.Dot sort.Semi semi rest (semi_sort hs) refl)) (semi_sort hs)
    ∙ ap (λ r. Ok (r, rest)) (text_read h))

imports_end : (l : Limits) (n : ℕ) (all : ImportList) (rest : List Token) → IsNot sort.Import rest → rules.further_imports l (suc n) all rest ≡ Ok (all, rest)
unfolding rules.further_imports
imports_end l n all rest h = rw h refl

import_goes : (l : Limits) (n : ℕ) (all : ImportList) (word : Token) (ts mid rest : List Token) (q : List ℕ) (notes : List (List ℕ)) → sort_of word ≡ sort.Import → rules.named l.turns ts ≡ Ok (q, mid)
    → comments l.turns all.notes mid ≡ Ok (notes, rest) → rules.further_imports l (suc n) all (word ∷ ts) ≡ rules.further_imports l n (record { names = all.names ++ q ∷ []; notes = notes }) rest
unfolding rules.further_imports next take_token
import_goes l n all word ts mid rest q notes h k j = rw (h, same_self sort.Import, k, j) refl

pub imports_not : {names others : List (List ℕ)} {ts : List Token} → Imports names others ts → (rest : List Token) → IsNot sort.Comment rest → IsNot sort.Comment (ts ++ rest)
unfolding same_sort next
imports_not units.none rest h = h
imports_not (units.import {word = word} {ts = ts} {us = us} {vs = vs} hw hn hc k) rest h = is_not sort.Comment sort.Import word ((ts ++ (us ++ vs)) ++ rest) (keyword_sort "import" word hw) refl

pub imports_read : (l : Limits) (names others : List (List ℕ)) (ts : List Token) → Imports names others ts → (rest : List Token) → IsNot sort.Import rest → IsNot sort.Comment rest → Short l ts rest
    → (n : ℕ) (all : ImportList) → length ts < n → rules.further_imports l n all (ts ++ rest) ≡ Ok (record { names = all.names ++ names; notes = all.notes ++ others }, rest)
imports_read l names others ts units.none rest h c short n all few =
    by_turns n (λ k. rules.further_imports l k all rest ≡ Ok (record { names = all.names ++ []; notes = all.notes ++ [] }, rest)) (omega arith)
    (λ m e. imports_end l m all rest h ∙ rw (append-nil all.names, append-nil all.notes) refl)
imports_read l names others ts (units.import {word = word} {q = q} {names = qs} {comments = own} {more = more} {ts = xs} {us = us} {vs = vs} hw hn hc k) rest h c short n all few =
    let after = vs ++ rest in
    let s1 = length-append xs (us ++ vs) in
    let s2 = length-append us vs in
    let e : (xs ++ (us ++ vs)) ++ rest ≡ xs ++ (us ++ after) = append_assoc xs (us ++ vs) rest ∙ ap (λ z. xs ++ z) (append_assoc us vs rest) in
    by_turns n (λ m. rules.further_imports l m all (word ∷ (xs ++ (us ++ vs)) ++ rest) ≡ Ok (record { names = all.names ++ q ∷ qs; notes = all.notes ++ (own ++ more) }, rest)) (omega arith)
    (λ m less. ap (λ z. rules.further_imports l (suc m) all (word ∷ z)) e
    ∙ import_goes l m all word (xs ++ (us ++ after)) (us ++ after) after q (all.notes ++ own) (keyword_sort "import" word hw) (path_read l.turns q xs hn (omega arith) (us ++ after))
    (comments_read hc l.turns (omega arith) all.notes after (imports_not k rest c))
    ∙ imports_read l qs more vs k rest h c (omega arith) m (record { names = all.names ++ q ∷ []; notes = all.notes ++ own }) (omega arith)
    ∙ rw (append_assoc all.names (q ∷ []) qs, append_assoc all.notes own more) refl)
