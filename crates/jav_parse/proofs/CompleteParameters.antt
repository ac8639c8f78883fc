-- Parameters of the grammar are read.
use Rattle.std.proofs.Common.{◌≡◌, ◌⊎◌, inl, inr, ℕ, zero, suc, ◌+◌, ◌-◌, ◌<◌, ◌≤◌, true, false, List, [], ◌∷◌, ◌++◌, length, Ok, Err, refl, sym, ap, ◌∙◌, append_assoc, arith}
use Rattle.std.proofs.lemmas.List.{length-append}
use Rattle.mol_base.specs.Token.{Token}
use Rattle.jav_tree.specs.declared.types.TypeName.{TypeName}
use Rattle.jav_tree.specs.declared.unit.Param.{Param}
use Rattle.jav_tree.specs.Tokens.{IsName}
use Rattle.jav_tree.specs.Types as types
use Rattle.jav_tree.specs.Types.{WholeType, BaseType, Brackets}
use Rattle.jav_tree.specs.Statements as stmts
use Rattle.jav_tree.specs.Statements.{MaybeFinal}
use Rattle.jav_tree.specs.Members as tree
use Rattle.jav_tree.specs.Members.{Parameter, ParameterList, Parameters}
use Rattle.jav_parse_cursor.specs.declared.limits.Limits.{Limits}
use Rattle.jav_parse_cursor.specs.declared.sort.Sort.{Sort}
use Rattle.jav_parse_cursor.specs.declared.sort.Sort.TheVariants as sort
use Rattle.jav_parse_unit.specs.MemberRules.{param_of, param, further_params, some_params, params}
use Rattle.jav_parse_cursor.specs.Reading.{Outcome, Parser, and_then, ◌>>=◌, ◌>>◌, pure, take_token, expect, sort as next}
use Rattle.jav_parse_cursor.specs.Sorts.{same_sort, sort_of}
use Rattle.jav_parse_cursor.specs.TypeRules.{whole_type}
use Rattle.jav_parse.proofs.CompleteTypes.{whole_read, qualified_begins}
use Rattle.jav_parse.proofs.ReadingSteps.{IsNot, is_not, expect_goes, same_self}
use Rattle.jav_parse.proofs.SortsOfTokens.{name_sort, comma_sort, open_sort, close_sort, primitive_sort, keyword_sort}

-- there are more turns than tokens
abbrev pub Short : Limits → List Token → List Token → Type 0
Short l ts rest = length ts + length rest < l.turns

pub bind_twice : {A B C : Type 0} (o : Outcome A) (f : A → Parser B) (g : B → Parser C) → and_then (and_then o f) g ≡ and_then o (λ x. f x >>= g)
bind_twice (Ok x) f g = refl
bind_twice (Err bad) f g = refl

-- ---- the first token of a type

base_next : {to : TypeName} {ts : List Token} → BaseType to ts → (rest : List Token) → (next (ts ++ rest) ≡ sort.Name) ⊎ (next (ts ++ rest) ≡ sort.Prim)
unfolding next
base_next (types.primitive h) rest = inr (primitive_sort h)
base_next (types.named q) rest = inl (qualified_begins q rest)

pub type_next : {limit : ℕ} {to : TypeName} {ts : List Token} → WholeType limit to ts → (rest : List Token) → (next (ts ++ rest) ≡ sort.Name) ⊎ (next (ts ++ rest) ≡ sort.Prim)
type_next (types.whole {ts = ts} {us = us} b k few) rest = rw (append_assoc ts us rest) (base_next b (us ++ rest))

apart_by : (s : Sort) (ts : List Token) → same_sort sort.Name s ≡ false → same_sort sort.Prim s ≡ false → (next ts ≡ sort.Name) ⊎ (next ts ≡ sort.Prim) → IsNot s ts
apart_by s ts n m (inl e) = ap (λ u. same_sort u s) e ∙ n
apart_by s ts n m (inr e) = ap (λ u. same_sort u s) e ∙ m

-- a type begins with no token of another sort
pub type_not : {limit : ℕ} {to : TypeName} {ts : List Token} → WholeType limit to ts → (s : Sort) → same_sort sort.Name s ≡ false → same_sort sort.Prim s ≡ false → (rest : List Token) → IsNot s (ts ++ rest)
type_not {limit} {to} {ts} h s n m rest = apart_by s (ts ++ rest) n m (type_next h rest)

-- ---- parameters

param_of_goes : (l : Limits) (ts rest : List Token) (to : TypeName) (t : Token) → whole_type l ts ≡ Ok (to, t ∷ rest) → sort_of t ≡ sort.Name → param_of l ts ≡ Ok (record { ty = to; name = t.text }, rest)
unfolding param_of
param_of_goes l ts rest to t h k = rw (h, expect_goes t rest k) refl

final_param : (l : Limits) (t : Token) (ts : List Token) → sort_of t ≡ sort.Final → param l (t ∷ ts) ≡ param_of l ts
unfolding param next take_token
final_param l t ts h = rw (h, same_self sort.Final) refl

plain_param : (l : Limits) (ts : List Token) → IsNot sort.Final ts → param l ts ≡ param_of l ts
unfolding param
plain_param l ts h = rw h refl

-- a type and a name
typed_read : (l : Limits) → l.builds ≡ true → (to : TypeName) (us : List Token) → WholeType l.most to us → (t : Token) → IsName t → (rest : List Token) → length us + suc (length rest) < l.turns
    → param_of l (us ++ t ∷ rest) ≡ Ok (record { ty = to; name = t.text }, rest)
unfolding same_sort
typed_read l b to us h t hn rest short =
    param_of_goes l (us ++ t ∷ rest) rest to t (whole_read l b h (omega arith) (t ∷ rest) (is_not sort.Dot sort.Name t rest (name_sort hn) refl) (is_not sort.Left sort.Name t rest (name_sort hn) refl)) (name_sort hn)

param_read : (l : Limits) → l.builds ≡ true → (p : Param) (ts : List Token) → Parameter l.most p ts → (rest : List Token) → Short l ts rest → param l (ts ++ rest) ≡ Ok (p, rest)
unfolding same_sort
param_read l b p ts (tree.parameter {t = t} {to = to} {us = us} stmts.no h hn) rest short =
    let e : (us ++ t ∷ []) ++ rest ≡ us ++ t ∷ rest = append_assoc us (t ∷ []) rest in
    let n = length-append us (t ∷ []) in
    rw e (plain_param l (us ++ t ∷ rest) (type_not h sort.Final refl refl (t ∷ rest)) ∙ typed_read l b to us h t hn rest (omega arith))
param_read l b p ts (tree.parameter {t = t} {to = to} {us = us} (stmts.yes {t = f} hf) h hn) rest short =
    let e : (us ++ t ∷ []) ++ rest ≡ us ++ t ∷ rest = append_assoc us (t ∷ []) rest in
    let n = length-append us (t ∷ []) in
    rw e (final_param l f (us ++ t ∷ rest) (keyword_sort "final" f hf) ∙ typed_read l b to us h t hn rest (omega arith))

further_end : (l : Limits) (n : ℕ) (all : List Param) (rest : List Token) → IsNot sort.Comma rest → further_params l n all rest ≡ Ok (all, rest)
unfolding further_params
further_end l zero all rest h = refl
further_end l (suc n) all rest h = rw h refl

comma_goes : (l : Limits) (n : ℕ) (all : List Param) (comma : Token) (ts : List Token) → sort_of comma ≡ sort.Comma
    → further_params l (suc n) all (comma ∷ ts) ≡ (param l >>= (λ x. further_params l n (all ++ x ∷ []))) ts
unfolding further_params next take_token
comma_goes l n all comma ts h = rw (h, same_self sort.Comma) refl

param_goes : (l : Limits) (n : ℕ) (all : List Param) (ts mid : List Token) (p : Param) → param l ts ≡ Ok (p, mid) → (param l >>= (λ x. further_params l n (all ++ x ∷ []))) ts ≡ further_params l n (all ++ p ∷ []) mid
param_goes l n all ts mid p h = rw h refl

list_some : {limit : ℕ} {ps : List Param} {ts : List Token} → ParameterList limit ps ts → 0 < length ps
list_some (tree.last x) = omega arith
list_some (tree.more x c rest) = omega arith

list_read : (l : Limits) → l.builds ≡ true → (n : ℕ) (all ps : List Param) (ts : List Token) → ParameterList l.most ps ts → length ps ≤ suc n → (rest : List Token) → IsNot sort.Comma rest → Short l ts rest
    → (param l >>= (λ x. further_params l n (all ++ x ∷ []))) (ts ++ rest) ≡ Ok (all ++ ps, rest)
list_read l b n all ps ts (tree.last {p = p} x) few rest h short = param_goes l n all (ts ++ rest) rest p (param_read l b p ts x rest short) ∙ further_end l n (all ++ p ∷ []) rest h
list_read l b zero all ps ts (tree.more x c k) few rest h short = absurd (let some = list_some k in omega arith)
list_read l b (suc n) all ps ts (tree.more {p = p} {ps = qs} {comma = comma} {ts = us} {us = vs} x c k) few rest h short =
    let size = length-append us (comma ∷ vs) in
    let more = length-append vs rest in
    rw (append_assoc us (comma ∷ vs) rest, sym (append_assoc all (p ∷ []) qs))
    (param_goes l (suc n) all (us ++ comma ∷ (vs ++ rest)) (comma ∷ (vs ++ rest)) p (param_read l b p us x (comma ∷ (vs ++ rest)) (omega arith))
    ∙ comma_goes l n (all ++ p ∷ []) comma (vs ++ rest) (comma_sort c) ∙ list_read l b n (all ++ p ∷ []) qs vs k (omega arith) rest h (omega arith))

no_params : (l : Limits) (left right : Token) (rest : List Token) → sort_of left ≡ sort.Open → sort_of right ≡ sort.Close → params l (left ∷ right ∷ rest) ≡ Ok ([], rest)
unfolding params next take_token
no_params l left right rest h k = rw (expect_goes left (right ∷ rest) h, k, same_self sort.Close) refl

some_go : (l : Limits) (left : Token) (ts : List Token) (ps : List Param) (right : Token) (rest : List Token) → sort_of left ≡ sort.Open → IsNot sort.Close ts → sort_of right ≡ sort.Close
    → (param l >>= (λ x. further_params l (l.most - 1) ([] ++ x ∷ []))) ts ≡ Ok (ps, right ∷ rest) → params l (left ∷ ts) ≡ Ok (ps, rest)
unfolding params some_params next
some_go l left ts ps right rest h n k e =
    rw (expect_goes left ts h, n) (sym (bind_twice (param l ts) (λ x. further_params l (l.most - 1) (x ∷ [])) (λ all. expect sort.Close >> pure all))
    ∙ ap (λ o. and_then o (λ all. expect sort.Close >> pure all)) e ∙ rw (expect_goes right rest k) refl)

param_not : {limit : ℕ} {p : Param} {ts : List Token} → Parameter limit p ts → (s : Sort) → same_sort sort.Name s ≡ false → same_sort sort.Prim s ≡ false → same_sort sort.Final s ≡ false → (rest : List Token) → IsNot s (ts ++ rest)
param_not (tree.parameter {t = t} {us = us} stmts.no h hn) s n m f rest = rw (append_assoc us (t ∷ []) rest) (type_not h s n m (t ∷ rest))
param_not (tree.parameter {t = t} {us = us} (stmts.yes {t = word} hf) h hn) s n m f rest = is_not s sort.Final word ((us ++ t ∷ []) ++ rest) (keyword_sort "final" word hf) f

list_not : {limit : ℕ} {ps : List Param} {ts : List Token} → ParameterList limit ps ts → (s : Sort) → same_sort sort.Name s ≡ false → same_sort sort.Prim s ≡ false → same_sort sort.Final s ≡ false → (rest : List Token) → IsNot s (ts ++ rest)
list_not (tree.last x) s n m f rest = param_not x s n m f rest
list_not (tree.more {comma = comma} {ts = ts} {us = us} x c k) s n m f rest = rw (append_assoc ts (comma ∷ us) rest) (param_not x s n m f (comma ∷ (us ++ rest)))

pub params_read : (l : Limits) → l.builds ≡ true → (ps : List Param) (ts : List Token) → Parameters l.most ps ts → (rest : List Token) → Short l ts rest → params l (ts ++ rest) ≡ Ok (ps, rest)
unfolding same_sort
params_read l b ps ts (tree.none {left = left} {right = right} hl hr) rest short = no_params l left right rest (open_sort hl) (close_sort hr)
params_read l b ps ts (tree.some {left = left} {right = right} {ts = us} hl k hr few) rest short =
    let size = length-append us (right ∷ []) in
    let some = list_some k in
    rw (append_assoc us (right ∷ []) rest) (some_go l left (us ++ right ∷ rest) ps right rest (open_sort hl) (list_not k sort.Close refl refl refl (right ∷ rest)) (close_sort hr)
    (list_read l b (l.most - 1) [] ps us k (omega arith) (right ∷ rest) (is_not sort.Comma sort.Close right rest (close_sort hr) refl) (omega arith)))

pub params_next : {limit : ℕ} {ps : List Param} {ts : List Token} → Parameters limit ps ts → (rest : List Token) → next (ts ++ rest) ≡ sort.Open
unfolding next
params_next (tree.none hl hr) rest = open_sort hl
params_next (tree.some hl k hr few) rest = open_sort hl
