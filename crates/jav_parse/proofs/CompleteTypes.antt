-- Names with dots and types of the grammar are read.
use Rattle.std.proofs.Common.{◌≡◌, ℕ, zero, suc, ◌+◌, ◌-◌, ◌<◌, ◌≤◌, Bool, true, false, List, [], ◌∷◌, ◌++◌, length, codes, Ok, refl, sym, ap, ◌∙◌, append_assoc, append-nil, arith}
use Rattle.std.proofs.lemmas.List.{length-append}
use Rattle.mol_base.specs.Token.{Token}
use Rattle.jav_tree.specs.declared.types.TypeName.{TypeName}
use Rattle.jav_tree.specs.declared.types.TypeName.TheVariants as ty
use Rattle.jav_tree.specs.Types.{Qualified, name, dotted, BaseType, primitive, named, Brackets, none, pair, array_of, WholeType, whole}
use Rattle.jav_parse_cursor.specs.declared.limits.Limits.{Limits}
use Rattle.jav_parse_cursor.specs.declared.sort.Sort.{Sort}
use Rattle.jav_parse_cursor.specs.declared.sort.Sort.TheVariants as sort
use Rattle.jav_parse_cursor.specs.Nodes.{text_of, array_type}
use Rattle.jav_parse_cursor.specs.Reading.{sort as next, take_token}
use Rattle.jav_parse_cursor.specs.Sorts.{same_sort, sort_of}
use Rattle.jav_parse_cursor.specs.TypeRules as rule
use Rattle.jav_parse_cursor.specs.TypeRules.{further_names, qualified, base_type, brackets, type_after, whole_type}
use Rattle.jav_parse.proofs.ReadingSteps.{IsNot, is_not, expect_goes, same_self}
use Rattle.jav_parse.proofs.SortsOfTokens.{name_sort, dot_sort, left_sort, right_sort, primitive_sort}

-- ---- names with dots

-- how far reading names has come
record ReachesNames (n : ℕ) (ts rest : List Token) : Type 0 where
  turns : ℕ
  enough : n ≤ turns + length ts
  same : qualified n (ts ++ rest) ≡ further_names turns ts rest

pub first_name : (n : ℕ) (t : Token) (rest : List Token) → sort_of t ≡ sort.Name → qualified n (t ∷ rest) ≡ further_names n (t ∷ []) rest
unfolding qualified
first_name n t rest h = rw (expect_goes t rest h) refl

pub dot_goes : (n : ℕ) (names : List Token) (dot t : Token) (rest : List Token) → sort_of dot ≡ sort.Dot → sort_of t ≡ sort.Name
    → further_names (suc n) names (dot ∷ t ∷ rest) ≡ further_names n (names ++ dot ∷ t ∷ []) rest
unfolding further_names next take_token
dot_goes n names dot t rest hd ht = rw (hd, same_self sort.Dot, expect_goes t rest ht) refl

pub names_end : (n : ℕ) (names rest : List Token) → IsNot sort.Dot rest → further_names (suc n) names rest ≡ Ok (names, rest)
unfolding further_names
names_end n names rest h = rw h refl

further_by : (n m : ℕ) (ts : List Token) (dot t : Token) (rest : List Token) → n ≤ m + length ts → qualified n (ts ++ dot ∷ t ∷ rest) ≡ further_names m ts (dot ∷ t ∷ rest)
    → length ts < n → sort_of dot ≡ sort.Dot → sort_of t ≡ sort.Name → ReachesNames n (ts ++ dot ∷ t ∷ []) rest
further_by n zero ts dot t rest enough same few hd ht = absurd (omega arith)
further_by n (suc m) ts dot t rest enough same few hd ht = record {
  turns = m;
  enough = let z = length-append ts (dot ∷ t ∷ []) in omega arith;
  same = rw append_assoc (same ∙ dot_goes m ts dot t rest hd ht);
}

names_reach : {q : List ℕ} {ts : List Token} → Qualified q ts → (n : ℕ) → length ts ≤ n → (rest : List Token) → ReachesNames n ts rest
names_reach (name {t = t} h) n few rest = record { turns = n; enough = omega arith; same = first_name n t rest (name_sort h) }
names_reach (dotted {dot = dot} {t = t} {ts = ts} q hd ht) n few rest =
    let z = length-append ts (dot ∷ t ∷ []) in
    let r = names_reach q n (omega arith) (dot ∷ t ∷ rest) in
    further_by n r.turns ts dot t rest r.enough r.same (omega arith) (dot_sort hd) (name_sort ht)

names_done : (n m : ℕ) (ts rest : List Token) → n ≤ m + length ts → qualified n (ts ++ rest) ≡ further_names m ts rest → length ts < n → IsNot sort.Dot rest → qualified n (ts ++ rest) ≡ Ok (ts, rest)
names_done n zero ts rest enough same few h = absurd (omega arith)
names_done n (suc m) ts rest enough same few h = same ∙ names_end m ts rest h

pub qualified_read : {q : List ℕ} {ts : List Token} → Qualified q ts → (n : ℕ) → length ts < n → (rest : List Token) → IsNot sort.Dot rest → qualified n (ts ++ rest) ≡ Ok (ts, rest)
qualified_read {ts = ts} q n few rest h = let r = names_reach q n (omega arith) rest in names_done n r.turns ts rest r.enough r.same few h

pub text_of-append : (xs ys : List Token) → text_of (xs ++ ys) ≡ text_of xs ++ text_of ys
unfolding text_of
text_of-append [] ys = refl
text_of-append (x ∷ xs) ys = ap (λ r. x.text ++ r) (text_of-append xs ys) ∙ sym (append_assoc x.text (text_of xs) (text_of ys))

text_of_one : (t : Token) → text_of (t ∷ []) ≡ t.text
unfolding text_of
text_of_one t = append-nil t.text

text_of_two : (dot t : Token) → text_of (dot ∷ t ∷ []) ≡ dot.text ++ t.text
unfolding text_of
text_of_two dot t = ap (λ r. dot.text ++ r) (append-nil t.text)

pub text_read : {q : List ℕ} {ts : List Token} → Qualified q ts → text_of ts ≡ q
text_read (name {t = t} h) = text_of_one t
text_read (dotted {dot = dot} {t = t} {q = before} {ts = ts} q hd ht) =
    text_of-append ts (dot ∷ t ∷ []) ∙ ap (λ r. r ++ text_of (dot ∷ t ∷ [])) (text_read q)
    ∙ ap (λ r. before ++ r) (text_of_two dot t ∙ ap (λ r. r ++ t.text) (hd.written)) ∙ sym (append_assoc before (codes ".") t.text)

-- the first token is a name
pub qualified_begins : {q : List ℕ} {ts : List Token} → Qualified q ts → (rest : List Token) → next (ts ++ rest) ≡ sort.Name
unfolding next
qualified_begins (name h) rest = name_sort h
qualified_begins (dotted {dot = dot} {t = t} q hd ht) rest = rw append_assoc (qualified_begins q (dot ∷ t ∷ rest))

-- ---- types

base_primitive : (n : ℕ) (t : Token) (rest : List Token) → sort_of t ≡ sort.Prim → base_type n (t ∷ rest) ≡ Ok (ty.Prim t.text, rest)
unfolding base_type rule.primitive next
base_primitive n t rest h = rw (h, same_self sort.Prim, expect_goes t rest h) refl

base_named : (n : ℕ) (ts us rest : List Token) → next ts ≡ sort.Name → qualified n ts ≡ Ok (us, rest) → base_type n ts ≡ Ok (ty.Named (text_of us), rest)
unfolding base_type same_sort
base_named n ts us rest h q = rw (h, q) refl

pub base_read : {to : TypeName} {ts : List Token} → BaseType to ts → (n : ℕ) → length ts < n → (rest : List Token) → IsNot sort.Dot rest → base_type n (ts ++ rest) ≡ Ok (to, rest)
base_read (primitive {t = t} h) n few rest d = base_primitive n t rest (primitive_sort h)
base_read (named {ts = ts} q) n few rest d =
    base_named n (ts ++ rest) ts rest (qualified_begins q rest) (qualified_read q n few rest d) ∙ ap (λ r. Ok (ty.Named r, rest)) (text_read q)

brackets_end : (n k : ℕ) (rest : List Token) → IsNot sort.Left rest → brackets n k rest ≡ Ok (k, rest)
unfolding brackets
brackets_end zero k rest h = refl
brackets_end (suc n) k rest h = rw h refl

brackets_go : (n k : ℕ) (left right : Token) (rest : List Token) → sort_of left ≡ sort.Left → sort_of right ≡ sort.Right → brackets (suc n) k (left ∷ right ∷ rest) ≡ brackets n (k + 1) rest
unfolding brackets next take_token
brackets_go n k left right rest hl hr = rw (hl, same_self sort.Left, expect_goes right rest hr) refl

pub brackets_read : {c : ℕ} {ts : List Token} → Brackets c ts → (n k : ℕ) → c ≤ n → (rest : List Token) → IsNot sort.Left rest → brackets n k (ts ++ rest) ≡ Ok (k + c, rest)
brackets_read none n k few rest h = brackets_end n k rest h ∙ ap (λ r. Ok (r, rest)) (omega arith)
brackets_read (pair hl hr b) zero k few rest h = absurd (omega arith)
brackets_read (pair {left = left} {right = right} {n = c} {ts = ts} hl hr b) (suc n) k few rest h =
    brackets_go n k left right (ts ++ rest) (left_sort hl) (right_sort hr) ∙ brackets_read b n (k + 1) (omega arith) rest h ∙ ap (λ r. Ok (r, rest)) (omega arith)

-- what follows brackets, or the first of them
pub brackets_not : {c : ℕ} {ts : List Token} → Brackets c ts → (s : Sort) → same_sort sort.Left s ≡ false → (rest : List Token) → IsNot s rest → IsNot s (ts ++ rest)
brackets_not none s q rest h = h
brackets_not (pair {left = left} {right = right} {ts = ts} hl hr b) s q rest h = is_not s sort.Left left (right ∷ ts ++ rest) (left_sort hl) q

pub array_built : (b : Bool) (n : ℕ) (base : TypeName) → b ≡ true → array_type b n base ≡ array_of n base
unfolding array_type
array_built b n base h = rw h refl

after_goes : (l : Limits) (base : TypeName) (k n : ℕ) (ts rest : List Token) → l.builds ≡ true → brackets (l.most - k) k ts ≡ Ok (n, rest) → type_after l base k ts ≡ Ok (array_of n base, rest)
unfolding type_after
after_goes l base k n ts rest b h = rw h (ap (λ r. Ok (r, rest)) (array_built l.builds n base b))

whole_goes : (l : Limits) (ts us rest : List Token) (base to : TypeName) → base_type l.turns ts ≡ Ok (base, us) → type_after l base 0 us ≡ Ok (to, rest) → whole_type l ts ≡ Ok (to, rest)
unfolding whole_type
whole_goes l ts us rest base to h q = rw (h, q) refl

pub whole_read : (l : Limits) {to : TypeName} {ts : List Token} → l.builds ≡ true → WholeType l.most to ts → length ts < l.turns → (rest : List Token) → IsNot sort.Dot rest → IsNot sort.Left rest
    → whole_type l (ts ++ rest) ≡ Ok (to, rest)
unfolding same_sort
whole_read l b (whole {base = base} {n = n} {ts = ts} {us = us} x y few) short rest d h =
    let z = length-append ts us in
    rw append_assoc (whole_goes l (ts ++ (us ++ rest)) (us ++ rest) rest base (array_of n base)
    (base_read x l.turns (omega arith) (us ++ rest) (brackets_not y sort.Dot refl rest d))
    (after_goes l base 0 n (us ++ rest) rest b (brackets_read y (l.most - 0) 0 (omega arith) rest h ∙ ap (λ r. Ok (r, rest)) (omega arith))))

pub checked : ℕ
checked = 1
