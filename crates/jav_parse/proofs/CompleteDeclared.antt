-- Declarations of members and bodies of classes of the grammar are read.
use Rattle.std.proofs.Common.{◌≡◌, ℕ, suc, ◌+◌, ◌<◌, ◌≤◌, Bool, true, false, List, [], ◌∷◌, ◌++◌, length, Option, Ok, refl, sym, ap, ◌∙◌, subst, append_assoc, arith}
use Rattle.std.proofs.lemmas.List.{length-append}
use Prim.Native.String.{String}
use Rattle.mol_base.specs.Among.{among}
use Rattle.mol_base.specs.Token.{Token}
use Rattle.mol_base.specs.declared.token_kind.TokenKind.TheVariants as kind
use Rattle.jav_tree.specs.declared.types.TypeName.{TypeName}
use Rattle.jav_tree.specs.declared.unit.Member.{Member}
use Rattle.jav_tree.specs.Tokens.{IsName, Comments}
use Rattle.jav_tree.specs.Members as tree
use Rattle.jav_tree.specs.Members.{Declared, Result}
use Rattle.jav_tree.specs.Words as written
use Rattle.jav_tree.specs.Words.{Words}
use Rattle.jav_parse_cursor.specs.declared.limits.Limits.{Limits}
use Rattle.jav_parse_cursor.specs.declared.sort.Sort.{Sort}
use Rattle.jav_parse_cursor.specs.declared.sort.Sort.TheVariants as sort
use Rattle.jav_parse_unit.specs.MemberRules.{declared}
use Rattle.jav_parse_cursor.specs.Reading.{sort as next}
use Rattle.jav_parse_cursor.specs.Sorts.{same_sort, sort_of, looked_up, keywords}
use Rattle.jav_parse.proofs.CompleteMembers.{field_read, method_read, abstract_read, constructor_read, behind, variables_apart}
use Rattle.jav_parse.proofs.CompleteParameters.{Short, type_not}
use Rattle.jav_parse.proofs.ReadingSteps.{IsNot, is_not}
use Rattle.jav_parse.proofs.SortsOfTokens.{symbol_sort, name_sort, keyword_sort}
use Rattle.jav_parse.proofs.StatementReads.{StatementReads}
use Rattle.jav_parse.proofs.TokenSorts.{name_is}
use Rattle.jav_parse.proofs.Written.{OneOf, texts_of, written as in_table}

-- ---- what members do not begin with

not_in_by : (b : Bool) (A : Type 0) → (b ≡ true → A) → (A → ⊥) → b ≡ false
not_in_by true A f n = absurd (n (f refl))
not_in_by false A f n = refl

-- a keyword is of no sort that no keyword has
keyword_not : (t : Token) (s : Sort) → t.kind ≡ kind.Keyword → same_sort sort.Other s ≡ false → (OneOf (texts_of s keywords) t.text → ⊥) → same_sort (sort_of t) s ≡ false
unfolding sort_of
keyword_not t s k other none = rw k (not_in_by (same_sort (looked_up keywords t.text) s) (OneOf (texts_of s keywords) t.text) (λ e. in_table keywords s t.text other e) none)

-- the modifiers that are keywords
abbrev pub modifiers : List String
modifiers = "public" ∷ "protected" ∷ "private" ∷ "abstract" ∷ "static" ∷ "final" ∷ "transient" ∷ "volatile" ∷ []

-- modifiers begin with no token of this sort, nor what follows them
pub words_not : {words : List (List ℕ)} {us : List Token} → Words words us → (s : Sort) → same_sort sort.Other s ≡ false → ((w : List ℕ) → among modifiers w ≡ true → OneOf (texts_of s keywords) w → ⊥) → same_sort sort.At s ≡ false
    → (rest : List Token) → IsNot s rest → IsNot s (us ++ rest)
unfolding next
words_not written.none s other none at rest h = h
words_not (written.keyword {t = t} {ts = ts} k a c) s other none at rest h = keyword_not t s k other (none t.text a)
words_not (written.override {sign = sign} {t = t} {ts = ts} hs hn e c) s other none at rest h = is_not s sort.At sign (t ∷ ts ++ rest) (symbol_sort "@" sign hs) at

result_not : {limit : ℕ} {to : TypeName} {vs : List Token} → Result limit to vs → (s : Sort) → same_sort sort.Name s ≡ false → same_sort sort.Prim s ≡ false → same_sort sort.Void s ≡ false → (rest : List Token) → IsNot s (vs ++ rest)
result_not (tree.void {t = t} h) s n m v rest = is_not s sort.Void t rest (keyword_sort "void" t h) v
result_not (tree.type h) s n m v rest = type_not h s n m rest

-- What stands here is neither a comment nor a brace.
abbrev Stands : List Token → Type 0
Stands ts = IsNot sort.Comment ts × IsNot sort.Finish ts

words_stand : {words : List (List ℕ)} {us : List Token} → Words words us → (rest : List Token) → Stands rest → Stands (us ++ rest)
unfolding same_sort
words_stand h rest k = (words_not h sort.Comment refl (λ w a n. n) refl rest k.0, words_not h sort.Finish refl (λ w a n. n) refl rest k.1)

result_stands : {limit : ℕ} {to : TypeName} {vs : List Token} → Result limit to vs → (rest : List Token) → Stands (vs ++ rest)
unfolding same_sort
result_stands h rest = (result_not h sort.Comment refl refl refl rest, result_not h sort.Finish refl refl refl rest)

name_stands : (t : Token) (rest : List Token) → IsName t → Stands (t ∷ rest)
unfolding same_sort
name_stands t rest h = (is_not sort.Comment sort.Name t rest (name_sort h) refl, is_not sort.Finish sort.Name t rest (name_sort h) refl)

-- ---- declarations

-- a declaration is read after its comments
pub record DeclaredRead (l : Limits) (class : Option (List ℕ)) (h : ℕ) (ms : List Member) (ts : List Token) : Type 0 where
  pub notes : List (List ℕ)
  pub cs : List Token
  pub us : List Token
  pub split : ts ≡ cs ++ us
  pub noted : Comments notes cs
  pub stands : (rest : List Token) → IsNot sort.Comment (us ++ rest) × IsNot sort.Finish (us ++ rest)
  pub read : (top : ℕ) → h ≤ top → (rest : List Token) → Short l us rest → declared l top class notes (us ++ rest) ≡ Ok (ms, rest)

field_tokens : (us vs ws : List Token) (semi name : Token) (others rest : List Token) → ws ≡ name ∷ others → (us ++ (vs ++ (ws ++ semi ∷ []))) ++ rest ≡ us ++ (vs ++ name ∷ (others ++ semi ∷ rest))
field_tokens us vs ws semi name others rest e = rw e (simp append_assoc refl)

field_length : (us vs : List Token) (name : Token) (others : List Token) (semi : Token) (rest : List Token) → length (us ++ (vs ++ name ∷ (others ++ semi ∷ rest))) ≡ length us + (length vs + suc (length others + suc (length rest)))
field_length us vs name others semi rest =
    let a = length-append us (vs ++ name ∷ (others ++ semi ∷ rest)) in
    let b = length-append vs (name ∷ (others ++ semi ∷ rest)) in
    let c = length-append others (semi ∷ rest) in omega arith

method_tokens : (us vs ws xs ys rest : List Token) (name : Token) → (us ++ (vs ++ (name ∷ ws ++ (xs ++ ys)))) ++ rest ≡ us ++ (vs ++ name ∷ (ws ++ (xs ++ (ys ++ rest))))
method_tokens us vs ws xs ys rest name = simp append_assoc refl

method_length : (us vs ws xs ys rest : List Token) (name : Token) → length (us ++ (vs ++ name ∷ (ws ++ (xs ++ (ys ++ rest))))) ≡ length us + (length vs + suc (length ws + (length xs + (length ys + length rest))))
method_length us vs ws xs ys rest name =
    let a = length-append us (vs ++ name ∷ (ws ++ (xs ++ (ys ++ rest)))) in
    let b = length-append vs (name ∷ (ws ++ (xs ++ (ys ++ rest)))) in
    let c = length-append ws (xs ++ (ys ++ rest)) in
    let d = length-append xs (ys ++ rest) in
    let e = length-append ys rest in omega arith

abstract_tokens : (us vs ws rest : List Token) (name semi : Token) → (us ++ (vs ++ (name ∷ ws ++ semi ∷ []))) ++ rest ≡ us ++ (vs ++ name ∷ (ws ++ semi ∷ rest))
abstract_tokens us vs ws rest name semi = simp append_assoc refl

abstract_length : (us vs ws rest : List Token) (name semi : Token) → length (us ++ (vs ++ name ∷ (ws ++ semi ∷ rest))) ≡ length us + (length vs + suc (length ws + suc (length rest)))
abstract_length us vs ws rest name semi = field_length us vs name ws semi rest

constructor_tokens : (us vs ws xs rest : List Token) (name : Token) → (us ++ (name ∷ vs ++ (ws ++ xs))) ++ rest ≡ us ++ name ∷ (vs ++ (ws ++ (xs ++ rest)))
constructor_tokens us vs ws xs rest name = simp append_assoc refl

constructor_length : (us vs ws xs rest : List Token) (name : Token) → length (us ++ name ∷ (vs ++ (ws ++ (xs ++ rest)))) ≡ length us + suc (length vs + (length ws + (length xs + length rest)))
constructor_length us vs ws xs rest name =
    let a = length-append us (name ∷ (vs ++ (ws ++ (xs ++ rest)))) in
    let b = length-append vs (ws ++ (xs ++ rest)) in
    let c = length-append ws (xs ++ rest) in
    let d = length-append xs rest in omega arith

-- the number of tokens after all, from the tokens in another order
short_by : (l : Limits) (ts rest us : List Token) (n : ℕ) → ts ++ rest ≡ us → length us ≡ n → Short l ts rest → n < l.turns
short_by l ts rest us n e f short = let a = length-append ts rest in let b = ap length e in omega arith

pub declared_read : (l : Limits) → l.builds ≡ true → StatementReads l → (class : Option (List ℕ)) (h : ℕ) (ms : List Member) (ts : List Token) → Declared l.most class h ms ts → DeclaredRead l class h ms ts
declared_read l b reads class h ms ts (tree.field {semi = semi} {front = front} {words = words} {to = to} {ds = ds} {ts = cs} {us = us} {vs = vs} {ws = ws} hc hw fit ht hv hs) =
    let r = reads.variables h ds ws hv in
    let all = us ++ (vs ++ (ws ++ semi ∷ [])) in
    record {
      notes = front;
      cs = cs;
      us = all;
      split = refl;
      noted = hc;
      stands = λ rest. subst Stands (sym (field_tokens us vs ws semi r.name r.others rest r.split)) (words_stand hw (vs ++ r.name ∷ (r.others ++ semi ∷ rest)) (result_stands (tree.type ht) (r.name ∷ (r.others ++ semi ∷ rest))));
      read = λ top low rest short.
          let e = field_tokens us vs ws semi r.name r.others rest r.split in
          ap (declared l top class front) e ∙ field_read l b reads top class front h low words us hw fit to vs ht ds r.name r.others (name_is r.name r.is_name)
          (λ z n. subst (λ q. IsNot sort.Open (behind q ++ z)) r.split (variables_apart hv z n)) (λ z n q. r.read top low z n q) semi hs rest
          (short_by l all rest (us ++ (vs ++ r.name ∷ (r.others ++ semi ∷ rest))) (length us + (length vs + suc (length r.others + suc (length rest)))) e (field_length us vs r.name r.others semi rest) short);
    }
declared_read l b reads class h ms ts (tree.method {name = name} {front = front} {words = words} {comments = before} {tail = tail} {to = to} {ps = ps} {items = items} {ts = cs} {us = us} {vs = vs} {ws = ws} {xs = xs} {ys = ys} hc hw fit ht hn hp hk hb) =
    let all = us ++ (vs ++ (name ∷ ws ++ (xs ++ ys))) in
    record {
      notes = front;
      cs = cs;
      us = all;
      split = refl;
      noted = hc;
      stands = λ rest. subst Stands (sym (method_tokens us vs ws xs ys rest name)) (words_stand hw (vs ++ name ∷ (ws ++ (xs ++ (ys ++ rest)))) (result_stands ht (name ∷ (ws ++ (xs ++ (ys ++ rest))))));
      read = λ top low rest short.
          let e = method_tokens us vs ws xs ys rest name in
          ap (declared l top class front) e ∙ method_read l b reads top class front h low words us hw fit to vs ht name hn ps ws hp before xs hk items tail ys hb rest
          (short_by l all rest (us ++ (vs ++ name ∷ (ws ++ (xs ++ (ys ++ rest))))) (length us + (length vs + suc (length ws + (length xs + (length ys + length rest))))) e (method_length us vs ws xs ys rest name) short);
    }
declared_read l b reads class h ms ts (tree.abstract_method {name = name} {semi = semi} {front = front} {words = words} {to = to} {ps = ps} {ts = cs} {us = us} {vs = vs} {ws = ws} hc hw fit ht hn hp hs) =
    let all = us ++ (vs ++ (name ∷ ws ++ semi ∷ [])) in
    record {
      notes = front;
      cs = cs;
      us = all;
      split = refl;
      noted = hc;
      stands = λ rest. subst Stands (sym (abstract_tokens us vs ws rest name semi)) (words_stand hw (vs ++ name ∷ (ws ++ semi ∷ rest)) (result_stands ht (name ∷ (ws ++ semi ∷ rest))));
      read = λ top low rest short.
          let e = abstract_tokens us vs ws rest name semi in
          ap (declared l top class front) e ∙ abstract_read l b reads top class front words us hw fit to vs ht name hn ps ws hp semi hs rest
          (short_by l all rest (us ++ (vs ++ name ∷ (ws ++ semi ∷ rest))) (length us + (length vs + suc (length ws + suc (length rest)))) e (abstract_length us vs ws rest name semi) short);
    }
declared_read l b reads class h ms ts (tree.constructor_of {name = name} {front = front} {words = words} {comments = before} {tail = tail} {ps = ps} {items = items} {ts = cs} {us = us} {vs = vs} {ws = ws} {xs = xs} hc hw fit hn may hp hk hb) =
    let all = us ++ (name ∷ vs ++ (ws ++ xs)) in
    record {
      notes = front;
      cs = cs;
      us = all;
      split = refl;
      noted = hc;
      stands = λ rest. subst Stands (sym (constructor_tokens us vs ws xs rest name)) (words_stand hw (name ∷ (vs ++ (ws ++ (xs ++ rest)))) (name_stands name (vs ++ (ws ++ (xs ++ rest))) hn));
      read = λ top low rest short.
          let e = constructor_tokens us vs ws xs rest name in
          ap (declared l top class front) e ∙ constructor_read l b reads top class front h low words us hw fit name hn may ps vs hp before ws hk items tail xs hb rest
          (short_by l all rest (us ++ name ∷ (vs ++ (ws ++ (xs ++ rest)))) (length us + suc (length vs + (length ws + (length xs + length rest)))) e (constructor_length us vs ws xs rest name) short);
    }
