-- Array creations that are read are in the grammar, and what is refused could have gone on.
use Rattle.std.proofs.Common.{◌≡◌, ℕ, zero, suc, ◌+◌, ◌-◌, ◌<◌, ◌≤◌, max, true, List, [], ◌∷◌, ◌++◌, length, nat_eq, refl, sym, ap, ◌∙◌, subst, append_assoc, arith}
use Rattle.std.proofs.Math.Numerals.{add-one}
use Rattle.std.proofs.lemmas.List.{append-nil}
use Rattle.mol_base.specs.Token.{Token}
use Rattle.jav_tree.specs.Tokens.{IsSymbol, IsKeyword}
use Rattle.jav_tree.specs.declared.expr.Expr.{Expr}
use Rattle.jav_tree.specs.declared.expr.ExprNode.TheVariants as node
use Rattle.jav_tree.specs.declared.types.TypeName.{TypeName}
use Rattle.jav_tree.specs.Expressions as tree
use Rattle.jav_tree.specs.Expressions.{Expression, ArrayCreation, Sizes, expr_at}
use Rattle.jav_tree.specs.Types as types
use Rattle.jav_tree.specs.Types.{BaseType, Brackets, array_of}
use Rattle.jav_parse_cursor.specs.declared.limits.Limits.{Limits}
use Rattle.jav_parse_expr.specs.declared.primary.Rooms.{Rooms}
use Rattle.jav_parse_cursor.specs.declared.sort.Sort.{Sort}
use Rattle.jav_parse_cursor.specs.declared.sort.Sort.TheVariants as sort
use Rattle.jav_parse_cursor.specs.declared.tall.Tall.{Tall}
use Rattle.jav_parse_cursor.specs.declared.tall.Listed.{Listed}
use Rattle.jav_parse_cursor.specs.Nodes as made
use Rattle.jav_parse_cursor.specs.Nodes.{array_type}
use Rattle.jav_parse_expr.specs.PrimaryRules.{Inside, filled, empty_pairs, further_sizes, sized, array}
use Rattle.jav_parse_cursor.specs.Sorts.{sort_of}
use Rattle.jav_parse.proofs.Meets.{Some_of, some_of, ReadsAt, Reads, reads_pure, reads_refuse, reads_map, reads_bind, reads_made, reads_if, reads_when, reads_any, reads_token, reads_expect}
use Rattle.jav_parse.proofs.Samples.{a_left, a_right}
use Rattle.jav_parse.proofs.SoundLists.{reads_items}
use Rattle.jav_parse.proofs.SoundTypes.{AreBrackets, reads_brackets, array_is}
use Rattle.jav_parse.proofs.Tests.{some_is, more_is}
use Rattle.jav_parse.proofs.TokenSorts.{left_is, right_is}
use Rattle.jav_parse.proofs.Within.{IsBuilding, IsLevel, AreItems, IsPart, ReadsInside}

-- Bracketed m h es ts: sizes in brackets, any number of them; the height is that of the highest.
pub data Bracketed (m : ℕ) : ℕ → List Expr → List Token → Type 0 where
  none : Bracketed m 0 [] []
  more : {h k : ℕ} {left right : Token} {e : Expr} {es : List Expr} {ts us : List Token} → IsSymbol "[" left → Expression m 1 h e ts → IsSymbol "]" right → Bracketed m k es us
      → Bracketed m (max h k) (e ∷ es) (left ∷ ts ++ right ∷ us)

sizes : {m k : ℕ} {es : List Expr} {us : List Token} → Bracketed m k es us → (h : ℕ) (e : Expr) (ts : List Token) (left right : Token) → IsSymbol "[" left → Expression m 1 h e ts → IsSymbol "]" right
    → Sizes m (max h k) (e ∷ es) (left ∷ ts ++ right ∷ us)
sizes none h e ts left right hl x hr = let z : max h 0 ≡ h = omega arith in rw z (tree.last_size hl x hr)
sizes (more {h = h} {left = first} {right = last} {e = d} {ts = us} gl y gr rest) j e ts left right hl x hr = tree.more_sizes hl x hr (sizes rest h d us first last gl y gr)

abbrev both : Listed → List Expr → ℕ → Listed
both all es h = record { exprs = all.exprs ++ es; height = max all.height h }

both_none : (all : Listed) → all ≡ both all [] 0
both_none all = let z : max all.height 0 ≡ all.height = omega arith in rw (z, append-nil) refl

both_more : (all : Listed) (x : Tall) (es : List Expr) (h : ℕ) → both (made.with all x) es h ≡ both all (x.expr ∷ es) (max x.height h)
both_more all x es h = let z : max (max all.height x.height) h ≡ max all.height (max x.height h) = omega arith in rw (z, append_assoc) refl

module _ (l : Limits) (good : IsBuilding l) (top : ℕ) (rooms : Rooms) (e : Inside) (inner : ReadsInside l rooms e) (word : Token) (new : IsKeyword "new" word)
    (base : TypeName) (bs : List Token) (hb : BaseType base bs) where
  filled_part : (n : ℕ) (us : List Token) → AreBrackets (l.most - 1) 1 n us → (left right : Token) → sort_of left ≡ sort.Left → sort_of right ≡ sort.Right
      → (all : Listed) (vs : List Token) → AreItems l rooms.rest all vs → IsPart l rooms (made.filled word.start (array_type l.builds n base) all) (word ∷ bs ++ (left ∷ right ∷ (us ++ vs)))
  filled_part n us b left right hl hr all vs hi =
      let count : n ≡ suc b.count = let s = b.sum in omega arith in
      let few : suc b.count ≤ l.most = let s = b.few in let m = good.some in omega arith in
      let to = array_is l good.builds n base ∙ ap (λ r. array_of r base) count in (
        subst (λ t. ArrayCreation l.most (all.height + 1) (expr_at word.start (node.ArrayLit t all.exprs)) (word ∷ bs ++ (left ∷ right ∷ (us ++ vs)))) (sym to)
            (rw add-one (tree.filled new hb (types.pair (left_is left hl) (right_is right hr) b.pairs) few hi.0)),
        hi.1,
      )

  reads_filled : 0 < rooms.rest → (left : Token) → sort_of left ≡ sort.Left → Reads (λ y vs. IsPart l rooms y (word ∷ bs ++ (left ∷ vs))) (filled l top rooms e word.start base)
  unfolding filled
  reads_filled some left hl = reads_expect a_right (λ right hr. reads_bind (reads_brackets (l.most - 1) 1)
      (λ n us b. reads_made (made.filled word.start (array_type l.builds n base)) (reads_items l rooms.rest e.init some inner.init l.turns) (λ all vs hi. filled_part n us b left right hl hr all vs hi)))

  -- the sizes after those of all, at most n of them and of pairs of brackets
  record SizedBy (n : ℕ) (all : Listed) (y : Tall) (ts : List Token) : Type 0 where
    es : List Expr
    h : ℕ
    count : ℕ
    us : List Token
    vs : List Token
    are : Bracketed l.most h es us
    pairs : Brackets count vs
    tokens : ts ≡ us ++ vs
    few : length es + count ≤ n
    low : h ≤ rooms.rest - 1
    made_is : y ≡ made.sized word.start base (both all es h) count

  no_sizes : (n count : ℕ) (all : Listed) (vs : List Token) → Brackets count vs → count ≤ n → SizedBy n all (made.sized word.start base all count) vs
  no_sizes n count all vs pairs few = record {
    es = [];
    h = 0;
    count = count;
    us = [];
    vs = vs;
    are = none;
    pairs = pairs;
    tokens = refl;
    few = omega arith;
    low = omega arith;
    made_is = ap (λ r. made.sized word.start base r count) (both_none all);
  }

  more_sizes : (n : ℕ) (all : Listed) (left right : Token) → sort_of left ≡ sort.Left → sort_of right ≡ sort.Right → (x : Tall) (us : List Token) → IsLevel l 1 (rooms.rest - 1) x us
      → (y : Tall) (ws : List Token) → SizedBy n (made.with all x) y ws → SizedBy (suc n) all y (left ∷ (us ++ (right ∷ ws)))
  more_sizes n all left right hl hr x us hx y ws k = record {
    es = x.expr ∷ k.es;
    h = max x.height k.h;
    count = k.count;
    us = left ∷ us ++ right ∷ k.us;
    vs = k.vs;
    are = more (left_is left hl) hx.0 (right_is right hr) k.are;
    pairs = k.pairs;
    tokens = ap (λ r. left ∷ (us ++ (right ∷ r))) k.tokens ∙ sym (ap (λ r. left ∷ r) (append_assoc us (right ∷ k.us) k.vs));
    few = let a = k.few in omega arith;
    low = let a = k.low in let b = hx.1 in omega arith;
    made_is = k.made_is ∙ ap (λ r. made.sized word.start base r k.count) (both_more all x k.es k.h);
  }

  reads_empty_pairs : (n k : ℕ) → 0 < n → n + k ≡ l.most → (all : Listed) (left : Token) → sort_of left ≡ sort.Left
      → Reads (λ y vs. SizedBy n all y (left ∷ vs)) (empty_pairs l top rooms e word.start base all k)
  unfolding empty_pairs
  reads_empty_pairs n k some sum all left hl = reads_expect a_right (λ right hr.
      reads_made (λ pairs. made.sized word.start base all (pairs - k)) (reads_brackets (l.most - (k + 1)) (k + 1))
      (λ pairs us b. let few : suc b.count ≤ n = let f = b.few in omega arith in let e : suc b.count ≡ pairs - k = let f = b.sum in omega arith in
      subst (λ c. SizedBy n all (made.sized word.start base all c) (left ∷ right ∷ us)) e
      (no_sizes n (suc b.count) all (left ∷ right ∷ us) (types.pair (left_is left hl) (right_is right hr) b.pairs) few)))

  reads_further_sizes : 1 < rooms.rest → (n k : ℕ) → n + k ≡ l.most → (all : Listed) → Reads (λ y vs. SizedBy n all y vs) (further_sizes l top rooms e word.start base n k all)
  unfolding further_sizes
  reads_further_sizes p zero k sum all = reads_pure (made.sized word.start base all 0) (no_sizes 0 0 all [] types.none (omega arith))
  reads_further_sizes p (suc n) k sum all = reads_when sort.Left
      (reads_token (λ z. cc) (λ left hl. reads_when sort.Right
      (reads_any (reads_empty_pairs (suc n) k (omega arith) sum all left hl))
      (reads_any (reads_bind (inner.within p) (λ x us hx. reads_expect a_right (λ right hr.
      reads_map (reads_further_sizes p n (k + 1) (omega arith) (made.with all x)) (λ y ws j. more_sizes n all left right hl hr x us hx y ws j)))))))
      (reads_pure (made.sized word.start base all 0) (no_sizes (suc n) 0 all [] types.none (omega arith)))

  sized_part : 1 < rooms.rest → (left right : Token) → sort_of left ≡ sort.Left → sort_of right ≡ sort.Right → (x : Tall) (us : List Token) → IsLevel l 1 (rooms.rest - 1) x us
      → (y : Tall) (ws : List Token) → SizedBy (l.most - 1) (made.with made.no_exprs x) y ws → IsPart l rooms y (word ∷ bs ++ (left ∷ (us ++ (right ∷ ws))))
  sized_part p left right hl hr x us hx y ws k =
      let eh : suc (max x.height k.h) ≡ max (max 0 x.height) k.h + 1 = omega arith in
      let few : length (x.expr ∷ k.es) + k.count ≤ l.most = let a = k.few in let b = good.some in omega arith in
      let et : (left ∷ us ++ right ∷ k.us) ++ k.vs ≡ left ∷ (us ++ (right ∷ ws)) =
      ap (λ r. left ∷ r) (append_assoc us (right ∷ k.us) k.vs) ∙ ap (λ r. left ∷ (us ++ (right ∷ r))) (sym k.tokens) in
      let all = sizes k.are x.height x.expr us left right (left_is left hl) hx.0 (right_is right hr) in
      let a = k.low in let b = hx.1 in
      let tall : max (max 0 x.height) k.h + 1 ≤ rooms.rest = omega arith in
      subst (λ r. IsPart l rooms r (word ∷ bs ++ (left ∷ (us ++ (right ∷ ws))))) (sym k.made_is) (
        subst (λ h. ArrayCreation l.most h (expr_at word.start (node.NewArray base (x.expr ∷ k.es) k.count)) (word ∷ bs ++ (left ∷ (us ++ (right ∷ ws))))) eh
            (subst (λ r. ArrayCreation l.most (suc (max x.height k.h)) (expr_at word.start (node.NewArray base (x.expr ∷ k.es) k.count)) (word ∷ bs ++ r)) et
            (tree.sized new hb all k.pairs few)),
        tall,
      )

  reads_sized : 1 < rooms.rest → (left : Token) → sort_of left ≡ sort.Left → Reads (λ y vs. IsPart l rooms y (word ∷ bs ++ (left ∷ vs))) (sized l top rooms e word.start base)
  unfolding sized
  reads_sized p left hl = reads_bind (inner.within p) (λ x us hx. reads_expect a_right (λ right hr.
      reads_map (reads_further_sizes p (l.most - 1) 1 (let s = good.some in omega arith) (made.with made.no_exprs x)) (λ y ws k. sized_part p left right hl hr x us hx y ws k)))

  pub reads_array : {P : Sort → Type 0} → (nat_eq rooms.rest 0 ≡ true → Some_of (λ y vs. IsPart l rooms y (word ∷ bs ++ vs)))
      → ReadsAt (λ y vs. IsPart l rooms y (word ∷ bs ++ vs)) P (array l top rooms e word.start base)
  unfolding array
  reads_array some = reads_if (nat_eq rooms.rest 0) (λ b. reads_refuse (some b)) (λ b. let p = some_is rooms.rest b in
      reads_expect a_left (λ left hl. reads_when sort.Right
      (reads_any (reads_filled p left hl))
      (reads_any (reads_if (nat_eq rooms.rest 1)
      (λ c. reads_refuse (some_of (reads_filled p left hl)))
      (λ c. reads_sized (more_is rooms.rest b c) left hl)))))
