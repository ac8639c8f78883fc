-- How operators before an operand, and casts, are read.
use Rattle.std.proofs.Common.{◌≡◌, ◌⊎◌, inl, inr, ℕ, zero, suc, ◌+◌, ◌-◌, ◌<◌, ◌≤◌, true, false, List, ◌∷◌, ◌++◌, length, nat_eq, Ok, refl, ap, ap₂, ◌∙◌, append_assoc, arith}
use Rattle.mol_base.specs.Token.{Token}
use Rattle.jav_tree.specs.declared.types.TypeName.{TypeName}
use Rattle.jav_tree.specs.declared.types.TypeName.TheVariants as ty
use Rattle.jav_tree.specs.Types.{IsPrimitive, Qualified, primitive, named, Brackets, none, pair, array_of, WholeType, whole, is_primitive}
use Rattle.jav_parse_cursor.specs.declared.limits.Limits.{Limits}
use Rattle.jav_parse_expr.specs.declared.primary.Goal.{Goal}
use Rattle.jav_parse_expr.specs.declared.primary.Goal.TheVariants.{Level, Target}
use Rattle.jav_parse_cursor.specs.declared.sort.Sort.{Sort}
use Rattle.jav_parse_cursor.specs.declared.sort.Sort.TheVariants as sort
use Rattle.jav_parse_cursor.specs.declared.tall.Tall.{Tall}
use Rattle.jav_parse_expr.specs.ExprRules.{begins_operand, cast, array_cast, primitive_cast, name_closed, opened_name, opened_at, opened, prefixed, operand_by, operand}
use Rattle.jav_parse_cursor.specs.Nodes as made
use Rattle.jav_parse_cursor.specs.Nodes.{text_of, array_type}
use Rattle.jav_parse_cursor.specs.Reading.{Parser, sort as next, take_token}
use Rattle.jav_parse_cursor.specs.Sorts.{same_sort, sort_of}
use Rattle.jav_parse_cursor.specs.TypeRules as rule
use Rattle.jav_parse_cursor.specs.TypeRules.{qualified, brackets}
use Rattle.jav_parse.proofs.CompleteTypes.{qualified_read, qualified_begins, text_read, brackets_read, array_built}
use Rattle.jav_parse.proofs.ReadingSteps.{IsNot, is_not, expect_goes, same_self, le_false, eq_false, sort_at, tokens_append}
use Rattle.jav_parse.proofs.SortsOfTokens.{is_prefix_sort, primitive_sort, left_sort, right_sort}

array_not_primitive : (to : TypeName) → is_primitive (ty.ArrayOf to) ≡ true → ⊥
unfolding Rattle.jav_tree.specs.declared.types.TypeName.TheViews.out-TypeName denote.Hole.Carrier.out
array_not_primitive to h = cc

named_not_primitive : (text : List ℕ) → is_primitive (ty.Named text) ≡ true → ⊥
unfolding Rattle.jav_tree.specs.declared.types.TypeName.TheViews.out-TypeName denote.Hole.Carrier.out
named_not_primitive text h = cc

module _ (l : Limits) (top : ℕ) (once twice : Goal → Parser Tall) where
  prefix_by : (s : Sort) (ts : List Token) → is_prefix_sort s ≡ true → operand_by l top once twice s ts ≡ prefixed l top once twice (Level 13) ts
  prefix_by sort.Sign ts h = refl
  prefix_by sort.Not ts h = refl
  prefix_by s ts h = absurd (cc)

  prefixed_goes : (goal : Goal) (op : Token) (us : List Token) (x : Tall) (rest : List Token) → 1 < top → once goal us ≡ Ok (x, rest) → prefixed l top once twice goal (op ∷ us) ≡ Ok (made.unary op x, rest)
  unfolding prefixed take_token
  prefixed_goes goal op us x rest low h = rw (le_false top 1 low, h) refl

  pub prefix_goes : (op : Token) (us : List Token) (x : Tall) (rest : List Token) → is_prefix_sort (sort_of op) ≡ true → 1 < top → once (Level 13) us ≡ Ok (x, rest)
      → operand l top once twice (op ∷ us) ≡ Ok (made.unary op x, rest)
  unfolding operand next
  prefix_goes op us x rest h low q = prefix_by (sort_of op) (op ∷ us) h ∙ prefixed_goes (Level 13) op us x rest low q

  pub step_goes : (op : Token) (us : List Token) (x : Tall) (rest : List Token) → sort_of op ≡ sort.Step → 1 < top → once Target us ≡ Ok (x, rest)
      → operand l top once twice (op ∷ us) ≡ Ok (made.unary op x, rest)
  unfolding operand next
  step_goes op us x rest h low q = rw h (prefixed_goes Target op us x rest low q)

  -- ---- casts

  cast_goes : (at : ℕ) (to : TypeName) (ts : List Token) (x : Tall) (rest : List Token) → once (Level 13) ts ≡ Ok (x, rest) → cast l top once twice at to ts ≡ Ok (made.cast at to x, rest)
  unfolding cast
  cast_goes at to ts x rest h = rw h refl

  array_goes : (at : ℕ) (base : TypeName) (n : ℕ) (close : Token) (ts : List Token) → sort_of close ≡ sort.Close → begins_operand (next ts) ≡ true
      → array_cast l top once twice at base n (close ∷ ts) ≡ cast l top once twice at (array_type l.builds n base) ts
  unfolding array_cast
  array_goes at base n close ts hc h = rw (expect_goes close ts hc, h) refl

  primitive_goes : (at : ℕ) (t : Token) (mid : List Token) (n : ℕ) (close : Token) (us : List Token) → sort_of t ≡ sort.Prim → brackets l.most 0 mid ≡ Ok (n, close ∷ us) → nat_eq n 0 ≡ false
      → primitive_cast l top once twice at (t ∷ mid) ≡ array_cast l top once twice at (ty.Prim t.text) n (close ∷ us)
  unfolding primitive_cast rule.primitive
  primitive_goes at t mid n close us ht h some = rw (expect_goes t mid ht, h, some) refl

  primitive_alone : (at : ℕ) (t : Token) (mid : List Token) (close : Token) (us : List Token) → sort_of t ≡ sort.Prim → brackets l.most 0 mid ≡ Ok (0, close ∷ us) → sort_of close ≡ sort.Close
      → primitive_cast l top once twice at (t ∷ mid) ≡ cast l top once twice at (ty.Prim t.text) us
  unfolding primitive_cast rule.primitive
  primitive_alone at t mid close us ht h hc = rw (expect_goes t mid ht, h) (rw (expect_goes close us hc) refl)

  name_alone : (at : ℕ) (ts names : List Token) (close : Token) (us : List Token) → qualified l.turns ts ≡ Ok (names, close ∷ us) → sort_of close ≡ sort.Close → begins_operand (next us) ≡ true
      → opened_name l top once twice at ts ≡ cast l top once twice at (ty.Named (text_of names)) us
  unfolding opened_name name_closed next take_token
  name_alone at ts names close us h hc q = rw (h, hc, q) refl

  name_array : (at : ℕ) (ts names : List Token) (left right : Token) (ws : List Token) (n : ℕ) (mid : List Token) → qualified l.turns ts ≡ Ok (names, left ∷ right ∷ ws) → sort_of left ≡ sort.Left
      → sort_of right ≡ sort.Right → brackets (l.most - 1) 1 ws ≡ Ok (n, mid) → opened_name l top once twice at ts ≡ array_cast l top once twice at (ty.Named (text_of names)) n mid
  unfolding opened_name next take_token
  name_array at ts names left right ws n mid h hl hr q = rw (h, hl, hr, same_self sort.Right, q) refl

  opened_is : (left : Token) (us : List Token) (s : Sort) → next us ≡ s → opened l top once twice (left ∷ us) ≡ opened_at l top once twice left.start s us
  unfolding opened take_token
  opened_is left us s h = rw h refl

  base_of : (n : ℕ) (base : TypeName) → l.builds ≡ true → array_type l.builds n base ≡ array_of n base
  base_of n base b = array_built l.builds n base b

  operand_or : (n : ℕ) (base : TypeName) (us : List Token) → (is_primitive (array_of (suc n) base) ≡ true) ⊎ (begins_operand (next us) ≡ true) → begins_operand (next us) ≡ true
  operand_or n base us (inl h) = absurd (array_not_primitive (array_of n base) h)
  operand_or n base us (inr h) = h

  named_or : (text : List ℕ) (us : List Token) → (is_primitive (ty.Named text) ≡ true) ⊎ (begins_operand (next us) ≡ true) → begins_operand (next us) ≡ true
  named_or text us (inl h) = absurd (named_not_primitive text h)
  named_or text us (inr h) = h

  close_not_left : (close : Token) (us : List Token) → sort_of close ≡ sort.Close → IsNot sort.Left (close ∷ us)
  unfolding same_sort
  close_not_left close us h = is_not sort.Left sort.Close close us h refl

  close_not_dot : (close : Token) (us : List Token) → sort_of close ≡ sort.Close → IsNot sort.Dot (close ∷ us)
  unfolding same_sort
  close_not_dot close us h = is_not sort.Dot sort.Close close us h refl

  left_not_dot : (left : Token) (us : List Token) → sort_of left ≡ sort.Left → IsNot sort.Dot (left ∷ us)
  unfolding same_sort
  left_not_dot left us h = is_not sort.Dot sort.Left left us h refl

  primitive_type : (left t : Token) (close : Token) (us : List Token) → l.builds ≡ true → IsPrimitive t → sort_of close ≡ sort.Close → (n : ℕ) (ws : List Token) → Brackets n ws → n ≤ l.most
      → (is_primitive (array_of n (ty.Prim t.text)) ≡ true) ⊎ (begins_operand (next us) ≡ true)
      → opened l top once twice (left ∷ t ∷ ws ++ close ∷ us) ≡ cast l top once twice left.start (array_of n (ty.Prim t.text)) us
  primitive_type left t close us b p hc zero ws none few may =
      opened_is left (t ∷ close ∷ us) sort.Prim (sort_at t (close ∷ us) ∙ primitive_sort p)
      ∙ primitive_alone left.start t (close ∷ us) close us (primitive_sort p) (brackets_read none l.most 0 few (close ∷ us) (close_not_left close us hc)) hc
  primitive_type left t close us b p hc (suc n) ws x few may =
      opened_is left (t ∷ ws ++ close ∷ us) sort.Prim (sort_at t (ws ++ close ∷ us) ∙ primitive_sort p)
      ∙ primitive_goes left.start t (ws ++ close ∷ us) (0 + suc n) close us (primitive_sort p) (brackets_read x l.most 0 few (close ∷ us) (close_not_left close us hc)) (eq_false (0 + suc n) 0 (omega arith))
      ∙ array_goes left.start (ty.Prim t.text) (0 + suc n) close us hc (operand_or n (ty.Prim t.text) us may)
      ∙ ap (λ to. cast l top once twice left.start to us) (base_of (0 + suc n) (ty.Prim t.text) b ∙ ap (λ m. array_of m (ty.Prim t.text)) (plain n))
    where
      plain : (n : ℕ) → 0 + suc n ≡ suc n
      plain n = omega arith

  named_type : (left : Token) (close : Token) (q : List ℕ) (ts us : List Token) → l.builds ≡ true → Qualified q ts → length ts < l.turns → sort_of close ≡ sort.Close → (n : ℕ) (ws : List Token) → Brackets n ws → n ≤ l.most
      → (is_primitive (array_of n (ty.Named q)) ≡ true) ⊎ (begins_operand (next us) ≡ true)
      → opened l top once twice (left ∷ ts ++ (ws ++ close ∷ us)) ≡ cast l top once twice left.start (array_of n (ty.Named q)) us
  named_type left close q ts us b x short hc zero ws none few may =
      opened_is left (ts ++ close ∷ us) sort.Name (qualified_begins x (close ∷ us))
      ∙ name_alone left.start (ts ++ close ∷ us) ts close us (qualified_read x l.turns short (close ∷ us) (close_not_dot close us hc)) hc (named_or q us may)
      ∙ ap (λ r. cast l top once twice left.start (ty.Named r) us) (text_read x)
  named_type left close q ts us b x short hc (suc n) ws (pair {left = first} {right = second} {ts = vs} hl hr y) few may =
      opened_is left (ts ++ (first ∷ second ∷ vs ++ close ∷ us)) sort.Name (qualified_begins x (first ∷ second ∷ vs ++ close ∷ us))
      ∙ name_array left.start (ts ++ (first ∷ second ∷ vs ++ close ∷ us)) ts first second (vs ++ close ∷ us) (1 + n) (close ∷ us)
      (qualified_read x l.turns short (first ∷ second ∷ vs ++ close ∷ us) (left_not_dot first (second ∷ vs ++ close ∷ us) (left_sort hl))) (left_sort hl) (right_sort hr)
      (brackets_read y (l.most - 1) 1 (omega arith) (close ∷ us) (close_not_left close us hc))
      ∙ array_goes left.start (ty.Named (text_of ts)) (1 + n) close us hc (operand_or n (ty.Named q) us may)
      ∙ ap (λ to. cast l top once twice left.start to us) (base_of (1 + n) (ty.Named (text_of ts)) b ∙ ap₂ (λ m r. array_of m (ty.Named r)) (plain n) (text_read x))
    where
      plain : (n : ℕ) → 1 + n ≡ suc n
      plain n = omega arith

  -- the type of a cast
  type_read : {to : TypeName} {ts : List Token} → WholeType l.most to ts → l.builds ≡ true → length ts < l.turns → (left close : Token) (us : List Token) → sort_of close ≡ sort.Close
      → (is_primitive to ≡ true) ⊎ (begins_operand (next us) ≡ true) → opened l top once twice (left ∷ ts ++ close ∷ us) ≡ cast l top once twice left.start to us
  type_read (whole {n = n} {us = ws} (primitive {t = t} p) y few) b short left close us hc may = primitive_type left t close us b p hc n ws y few may
  type_read (whole {n = n} {ts = ts} {us = ws} (named {q = q} x) y few) b short left close us hc may =
      rw append_assoc (named_type left close q ts us b x (omega (arith, tokens_append ts ws)) hc n ws y few may)

  open_is : (left : Token) (ts : List Token) → sort_of left ≡ sort.Open → 1 < top → operand l top once twice (left ∷ ts) ≡ opened l top once twice (left ∷ ts)
  unfolding operand next
  open_is left ts h low = rw (h, le_false top 1 low) refl

  pub cast_read : {to : TypeName} {ts : List Token} → WholeType l.most to ts → l.builds ≡ true → length ts < l.turns → (left close : Token) (us : List Token) (x : Tall) (rest : List Token) → sort_of left ≡ sort.Open
      → sort_of close ≡ sort.Close → (is_primitive to ≡ true) ⊎ (begins_operand (next us) ≡ true) → 1 < top → once (Level 13) us ≡ Ok (x, rest)
      → operand l top once twice (left ∷ ts ++ close ∷ us) ≡ Ok (made.cast left.start to x, rest)
  cast_read {to} {ts} t b short left close us x rest hl hc may low h =
      open_is left (ts ++ close ∷ us) hl low ∙ type_read t b short left close us hc may ∙ cast_goes left.start to us x rest h
