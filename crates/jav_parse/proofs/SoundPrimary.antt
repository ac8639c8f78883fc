-- Expressions of level 15 and array creations that are read are in the grammar, within the room for their shape, and what is
-- refused could have gone on.
use Rattle.std.proofs.Common.{◌≡◌, inl, inr, ℕ, zero, suc, ◌+◌, ◌-◌, ◌<◌, max, ◌||◌, Bool, true, false, List, [], ◌∷◌, ◌++◌, nat_eq, nat_le, refl, sym, subst, append_assoc, arith}
use Rattle.std.proofs.Math.Numerals.{add-one}
use Rattle.std.proofs.lemmas.List.{append-nil}
use Rattle.mol_base.specs.Token.{Token}
use Rattle.jav_tree.specs.Tokens.{IsSymbol, IsKeyword}
use Rattle.jav_tree.specs.declared.expr.Expr.{Expr}
use Rattle.jav_tree.specs.declared.expr.ExprNode.TheVariants as node
use Rattle.jav_tree.specs.declared.types.TypeName.{TypeName}
use Rattle.jav_tree.specs.declared.types.TypeName.TheVariants as ty
use Rattle.jav_tree.specs.Expressions as tree
use Rattle.jav_tree.specs.Expressions.{Expression, Primary, expr_at}
use Rattle.jav_parse_cursor.specs.declared.limits.Limits.{Limits}
use Rattle.jav_parse_expr.specs.declared.primary.Rooms.{Rooms}
use Rattle.jav_parse_cursor.specs.declared.sort.Sort.{Sort}
use Rattle.jav_parse_cursor.specs.declared.sort.Sort.TheVariants as sort
use Rattle.jav_parse_cursor.specs.declared.tall.Shape.{Shape}
use Rattle.jav_parse_cursor.specs.declared.tall.Shape.TheVariants.{Target, Invocation, Atom, Array, Loose}
use Rattle.jav_parse_cursor.specs.declared.tall.Tall.{Tall}
use Rattle.jav_parse_cursor.specs.declared.tall.Listed.{Listed}
use Rattle.jav_parse_cursor.specs.Nodes as made
use Rattle.jav_parse_cursor.specs.Nodes.{is_array, text_of}
use Rattle.jav_parse_expr.specs.PrimaryRules.{Inside, is_link, arguments, creation, super_call, name, parens, primary_by, primary, call_on, member_name, member_named, member, index, item, link_by, link, chain, part}
use Rattle.jav_parse_cursor.specs.Reading.{Parser, ◌>>◌, refuse, take_token, expect}
use Rattle.jav_parse_cursor.specs.Sorts.{sort_of}
use Rattle.jav_parse.proofs.Meets.{Spelling, Some_of, some_of, ReadsAt, Reads, reads_pure, reads_refuse, reads_map, reads_bind, reads_made, reads_if, reads_if_then, reads_when, reads_any, reads_token, reads_expect, reads_last, reads_peek}
use Rattle.jav_parse.proofs.Samples.{a_name, a_dot, a_close, a_right}
use Rattle.jav_parse.proofs.SoundArrays.{reads_array}
use Rattle.jav_parse.proofs.SoundLists.{reads_arguments}
use Rattle.jav_parse.proofs.SoundNames.{called_part}
use Rattle.jav_parse.proofs.SoundTypes.{IsNamedType, IsNames, qualified_is, primitive_base, named_base, reads_primitive, reads_named_type}
use Rattle.jav_parse.proofs.Tests.{le_not, some_is}
use Rattle.jav_parse.proofs.TokenSorts.{name_is, literal_is, this_is, super_is, new_is, dot_is, open_is, close_is, left_is, right_is}
use Rattle.jav_parse.proofs.Within.{IsBuilding, IsLevel, AreArguments, IsPart, Shaped, room, HasRoom, ReadsInside, tall_part, before_dot, some_level}

pub or_false : (a b : Bool) → (a || b) ≡ false → (a ≡ false) × (b ≡ false)
or_false true b h = absurd (cc)
or_false false b h = (refl, h)

-- no arguments
none_of : (l : Limits) (room : ℕ) (e : Parser Tall) → 0 < l.most → 0 < room → Some_of (AreArguments l room)
none_of l room e some p = some_of (reads_arguments l room refuse some p (λ q. reads_refuse (some_level l 1 (room - 1) (omega arith))))

-- an item of what is no array creation
indexed_tree : (m : ℕ) (s : Shape) → is_array s ≡ false → (h k : ℕ) (e i : Expr) (ts us : List Token) (left right : Token) → Shaped m s h e ts → IsSymbol "[" left
    → Expression m 1 k i us → IsSymbol "]" right → Primary m tree.target (suc (max h k)) (expr_at e.at (node.Index e i)) (ts ++ (left ∷ us ++ right ∷ []))
indexed_tree m Target a h k e i ts us left right p hl x hr = tree.index p hl x hr
indexed_tree m Invocation a h k e i ts us left right p hl x hr = tree.index p hl x hr
indexed_tree m Atom a h k e i ts us left right p hl x hr = tree.index p hl x hr
indexed_tree m Array a h k e i ts us left right p hl x hr = absurd (cc)
indexed_tree m Loose a h k e i ts us left right p hl x hr = absurd p

pub paren_part : (l : Limits) (rooms : Rooms) (left right : Token) → sort_of left ≡ sort.Open → sort_of right ≡ sort.Close → (x : Tall) (us : List Token) → IsLevel l 1 (rooms.rest - 1) x us
    → 1 < rooms.rest → IsPart l rooms (made.in_parens left.start x) (left ∷ (us ++ right ∷ []))
paren_part l rooms left right hl hr x us hx p = (rw add-one (tree.paren (open_is left hl) hx.0 (close_is right hr)), let a = hx.1 in omega arith)

module _ (l : Limits) (good : IsBuilding l) (top : ℕ) (rooms : Rooms) (has : HasRoom top rooms) (e : Inside) (inner : ReadsInside l rooms e) where
  pub reads_args : {P : Sort → Type 0} → 0 < rooms.invocation → ReadsAt (AreArguments l rooms.invocation) P (arguments l.most rooms.invocation e.argument)
  reads_args p = reads_arguments l rooms.invocation e.argument good.some p inner.argument

  -- ---- names, and what begins with a word

  name_part : (t : Token) → sort_of t ≡ sort.Name → 0 < rooms.target → IsPart l rooms (made.name t) (t ∷ [])
  name_part t ht p = (tree.name (name_is t ht), omega arith)

  some_call : (t : Token) → sort_of t ≡ sort.Name → 0 < rooms.invocation → Some_of (λ y vs. IsPart l rooms y (t ∷ vs))
  some_call t ht p = let args = none_of l rooms.invocation refuse good.some p in (made.called t args.0, args.1, called_part l rooms t (name_is t ht) args.0 args.1 args.2)

  after_name : (t : Token) → sort_of t ≡ sort.Name → Some_of (λ y vs. IsPart l rooms y (t ∷ vs))
  after_name t ht = elim (has.goes_on) [ inl g ↦ some_call t ht (let p = has.some in omega arith) | inr g ↦ (made.name t, [], name_part t ht (let p = has.some in omega arith)) ]

  pub some_part : Some_of (IsPart l rooms)
  some_part = let k = after_name a_name.token a_name.is in (k.0, a_name.token ∷ k.1, k.2)

  reads_name : Reads (IsPart l rooms) (name l top rooms e)
  unfolding name
  reads_name = reads_expect a_name (λ t ht. reads_when sort.Open
      (reads_if (nat_eq rooms.invocation 0) (λ b. reads_refuse (after_name t ht))
      (λ b. reads_made (λ args. made.called t args) (reads_args (some_is rooms.invocation b)) (λ args us ha. called_part l rooms t (name_is t ht) args us ha)))
      (reads_if (nat_eq rooms.target 0) (λ b. reads_refuse (after_name t ht)) (λ b. reads_pure (made.name t) (name_part t ht (some_is rooms.target b)))))

  created_part : (word : Token) → IsKeyword "new" word → (base : TypeName) (us : List Token) → IsNamedType base us → (args : Listed) (vs : List Token) → AreArguments l rooms.invocation args vs
      → IsPart l rooms (made.created word.start base args) (word ∷ (us ++ vs))
  created_part word hw base us hb args vs ha =
      (subst (λ t. Primary l.most tree.invocation (args.height + 1) (expr_at word.start (node.New t args.exprs)) (word ∷ (us ++ vs))) (sym hb.0) (rw add-one (tree.new hw (qualified_is us hb.1) ha.0)), ha.1)

  some_created : 0 < rooms.invocation → (word : Token) → IsKeyword "new" word → (base : TypeName) (us : List Token) → IsNamedType base us → Some_of (λ y vs. IsPart l rooms y (word ∷ us ++ vs))
  some_created p word hw base us hb = let args = none_of l rooms.invocation refuse good.some p in
      (made.created word.start base args.0, args.1, created_part word hw base us hb args.0 args.1 args.2)

  a_type : IsNamedType (ty.Named (text_of (a_name.token ∷ []))) (a_name.token ∷ [])
  a_type = (refl, (name_is a_name.token a_name.is, Rattle.jav_parse.proofs.SoundTypes.Dots.none))

  reads_creation : ReadsAt (IsPart l rooms) (λ u. u ≡ sort.New) (creation l top rooms e)
  unfolding creation
  reads_creation = reads_if (nat_eq rooms.invocation 0) (λ b. reads_refuse some_part) (λ b. let p = some_is rooms.invocation b in
      reads_token (λ z. cc) (λ word hw. let new = new_is word hw in reads_when sort.Prim
      (reads_if (nat_eq rooms.rest 0)
      (λ c. reads_refuse (let k = some_created p word new (ty.Named (text_of (a_name.token ∷ []))) (a_name.token ∷ []) a_type in (k.0, a_name.token ∷ k.1, k.2)))
      (λ c. reads_bind reads_primitive (λ to us k. reads_array l good top rooms e inner word new to us (primitive_base to us k) (λ z. absurd (cc)))))
      (reads_bind (reads_named_type l.turns) (λ to us k. reads_when sort.Open
      (reads_made (λ args. made.created word.start to args) (reads_args p) (λ args vs ha. created_part word new to us k args vs ha))
      (reads_array l good top rooms e inner word new to us (named_base to us k) (λ z. some_created p word new to us k))))))

  super_part : (word dot t : Token) → IsKeyword "super" word → sort_of dot ≡ sort.Dot → sort_of t ≡ sort.Name → (args : Listed) (vs : List Token) → AreArguments l rooms.invocation args vs
      → IsPart l rooms (made.super_called word.start t args) (word ∷ dot ∷ t ∷ vs)
  super_part word dot t hw hd ht args vs ha = (rw add-one (tree.super_call hw (dot_is dot hd) (name_is t ht) ha.0), ha.1)

  pub reads_super_call : 0 < rooms.invocation → (word : Token) → IsKeyword "super" word → Reads (λ y vs. IsPart l rooms y (word ∷ vs)) (super_call l top rooms e word.start)
  unfolding super_call
  reads_super_call p word hw = reads_expect a_dot (λ dot hd. reads_expect a_name (λ t ht.
      reads_made (λ args. made.super_called word.start t args) (reads_args p) (λ args vs ha. super_part word dot t hw hd ht args vs ha)))

  reads_parens : ReadsAt (IsPart l rooms) (λ u. u ≡ sort.Open) (parens l top rooms e)
  unfolding parens
  reads_parens = reads_if (nat_le rooms.rest 1) (λ b. reads_refuse some_part) (λ b. let p = le_not rooms.rest 1 b in
      reads_token (λ z. cc) (λ left hl. reads_bind (inner.within p) (λ x us hx.
      reads_expect a_close (λ right hr. reads_pure (made.in_parens left.start x) (paren_part l rooms left right hl hr x us hx p)))))

  literal_part : (t : Token) → sort_of t ≡ sort.Literal → 0 < rooms.rest → IsPart l rooms (made.literal t) (t ∷ [])
  literal_part t ht p = (tree.literal (literal_is t ht), omega arith)

  this_part : (t : Token) → sort_of t ≡ sort.This → 0 < rooms.rest → IsPart l rooms (made.this t) (t ∷ [])
  this_part t ht p = (tree.this (this_is t ht), omega arith)

  reads_primary_by : (s : Sort) → ReadsAt (IsPart l rooms) (λ u. u ≡ s) (primary_by l top rooms e s)
  reads_primary_by sort.Name = reads_any reads_name
  reads_primary_by sort.Literal = reads_if (nat_eq rooms.rest 0) (λ b. reads_refuse some_part)
      (λ b. reads_token (λ z. cc) (λ t ht. reads_pure (made.literal t) (literal_part t ht (some_is rooms.rest b))))
  reads_primary_by sort.This = reads_if (nat_eq rooms.rest 0) (λ b. reads_refuse some_part)
      (λ b. reads_token (λ z. cc) (λ t ht. reads_pure (made.this t) (this_part t ht (some_is rooms.rest b))))
  reads_primary_by sort.Super = reads_if (nat_eq rooms.invocation 0) (λ b. reads_refuse some_part)
      (λ b. reads_token (λ z. cc) (λ t ht. reads_super_call (some_is rooms.invocation b) t (super_is t ht)))
  reads_primary_by sort.New = reads_creation
  reads_primary_by sort.Open = reads_parens
  reads_primary_by s = reads_refuse some_part

  -- ---- what goes on from a part

  dotted_part : (x : Tall) (front : List Token) → IsPart l rooms x front → x.height < rooms.target → (dot t : Token) → sort_of dot ≡ sort.Dot → sort_of t ≡ sort.Name
      → IsPart l rooms (made.dotted x t) (front ++ dot ∷ t ∷ [])
  dotted_part x front h p dot t hd ht = (rw add-one (tree.field (before_dot l.most x.shape x.height x.expr front h.0) (dot_is dot hd) (name_is t ht)), omega arith)

  called_on_part : (x : Tall) (front : List Token) → IsPart l rooms x front → x.height < rooms.invocation → (dot t : Token) → sort_of dot ≡ sort.Dot → sort_of t ≡ sort.Name
      → (args : Listed) (vs : List Token) → AreArguments l rooms.invocation args vs → IsPart l rooms (made.called_on x t args) (front ++ dot ∷ t ∷ vs)
  called_on_part x front h p dot t hd ht args vs ha = (rw add-one (tree.call_on (before_dot l.most x.shape x.height x.expr front h.0) (dot_is dot hd) (name_is t ht) ha.0), let a = ha.1 in omega arith)

  pub some_call_on : (x : Tall) (front : List Token) → IsPart l rooms x front → x.height < rooms.invocation → (dot t : Token) → sort_of dot ≡ sort.Dot → sort_of t ≡ sort.Name
      → Some_of (λ y vs. IsPart l rooms y (front ++ dot ∷ t ∷ vs))
  some_call_on x front h p dot t hd ht = let args = none_of l rooms.invocation refuse good.some (omega arith) in
      (made.called_on x t args.0, args.1, called_on_part x front h p dot t hd ht args.0 args.1 args.2)

  after_member : (x : Tall) (front : List Token) → IsPart l rooms x front → x.height < top → (dot t : Token) → sort_of dot ≡ sort.Dot → sort_of t ≡ sort.Name
      → Some_of (λ y vs. IsPart l rooms y (front ++ dot ∷ t ∷ vs))
  after_member x front h p dot t hd ht = elim (has.goes_on) [
    | inl g ↦ some_call_on x front h (omega arith) dot t hd ht
    | inr g ↦ (made.dotted x t, [], dotted_part x front h (omega arith) dot t hd ht)
  ]

  reads_member_named : (x : Tall) (front : List Token) → IsPart l rooms x front → x.height < top → (dot t : Token) → sort_of dot ≡ sort.Dot → sort_of t ≡ sort.Name
      → Reads (λ y vs. IsPart l rooms y (front ++ dot ∷ t ∷ vs)) (member_named l top rooms e x t)
  unfolding member_named call_on
  reads_member_named x front h p dot t hd ht = reads_when sort.Open
      (reads_if (nat_le rooms.invocation x.height) (λ b. reads_refuse (after_member x front h p dot t hd ht))
      (λ b. let q = le_not rooms.invocation x.height b in
      reads_made (λ args. made.called_on x t args) (reads_args (omega arith)) (λ args vs ha. called_on_part x front h q dot t hd ht args vs ha)))
      (reads_if (nat_le rooms.target x.height) (λ b. reads_refuse (after_member x front h p dot t hd ht))
      (λ b. reads_pure (made.dotted x t) (dotted_part x front h (le_not rooms.target x.height b) dot t hd ht)))

  -- a dot and this name
  abbrev IsMember : Spelling Token
  IsMember t us = (dot : Token) × (us ≡ dot ∷ t ∷ []) × (sort_of dot ≡ sort.Dot) × (sort_of t ≡ sort.Name)

  reads_member : (x : Tall) (front : List Token) → IsPart l rooms x front → ReadsAt (λ y vs. IsPart l rooms y (front ++ vs)) (λ u. u ≡ sort.Dot) (member l top rooms e x)
  unfolding member member_name
  reads_member x front h = reads_if_then (nat_le top x.height) refuse (take_token >> expect sort.Name) (member_named l top rooms e x)
      (λ b. reads_refuse (x, [], rw append-nil h))
      (λ b. reads_bind {R = IsMember} (reads_token (λ z. cc) (λ dot hd. reads_last a_name (λ t ht. (dot, refl, hd, ht))))
      (λ t us k. subst (λ r. Reads (λ y vs. IsPart l rooms y (front ++ (r ++ vs))) (member_named l top rooms e x t)) (sym k.1)
      (reads_member_named x front h (le_not top x.height b) k.0 t k.2 k.3)))

  index_part : (x : Tall) (front : List Token) → IsPart l rooms x front → is_array x.shape ≡ false → x.height < rooms.target → (left right : Token) → sort_of left ≡ sort.Left → sort_of right ≡ sort.Right
      → (i : Tall) (us : List Token) → IsLevel l 1 (rooms.target - 1) i us → IsPart l rooms (made.indexed x i) (front ++ (left ∷ (us ++ right ∷ [])))
  index_part x front h a p left right hl hr i us hi =
      (rw add-one (indexed_tree l.most x.shape a x.height i.height x.expr i.expr front us left right h.0 (left_is left hl) hi.0 (right_is right hr)), let b = hi.1 in omega arith)

  pub reads_index : (x : Tall) (front : List Token) → IsPart l rooms x front → is_array x.shape ≡ false → x.height < rooms.target → (left : Token) → sort_of left ≡ sort.Left
      → Reads (λ y vs. IsPart l rooms y (front ++ (left ∷ vs))) (index l top rooms e x)
  unfolding index
  reads_index x front h a p left hl =
      let some = tall_part l.most x.shape x.height x.expr front h.0 in
      reads_bind (inner.index (omega arith)) (λ i us hi. reads_expect a_right (λ right hr. reads_pure (made.indexed x i) (index_part x front h a p left right hl hr i us hi)))

  reads_item : (x : Tall) (front : List Token) → IsPart l rooms x front → ReadsAt (λ y vs. IsPart l rooms y (front ++ vs)) (λ u. u ≡ sort.Left) (item l top rooms e x)
  unfolding item
  reads_item x front h = reads_if (is_array x.shape || nat_le rooms.target x.height) (λ b. reads_refuse (x, [], rw append-nil h))
      (λ b. let k = or_false (is_array x.shape) (nat_le rooms.target x.height) b in
      reads_token (λ z. cc) (λ left hl. reads_index x front h k.0 (le_not rooms.target x.height k.1) left hl))

  reads_link_by : (x : Tall) (front : List Token) → IsPart l rooms x front → (s : Sort) → ReadsAt (λ y vs. IsPart l rooms y (front ++ vs)) (λ u. u ≡ s) (link_by l top rooms e x s)
  reads_link_by x front h sort.Dot = reads_member x front h
  reads_link_by x front h sort.Left = reads_item x front h
  reads_link_by x front h s = reads_refuse (x, [], rw append-nil h)

  reads_link : {P : Sort → Type 0} → (x : Tall) (front : List Token) → IsPart l rooms x front → ReadsAt (λ y vs. IsPart l rooms y (front ++ vs)) P (link l top rooms e x)
  unfolding link
  reads_link x front h = reads_peek (reads_link_by x front h)

  pub reads_chain : {P : Sort → Type 0} → (n : ℕ) (x : Tall) (front : List Token) → IsPart l rooms x front → ReadsAt (λ y vs. IsPart l rooms y (front ++ vs)) P (chain l top rooms e n x)
  unfolding chain
  reads_chain zero x front h = reads_peek (λ s. reads_if (is_link s) (λ b. reads_refuse (x, [], rw append-nil h)) (λ b. reads_pure x (rw append-nil h)))
  reads_chain (suc n) x front h = reads_peek (λ s. reads_if (is_link s)
      (λ b. reads_bind (reads_link x front h) (λ y us k. reads_map (reads_chain n y (front ++ us) k) (λ z ws j. rw append_assoc at j)))
      (λ b. reads_pure x (rw append-nil h)))

  pub reads_part : {P : Sort → Type 0} → ReadsAt (IsPart l rooms) P (part l top rooms e)
  unfolding part primary
  reads_part = reads_bind (reads_peek reads_primary_by) (λ x us h. reads_chain top x us h)
