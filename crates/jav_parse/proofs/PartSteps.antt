-- How the front of a part and each link after it are read.
use Rattle.std.proofs.Common.{◌≡◌, inl, inr, ℕ, zero, suc, ◌+◌, ◌-◌, ◌<◌, ◌≤◌, true, false, List, ◌∷◌, Ok, refl, ap, ◌∙◌, arith}
use Rattle.mol_base.specs.Token.{Token}
use Rattle.jav_tree.specs.declared.types.TypeName.{TypeName}
use Rattle.jav_tree.specs.declared.expr.Expr.{Expr}
use Rattle.jav_parse_cursor.specs.declared.limits.Limits.{Limits}
use Rattle.jav_parse_expr.specs.declared.primary.Goal.TheVariants.{Level}
use Rattle.jav_parse_expr.specs.declared.primary.Rooms.{Rooms}
use Rattle.jav_parse_cursor.specs.declared.sort.Sort.TheVariants as sort
use Rattle.jav_parse_cursor.specs.declared.tall.Shape.{Shape}
use Rattle.jav_parse_cursor.specs.declared.tall.Shape.TheVariants.{Target, Invocation}
use Rattle.jav_parse_cursor.specs.declared.tall.Tall.{Tall}
use Rattle.jav_parse_cursor.specs.declared.tall.Listed.{Listed}
use Rattle.jav_parse_expr.specs.ExprRules.{expr, inside}
use Rattle.jav_parse_cursor.specs.Nodes as made
use Rattle.jav_parse_cursor.specs.Nodes.{is_array}
use Rattle.jav_parse_expr.specs.PrimaryRules as rule
use Rattle.jav_parse_expr.specs.PrimaryRules.{free, acting, stepping, is_link, arguments, member_name, call_on, member_named, member, index, item, link, chain, primary, part, creation, super_call, parens, array}
use Rattle.jav_parse_cursor.specs.Reading.{and_then, sort as next, take_token}
use Rattle.jav_parse_cursor.specs.Sorts.{same_sort, sort_of}
use Rattle.jav_parse_cursor.specs.TypeRules.{base_type, primitive}
use Rattle.jav_parse.proofs.ChainLinks.{chain_ends, chain_link, link_dot_is, link_left_is}
use Rattle.jav_parse.proofs.Outcomes.{sort_or}
use Rattle.jav_parse.proofs.ReadingSteps.{IsNot, expect_goes, le_false, eq_false, sort_at}

-- an expression with its height and shape
abbrev pub sized : Expr → ℕ → Shape → Tall
sized e h s = record { expr = e; height = h; shape = s }

-- how high a part of this shape may be
abbrev pub room : Rooms → Shape → ℕ
room rooms Target = rooms.target
room rooms Invocation = rooms.invocation
room rooms s = rooms.rest

-- Rooms that differ from the height that is left by one at most.
pub record Near (top : ℕ) (rooms : Rooms) : Type 0 where
  pub invocation : rooms.invocation ≤ top
  pub target : rooms.target ≤ top
  pub below_invocation : top ≤ suc rooms.invocation
  pub below_target : top ≤ suc rooms.target
  pub below_rest : top ≤ suc rooms.rest
  pub rest : rooms.rest ≤ rooms.invocation

pub near_free : (top : ℕ) → Near top (free top)
near_free top = omega arith

pub near_acting : (top : ℕ) → Near top (acting top)
near_acting top = omega arith

pub near_stepping : (top : ℕ) → Near top (stepping top)
near_stepping top = omega arith

pub room_near : (top : ℕ) (rooms : Rooms) → Near top rooms → (s : Shape) → (room rooms s ≤ top) × (top ≤ suc (room rooms s))
room_near top rooms n Target = (n.target, n.below_target)
room_near top rooms n Invocation = (n.invocation, n.below_invocation)
room_near top rooms n s = (let a = n.rest in let b = n.invocation in omega arith, n.below_rest)

module _ (l : Limits) (top : ℕ) (rooms : Rooms) where
  -- how far reading a part has come: to x, before these tokens
  pub record ReachesPart (ts : List Token) (x : Tall) (rest : List Token) : Type 0 where
    pub turns : ℕ
    pub enough : top ≤ turns + x.height
    pub same : part l top rooms (inside l rooms) ts ≡ chain l top rooms (inside l rooms) turns x rest

  pub starts : (ts : List Token) (x : Tall) (rest : List Token) → primary l top rooms (inside l rooms) ts ≡ Ok (x, rest) → ReachesPart ts x rest
  unfolding part
  starts ts x rest h = record { turns = top; enough = omega arith; same = ap (λ o. and_then o (chain l top rooms (inside l rooms) top)) h }

  links_by : (ts : List Token) (a x : Tall) (mid rest : List Token) (n : ℕ) → top ≤ n + a.height → part l top rooms (inside l rooms) ts ≡ chain l top rooms (inside l rooms) n a mid
      → a.height < top → a.height < x.height → is_link (next mid) ≡ true → link l top rooms (inside l rooms) a mid ≡ Ok (x, rest) → ReachesPart ts x rest
  links_by ts a x mid rest zero enough same p q f h = absurd (omega arith)
  links_by ts a x mid rest (suc n) enough same p q f h = record { turns = n; enough = omega arith; same = same ∙ chain_link l top rooms (inside l rooms) n a mid x rest f h }

  -- one link more
  pub links : (ts : List Token) (a x : Tall) (mid rest : List Token) → ReachesPart ts a mid → a.height < top → a.height < x.height → is_link (next mid) ≡ true
      → link l top rooms (inside l rooms) a mid ≡ Ok (x, rest) → ReachesPart ts x rest
  links ts a x mid rest r = links_by ts a x mid rest r.turns r.enough r.same

  pub part_ends : (ts : List Token) (x : Tall) (rest : List Token) → ReachesPart ts x rest → is_link (next rest) ≡ false → part l top rooms (inside l rooms) ts ≡ Ok (x, rest)
  part_ends ts x rest r f = r.same ∙ chain_ends l top rooms (inside l rooms) r.turns x rest f

  -- ---- the front

  pub primary_name : (t : Token) (rest : List Token) → sort_of t ≡ sort.Name → IsNot sort.Open rest → 1 ≤ rooms.target → primary l top rooms (inside l rooms) (t ∷ rest) ≡ Ok (made.name t, rest)
  unfolding primary rule.name next
  primary_name t rest h o low = rw (h, expect_goes t rest h, o, eq_false rooms.target 0 low) refl

  pub primary_call : (t : Token) (ts : List Token) (args : Listed) (rest : List Token) → sort_of t ≡ sort.Name → next ts ≡ sort.Open → 1 ≤ rooms.invocation
      → arguments l.most rooms.invocation (expr l (rooms.invocation - 1) (Level 1)) ts ≡ Ok (args, rest) → primary l top rooms (inside l rooms) (t ∷ ts) ≡ Ok (made.called t args, rest)
  unfolding primary rule.name next same_sort
  primary_call t ts args rest h o low q = rw (h, expect_goes t ts h, o, eq_false rooms.invocation 0 low, q) refl

  pub primary_literal : (t : Token) (rest : List Token) → sort_of t ≡ sort.Literal → 1 ≤ rooms.rest → primary l top rooms (inside l rooms) (t ∷ rest) ≡ Ok (made.literal t, rest)
  unfolding primary next take_token
  primary_literal t rest h low = rw (h, eq_false rooms.rest 0 low) refl

  pub primary_this : (t : Token) (rest : List Token) → sort_of t ≡ sort.This → 1 ≤ rooms.rest → primary l top rooms (inside l rooms) (t ∷ rest) ≡ Ok (made.this t, rest)
  unfolding primary next take_token
  primary_this t rest h low = rw (h, eq_false rooms.rest 0 low) refl

  super_goes : (at : ℕ) (dot t : Token) (ts : List Token) (args : Listed) (rest : List Token) → sort_of dot ≡ sort.Dot → sort_of t ≡ sort.Name
      → arguments l.most rooms.invocation (expr l (rooms.invocation - 1) (Level 1)) ts ≡ Ok (args, rest) → super_call l top rooms (inside l rooms) at (dot ∷ t ∷ ts) ≡ Ok (made.super_called at t args, rest)
  unfolding super_call
  super_goes at dot t ts args rest hd ht q = rw (expect_goes dot (t ∷ ts) hd, expect_goes t ts ht, q) refl

  pub primary_super : (word dot t : Token) (ts : List Token) (args : Listed) (rest : List Token) → sort_of word ≡ sort.Super → sort_of dot ≡ sort.Dot → sort_of t ≡ sort.Name → 1 ≤ rooms.invocation
      → arguments l.most rooms.invocation (expr l (rooms.invocation - 1) (Level 1)) ts ≡ Ok (args, rest)
      → primary l top rooms (inside l rooms) (word ∷ dot ∷ t ∷ ts) ≡ Ok (made.super_called word.start t args, rest)
  unfolding primary next take_token
  primary_super word dot t ts args rest hw hd ht low q = rw (hw, eq_false rooms.invocation 0 low) (super_goes word.start dot t ts args rest hd ht q)

  pub primary_parens : (left : Token) (ts : List Token) (x : Tall) (close : Token) (rest : List Token) → sort_of left ≡ sort.Open → sort_of close ≡ sort.Close → 1 < rooms.rest
      → expr l (rooms.rest - 1) (Level 1) ts ≡ Ok (x, close ∷ rest) → primary l top rooms (inside l rooms) (left ∷ ts) ≡ Ok (made.in_parens left.start x, rest)
  unfolding primary parens next take_token
  primary_parens left ts x close rest hl hc low q = rw (hl, le_false rooms.rest 1 low, q, expect_goes close rest hc) refl

  primary_new : (word : Token) (ts : List Token) → sort_of word ≡ sort.New → primary l top rooms (inside l rooms) (word ∷ ts) ≡ creation l top rooms (inside l rooms) (word ∷ ts)
  unfolding primary next
  primary_new word ts h = rw h refl

  creation_named : (word : Token) (ts : List Token) (base : TypeName) (mid : List Token) (args : Listed) (rest : List Token) → IsNot sort.Prim ts → next mid ≡ sort.Open → 1 ≤ rooms.invocation
      → base_type l.turns ts ≡ Ok (base, mid) → arguments l.most rooms.invocation (expr l (rooms.invocation - 1) (Level 1)) mid ≡ Ok (args, rest)
      → creation l top rooms (inside l rooms) (word ∷ ts) ≡ Ok (made.created word.start base args, rest)
  unfolding creation take_token same_sort
  creation_named word ts base mid args rest p o low q r = rw (eq_false rooms.invocation 0 low, p, q, o, r) refl

  pub primary_created : (word : Token) (ts : List Token) (base : TypeName) (mid : List Token) (args : Listed) (rest : List Token) → sort_of word ≡ sort.New → IsNot sort.Prim ts → next mid ≡ sort.Open
      → 1 ≤ rooms.invocation → base_type l.turns ts ≡ Ok (base, mid) → arguments l.most rooms.invocation (expr l (rooms.invocation - 1) (Level 1)) mid ≡ Ok (args, rest)
      → primary l top rooms (inside l rooms) (word ∷ ts) ≡ Ok (made.created word.start base args, rest)
  primary_created word ts base mid args rest h p o low q r = primary_new word ts h ∙ creation_named word ts base mid args rest p o low q r

  creation_array : (word : Token) (ts : List Token) (base : TypeName) (mid : List Token) (r : Tall × List Token) → IsNot sort.Prim ts → IsNot sort.Open mid → 1 ≤ rooms.invocation
      → base_type l.turns ts ≡ Ok (base, mid) → array l top rooms (inside l rooms) word.start base mid ≡ Ok r → creation l top rooms (inside l rooms) (word ∷ ts) ≡ Ok r
  unfolding creation take_token
  creation_array word ts base mid r p o low q h = rw (eq_false rooms.invocation 0 low, p, q, o) h

  creation_primitive : (word : Token) (ts : List Token) (base : TypeName) (mid : List Token) (r : Tall × List Token) → next ts ≡ sort.Prim → 1 ≤ rooms.invocation → 1 ≤ rooms.rest
      → primitive ts ≡ Ok (base, mid) → array l top rooms (inside l rooms) word.start base mid ≡ Ok r → creation l top rooms (inside l rooms) (word ∷ ts) ≡ Ok r
  unfolding creation take_token same_sort
  creation_primitive word ts base mid r p low low2 q h = rw (eq_false rooms.invocation 0 low, p, eq_false rooms.rest 0 low2, q) h

  base_primitive : (n : ℕ) (ts : List Token) (base : TypeName) (mid : List Token) → next ts ≡ sort.Prim → base_type n ts ≡ Ok (base, mid) → primitive ts ≡ Ok (base, mid)
  unfolding base_type same_sort
  base_primitive n ts base mid p h = rw p at h

  -- an array creation of either sort of base
  pub primary_array : (word : Token) (ts : List Token) (base : TypeName) (mid : List Token) (r : Tall × List Token) → sort_of word ≡ sort.New → IsNot sort.Open mid → 1 ≤ rooms.invocation → 1 ≤ rooms.rest
      → base_type l.turns ts ≡ Ok (base, mid) → array l top rooms (inside l rooms) word.start base mid ≡ Ok r → primary l top rooms (inside l rooms) (word ∷ ts) ≡ Ok r
  primary_array word ts base mid r h o low low2 q k =
      elim (sort_or sort.Prim ts) [
        | inl p ↦ primary_new word ts h ∙ creation_primitive word ts base mid r p low low2 (base_primitive l.turns ts base mid p q) k
        | inr p ↦ primary_new word ts h ∙ creation_array word ts base mid r p o low q k
      ]

  -- ---- links

  member_goes : (a : Tall) (dot t : Token) (rest : List Token) → sort_of dot ≡ sort.Dot → sort_of t ≡ sort.Name → a.height < top
      → member l top rooms (inside l rooms) a (dot ∷ t ∷ rest) ≡ member_named l top rooms (inside l rooms) a t rest
  unfolding member member_name take_token
  member_goes a dot t rest hd ht low = rw (le_false top a.height low, expect_goes t rest ht) refl

  named_field : (a : Tall) (t : Token) (rest : List Token) → IsNot sort.Open rest → a.height < rooms.target → member_named l top rooms (inside l rooms) a t rest ≡ Ok (made.dotted a t, rest)
  unfolding member_named
  named_field a t rest o low = rw (o, le_false rooms.target a.height low) refl

  named_call_on : (a : Tall) (t : Token) (ts : List Token) (args : Listed) (rest : List Token) → next ts ≡ sort.Open → a.height < rooms.invocation
      → arguments l.most rooms.invocation (expr l (rooms.invocation - 1) (Level 1)) ts ≡ Ok (args, rest) → member_named l top rooms (inside l rooms) a t ts ≡ Ok (made.called_on a t args, rest)
  unfolding member_named call_on same_sort
  named_call_on a t ts args rest o low q = rw (o, le_false rooms.invocation a.height low, q) refl

  pub link_field : (a : Tall) (dot t : Token) (rest : List Token) → sort_of dot ≡ sort.Dot → sort_of t ≡ sort.Name → IsNot sort.Open rest → a.height < rooms.target → rooms.target ≤ top
      → link l top rooms (inside l rooms) a (dot ∷ t ∷ rest) ≡ Ok (made.dotted a t, rest)
  link_field a dot t rest hd ht o low near =
      link_dot_is l top rooms (inside l rooms) a (dot ∷ t ∷ rest) (sort_at dot (t ∷ rest) ∙ hd) ∙ member_goes a dot t rest hd ht (omega arith) ∙ named_field a t rest o low

  pub link_call : (a : Tall) (dot t : Token) (ts : List Token) (args : Listed) (rest : List Token) → sort_of dot ≡ sort.Dot → sort_of t ≡ sort.Name → next ts ≡ sort.Open → a.height < rooms.invocation
      → rooms.invocation ≤ top → arguments l.most rooms.invocation (expr l (rooms.invocation - 1) (Level 1)) ts ≡ Ok (args, rest)
      → link l top rooms (inside l rooms) a (dot ∷ t ∷ ts) ≡ Ok (made.called_on a t args, rest)
  link_call a dot t ts args rest hd ht o low near q =
      link_dot_is l top rooms (inside l rooms) a (dot ∷ t ∷ ts) (sort_at dot (t ∷ ts) ∙ hd) ∙ member_goes a dot t ts hd ht (omega arith) ∙ named_call_on a t ts args rest o low q

  item_goes : (a : Tall) (left : Token) (ts : List Token) (i : Tall) (right : Token) (rest : List Token) → sort_of right ≡ sort.Right → is_array a.shape ≡ false → a.height < rooms.target
      → expr l (rooms.target - 1) (Level 1) ts ≡ Ok (i, right ∷ rest) → item l top rooms (inside l rooms) a (left ∷ ts) ≡ Ok (made.indexed a i, rest)
  unfolding item index take_token
  item_goes a left ts i right rest hr s low q = rw (s, le_false rooms.target a.height low, q, expect_goes right rest hr) refl

  pub link_index : (a : Tall) (left : Token) (ts : List Token) (i : Tall) (right : Token) (rest : List Token) → sort_of left ≡ sort.Left → sort_of right ≡ sort.Right → is_array a.shape ≡ false
      → a.height < rooms.target → expr l (rooms.target - 1) (Level 1) ts ≡ Ok (i, right ∷ rest) → link l top rooms (inside l rooms) a (left ∷ ts) ≡ Ok (made.indexed a i, rest)
  link_index a left ts i right rest hl hr s low q =
      link_left_is l top rooms (inside l rooms) a (left ∷ ts) (sort_at left ts ∙ hl) ∙ item_goes a left ts i right rest hr s low q
