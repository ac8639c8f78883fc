-- Limits that are large enough for n tokens: expressions of level 15 and array creations.
use Rattle.std.proofs.Common.{◌≡◌, ℕ, zero, suc, ◌+◌, ◌-◌, ◌<◌, ◌≤◌, max, ◌||◌, Bool, List, refl, ap, arith}
use Rattle.mol_base.specs.Token.{Token}
use Rattle.jav_tree.specs.declared.types.TypeName.{TypeName}
use Rattle.jav_parse_cursor.specs.declared.limits.Limits.{Limits}
use Rattle.jav_parse_expr.specs.declared.primary.Rooms.{Rooms}
use Rattle.jav_parse_cursor.specs.declared.sort.Sort.{Sort}
use Rattle.jav_parse_cursor.specs.declared.sort.Sort.TheVariants as sort
use Rattle.jav_parse_cursor.specs.declared.tall.Tall.{Tall}
use Rattle.jav_parse_cursor.specs.declared.tall.Listed.{Listed}
use Rattle.jav_parse_cursor.specs.Nodes as made
use Rattle.jav_parse_cursor.specs.Nodes.{is_array, count_of, array_type}
use Rattle.jav_parse_expr.specs.PrimaryRules.{is_link, further_arguments, some_arguments, arguments_after, arguments, further_items, some_items, items_after, items, member_name, Inside, filled, empty_pairs, further_sizes, sized, array, creation, super_call, name, parens, primary_by, primary, call_on, member_named, member, index, item, link_by, link, chain, part, named, named_item}
use Rattle.jav_parse_cursor.specs.Reading.{Parser}
use Rattle.jav_parse.proofs.Agree.{Agree, Same, Turns, Enough, agree_pure, agree_refuse, agree_known, agree_with, agree_frame, agree_bind, agree_then, agree_if, agree_peek, agree_when, agree_take, agree_expect, expect_agrees, enough_turns, turns, turns_more, turned, agree_turns, agree_turns', same_le, agree_le, agree_lt, agree_eq}
use Rattle.jav_parse.proofs.EnoughTypes.{LikeLimits, agree_primitive, agree_base_type, agree_brackets}
use Rattle.jav_parse.proofs.LikeTrees.{LikeTall, LikeListed, like_self, like_named, named_high, like_call, call_low}

abbrev pub tall : Tall → ℕ
tall x = x.height

-- p and q do alike on fewer than n tokens
abbrev pub Below : ℕ → Parser Tall → Parser Tall → Type 0
Below n p q = (m : ℕ) → suc m ≤ n → Agree LikeTall tall m 0 p q

-- where a token was used before
pub inner_at : {n h : ℕ} {p q : Parser Tall} → 0 < h → Below n p q → Agree LikeTall (λ x. x.height + h) n h p q
inner_at {h = h} some b = agree_frame h 0 (omega arith) (λ m l. b m (omega arith))

-- ---- lists

module _ {n : ℕ} (e e' : Parser Tall) (inner : Below n e e') where
  agree_further_arguments : (f g : ℕ) {h : ℕ} (k : ℕ) (all other : Listed) → 0 < h → LikeListed all other → all.height + k ≤ h → Turns n h f g
      → Agree LikeListed (λ x. x.height + k) n h (further_arguments e f all) (further_arguments e' g other)
  unfolding further_arguments
  agree_further_arguments zero zero k all other some like l a = agree_pure like (omega arith)
  agree_further_arguments zero (suc g) k all other some like l a = agree_turns a
  agree_further_arguments (suc f) zero k all other some like l a = agree_turns' a
  agree_further_arguments (suc f) (suc g) k all other some like l a = agree_when sort.Comma
      (agree_take (λ t. agree_bind (inner_at (omega arith) inner) (λ x y r.
      agree_further_arguments f g k (made.with all x) (made.with other y) (omega arith)
      (record { height = let i = like.height in let j = r.height in omega arith }) (omega arith) (turned _ (omega arith) a))))
      (agree_pure like (omega arith))

  agree_some_arguments : {h : ℕ} (most most' : ℕ) → 0 < h → Turns n 0 most most' → Agree LikeListed (λ x. x.height + h) n h (some_arguments most e) (some_arguments most' e')
  unfolding some_arguments
  agree_some_arguments {h} most most' some a = agree_bind (inner_at some inner) (λ x y r. agree_bind
      (agree_further_arguments (most - 1) (most' - 1) h (made.with made.no_exprs x) (made.with made.no_exprs y) (omega arith)
      (record { height = let j = r.height in omega arith }) (omega arith) (turns _ 1 (omega arith) a))
      (λ all other s. agree_expect sort.Close (λ _. agree_pure s (omega arith))))

  pub agree_arguments : {h : ℕ} (most most' room room' : ℕ) → Turns n 0 most most' → Enough 2 n room room'
      → Agree LikeListed (λ x. x.height + suc h) n h (arguments most room e) (arguments most' room' e')
  unfolding arguments arguments_after
  agree_arguments most most' room room' a b = agree_expect sort.Open (λ _. agree_when sort.Close
      (agree_take (λ _. agree_pure (record { height = refl }) (omega arith)))
      (agree_le b refl (omega arith) agree_refuse (agree_some_arguments most most' (omega arith) a)))

  agree_further_items : (f g : ℕ) {h : ℕ} (k : ℕ) (all other : Listed) → 0 < h → LikeListed all other → all.height + k ≤ h → Turns n h f g
      → Agree LikeListed (λ x. x.height + k) n h (further_items e f all) (further_items e' g other)
  unfolding further_items
  agree_further_items zero zero k all other some like l a = agree_pure like (omega arith)
  agree_further_items zero (suc g) k all other some like l a = agree_turns a
  agree_further_items (suc f) zero k all other some like l a = agree_turns' a
  agree_further_items (suc f) (suc g) k all other some like l a = agree_when sort.Comma
      (agree_take (λ t. agree_when sort.Finish (agree_pure like (omega arith)) (agree_bind (inner_at (omega arith) inner) (λ x y r.
      agree_further_items f g k (made.with all x) (made.with other y) (omega arith)
      (record { height = let i = like.height in let j = r.height in omega arith }) (omega arith) (turned _ (omega arith) a)))))
      (agree_pure like (omega arith))

  agree_some_items : {h : ℕ} (f g : ℕ) → 0 < h → Turns n 0 f g → Agree LikeListed (λ x. x.height + h) n h (some_items f e) (some_items g e')
  unfolding some_items
  agree_some_items {h} f g some a = agree_bind (inner_at some inner) (λ x y r. agree_bind
      (agree_further_items f g h (made.with made.no_exprs x) (made.with made.no_exprs y) (omega arith)
      (record { height = let j = r.height in omega arith }) (omega arith) (turns_more _ (omega arith) a))
      (λ all other s. agree_expect sort.Finish (λ _. agree_pure s (omega arith))))

  pub agree_items : {h : ℕ} (f g room room' : ℕ) → Turns n 0 f g → Enough 2 n room room'
      → Agree LikeListed (λ x. x.height + suc h) n h (items f room e) (items g room' e')
  unfolding items items_after
  agree_items f g room room' a b = agree_expect sort.Begin (λ _. agree_when sort.Finish
      (agree_take (λ _. agree_pure (record { height = refl }) (omega arith)))
      (agree_le b refl (omega arith) agree_refuse (agree_some_items f g (omega arith) a)))

-- ---- parts

-- rooms that are the same, or large enough
pub record LikeRooms (n : ℕ) (rooms other : Rooms) : Type 0 where
  pub invocation : Enough 2 n rooms.invocation other.invocation
  pub target : Enough 2 n rooms.target other.target
  pub rest : Enough 2 n rooms.rest other.rest

-- what stands inside does alike
pub record LikeInside (n : ℕ) (e e' : Inside) : Type 0 where
  pub argument : Below n e.argument e'.argument
  pub index : Below n e.index e'.index
  pub within : Below n e.within e'.within
  pub init : Below n e.init e'.init

-- what a link reads counts for more than h, so that each uses up one of the turns
abbrev pub risen : ℕ → Tall → ℕ
risen h x = max x.height (suc h)

pub or_same : (a b c d : Bool) → a ≡ b → c ≡ d → (a || c) ≡ (b || d)
or_same a b c d p q = rw (p, q) refl

module _ {n : ℕ} (l l' : Limits) (like : LikeLimits n l l') (top top' : ℕ) (tops : Enough 2 n top top') (rooms rooms' : Rooms) (room : LikeRooms n rooms rooms') (e e' : Inside) (inner : LikeInside n e e') where
  agree_filled : {h : ℕ} (at : ℕ) (base : TypeName) → 0 < h → Agree LikeTall tall n h (filled l top rooms e at base) (filled l' top' rooms' e' at base)
  unfolding filled
  agree_filled at base some = agree_expect sort.Right (λ _. agree_then
      (agree_brackets (l.most - 1) (l'.most - 1) 1 (turns _ 1 (omega arith) like.most)) (λ m. agree_bind
      (agree_items e.init e'.init inner.init l.turns l'.turns rooms.rest rooms'.rest (Turns.many (let a = like.turns in omega arith) (let a = like.turns' in omega arith)) room.rest)
      (λ x y r. agree_pure (record { height = let i = r.height in omega arith; shape = refl }) (omega arith))))

  agree_empty_pairs : {h : ℕ} (at : ℕ) (base : TypeName) (all other : Listed) (k : ℕ) → LikeListed all other → all.height + 1 ≤ h → k ≤ h
      → Agree LikeTall tall n h (empty_pairs l top rooms e at base all k) (empty_pairs l' top' rooms' e' at base other k)
  unfolding empty_pairs
  agree_empty_pairs at base all other k r low few = agree_expect sort.Right (λ _. agree_then
      (agree_brackets (l.most - (k + 1)) (l'.most - (k + 1)) (k + 1) (turns _ (k + 1) (omega arith) like.most))
      (λ m. agree_pure (record { height = let i = r.height in omega arith; shape = refl }) (omega arith)))

  agree_further_sizes : (f g : ℕ) {h : ℕ} (at : ℕ) (base : TypeName) (k : ℕ) (all other : Listed) → LikeListed all other → all.height + 1 ≤ h → k ≤ h → Turns n h f g
      → Agree LikeTall tall n h (further_sizes l top rooms e at base f k all) (further_sizes l' top' rooms' e' at base g k other)
  unfolding further_sizes
  agree_further_sizes zero zero at base k all other r low few a = agree_pure (record { height = let i = r.height in omega arith; shape = refl }) (omega arith)
  agree_further_sizes zero (suc g) at base k all other r low few a = agree_turns a
  agree_further_sizes (suc f) zero at base k all other r low few a = agree_turns' a
  agree_further_sizes (suc f) (suc g) at base k all other r low few a = agree_when sort.Left
      (agree_take (λ _. agree_when sort.Right (agree_empty_pairs at base all other k r (omega arith) (omega arith))
      (agree_bind (inner_at (omega arith) inner.within) (λ x y s. agree_expect sort.Right (λ _.
      agree_further_sizes f g at base (k + 1) (made.with all x) (made.with other y)
      (record { height = let i = r.height in let j = s.height in omega arith }) (omega arith) (omega arith) (turned _ (omega arith) a))))))
      (agree_pure (record { height = let i = r.height in omega arith; shape = refl }) (omega arith))

  agree_sized : {h : ℕ} (at : ℕ) (base : TypeName) → 0 < h → Agree LikeTall tall n h (sized l top rooms e at base) (sized l' top' rooms' e' at base)
  unfolding sized
  agree_sized at base some = agree_bind (inner_at some inner.within) (λ x y s. agree_expect sort.Right (λ _.
      agree_further_sizes (l.most - 1) (l'.most - 1) at base 1 (made.with made.no_exprs x) (made.with made.no_exprs y)
      (record { height = let j = s.height in omega arith }) (omega arith) (omega arith) (turns _ 1 (omega arith) like.most)))

  agree_array : {h : ℕ} (at : ℕ) (base : TypeName) → Agree LikeTall tall n h (array l top rooms e at base) (array l' top' rooms' e' at base)
  unfolding array
  agree_array at base = agree_eq 0 room.rest (omega arith) agree_refuse (agree_expect sort.Left (λ _. agree_when sort.Right
      (agree_filled at base (omega arith))
      (agree_eq 1 room.rest (omega arith) agree_refuse (agree_sized at base (omega arith)))))

  args_at : {h : ℕ} → Agree LikeListed (λ x. x.height + suc h) n h (arguments l.most rooms.invocation e.argument) (arguments l'.most rooms'.invocation e'.argument)
  args_at = agree_arguments e.argument e'.argument inner.argument l.most l'.most rooms.invocation rooms'.invocation like.most room.invocation

  agree_creation : {h : ℕ} → Agree LikeTall tall n h (creation l top rooms e) (creation l' top' rooms' e')
  unfolding creation
  agree_creation = agree_eq 0 room.invocation (omega arith) agree_refuse (agree_take (λ word. agree_when sort.Prim
      (agree_eq 0 room.rest (omega arith) agree_refuse (agree_then agree_primitive (λ base. agree_array word.start base)))
      (agree_then (agree_base_type l.turns l'.turns like.turns like.turns') (λ base. agree_when sort.Open
      (agree_bind args_at (λ x y r. agree_pure (record { height = let i = r.height in omega arith; shape = refl }) (omega arith)))
      (agree_array word.start base)))))

  pub agree_super_call : {h : ℕ} (at : ℕ) → Agree LikeTall (λ x. x.height + suc h) n h (super_call l top rooms e at) (super_call l' top' rooms' e' at)
  unfolding super_call
  agree_super_call at = agree_expect sort.Dot (λ _. agree_expect sort.Name (λ t. agree_bind args_at (λ x y r.
      agree_pure (record { height = let i = r.height in omega arith; shape = refl }) (omega arith))))

  agree_name : {h : ℕ} → Agree LikeTall tall n h (name l top rooms e) (name l' top' rooms' e')
  unfolding name
  agree_name = agree_expect sort.Name (λ t. agree_when sort.Open
      (agree_eq 0 room.invocation (omega arith) agree_refuse (agree_bind args_at (λ x y r. agree_pure (record { height = let i = r.height in omega arith; shape = refl }) (omega arith))))
      (agree_eq 0 room.target (omega arith) agree_refuse (agree_pure (like_self _) (omega arith))))

  agree_parens : {h : ℕ} → Agree LikeTall tall n h (parens l top rooms e) (parens l' top' rooms' e')
  unfolding parens
  agree_parens = agree_le room.rest refl (omega arith) agree_refuse (agree_take (λ left. agree_bind (inner_at (omega arith) inner.within) (λ x y r.
      agree_expect sort.Close (λ _. agree_pure (record { height = let i = r.height in omega arith; shape = refl }) (omega arith)))))

  agree_primary_by : {h : ℕ} (s : Sort) → Agree LikeTall tall n h (primary_by l top rooms e s) (primary_by l' top' rooms' e' s)
  agree_primary_by sort.Name = agree_name
  agree_primary_by sort.Literal = agree_eq 0 room.rest (omega arith) agree_refuse (agree_take (λ t. agree_pure (like_self _) (omega arith)))
  agree_primary_by sort.This = agree_eq 0 room.rest (omega arith) agree_refuse (agree_take (λ t. agree_pure (like_self _) (omega arith)))
  agree_primary_by sort.Super = agree_eq 0 room.invocation (omega arith) agree_refuse (agree_take (λ t. agree_with (λ x y r. r) (λ x. omega arith) (agree_super_call t.start)))
  agree_primary_by sort.New = agree_creation
  agree_primary_by sort.Open = agree_parens
  agree_primary_by s = agree_refuse

  agree_primary : {h : ℕ} → Agree LikeTall tall n h (primary l top rooms e) (primary l' top' rooms' e')
  unfolding primary
  agree_primary = agree_peek (λ s. agree_primary_by s)

  agree_call_on : {h : ℕ} (k : ℕ) (left left' : Tall) (t : Token) → suc k ≤ h → LikeTall left left' → left.height ≤ h
      → Agree LikeTall (risen k) n h (call_on l top rooms e left t) (call_on l' top' rooms' e' left' t)
  unfolding call_on
  agree_call_on k left left' t le r low = agree_le room.invocation r.height (omega arith) agree_refuse
      (agree_bind args_at (λ x y s. agree_pure (record { height = let i = r.height in let j = s.height in omega arith; shape = refl }) (omega arith)))

  agree_member_name : {h : ℕ} (left left' : Tall) → LikeTall left left' → left.height ≤ h → Agree Same (λ _. suc (suc h)) n h (member_name top left.height) (member_name top' left'.height)
  unfolding member_name
  agree_member_name left left' r low = agree_le tops r.height (omega arith) agree_refuse (agree_take (λ _. expect_agrees sort.Name))

  agree_member : {h : ℕ} (left left' : Tall) → LikeTall left left' → left.height ≤ h → Agree LikeTall (risen h) n h (member l top rooms e left) (member l' top' rooms' e' left')
  unfolding member member_named
  agree_member {h} left left' r low = agree_then (agree_member_name left left' r low) (λ t. agree_when sort.Open
      (agree_call_on h left left' t (omega arith) r (omega arith))
      (agree_le room.target r.height (omega arith) agree_refuse (agree_pure (record { height = let i = r.height in omega arith; shape = refl }) (omega arith))))

  agree_index : {h : ℕ} (k : ℕ) (left left' : Tall) → suc k ≤ h → LikeTall left left' → left.height ≤ h
      → Agree LikeTall (risen k) n h (index l top rooms e left) (index l' top' rooms' e' left')
  unfolding index
  agree_index k left left' le r low = agree_bind (inner_at (omega arith) inner.index) (λ x y s. agree_expect sort.Right (λ _.
      agree_pure (record { height = let i = r.height in let j = s.height in omega arith; shape = refl }) (omega arith)))

  agree_item : {h : ℕ} (left left' : Tall) → LikeTall left left' → left.height ≤ h → Agree LikeTall (risen h) n h (item l top rooms e left) (item l' top' rooms' e' left')
  unfolding item
  agree_item {h} left left' r low = agree_known (λ z. agree_if _ _
      (or_same (is_array left.shape) (is_array left'.shape) _ _ (ap is_array r.shape) (same_le room.target r.height (omega arith)))
      agree_refuse (agree_take (λ _. agree_index h left left' (omega arith) r (omega arith))))

  agree_link_by : {h : ℕ} (left left' : Tall) → LikeTall left left' → left.height ≤ h → (s : Sort) → Agree LikeTall (risen h) n h (link_by l top rooms e left s) (link_by l' top' rooms' e' left' s)
  agree_link_by left left' r low sort.Dot = agree_member left left' r low
  agree_link_by left left' r low sort.Left = agree_item left left' r low
  agree_link_by left left' r low s = agree_refuse

  agree_link : {h : ℕ} (left left' : Tall) → LikeTall left left' → left.height ≤ h → Agree LikeTall (risen h) n h (link l top rooms e left) (link l' top' rooms' e' left')
  unfolding link
  agree_link left left' r low = agree_peek (agree_link_by left left' r low)

  pub agree_chain : (f g : ℕ) {h : ℕ} (left left' : Tall) → LikeTall left left' → left.height ≤ h → Turns n h f g
      → Agree LikeTall tall n h (chain l top rooms e f left) (chain l' top' rooms' e' g left')
  unfolding chain
  agree_chain zero zero left left' r low a = agree_peek (λ s. agree_if (is_link s) (is_link s) refl agree_refuse (agree_pure r low))
  agree_chain zero (suc g) left left' r low a = agree_turns a
  agree_chain (suc f) zero left left' r low a = agree_turns' a
  agree_chain (suc f) (suc g) left left' r low a = agree_peek (λ s. agree_if (is_link s) (is_link s) refl
      (agree_bind (agree_link left left' r low) (λ x y i. agree_chain f g x y i (omega arith) (turned _ (omega arith) a)))
      (agree_pure r low))

  -- as many links as the height allows
  pub agree_links : {h : ℕ} (left left' : Tall) → LikeTall left left' → left.height ≤ h → Agree LikeTall tall n h (chain l top rooms e top left) (chain l' top' rooms' e' top' left')
  agree_links left left' r low = agree_chain top top' left left' r low (enough_turns _ tops)

  pub agree_part : {h : ℕ} → Agree LikeTall tall n h (part l top rooms e) (part l' top' rooms' e')
  unfolding part
  agree_part = agree_bind agree_primary (λ x y r. agree_links x y r (omega arith))

  pub agree_named : {h : ℕ} (names : List Token) → count_of names ≤ h → Agree LikeTall tall n h (named l top rooms e names) (named l' top' rooms' e' names)
  unfolding named
  agree_named names low = agree_when sort.Open
      (agree_lt room.invocation refl (omega arith) agree_refuse (agree_bind args_at (λ x y r.
      agree_pure (like_call l.builds l'.builds names x y r) (let i = call_low l.builds names x in omega arith))))
      (agree_lt room.target refl (omega arith) agree_refuse (agree_pure (like_named l.builds l'.builds names) (let i = named_high l.builds names in omega arith)))

  pub agree_named_item : {h : ℕ} (names : List Token) → 0 < h → count_of names ≤ h → Agree LikeTall tall n h (named_item l top rooms e names) (named_item l' top' rooms' e' names)
  unfolding named_item
  agree_named_item names some low = agree_le room.target refl (omega arith) agree_refuse
      (agree_with (λ x y r. r) (λ x. omega arith) (agree_index 0 (made.named l.builds names) (made.named l'.builds names) (omega arith) (like_named l.builds l'.builds names)
      (let i = named_high l.builds names in omega arith)))
