-- Members and indexes after a part: how reading goes on by them, and by which it went on.
use Rattle.std.proofs.Common.{◌≡◌, ℕ, zero, suc, ◌<◌, ◌≤◌, Bool, true, false, ◌||◌, List, ◌∷◌, nat_le, Ok, refl, sym, ap, ◌∙◌, subst, if◌then◌else◌, arith}
use Rattle.mol_base.specs.Token.{Token}
use Rattle.jav_parse_cursor.specs.declared.limits.Limits.{Limits}
use Rattle.jav_parse_expr.specs.declared.primary.Rooms.{Rooms}
use Rattle.jav_parse_cursor.specs.declared.sort.Sort.TheVariants as sort
use Rattle.jav_parse_cursor.specs.declared.tall.Tall.{Tall}
use Rattle.jav_parse_cursor.specs.Nodes.{is_array}
use Rattle.jav_parse_expr.specs.PrimaryRules.{Inside, is_link, member_name, member_named, member, index, item, link, chain}
use Rattle.jav_parse_cursor.specs.Reading.{◌>>=◌, ◌>>◌, pure, refuse, sort as next, take_token, expect}
use Rattle.jav_parse_cursor.specs.Sorts.{sort_of}
use Rattle.jav_parse.proofs.Outcomes.{Steps, steps, expected, take_ok, not_refused, le_false_is}

or_left : (a b : Bool) → (a || b) ≡ false → a ≡ false
or_left true b h = absurd (cc)
or_left false b h = refl

or_right : (a b : Bool) → (a || b) ≡ false → b ≡ false
or_right true b h = absurd (cc)
or_right false b h = h

-- by a dot, the name and what follows it
pub record DotTaken (ts : List Token) (height top : ℕ) : Type 0 where
  pub dot : Token
  pub name : Token
  pub rest : List Token
  pub split : ts ≡ dot ∷ name ∷ rest
  pub is_dot : sort_of dot ≡ sort.Dot
  pub is_name : sort_of name ≡ sort.Name
  pub low : height < top

module _ (l : Limits) (top : ℕ) (rooms : Rooms) (e : Inside) where
  pub chain_ends : (n : ℕ) (x : Tall) (rest : List Token) → is_link (next rest) ≡ false → chain l top rooms e n x rest ≡ Ok (x, rest)
  unfolding chain
  chain_ends zero x rest h = rw h refl
  chain_ends (suc n) x rest h = rw h refl

  pub chain_link : (n : ℕ) (a : Tall) (ts : List Token) (x : Tall) (rest : List Token) → is_link (next ts) ≡ true → link l top rooms e a ts ≡ Ok (x, rest)
      → chain l top rooms e (suc n) a ts ≡ chain l top rooms e n x rest
  unfolding chain
  chain_link n a ts x rest h q = rw (h, q) refl

  -- more turns change nothing
  abbrev More : ℕ → Type 0
  More n = (m : ℕ) → n ≤ m → (x : Tall) (ts : List Token) (r : Tall × List Token) → chain l top rooms e n x ts ≡ Ok r → chain l top rooms e m x ts ≡ Ok r

  more_none : (m : ℕ) (x : Tall) (ts : List Token) (r : Tall × List Token) (found : Bool) → is_link (next ts) ≡ found → (if found then refuse else pure x) ts ≡ Ok r
      → chain l top rooms e m x ts ≡ Ok r
  more_none m x ts r true f h = absurd (cc)
  more_none m x ts r false f h = chain_ends m x ts f ∙ h

  more_by : (n m : ℕ) → More n → n ≤ m → (x : Tall) (ts : List Token) (r : Tall × List Token) (found : Bool) → is_link (next ts) ≡ found
      → (if found then (link l top rooms e x >>= chain l top rooms e n) else pure x) ts ≡ Ok r → chain l top rooms e (suc m) x ts ≡ Ok r
  more_by n m go p x ts r false f h = chain_ends (suc m) x ts f ∙ h
  more_by n m go p x ts r true f h =
      let s = steps (link l top rooms e x ts) (chain l top rooms e n) r h in
      chain_link m x ts s.value s.rest f s.first ∙ go m p s.value s.rest r s.second

  pub chain_more : (n : ℕ) → More n
  unfolding chain
  chain_more zero = λ m p x ts r h. more_none m x ts r (is_link (next ts)) refl h
  chain_more (suc n) = elim [ zero ↦ λ p. absurd (omega arith) | suc m ↦ λ p x ts r h. more_by n m (chain_more n) (omega arith) x ts r (is_link (next ts)) refl h ]

  link_by : (n : ℕ) (x : Tall) (ts : List Token) (r : Tall × List Token) (found : Bool) → found ≡ true → (if found then (link l top rooms e x >>= chain l top rooms e n) else pure x) ts ≡ Ok r
      → Steps (link l top rooms e x ts) (chain l top rooms e n) r
  link_by n x ts r true f h = steps (link l top rooms e x ts) (chain l top rooms e n) r h
  link_by n x ts r false f h = absurd (cc)

  -- reading goes on by a link where the next token is one
  pub linked : (n : ℕ) (x : Tall) (ts : List Token) (r : Tall × List Token) → is_link (next ts) ≡ true → chain l top rooms e (suc n) x ts ≡ Ok r
      → Steps (link l top rooms e x ts) (chain l top rooms e n) r
  unfolding chain
  linked n x ts r f h = link_by n x ts r (is_link (next ts)) f h

  refused_by : (x : Tall) (ts : List Token) (r : Tall × List Token) (found : Bool) → found ≡ true → (if found then refuse else pure x) ts ≡ Ok r → ⊥
  refused_by x ts r true f h = cc
  refused_by x ts r false f h = cc

  pub no_turn : (x : Tall) (ts : List Token) (r : Tall × List Token) → is_link (next ts) ≡ true → chain l top rooms e zero x ts ≡ Ok r → ⊥
  unfolding chain
  no_turn x ts r f h = refused_by x ts r (is_link (next ts)) f h

  pub link_dot_is : (x : Tall) (ts : List Token) → next ts ≡ sort.Dot → link l top rooms e x ts ≡ member l top rooms e x ts
  unfolding link
  link_dot_is x ts h = rw h refl

  pub link_left_is : (x : Tall) (ts : List Token) → next ts ≡ sort.Left → link l top rooms e x ts ≡ item l top rooms e x ts
  unfolding link
  link_left_is x ts h = rw h refl

  dot_taken : (x : Tall) (ts : List Token) (t : Token) (rest : List Token) → member_name top x.height ts ≡ Ok (t, rest) → next ts ≡ sort.Dot
      → (d : DotTaken ts x.height top) × (t ≡ d.name) × (rest ≡ d.rest)
  unfolding member_name next
  dot_taken x ts t rest h f =
      let low = not_refused (nat_le top x.height) (take_token >> expect sort.Name) ts (t, rest) h in
      let s = steps (take_token ts) (λ _. expect sort.Name) (t, rest) low.1 in
      let split = take_ok ts s.value s.rest s.first in
      let name = expected sort.Name s.rest t rest s.second in
      (record { dot = s.value; name = t; rest = rest; split = split ∙ ap (λ r. s.value ∷ r) name.split; is_dot = ap next (sym split) ∙ f; is_name = name.is; low = le_false_is top x.height low.0 }, refl, refl)

  -- a link by a dot
  pub record DotLinked (x : Tall) (ts : List Token) (r : Tall × List Token) : Type 0 where
    pub taken : DotTaken ts x.height top
    pub goes : member_named l top rooms e x taken.name taken.rest ≡ Ok r

  pub dot_linked : (x : Tall) (ts : List Token) (r : Tall × List Token) → next ts ≡ sort.Dot → member l top rooms e x ts ≡ Ok r → DotLinked x ts r
  unfolding member
  dot_linked x ts r f h =
      let s = steps (member_name top x.height ts) (member_named l top rooms e x) r h in
      let d = dot_taken x ts s.value s.rest s.first f in
      record { taken = d.0; goes = subst (λ t. member_named l top rooms e x t d.0.rest ≡ Ok r) d.1 (subst (λ us. member_named l top rooms e x s.value us ≡ Ok r) d.2 s.second) }

  -- a link by a bracket
  pub record ItemTaken (x : Tall) (ts : List Token) (r : Tall × List Token) : Type 0 where
    pub left : Token
    pub rest : List Token
    pub split : ts ≡ left ∷ rest
    pub is_left : sort_of left ≡ sort.Left
    pub no_array : is_array x.shape ≡ false
    pub low : x.height < rooms.target
    pub goes : index l top rooms e x rest ≡ Ok r

  pub item_linked : (x : Tall) (ts : List Token) (r : Tall × List Token) → next ts ≡ sort.Left → item l top rooms e x ts ≡ Ok r → ItemTaken x ts r
  unfolding item next
  item_linked x ts r f h =
      let tests = not_refused (is_array x.shape || nat_le rooms.target x.height) (take_token >> index l top rooms e x) ts r h in
      let s = steps (take_token ts) (λ _. index l top rooms e x) r tests.1 in
      let split = take_ok ts s.value s.rest s.first in
      record {
        left = s.value;
        rest = s.rest;
        split = split;
        is_left = ap next (sym split) ∙ f;
        no_array = or_left (is_array x.shape) (nat_le rooms.target x.height) tests.0;
        low = le_false_is rooms.target x.height (or_right (is_array x.shape) (nat_le rooms.target x.height) tests.0);
        goes = s.second;
      }
