-- Arguments and items in braces that are read are in the grammar, and what is refused could have gone on.
use Rattle.std.proofs.Common.{◌≡◌, ℕ, zero, suc, ◌-◌, ◌<◌, ◌≤◌, max, List, [], ◌∷◌, ◌++◌, length, nat_le, refl, sym, ap, ◌∙◌, subst, append_assoc, arith}
use Rattle.std.proofs.lemmas.List.{append-nil}
use Rattle.mol_base.specs.Token.{Token}
use Rattle.jav_tree.specs.Tokens.{IsSymbol}
use Rattle.jav_tree.specs.declared.expr.Expr.{Expr}
use Rattle.jav_tree.specs.Expressions as tree
use Rattle.jav_tree.specs.Expressions.{Expression, Init}
use Rattle.jav_parse_cursor.specs.declared.limits.Limits.{Limits}
use Rattle.jav_parse_cursor.specs.declared.sort.Sort.{Sort}
use Rattle.jav_parse_cursor.specs.declared.sort.Sort.TheVariants as sort
use Rattle.jav_parse_cursor.specs.declared.tall.Tall.{Tall}
use Rattle.jav_parse_cursor.specs.declared.tall.Listed.{Listed}
use Rattle.jav_parse_cursor.specs.Nodes as made
use Rattle.jav_parse_expr.specs.PrimaryRules.{further_arguments, some_arguments, arguments_after, arguments, further_items, some_items, items_after, items}
use Rattle.jav_parse_cursor.specs.Reading.{Parser}
use Rattle.jav_parse_cursor.specs.Sorts.{sort_of}
use Rattle.jav_parse.proofs.Meets.{ReadsAt, Reads, reads_pure, reads_refuse, reads_map, reads_bind, reads_if, reads_when, reads_any, reads_token, reads_expect}
use Rattle.jav_parse.proofs.Samples.{an_open, a_close, a_begin, a_finish}
use Rattle.jav_parse.proofs.Tests.{le_not}
use Rattle.jav_parse.proofs.TokenSorts.{open_is, close_is, comma_is, begin_is, finish_is}
use Rattle.jav_parse.proofs.Within.{IsLevel, IsInit, AreArguments, AreItems}

-- Followed R h es ts: expressions that R spells, each after a comma; the height is that of the highest.
pub data Followed (R : ℕ → Expr → List Token → Type 0) : ℕ → List Expr → List Token → Type 0 where
  none : Followed R 0 [] []
  more : {h k : ℕ} {comma : Token} {e : Expr} {es : List Expr} {ts us : List Token} → IsSymbol "," comma → R h e ts → Followed R k es us
      → Followed R (max h k) (e ∷ es) (comma ∷ ts ++ us)

-- at most n further ones after these, each at most d high
pub record Adds (R : ℕ → Expr → List Token → Type 0) (n d : ℕ) (all y : Listed) (ts : List Token) : Type 0 where
  pub es : List Expr
  pub h : ℕ
  pub are : Followed R h es ts
  pub few : length es ≤ n
  pub exprs : y.exprs ≡ all.exprs ++ es
  pub height : y.height ≡ max all.height h
  pub low : h ≤ d

adds_none : (R : ℕ → Expr → List Token → Type 0) (n d : ℕ) (all : Listed) → Adds R n d all all []
adds_none R n d all = record { es = []; h = 0; are = none; few = omega arith; exprs = sym (append-nil all.exprs); height = omega arith; low = omega arith }

adds_more : (R : ℕ → Expr → List Token → Type 0) (n d : ℕ) (all : Listed) (comma : Token) → sort_of comma ≡ sort.Comma → (x : Tall) (us : List Token) → R x.height x.expr us → x.height ≤ d
    → (y : Listed) (ws : List Token) → Adds R n d (made.with all x) y ws → Adds R (suc n) d all y (comma ∷ us ++ ws)
adds_more R n d all comma hc x us hx low y ws k = record {
  es = x.expr ∷ k.es;
  h = max x.height k.h;
  are = more (comma_is comma hc) hx k.are;
  few = let a = k.few in omega arith;
  exprs = k.exprs ∙ append_assoc all.exprs (x.expr ∷ []) k.es;
  height = let a = k.height in omega arith;
  low = let a = k.low in omega arith;
}

-- the sum of what was read first and what follows
added_height : (x : Tall) (y : Listed) (h : ℕ) → y.height ≡ max (max 0 x.height) h → y.height ≡ max x.height h
added_height x y h e = omega arith

listed : {m k : ℕ} {es : List Expr} {us : List Token} → Followed (Expression m 1) k es us → (h : ℕ) (e : Expr) (ts : List Token) → Expression m 1 h e ts
    → tree.Listed m (max h k) (e ∷ es) (ts ++ us)
listed none h e ts x = let z : max h 0 ≡ h = omega arith in rw (z, append-nil) (tree.last_listed x)
listed (more {h = h} {e = d} {ts = us} hc y rest) j e ts x = tree.more_listed x hc (listed rest h d us y)

inits : {m k : ℕ} {es : List Expr} {us : List Token} → Followed (Init m) k es us → (h : ℕ) (e : Expr) (ts : List Token) → Init m h e ts → tree.Inits m (max h k) (e ∷ es) (ts ++ us)
inits none h e ts x = let z : max h 0 ≡ h = omega arith in rw (z, append-nil) (tree.last_item x)
inits (more {h = h} {e = d} {ts = us} hc y rest) j e ts x = tree.more_items x hc (inits rest h d us y)

-- nothing, or a comma
abbrev IsEnd : List Token → Type 0
IsEnd [] = Unit {0}
IsEnd (c ∷ []) = IsSymbol "," c
IsEnd (c ∷ d ∷ rest) = ⊥

module _ (l : Limits) (room : ℕ) (e : Parser Tall) where
  -- ---- arguments

  no_arguments : 0 < room → (left right : Token) → sort_of left ≡ sort.Open → sort_of right ≡ sort.Close → AreArguments l room made.no_exprs (left ∷ right ∷ [])
  no_arguments some left right ho hc = (tree.no_arguments (open_is left ho) (close_is right hc), omega arith)

  reads_further_arguments : Reads (IsLevel l 1 (room - 1)) e → (n : ℕ) (all : Listed) → Reads (λ y vs. Adds (Expression l.most 1) n (room - 1) all y vs) (further_arguments e n all)
  unfolding further_arguments
  reads_further_arguments inner zero all = reads_pure all (adds_none (Expression l.most 1) 0 (room - 1) all)
  reads_further_arguments inner (suc n) all = reads_when sort.Comma
      (reads_token (λ z. cc) (λ comma hc. reads_bind inner (λ x us hx. reads_map (reads_further_arguments inner n (made.with all x))
      (λ y ws k. adds_more (Expression l.most 1) n (room - 1) all comma hc x us hx.0 hx.1 y ws k))))
      (reads_pure all (adds_none (Expression l.most 1) (suc n) (room - 1) all))

  all_arguments : 0 < l.most → 1 < room → (left right : Token) → sort_of left ≡ sort.Open → sort_of right ≡ sort.Close → (x : Tall) (us : List Token) → IsLevel l 1 (room - 1) x us
      → (y : Listed) (vs : List Token) → Adds (Expression l.most 1) (l.most - 1) (room - 1) (made.with made.no_exprs x) y vs → AreArguments l room y (left ∷ (us ++ (vs ++ right ∷ [])))
  all_arguments some p left right ho hc x us hx y vs k =
      let eh = added_height x y k.h k.height in let f : length (x.expr ∷ k.es) ≤ l.most = let a = k.few in omega arith in
      let a = k.low in let b = hx.1 in (
        subst (λ r. tree.Arguments l.most y.height y.exprs (left ∷ r)) (append_assoc us vs (right ∷ []))
            (rw (eh, k.exprs) (tree.some_arguments (open_is left ho) (listed k.are x.height x.expr us hx.0) (close_is right hc) f)),
        omega arith,
      )

  reads_some_arguments : 0 < l.most → 1 < room → Reads (IsLevel l 1 (room - 1)) e → (left : Token) → sort_of left ≡ sort.Open
      → Reads (λ y vs. AreArguments l room y (left ∷ vs)) (some_arguments l.most e)
  unfolding some_arguments
  reads_some_arguments some p inner left ho = reads_bind inner (λ x us hx. reads_bind (reads_further_arguments inner (l.most - 1) (made.with made.no_exprs x))
      (λ y vs k. reads_expect a_close (λ right hc. reads_pure y (all_arguments some p left right ho hc x us hx y vs k))))

  pub reads_arguments_after : 0 < l.most → 0 < room → (1 < room → Reads (IsLevel l 1 (room - 1)) e) → (left : Token) → sort_of left ≡ sort.Open
      → Reads (λ y vs. AreArguments l room y (left ∷ vs)) (arguments_after l.most room e)
  unfolding arguments_after
  reads_arguments_after some low inner left ho = reads_when sort.Close
      (reads_token (λ z. cc) (λ right hc. reads_pure made.no_exprs (no_arguments low left right ho hc)))
      (reads_any (reads_if (nat_le room 1)
      (λ b. reads_refuse (made.no_exprs, a_close.token ∷ [], no_arguments low left a_close.token ho a_close.is))
      (λ b. let p = le_not room 1 b in reads_some_arguments some p (inner p) left ho)))

  pub reads_arguments : {P : Sort → Type 0} → 0 < l.most → 0 < room → (1 < room → Reads (IsLevel l 1 (room - 1)) e) → ReadsAt (AreArguments l room) P (arguments l.most room e)
  unfolding arguments
  reads_arguments some low inner = reads_expect an_open (λ left ho. reads_arguments_after some low inner left ho)

  -- ---- items in braces

  no_items : 0 < room → (left right : Token) → sort_of left ≡ sort.Begin → sort_of right ≡ sort.Finish → AreItems l room made.no_exprs (left ∷ right ∷ [])
  no_items some left right hb hf = (tree.no_items (begin_is left hb) (finish_is right hf), omega arith)

  -- further items, and perhaps a last comma
  record AddsItems (n : ℕ) (all y : Listed) (ts : List Token) : Type 0 where
    front : List Token
    end : List Token
    adds : Adds (Init l.most) n (room - 1) all y front
    tokens : ts ≡ front ++ end
    ends : IsEnd end

  adds_no_items : (n : ℕ) (all : Listed) (end : List Token) → IsEnd end → AddsItems n all all end
  adds_no_items n all end h = record { front = []; end = end; adds = adds_none (Init l.most) n (room - 1) all; tokens = refl; ends = h }

  adds_items : (n : ℕ) (all : Listed) (comma : Token) → sort_of comma ≡ sort.Comma → (x : Tall) (us : List Token) → IsInit l (room - 1) x us
      → (y : Listed) (ws : List Token) → AddsItems n (made.with all x) y ws → AddsItems (suc n) all y (comma ∷ us ++ ws)
  adds_items n all comma hc x us hx y ws k = record {
    front = comma ∷ us ++ k.front;
    end = k.end;
    adds = adds_more (Init l.most) n (room - 1) all comma hc x us hx.0 hx.1 y k.front k.adds;
    tokens = ap (λ r. comma ∷ us ++ r) k.tokens ∙ sym (append_assoc (comma ∷ us) k.front k.end);
    ends = k.ends;
  }

  reads_further_items : Reads (IsInit l (room - 1)) e → (n : ℕ) (all : Listed) → Reads (λ y vs. AddsItems n all y vs) (further_items e n all)
  unfolding further_items
  reads_further_items inner zero all = reads_pure all (adds_no_items 0 all [] tt)
  reads_further_items inner (suc n) all = reads_when sort.Comma
      (reads_token (λ z. cc) (λ comma hc. reads_when sort.Finish
      (reads_pure all (adds_no_items (suc n) all (comma ∷ []) (comma_is comma hc)))
      (reads_any (reads_bind inner (λ x us hx. reads_map (reads_further_items inner n (made.with all x)) (λ y ws k. adds_items n all comma hc x us hx y ws k))))))
      (reads_pure all (adds_no_items (suc n) all [] tt))

  closed_items : (h : ℕ) (es : List Expr) (left right : Token) → sort_of left ≡ sort.Begin → sort_of right ≡ sort.Finish → (ts : List Token) → tree.Inits l.most h es ts
      → (end : List Token) → IsEnd end → tree.Items l.most h es (left ∷ (ts ++ (end ++ right ∷ [])))
  closed_items h es left right hl hr ts k [] z = tree.some_items (begin_is left hl) k (finish_is right hr)
  closed_items h es left right hl hr ts k (c ∷ []) z = tree.items_comma (begin_is left hl) k z (finish_is right hr)
  closed_items h es left right hl hr ts k (c ∷ d ∷ rest) z = absurd z

  all_items : 1 < room → (left right : Token) → sort_of left ≡ sort.Begin → sort_of right ≡ sort.Finish → (x : Tall) (us : List Token) → IsInit l (room - 1) x us
      → (n : ℕ) (y : Listed) (vs : List Token) → AddsItems n (made.with made.no_exprs x) y vs → AreItems l room y (left ∷ (us ++ (vs ++ right ∷ [])))
  all_items p left right hl hr x us hx n y vs k =
      let added = k.adds in let eh = added_height x y added.h added.height in let a = added.low in let b = hx.1 in
      let e : us ++ (vs ++ right ∷ []) ≡ (us ++ k.front) ++ (k.end ++ right ∷ []) =
      ap (λ r. us ++ (r ++ right ∷ [])) k.tokens ∙ ap (λ r. us ++ r) (append_assoc k.front k.end (right ∷ [])) ∙ sym (append_assoc us k.front (k.end ++ right ∷ [])) in (
        subst (λ r. tree.Items l.most y.height y.exprs (left ∷ r)) (sym e)
            (rw (eh, added.exprs) (closed_items (max x.height added.h) (x.expr ∷ added.es) left right hl hr (us ++ k.front) (inits added.are x.height x.expr us hx.0) k.end k.ends)),
        omega arith,
      )

  reads_some_items : 1 < room → Reads (IsInit l (room - 1)) e → (turns : ℕ) (left : Token) → sort_of left ≡ sort.Begin → Reads (λ y vs. AreItems l room y (left ∷ vs)) (some_items turns e)
  unfolding some_items
  reads_some_items p inner turns left hl = reads_bind inner (λ x us hx. reads_bind (reads_further_items inner turns (made.with made.no_exprs x))
      (λ y vs k. reads_expect a_finish (λ right hr. reads_pure y (all_items p left right hl hr x us hx turns y vs k))))

  pub reads_items : {P : Sort → Type 0} → 0 < room → (1 < room → Reads (IsInit l (room - 1)) e) → (turns : ℕ) → ReadsAt (AreItems l room) P (items turns room e)
  unfolding items items_after
  reads_items low inner turns = reads_expect a_begin (λ left hl. reads_when sort.Finish
      (reads_token (λ z. cc) (λ right hr. reads_pure made.no_exprs (no_items low left right hl hr)))
      (reads_any (reads_if (nat_le room 1)
      (λ b. reads_refuse (made.no_exprs, a_finish.token ∷ [], no_items low left a_finish.token hl a_finish.is))
      (λ b. let p = le_not room 1 b in reads_some_items p (inner p) turns left hl))))
