-- What begins with names where a declaration may stand too is told apart: the type of a declaration, or the first part of an action.
use Rattle.std.proofs.lemmas.List.{length-append}
use Rattle.std.proofs.Common.{◌≡◌, inl, inr, ℕ, suc, ◌+◌, ◌-◌, ◌<◌, ◌≤◌, true, false, List, [], ◌∷◌, ◌++◌, length, Ok, nat_eq, nat_le, nat_lt, if◌then◌else◌, refl, sym, ap, ◌∙◌, subst, append_assoc, arith}
use Rattle.mol_base.specs.Token.{Token}
use Rattle.jav_tree.specs.declared.types.TypeName.{TypeName}
use Rattle.jav_tree.specs.declared.types.TypeName.TheVariants as ty
use Rattle.jav_tree.specs.Types as types
use Rattle.jav_tree.specs.Types.{BaseType, Brackets, WholeType, array_of}
use Rattle.jav_parse_expr.specs.declared.action.Lead.TheVariants.{Declaration, Part}
use Rattle.jav_parse_cursor.specs.declared.limits.Limits.{Limits}
use Rattle.jav_parse_expr.specs.declared.primary.Goal.TheVariants as goals
use Rattle.jav_parse_cursor.specs.declared.sort.Sort.{Sort}
use Rattle.jav_parse_cursor.specs.declared.sort.Sort.TheVariants as sort
use Rattle.jav_parse_cursor.specs.declared.tall.Tall.{Tall}
use Rattle.jav_parse_cursor.specs.Nodes as made
use Rattle.jav_parse_cursor.specs.Nodes.{count_of, text_of, array_type}
use Rattle.jav_parse_expr.specs.PrimaryRules as rules
use Rattle.jav_parse_expr.specs.PrimaryRules.{Inside, acting, arguments, index, chain}
use Rattle.jav_parse_expr.specs.ActionRules.{ending, goes_on, acting_on, indexed_or_array, lead_by, type_or_part}
use Rattle.jav_parse_expr.specs.ExprRules.{expr, inside}
use Rattle.jav_parse_cursor.specs.Reading.{◌>>=◌, pure, refuse, expect, sort as next}
use Rattle.jav_parse_cursor.specs.Sorts.{sort_of, same_sort}
use Rattle.jav_parse_cursor.specs.TypeRules.{further_names, qualified, brackets}
use Rattle.jav_parse.proofs.ChainLinks.{chain_ends}
use Rattle.jav_parse.proofs.CompleteActions.{Acts, by_step, by_part}
use Rattle.jav_parse.proofs.CompleteActions as actions
use Rattle.jav_parse.proofs.CompleteTypes.{first_name, qualified_read, text_read, brackets_read, array_built}
use Rattle.jav_parse.proofs.FirstNames.{Goes, NamesRead, first_names}
use Rattle.jav_parse.proofs.FirstNames as names
use Rattle.jav_parse.proofs.OpenedParens.{no_expr}
use Rattle.jav_parse.proofs.Outcomes.{steps, ok_same, not_refused, when_ok, sort_or}
use Rattle.jav_parse.proofs.ReadingSteps.{IsNot, is_not, same_self, sort_at, eq_false, take_goes}
use Rattle.jav_parse.proofs.SortsOfTokens.{left_sort, right_sort, primitive_sort}

-- a token of one sort is not of another
pub is_not_at : (s u : Sort) (ts : List Token) → next ts ≡ s → same_sort s u ≡ false → IsNot u ts
is_not_at s u ts h q = ap (λ v. same_sort v u) h ∙ q

-- what was read as names and what goes on from them
pub record LeadRead (l : Limits) (top : ℕ) (ts : List Token) (r : Tall × List Token) : Type 0 where
  pub first : Tall
  pub rest : List Token
  pub leads : type_or_part l top ts ≡ Ok (Part first, rest)
  pub acts : acting_on l top first rest ≡ Ok r

module _ (l : Limits) (top : ℕ) where
  leads_by : (t : Token) (ts : List Token) (all after : List Token) → sort_of t ≡ sort.Name → further_names l.turns (t ∷ []) ts ≡ Ok (all, after)
      → type_or_part l top (t ∷ ts) ≡ lead_by l top all (next after) after
  unfolding type_or_part
  leads_by t ts all after h q = rw (first_name l.turns t ts h, q) refl

  lead_part : (all after : List Token) (s : Sort) → same_sort s sort.Left ≡ false → same_sort s sort.Name ≡ false
      → lead_by l top all s after ≡ (if nat_eq top 0 then refuse else (rules.named l top (acting top) (inside l (acting top)) all >>= (λ x. pure (Part x)))) after
  unfolding same_sort
  lead_part all after sort.Name a b = absurd (cc)
  lead_part all after sort.Left a b = absurd (cc)
  lead_part all after s a b = refl

  part_goes : (all after : List Token) (first : Tall) (rest : List Token) → 0 < top → rules.named l top (acting top) (inside l (acting top)) all after ≡ Ok (first, rest)
      → (if nat_eq top 0 then refuse else (rules.named l top (acting top) (inside l (acting top)) all >>= (λ x. pure (Part x)))) after ≡ Ok (Part first, rest)
  part_goes all after first rest some q = rw (eq_false top 0 some, q) refl

  acting_goes : (first x : Tall) (rest mid : List Token) (r : Tall × List Token) → 0 < top → chain l top (acting top) (inside l (acting top)) top first rest ≡ Ok (x, mid) → ending l top x mid ≡ Ok r
      → acting_on l top first rest ≡ Ok r
  unfolding acting_on goes_on
  acting_goes first x rest mid r some q h = rw (eq_false top 0 some, q) h

  item_goes : (all us : List Token) (left : Token) (first : Tall) (rest : List Token) → 0 < top → IsNot sort.Right us → rules.named_item l top (acting top) (inside l (acting top)) all us ≡ Ok (first, rest)
      → lead_by l top all sort.Left (left ∷ us) ≡ Ok (Part first, rest)
  unfolding indexed_or_array
  item_goes all us left first rest some n q = rw (take_goes left us, n, eq_false top 0 some, q) refl

  -- no index begins with `]`
  item_index : (all us : List Token) (r : Tall × List Token) → rules.named_item l top (acting top) (inside l (acting top)) all us ≡ Ok r → next us ≡ sort.Right → ⊥
  unfolding rules.named_item index
  item_index all us r h n =
      let x = made.named l.builds all in
      let a = not_refused (nat_le (top - 1) (count_of all)) (index l top (acting top) (inside l (acting top)) x) us r h in
      let s = steps (expr l (top - 1 - 1) (goals.Level 1) us) (λ i. expect sort.Right >>= (λ right. pure (made.indexed x i))) r a.1 in
      no_expr l (top - 1 - 1) us (s.value, s.rest) (inr n) s.first

  -- names that stand alone leave what follows them
  named_rest : (all after : List Token) (first : Tall) (rest : List Token) → next after ≡ sort.Name → rules.named l top (acting top) (inside l (acting top)) all after ≡ Ok (first, rest) → rest ≡ after
  unfolding rules.named same_sort
  named_rest all after first rest n h =
      elim (when_ok sort.Open (if nat_lt top (count_of all) then refuse else (arguments l.most top (expr l (top - 1) (goals.Level 1)) >>= (λ args. pure (made.named_call l.builds all args))))
      (if nat_lt (top - 1) (count_of all) then refuse else pure (made.named l.builds all)) after (first, rest) h) [
        | inl c ↦ absurd (let e = sym n ∙ c.0 in cc)
        | inr c ↦ let a = not_refused (nat_lt (top - 1) (count_of all)) (pure (made.named l.builds all)) after (first, rest) c.1 in sym ((ok_same (made.named l.builds all) first after rest a.1).rest)
      ]

  -- what follows a part that is read is no name, and so is what follows its names
  not_name : (all after : List Token) (first x : Tall) (rest mid : List Token) → IsNot sort.Name mid → rules.named l top (acting top) (inside l (acting top)) all after ≡ Ok (first, rest)
      → chain l top (acting top) (inside l (acting top)) top first rest ≡ Ok (x, mid) → next after ≡ sort.Name → ⊥
  unfolding same_sort
  not_name all after first x rest mid n h q e =
      let same = named_rest all after first rest e h in
      let stops = chain_ends l top (acting top) (inside l (acting top)) top first after (rw e refl) in
      let all_same = ok_same first x after mid (sym stops ∙ subst (λ r. chain l top (acting top) (inside l (acting top)) top first r ≡ Ok (x, mid)) same q) in
      let name : same_sort (next mid) sort.Name ≡ true = ap (λ r. same_sort (next r) sort.Name) (sym all_same.rest) ∙ ap (λ s. same_sort s sort.Name) e in
      cc

  goes_lead : (t : Token) (ts : List Token) (all after : List Token) (x : Tall) (mid : List Token) (r : Tall × List Token) → 0 < top → sort_of t ≡ sort.Name → IsNot sort.Name mid
      → further_names l.turns (t ∷ []) ts ≡ Ok (all, after) → ending l top x mid ≡ Ok r → Goes l top (acting top) (inside l (acting top)) all after (x, mid) → LeadRead l top (t ∷ ts) r
  goes_lead t ts all after x mid r some h n q ends (names.by_part first rest plain named chained) =
      let other : IsNot sort.Name after = elim (sort_or sort.Name after) [ inl e ↦ absurd (not_name all after first x rest mid n named chained e) | inr e ↦ e ] in
      record {
        first = first;
        rest = rest;
        leads = leads_by t ts all after h q ∙ lead_part all after (next after) plain other ∙ part_goes all after first rest some named;
        acts = acting_goes first x rest mid r some chained ends;
      }
  goes_lead t ts all after x mid r some h n q ends (names.by_item left us first rest split is_left item chained) =
      let other : IsNot sort.Right us = elim (sort_or sort.Right us) [ inl e ↦ absurd (item_index all us (first, rest) item e) | inr e ↦ e ] in
      record {
        first = first;
        rest = rest;
        leads = leads_by t ts all after h q ∙ ap (λ s. lead_by l top all (next s) s) split ∙ ap (λ s. lead_by l top all s (left ∷ us)) (sort_at left us ∙ is_left) ∙ item_goes all us left first rest some other item;
        acts = acting_goes first x rest mid r some chained ends;
      }

  -- an action that begins with a name
  pub acts_lead : l.builds ≡ true → 0 < top → (t : Token) (ts : List Token) → sort_of t ≡ sort.Name → length ts < l.turns → (r : Tall × List Token) → Acts l top (t ∷ ts) r → LeadRead l top (t ∷ ts) r
  acts_lead b some t ts h few r (actions.by_step e q) = absurd (let z = sym e ∙ sort_at t ts ∙ h in cc)
  acts_lead b some t ts h few r (actions.by_part x mid begins n p ends) =
      let k = first_names l top (acting top) (inside l (acting top)) b t ts l.turns h few (x, mid) p in
      goes_lead t ts k.names k.after x mid r some h n k.read ends k.goes

  -- ---- the type of a declaration

  type_stands : (us rest : List Token) (q : List ℕ) → next rest ≡ sort.Name → text_of us ≡ q → qualified l.turns (us ++ rest) ≡ Ok (us, rest) → type_or_part l top (us ++ rest) ≡ Ok (Declaration (ty.Named q), rest)
  unfolding type_or_part
  type_stands us rest q n e h = rw (h, n, e) refl

  array_stands : (us vs rest : List Token) (q : List ℕ) (left right : Token) (n : ℕ) → l.builds ≡ true → sort_of left ≡ sort.Left → sort_of right ≡ sort.Right → text_of us ≡ q
      → qualified l.turns (us ++ (left ∷ right ∷ vs)) ≡ Ok (us, left ∷ right ∷ vs) → brackets (l.most - 1) 1 vs ≡ Ok (n, rest) → type_or_part l top (us ++ (left ∷ right ∷ vs)) ≡ Ok (Declaration (array_of n (ty.Named q)), rest)
  unfolding type_or_part indexed_or_array next
  array_stands us vs rest q left right n b hl hr e h k = rw (h, hl, take_goes left (right ∷ vs), hr, same_self sort.Right, take_goes right vs, k, e, array_built l.builds n (ty.Named q) b) refl

  declared_by : l.builds ≡ true → (base : TypeName) (n : ℕ) (ts us : List Token) → BaseType base ts → Brackets n us → n ≤ l.most → (rest : List Token) → next (ts ++ (us ++ rest)) ≡ sort.Name → next rest ≡ sort.Name
      → length ts < l.turns → type_or_part l top (ts ++ (us ++ rest)) ≡ Ok (Declaration (array_of n base), rest)
  unfolding next same_sort
  declared_by b base n ts us (types.primitive x) y few rest p h short = absurd (let z = sym (primitive_sort x) ∙ p in cc)
  declared_by b base n ts us (types.named {q = q} x) types.none few rest p h short = type_stands ts rest q h (text_read x) (qualified_read x l.turns short rest (rw h refl))
  declared_by b base n ts us (types.named {q = q} x) (types.pair {left = left} {right = right} {n = m} {ts = vs} hl hr y) few rest p h short =
      let e : 1 + m ≡ suc m = omega arith in
      array_stands ts (vs ++ rest) rest q left right (suc m) b (left_sort hl) (right_sort hr) (text_read x)
      (qualified_read x l.turns short (left ∷ right ∷ vs ++ rest) (is_not sort.Dot sort.Left left (right ∷ vs ++ rest) (left_sort hl) refl))
      (brackets_read y (l.most - 1) 1 (omega arith) rest (rw h refl) ∙ ap (λ r. Ok (r, rest)) e)

  -- the type of a declaration that begins with a name
  pub declared_lead : l.builds ≡ true → (to : TypeName) (us : List Token) → WholeType l.most to us → (rest : List Token) → next (us ++ rest) ≡ sort.Name → next rest ≡ sort.Name → length us < l.turns
      → type_or_part l top (us ++ rest) ≡ Ok (Declaration to, rest)
  declared_lead b to us (types.whole {base = base} {n = n} {ts = ts} {us = vs} x y few) rest p h short =
      let z = length-append ts vs in
      rw append_assoc (declared_by b base n ts vs x y few rest (rw append_assoc at p) h (omega arith))
