-- A part that begins with names is read alike where those names are read first.
use Rattle.std.proofs.Common.{◌≡◌, inl, inr, ℕ, zero, suc, ◌<◌, ◌≤◌, true, false, List, [], ◌∷◌, ◌++◌, length, nat_le, nat_eq, Ok, refl, sym, ap, ap₂, ◌∙◌, subst, if◌then◌else◌, arith}
use Rattle.std.proofs.lemmas.Bool.Decides.{nat_tests}
use Rattle.mol_base.specs.Token.{Token}
use Rattle.jav_parse_cursor.specs.declared.limits.Limits.{Limits}
use Rattle.jav_parse_expr.specs.declared.primary.Rooms.{Rooms}
use Rattle.jav_parse_cursor.specs.declared.sort.Sort.{Sort}
use Rattle.jav_parse_cursor.specs.declared.sort.Sort.TheVariants as sort
use Rattle.jav_parse_cursor.specs.declared.tall.Tall.{Tall}
use Rattle.jav_parse_cursor.specs.declared.tall.Listed.{Listed}
use Rattle.jav_parse_cursor.specs.Nodes as made
use Rattle.jav_parse_cursor.specs.Nodes.{count_of}
use Rattle.jav_parse_expr.specs.PrimaryRules as rule
use Rattle.jav_parse_expr.specs.PrimaryRules.{Inside, is_link, arguments, call_on, member_named, index, chain, primary, part, named, named_item}
use Rattle.jav_parse_cursor.specs.Reading.{◌>>=◌, pure, refuse, sort as next, when_next}
use Rattle.jav_parse_cursor.specs.Sorts.{same_sort, sort_of}
use Rattle.jav_parse_cursor.specs.TypeRules.{further_names}
use Rattle.jav_parse.proofs.ChainLinks.{dot_linked, item_linked, chain_ends, chain_more, linked, no_turn, link_dot_is, link_left_is}
use Rattle.jav_parse.proofs.CompleteTypes.{dot_goes, names_end}
use Rattle.jav_parse.proofs.NameChains.{Pairs, none, one_more, named_last, named_height, count_more, call_last, call_one}
use Rattle.jav_parse.proofs.Outcomes.{steps, ok_same, not_refused, when_ok, sort_or, le_false_is}
use Rattle.jav_parse.proofs.ReadingSteps.{IsNot, expect_goes, lt_false, le_false}

no_link_from : (s : Sort) → same_sort s sort.Dot ≡ false → same_sort s sort.Left ≡ false → is_link s ≡ false
unfolding same_sort
no_link_from sort.Dot h k = absurd (cc)
no_link_from sort.Left h k = absurd (cc)
no_link_from s h k = refl

open_not_dot : (ts : List Token) → next ts ≡ sort.Open → IsNot sort.Dot ts
unfolding same_sort
open_not_dot ts h = rw h refl

positive : (n : ℕ) → nat_eq n 0 ≡ false → 1 ≤ n
positive n h = grind (arith, nat_tests)

module _ (l : Limits) (top : ℕ) (rooms : Rooms) (e : Inside) where
  -- how reading goes on after the names
  pub data Goes (names after : List Token) (r : Tall × List Token) : Type 0 where
    by_part : (first : Tall) (rest : List Token) → IsNot sort.Left after → named l top rooms e names after ≡ Ok (first, rest) → chain l top rooms e top first rest ≡ Ok r → Goes names after r
    by_item : (left : Token) (us : List Token) (first : Tall) (rest : List Token) → after ≡ left ∷ us → sort_of left ≡ sort.Left → named_item l top rooms e names us ≡ Ok (first, rest)
        → chain l top rooms e top first rest ≡ Ok r → Goes names after r

  pub record NamesRead (n : ℕ) (given ts : List Token) (r : Tall × List Token) : Type 0 where
    pub names : List Token
    pub after : List Token
    pub read : further_names n given ts ≡ Ok (names, after)
    pub goes : Goes names after r

  pub named_stands : (names ts : List Token) → IsNot sort.Open ts → count_of names ≤ rooms.target → named l top rooms e names ts ≡ Ok (made.named l.builds names, ts)
  unfolding named
  named_stands names ts o low = rw (o, lt_false rooms.target (count_of names) low) refl

  named_calls : (names ts : List Token) (args : Listed) (rest : List Token) → next ts ≡ sort.Open → count_of names ≤ rooms.invocation → arguments l.most rooms.invocation e.argument ts ≡ Ok (args, rest)
      → named l top rooms e names ts ≡ Ok (made.named_call l.builds names args, rest)
  unfolding named same_sort
  named_calls names ts args rest o low h = rw (o, lt_false rooms.invocation (count_of names) low, h) refl

  item_goes : (names ts : List Token) (r : Tall × List Token) → count_of names < rooms.target → index l top rooms e (made.named l.builds names) ts ≡ Ok r → named_item l top rooms e names ts ≡ Ok r
  unfolding named_item
  item_goes names ts r low h = rw (le_false rooms.target (count_of names) low) h

  module _ (b : l.builds ≡ true) where
    built : (names : List Token) → made.named true names ≡ made.named l.builds names
    built names = ap (λ c. made.named c names) (sym b)

    -- what n turns of a chain keep
    abbrev Keeps : ℕ → Type 0
    Keeps k = k ≤ top → (first : Token) (more : List Token) → Pairs more → (ts : List Token) (n : ℕ) → length ts < n → IsNot sort.Open ts → count_of (first ∷ more) ≤ rooms.target
        → (r : Tall × List Token) → chain l top rooms e k (made.named true (first ∷ more)) ts ≡ Ok r → NamesRead n (first ∷ more) ts r

    after_call : (first : Token) (more : List Token) → Pairs more → (dot t : Token) (ws : List Token) (n k : ℕ) → k ≤ top → sort_of dot ≡ sort.Dot → sort_of t ≡ sort.Name
        → next ws ≡ sort.Open → (x : Tall) (us : List Token) (r : Tall × List Token) → call_on l top rooms e (made.named true (first ∷ more)) t ws ≡ Ok (x, us)
        → chain l top rooms e k x us ≡ Ok r → NamesRead (suc (suc n)) (first ∷ more) (dot ∷ t ∷ ws) r
    unfolding call_on same_sort
    after_call first more p dot t ws n k low hd ht o x us r h go =
        let test = not_refused (nat_le rooms.invocation (made.named true (first ∷ more)).height) (arguments l.most rooms.invocation e.argument >>= (λ args. pure (made.called_on (made.named true (first ∷ more)) t args))) ws (x, us) h in
        let s = steps (arguments l.most rooms.invocation e.argument ws) (λ args. pure (made.called_on (made.named true (first ∷ more)) t args)) (x, us) test.1 in
        let same = ok_same (made.called_on (made.named true (first ∷ more)) t s.value) x s.rest us s.second in
        let high = le_false_is rooms.invocation (made.named true (first ∷ more)).height test.0 in
        let z = named_height p first in let c = count_more first dot t more in
        let tree : made.named_call l.builds (first ∷ more ++ dot ∷ t ∷ []) s.value ≡ x = ap (λ v. made.named_call v (first ∷ more ++ dot ∷ t ∷ []) s.value) b ∙ call_last first dot t more s.value ∙ same.value in
        record {
          names = first ∷ more ++ dot ∷ t ∷ [];
          after = ws;
          read = dot_goes (suc n) (first ∷ more) dot t ws hd ht ∙ names_end n (first ∷ more ++ dot ∷ t ∷ []) ws (open_not_dot ws o);
          goes = by_part x us (rw o refl) (named_calls (first ∷ more ++ dot ∷ t ∷ []) ws s.value s.rest o (omega arith) s.first ∙ ap₂ (λ v w. Ok (v, w)) tree same.rest)
              (chain_more l top rooms e k top low x us r go);
        }

    after_field : (first : Token) (more : List Token) → Pairs more → (dot t : Token) (ws : List Token) (n k : ℕ) → Keeps k → k ≤ top → suc (suc (length ws)) < suc n → sort_of dot ≡ sort.Dot → sort_of t ≡ sort.Name
        → IsNot sort.Open ws → (x : Tall) (us : List Token) (r : Tall × List Token)
        → (if nat_le rooms.target (made.named true (first ∷ more)).height then refuse else pure (made.dotted (made.named true (first ∷ more)) t)) ws ≡ Ok (x, us)
        → chain l top rooms e k x us ≡ Ok r → NamesRead (suc n) (first ∷ more) (dot ∷ t ∷ ws) r
    after_field first more p dot t ws n k keeps low few hd ht o x us r h go =
        let test = not_refused (nat_le rooms.target (made.named true (first ∷ more)).height) (pure (made.dotted (made.named true (first ∷ more)) t)) ws (x, us) h in
        let same = ok_same (made.dotted (made.named true (first ∷ more)) t) x ws us test.1 in
        let high = le_false_is rooms.target (made.named true (first ∷ more)).height test.0 in
        let z = named_height p first in let c = count_more first dot t more in
        let tree : x ≡ made.named true (first ∷ more ++ dot ∷ t ∷ []) = sym same.value ∙ sym (named_last p first dot t) in
        let deeper = keeps low first (more ++ dot ∷ t ∷ []) (one_more dot t p) ws n (omega arith) o (omega arith) r
        (subst (λ v. chain l top rooms e k v ws ≡ Ok r) tree (subst (λ w. chain l top rooms e k x w ≡ Ok r) (sym same.rest) go)) in
        record { names = deeper.names; after = deeper.after; read = dot_goes n (first ∷ more) dot t ws hd ht ∙ deeper.read; goes = deeper.goes }

    after_dot : (first : Token) (more : List Token) → Pairs more → (dot t : Token) (ws : List Token) (n k : ℕ) → Keeps k → k ≤ top → suc (suc (length ws)) < n → sort_of dot ≡ sort.Dot → sort_of t ≡ sort.Name
        → (x : Tall) (us : List Token) (r : Tall × List Token) → member_named l top rooms e (made.named true (first ∷ more)) t ws ≡ Ok (x, us)
        → chain l top rooms e k x us ≡ Ok r → NamesRead n (first ∷ more) (dot ∷ t ∷ ws) r
    unfolding member_named
    after_dot first more p dot t ws zero k keeps low few hd ht x us r h go = absurd (omega arith)
    after_dot first more p dot t ws (suc zero) k keeps low few hd ht x us r h go = absurd (omega arith)
    after_dot first more p dot t ws (suc (suc n)) k keeps low few hd ht x us r h go =
        elim (when_ok sort.Open (call_on l top rooms e (made.named true (first ∷ more)) t)
        (if nat_le rooms.target (made.named true (first ∷ more)).height then refuse else pure (made.dotted (made.named true (first ∷ more)) t)) ws (x, us) h) [
          | inl c ↦ after_call first more p dot t ws n k low hd ht c.0 x us r c.1 go
          | inr c ↦ after_field first more p dot t ws (suc n) k keeps low few hd ht c.0 x us r c.1 go
        ]

    at_dot : (k : ℕ) → Keeps k → suc k ≤ top → (first : Token) (more : List Token) → Pairs more → (ts : List Token) (n : ℕ) → length ts < n → next ts ≡ sort.Dot
        → (r : Tall × List Token) → chain l top rooms e (suc k) (made.named true (first ∷ more)) ts ≡ Ok r → NamesRead n (first ∷ more) ts r
    at_dot k keeps low first more p ts n few d r h =
        let s = linked l top rooms e k (made.named true (first ∷ more)) ts r (rw d refl) h in
        let m = dot_linked l top rooms e (made.named true (first ∷ more)) ts (s.value, s.rest) d (sym (link_dot_is l top rooms e (made.named true (first ∷ more)) ts d) ∙ s.first) in
        let all = ap length m.taken.split in
        subst (λ us. NamesRead n (first ∷ more) us r) (sym m.taken.split)
        (after_dot first more p m.taken.dot m.taken.name m.taken.rest n k keeps (omega arith) (omega arith) m.taken.is_dot m.taken.is_name s.value s.rest r m.goes s.second)

    at_left : (k : ℕ) → suc k ≤ top → (first : Token) (more : List Token) → Pairs more → (ts : List Token) (n : ℕ) → IsNot sort.Dot ts → next ts ≡ sort.Left
        → (r : Tall × List Token) → chain l top rooms e (suc k) (made.named true (first ∷ more)) ts ≡ Ok r → NamesRead (suc n) (first ∷ more) ts r
    at_left k low first more p ts n d f r h =
        let s = linked l top rooms e k (made.named true (first ∷ more)) ts r (rw f refl) h in
        let m = item_linked l top rooms e (made.named true (first ∷ more)) ts (s.value, s.rest) f (sym (link_left_is l top rooms e (made.named true (first ∷ more)) ts f) ∙ s.first) in
        let z = named_height p first in let lower = m.low in
        record {
          names = first ∷ more;
          after = ts;
          read = names_end n (first ∷ more) ts d;
          goes = by_item m.left m.rest s.value s.rest m.split m.is_left
              (item_goes (first ∷ more) m.rest (s.value, s.rest) (omega arith) (subst (λ v. index l top rooms e v m.rest ≡ Ok (s.value, s.rest)) (built (first ∷ more)) m.goes))
              (chain_more l top rooms e k top (omega arith) s.value s.rest r s.second);
        }

    at_end : (k : ℕ) (first : Token) (more : List Token) (ts : List Token) (n : ℕ) → IsNot sort.Dot ts → IsNot sort.Left ts → IsNot sort.Open ts → count_of (first ∷ more) ≤ rooms.target
        → (r : Tall × List Token) → chain l top rooms e k (made.named true (first ∷ more)) ts ≡ Ok r → NamesRead (suc n) (first ∷ more) ts r
    at_end k first more ts n d f o low r h =
        let stop = no_link_from (next ts) d f in
        record {
          names = first ∷ more;
          after = ts;
          read = names_end n (first ∷ more) ts d;
          goes = by_part (made.named true (first ∷ more)) ts f (named_stands (first ∷ more) ts o low ∙ ap (λ v. Ok (v, ts)) (sym (built (first ∷ more))))
              (chain_ends l top rooms e top (made.named true (first ∷ more)) ts stop ∙ sym (chain_ends l top rooms e k (made.named true (first ∷ more)) ts stop) ∙ h);
        }

    names_go : (k : ℕ) → Keeps k
    names_go k low first more p ts zero few o high r h = absurd (omega arith)
    names_go zero low first more p ts (suc n) few o high r h =
        elim (sort_or sort.Dot ts) [
          | inl d ↦ absurd (no_turn l top rooms e (made.named true (first ∷ more)) ts r (rw d refl) h)
          | inr d ↦ elim (sort_or sort.Left ts) [
            | inl f ↦ absurd (no_turn l top rooms e (made.named true (first ∷ more)) ts r (rw f refl) h)
            | inr f ↦ at_end zero first more ts n d f o high r h
          ]
        ]
    names_go (suc k) low first more p ts (suc n) few o high r h =
        elim (sort_or sort.Dot ts) [
          | inl d ↦ at_dot k (names_go k) low first more p ts (suc n) few d r h
          | inr d ↦ elim (sort_or sort.Left ts) [
            | inl f ↦ at_left k low first more p ts n d f r h
            | inr f ↦ at_end (suc k) first more ts n d f o high r h
          ]
        ]

    name_is : (t : Token) (ts : List Token) → sort_of t ≡ sort.Name → primary l top rooms e (t ∷ ts) ≡ when_next sort.Open
        (if nat_eq rooms.invocation 0 then refuse else (arguments l.most rooms.invocation e.argument >>= (λ args. pure (made.called t args))))
        (if nat_eq rooms.target 0 then refuse else pure (made.name t)) ts
    unfolding primary rule.name next
    name_is t ts h = rw (h, expect_goes t ts h) refl

    first_call : (t : Token) (ts : List Token) (n : ℕ) → next ts ≡ sort.Open → (x : Tall) (us : List Token) (r : Tall × List Token)
        → (if nat_eq rooms.invocation 0 then refuse else (arguments l.most rooms.invocation e.argument >>= (λ args. pure (made.called t args)))) ts ≡ Ok (x, us)
        → chain l top rooms e top x us ≡ Ok r → NamesRead (suc n) (t ∷ []) ts r
    unfolding same_sort
    first_call t ts n o x us r h go =
        let test = not_refused (nat_eq rooms.invocation 0) (arguments l.most rooms.invocation e.argument >>= (λ args. pure (made.called t args))) ts (x, us) h in
        let s = steps (arguments l.most rooms.invocation e.argument ts) (λ args. pure (made.called t args)) (x, us) test.1 in
        let same = ok_same (made.called t s.value) x s.rest us s.second in
        let tree : made.named_call l.builds (t ∷ []) s.value ≡ x = ap (λ v. made.named_call v (t ∷ []) s.value) b ∙ call_one t s.value ∙ same.value in
        record {
          names = t ∷ [];
          after = ts;
          read = names_end n (t ∷ []) ts (open_not_dot ts o);
          goes = by_part x us (rw o refl) (named_calls (t ∷ []) ts s.value s.rest o (positive rooms.invocation test.0) s.first ∙ ap₂ (λ v w. Ok (v, w)) tree same.rest) go;
        }

    one_is : (t : Token) → made.named true (t ∷ []) ≡ made.name t
    unfolding made.named made.dotted_by
    one_is t = refl

    first_stands : (t : Token) (ts : List Token) (n : ℕ) → length ts < n → IsNot sort.Open ts → (x : Tall) (us : List Token) (r : Tall × List Token)
        → (if nat_eq rooms.target 0 then refuse else pure (made.name t)) ts ≡ Ok (x, us) → chain l top rooms e top x us ≡ Ok r → NamesRead n (t ∷ []) ts r
    first_stands t ts n few o x us r h go =
        let test = not_refused (nat_eq rooms.target 0) (pure (made.name t)) ts (x, us) h in
        let same = ok_same (made.name t) x ts us test.1 in
        names_go top (omega arith) t [] none ts n few o (positive rooms.target test.0) r
        (subst (λ v. chain l top rooms e top v ts ≡ Ok r) (sym same.value ∙ sym (one_is t)) (subst (λ w. chain l top rooms e top x w ≡ Ok r) (sym same.rest) go))

    first_by : (t : Token) (ts : List Token) (n : ℕ) → length ts < n → (x : Tall) (us : List Token) (r : Tall × List Token)
        → when_next sort.Open
        (if nat_eq rooms.invocation 0 then refuse else (arguments l.most rooms.invocation e.argument >>= (λ args. pure (made.called t args))))
        (if nat_eq rooms.target 0 then refuse else pure (made.name t)) ts ≡ Ok (x, us) → chain l top rooms e top x us ≡ Ok r → NamesRead n (t ∷ []) ts r
    first_by t ts zero few x us r h go = absurd (omega arith)
    first_by t ts (suc n) few x us r h go =
        elim (when_ok sort.Open
        (if nat_eq rooms.invocation 0 then refuse else (arguments l.most rooms.invocation e.argument >>= (λ args. pure (made.called t args))))
        (if nat_eq rooms.target 0 then refuse else pure (made.name t)) ts (x, us) h) [
          | inl c ↦ first_call t ts n c.0 x us r c.1 go
          | inr c ↦ first_stands t ts (suc n) few c.0 x us r c.1 go
        ]

    -- a part that begins with a name
    pub first_names : (t : Token) (ts : List Token) (n : ℕ) → sort_of t ≡ sort.Name → length ts < n → (r : Tall × List Token) → part l top rooms e (t ∷ ts) ≡ Ok r → NamesRead n (t ∷ []) ts r
    unfolding part
    first_names t ts n h few r go =
        let s = steps (primary l top rooms e (t ∷ ts)) (chain l top rooms e top) r go in
        first_by t ts n few s.value s.rest r (sym (name_is t ts h) ∙ s.first) s.second
