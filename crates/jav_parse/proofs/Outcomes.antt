-- What steps of reading read, from what they answer.
use Rattle.std.proofs.Common.{◌≡◌, ◌⊎◌, inl, inr, ℕ, ◌<◌, ◌≤◌, Bool, true, false, List, [], ◌∷◌, Ok, Err, refl, sym, ap, ap₂, ◌∙◌, if◌then◌else◌, nat_lt, nat_le, arith}
use Rattle.std.proofs.lemmas.Bool.Decides.{nat_tests}
use Rattle.mol_base.specs.Token.{Token}
use Rattle.jav_parse_cursor.specs.declared.sort.Sort.{Sort}
use Rattle.jav_parse_cursor.specs.Reading.{Outcome, Parser, and_then, refuse, sort as next, take_token, expect, when_next}
use Rattle.jav_parse_cursor.specs.Sorts.{same_sort, sort_of}
use Rattle.jav_parse.proofs.ReadingSteps.{IsNot}
use Rattle.jav_parse.proofs.Written.{is_same}

-- the two steps of a reading that succeeds
pub record Steps {A B : Type 0} (o : Outcome A) (f : A → Parser B) (r : B × List Token) : Type 0 where
  pub value : A
  pub rest : List Token
  pub first : o ≡ Ok (value, rest)
  pub second : f value rest ≡ Ok r

pub steps : {A B : Type 0} (o : Outcome A) (f : A → Parser B) (r : B × List Token) → and_then o f ≡ Ok r → Steps o f r
steps (Ok p) f r h = record { value = p.0; rest = p.1; first = refl; second = h }
steps (Err bad) f r h = absurd (cc)

pub not_refused : {A : Type 0} (refused : Bool) (p : Parser A) (ts : List Token) (r : A × List Token) → (if refused then refuse else p) ts ≡ Ok r → (refused ≡ false) × (p ts ≡ Ok r)
not_refused true p ts r h = absurd (cc)
not_refused false p ts r h = (refl, h)

chosen_by : {A : Type 0} (s : Sort) (p q : Parser A) (ts : List Token) (r : A × List Token) (found : Bool) → (found ≡ true → next ts ≡ s) → same_sort (next ts) s ≡ found
    → (if found then p else q) ts ≡ Ok r → ((next ts ≡ s) × (p ts ≡ Ok r)) ⊎ (IsNot s ts × (q ts ≡ Ok r))
chosen_by s p q ts r true e f h = inl (e refl, h)
chosen_by s p q ts r false e f h = inr (f, h)

pub when_ok : {A : Type 0} (s : Sort) (p q : Parser A) (ts : List Token) (r : A × List Token) → when_next s p q ts ≡ Ok r
    → ((next ts ≡ s) × (p ts ≡ Ok r)) ⊎ (IsNot s ts × (q ts ≡ Ok r))
when_ok s p q ts r h = chosen_by s p q ts r (same_sort (next ts) s) (is_same (next ts) s) refl h

sort_by : (s : Sort) (ts : List Token) (found : Bool) → (found ≡ true → next ts ≡ s) → same_sort (next ts) s ≡ found → (next ts ≡ s) ⊎ IsNot s ts
sort_by s ts true e f = inl (e refl)
sort_by s ts false e f = inr f

-- what two equal answers hold
pub record Same {A : Type 0} (x y : A) (us vs : List Token) : Type 0 where
  pub value : x ≡ y
  pub rest : us ≡ vs

pub ok_same : {A : Type 0} (x y : A) (us vs : List Token) → ◌≡◌ {A = Outcome A} (Ok (x, us)) (Ok (y, vs)) → Same x y us vs
ok_same {A} x y us vs h =
    let e : ◌≡◌ {A = A × List Token} (x, us) (y, vs) = cc in
    record { value = ap (λ p. p.0) e; rest = ap (λ p. p.1) e }

-- the next token is of this sort or not
pub sort_or : (s : Sort) (ts : List Token) → (next ts ≡ s) ⊎ IsNot s ts
sort_or s ts = sort_by s ts (same_sort (next ts) s) (is_same (next ts) s) refl

-- the token that was taken
pub record Taken (ts : List Token) (s : Sort) (t : Token) (rest : List Token) : Type 0 where
  pub split : ts ≡ t ∷ rest
  pub is : sort_of t ≡ s

taken_by : (s : Sort) (ts : List Token) (t : Token) (rest : List Token) (found : Bool) → (found ≡ true → next ts ≡ s) → (if found then take_token else refuse) ts ≡ Ok (t, rest) → Taken ts s t rest
unfolding take_token next
taken_by s [] t rest true e h = absurd (cc)
taken_by s (c ∷ ts) t rest true e h =
    let same = ok_same c t ts rest h in
    record { split = ap₂ ◌∷◌ same.value same.rest; is = ap sort_of (sym same.value) ∙ e refl }
taken_by s ts t rest false e h = absurd (cc)

pub expected : (s : Sort) (ts : List Token) (t : Token) (rest : List Token) → expect s ts ≡ Ok (t, rest) → Taken ts s t rest
unfolding expect
expected s ts t rest h = taken_by s ts t rest (same_sort (next ts) s) (is_same (next ts) s) h

pub take_ok : (ts : List Token) (t : Token) (rest : List Token) → take_token ts ≡ Ok (t, rest) → ts ≡ t ∷ rest
unfolding take_token
take_ok [] t rest h = absurd (cc)
take_ok (c ∷ ts) t rest h = let same = ok_same c t ts rest h in ap₂ ◌∷◌ same.value same.rest

pub le_false_is : (a b : ℕ) → nat_le a b ≡ false → b < a
le_false_is a b h = grind (arith, nat_tests)

pub lt_false_is : (a b : ℕ) → nat_lt a b ≡ false → b ≤ a
lt_false_is a b h = grind (arith, nat_tests)
