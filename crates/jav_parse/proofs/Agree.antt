-- Limits that are large enough for the tokens are all alike. Laws of the steps, for any grammar.
use Rattle.std.proofs.Common.{◌≡◌, ℕ, zero, suc, ◌+◌, ◌-◌, ◌<◌, ◌≤◌, Bool, true, false, List, [], ◌∷◌, ◌++◌, length, Ok, Err, refl, sym, ap, ◌∙◌, subst, arith, if◌then◌else◌, nat_le, nat_lt, nat_eq}
use Rattle.std.proofs.lemmas.Bool.Decides.{nat_tests}
use Rattle.std.proofs.lemmas.List.{length-append}
use Rattle.mol_base.specs.Token.{Token}
use Rattle.jav_tree.specs.Tokens.{start_of}
use Rattle.jav_parse_cursor.specs.declared.sort.Sort.{Sort}
use Rattle.jav_parse_cursor.specs.declared.sort.Sort.TheVariants.{Comment}
use Rattle.jav_parse_cursor.specs.Reading.{Outcome, Parser, and_then, ◌>>=◌, pure, refuse, sort, peek, place, take_token, expect, when_next, comments}
use Rattle.jav_parse_cursor.specs.Sorts.{same_sort}
use Rattle.jav_parse.proofs.Lookahead.{Keeps, Local}

-- what two readings read is alike, and no greater than the tokens that it took, of m; and they leave the same tokens
abbrev pub Alike : {A : Type 0} → (A → A → Type 0) → (A → ℕ) → ℕ → Outcome A → Outcome A → Type 0
Alike R size m (Ok x) (Ok y) = R x.0 y.0 × (x.1 ≡ y.1) × (size x.0 + length x.1 ≤ m)
Alike R size m (Ok x) (Err b) = ⊥
Alike R size m (Err a) (Ok y) = ⊥
Alike R size m (Err a) (Err b) = a ≡ b

-- p and q do alike on few tokens: on those that are left of n where h were used before
pub record Agree {A : Type 0} (R : A → A → Type 0) (size : A → ℕ) (n h : ℕ) (p q : Parser A) : Type 0 where
  pub at : (ts : List Token) → length ts + h ≤ n → Alike R size (length ts + h) (p ts) (q ts)

abbrev pub Same : {A : Type 0} → A → A → Type 0
Same x y = x ≡ y

abbrev pub Any : {A : Type 0} → A → A → Type 0
Any x y = Unit {0}

pub agree_pure : {A : Type 0} {R : A → A → Type 0} {size : A → ℕ} {n h : ℕ} {a b : A} → R a b → size a ≤ h → Agree R size n h (pure a) (pure b)
agree_pure r p = record { at = λ ts l. (r, refl, omega arith) }

pub agree_refuse : {A : Type 0} {R : A → A → Type 0} {size : A → ℕ} {n h : ℕ} → Agree R size n h refuse refuse
agree_refuse = record { at = λ ts l. refl }

-- h were used, of n
pub agree_known : {A : Type 0} {R : A → A → Type 0} {size : A → ℕ} {n h : ℕ} {p q : Parser A} → (h ≤ n → Agree R size n h p q) → Agree R size n h p q
agree_known k = record { at = λ ts l. (k (omega arith)).at ts l }

alike_with : {A : Type 0} (R S : A → A → Type 0) (r s : A → ℕ) (m k : ℕ) → ((x y : A) → R x y → S x y) → ((x : A) (j : ℕ) → r x + j ≤ m → s x + j ≤ k)
    → (o u : Outcome A) → Alike R r m o u → Alike S s k o u
alike_with R S r s m k f g (Ok x) (Ok y) a = (f x.0 y.0 a.0, a.1, g x.0 (length x.1) a.2)
alike_with R S r s m k f g (Ok x) (Err b) a = a
alike_with R S r s m k f g (Err x) (Ok b) a = a
alike_with R S r s m k f g (Err x) (Err b) a = a

-- what was read is less, and less is asked of it
pub agree_with : {A : Type 0} {R S : A → A → Type 0} {r s : A → ℕ} {n h : ℕ} {p q : Parser A} → ((x y : A) → R x y → S x y) → ((x : A) → s x ≤ r x) → Agree R r n h p q → Agree S s n h p q
agree_with {R = R} {S = S} {r = r} {s = s} {h = h} {p = p} {q = q} f g a = record { at = λ ts l. alike_with R S r s (length ts + h) (length ts + h) f (λ x j w. let z = g x in omega arith) (p ts) (q ts) (a.at ts l) }

-- parsers that start anew after s tokens, and j more
pub agree_frame : {A : Type 0} {R : A → A → Type 0} {size : A → ℕ} {n h : ℕ} {p q : Parser A} (s j : ℕ) → j + s ≤ h → ((m : ℕ) → m + s ≤ n → Agree R size m j p q) → Agree R (λ x. size x + s) n h p q
agree_frame {R = R} {size = size} {n = n} {h = h} {p = p} {q = q} s j le f = record {
  at = λ ts l. let z = (f (length ts + j) (omega arith)).at ts (omega arith) in alike_with R R size (λ x. size x + s) (length ts + j) (length ts + h) (λ x y r. r) (λ x i w. omega arith) (p ts) (q ts) z;
}

bind_alike : {A B : Type 0} (R : A → A → Type 0) (S : B → B → Type 0) (r : A → ℕ) (s : B → ℕ) (n m : ℕ) (f g : A → Parser B) → m ≤ n → ((x y : A) → R x y → Agree S s n (r x) (f x) (g y))
    → (o u : Outcome A) → Alike R r m o u → Alike S s m (and_then o f) (and_then u g)
bind_alike R S r s n m f g le next (Ok x) (Ok y) a =
    let k = (next x.0 y.0 a.0).at x.1 (let w = a.2 in omega arith) in
    let both : Alike S s (length x.1 + r x.0) (f x.0 x.1) (g y.0 y.1) = subst (λ rest. Alike S s (length x.1 + r x.0) (f x.0 x.1) (g y.0 rest)) a.1 k in
    let w = a.2 in
    alike_with S S s s (length x.1 + r x.0) m (λ x y q. q) (λ z j v. omega arith) (f x.0 x.1) (g y.0 y.1) both
bind_alike R S r s n m f g le next (Ok x) (Err b) a = absurd a
bind_alike R S r s n m f g le next (Err x) (Ok b) a = absurd a
bind_alike R S r s n m f g le next (Err x) (Err b) a = a

pub agree_bind : {A B : Type 0} {R : A → A → Type 0} {S : B → B → Type 0} {r : A → ℕ} {s : B → ℕ} {n h : ℕ} {p q : Parser A} {f g : A → Parser B}
    → Agree R r n h p q → ((x y : A) → R x y → Agree S s n (r x) (f x) (g y)) → Agree S s n h (p >>= f) (q >>= g)
agree_bind {R = R} {S = S} {r = r} {s = s} {n = n} {h = h} {p = p} {q = q} {f = f} {g = g} a next = record {
  at = λ ts l. bind_alike R S r s n (length ts + h) f g l next (p ts) (q ts) (a.at ts l);
}

-- where both read the same
pub agree_then : {A B : Type 0} {S : B → B → Type 0} {r : A → ℕ} {s : B → ℕ} {n h : ℕ} {p q : Parser A} {f g : A → Parser B}
    → Agree Same r n h p q → ((x : A) → Agree S s n (r x) (f x) (g x)) → Agree S s n h (p >>= f) (q >>= g)
agree_then {S = S} {r = r} {s = s} {n = n} {f = f} {g = g} a next = agree_bind a (λ x y e. subst (λ z. Agree S s n (r x) (f x) (g z)) e (next x))

-- a test that comes out alike
pub agree_if : {A : Type 0} {R : A → A → Type 0} {size : A → ℕ} {n h : ℕ} {p q r s : Parser A} (b c : Bool) → b ≡ c → Agree R size n h p q → Agree R size n h r s → Agree R size n h (if b then p else r) (if c then q else s)
agree_if true true e k l = k
agree_if true false e k l = absurd (cc)
agree_if false true e k l = absurd (cc)
agree_if false false e k l = l

pub agree_peek : {A : Type 0} {R : A → A → Type 0} {size : A → ℕ} {n h : ℕ} {f g : Sort → Parser A} → ((s : Sort) → Agree R size n h (f s) (g s)) → Agree R size n h (peek >>= f) (peek >>= g)
agree_peek k = record { at = λ ts l. (k (sort ts)).at ts l }

pub agree_when : {A : Type 0} {R : A → A → Type 0} {size : A → ℕ} {n h : ℕ} {p q r s : Parser A} (k : Sort) → Agree R size n h p q → Agree R size n h r s → Agree R size n h (when_next k p r) (when_next k q s)
agree_when k a b = agree_peek (λ u. agree_if (same_sort u k) (same_sort u k) refl a b)

pub agree_place : {A : Type 0} {R : A → A → Type 0} {size : A → ℕ} {n h : ℕ} {f g : ℕ → Parser A} → ((k : ℕ) → Agree R size n h (f k) (g k)) → Agree R size n h (place >>= f) (place >>= g)
agree_place k = record { at = λ ts l. (k (start_of ts)).at ts l }

take_alike : (h : ℕ) (ts : List Token) → Alike {A = Token} Same (λ _. suc h) (length ts + h) (take_token ts) (take_token ts)
unfolding take_token
take_alike h [] = refl
take_alike h (t ∷ ts) = (refl, refl, omega arith)

pub take_agrees : {n h : ℕ} → Agree Same (λ _. suc h) n h take_token take_token
take_agrees {n} {h} = record { at = λ ts l. take_alike h ts }

pub expect_agrees : {n h : ℕ} (s : Sort) → Agree Same (λ _. suc h) n h (expect s) (expect s)
unfolding expect
expect_agrees s = agree_when s take_agrees agree_refuse

pub agree_take : {A : Type 0} {R : A → A → Type 0} {size : A → ℕ} {n h : ℕ} {f g : Token → Parser A} → ((t : Token) → Agree R size n (suc h) (f t) (g t)) → Agree R size n h (take_token >>= f) (take_token >>= g)
agree_take k = agree_then take_agrees k

pub agree_expect : {A : Type 0} {R : A → A → Type 0} {size : A → ℕ} {n h : ℕ} {f g : Token → Parser A} (s : Sort) → ((t : Token) → Agree R size n (suc h) (f t) (g t)) → Agree R size n h (expect s >>= f) (expect s >>= g)
agree_expect s k = agree_then (expect_agrees s) k

self_alike : {A : Type 0} (p : Parser A) (h : ℕ) (ts : List Token) (o : Outcome A) → Keeps p ts o → Alike Same (λ _. h) (length ts + h) o o
self_alike p h ts (Ok x) k = (refl, refl, let l = ap length k.1 ∙ length-append k.0 x.1 in omega arith)
self_alike p h ts (Err bad) k = refl

-- a parser without limits
pub agree_self : {A : Type 0} {n h : ℕ} {p : Parser A} → Local p → Agree Same (λ _. h) n h p p
agree_self {h = h} {p = p} k = record { at = λ ts l. self_alike p h ts (p ts) (k.at ts) }

pub agree_comments : {n h : ℕ} (f g : ℕ) (notes others : List (List ℕ)) → n < f + h → n < g + h → Agree Any (λ _. h) n h (comments f notes) (comments g others)
unfolding comments
agree_comments {n} {h} zero g notes others a b = agree_known (λ k. absurd (omega arith))
agree_comments {n} {h} (suc f) zero notes others a b = agree_known (λ k. absurd (omega arith))
agree_comments {n} {h} (suc f) (suc g) notes others a b = agree_when Comment
    (agree_take (λ t. agree_with (λ x y r. tt) (λ x. omega arith) (agree_comments f g (notes ++ t.text ∷ []) (others ++ t.text ∷ []) (omega arith) (omega arith))))
    (agree_pure tt (omega arith))

-- ---- limits that are large enough for n tokens

-- the same height, or two that are at least twice as much, and c more
pub data Enough (c n d e : ℕ) : Type 0 where
  same : d ≡ e → Enough c n d e
  large : n + n + c ≤ d → n + n + c ≤ e → Enough c n d e

-- the same number of turns, or two that are more than the tokens left of n where h were used
pub data Turns (n h f g : ℕ) : Type 0 where
  same : f ≡ g → Turns n h f g
  many : n < f + h → n < g + h → Turns n h f g

-- heights less by a, for m tokens
pub enough : {c n d e : ℕ} (k m a : ℕ) → m + m + k + a ≤ n + n + c → Enough c n d e → Enough k m (d - a) (e - a)
enough k m a le (Enough.same p) = Enough.same (ap (λ x. x - a) p)
enough k m a le (large x y) = large (omega arith) (omega arith)

-- for fewer tokens, and less on top
pub enough_for : {c n d e : ℕ} (k m : ℕ) → m + m + k ≤ n + n + c → Enough c n d e → Enough k m d e
enough_for k m le (Enough.same p) = Enough.same p
enough_for k m le (large x y) = large (omega arith) (omega arith)

-- one level less, or two, for a token less
pub lower : {c n d e : ℕ} (m : ℕ) → suc m ≤ n → Enough c n (suc d) (suc e) → Enough c m d e
lower m le (Enough.same p) = Enough.same (omega arith)
lower m le (large x y) = large (omega arith) (omega arith)

pub lower_two : {c n d e : ℕ} (m : ℕ) → suc m ≤ n → Enough c n (suc (suc d)) (suc (suc e)) → Enough c m d e
lower_two m le (Enough.same p) = Enough.same (omega arith)
lower_two m le (large x y) = large (omega arith) (omega arith)

-- a turns less, where a more tokens were used
pub turns : {n h f g : ℕ} (j a : ℕ) → a + h ≤ j → Turns n h f g → Turns n j (f - a) (g - a)
turns j a le (Turns.same p) = Turns.same (ap (λ x. x - a) p)
turns j a le (many x y) = many (omega arith) (omega arith)

-- where more tokens were used
pub turns_more : {n h f g : ℕ} (j : ℕ) → h ≤ j → Turns n h f g → Turns n j f g
turns_more j le (Turns.same p) = Turns.same p
turns_more j le (many x y) = many (omega arith) (omega arith)

-- after one turn
pub turned : {n h f g : ℕ} (j : ℕ) → suc h ≤ j → Turns n h (suc f) (suc g) → Turns n j f g
turned j le (Turns.same p) = Turns.same (omega arith)
turned j le (many x y) = many (omega arith) (omega arith)

-- some turns are left on both sides, or on none
pub agree_turns : {A : Type 0} {R : A → A → Type 0} {size : A → ℕ} {n h f : ℕ} {p q : Parser A} → Turns n h zero (suc f) → Agree R size n h p q
agree_turns (Turns.same e) = absurd (omega arith)
agree_turns (many x y) = agree_known (λ z. absurd (omega arith))

pub agree_turns' : {A : Type 0} {R : A → A → Type 0} {size : A → ℕ} {n h f : ℕ} {p q : Parser A} → Turns n h (suc f) zero → Agree R size n h p q
agree_turns' (Turns.same e) = absurd (omega arith)
agree_turns' (many x y) = agree_known (λ z. absurd (omega arith))

-- a height as a number of turns
pub enough_turns : {n d e : ℕ} (h : ℕ) → Enough 2 n d e → Turns n h d e
enough_turns h (Enough.same p) = Turns.same p
enough_turns h (large x y) = many (omega arith) (omega arith)

-- ---- tests of heights

pub same_le : {n d e x y : ℕ} → Enough 2 n d e → x ≡ y → x ≤ n + 1 → nat_le d x ≡ nat_le e y
same_le {e = e} {x = x} (Enough.same p) q l = ap (λ z. nat_le z x) p ∙ ap (nat_le e) q
same_le {d = d} {e = e} {x = x} {y = y} (large a b) q l =
    let f : nat_le d x ≡ false = grind (arith, nat_tests) in
    let g : nat_le e y ≡ false = grind (arith, nat_tests) in
    f ∙ sym g

same_lt : {n d e x y : ℕ} → Enough 2 n d e → x ≡ y → x ≤ n + 1 → nat_lt d x ≡ nat_lt e y
same_lt {e = e} {x = x} (Enough.same p) q l = ap (λ z. nat_lt z x) p ∙ ap (nat_lt e) q
same_lt {d = d} {e = e} {x = x} {y = y} (large a b) q l =
    let f : nat_lt d x ≡ false = grind (arith, nat_tests) in
    let g : nat_lt e y ≡ false = grind (arith, nat_tests) in
    f ∙ sym g

same_eq : {n d e : ℕ} (k : ℕ) → Enough 2 n d e → k ≤ 1 → nat_eq d k ≡ nat_eq e k
same_eq k (Enough.same p) l = ap (λ z. nat_eq z k) p
same_eq {d = d} {e = e} k (large a b) l =
    let f : nat_eq d k ≡ false = grind (arith, nat_tests) in
    let g : nat_eq e k ≡ false = grind (arith, nat_tests) in
    f ∙ sym g

-- what is x high does not fit below
pub agree_le : {A : Type 0} {R : A → A → Type 0} {size : A → ℕ} {n h d e x y : ℕ} {p q r s : Parser A} → Enough 2 n d e → x ≡ y → x ≤ h + 1 → Agree R size n h p q → Agree R size n h r s
    → Agree R size n h (if nat_le d x then p else r) (if nat_le e y then q else s)
agree_le a e l j k = agree_known (λ z. agree_if _ _ (same_le a e (omega arith)) j k)

-- what is x high is too high
pub agree_lt : {A : Type 0} {R : A → A → Type 0} {size : A → ℕ} {n h d e x y : ℕ} {p q r s : Parser A} → Enough 2 n d e → x ≡ y → x ≤ h + 1 → Agree R size n h p q → Agree R size n h r s
    → Agree R size n h (if nat_lt d x then p else r) (if nat_lt e y then q else s)
agree_lt a e l j k = agree_known (λ z. agree_if _ _ (same_lt a e (omega arith)) j k)

-- no height is left, or one alone
pub agree_eq : {A : Type 0} {R : A → A → Type 0} {size : A → ℕ} {n h d e : ℕ} {p q r s : Parser A} (k : ℕ) → Enough 2 n d e → k ≤ 1 → Agree R size n h p q → Agree R size n h r s
    → Agree R size n h (if nat_eq d k then p else r) (if nat_eq e k then q else s)
agree_eq k a l i j = agree_if _ _ (same_eq k a l) i j
