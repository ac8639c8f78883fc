-- Modifiers as marks beside their list in the order of the source.
use Rattle.std.proofs.Common.{◌≡◌, ℕ, zero, suc, ◌+◌, ◌≤◌, ◌&&◌, ◌||◌, not, Bool, true, false, cond, nat_lt, nat_le, List, [], ◌∷◌, ◌++◌, map, codes, filter, count_by, length, refl, sym, ap, ◌∙◌, subst, append_assoc, arith}
use Rattle.std.proofs.lemmas.List.{append-nil}
use Rattle.std.proofs.lemmas.List.Sums.{sum_by-append}
use Rattle.std.proofs.lemmas.List.Folds.{list_all-map}
use Rattle.std.proofs.lemmas.Bool.Decides.{nat_tests}
use Rattle.std.specs.List.{list_all, list_any}
use Rattle.std.specs.Str.{bytes_eq}
use Prim.Native.String.{String}
use Rattle.mol_base.specs.Among.{among}
use Rattle.mol_base.specs.Modifiers.{all_words, times, has, in_order, kept_of_method, AllowedWords, has_one_access}
use Rattle.jav_parse_unit.specs.declared.words.Words.{Words as Modifiers}
use Rattle.jav_parse_unit.specs.WordRules as rules

abbrev pub nine : List (List ℕ)
nine = map codes all_words

-- the marks in the order in which modifiers are printed
abbrev pub bits : Modifiers → List Bool
bits w = w.overrides ∷ w.is_public ∷ w.is_protected ∷ w.is_private ∷ w.is_abstract ∷ w.is_static ∷ w.is_final ∷ w.is_transient ∷ w.is_volatile ∷ []

abbrev pub bit : Bool → ℕ
bit true = 1
bit false = 0

-- those that are marked
abbrev pub picks : List Bool → List (List ℕ) → List (List ℕ)
picks [] ws = []
picks (b ∷ bs) [] = []
picks (b ∷ bs) (w ∷ ws) = cond b (w ∷ picks bs ws) (picks bs ws)

-- each mark of these is one of those
abbrev pub Within : List Bool → List Bool → Type 0
Within [] cs = Unit {0}
Within (b ∷ bs) [] = ⊥
Within (b ∷ bs) (c ∷ cs) = (b ≡ true → c ≡ true) × Within bs cs

abbrev pub Marked : Modifiers → List (List ℕ) → Type 0
Marked w words = (map (times words) nine ≡ map bit (bits w)) × (list_all (λ t. list_any (bytes_eq t) (picks (bits w) nine)) words ≡ true)
    × (bit w.is_public + bit w.is_protected + bit w.is_private ≤ 1)

-- ---- a modifier more

abbrev bump : Bool → ℕ → ℕ
bump true n = suc n
bump false n = n

abbrev bumped : List (List ℕ) → List ℕ → List ℕ → List ℕ
bumped [] x ns = []
bumped (w ∷ ws) x [] = []
bumped (w ∷ ws) x (n ∷ ns) = bump (bytes_eq w x) n ∷ bumped ws x ns

bump_is : (b : Bool) (n : ℕ) → n + (0 + cond b 1 0) ≡ bump b n
bump_is true n = omega arith
bump_is false n = omega arith

times_end : (words : List (List ℕ)) (x w : List ℕ) → times (words ++ x ∷ []) w ≡ bump (bytes_eq w x) (times words w)
times_end words x w = sum_by-append (λ t. cond (bytes_eq w t) 1 0) words (x ∷ []) ∙ bump_is (bytes_eq w x) (times words w)

counts_end : (words : List (List ℕ)) (x : List ℕ) (ws : List (List ℕ)) → map (times (words ++ x ∷ [])) ws ≡ bumped ws x (map (times words) ws)
counts_end words x [] = refl
counts_end words x (w ∷ ws) = rw (times_end words x w, counts_end words x ws) refl

or_more : (a x y : Bool) → (x ≡ true → y ≡ true) → (a || x) ≡ true → (a || y) ≡ true
or_more true x y f h = refl
or_more false x y f h = f h

or_right : (a y : Bool) → y ≡ true → (a || y) ≡ true
or_right true y h = refl
or_right false y h = h

more_picks : (q : List ℕ → Bool) (bs cs : List Bool) (ws : List (List ℕ)) → Within bs cs → list_any q (picks bs ws) ≡ true → list_any q (picks cs ws) ≡ true
more_picks q [] cs ws f h = absurd (cc)
more_picks q (b ∷ bs) [] ws f h = absurd f
more_picks q (b ∷ bs) (c ∷ cs) [] f h = absurd (cc)
more_picks q (true ∷ bs) (true ∷ cs) (w ∷ ws) f h = or_more (q w) (list_any q (picks bs ws)) (list_any q (picks cs ws)) (λ k. more_picks q bs cs ws f.1 k) h
more_picks q (true ∷ bs) (false ∷ cs) (w ∷ ws) f h = absurd (let e = f.0 refl in cc)
more_picks q (false ∷ bs) (true ∷ cs) (w ∷ ws) f h = or_right (q w) (list_any q (picks cs ws)) (more_picks q bs cs ws f.1 h)
more_picks q (false ∷ bs) (false ∷ cs) (w ∷ ws) f h = more_picks q bs cs ws f.1 h

all_by : (a b : Bool) → a ≡ true → b ≡ true → (a && b) ≡ true
all_by a b e f = rw (e, f) refl

both_of : (a b : Bool) → (a && b) ≡ true → (a ≡ true) × (b ≡ true)
both_of true b h = (refl, h)
both_of false b h = absurd (cc)

all_more : (p q : List ℕ → Bool) (xs : List (List ℕ)) → ((t : List ℕ) → p t ≡ true → q t ≡ true) → list_all p xs ≡ true → list_all q xs ≡ true
all_more p q [] f h = refl
all_more p q (x ∷ xs) f h = let k = both_of (p x) (list_all p xs) h in all_by (q x) (list_all q xs) (f x k.0) (all_more p q xs f k.1)

all_end : (p : List ℕ → Bool) (xs : List (List ℕ)) (x : List ℕ) → list_all p xs ≡ true → p x ≡ true → list_all p (xs ++ x ∷ []) ≡ true
all_end p [] x h k = rw k refl
all_end p (y ∷ ys) x h k = let b = both_of (p y) (list_all p ys) h in all_by (p y) (list_all p (ys ++ x ∷ [])) b.0 (all_end p ys x b.1 k)

-- The modifier x, whose mark alone is `single`, is one more.
marked_more : (w more : Modifiers) (words : List (List ℕ)) (x : List ℕ) (single : List Bool) → Marked w words → bumped nine x (map bit (bits w)) ≡ map bit (bits more) → Within (bits w) (bits more)
    → Within single (bits more) → list_any (bytes_eq x) (picks single nine) ≡ true → bit more.is_public + bit more.is_protected + bit more.is_private ≤ 1 → Marked more (words ++ x ∷ [])
marked_more w more words x single m e f g s a = (
  counts_end words x nine ∙ ap (bumped nine x) m.0 ∙ e,
  all_end (λ t. list_any (bytes_eq t) (picks (bits more) nine)) words x (all_more (λ t. list_any (bytes_eq t) (picks (bits w) nine)) (λ t. list_any (bytes_eq t) (picks (bits more) nine)) words
      (λ t k. more_picks (bytes_eq t) (bits w) (bits more) nine f k) m.1) (more_picks (bytes_eq x) single (bits more) nine g s),
  a,
)

abbrev pub mark : ℕ → List Bool → List Bool
mark n [] = []
mark zero (b ∷ bs) = true ∷ bs
mark (suc n) (b ∷ bs) = b ∷ mark n bs

abbrev pub alone : ℕ → List Bool
alone zero = true ∷ []
alone (suc n) = false ∷ alone n

within_same : (bs : List Bool) → Within bs bs
within_same [] = tt
within_same (b ∷ bs) = ((λ q. q), within_same bs)

within_mark : (n : ℕ) (bs : List Bool) → Within bs (mark n bs)
within_mark n [] = tt
within_mark zero (b ∷ bs) = ((λ q. refl), within_same bs)
within_mark (suc n) (b ∷ bs) = ((λ q. q), within_mark n bs)

alone_within : (n : ℕ) (b : Bool) (bs : List Bool) → n ≤ length bs → Within (alone n) (mark n (b ∷ bs))
alone_within zero b bs h = ((λ q. refl), tt)
alone_within (suc n) b [] h = absurd (omega arith)
alone_within (suc n) b (c ∷ cs) h = ((λ q. absurd (cc)), alone_within n c cs (omega arith))

-- The modifier x has the place n.
pub marked_at : (n : ℕ) (w more : Modifiers) (words : List (List ℕ)) (x : List ℕ) → n ≤ 8 → Marked w words → bits more ≡ mark n (bits w) → bumped nine x (map bit (bits w)) ≡ map bit (bits more)
    → list_any (bytes_eq x) (picks (alone n) nine) ≡ true → bit more.is_public + bit more.is_protected + bit more.is_private ≤ 1 → Marked more (words ++ x ∷ [])
marked_at n w more words x low m e f s a =
    marked_more w more words x (alone n) m f (subst (Within (bits w)) (sym e) (within_mark n (bits w)))
    (subst (Within (alone n)) (sym e) (alone_within n w.overrides (w.is_public ∷ w.is_protected ∷ w.is_private ∷ w.is_abstract ∷ w.is_static ∷ w.is_final ∷ w.is_transient ∷ w.is_volatile ∷ []) (omega arith))) s a

-- ---- what the marks say of the list

any_by : (b : Bool) (rest : Bool) (n : ℕ) → rest ≡ nat_lt 0 n → (b || rest) ≡ nat_lt 0 (0 + cond b 1 0 + n)
any_by true rest n e = grind (arith, nat_tests)
any_by false rest n e = let same : 0 + 0 + n ≡ n = omega arith in rw same e

pub any_counts : (p : List ℕ → Bool) (xs : List (List ℕ)) → list_any p xs ≡ nat_lt 0 (count_by p xs)
any_counts p [] = refl
any_counts p (x ∷ xs) = rw (sum_by-append (λ t. cond (p t) 1 0) (x ∷ []) xs) (any_by (p x) (list_any p xs) (count_by p xs) (any_counts p xs))

bit_any : (b : Bool) → nat_lt 0 (bit b) ≡ b
bit_any true = refl
bit_any false = refl

pub has_marks : (words ws : List (List ℕ)) (bs : List Bool) → map (times words) ws ≡ map bit bs → map (λ w. list_any (bytes_eq w) words) ws ≡ bs
has_marks words [] [] e = refl
has_marks words [] (b ∷ bs) e = absurd (cc)
has_marks words (w ∷ ws) [] e = absurd (cc)
has_marks words (w ∷ ws) (b ∷ bs) e =
    let head : times words w ≡ bit b = cc in
    let tail : map (times words) ws ≡ map bit bs = cc in
    rw (any_counts (bytes_eq w) words, head, bit_any b, has_marks words ws bs tail) refl

filter_picks : (p : List ℕ → Bool) (ws : List (List ℕ)) → filter p ws ≡ picks (map p ws) ws
filter_picks p [] = refl
filter_picks p (w ∷ ws) = rw (filter_picks p ws) refl

pub in_order_is : (w : Modifiers) (words : List (List ℕ)) → Marked w words → in_order words ≡ picks (bits w) nine
in_order_is w words m = filter_picks (λ t. list_any (bytes_eq t) words) nine ∙ ap (λ bs. picks bs nine) (has_marks words nine (bits w) m.0)

with_all : List (List ℕ) → List Bool → List (List ℕ) → List (List ℕ)
with_all all [] ws = all
with_all all (b ∷ bs) [] = all
with_all all (b ∷ bs) (w ∷ ws) = with_all (rules.with_if all b w) bs ws

with_all_is : (all : List (List ℕ)) (bs : List Bool) (ws : List (List ℕ)) → with_all all bs ws ≡ all ++ picks bs ws
unfolding with_all
with_all_is all [] ws = sym (append-nil all)
with_all_is all (b ∷ bs) [] = sym (append-nil all)
with_all_is all (true ∷ bs) (w ∷ ws) = with_all_is (all ++ w ∷ []) bs ws ∙ append_assoc all (w ∷ []) (picks bs ws)
with_all_is all (false ∷ bs) (w ∷ ws) = with_all_is all bs ws

texts_are : (w : Modifiers) → rules.texts w ≡ picks (bits w) nine
unfolding rules.texts with_all
texts_are w = with_all_is [] (bits w) nine

-- the modifiers as they are printed
pub texts_in_order : (w : Modifiers) (words : List (List ℕ)) → Marked w words → rules.texts w ≡ in_order words
texts_in_order w words m = texts_are w ∙ sym (in_order_is w words m)

masked : (List ℕ → Bool) → List (List ℕ) → List Bool → List Bool
masked q [] bs = []
masked q (w ∷ ws) [] = []
masked q (w ∷ ws) (b ∷ bs) = (q w && b) ∷ masked q ws bs

filter_one : (q : List ℕ → Bool) (b : Bool) (w : List ℕ) (c : Bool) (rest : List (List ℕ)) (more : List (List ℕ)) → q w ≡ c → filter q rest ≡ more → filter q (cond b (w ∷ rest) rest) ≡ cond (c && b) (w ∷ more) more
filter_one q true w true rest more e f = rw (e, f) refl
filter_one q true w false rest more e f = rw (e, f) refl
filter_one q false w true rest more e f = f
filter_one q false w false rest more e f = f

filter_by : (q : List ℕ → Bool) (bs : List Bool) (ws : List (List ℕ)) → filter q (picks bs ws) ≡ picks (masked q ws bs) ws
unfolding masked
filter_by q [] [] = refl
filter_by q [] (w ∷ ws) = refl
filter_by q (b ∷ bs) [] = refl
filter_by q (b ∷ bs) (w ∷ ws) = filter_one q b w (q w) (picks bs ws) (picks (masked q ws bs) ws) refl (filter_by q bs ws)

pub kept_texts : (w : Modifiers) (words : List (List ℕ)) → Marked w words → rules.method_texts w ≡ kept_of_method words
unfolding masked
kept_texts w words m =
    let unkept : List ℕ → Bool = λ t. not (among ("static" ∷ "abstract" ∷ []) t) in
    texts_are (record w { is_abstract = false; is_static = false }) ∙ sym (filter_by unkept (bits w) nine) ∙ ap (filter unkept) (sym (in_order_is w words m))

abbrev pub nth : ℕ → List Bool → Bool
nth n [] = false
nth zero (b ∷ bs) = b
nth (suc n) (b ∷ bs) = nth n bs

pub static_is : (w : Modifiers) (words : List (List ℕ)) → Marked w words → w.is_static ≡ has words "static"
static_is w words m = sym (ap (nth 5) (has_marks words nine (bits w) m.0))

pub abstract_is : (w : Modifiers) (words : List (List ℕ)) → Marked w words → w.is_abstract ≡ has words "abstract"
abstract_is w words m = sym (ap (nth 4) (has_marks words nine (bits w) m.0))

-- ---- what is allowed

few_by : (b : Bool) → nat_le (bit b) 1 ≡ true
few_by true = refl
few_by false = refl

all_few : (words ws : List (List ℕ)) (bs : List Bool) → map (times words) ws ≡ map bit bs → list_all (λ w. nat_le (times words w) 1) ws ≡ true
all_few words [] bs e = refl
all_few words (w ∷ ws) [] e = absurd (cc)
all_few words (w ∷ ws) (b ∷ bs) e =
    let head : times words w ≡ bit b = cc in
    let tail : map (times words) ws ≡ map bit bs = cc in
    all_by (nat_le (times words w) 1) (list_all (λ t. nat_le (times words t) 1) ws) (rw head (few_by b)) (all_few words ws bs tail)

all_picks : (p : List ℕ → Bool) (cs : List Bool) (ws : List (List ℕ)) → list_all p ws ≡ true → list_all p (picks cs ws) ≡ true
all_picks p [] ws h = refl
all_picks p (c ∷ cs) [] h = refl
all_picks p (true ∷ cs) (w ∷ ws) h = let k = both_of (p w) (list_all p ws) h in all_by (p w) (list_all p (picks cs ws)) k.0 (all_picks p cs ws k.1)
all_picks p (false ∷ cs) (w ∷ ws) h = let k = both_of (p w) (list_all p ws) h in all_picks p cs ws k.1

any_codes : (t : List ℕ) (names : List String) → among names t ≡ list_any (bytes_eq t) (map codes names)
any_codes t [] = refl
any_codes t (x ∷ xs) = rw (any_codes t xs) refl

abbrev pub nth_number : ℕ → List ℕ → ℕ
nth_number n [] = 0
nth_number zero (b ∷ bs) = b
nth_number (suc n) (b ∷ bs) = nth_number n bs

access_is : (w : Modifiers) (words : List (List ℕ)) → Marked w words → has_one_access words ≡ true
access_is w words m =
    let a : times words (codes "public") ≡ bit w.is_public = ap (nth_number 1) m.0 in
    let b : times words (codes "protected") ≡ bit w.is_protected = ap (nth_number 2) m.0 in
    let c : times words (codes "private") ≡ bit w.is_private = ap (nth_number 3) m.0 in
    let few = m.2 in
    rw (a, b, c) (grind (arith, nat_tests))

-- where nothing is marked but what is allowed
pub allowed_by : (w : Modifiers) (words : List (List ℕ)) → Marked w words → (allowed : List String) (cs : List Bool) → map codes allowed ≡ picks cs nine → Within (bits w) cs → AllowedWords allowed words
allowed_by w words m allowed cs e f = record {
  known = all_more (λ t. list_any (bytes_eq t) (picks (bits w) nine)) (among allowed) words
      (λ t k. any_codes t allowed ∙ ap (list_any (bytes_eq t)) e ∙ more_picks (bytes_eq t) (bits w) cs nine f k) m.1;
  once = sym (list_all-map (λ t. nat_le (times words t) 1) codes allowed) ∙ ap (list_all (λ t. nat_le (times words t) 1)) e ∙ all_picks (λ t. nat_le (times words t) 1) cs nine (all_few words nine (bits w) m.0);
  one_access = access_is w words m;
}
