-- Laws of readers of lists.
use Rattle.std.proofs.Common.{◌≡◌, ℕ, zero, suc, ◌+◌, ◌-◌, ◌<◌, Bool, true, false, ◌&&◌, ◌||◌, ◌==◌, List, [], ◌∷◌, ◌++◌, length, Ok, Some}
use Rattle.std.proofs.Common.{refl, sym, ap, ◌∙◌, subst, append_assoc, arith}
use Rattle.std.proofs.lemmas.List.{append-nil}
use Rattle.std.proofs.lemmas.Bool.Decides.{nat_tests}
use Rattle.mol_log_words.specs.Words.{Word, counts, within, count_fits, count_of, IsCount}
use Rattle.mol_log_words.specs.FirstBad.{Form}
use Rattle.mol_log_words.specs.Reader.{Parser, and_then, ◌>>=◌, take, repeat}
use Rattle.mol_log_words.specs.declared.bounds.Bounds.{Bounds}
use Rattle.mol_log_words.proofs.Prefix.{Reads, reads_pure, reads_bind, reads_map}
use Rattle.mol_log_words.proofs.Numerals.{and_left, and_right}
use Rattle.mol_log_words.proofs.Single.{reads_counted}

-- n things after others; L says what words spell a list
pub reads_repeat : {A : Type 0} (S : Form A) (L : Form (List A)) (p : Parser A) → L [] []
    → ((a : A) (more : List A) (us vs : List Word) → S a us → L more vs → L (a ∷ more) (us ++ vs))
    → (n : ℕ) (all : List A) → (0 < n → Reads S p)
    → Reads (λ x ts. (es : List A) × (x ≡ all ++ es) × (length es ≡ n) × L es ts) (repeat p n all)
unfolding repeat
reads_repeat S L p nil cons zero all h = reads_pure all ([], sym (append-nil all), refl, nil)
reads_repeat S L p nil cons (suc n) all h = reads_bind (h (omega arith)) (λ a us x.
    reads_map (reads_repeat S L p nil cons n (all ++ a ∷ []) (λ _. h (omega arith)))
    (λ y vs k. (a ∷ k.0, k.1 ∙ append_assoc all (a ∷ []) k.0, ap suc k.2, cons a k.0 us vs x k.3)))

-- a word that counts the list, within the bounds, and then the list
abbrev pub Counted : {A : Type 0} → Form (List A) → Bounds → Form (List A)
Counted L bounds es ts = (v : Word) × (us : List Word) × (ts ≡ v ∷ us) × IsCount bounds v (length es) × L es us

pub positive_deeper : (n : ℕ) (b : Bool) → 0 < n → (n == 0 || b) ≡ true → b ≡ true
positive_deeper n true p h = refl
positive_deeper n false p h = let z : n ≡ 0 = grind (arith, nat_tests) in absurd (omega (arith, z))

-- what was counted is the list that was read
pub counted_list : {A : Type 0} (L : Form (List A)) (bounds : Bounds) (x es : List A) (n : ℕ) (v : Word) (us vs : List Word) → us ≡ v ∷ []
    → counts v ≡ Some n
    → within bounds n ≡ true → x ≡ es → length es ≡ n → L es vs → Counted L bounds x (us ++ vs)
counted_list L bounds x es n v us vs e c w same len l =
    let size : length x ≡ n = ap length same ∙ len in
    (v, vs, ap (λ z. z ++ vs) e, (c ∙ ap Some (sym size), ap (within bounds) size ∙ w), subst (λ z. L z vs) (sym same) l)

pub reads_list : {A : Type 0} (S : Form A) (L : Form (List A)) (p : Parser A) → L [] []
    → ((a : A) (more : List A) (us vs : List Word) → S a us → L more vs → L (a ∷ more) (us ++ vs))
    → (bounds : Bounds) (deeper : Bool) (w : Word) (n : ℕ) → counts w ≡ Some n → count_fits bounds deeper n ≡ true
    → (deeper ≡ true → Reads S p)
    → Reads (Counted L bounds) (take (count_of bounds deeper) >>= (λ m. repeat p m []))
reads_list S L p nil cons bounds deeper w n c f h = reads_bind (reads_counted (count_fits bounds deeper) w n c f) (λ m us q.
    reads_map (reads_repeat S L p nil cons m [] (λ some. h
    (positive_deeper m deeper some (and_right (within bounds m) (m == 0 || deeper) q.3))))
    (λ x vs k. counted_list L bounds x k.0 m q.0 us vs q.1 q.2 (and_left (within bounds m) (m == 0 || deeper) q.3) k.1 k.2 k.3))

fits_by : (a b c : Bool) → a ≡ true → c ≡ true → (a && (b || c)) ≡ true
fits_by true true c p q = refl
fits_by true false c p q = q
fits_by false b c p q = absurd cc

fits_none : (a b : Bool) → a ≡ true → (a && (true || b)) ≡ true
fits_none true b p = refl
fits_none false b p = absurd cc

-- a list fits where what it holds does
pub list_fits : {A : Type 0} (bounds : Bounds) (deeper : Bool) (xs : List A) → within bounds (length xs) ≡ true
    → (0 < length xs → deeper ≡ true) → count_fits bounds deeper (length xs) ≡ true
list_fits bounds deeper [] w h = fits_none (within bounds 0) deeper w
list_fits bounds deeper (x ∷ xs) w h = fits_by (within bounds (length (x ∷ xs))) (length (x ∷ xs) == 0) deeper w (h (omega arith))

pub repeat_none : {A : Type 0} (p : Parser A) (n : ℕ) (all : List A) (ts : List Word) → n ≡ 0 → repeat p n all ts ≡ Ok (all, ts)
unfolding repeat
repeat_none p zero all ts z = refl
repeat_none p (suc n) all ts z = absurd (omega arith)

pub repeat_steps : {A : Type 0} (p : Parser A) (n at : ℕ) (all : List A) (ts : List Word) → at < n
    → repeat p (n - at) all ts ≡ and_then (p ts) (λ a. repeat p (n - (at + 1)) (all ++ a ∷ []))
unfolding repeat
repeat_steps p n at all ts h = let turn : n - at ≡ suc (n - (at + 1)) = omega arith in rw turn refl
