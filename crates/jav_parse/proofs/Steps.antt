-- Further laws of reading step by step: the end of a rule, what may refuse all, and where something begins.
use Rattle.std.proofs.Common.{◌≡◌, ℕ, Bool, true, false, List, [], ◌∷◌, ◌++◌, Ok, Err, refl, sym, ap, subst, if◌then◌else◌, ◌⊎◌, inl, inr}
use Rattle.std.proofs.lemmas.List.{append-nil}
use Rattle.mol_base.specs.Token.{Token}
use Rattle.jav_tree.specs.Tokens.{start_of}
use Rattle.jav_parse_cursor.specs.declared.sort.Sort.{Sort}
use Rattle.jav_parse_cursor.specs.Sorts.{sort_of}
use Rattle.jav_parse_cursor.specs.Reading.{Outcome, Parser, and_then, sort, ◌>>=◌, pure, refuse, place}
use Rattle.jav_parse.proofs.Meets.{Meets, Spelling, Some_of, ReadsAt, Any, Reads, reads_pure, reads_bind, reads_place}

-- p, and then nothing more
pub reads_to : {A B : Type 0} {R : Spelling A} {S : Spelling B} {P : Sort → Type 0} {p : Parser A} (g : A → B)
    → ReadsAt R P p → ((x : A) (us : List Token) → R x us → S (g x) us) → ReadsAt S P (p >>= (λ x. pure (g x)))
reads_to g h k = reads_bind h (λ x us r. reads_pure (g x) (rw append-nil (k x us r)))

-- the place of the next token, and then f, which says where it reads from
pub place_then : {A : Type 0} (S : ℕ → Spelling A) {f : ℕ → Parser A} → ((at : ℕ) (y : A) → S at y [] → ⊥) → Some_of (λ y us. S (start_of us) y us)
    → ((at : ℕ) → Reads (S at) (f at)) → Reads (λ y us. S (start_of us) y us) (place >>= f)
place_then S n w h = reads_place S h (λ at y t us e k. subst (λ a. S a y (t ∷ us)) e k) n w

met_by : {A : Type 0} (S : Spelling A) (ts : List Token) (o : Outcome A) → Meets S ts o → Some_of S
met_by S ts (Ok x) m = (x.0, m.0, m.2)
met_by S ts (Err bad) m = (m.3, m.0 ++ m.2, m.4)

-- what is read where this token is next is spelled by some tokens
pub some_at : {A : Type 0} {S : Spelling A} {s : Sort} {p : Parser A} → (t : Token) → sort_of t ≡ s → ReadsAt S (λ u. u ≡ s) p → Some_of S
unfolding sort
some_at {A} {S} {s} {p} t e h = met_by S (t ∷ []) (p (t ∷ [])) (h.at (t ∷ []) e)

-- On tokens with this next sort p reads what S says, or nothing at all.
abbrev pub TriesAt : {A : Type 0} → Spelling A → (Sort → Type 0) → Parser A → Type 0
TriesAt S P p = ReadsAt S P p ⊎ ((ts : List Token) → p ts ≡ Err ts)

abbrev pub Tries : {A : Type 0} → Spelling A → Parser A → Type 0
Tries S p = TriesAt S Any p

pub tries_if : {A : Type 0} {S : Spelling A} {P : Sort → Type 0} {q : Parser A} (b : Bool) → (b ≡ false → ReadsAt S P q) → TriesAt S P (if b then refuse else q)
tries_if true h = inr (λ ts. refl)
tries_if false h = inl (h refl)

pub try_then : {A B : Type 0} {R : Spelling A} {S : Spelling B} {P : Sort → Type 0} {p : Parser A} {f : A → Parser B}
    → TriesAt R P p → Some_of S → ((x : A) (us : List Token) → R x us → Reads (λ y vs. S y (us ++ vs)) (f x)) → ReadsAt S P (p >>= f)
try_then (inl h) w k = reads_bind h k
try_then {A} {B} {R} {S} {P} {p} {f} (inr n) w k = record { at = λ ts _. subst (Meets S ts) (sym (ap (λ o. and_then o f) (n ts))) ([], refl, w.1, w.0, w.2) }
