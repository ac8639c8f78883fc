-- What the single words of the form stand for.
use Rattle.std.proofs.Common.{◌≡◌, ℕ, Bool, true, false, List, [], ◌∷◌, Option, Some, None, refl}
use Rattle.std.proofs.Common.{sym, ap, ◌∙◌, subst, arith, option_map, if◌then◌else◌}
use Rattle.std.specs.Str.{bytes_eq}
use Rattle.std.proofs.lemmas.Slice.Eq.{bytes_eq-Decides}
use Rattle.mol_base.specs.Identity.{IsId, spelled_id}
use Rattle.mol_base.specs.Spelled.{id_of}
use Rattle.mol_base.specs.declared.ident.Id.{Id}
use Rattle.mol_base.proofs.Spelled.{id_of-spelled, id_of-some}
use Rattle.mol_log_words.specs.Words.{Word, counts, kept}
use Rattle.mol_log_words.specs.Heads.{named, or_else}
use Rattle.mol_log_words.specs.FirstBad.{Form}
use Rattle.mol_log_words.specs.Reader.{Parser, passing, take, ◌>>=◌}
use Rattle.mol_log_words.proofs.Prefix.{Reads, reads_take, reads_map, reads_bind}

-- a word that passes a test stands for itself
pub passing_is : (test : Word → Bool) (v t : Word) → passing test v ≡ Some t → (v ≡ t) × (test t ≡ true)
passing_is test v t h = by_test (test v) refl h where
  by_test : (b : Bool) → test v ≡ b → (if b then Some v else None) ≡ Some t → (v ≡ t) × (test t ≡ true)
  by_test true e k = let same : v ≡ t = cc in (same, ap test (sym same) ∙ e)
  by_test false e k = absurd cc

pub kept_is : {A : Type 0} (test : A → Bool) (o : Option A) (x : A) → kept test o ≡ Some x → (o ≡ Some x) × (test x ≡ true)
kept_is test None x h = absurd cc
kept_is test (Some y) x h = by_test (test y) refl h where
  by_test : (b : Bool) → test y ≡ b → (if b then Some y else None) ≡ Some x → (Some y ≡ Some x) × (test x ≡ true)
  by_test true e k = let same : y ≡ x = cc in (k, ap test (sym same) ∙ e)
  by_test false e k = absurd cc

-- the word that passes the test
pub reads_passing : (test : Word → Bool) (w : Word) → test w ≡ true → Reads (λ t us. (us ≡ t ∷ []) × (test t ≡ true)) (take (passing test))
reads_passing test w h = reads_map (reads_take (passing test) w w (rw h refl))
    (λ t us q. let both = passing_is test q.0 t q.1 in (q.2 ∙ ap (λ v. v ∷ []) both.0, both.1))

-- the word counts n, which passes the test
pub reads_counted : (test : ℕ → Bool) (w : Word) (n : ℕ) → counts w ≡ Some n → test n ≡ true
    → Reads (λ m us. (v : Word) × (us ≡ v ∷ []) × (counts v ≡ Some m) × (test m ≡ true)) (take (λ v. kept test (counts v)))
reads_counted test w n c h = reads_map (reads_take (λ v. kept test (counts v)) w n (rw (c, h) refl))
    (λ m us q. let both = kept_is test (counts q.0) m q.1 in (q.0, q.2, both.0, both.1))

example_id : Id
example_id = record { tag = []; num = 1 }

-- the word spells an identity
pub reads_id : Reads (λ id us. (v : Word) × (us ≡ v ∷ []) × (id_of v ≡ Some id)) (take id_of)
unfolding example_id
reads_id =
    let is : IsId example_id = ((omega arith, refl), (omega arith, omega arith)) in
    reads_map (reads_take id_of (spelled_id example_id) example_id (id_of-spelled example_id is)) (λ id us q. (q.0, q.2, q.1))

-- the word of an identity spells it, where any word does
pub id_again : (w : Word) (id : Id) → id_of w ≡ Some id → id_of (spelled_id id) ≡ Some id
id_again w id e = id_of-spelled id (id_of-some w id e).0

-- what is named is spelled by its word alone
pub named_is : {H : Type 0} (spelled : H → Word) (hs : List H) (v : Word) (h : H) → named spelled hs v ≡ Some h → v ≡ spelled h
named_is spelled [] v h e = absurd cc
named_is {H} spelled (k ∷ ks) v h e = by_test (bytes_eq v (spelled k)) refl (λ rest. named_is spelled ks v h rest) e where
  by_test : (b : Bool) → bytes_eq v (spelled k) ≡ b → (named spelled ks v ≡ Some h → v ≡ spelled h)
      → (if b then Some k else named spelled ks v) ≡ Some h → v ≡ spelled h
  by_test true q next e' = let same : k ≡ h = cc in (bytes_eq-Decides v (spelled k)).0 q ∙ ap spelled same
  by_test false q next e' = next e'

pub or_is : {H : Type 0} (a b : Option H) (h : H) (P : Type 0) → (a ≡ Some h → P) → (b ≡ Some h → P) → or_else a b ≡ Some h → P
or_is (Some x) b h P left right e = left e
or_is None b h P left right e = right e

pub wrapped_is : {K H : Type 0} (wrap : K → H) (o : Option K) (h : H) (P : H → Type 0) → ((k : K) → o ≡ Some k → P (wrap k))
    → option_map wrap o ≡ Some h → P h
wrapped_is wrap None h P each e = absurd cc
wrapped_is wrap (Some k) h P each e = let same : wrap k ≡ h = cc in subst P same (each k refl)

-- a head word that is known and fits, and then what goes on from it
pub reads_head : {H B : Type 0} {S : Form B} (word : H → Word) (named : Word → Option H)
    (is : (v : Word) (h : H) → named v ≡ Some h → v ≡ word h) (fit : H → Bool)
    (a : H) → named (word a) ≡ Some a → fit a ≡ true → {f : H → Parser B}
    → ((h : H) → fit h ≡ true → Reads (λ y vs. S y (word h ∷ vs)) (f h))
    → Reads S (take (λ w. kept fit (named w)) >>= f)
reads_head {H} {B} {S} word named is fit a e g {f} next =
    reads_bind (reads_take (λ w. kept fit (named w)) (word a) a (rw (e, g) refl)) (λ h us q.
    let both = kept_is fit (named q.0) h q.1 in
    rw (q.2, is q.0 h both.0) (next h both.1))
