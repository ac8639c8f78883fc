-- The names that are read are the tokens up to where reading stops.
use Rattle.std.proofs.Common.{◌≡◌, ℕ, zero, suc, ◌+◌, ◌-◌, ◌<◌, ◌≤◌, Bool, true, false, if◌then◌else◌, List, [], ◌∷◌, ◌++◌, length, take, map, Ok, Err, refl, sym, ap, ◌∙◌, subst, append_assoc, arith}
use Rattle.std.proofs.lemmas.List.{length-append, length-map, take-map}
use Rattle.std.proofs.Math.Seq.{take-append_seam}
use Rattle.std.proofs.lemmas.Grind.{common_steps}
use Rattle.mol_base.specs.Token.{Token}
use Rattle.jav_lex.specs.Token.{seen, all_seen}
use Rattle.jav_lex.specs.declared.token.Token as code
use Rattle.jav_parse_cursor.specs.declared.sort.Sort.TheVariants as sorts
use Rattle.jav_parse_cursor.specs.Reading.{Outcome, Parser, and_then, ◌>>=◌, pure, refuse, sort, peek, take_token, expect}
use Rattle.jav_parse_cursor.specs.Sorts.{same_sort}
use Rattle.jav_parse_cursor.specs.TypeRules.{further_names}

-- what was read and what is left are all
abbrev Kept : List Token → Outcome (List Token) → Type 0
Kept all (Ok x) = (all ≡ x.0 ++ x.1) × (1 ≤ length x.0)
Kept all (Err bad) = Unit {0}

-- what n further turns keep
abbrev Keeps : ℕ → Type 0
Keeps n = (names ts : List Token) → 1 ≤ length names → Kept (names ++ ts) (further_names n names ts)

kept_name : (b : Bool) (n : ℕ) → Keeps n → (names : List Token) (dot : Token) (ts : List Token) → 1 ≤ length names
    → Kept (names ++ dot ∷ ts) (and_then ((if b then take_token else refuse) ts) (λ t. further_names n (names ++ dot ∷ t ∷ [])))
unfolding take_token
kept_name false n go names dot ts h = tt
kept_name true n go names dot [] h = tt
kept_name true n go names dot (t ∷ ts) h =
    subst (λ a. Kept a (further_names n (names ++ dot ∷ t ∷ []) ts)) (append_assoc names (dot ∷ t ∷ []) ts)
    (go (names ++ dot ∷ t ∷ []) ts (let l = length-append names (dot ∷ t ∷ []) in omega arith))

kept_dot : (b : Bool) (n : ℕ) → Keeps n → (names ts : List Token) → 1 ≤ length names
    → Kept (names ++ ts) ((if b then (take_token >>= (λ dot. expect sorts.Name >>= (λ t. further_names n (names ++ dot ∷ t ∷ [])))) else pure names) ts)
unfolding take_token expect
kept_dot false n go names ts h = (refl, h)
kept_dot true n go names [] h = tt
kept_dot true n go names (dot ∷ ts) h = kept_name (same_sort (sort ts) sorts.Name) n go names dot ts h

kept : (n : ℕ) → Keeps n
unfolding further_names
kept zero = λ names ts h. tt
kept (suc n) = λ names ts h. kept_dot (same_sort (sort ts) sorts.Dot) n (kept n) names ts h

-- what is left is no longer
pub names_left : (n : ℕ) (first : Token) (ts : List Token) (out rest : List Token) → further_names n (first ∷ []) ts ≡ Ok (out, rest) → length rest ≤ length ts
names_left n first ts out rest e =
    let k = subst (Kept (first ∷ ts)) e (kept n (first ∷ []) ts (omega arith)) in
    let some = k.1 in
    let l = ap length k.0 ∙ length-append out rest in omega arith

names_by : (first : Token) (after : List code.Token) (out rest : List Token) → first ∷ all_seen after ≡ out ++ rest → 1 ≤ length out
    → out ≡ first ∷ all_seen (take (length after - length rest) after)
names_by first after [] rest e h = absurd (omega arith)
names_by first after (t ∷ out) rest e h =
    let head : t ≡ first = cc in
    let tail : all_seen after ≡ out ++ rest = cc in
    let l : length (all_seen after) ≡ length out + length rest = ap length tail ∙ length-append out rest in
    let m : length (all_seen after) ≡ length after = length-map after seen in
    let k : length after - length rest ≡ length out = omega arith in
    let front : all_seen (take (length out) after) ≡ out = sym (take-map seen (length out) after) ∙ ap (take (length out)) tail ∙ take-append_seam out rest in
    rw (k, front, head) refl

pub names_are : (n : ℕ) (first : Token) (after : List code.Token) (out rest : List Token) → further_names n (first ∷ []) (all_seen after) ≡ Ok (out, rest)
    → out ≡ first ∷ all_seen (take (length after - length rest) after)
names_are n first after out rest e =
    let k = subst (Kept (first ∷ all_seen after)) e (kept n (first ∷ []) (all_seen after) (omega arith)) in
    names_by first after out rest k.0 k.1
