-- Limits that are large enough for n tokens: names with dots and types.
use Rattle.std.proofs.Common.{ℕ, zero, suc, ◌+◌, ◌-◌, ◌<◌, ◌≤◌, max, List, [], ◌∷◌, ◌++◌, length, refl, arith}
use Rattle.std.proofs.lemmas.List.{length-append}
use Rattle.mol_base.specs.Token.{Token}
use Rattle.jav_tree.specs.declared.types.TypeName.{TypeName}
use Rattle.jav_parse_cursor.specs.declared.limits.Limits.{Limits}
use Rattle.jav_parse_cursor.specs.declared.sort.Sort.TheVariants.{Name, Dot, Left, Right, Prim}
use Rattle.jav_parse_cursor.specs.TypeRules.{further_names, qualified, primitive, base_type, brackets, type_after, whole_type}
use Rattle.jav_parse.proofs.Agree.{Agree, Same, Any, Turns, agree_pure, agree_known, agree_with, agree_then, agree_when, agree_take, agree_expect, turns, turned, agree_turns, agree_turns'}

-- Two limits for n tokens: each has more turns, and they allow equally many items, or more than there are tokens.
pub record LikeLimits (n : ℕ) (l k : Limits) : Type 0 where
  pub turns : n < l.turns
  pub turns' : n < k.turns
  pub most : Turns n 0 l.most k.most

pub like_less : {n : ℕ} {l k : Limits} (m : ℕ) → m ≤ n → LikeLimits n l k → LikeLimits m l k
like_less {n} {l} {k} m le a = record {
  turns = let x = a.turns in omega arith;
  turns' = let x = a.turns' in omega arith;
  most = fewer a.most;
} where
  fewer : Turns n 0 l.most k.most → Turns m 0 l.most k.most
  fewer (Turns.same e) = Turns.same e
  fewer (Turns.many x y) = Turns.many (omega arith) (omega arith)

-- the tokens that some names with dots took, after h
abbrev pub reach : ℕ → List Token → ℕ
reach h names = max (length names + h) (suc h)

agree_further_names : {n h : ℕ} (k f g : ℕ) (names : List Token) → suc k ≤ h → length names + k ≤ h → n < f + h → n < g + h → Agree Same (reach k) n h (further_names f names) (further_names g names)
unfolding further_names
agree_further_names k zero g names s l a b = agree_known (λ z. absurd (omega arith))
agree_further_names k (suc f) zero names s l a b = agree_known (λ z. absurd (omega arith))
agree_further_names k (suc f) (suc g) names s l a b = agree_when Dot
    (agree_take (λ dot. agree_expect Name (λ t.
    let e = length-append names (dot ∷ t ∷ []) in
    agree_further_names k f g (names ++ dot ∷ t ∷ []) (omega arith) (omega arith) (omega arith) (omega arith))))
    (agree_pure refl (omega arith))

pub agree_qualified : {n h : ℕ} (f g : ℕ) → n < f → n < g → Agree Same (reach h) n h (qualified f) (qualified g)
unfolding qualified
agree_qualified {n} {h} f g a b = agree_expect Name (λ t. agree_further_names h f g (t ∷ []) (omega arith) (omega arith) (omega arith) (omega arith))

pub agree_primitive : {n h : ℕ} → Agree Same (λ _. suc h) n h primitive primitive
unfolding primitive
agree_primitive = agree_expect Prim (λ t. agree_pure refl (omega arith))

pub agree_base_type : {n h : ℕ} (f g : ℕ) → n < f → n < g → Agree Same (λ _. suc h) n h (base_type f) (base_type g)
unfolding base_type
agree_base_type f g a b = agree_when Prim agree_primitive (agree_then (agree_qualified f g a b) (λ names. agree_pure refl (omega arith)))

pub agree_brackets : {n h : ℕ} (f g k : ℕ) → Turns n h f g → Agree Same (λ _. h) n h (brackets f k) (brackets g k)
unfolding brackets
agree_brackets zero zero k a = agree_pure refl (omega arith)
agree_brackets zero (suc g) k a = agree_turns a
agree_brackets (suc f) zero k a = agree_turns' a
agree_brackets (suc f) (suc g) k a = agree_when Left
    (agree_take (λ left. agree_expect Right (λ right. agree_with (λ x y r. r) (λ x. omega arith) (agree_brackets f g (k + 1) (turned _ (omega arith) a)))))
    (agree_pure refl (omega arith))

module _ {n : ℕ} (l l' : Limits) (like : LikeLimits n l l') where
  pub agree_type_after : {h : ℕ} (base base' : TypeName) (k : ℕ) → k ≤ h → Agree Any (λ _. h) n h (type_after l base k) (type_after l' base' k)
  unfolding type_after
  agree_type_after base base' k le = agree_then (agree_brackets (l.most - k) (l'.most - k) k (turns _ k (omega arith) like.most)) (λ m. agree_pure tt (omega arith))

  pub agree_whole_type : {h : ℕ} → Agree Any (λ _. suc h) n h (whole_type l) (whole_type l')
  unfolding whole_type
  agree_whole_type {h} = agree_then (agree_base_type l.turns l'.turns like.turns like.turns') (λ base. agree_type_after base base 0 (omega arith))
