-- Where the tokens of the program are cut at the bad one.
use Rattle.std.proofs.Common.{◌≡◌, ◌<◌, ◌≤◌, ℕ, suc, ◌+◌, ◌-◌, List, [], ◌∷◌, ◌++◌, length, take, drop, get_or, map, refl, sym, ap, ◌∙◌, arith}
use Rattle.std.proofs.lemmas.List.{length-map, length-drop, take-map, drop-map, map_push, take_more, drop_more}
use Rattle.std.specs.Global.{Global}
use Rattle.mol_base.specs.Token.{Token}
use Rattle.jav_lex.specs.Token.{seen, all_seen}
use Rattle.jav_lex.specs.declared.token.Token as code
use Rattle.jav_parse_unit.specs.declared.reading.Language.{Language}
use Rattle.jav_parse_unit.specs.WholeRules.{wrong, wrong_at, fault_of}

pub wrong_is : (alloc : Global) (language : Language) (tokens : List code.Token) (left at : ℕ) → at ≡ length tokens - left
    → wrong alloc language (all_seen tokens) left ≡ wrong_at alloc language (all_seen (take at tokens)) (all_seen (drop at tokens))
wrong_is alloc language tokens left at e =
    let n : length (all_seen tokens) ≡ length tokens = length-map tokens seen in
    let cut : length (all_seen tokens) - left ≡ at = omega arith in
    ap (λ m. wrong_at alloc language (take m (all_seen tokens)) (drop m (all_seen tokens))) cut
    ∙ ap (λ ts. wrong_at alloc language ts (drop at (all_seen tokens))) (take-map seen at tokens)
    ∙ ap (wrong_at alloc language (all_seen (take at tokens))) (drop-map seen at tokens)

-- the tokens up to and with the bad one
pub with_bad : (tokens : List code.Token) (at : ℕ) (bad : code.Token) (more : List code.Token) → drop at tokens ≡ bad ∷ more
    → all_seen (take (at + 1) tokens) ≡ all_seen (take at tokens) ++ seen bad ∷ []
with_bad tokens at bad more e =
    let l : length tokens - at ≡ suc (length more) = sym (length-drop at tokens) ∙ ap length e in
    let lt : at < length tokens = omega arith in
    let d = sym (drop_more tokens at bad lt) ∙ e in
    let same : get_or tokens at bad ≡ bad = cc in
    ap all_seen (take_more tokens at bad lt ∙ ap (λ t. take at tokens ++ t ∷ []) same) ∙ map_push seen (take at tokens) bad

-- what is wrong with the bad token, which comes first of those that are left
pub wrong_from : (alloc : Global) (language : Language) (tokens : List code.Token) (left at : ℕ) (front back : List code.Token) (bad : code.Token)
    → at ≡ length tokens - left → front ≡ take at tokens → back ≡ drop at tokens → 1 ≤ length back → bad ≡ get_or back 0 bad
    → fault_of alloc language (all_seen front) (seen bad) (all_seen (take (at + 1) tokens)) ≡ wrong alloc language (all_seen tokens) left
wrong_from alloc language tokens left at front [] bad e f k n i = absurd (omega arith)
wrong_from alloc language tokens left at front (b ∷ more) bad e f k n i =
    let same : bad ≡ b = i in
    ap (λ ts. fault_of alloc language (all_seen ts) (seen bad) (all_seen (take (at + 1) tokens))) f
    ∙ ap (λ t. fault_of alloc language (all_seen (take at tokens)) (seen t) (all_seen (take (at + 1) tokens))) same
    ∙ ap (λ both. fault_of alloc language (all_seen (take at tokens)) (seen b) both) (with_bad tokens at b more (sym k))
    ∙ ap (λ ts. wrong_at alloc language (all_seen (take at tokens)) (all_seen ts)) k
    ∙ sym (wrong_is alloc language tokens left at e)
