-- The first token of some tokens of a program, and the rest.
use Rattle.std.proofs.Common.{◌≡◌, ℕ, suc, ◌-◌, ◌≤◌, List, [], ◌∷◌, ◌++◌, length, take, drop, get_or, Ok, refl, sym, ap, arith}
use Rattle.std.proofs.lemmas.Grind.{common_steps}
use Rattle.mol_base.specs.Token.{Token}
use Rattle.jav_lex.specs.Token.{seen, all_seen}
use Rattle.jav_lex.specs.declared.token.Token as code
use Rattle.jav_parse_cursor.specs.Reading.{take_token}

pub taken : (rest : List code.Token) (t : code.Token) → 1 ≤ length rest → t ≡ get_or rest 0 t → take_token (all_seen rest) ≡ Ok (seen t, all_seen (take (length rest - 1) (drop 1 rest)))
unfolding take_token
taken [] t h e = absurd (omega arith)
taken (x ∷ xs) t h e =
    let s : take (length (x ∷ xs) - 1) (drop 1 (x ∷ xs)) ≡ xs = grind (arith, common_steps) in
    let same : t ≡ x = e in
    rw (s, same) refl
