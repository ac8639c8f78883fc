use Rattle.std.proofs.Common.{◌≡◌, ℕ, List, [], ◌∷◌, ◌++◌, ◌+◌, ◌-◌, ◌≤◌, sym, ap, ◌∙◌, subst, arith, refl, length, take, drop}
use Rattle.std.specs.Str.{IsUtf8}
use Rattle.std.proofs.lemmas.List.{length-drop}
use Rattle.mol_base.specs.Token.{Token}
use Rattle.mol_base.specs.Source.{IsTaken, Tiles}
use Rattle.mol_base.proofs.Sources.{IsTaken-front, AreTokens-Tiles}
use Rattle.jav_lex.specs.Token.{all_seen}
use Rattle.jav_lex.specs.Fault.{IsFirstFault}
use Rattle.jav_lex.specs.declared.fault.LexFault.{LexFault}
use Rattle.jav_lex.proofs.Alone.{one_first}
use Rattle.jav_lex.proofs.Along.{Along, Along-start, Along-space, Along-token, all_seen-more, clean-text, exit_taken, exit_late, exit_flaw, exit_end}
use Rattle.jav_lex.proofs.Faults.{no_fault}
use Rattle.jav_lex.proofs.Tiling.{one_tiling}
use Rattle.jav_lex.proofs.scan.lex.Goals as goal

pub loop-at-init : goal.loop-at-init
loop-at-init c =
    let bytes : List ℕ = c.args.bytes.now in
    let text = clean-text bytes _ _ c.before_unicode_escape-escape.ensures.first c.text_len-text.ensures.within c.text_len-text.ensures.front in
    rw (c.new-tokens.ensures) (Along-start bytes c.min-clean.result (rw c.min-clean.ensures text))

pub loop-at-preserved-in-Space : goal.loop-at-preserved-in-Space
loop-at-preserved-in-Space c =
    let room : c.min-clean.result ≤ length c.args.bytes.now = omega arith in
    Along-space c.args.bytes.now c.min-clean.result c.loop-at.at (all_seen c.loop-at.tokens) c.loop-at.invariant c.loop-at-test.true room c.in-Space.ensures.within

pub returns-then-clean-at-clause-err : goal.returns-then-clean-at-clause-err
returns-then-clean-at-clause-err c =
    let P : LexFault → Type 0 = IsFirstFault c.args.bytes.now in
    λ _. subst P (sym c.of_characters.ensures)
    (exit_taken c.args.bytes.now _ _ c.min-clean.result c.loop-at.at (all_seen c.loop-at.tokens) c.before_unicode_escape-escape.ensures.first c.text_len-text.ensures.len c.min-clean.ensures c.text_len-text.ensures.within c.loop-at.invariant
    c.in-Taken.kind c.in-Taken.len c.loop-at-test.true (sym c.in-Taken.ensures.same) c.in-Taken.ensures.within c.if-clean-at.true)

pub returns-then-clean-at-clause-one : goal.returns-then-clean-at-clause-one
returns-then-clean-at-clause-one c = λ memory other is. one_first c.args.bytes.now other _ is (returns-then-clean-at-clause-err c memory)

pub returns-then-clean-at-clause-none : goal.returns-then-clean-at-clause-none
returns-then-clean-at-clause-none c = λ memory others source. no_fault c.args.bytes.now others source _ (returns-then-clean-at-clause-err c memory).there

pub token_at-requires-clause-text : goal.token_at-requires-clause-text
token_at-requires-clause-text c =
    let rest : List ℕ = drop c.loop-at.at c.args.bytes.now in
    let len : length rest ≡ length c.args.bytes.now - c.loop-at.at = length-drop c.loop-at.at c.args.bytes.now in
    let text = c.in-Taken.ensures.within.2 (c.min-clean.result - c.loop-at.at) c.if-clean-at.false (omega arith) c.loop-at.invariant.text in
    let count : c.in-Taken.len ≡ c.loop-at.at + c.in-Taken.len - c.loop-at.at = omega arith in
    let P : ℕ → Type 0 = λ n. IsUtf8 (take n rest) in
    subst P count text

pub loop-at-preserved : goal.loop-at-preserved
loop-at-preserved c =
    let bytes : List ℕ = c.args.bytes.now in
    let at : ℕ = c.loop-at.at in
    let n : ℕ = c.in-Taken.len in
    let len : length (drop at bytes) ≡ length bytes - at = length-drop at bytes in
    let t : Token = record { kind = c.in-Taken.kind; text = take (at + n - at) (drop at bytes); start = at; end = at + n } in
    let within = c.in-Taken.ensures.within in
    let count : at + n - at ≡ n = omega arith in
    let taken : IsTaken bytes t = IsTaken-front bytes t n (sym c.in-Taken.ensures.same) (omega arith) refl (ap (λ (k : ℕ). take k (drop at bytes)) count) in
    let along = Along-token bytes c.min-clean.result n (all_seen c.loop-at.tokens) t c.loop-at.invariant c.loop-at-test.true (omega arith) c.if-clean-at.false within.2 refl taken in
    let grown : all_seen c.add.new.self ≡ all_seen c.loop-at.tokens ++ t ∷ [] =
    ap all_seen c.in_ok-add-in-Taken.ensures.ok ∙ all_seen-more c.loop-at.tokens c.in_ok-token-in-Taken.token
    ∙ ap (λ (x : Token). all_seen c.loop-at.tokens ++ x ∷ []) c.in_ok-token-in-Taken.ensures in
    let P : List Token → Type 0 = λ ts. Along bytes c.min-clean.result ts (at + n) in
    subst P (sym grown) along

pub returns-then-clean-at-2-clause-err : goal.returns-then-clean-at-2-clause-err
returns-then-clean-at-2-clause-err c =
    let P : LexFault → Type 0 = IsFirstFault c.args.bytes.now in
    λ _. subst P (sym c.of_characters-then-clean-at-2.ensures)
    (exit_late c.args.bytes.now _ _ c.min-clean.result c.loop-at.at (all_seen c.loop-at.tokens) c.before_unicode_escape-escape.ensures.first c.text_len-text.ensures.len c.min-clean.ensures c.text_len-text.ensures.within c.loop-at.invariant
    c.in-Wrong.flaw c.in-Wrong.offset c.loop-at-test.true (sym c.in-Wrong.ensures.same) c.in-Wrong.ensures.within c.if-clean-at-2.true)

pub returns-then-clean-at-2-clause-one : goal.returns-then-clean-at-2-clause-one
returns-then-clean-at-2-clause-one c = λ memory other is. one_first c.args.bytes.now other _ is (returns-then-clean-at-2-clause-err c memory)

pub returns-then-clean-at-2-clause-none : goal.returns-then-clean-at-2-clause-none
returns-then-clean-at-2-clause-none c = λ memory others source. no_fault c.args.bytes.now others source _ (returns-then-clean-at-2-clause-err c memory).there

pub returns-in-Wrong-clause-err : goal.returns-in-Wrong-clause-err
returns-in-Wrong-clause-err c =
    let P : LexFault → Type 0 = IsFirstFault c.args.bytes.now in
    λ _. subst P (sym c.of_flaw.ensures)
    (exit_flaw c.args.bytes.now _ _ c.min-clean.result c.loop-at.at (all_seen c.loop-at.tokens) c.before_unicode_escape-escape.ensures.first c.text_len-text.ensures.len c.min-clean.ensures c.text_len-text.ensures.within c.loop-at.invariant
    c.in-Wrong.flaw c.in-Wrong.offset c.loop-at-test.true (sym c.in-Wrong.ensures.same) c.if-clean-at-2.false)

pub returns-in-Wrong-clause-one : goal.returns-in-Wrong-clause-one
returns-in-Wrong-clause-one c = λ memory other is. one_first c.args.bytes.now other _ is (returns-in-Wrong-clause-err c memory)

pub returns-in-Wrong-clause-none : goal.returns-in-Wrong-clause-none
returns-in-Wrong-clause-none c = λ memory others source. no_fault c.args.bytes.now others source _ (returns-in-Wrong-clause-err c memory).there

pub returns-then-clean-bytes-clause-tokens : goal.returns-then-clean-bytes-clause-tokens
returns-then-clean-bytes-clause-tokens c = AreTokens-Tiles c.args.bytes.now 0 c.loop-at.at (all_seen c.loop-at.tokens) c.loop-at.invariant.tiles

pub returns-then-clean-bytes-clause-only : goal.returns-then-clean-bytes-clause-only
returns-then-clean-bytes-clause-only c = λ others source.
    let bytes : List ℕ = c.args.bytes.now in
    let end : c.loop-at.at ≡ length bytes = omega arith in
    let P : ℕ → Type 0 = Tiles bytes 0 (all_seen c.loop-at.tokens) in
    one_tiling bytes 0 others (all_seen c.loop-at.tokens) source.tiles (subst P end c.loop-at.invariant.tiles)

pub returns-else-clean-bytes-clause-err : goal.returns-else-clean-bytes-clause-err
returns-else-clean-bytes-clause-err c =
    let P : LexFault → Type 0 = IsFirstFault c.args.bytes.now in
    λ _. subst P (sym c.of_characters-else-clean-bytes.ensures)
    (exit_end c.args.bytes.now _ _ c.min-clean.result c.loop-at.at (all_seen c.loop-at.tokens) c.before_unicode_escape-escape.ensures.first c.text_len-text.ensures.len c.min-clean.ensures c.text_len-text.ensures.within c.loop-at.invariant c.loop-at-test.false c.if-clean-bytes.false)

pub returns-else-clean-bytes-clause-one : goal.returns-else-clean-bytes-clause-one
returns-else-clean-bytes-clause-one c = λ memory other is. one_first c.args.bytes.now other _ is (returns-else-clean-bytes-clause-err c memory)

pub returns-else-clean-bytes-clause-none : goal.returns-else-clean-bytes-clause-none
returns-else-clean-bytes-clause-none c = λ memory others source. no_fault c.args.bytes.now others source _ (returns-else-clean-bytes-clause-err c memory).there
