use Rattle.std.proofs.Common.{◌≡◌, ◌≤◌, length, sym, ap, ◌∙◌, arith, take, ℕ, List}
use Rattle.std.specs.Str.{IsUtf8, chars}
use Rattle.std.specs.Prelude.{slice_get}
use Rattle.mol_base.specs.Lexical.Characters.{first, width}
use Rattle.mol_base.proofs.FirstChar.{first_char-is, first_char-no_text}
use Rattle.mol_base.proofs.lexical.bytes.first_decoded.Goals as goal

pub returns-in-Ok : goal.returns-in-Ok
returns-in-Ok c =
    let bytes : List ℕ = c.args.bytes.now in
    let e : c.width-width.result ≡ width (first bytes) = c.width-width.ensures.same ∙ ap width c.byte_at.ensures in
    let room : width (first bytes) ≤ length bytes = omega arith in
    let text : IsUtf8 (take (width (first bytes)) bytes) = rw e at c.in-Ok.ensures.cases.1 in
    let front : c.in-Ok.front.now ≡ take (width (first bytes)) bytes = rw e at c.in-Ok.ensures.cases.0 in
    c.next.ensures.steps.2 ∙ ap (λ (xs : List ℕ). slice_get (chars xs) 0) (c.chars.ensures.rest ∙ front) ∙ sym (first_char-is bytes room text)

pub returns-in-Err : goal.returns-in-Err
returns-in-Err c =
    let bytes : List ℕ = c.args.bytes.now in
    let e : c.width-width.result ≡ width (first bytes) = c.width-width.ensures.same ∙ ap width c.byte_at.ensures in
    sym (first_char-no_text bytes (rw e at c.in-Err.ensures.cases.0))
