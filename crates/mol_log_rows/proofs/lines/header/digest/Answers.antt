use Rattle.std.proofs.Common.{Some, None, ap, sym, ◌∙◌, option_and_then}
use Rattle.std.specs.Prelude.{if◌then◌else◌}
use Rattle.std.specs.Str.{bytes_eq}
use Rattle.hex.specs.Hex.{encode_lower}
use Rattle.mol_log_rows.specs.lines.HeaderReader.{digest_of}
use Rattle.mol_log_rows.proofs.lines_lemmas.Digests.{undecoded, decoded_so}
use Rattle.mol_log_rows.proofs.lines.header.digest.Goals as goal

pub returns-then-is_err : goal.returns-then-is_err
returns-then-is_err c = λ wrong.
    ap (option_and_then digest_of) c.in_ok-text.ensures
    ∙ undecoded c.in_ok-text.text _ c.decode_to_slice.result _ c.bytes.ensures.bytes c.decode_to_slice.ensures.value (sym c.is_err.ensures.value ∙ c.if-is_err.true)

pub returns-then-is_hex_of : goal.returns-then-is_hex_of
returns-then-is_hex_of c =
    let same = ap (λ bytes. bytes_eq bytes (encode_lower c.decode_to_slice.new.out)) (sym c.bytes-2.ensures.bytes) ∙ sym c.is_hex_of.ensures ∙ c.if-is_hex_of.true in
    ap (option_and_then digest_of) c.in_ok-text.ensures
    ∙ decoded_so c.in_ok-text.text _ c.decode_to_slice.result _ c.bytes.ensures.bytes c.decode_to_slice.ensures.value (sym c.is_err.ensures.value ∙ c.if-is_err.false)
    ∙ ap (λ b. if b then Some c.decode_to_slice.new.out else None) same

pub returns : goal.returns
returns c = λ wrong.
    let other = ap (λ bytes. bytes_eq bytes (encode_lower c.decode_to_slice.new.out)) (sym c.bytes-2.ensures.bytes) ∙ sym c.is_hex_of.ensures ∙ c.if-is_hex_of.false in
    ap (option_and_then digest_of) c.in_ok-text.ensures
    ∙ decoded_so c.in_ok-text.text _ c.decode_to_slice.result _ c.bytes.ensures.bytes c.decode_to_slice.ensures.value (sym c.is_err.ensures.value ∙ c.if-is_err.false)
    ∙ ap (λ b. if b then Some c.decode_to_slice.new.out else None) other
