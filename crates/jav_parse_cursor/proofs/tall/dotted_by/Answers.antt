use Rattle.std.proofs.Common.{◌≡◌, ◌∙◌, ◌-◌, ap, sym, arith, length, take, drop}
use Rattle.jav_lex.specs.Token.{seen, all_seen}
use Rattle.jav_parse_cursor.specs.Nodes.{dotted_by}
use Rattle.jav_parse_cursor.proofs.Chains.{dots, two_off}
use Rattle.jav_parse_cursor.proofs.tall.dotted_by.Goals as goal

pub loop-after-preserved : goal.loop-after-preserved
loop-after-preserved c =
    let high = ap (λ x. x.height) c.in_ok-left.ensures in
    let two = two_off c.loop-after.after.now c.in-len2-up.len_at_least in
    let one = c.loop-after.invariant.height in
    let low = c.loop-after.invariant.small in
    record {
      same = ap (λ x. dotted_by x (all_seen (take (length c.loop-after.after.now - 2) (drop 2 c.loop-after.after.now)))) c.in_ok-left.ensures ∙ sym (dots c.loop-after.left c.loop-after.after.now c.token-item.result c.in-len2-up.len_at_least c.token-item.is) ∙ c.loop-after.invariant.same;
      small = omega arith;
      height = omega arith;
    }
