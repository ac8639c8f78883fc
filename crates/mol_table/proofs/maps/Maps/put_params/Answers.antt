use Rattle.std.proofs.Common.{◌≡◌, ◌+◌, ◌∙◌, ap, subst, arith, drop}
use Rattle.mol_table.specs.Maps.{program_in}
use Rattle.mol_table_rules.specs.Writes.{with_params}
use Rattle.mol_table.specs.declared.maps.Maps.{Maps}
use Rattle.mol_table_rules.proofs.Writing.{drop-item}
use Rattle.mol_table.proofs.maps.Maps.put_params.Goals as goal

pub loop-param-preserved : goal.loop-param-preserved
loop-param-preserved c =
    let params = c.args.params.now in
    let method = c.args.method.now in
    let i = c.loop-param.invariant in
    let new = c.keep_known.new.self in
    let next = drop-item params c.loop-param.param-index c.param-item.result c.loop-param-test.true c.param-item.is in
    record {
      known = ap (λ k. with_params k method (drop (c.loop-param.param-index + 1) params)) c.keep_known.ensures.known
          ∙ subst (λ ps. with_params (program_in c.loop-param.self).known method ps ≡ with_params (program_in c.args.self.now).known method params) next i.known;
      starts = λ ids starts. c.keep_known.ensures.starts ids (i.starts ids starts);
      count = omega (arith, i.count, c.keep_known.ensures.count);
      room = omega (arith, i.room, c.keep_known.ensures.room);
      rest = c.keep_known.ensures.rest ∙ ap (λ (maps : Maps). let more : Maps = record maps { known = new.known } in more) i.rest;
    }
