use Rattle.mol_resolve_expr.proofs.Outcomes.{noted_on}
use Rattle.mol_resolve.proofs.member_headers.params.read_params.Goals as goal
use Rattle.mol_resolve_entities.specs.member_entities.Headings.{all_read}
use Rattle.mol_resolve_rules.specs.ReadFiles.{repeated_faults}

pub returns : goal.returns
returns g c =
    let reader = g.N.Names.reader c.args.names.now in
    let all = all_read c.args.ids.now reader c.args.at c.args.params.now in
    record {
      value_read = c.in_ok-list.ensures.value_read;
      faults_noted = noted_on all.faults (repeated_faults c.args.at c.args.params.now) _ _ _ c.in_ok-list.ensures.faults_noted
          c.note_repeated.ensures;
    }
