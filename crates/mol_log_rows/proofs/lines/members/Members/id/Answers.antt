use Rattle.std.proofs.Common.{ap, ◌∙◌}
use Rattle.std.specs.Prelude.{ok_or}
use Rattle.serde_json.specs.Find.{as_str}
use Rattle.mol_base.specs.Spelled.{id_of}
use Rattle.mol_base.proofs.Spelled.{id_of-parse}
use Rattle.mol_log_rows.specs.declared.lines.object_fault.ObjectFault.TheVariants.{WrongForm}
use Rattle.mol_log_rows.proofs.lines_lemmas.Refused.{reads_err}
use Rattle.mol_log_rows.proofs.lines_lemmas.Taken.{reads_and, part_and_without, gives_or}
use Rattle.mol_log_rows.proofs.lines.members.Members.id.Goals as goal

pub returns-in_err-text : goal.returns-in_err-text
returns-in_err-text c =
    reads_err _ c.from_residual.result _ _ c.from_residual.ensures.1 (λ wrong. part_and_without c.args.key.now as_str id_of _ (c.in_err-text.ensures wrong))

pub returns : goal.returns
returns c =
    let parsed = id_of-parse c.bytes.result.now c.parse.result c.parse.ensures.spells c.parse.ensures.only ∙ ap id_of c.bytes.ensures.bytes in
    reads_and c.args.key.now as_str id_of _ _ _ c.ok_or.result c.in_ok-text.ensures
    (gives_or _ c.ok_or.result (c.ok_or.ensures.value ∙ ap (λ found. ok_or found WrongForm) parsed))
