use Rattle.std.proofs.Common.{Ok, Err, codes, sym, ◌∙◌}
use Rattle.serde_json.specs.Find.{as_str}
use Rattle.mol_log_rows.specs.declared.lines.object_fault.ObjectFault.TheVariants.{WrongForm}
use Rattle.mol_log_rows.proofs.lines_lemmas.Refused.{reads_err}
use Rattle.mol_log_rows.proofs.lines_lemmas.Taken.{reads_and, part_and_without}
use Rattle.mol_values_types.specs.declared.kind.MethodKind.TheVariants.{Instance, Static}
use Rattle.mol_log_rows.specs.rows.RowReader.{kind_of}
use Rattle.mol_log_rows.proofs.rows_lemmas.RowTable.{kind_at, no_kind}
use Rattle.mol_log_rows.proofs.rows.parts.kind.Goals as goal

pub returns-in_err-text : goal.returns-in_err-text
returns-in_err-text c =
    reads_err _ c.from_residual.result _ _ c.from_residual.ensures.1
    (λ wrong. part_and_without (codes "kind") as_str kind_of _ (c.in_err-text.ensures wrong))

pub returns-in-instance : goal.returns-in-instance
returns-in-instance c =
    reads_and (codes "kind") as_str kind_of _ _ _ (Ok Instance) c.in_ok-text.ensures (kind_at _ _ (sym c.as_str.ensures ∙ c.in-instance.is))

pub returns-in-static : goal.returns-in-static
returns-in-static c =
    reads_and (codes "kind") as_str kind_of _ _ _ (Ok Static) c.in_ok-text.ensures (kind_at _ _ (sym c.as_str.ensures ∙ c.in-static.is))

pub returns : goal.returns
returns c =
    reads_and (codes "kind") as_str kind_of _ _ _ (Err WrongForm) c.in_ok-text.ensures
    (λ wrong. no_kind c.in_ok-text.text (λ is. c.in_default.not-instance (c.as_str.ensures ∙ is))
    (λ is. c.in_default.not-static (c.as_str.ensures ∙ is)))
