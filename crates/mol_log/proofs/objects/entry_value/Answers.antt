use Rattle.std.proofs.Common.{List, ℕ, codes, ap, ap₂, ◌∙◌}
use Rattle.serde_json.specs.Data.{Members, object, put, string}
use Rattle.mol_base.specs.Identity.{spelled_stamp}
use Rattle.mol_log.specs.entries.RowsOf.{row_of}
use Rattle.mol_log_rows.specs.rows.RowData.{row_pairs}
use Rattle.mol_log.proofs.MembersInOrder.{in_order}
use Rattle.mol_log_objects.specs.Members.{put_pairs}
use Rattle.mol_log.proofs.objects.entry_value.Goals as goal

pub returns : goal.returns
returns c =
    let entry = c.args.entry.now in
    let pairs = row_pairs (row_of entry.op) in
    let at =
    c.in_ok-text.ensures
    ∙ ap₂ (λ (t : List ℕ) (ms : Members). put (codes "at") (string t) ms) (c.as_str.ensures ∙ c.in_ok-at.ensures) c.new-object.ensures in
    c.into_value.ensures
    ∙ ap object (c.in_ok-put_operation.ensures ∙ ap (put_pairs pairs) at ∙ in_order (string (spelled_stamp entry.stamp)) (row_of entry.op))
