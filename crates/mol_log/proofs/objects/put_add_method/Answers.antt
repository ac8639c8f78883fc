use Rattle.std.proofs.Common.{List, ℕ, codes, ap, ap₂, ◌∙◌}
use Rattle.serde_json.specs.Data.{Members, put, string}
use Rattle.mol_log_words.specs.TypeWords.{type_words}
use Rattle.mol_log_rows.specs.lines.Objects.{texts_data}
use Rattle.mol_log_objects.specs.ParamRows.{param_rows}
use Rattle.mol_log_rows.specs.rows.RowData.{id_data, kind_data, params_data}
use Rattle.mol_values_types.specs.declared.param.Param.{Param}
use Rattle.mol_log.proofs.MembersInOrder.{put_last}
use Rattle.mol_log_objects.specs.Members.{members_in}
use Rattle.mol_log.proofs.objects.put_add_method.Goals as goal

pub returns : goal.returns
returns c =
    let op = c.args.op.now in
    let decl = c.in_ok-id.ensures ∙ ap (put (codes "decl") (id_data op.decl)) c.in_ok-body.ensures in
    let kind = c.in_ok-kind.ensures ∙ ap (put (codes "kind") (kind_data op.kind)) decl in
    let method = c.in_ok-id-2.ensures ∙ ap (put (codes "method") (id_data op.method)) kind in
    let name = c.in_ok-text.ensures ∙ ap₂ (λ (t : List ℕ) (ms : Members). put (codes "name") (string t) ms) c.as_str.ensures method in
    let notes =
    c.in_ok-texts.ensures
    ∙ ap₂ (λ (ts : List (List ℕ)) (ms : Members). put (codes "notes") (texts_data ts) ms) c.items.ensures name in
    let named = c.in_ok-text-2.ensures ∙ ap (put (codes "op") (string (codes "add-method"))) notes in
    let owner = c.in_ok-id-3.ensures ∙ ap (put (codes "owner") (id_data op.owner)) named in
    let params =
    c.in_ok-params.ensures
    ∙ ap₂ (λ (ps : List Param) (ms : Members). put (codes "params") (params_data (param_rows ps)) ms) c.items-2.ensures owner in
    let result = c.in_ok-ty.ensures ∙ ap (put (codes "result") (texts_data (type_words op.result))) params in
    put_last c.texts-2.result (members_in c.texts-2.new.self) (codes "words") (texts_data c.items-3.result.now)
    (texts_data op.words.texts) (members_in c.ty.new.self) _ c.texts-2.ensures (ap texts_data c.items-3.ensures) result
