use Rattle.std.proofs.Common.{◌≡◌, codes, sym, ◌∙◌}
use Rattle.mol_log_rows.specs.rows.RowReader.{row_table}
use Rattle.mol_log_rows.proofs.rows_lemmas.RowTable.{row_at, no_row}
use Rattle.mol_log_rows.proofs.rows.read.row_named.Goals as goal

pub returns-in-text : goal.returns-in-text
returns-in-text c =
    row_at c.args.name.now (codes "add-class") _ _ c.add_class.result (sym c.as_str.ensures ∙ c.in-text.is) c.add_class.ensures

pub returns-in-text-2 : goal.returns-in-text-2
returns-in-text-2 c =
    row_at c.args.name.now (codes "add-field") _ _ c.add_field.result (sym c.as_str.ensures ∙ c.in-text-2.is) c.add_field.ensures

pub returns-in-text-3 : goal.returns-in-text-3
returns-in-text-3 c =
    row_at c.args.name.now (codes "add-method") _ _ c.add_method.result (sym c.as_str.ensures ∙ c.in-text-3.is) c.add_method.ensures

pub returns-in-text-4 : goal.returns-in-text-4
returns-in-text-4 c =
    row_at c.args.name.now (codes "add-override") _ _ c.add_override.result (sym c.as_str.ensures ∙ c.in-text-4.is) c.add_override.ensures

pub returns-in-text-5 : goal.returns-in-text-5
returns-in-text-5 c =
    row_at c.args.name.now (codes "add-constructor") _ _ c.add_constructor.result
    (sym c.as_str.ensures ∙ c.in-text-5.is) c.add_constructor.ensures

pub returns-in-delete : goal.returns-in-delete
returns-in-delete c =
    row_at c.args.name.now (codes "delete") _ _ c.delete.result (sym c.as_str.ensures ∙ c.in-delete.is) c.delete.ensures

pub returns-in-text-6 : goal.returns-in-text-6
returns-in-text-6 c =
    row_at c.args.name.now (codes "set-body") _ _ c.set_body.result (sym c.as_str.ensures ∙ c.in-text-6.is) c.set_body.ensures

pub returns-in-text-7 : goal.returns-in-text-7
returns-in-text-7 c =
    row_at c.args.name.now (codes "set-value") _ _ c.set_value.result (sym c.as_str.ensures ∙ c.in-text-7.is) c.set_value.ensures

pub returns-in-text-8 : goal.returns-in-text-8
returns-in-text-8 c =
    row_at c.args.name.now (codes "rename-class") _ _ c.rename_class.result (sym c.as_str.ensures ∙ c.in-text-8.is) c.rename_class.ensures

pub returns-in-text-9 : goal.returns-in-text-9
returns-in-text-9 c =
    row_at c.args.name.now (codes "rename-method") _ _ c.rename_method.result
    (sym c.as_str.ensures ∙ c.in-text-9.is) c.rename_method.ensures

pub returns-in-text-10 : goal.returns-in-text-10
returns-in-text-10 c =
    row_at c.args.name.now (codes "move-class") _ _ c.move_class.result (sym c.as_str.ensures ∙ c.in-text-10.is) c.move_class.ensures

pub returns-in-text-11 : goal.returns-in-text-11
returns-in-text-11 c =
    row_at c.args.name.now (codes "move-method") _ _ c.move_method.result (sym c.as_str.ensures ∙ c.in-text-11.is) c.move_method.ensures

pub returns-in-text-12 : goal.returns-in-text-12
returns-in-text-12 c =
    row_at c.args.name.now (codes "change-signature") _ _ c.change_signature.result
    (sym c.as_str.ensures ∙ c.in-text-12.is) c.change_signature.ensures

pub returns-in_default : goal.returns-in_default
returns-in_default c = λ wrong.
    let add_class = λ (is : c.args.name.now ≡ codes "add-class"). c.in_default.not-text (c.as_str.ensures ∙ is) in
    let add_field = λ (is : c.args.name.now ≡ codes "add-field"). c.in_default.not-text-2 (c.as_str.ensures ∙ is) in
    let add_method = λ (is : c.args.name.now ≡ codes "add-method"). c.in_default.not-text-3 (c.as_str.ensures ∙ is) in
    let add_override = λ (is : c.args.name.now ≡ codes "add-override"). c.in_default.not-text-4 (c.as_str.ensures ∙ is) in
    let add_constructor = λ (is : c.args.name.now ≡ codes "add-constructor"). c.in_default.not-text-5 (c.as_str.ensures ∙ is) in
    let delete = λ (is : c.args.name.now ≡ codes "delete"). c.in_default.not-delete (c.as_str.ensures ∙ is) in
    let set_body = λ (is : c.args.name.now ≡ codes "set-body"). c.in_default.not-text-6 (c.as_str.ensures ∙ is) in
    let set_value = λ (is : c.args.name.now ≡ codes "set-value"). c.in_default.not-text-7 (c.as_str.ensures ∙ is) in
    let rename_class = λ (is : c.args.name.now ≡ codes "rename-class"). c.in_default.not-text-8 (c.as_str.ensures ∙ is) in
    let rename_method = λ (is : c.args.name.now ≡ codes "rename-method"). c.in_default.not-text-9 (c.as_str.ensures ∙ is) in
    let move_class = λ (is : c.args.name.now ≡ codes "move-class"). c.in_default.not-text-10 (c.as_str.ensures ∙ is) in
    let move_method = λ (is : c.args.name.now ≡ codes "move-method"). c.in_default.not-text-11 (c.as_str.ensures ∙ is) in
    let change_signature = λ (is : c.args.name.now ≡ codes "change-signature"). c.in_default.not-text-12 (c.as_str.ensures ∙ is) in
    no_row row_table c.args.name.now _ (
      add_class,
      (
        add_field,
        (
          add_method,
          (
            add_override,
            (
              add_constructor,
              (
                delete,
                (
                  set_body,
                  (set_value, (rename_class, (rename_method, (move_class, (move_method, (change_signature, tt)))))),
                ),
              ),
            ),
          ),
        ),
      ),
    )
