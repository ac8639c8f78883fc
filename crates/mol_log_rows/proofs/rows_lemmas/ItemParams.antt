-- A list of parameters, one after the other.
use Rattle.std.proofs.Common.{◌≡◌, List, [], ◌∷◌, ◌++◌, Option, Some, None, option_map, option_and_then, refl, sym, ap, ◌∙◌, append_assoc, append-nil}
use Rattle.serde_json.specs.Data.{Data, Items, no_items, item}
use Rattle.mol_log_rows.specs.lines.Reader.{object_from}
use Rattle.mol_log_rows.specs.rows.RowReader.{param, params_in, param_before}
use Rattle.mol_log_rows.specs.declared.rows.row.ParamRow.{ParamRow}

-- the parameters of further items, after these
abbrev onto : List ParamRow → Option (List ParamRow) → Option (List ParamRow)
onto done more = option_map (λ params. done ++ params) more

pub params_start : (done : List ParamRow) → done ≡ [] → (o : Option (List ParamRow)) → o ≡ onto done o
params_start done none None = refl
params_start done none (Some params) = ap (λ front. Some (front ++ params)) (sym none)

module _ (done : List ParamRow) (d : Data) (ds : Items) where
  pub params_more : (row : ParamRow) → object_from param d ≡ Some row
      → onto done (params_in (item d ds)) ≡ onto (done ++ row ∷ []) (params_in ds)
  unfolding params_in
  params_more row is = ap (λ o. onto done (option_and_then (λ p. param_before p (params_in ds)) o)) is ∙ by (params_in ds) where
    by : (o : Option (List ParamRow)) → onto done (param_before row o) ≡ onto (done ++ row ∷ []) o
    by None = refl
    by (Some more) = ap Some (sym (append_assoc done (row ∷ []) more))

  pub params_stop : object_from param d ≡ None → onto done (params_in (item d ds)) ≡ None
  unfolding params_in
  params_stop is = ap (λ o. onto done (option_and_then (λ p. param_before p (params_in ds)) o)) is

pub params_end : (done : List ParamRow) → onto done (params_in no_items) ≡ Some done
unfolding params_in
params_end done = ap Some (append-nil done)
