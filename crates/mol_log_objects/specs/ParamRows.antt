-- The rows that are written for parameters.
use Rattle.std.specs.Prelude.{List, map}
use Rattle.mol_values_types.specs.declared.param.Param.{Param}
use Rattle.mol_log_words.specs.TypeWords.{type_words}
use Rattle.mol_log_rows.specs.declared.rows.row.ParamRow.{ParamRow}

abbrev pub param_row : Param → ParamRow
param_row param = record { id = param.id; name = param.name; ty = type_words param.ty; filler = param.filler }

abbrev pub param_rows : List Param → List ParamRow
param_rows params = map param_row params
