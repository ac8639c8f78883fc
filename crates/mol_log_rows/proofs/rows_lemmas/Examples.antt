-- Worked entries, in their written form and in other spellings.
use Rattle.std.proofs.Common.{◌≡◌, ℕ, [], ◌∷◌, None, Some, codes, refl}
use Rattle.std.specs.Fmt.{digits}
use Rattle.serde_json.specs.Data.{Data}
use Rattle.serde_json.specs.Read.{read}
use Rattle.serde_json.proofs.OnLiterals.{serde_json_on_literals}
use Rattle.mol_base.specs.declared.ident.Id.{Id}
use Rattle.mol_base.specs.declared.ident.Stamp.{Stamp}
use Rattle.mol_log_rows.specs.rows.RowData.{row_data}
use Rattle.mol_log_rows.specs.declared.rows.row.Row.TheVariants as rows

ann : ℕ → Stamp
ann seq = record { tag = codes "ann"; seq = seq }

base : ℕ → Id
base num = record { tag = []; num = num }

sum_data : Data
sum_data = row_data (ann 1) (rows.RenameMethod (record { method = base 11; name = codes "sum" }))

sum_written : read (codes "{\"at\":\"ann@1\",\"method\":\":11\",\"name\":\"sum\",\"op\":\"rename-method\"}") ≡ Some sum_data
unfolding sum_data ann base digits serde_json_on_literals
sum_written = refl

-- white space, another order of the keys, an escape
sum_spelled : read (codes "{ \"op\":\"rename-method\", \"name\":\"\\u0073um\",\"at\" : \"ann@1\", \"method\":\":11\" }") ≡ Some sum_data
unfolding sum_data ann base digits serde_json_on_literals
sum_spelled = refl

-- of a key that stands twice the last value counts
sum_twice : read (codes "{\"at\":\"ann@1\",\"method\":\":11\",\"name\":\"add\",\"name\":\"sum\",\"op\":\"rename-method\"}") ≡ Some sum_data
unfolding sum_data ann base digits serde_json_on_literals
sum_twice = refl

-- a body of words, which may spell nothing
body_data : Data
body_data = row_data (ann 2) (rows.SetBody (record { decl = base 10; body = Some (codes "block" ∷ codes "7" ∷ []) }))

body_written : read (codes "{\"at\":\"ann@2\",\"body\":[\"block\",\"7\"],\"decl\":\":10\",\"op\":\"set-body\"}") ≡ Some body_data
unfolding body_data ann base digits serde_json_on_literals
body_written = refl

-- an abstract body
none_data : Data
none_data = row_data (ann 2) (rows.SetBody (record { decl = base 10; body = None }))

none_written : read (codes "{\"at\":\"ann@2\",\"body\":null,\"decl\":\":10\",\"op\":\"set-body\"}") ≡ Some none_data
unfolding none_data ann base digits serde_json_on_literals
none_written = refl
