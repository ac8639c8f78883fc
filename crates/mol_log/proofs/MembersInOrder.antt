-- The members of an entry's object are put in the order of their keys.
use Rattle.std.proofs.Common.{◌≡◌, ℕ, List, ◌∷◌, Result, Ok, Err, codes, refl, ap₂, ◌∙◌}
use Rattle.std.specs.Prelude.{OnOk}
use Rattle.serde_json.specs.Data.{Data, Members, member, no_members, put}
use Rattle.serde_json.proofs.OnLiterals.{serde_json_on_literals}
use Rattle.mol_log_rows.specs.lines.Objects.{members}
use Rattle.mol_log_rows.specs.rows.RowData.{row_pairs}
use Rattle.mol_log_rows.specs.declared.rows.row.Row.{Row}
use Rattle.mol_log_rows.specs.declared.rows.row.Row.TheVariants.{AddClass, AddField, AddMethod, AddOverride, AddConstructor, Delete, SetBody}
use Rattle.mol_log_rows.specs.declared.rows.row.Row.TheVariants.{SetValue, RenameClass, RenameMethod, MoveClass, MoveMethod, ChangeSignature}
use Rattle.mol_log_objects.specs.Members.{put_pairs}

-- after the stamp
pub in_order : (at : Data) (row : Row)
    → put_pairs (row_pairs row) (member (codes "at") at no_members) ≡ members (("at", at) ∷ row_pairs row)
unfolding serde_json_on_literals
in_order at (AddClass row) = refl
in_order at (AddField row) = refl
in_order at (AddMethod row) = refl
in_order at (AddOverride row) = refl
in_order at (AddConstructor row) = refl
in_order at (Delete row) = refl
in_order at (SetBody row) = refl
in_order at (SetValue row) = refl
in_order at (RenameClass row) = refl
in_order at (RenameMethod row) = refl
in_order at (MoveClass row) = refl
in_order at (MoveMethod row) = refl
in_order at (ChangeSignature row) = refl

-- the last of several members that were put
pub put_last : {E : Type 0} (result : Result (Unit {0}) E) (after : Members) (key : List ℕ) (d d' : Data) (before wanted : Members)
    → OnOk result (after ≡ put key d before) → d ≡ d' → before ≡ wanted → OnOk result (after ≡ put key d' wanted)
put_last (Ok u) after key d d' before wanted is same rest = is ∙ ap₂ (put key) same rest
put_last (Err fault) after key d d' before wanted is same rest = tt
