-- Objects that are made member after member.
use Rattle.std.specs.Prelude.{List, [], ◌∷◌, codes}
use Rattle.serde_json.specs.Data.{Members, put}
use Rattle.serde_json.specs.View.{members_view}
use Rattle.mol_log_rows.specs.lines.Objects.{Pair}
use Rattle.mol_log_objects.specs.declared.object.Object.{Object}

-- the members so far
abbrev pub members_in : Object → Members
members_in object = members_view object.members.entries

-- the members, with what each pair has at its key
abbrev pub put_pairs : List Pair → Members → Members
put_pairs [] ms = ms
put_pairs (pair ∷ pairs) ms = put_pairs pairs (put (codes pair.0) pair.1 ms)
