-- Which identities, names and texts a row may have. Of its lists of words nothing is asked.
use Rattle.std.specs.Prelude.{Bool, true, false, ◌&&◌, nat_le, List, length}
use Prim.Native.String.{String}
use Rattle.std.specs.List.{list_all}
use Rattle.mol_base.specs.Limits.{max_items}
use Rattle.mol_base.specs.Modifiers.{class_words, field_words, method_words, abstract_words, kept_words, constructor_words}
use Rattle.mol_base.specs.declared.modifier.Modified.{Modified}
use Rattle.mol_base.specs.declared.modifier.Modified.TheVariants as of
use Rattle.mol_base.specs.Spelled.{is_id}
use Rattle.mol_values_types.specs.TokenForms.{is_name, is_dotted, is_filler, are_comments, is_empty}
use Rattle.mol_values_types.specs.Words.{are_words}
use Rattle.mol_values_types.specs.declared.kind.MethodKind.{MethodKind}
use Rattle.mol_values_types.specs.declared.kind.MethodKind.TheVariants.{Constructor}
use Rattle.mol_values_types.specs.declared.words.Notes.{Notes}
use Rattle.mol_log_rows.specs.declared.rows.row.ParamRow.{ParamRow}
use Rattle.mol_log_rows.specs.declared.rows.row.Row.{Row}
use Rattle.mol_log_rows.specs.declared.rows.row.Row.TheVariants.{AddClass, AddField, AddMethod, AddOverride, AddConstructor, Delete, SetBody, SetValue, RenameClass, RenameMethod, MoveClass, MoveMethod, ChangeSignature}

-- the modifiers that may stand before this; those of methods are without `static` and `abstract`
abbrev pub words_before : Modified → List String
words_before of.Class = class_words
words_before of.Field = field_words
words_before of.Method = method_words
words_before of.AbstractMethod = abstract_words
words_before of.KeptMethod = kept_words
words_before of.Constructor = constructor_words

-- a constructor is added by an operation of its own
abbrev pub is_kind : MethodKind → Bool
is_kind Constructor = false
is_kind kind = true

abbrev pub are_class_notes : Notes → Bool
are_class_notes notes = are_comments notes.front && are_comments notes.head && are_comments notes.tail

-- a member has no braces of its own
abbrev pub are_member_notes : Notes → Bool
are_member_notes notes = are_comments notes.front && is_empty notes.head && is_empty notes.tail

abbrev pub is_param_row : ParamRow → Bool
is_param_row param = is_id param.id && is_name param.name && is_filler param.filler

-- at most 255 (JVMS 4.11)
abbrev pub are_param_rows : List ParamRow → Bool
are_param_rows params = list_all is_param_row params && nat_le (length params) max_items

-- names are identifiers of at most 255 bytes (JLS 3.8), packages names joined by dots (JLS 7.4.1), modifiers in the order of the
-- layout
abbrev pub is_row : Row → Bool
is_row (AddClass row) =
    is_id row.class && is_dotted row.package && is_name row.name && are_words class_words row.words.texts && are_class_notes row.notes
is_row (AddField row) =
    is_id row.field && is_id row.owner && is_name row.name && are_words field_words row.words.texts && are_member_notes row.notes
is_row (AddMethod row) =
    is_id row.method && is_id row.decl && is_id row.owner && is_name row.name && is_kind row.kind && are_param_rows row.params
    && are_words kept_words row.words.texts && are_member_notes row.notes
is_row (AddOverride row) =
    is_id row.decl && is_id row.method && is_id row.owner && are_words kept_words row.words.texts && are_member_notes row.notes
is_row (AddConstructor row) =
    is_id row.method && is_id row.decl && is_id row.owner && are_param_rows row.params && are_words constructor_words row.words.texts
    && are_member_notes row.notes
is_row (Delete row) = is_id row.id
is_row (SetBody row) = is_id row.decl
is_row (SetValue row) = is_id row.field
is_row (RenameClass row) = is_id row.class && is_name row.name
is_row (RenameMethod row) = is_id row.method && is_name row.name
is_row (MoveClass row) = is_id row.class && is_dotted row.package
is_row (MoveMethod row) = is_id row.decl && is_id row.owner
is_row (ChangeSignature row) = is_id row.method && are_param_rows row.params
