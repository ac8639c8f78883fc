-- What the type of an operation keeps of its values: the forms of the slots that they go to. That no parameter stands twice is
-- part of the condition.
use Rattle.std.specs.Prelude.{ℕ, Bool, true, false, ◌&&◌, not, nat_le, List, [], ◌∷◌, length, Option}
use Rattle.std.specs.List.{list_all}
use Rattle.mol_base.specs.Limits.{max_items}
use Rattle.mol_base.specs.Modifiers.{constructor_words}
use Rattle.mol_base.specs.declared.ident.Id.{Id}
use Rattle.mol_table_rules.specs.Forms.{is_param, is_formed}
use Rattle.mol_table_rules.specs.TypeForms.{is_result}
use Rattle.mol_values_types.specs.Words.{are_words}
use Rattle.mol_values_types.specs.declared.iblock.IBody.{IBody}
use Rattle.mol_values_types.specs.declared.iexpr.IExpr.{IExpr}
use Rattle.mol_values_types.specs.declared.itype.IType.{IType}
use Rattle.mol_values_types.specs.declared.kind.MethodKind.{MethodKind}
use Rattle.mol_values_types.specs.declared.kind.MethodKind.TheVariants.{Instance, Constructor}
use Rattle.mol_values_types.specs.declared.known.Known.{Known}
use Rattle.mol_values_types.specs.declared.known.Known.TheVariants as knowns
use Rattle.mol_values_types.specs.declared.param.Param.{Param}
use Rattle.mol_values_types.specs.declared.value.Value.{Value}
use Rattle.mol_values_types.specs.declared.value.Value.TheVariants as values
use Rattle.mol_values_types.specs.declared.words.Notes.{Notes}
use Rattle.mol_values_types.specs.declared.words.Words.{Words}

-- each may be a value of what is known so
abbrev pub are_formed : Known → List Value → Bool
are_formed known values = list_all (is_formed known) values

-- at most 255 parameters, each of its form
abbrev pub may_be_params : List Param → Bool
may_be_params params = list_all is_param params && nat_le (length params) max_items

abbrev pub is_constructor : MethodKind → Bool
is_constructor Constructor = true
is_constructor kind = false

-- ---- what each operation keeps, of its fields in their order

abbrev pub add_class_formed : List ℕ → List ℕ → Option IType → Words → Notes → Bool
add_class_formed «package» name parent words notes =
    are_formed knowns.Class
    (values.Package «package» ∷ values.Name name ∷ values.Super parent ∷ values.Words words ∷ values.Notes notes ∷ [])

abbrev pub add_field_formed : List ℕ → Words → Notes → IType → Option IExpr → Bool
add_field_formed name words notes ty value =
    are_formed knowns.Field (values.Name name ∷ values.Words words ∷ values.Notes notes ∷ values.Value ty value ∷ [])

-- The forms of an instance method are those of a static one.
abbrev pub add_method_formed : List ℕ → MethodKind → IType → List Param → Words → Notes → Option IBody → Bool
add_method_formed name kind result params words notes body =
    not (is_constructor kind) && may_be_params params
    && are_formed (knowns.Method Instance)
    (values.Name name ∷ values.Result result ∷ values.Words words ∷ values.Notes notes ∷ values.Body body ∷ [])

abbrev pub add_override_formed : Id → Words → Notes → Option IBody → Bool
add_override_formed method words notes body =
    are_formed (knowns.Decl method) (values.Words words ∷ values.Notes notes ∷ values.Body body ∷ [])

-- A constructor has fewer modifiers than other declarations (JLS 8.8.3).
abbrev pub add_constructor_formed : Id → List Param → Words → Notes → Option IBody → Bool
add_constructor_formed method params words notes body =
    may_be_params params && are_words constructor_words words.texts
    && are_formed (knowns.Decl method) (values.Notes notes ∷ values.Body body ∷ [])

abbrev pub set_body_formed : Id → Option IBody → Bool
set_body_formed decl body = are_formed (knowns.Decl decl) (values.Body body ∷ [])

abbrev pub set_value_formed : IType → Option IExpr → Bool
set_value_formed ty value = are_formed knowns.Field (values.Value ty value ∷ [])

abbrev pub rename_class_formed : List ℕ → Bool
rename_class_formed name = are_formed knowns.Class (values.Name name ∷ [])

abbrev pub rename_method_formed : List ℕ → Bool
rename_method_formed name = are_formed (knowns.Method Instance) (values.Name name ∷ [])

abbrev pub move_class_formed : List ℕ → Bool
move_class_formed «package» = are_formed knowns.Class (values.Package «package» ∷ [])

abbrev pub change_signature_formed : IType → List Param → Bool
change_signature_formed result params = may_be_params params && is_result result
