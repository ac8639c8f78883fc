-- Worked rows: an operation that one spells, and the first bad words of others.
use Rattle.std.proofs.Common.{ℕ, [], ◌∷◌, Some, codes, refl, arith}
use Rattle.std.specs.Str.{is_utf8, chars}
use Rattle.mol_base.specs.Lexical.Front.{front, is_clean, token_kind}
use Rattle.mol_base.specs.Lexical.Numbers.{number, is_float, is_integer, is_digits}
use Rattle.mol_base.specs.declared.ident.Id.{Id}
use Rattle.mol_log_rows.specs.declared.rows.row.ParamRow.{ParamRow}
use Rattle.mol_log_rows.specs.declared.rows.row.Row.{Row}
use Rattle.mol_log_rows.specs.declared.rows.row.Row.TheVariants as rows
use Rattle.mol_values_types.specs.declared.iexpr.IExpr.TheVariants as exprs
use Rattle.mol_values_types.specs.declared.itype.IType.TheVariants as types
use Rattle.mol_log_words.proofs.BackTypes.{laws_type}
use Rattle.mol_log_words.proofs.FirstBad.{refused, longer}
use Rattle.mol_log_words.specs.FirstBad.{IsFirstBad}
use Rattle.mol_log_words.specs.Reader.{take}
use Rattle.mol_log_words.specs.TypeHeads.{any_type_head}
use Rattle.mol_log_words.specs.TypeReader.{type_name}
use Rattle.mol_log_words.specs.Types.{int, void, most_dimensions}
use Rattle.mol_log_words.specs.declared.type_role.TypeRole.TheVariants.{Value}
use Rattle.mol_log_expr.specs.Expressions.{literal}
use Rattle.mol_log.specs.entries.Spelling.{SpellsSetValue}
use Rattle.mol_log.specs.entries.Trees.{Ws, SpellsType, SpellsValue, Bad, here, later}
use Rattle.mol_log.proofs.entries_lemmas.SpelledForms.{set_value_kept}

abbrev base : ℕ → Id
base num = record { tag = []; num = num }

-- ---- a first value

abbrev ints : Ws
ints = codes "int" ∷ []

abbrev lit : Ws
lit = codes "lit" ∷ codes "1" ∷ []

lit_spelled : SpellsValue (exprs.Lit (codes "1")) lit
unfolding token_kind is_clean front number is_float is_integer is_digits is_utf8 chars lib.Utf8.encode
lit_spelled = literal refl refl

value_spelled : SpellsSetValue (record { field = base 4; ty = ints; value = Some lit })
    (record {
      field = base 4;
      ty = types.Int;
      value = Some (exprs.Lit (codes "1"));
      formed = set_value_kept ints (Some lit) types.Int (Some (exprs.Lit (codes "1"))) (int refl) lit_spelled;
    })
value_spelled = record { field = refl; ty = int refl; value = lit_spelled }

-- ---- the first bad word of the first bad list

abbrev nothing : Ws
nothing = codes "void" ∷ []

no_value : IsFirstBad (SpellsType Value) nothing 0
unfolding type_name take any_type_head
no_value = refused (SpellsType Value) (type_name Value most_dimensions) (laws_type Value) nothing nothing refl 0 refl

-- a word after the end of a type
two_types : IsFirstBad (SpellsType Value) (codes "int" ∷ ints) 1
unfolding type_name take any_type_head
two_types =
    longer (SpellsType Value) (type_name Value most_dimensions) (laws_type Value) (codes "int" ∷ ints) types.Int ints refl (omega arith) 1
    refl

-- a result may be `void`, the type of a parameter may not, whatever that of a later one is
abbrev param : ℕ → Ws → ParamRow
param num ty = record { id = base num; name = codes "p"; ty = ty; filler = codes "0" }

abbrev signature : Row
signature =
    rows.ChangeSignature (record {
      method = base 14;
      result = nothing;
      params = param 15 ints ∷ param 16 nothing ∷ param 17 [] ∷ [];
    })

second_parameter : Bad signature 0
second_parameter = later (types.Void, void refl) (later (types.Int, int refl) (here no_value))

-- a type goes before a first value
abbrev value_row : Row
value_row = rows.SetValue (record { field = base 4; ty = codes "int" ∷ ints; value = Some [] })

type_first : Bad value_row 1
type_first = here two_types
