-- Worked examples of forms and of tidying.
use Rattle.std.specs.Prelude.{◌≡◌, ℕ, true, false, List, [], ◌∷◌, codes, None, refl}
use Rattle.mol_base.specs.Modifiers.{class_words, field_words, kept_words, constructor_words}
use Rattle.mol_base.specs.declared.ident.Id.{Id}
use Rattle.mol_table_rules.specs.Forms.{differ}
use Rattle.mol_table_rules.specs.Mentions.{a_param}
use Rattle.mol_table_rules.specs.Rules.{fills}
use Rattle.mol_table_rules.specs.Tidy.{arguments_for, filler_expr}
use Rattle.mol_values_types.specs.Words.{are_words}
use Rattle.mol_values_types.specs.declared.iexpr.Argument.{Argument}
use Rattle.mol_values_types.specs.declared.iexpr.IExpr.{IExpr}
use Rattle.mol_values_types.specs.declared.iexpr.IExpr.TheVariants as exprs
use Rattle.mol_values_types.specs.declared.itype.IType.TheVariants as types
use Rattle.mol_values_types.specs.declared.param.Param.{Param}

-- an identity of the base
abbrev base : ℕ → Id
base n = record { tag = []; num = n }

abbrev ann : ℕ → Id
ann n = record { tag = codes "ann"; num = n }

abbrev param : Id → Param
param id = record { id = id; name = codes "p"; ty = types.Int; filler = codes "0" }

abbrev argument : Id → IExpr → Argument
argument id value = record { param = id; value = value }

-- ---- modifiers

unknown_word : are_words class_words (codes "banana" ∷ []) ≡ false
unknown_word = refl

two_access_words : are_words field_words (codes "public" ∷ codes "private" ∷ []) ≡ false
two_access_words = refl

out_of_order : are_words class_words (codes "final" ∷ codes "public" ∷ []) ≡ false
out_of_order = refl

twice : are_words class_words (codes "final" ∷ codes "final" ∷ []) ≡ false
twice = refl

in_layout_order : are_words kept_words (codes "@Override" ∷ codes "public" ∷ codes "final" ∷ []) ≡ true
in_layout_order = refl

static_apart : are_words kept_words (codes "static" ∷ []) ≡ false
static_apart = refl

final_constructor : are_words constructor_words (codes "final" ∷ []) ≡ false
final_constructor = refl

-- ---- parameters

parameter_twice : differ (base 1 ∷ base 2 ∷ base 1 ∷ []) ≡ false
parameter_twice = refl

-- ---- references

unknown_param : fills (base 1) a_param None ≡ true
unknown_param = refl

-- ---- tidying

-- the parameters of `:14` are now `:16`, `:15` and a new one with the filler `0`
abbrev present : Id → List Param
present id = param (base 16) ∷ param (base 15) ∷ param (ann 1) ∷ []

-- what was recorded as `(2, 3)` is `(3, 2, 0)`
reordered : arguments_for (present (base 14)) (argument (base 15) (exprs.Local 2) ∷ argument (base 16) (exprs.Local 3) ∷ [])
    ≡ argument (base 16) (exprs.Local 3) ∷ argument (base 15) (exprs.Local 2) ∷ argument (ann 1) (exprs.Lit (codes "0")) ∷ []
reordered = refl

-- of two arguments for one parameter the first is taken, and that of a parameter that is gone goes
first_taken : arguments_for (param (base 15) ∷ []) (argument (base 13) (exprs.Local 1) ∷ argument (base 15) (exprs.Local 2) ∷ argument (base 15) (exprs.Local 3) ∷ [])
    ≡ argument (base 15) (exprs.Local 2) ∷ []
first_taken = refl

-- a filler `-7` is the unary minus of the literal `7`
negative_filler : filler_expr (codes "-7") ≡ exprs.Unary (codes "-") (exprs.Lit (codes "7"))
negative_filler = refl
