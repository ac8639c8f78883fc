-- Calls of worked programs, tidied. The identities are those of a base of the classes `:1` Cart, `:2` Desk and `:3` Till.
use Rattle.std.specs.Prelude.{◌≡◌, ℕ, List, [], ◌∷◌, map, codes, Option, None, Some}
use Rattle.std.proofs.Common.{refl, sym, ap, ◌∙◌}
use Rattle.mol_base.specs.declared.ident.Id.{Id}
use Rattle.mol_table_rules.specs.Tidy.{tidy_expr, tidy_argument, expr_step, argument_step, arguments_for}
use Rattle.mol_values_types.specs.declared.iexpr.Argument.{Argument}
use Rattle.mol_values_types.specs.declared.iexpr.IExpr.{IExpr}
use Rattle.mol_values_types.specs.declared.iexpr.IExpr.TheFolds.{fold-roll-IExpr, map-IExpr}
use Rattle.mol_values_types.specs.declared.iexpr.IExpr.TheOpen.{IExpr-F}
use Rattle.mol_values_types.specs.declared.iexpr.IExpr.TheVariants as exprs
use Rattle.mol_values_types.specs.declared.iexpr.IExpr.TheViews.{roll-IExpr}
use Rattle.mol_values_types.specs.declared.itype.IType.TheVariants as types
use Rattle.mol_values_types.specs.declared.param.Param.{Param}
use Rattle.mol_table_rules.proofs.Tidied.{argument_is, tidied-NewDefault}

abbrev pub base : ℕ → Id
base n = record { tag = []; num = n }

abbrev pub ann : ℕ → Id
ann n = record { tag = codes "ann"; num = n }

-- an `int` of the filler `0`
abbrev pub int_param : Id → List ℕ → Param
int_param id name = record { id = id; name = name; ty = types.Int; filler = codes "0" }

abbrev pub given : Id → IExpr → Argument
given id value = record { param = id; value = value }

abbrev pub lit : List ℕ → IExpr
lit text = exprs.Lit text

-- ---- how each part is tidied

module _ (present : Id → List Param) (bare : Id → Option Id) where
  abbrev pub tidied : IExpr → IExpr
  tidied = tidy_expr present bare

  abbrev arguments : List Argument → List Argument
  arguments args = map (tidy_argument present bare) args

  step : (x : IExpr-F IExpr Argument) → tidied (roll-IExpr x) ≡ expr_step present bare (map-IExpr _ _ _ _ tidied (tidy_argument present bare) x)
  step x = fold-roll-IExpr IExpr Argument (expr_step present bare) (argument_step present bare) x

  pub lit_is : (text : List ℕ) → tidied (lit text) ≡ lit text
  lit_is text = ap tidied (sym (exprs.rolls-Lit text)) ∙ step (IExpr-F.Lit text)

  param_is : (id : Id) → tidied (exprs.Param id) ≡ exprs.Param id
  param_is id = ap tidied (sym (exprs.rolls-Param id)) ∙ step (IExpr-F.Param id)

  local_is : (number : ℕ) → tidied (exprs.Local number) ≡ exprs.Local number
  local_is number = ap tidied (sym (exprs.rolls-Local number)) ∙ step (IExpr-F.Local number)

  scall_is : (method : Id) (args : List Argument) → tidied (exprs.StaticCall method args) ≡ exprs.StaticCall method (arguments_for (present method) (arguments args))
  scall_is method args = ap tidied (sym (exprs.rolls-StaticCall method args)) ∙ step (IExpr-F.StaticCall method args)

  callon_is : (method : Id) (e : IExpr) (args : List Argument) → tidied (exprs.CallOn method e args) ≡ exprs.CallOn method (tidied e) (arguments_for (present method) (arguments args))
  callon_is method e args = ap tidied (sym (exprs.rolls-CallOn method e args)) ∙ step (IExpr-F.CallOn method e args)

  given_is : (id : Id) (value new : IExpr) → tidied value ≡ new → tidy_argument present bare (given id value) ≡ given id new
  given_is id value new is = argument_is present bare (given id value) ∙ ap (given id) is

-- no class has a constructor of its own
abbrev pub none : Id → Option Id
none class = None

-- ---- `cart.total()` of a method `:11` without parameters, whatever it is called now

abbrev pub no_params : Id → List Param
no_params method = []

pub total : tidied no_params none (exprs.CallOn (base 11) (exprs.Param (base 19)) []) ≡ exprs.CallOn (base 11) (exprs.Param (base 19)) []
total = callon_is no_params none (base 11) (exprs.Param (base 19)) [] ∙ ap (λ e. exprs.CallOn (base 11) e []) (param_is no_params none (base 19))

-- ---- `cart.add(2, 3)` of the method `:14` with `:15` amount and `:16` times, once its parameters are times, amount and a new one

abbrev pub changed : Id → List Param
changed method = int_param (base 16) (codes "times") ∷ int_param (base 15) (codes "amount") ∷ int_param (ann 1) (codes "bonus") ∷ []

pub add : tidied changed none (exprs.CallOn (base 14) (exprs.Param (base 19)) (given (base 15) (lit (codes "2")) ∷ given (base 16) (lit (codes "3")) ∷ []))
    ≡ exprs.CallOn (base 14) (exprs.Param (base 19)) (given (base 16) (lit (codes "3")) ∷ given (base 15) (lit (codes "2")) ∷ given (ann 1) (lit (codes "0")) ∷ [])
add =
    callon_is changed none (base 14) (exprs.Param (base 19)) _
    ∙ (λ i. exprs.CallOn (base 14) (param_is changed none (base 19) i)
    (arguments_for (changed (base 14)) (given_is changed none (base 15) (lit (codes "2")) _ (lit_is changed none (codes "2")) i ∷ given_is changed none (base 16) (lit (codes "3")) _ (lit_is changed none (codes "3")) i ∷ [])))

-- ---- `cart.add(1, Cart.tax(2))` once `:14` has amount alone: the argument that went held a call

abbrev pub shorter : Id → List Param
shorter method = int_param (base 15) (codes "amount") ∷ []

pub add_shorter : tidied shorter none (exprs.CallOn (base 14) (exprs.Param (base 19))
    (given (base 15) (lit (codes "1")) ∷ given (base 16) (exprs.StaticCall (base 12) (given (base 13) (lit (codes "2")) ∷ [])) ∷ []))
    ≡ exprs.CallOn (base 14) (exprs.Param (base 19)) (given (base 15) (lit (codes "1")) ∷ [])
add_shorter =
    callon_is shorter none (base 14) (exprs.Param (base 19)) _
    ∙ (λ i. exprs.CallOn (base 14) (param_is shorter none (base 19) i)
    (arguments_for (shorter (base 14)) (given_is shorter none (base 15) (lit (codes "1")) _ (lit_is shorter none (codes "1")) i
    ∷ given_is shorter none (base 16) (exprs.StaticCall (base 12) (given (base 13) (lit (codes "2")) ∷ [])) _ refl i ∷ [])))

-- ---- `tax(Desk)` of the static method `:12` with `:13` amount, where `Desk` is the first local

abbrev pub amount : Id → List Param
amount method = int_param (base 13) (codes "amount") ∷ []

pub tax : tidied amount none (exprs.StaticCall (base 12) (given (base 13) (exprs.Local 0) ∷ [])) ≡ exprs.StaticCall (base 12) (given (base 13) (exprs.Local 0) ∷ [])
tax =
    scall_is amount none (base 12) _
    ∙ (λ i. exprs.StaticCall (base 12) (arguments_for (amount (base 12)) (given_is amount none (base 13) (exprs.Local 0) _ (local_is amount none 0) i ∷ [])))

-- ---- `new Cart()` by the default constructor, before and after the class has a constructor `ann:1` without parameters

abbrev one_constructor : Id → Option Id
one_constructor class = Some (ann 1)

by_default : tidied no_params none (exprs.NewDefault (base 1)) ≡ exprs.NewDefault (base 1)
by_default = tidied-NewDefault no_params none (base 1)

by_constructor : tidied no_params one_constructor (exprs.NewDefault (base 1)) ≡ exprs.New (ann 1) []
by_constructor = tidied-NewDefault no_params one_constructor (base 1)
