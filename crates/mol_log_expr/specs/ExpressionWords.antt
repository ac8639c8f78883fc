-- The words of an expression.
use Rattle.std.specs.Prelude.{List, [], ◌∷◌, ◌++◌, codes, length}
use Rattle.mol_base.specs.Identity.{spelled_id}
use Rattle.mol_values_types.specs.declared.iexpr.Argument.{Argument, fold-Argument}
use Rattle.mol_values_types.specs.declared.iexpr.IExpr.{IExpr, fold-IExpr}
use Rattle.mol_values_types.specs.declared.iexpr.IExpr.TheOpen.{IExpr-F, Argument-F}
use Rattle.mol_log_words.specs.Words.{Word, numeral}
use Rattle.mol_log_words.specs.TypeWords.{type_words}

abbrev pub Ws : Type 0
Ws = List Word

abbrev pub joined : List Ws → Ws
joined [] = []
joined (ws ∷ more) = ws ++ joined more

-- a count, and so many parts
abbrev pub counted : List Ws → Ws
counted parts = numeral (length parts) ∷ joined parts

abbrev pub expr_step : IExpr-F Ws Ws → Ws
expr_step (IExpr-F.Lit text) = codes "lit" ∷ text ∷ []
expr_step IExpr-F.This = codes "this" ∷ []
expr_step (IExpr-F.Local number) = codes "local" ∷ numeral number ∷ []
expr_step (IExpr-F.Param id) = codes "param" ∷ spelled_id id ∷ []
expr_step (IExpr-F.Own id) = codes "own" ∷ spelled_id id ∷ []
expr_step (IExpr-F.StaticField id) = codes "sfield" ∷ spelled_id id ∷ []
expr_step (IExpr-F.Field id e) = codes "field" ∷ spelled_id id ∷ e
expr_step (IExpr-F.Call id args) = codes "call" ∷ spelled_id id ∷ counted args
expr_step (IExpr-F.StaticCall id args) = codes "scall" ∷ spelled_id id ∷ counted args
expr_step (IExpr-F.CallOn id e args) = codes "callon" ∷ spelled_id id ∷ (e ++ counted args)
expr_step (IExpr-F.SuperCall id args) = codes "super" ∷ spelled_id id ∷ counted args
expr_step (IExpr-F.New id args) = codes "newc" ∷ spelled_id id ∷ counted args
expr_step (IExpr-F.NewDefault id) = codes "newd" ∷ spelled_id id ∷ []
expr_step (IExpr-F.Cond test a b) = codes "cond" ∷ (test ++ (a ++ b))
expr_step (IExpr-F.OutsideName name) = codes "outname" ∷ name ∷ []
expr_step (IExpr-F.OutsideClass full) = codes "outclass" ∷ full ∷ []
expr_step (IExpr-F.OutsideField name e) = codes "outfield" ∷ name ∷ e
expr_step (IExpr-F.OutsideCall name args) = codes "outcall" ∷ name ∷ counted args
expr_step (IExpr-F.OutsideCallOn name e args) = codes "outcallon" ∷ name ∷ (e ++ counted args)
expr_step (IExpr-F.OutsideSuperCall name args) = codes "outsuper" ∷ name ∷ counted args
expr_step (IExpr-F.NewOutside ty args) = codes "newout" ∷ (type_words ty ++ counted args)
expr_step (IExpr-F.NewArray ty sizes pairs) = codes "newarr" ∷ (type_words ty ++ (counted sizes ++ numeral pairs ∷ []))
expr_step (IExpr-F.ArrayLit ty items) = codes "arrlit" ∷ (type_words ty ++ counted items)
expr_step (IExpr-F.Braces items) = codes "braces" ∷ counted items
expr_step (IExpr-F.Index e i) = codes "index" ∷ (e ++ i)
expr_step (IExpr-F.Unary op e) = codes "unary" ∷ op ∷ e
expr_step (IExpr-F.Post op e) = codes "post" ∷ op ∷ e
expr_step (IExpr-F.Binary op a b) = codes "binary" ∷ op ∷ (a ++ b)
expr_step (IExpr-F.Assign op a b) = codes "assign" ∷ op ∷ (a ++ b)
expr_step (IExpr-F.Cast ty e) = codes "cast" ∷ (type_words ty ++ e)
expr_step (IExpr-F.InstanceOf e ty) = codes "instanceof" ∷ (e ++ type_words ty)

abbrev pub argument_step : Argument-F Ws Ws → Ws
argument_step argument = spelled_id argument.param ∷ argument.value

abbrev pub expr_words : IExpr → Ws
expr_words = fold-IExpr Ws Ws expr_step argument_step

abbrev pub argument_words : Argument → Ws
argument_words = fold-Argument Ws Ws expr_step argument_step
