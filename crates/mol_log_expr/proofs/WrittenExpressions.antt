-- The written words of an expression are in the form.
use Rattle.std.proofs.Common.{◌≡◌, ℕ, List, [], ◌∷◌, ◌++◌, map, length, codes, sym, ap, subst, ◌∙◌, append_assoc}
use Rattle.std.proofs.lemmas.List.{length-map}
use Rattle.mol_base.specs.Identity.{spelled_id}
use Rattle.mol_base.specs.declared.ident.Id.{Id}
use Rattle.mol_values_types.specs.declared.iexpr.Argument.{Argument}
use Rattle.mol_values_types.specs.declared.iexpr.IExpr.{IExpr}
use Rattle.mol_values_types.specs.declared.iexpr.IExpr.TheFolds.{fold-roll-IExpr, fold-roll-Argument}
use Rattle.mol_values_types.specs.declared.iexpr.IExpr.TheOpen.{IExpr-F}
use Rattle.mol_values_types.specs.declared.iexpr.IExpr.TheVariants as exprs
use Rattle.mol_values_types.specs.declared.itype.IType.{IType}
use Rattle.mol_log_words.specs.Words.{Word, numeral}
use Rattle.mol_log_expr.specs.Expressions.{IsExpr, literal, this, local, param, own, static_field, new_default, outside_name}
use Rattle.mol_log_expr.specs.Expressions.{outside_class, call, static_call, super_call, new, call_on, outside_call, outside_super}
use Rattle.mol_log_expr.specs.Expressions.{outside_call_on, new_outside, new_array, array_literal, braces, index, unary, post, binary}
use Rattle.mol_log_expr.specs.Expressions.{assign, cond, field, outside_field, cast, instance_of, AreArguments, no_arguments}
use Rattle.mol_log_expr.specs.Expressions.{more_arguments, AreExprs, no_exprs, more_exprs, argument_of}
use Rattle.mol_log_words.specs.Words.{IsCount}
use Rattle.mol_log_expr.specs.ExpressionWords.{Ws, expr_words, argument_words, expr_step, argument_step, joined}
use Rattle.mol_log_words.specs.TypeWords.{type_words}
use Rattle.mol_log_words.specs.declared.bounds.Bounds.{Bounds}
use Rattle.mol_log_words.specs.declared.bounds.Bounds.TheVariants.{Few, Sizes, Any}
use Rattle.mol_log_expr.specs.declared.expr_role.ExprRole.{ExprRole}
use Rattle.mol_log_words.proofs.Numerals.{counts_numeral}
use Rattle.mol_log_words.proofs.Single.{id_again}
use Rattle.mol_log_words.proofs.WrittenTypes.{written_type}

words_lit : (t : Word) → expr_words (exprs.Lit t) ≡ codes "lit" ∷ t ∷ []
words_lit t = ap expr_words (sym (exprs.rolls-Lit t))
    ∙ fold-roll-IExpr Ws Ws expr_step argument_step (IExpr-F.Lit t)

words_local : (n : ℕ) → expr_words (exprs.Local n) ≡ codes "local" ∷ numeral n ∷ []
words_local n = ap expr_words (sym (exprs.rolls-Local n))
    ∙ fold-roll-IExpr Ws Ws expr_step argument_step (IExpr-F.Local n)

words_this : expr_words exprs.This ≡ codes "this" ∷ []
words_this = ap expr_words (sym exprs.rolls-This)
    ∙ fold-roll-IExpr Ws Ws expr_step argument_step IExpr-F.This

words_param : (id : Id) → expr_words (exprs.Param id) ≡ codes "param" ∷ spelled_id id ∷ []
words_param id = ap expr_words (sym (exprs.rolls-Param id))
    ∙ fold-roll-IExpr Ws Ws expr_step argument_step (IExpr-F.Param id)

words_own : (id : Id) → expr_words (exprs.Own id) ≡ codes "own" ∷ spelled_id id ∷ []
words_own id = ap expr_words (sym (exprs.rolls-Own id))
    ∙ fold-roll-IExpr Ws Ws expr_step argument_step (IExpr-F.Own id)

words_static_field : (id : Id) → expr_words (exprs.StaticField id) ≡ codes "sfield" ∷ spelled_id id ∷ []
words_static_field id = ap expr_words (sym (exprs.rolls-StaticField id))
    ∙ fold-roll-IExpr Ws Ws expr_step argument_step (IExpr-F.StaticField id)

words_new_default : (id : Id) → expr_words (exprs.NewDefault id) ≡ codes "newd" ∷ spelled_id id ∷ []
words_new_default id = ap expr_words (sym (exprs.rolls-NewDefault id))
    ∙ fold-roll-IExpr Ws Ws expr_step argument_step (IExpr-F.NewDefault id)

words_outside_name : (t : Word) → expr_words (exprs.OutsideName t) ≡ codes "outname" ∷ t ∷ []
words_outside_name t = ap expr_words (sym (exprs.rolls-OutsideName t))
    ∙ fold-roll-IExpr Ws Ws expr_step argument_step (IExpr-F.OutsideName t)

words_outside_class : (t : Word) → expr_words (exprs.OutsideClass t) ≡ codes "outclass" ∷ t ∷ []
words_outside_class t = ap expr_words (sym (exprs.rolls-OutsideClass t))
    ∙ fold-roll-IExpr Ws Ws expr_step argument_step (IExpr-F.OutsideClass t)

words_field : (id : Id) (e : IExpr) → expr_words (exprs.Field id e) ≡ codes "field" ∷ spelled_id id ∷ expr_words e
words_field id e = ap expr_words (sym (exprs.rolls-Field id e))
    ∙ fold-roll-IExpr Ws Ws expr_step argument_step (IExpr-F.Field id e)

words_call : (id : Id) (args : List Argument) → expr_words (exprs.Call id args) ≡ codes "call" ∷ spelled_id id ∷ numeral
    (length (map argument_words args)) ∷ joined (map argument_words args)
words_call id args = ap expr_words (sym (exprs.rolls-Call id args))
    ∙ fold-roll-IExpr Ws Ws expr_step argument_step (IExpr-F.Call id args)

words_static_call : (id : Id) (args : List Argument) → expr_words (exprs.StaticCall id args) ≡ codes "scall" ∷ spelled_id id ∷ numeral
    (length (map argument_words args)) ∷ joined (map argument_words args)
words_static_call id args = ap expr_words (sym (exprs.rolls-StaticCall id args))
    ∙ fold-roll-IExpr Ws Ws expr_step argument_step (IExpr-F.StaticCall id args)

words_super_call : (id : Id) (args : List Argument) → expr_words (exprs.SuperCall id args) ≡ codes "super" ∷ spelled_id id ∷ numeral
    (length (map argument_words args)) ∷ joined (map argument_words args)
words_super_call id args = ap expr_words (sym (exprs.rolls-SuperCall id args))
    ∙ fold-roll-IExpr Ws Ws expr_step argument_step (IExpr-F.SuperCall id args)

words_new : (id : Id) (args : List Argument) → expr_words (exprs.New id args) ≡ codes "newc" ∷ spelled_id id ∷ numeral
    (length (map argument_words args)) ∷ joined (map argument_words args)
words_new id args = ap expr_words (sym (exprs.rolls-New id args))
    ∙ fold-roll-IExpr Ws Ws expr_step argument_step (IExpr-F.New id args)

words_call_on : (id : Id) (e : IExpr) (args : List Argument) → expr_words (exprs.CallOn id e args) ≡ codes "callon" ∷ spelled_id id ∷
    (expr_words e ++ numeral (length (map argument_words args)) ∷ joined (map argument_words args))
words_call_on id e args = ap expr_words (sym (exprs.rolls-CallOn id e args))
    ∙ fold-roll-IExpr Ws Ws expr_step argument_step (IExpr-F.CallOn id e args)

words_cond : (c a b : IExpr) → expr_words (exprs.Cond c a b) ≡ codes "cond" ∷ (expr_words c ++ (expr_words a ++ expr_words b))
words_cond c a b = ap expr_words (sym (exprs.rolls-Cond c a b))
    ∙ fold-roll-IExpr Ws Ws expr_step argument_step (IExpr-F.Cond c a b)

words_outside_field : (t : Word) (e : IExpr) → expr_words (exprs.OutsideField t e) ≡ codes "outfield" ∷ t ∷ expr_words e
words_outside_field t e = ap expr_words (sym (exprs.rolls-OutsideField t e))
    ∙ fold-roll-IExpr Ws Ws expr_step argument_step (IExpr-F.OutsideField t e)

words_outside_call : (t : Word) (es : List IExpr)
    → expr_words (exprs.OutsideCall t es) ≡ codes "outcall" ∷ t ∷ numeral (length (map expr_words es)) ∷ joined (map expr_words es)
words_outside_call t es = ap expr_words (sym (exprs.rolls-OutsideCall t es))
    ∙ fold-roll-IExpr Ws Ws expr_step argument_step (IExpr-F.OutsideCall t es)

words_outside_super_call : (t : Word) (es : List IExpr)
    → expr_words (exprs.OutsideSuperCall t es) ≡ codes "outsuper" ∷ t ∷ numeral (length (map expr_words es)) ∷ joined (map expr_words es)
words_outside_super_call t es = ap expr_words (sym (exprs.rolls-OutsideSuperCall t es))
    ∙ fold-roll-IExpr Ws Ws expr_step argument_step (IExpr-F.OutsideSuperCall t es)

words_outside_call_on : (t : Word) (e : IExpr) (es : List IExpr) → expr_words (exprs.OutsideCallOn t e es) ≡ codes "outcallon" ∷ t ∷
    (expr_words e ++ numeral (length (map expr_words es)) ∷ joined (map expr_words es))
words_outside_call_on t e es = ap expr_words (sym (exprs.rolls-OutsideCallOn t e es))
    ∙ fold-roll-IExpr Ws Ws expr_step argument_step (IExpr-F.OutsideCallOn t e es)

words_new_outside : (t : IType) (es : List IExpr) → expr_words (exprs.NewOutside t es) ≡ codes "newout" ∷
    (type_words t ++ numeral (length (map expr_words es)) ∷ joined (map expr_words es))
words_new_outside t es = ap expr_words (sym (exprs.rolls-NewOutside t es))
    ∙ fold-roll-IExpr Ws Ws expr_step argument_step (IExpr-F.NewOutside t es)

words_new_array : (t : IType) (es : List IExpr) (n : ℕ) → expr_words (exprs.NewArray t es n) ≡ codes "newarr" ∷
    (type_words t ++ ((numeral (length (map expr_words es)) ∷ joined (map expr_words es)) ++ numeral n ∷ []))
words_new_array t es n = ap expr_words (sym (exprs.rolls-NewArray t es n))
    ∙ fold-roll-IExpr Ws Ws expr_step argument_step (IExpr-F.NewArray t es n)

words_array_lit : (t : IType) (es : List IExpr) → expr_words (exprs.ArrayLit t es) ≡ codes "arrlit" ∷
    (type_words t ++ numeral (length (map expr_words es)) ∷ joined (map expr_words es))
words_array_lit t es = ap expr_words (sym (exprs.rolls-ArrayLit t es))
    ∙ fold-roll-IExpr Ws Ws expr_step argument_step (IExpr-F.ArrayLit t es)

words_braces : (es : List IExpr)
    → expr_words (exprs.Braces es) ≡ codes "braces" ∷ numeral (length (map expr_words es)) ∷ joined (map expr_words es)
words_braces es = ap expr_words (sym (exprs.rolls-Braces es))
    ∙ fold-roll-IExpr Ws Ws expr_step argument_step (IExpr-F.Braces es)

words_index : (a i : IExpr) → expr_words (exprs.Index a i) ≡ codes "index" ∷ (expr_words a ++ expr_words i)
words_index a i = ap expr_words (sym (exprs.rolls-Index a i))
    ∙ fold-roll-IExpr Ws Ws expr_step argument_step (IExpr-F.Index a i)

words_unary : (op : Word) (e : IExpr) → expr_words (exprs.Unary op e) ≡ codes "unary" ∷ op ∷ expr_words e
words_unary op e = ap expr_words (sym (exprs.rolls-Unary op e))
    ∙ fold-roll-IExpr Ws Ws expr_step argument_step (IExpr-F.Unary op e)

words_post : (op : Word) (e : IExpr) → expr_words (exprs.Post op e) ≡ codes "post" ∷ op ∷ expr_words e
words_post op e = ap expr_words (sym (exprs.rolls-Post op e))
    ∙ fold-roll-IExpr Ws Ws expr_step argument_step (IExpr-F.Post op e)

words_binary : (op : Word) (a b : IExpr) → expr_words (exprs.Binary op a b) ≡ codes "binary" ∷ op ∷ (expr_words a ++ expr_words b)
words_binary op a b = ap expr_words (sym (exprs.rolls-Binary op a b))
    ∙ fold-roll-IExpr Ws Ws expr_step argument_step (IExpr-F.Binary op a b)

words_assign : (op : Word) (a b : IExpr) → expr_words (exprs.Assign op a b) ≡ codes "assign" ∷ op ∷ (expr_words a ++ expr_words b)
words_assign op a b = ap expr_words (sym (exprs.rolls-Assign op a b))
    ∙ fold-roll-IExpr Ws Ws expr_step argument_step (IExpr-F.Assign op a b)

words_cast : (t : IType) (e : IExpr) → expr_words (exprs.Cast t e) ≡ codes "cast" ∷ (type_words t ++ expr_words e)
words_cast t e = ap expr_words (sym (exprs.rolls-Cast t e))
    ∙ fold-roll-IExpr Ws Ws expr_step argument_step (IExpr-F.Cast t e)

words_instance_of : (e : IExpr) (t : IType) → expr_words (exprs.InstanceOf e t) ≡ codes "instanceof" ∷ (expr_words e ++ type_words t)
words_instance_of e t = ap expr_words (sym (exprs.rolls-InstanceOf e t))
    ∙ fold-roll-IExpr Ws Ws expr_step argument_step (IExpr-F.InstanceOf e t)

words_argument : (id : Id) (e : IExpr) → argument_words (argument_of id e) ≡ spelled_id id ∷ expr_words e
words_argument id e = fold-roll-Argument Ws Ws expr_step argument_step (record { param = id; value = e })

-- what is added for an `instanceof` are its words
pub added_instance_of : (old mid last : Ws) (whole e f : IExpr) (t : IType) → whole ≡ exprs.InstanceOf e t → f ≡ e
    → mid ≡ old ++ (codes "instanceof" ∷ expr_words f) → last ≡ mid ++ type_words t → last ≡ old ++ expr_words whole
added_instance_of old mid last whole e f t is same begun ended =
    ended ∙ ap (λ (ws : Ws). ws ++ type_words t) (begun ∙ ap (λ (g : IExpr). old ++ (codes "instanceof" ∷ expr_words g)) same)
    ∙ append_assoc old (codes "instanceof" ∷ expr_words e) (type_words t)
    ∙ ap (λ (ws : Ws). old ++ ws) (sym (ap expr_words is ∙ words_instance_of e t))

-- a list is counted by the word of its length
pub recount : (bounds : Bounds) (w : Word) (n : ℕ) → IsCount bounds w n → IsCount bounds (numeral n) n
recount bounds w n c = (counts_numeral n, c.1)

mutual
  pub written : {r : ExprRole} {d : ℕ} {s : List ℕ} {e : IExpr} {ts : List Word} → IsExpr r d s e ts → IsExpr r d s e (expr_words e)
  written (literal a t) = rw words_lit (literal a t)
  written (this a) = rw words_this (this a)
  written (local {n = n} a c h) = rw words_local (local a (counts_numeral n) h)
  written (param {id = id} {w = w} a i) = rw words_param (param a (id_again w id i))
  written (own {id = id} {w = w} a i) = rw words_own (own a (id_again w id i))
  written (static_field {id = id} {w = w} a i) = rw words_static_field (static_field a (id_again w id i))
  written (new_default {id = id} {w = w} a i) = rw words_new_default (new_default a (id_again w id i))
  written (outside_name a t) = rw words_outside_name (outside_name a t)
  written (outside_class a t) = rw words_outside_class (outside_class a t)
  written (call {id = id} {w = w} {k = k} {args = args} a i c list) = rw (words_call, length-map args argument_words)
      (call a (id_again w id i) (recount Few k (length args) c) (written_arguments list))
  written (static_call {id = id} {w = w} {k = k} {args = args} a i c list) = rw (words_static_call, length-map args argument_words)
      (static_call a (id_again w id i) (recount Few k (length args) c) (written_arguments list))
  written (super_call {id = id} {w = w} {k = k} {args = args} a i c list) = rw (words_super_call, length-map args argument_words)
      (super_call a (id_again w id i) (recount Few k (length args) c) (written_arguments list))
  written (new {id = id} {w = w} {k = k} {args = args} a i c list) = rw (words_new, length-map args argument_words)
      (new a (id_again w id i) (recount Few k (length args) c) (written_arguments list))
  written (call_on {id = id} {w = w} k {args = args} a i x c list) =
      rw (words_call_on, length-map args argument_words)
      (call_on (numeral (length args)) a (id_again w id i) (written x) (recount Few k (length args) c) (written_arguments list))
  written (outside_call {k = k} {es = es} a t c list) = rw (words_outside_call, length-map es expr_words)
      (outside_call a t (recount Few k (length es) c) (written_exprs list))
  written (outside_super {k = k} {es = es} a t c list) = rw (words_outside_super_call, length-map es expr_words)
      (outside_super a t (recount Few k (length es) c) (written_exprs list))
  written (outside_call_on k {es = es} a t x c list) =
      rw (words_outside_call_on, length-map es expr_words)
      (outside_call_on (numeral (length es)) a t (written x) (recount Few k (length es) c) (written_exprs list))
  written (new_outside k {es = es} a t c list) =
      rw (words_new_outside, length-map es expr_words)
      (new_outside (numeral (length es)) a (written_type t) (recount Few k (length es) c) (written_exprs list))
  written (new_array k {es = es} {n = n} p a t c list q h) =
      rw (words_new_array, length-map es expr_words)
      (new_array (numeral (length es)) (numeral n) a (written_type t) (recount Sizes k (length es) c) (written_exprs list)
      (counts_numeral n) h)
  written (array_literal k {es = es} a t c list) =
      rw (words_array_lit, length-map es expr_words)
      (array_literal (numeral (length es)) a (written_type t) (recount Any k (length es) c) (written_exprs list))
  written (braces {k = k} {es = es} a c list) =
      rw (words_braces, length-map es expr_words) (braces a (recount Any k (length es) c) (written_exprs list))
  written (index a x y) = rw words_index (index a (written x) (written y))
  written (unary a o x) = rw words_unary (unary a o (written x))
  written (post a o x) = rw words_post (post a o (written x))
  written (binary a o x y) = rw words_binary (binary a o (written x) (written y))
  written (assign a o x y) = rw words_assign (assign a o (written x) (written y))
  written (cond a x y z) = rw words_cond (cond a (written x) (written y) (written z))
  written (field {id = id} {w = w} a i x) = rw words_field (field a (id_again w id i) (written x))
  written (outside_field a t x) = rw words_outside_field (outside_field a t (written x))
  written (cast a t x) = rw words_cast (cast a (written_type t) (written x))
  written (instance_of a x t) = rw words_instance_of (instance_of a (written x) (written_type t))

  pub written_arguments : {d : ℕ} {s : List ℕ} {args : List Argument} {ts : List Word} → AreArguments d s args ts
      → AreArguments d s args (joined (map argument_words args))
  written_arguments no_arguments = no_arguments
  written_arguments (more_arguments {id = id} {w = w} {e = e} i x list) =
      rw words_argument (more_arguments (id_again w id i) (written x) (written_arguments list))

  pub written_exprs : {r : ExprRole} {d : ℕ} {s : List ℕ} {es : List IExpr} {ts : List Word} → AreExprs r d s es ts
      → AreExprs r d s es (joined (map expr_words es))
  written_exprs no_exprs = no_exprs
  written_exprs (more_exprs x list) = more_exprs (written x) (written_exprs list)

pub form_of : (e : IExpr) (words : List Word) → words ≡ expr_words e → (r : ExprRole) (d : ℕ) (s : List ℕ) (ts : List Word)
    → IsExpr r d s e ts → IsExpr r d s e words
form_of e words same r d s ts h = subst (λ ws. IsExpr r d s e ws) (sym same) (written h)
