-- What is in the form of an expression is read.
use Rattle.std.proofs.Common.{◌≡◌, ℕ, suc, ◌<◌, true, List, [], ◌∷◌, ◌++◌, length, Ok, refl, append_assoc, arith, nat_lt}
use Rattle.std.proofs.lemmas.List.{append-nil}
use Rattle.std.proofs.lemmas.Bool.Decides.{nat_tests}
use Rattle.mol_values_types.specs.declared.iexpr.Argument.{Argument}
use Rattle.mol_values_types.specs.declared.iexpr.IExpr.{IExpr}
use Rattle.mol_log_words.specs.Words.{Word, within, count_fits}
use Rattle.mol_log_expr.specs.Scope.{has, any}
use Rattle.mol_log_expr.specs.Expressions.{IsExpr, literal, this, local, param, own, static_field, new_default, outside_name}
use Rattle.mol_log_expr.specs.Expressions.{outside_class, call, static_call, super_call, new, call_on, outside_call, outside_super}
use Rattle.mol_log_expr.specs.Expressions.{outside_call_on, new_outside, new_array, array_literal, braces, index, unary, post, binary}
use Rattle.mol_log_expr.specs.Expressions.{assign, cond, field, outside_field, cast, instance_of, AreArguments, no_arguments}
use Rattle.mol_log_expr.specs.Expressions.{more_arguments, AreExprs, no_exprs, more_exprs, argument_of}
use Rattle.mol_log_expr.specs.ExpressionHeads.{any_head, leaf_head, call_head, outside_head, items_head, operator_head, part_head}
use Rattle.mol_log_expr.specs.ExpressionReader.{argument, expr}
use Rattle.mol_log_words.specs.Reader.{take, repeat}
use Rattle.mol_log_words.specs.declared.bounds.Bounds.{Bounds}
use Rattle.mol_log_words.specs.declared.bounds.Bounds.TheVariants.{Few, Sizes, Any}
use Rattle.mol_log_expr.specs.declared.expr_role.ExprRole.{ExprRole}
use Rattle.mol_log_expr.specs.declared.expr_role.ExprRole.TheVariants as role
use Rattle.mol_log_words.proofs.BackTypes.{back_type}
use Rattle.mol_log_words.proofs.FirstBad.{Laws}
use Rattle.mol_log_words.proofs.Repeats.{list_fits}
use Rattle.mol_log_expr.proofs.SoundExpressions.{sound_expr}

pub tall : {r : ExprRole} {d : ℕ} {s : List ℕ} {e : IExpr} {ts : List Word} → IsExpr r d s e ts → 0 < d
tall (literal a0 a1) = omega arith
tall (this a0) = omega arith
tall (local a0 a1 a2) = omega arith
tall (param a0 a1) = omega arith
tall (own a0 a1) = omega arith
tall (static_field a0 a1) = omega arith
tall (new_default a0 a1) = omega arith
tall (outside_name a0 a1) = omega arith
tall (outside_class a0 a1) = omega arith
tall (call a0 a1 a2 a3) = omega arith
tall (static_call a0 a1 a2 a3) = omega arith
tall (super_call a0 a1 a2 a3) = omega arith
tall (new a0 a1 a2 a3) = omega arith
tall (call_on k a0 a1 a2 a3 a4) = omega arith
tall (outside_call a0 a1 a2 a3) = omega arith
tall (outside_super a0 a1 a2 a3) = omega arith
tall (outside_call_on k a0 a1 a2 a3 a4) = omega arith
tall (new_outside k a0 a1 a2 a3) = omega arith
tall (new_array k n a0 a1 a2 a3 a4 a5) = omega arith
tall (array_literal k a0 a1 a2 a3) = omega arith
tall (braces a0 a1 a2) = omega arith
tall (index a0 a1 a2) = omega arith
tall (unary a0 a1 a2) = omega arith
tall (post a0 a1 a2) = omega arith
tall (binary a0 a1 a2 a3) = omega arith
tall (assign a0 a1 a2 a3) = omega arith
tall (cond a0 a1 a2 a3) = omega arith
tall (field a0 a1 a2) = omega arith
tall (outside_field a0 a1 a2) = omega arith
tall (cast a0 a1 a2) = omega arith
tall (instance_of a0 a1 a2) = omega arith

pub below : (d : ℕ) → 0 < d → nat_lt 0 d ≡ true
below d p = grind (arith, nat_tests)

any_has : (n : ℕ) (scope : List ℕ) → has n scope ≡ true → any scope ≡ true
any_has n [] h = absurd cc
any_has n (m ∷ ms) h = refl

room : {d : ℕ} {s : List ℕ} {es : List Argument} {ts : List Word} → AreArguments d s es ts → 0 < length es → nat_lt 0 d ≡ true
room no_arguments p = absurd (omega arith)
room {d} (more_arguments i x list) p = below d (tall x)

pub exprs_room : {r : ExprRole} {d : ℕ} {s : List ℕ} {es : List IExpr} {ts : List Word} → AreExprs r d s es ts → 0 < length es
    → nat_lt 0 d ≡ true
exprs_room no_exprs p = absurd (omega arith)
exprs_room {r} {d} (more_exprs x list) p = below d (tall x)

pub arguments_fit : {d : ℕ} {s : List ℕ} {es : List Argument} {ts : List Word} → AreArguments d s es ts → within Few (length es) ≡ true
    → count_fits Few (nat_lt 0 d) (length es) ≡ true
arguments_fit {d} {s} {es} list w = list_fits Few (nat_lt 0 d) es w (room list)

pub exprs_fit : {r : ExprRole} {d : ℕ} {s : List ℕ} {es : List IExpr} {ts : List Word} (bounds : Bounds) → AreExprs r d s es ts
    → within bounds (length es) ≡ true
    → count_fits bounds (nat_lt 0 d) (length es) ≡ true
exprs_fit {r} {d} {s} {es} bounds list w = list_fits bounds (nat_lt 0 d) es w (exprs_room list)

-- an array has a size
sized : {d : ℕ} {s : List ℕ} {ts : List Word} (es : List IExpr) → AreExprs role.Value d s es ts → within Sizes (length es) ≡ true → 0 < d
sized [] list w = absurd cc
sized (e ∷ es) (more_exprs x list) w = tall x

mutual
  unfolding expr repeat take any_head leaf_head call_head outside_head items_head operator_head part_head

  pub back : {r : ExprRole} {d : ℕ} {s : List ℕ} {e : IExpr} {ts : List Word} → IsExpr r d s e ts → (rest : List Word)
      → expr d s r (ts ++ rest) ≡ Ok (e, rest)
  back (literal a t) rest = rw (a, t) refl
  back (this a) rest = rw a refl
  back {s = s} (local {n = n} a c h) rest = rw (a, any_has n s h, c, h) refl
  back (param a i) rest = rw (a, i) refl
  back (own a i) rest = rw (a, i) refl
  back (static_field a i) rest = rw (a, i) refl
  back (new_default a i) rest = rw (a, i) refl
  back (outside_name a i) rest = rw (a, i) refl
  back (outside_class a i) rest = rw (a, i) refl
  back (call a i c list) rest = rw (a, i, c.0, arguments_fit list c.1, back_arguments list [] rest) refl
  back (static_call a i c list) rest = rw (a, i, c.0, arguments_fit list c.1, back_arguments list [] rest) refl
  back (super_call a i c list) rest = rw (a, i, c.0, arguments_fit list c.1, back_arguments list [] rest) refl
  back (new a i c list) rest = rw (a, i, c.0, arguments_fit list c.1, back_arguments list [] rest) refl
  back {d = suc d} (call_on k {ts = ts} {us = us} a i x c list) rest =
      rw (
        a,
        below d (tall x),
        i,
        append_assoc ts (k ∷ us) rest,
        back x (k ∷ us ++ rest),
        c.0,
        arguments_fit list c.1,
        back_arguments list [] rest,
      ) refl
  back (outside_call a t c list) rest = rw (a, t, c.0, exprs_fit Few list c.1, back_exprs list [] rest) refl
  back (outside_super a t c list) rest = rw (a, t, c.0, exprs_fit Few list c.1, back_exprs list [] rest) refl
  back {d = suc d} (outside_call_on k {ts = ts} {us = us} a t x c list) rest =
      rw (
        a,
        below d (tall x),
        t,
        append_assoc ts (k ∷ us) rest,
        back x (k ∷ us ++ rest),
        c.0,
        exprs_fit Few list c.1,
        back_exprs list [] rest,
      ) refl
  back (new_outside k {ts = ts} {us = us} a t c list) rest =
      rw (a, append_assoc ts (k ∷ us) rest, back_type t (k ∷ us ++ rest), c.0, exprs_fit Few list c.1, back_exprs list [] rest) refl
  back {d = suc d} (new_array k {es = es} p {ts = ts} {us = us} a t c list n h) rest =
      rw (
        a,
        below d (sized es list c.1),
        append_assoc ts (k ∷ (us ++ p ∷ [])) rest,
        append_assoc us (p ∷ []) rest,
        back_type t (k ∷ (us ++ p ∷ rest)),
        c.0,
        exprs_fit Sizes list c.1,
        back_exprs list [] (p ∷ rest),
        n,
        h,
      ) refl
  back (array_literal k {ts = ts} {us = us} a t c list) rest =
      rw (a, append_assoc ts (k ∷ us) rest, back_type t (k ∷ us ++ rest), c.0, exprs_fit Any list c.1, back_exprs list [] rest) refl
  back (braces a c list) rest = rw (a, c.0, exprs_fit Any list c.1, back_exprs list [] rest) refl
  back {d = suc d} (index {ts = ts} {us = us} a x y) rest = rw
      (a, below d (tall x), append_assoc ts us rest, back x (us ++ rest), back y rest) refl
  back {d = suc d} (unary a o x) rest = rw (a, below d (tall x), o, back x rest) refl
  back {d = suc d} (post a o x) rest = rw (a, below d (tall x), o, back x rest) refl
  back {d = suc d} (binary {ts = ts} {us = us} a o x y) rest = rw
      (a, below d (tall x), o, append_assoc ts us rest, back x (us ++ rest), back y rest) refl
  back {d = suc d} (assign {ts = ts} {us = us} a o x y) rest = rw
      (a, below d (tall x), o, append_assoc ts us rest, back x (us ++ rest), back y rest) refl
  back {d = suc d} (cond {ts = ts} {us = us} {vs = vs} a x y z) rest =
      rw (
        a,
        below d (tall x),
        append_assoc ts (us ++ vs) rest,
        append_assoc us vs rest,
        back x (us ++ (vs ++ rest)),
        back y (vs ++ rest),
        back z rest,
      ) refl
  back {d = suc d} (field a i x) rest = rw (a, below d (tall x), i, back x rest) refl
  back {d = suc d} (outside_field a t x) rest = rw (a, below d (tall x), t, back x rest) refl
  back {d = suc d} (cast {ts = ts} {us = us} a t x) rest = rw
      (a, below d (tall x), append_assoc ts us rest, back_type t (us ++ rest), back x rest) refl
  back {d = suc d} (instance_of {ts = ts} {us = us} a x t) rest = rw
      (a, below d (tall x), append_assoc ts us rest, back x (us ++ rest), back_type t rest) refl

  pub back_arguments : {d : ℕ} {s : List ℕ} {es : List Argument} {ts : List Word} → AreArguments d s es ts
      → (all : List Argument) (rest : List Word)
      → repeat (argument d (expr d s)) (length es) all (ts ++ rest) ≡ Ok (all ++ es, rest)
  back_arguments no_arguments all rest = rw append-nil refl
  back_arguments (more_arguments {id = id} {e = e} {args = es} {ts = ts} {us = us} i x list) all rest =
      rw (
        i,
        append_assoc ts us rest,
        back x (us ++ rest),
        back_arguments list (all ++ argument_of id e ∷ []) rest,
        append_assoc all
            (argument_of id e ∷ []) es,
      ) refl

  pub back_exprs : {r : ExprRole} {d : ℕ} {s : List ℕ} {es : List IExpr} {ts : List Word} → AreExprs r d s es ts
      → (all : List IExpr) (rest : List Word)
      → repeat (expr d s r) (length es) all (ts ++ rest) ≡ Ok (all ++ es, rest)
  back_exprs no_exprs all rest = rw append-nil refl
  back_exprs (more_exprs {e = e} {es = es} {ts = ts} {us = us} x list) all rest =
      rw (append_assoc ts us rest, back x (us ++ rest), back_exprs list (all ++ e ∷ []) rest, append_assoc all (e ∷ []) es) refl

pub laws_expr : (r : ExprRole) (d : ℕ) (s : List ℕ) → 0 < d → Laws (IsExpr r d s) (expr d s r)
laws_expr r d s p = record { sound = sound_expr d s p r; back = λ t ts rest h. back h rest }
