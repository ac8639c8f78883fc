-- What is carried through the induction over expressions that read back, and arguments that do.
use Rattle.std.proofs.Common.{◌≡◌, suc, Bool, true, false, List, [], ◌∷◌, ◌++◌, map, length, None, refl, sym, ap, subst, true≢false}
use Rattle.std.specs.Prelude.{IsTrue, ◌&&◌}
use Rattle.std.specs.List.{list_all}
use Rattle.std.specs.Ordering.{is_eq}
use Rattle.std.specs.declared.cmp.Ordering.{Ordering}
use Rattle.std.specs.declared.cmp.Ordering.TheVariants.{Less, Equal, Greater}
use Rattle.jav_tree.specs.declared.expr.Expr.{Expr}
use Rattle.jav_names.specs.OnValues.{StaticType}
use Rattle.mol_base.specs.Order.{id_cmp, id_cmp-IsAntisymmetric}
use Rattle.mol_base.specs.declared.ident.Id.{Id}
use Rattle.mol_resolve_rules.specs.Locals.{Locals}
use Rattle.mol_resolve_rules.specs.Outcomes.{Outcome, fine, mapped, both, put_first}
use Rattle.mol_resolve_rules.specs.Readers.{Reader}
use Rattle.mol_resolve_rules.specs.ReadTrees.{Meant, Mode, with_params, values_of, reading}
use Rattle.mol_resolve_rules.specs.Says.{SaysAll, no_exprs, more_exprs, SaysArguments, no_arguments, more_arguments}
use Rattle.mol_table_rules.specs.Program.{same_id}
use Rattle.mol_values_types.specs.declared.iexpr.Argument.{Argument, fold-Argument}
use Rattle.mol_values_types.specs.declared.iexpr.IExpr.{IExpr}
use Rattle.mol_values_types.specs.declared.iexpr.IExpr.TheFolds.{fold-roll-IExpr, map-IExpr}
use Rattle.mol_values_types.specs.declared.iexpr.IExpr.TheOpen.{IExpr-F}
use Rattle.mol_values_types.specs.declared.iexpr.IExpr.TheViews.{roll-IExpr}
use Rattle.mol_spell_rules.proofs.CallsBack.{ids_of}
use Rattle.mol_spell_rules.proofs.NamesBack.{IsBack}
use Rattle.mol_spell_rules.proofs.ValuesBack.{IsApart}
use Rattle.mol_spell_rules.specs.ReadBack.{SeesProgram, KeptArgument, same_ids, are_kept, kept_step, kept_argument_step, is_kept, AreAnswered}
use Rattle.mol_spell_rules.specs.SpelledExpressions.{SpelledExpr, each_alone, expr_step, argument_step, spelled_expr}
use Rattle.mol_spell_rules.specs.Writers.{Writer, Reference}
use Rattle.mol_values_types.specs.declared.iexpr.IExpr.TheVariants as exprs

-- ---- tests

pub and-split : (a b : Bool) → IsTrue (a && b) → IsTrue a × IsTrue b
and-split true b h = (refl, h)
and-split false b h = absurd (true≢false (sym h))

is-equal : (o : Ordering) → is_eq o ≡ true → o ≡ Equal
is-equal Less h = absurd (true≢false (sym h))
is-equal Equal h = refl
is-equal Greater h = absurd (true≢false (sym h))

pub ids-same : (xs ys : List Id) → IsTrue (same_ids xs ys) → xs ≡ ys
ids-same [] [] h = refl
ids-same [] (y ∷ ys) h = absurd (true≢false (sym h))
ids-same (x ∷ xs) [] h = absurd (true≢false (sym h))
ids-same (x ∷ xs) (y ∷ ys) h =
    let parts = and-split (same_id x y) (same_ids xs ys) h in
    let first = id_cmp-IsAntisymmetric x y (is-equal (id_cmp x y) parts.0) in
    let rest = ids-same xs ys parts.1 in
    λ i. first i ∷ rest i

module _ (writer : Writer) (sees : SeesProgram writer) (locals : Locals Id) where
  abbrev reader : Reader Id Id
  reader = writer.reader

  pub answered-split : (rs ss : List Reference) → AreAnswered writer (rs ++ ss) → AreAnswered writer rs × AreAnswered writer ss
  answered-split [] ss all = (tt, all)
  answered-split (r ∷ rs) ss all = let more = answered-split rs ss all.1 in ((all.0, more.0), more.1)

  -- ---- what is carried

  abbrev pub spelled : IExpr → SpelledExpr
  spelled = spelled_expr writer locals

  abbrev pub spelled_argument : Argument → SpelledExpr
  spelled_argument = fold-Argument SpelledExpr SpelledExpr (expr_step writer locals) (argument_step writer locals)

  abbrev pub kept : IExpr → Bool
  kept = is_kept writer locals

  abbrev pub kept_argument : Argument → KeptArgument
  kept_argument = fold-Argument Bool KeptArgument (kept_step writer locals) (kept_argument_step writer locals)

  abbrev pub Comes : Expr → Mode → Bool → StaticType Id → IExpr → Type 0
  Comes tree mode is_this type e = IsBack writer sees locals ((reading reader tree).means locals mode) is_this type e

  -- It is written as `this` only for `this`. Where it keeps what the law asks for it is no part of the name of a class, and reads back.
  abbrev pub BackAs : SpelledExpr → IExpr → Bool → Type 0
  BackAs z e kept = (IsTrue kept → IsApart writer sees locals (reading reader z.tree)) × (IsTrue z.is_this → e ≡ exprs.This)
      × ((mode : Mode) → IsTrue kept → AreAnswered writer (z.references mode) → Comes z.tree mode z.is_this z.static_type e)

  abbrev pub Back : IExpr → Type 0
  Back e = BackAs (spelled e) e (kept e)

  abbrev pub BackArgument : Argument → Type 0
  BackArgument a = BackAs (spelled_argument a) a.value (kept_argument a).kept × ((kept_argument a).param ≡ a.param)

  abbrev pub With : Type 0
  With = (e : IExpr) × Back e

  abbrev pub WithArgument : Type 0
  WithArgument = (a : Argument) × BackArgument a

  abbrev pub exprs_in : List With → List IExpr
  exprs_in es = map (λ p. p.0) es

  abbrev pub arguments_in : List WithArgument → List Argument
  arguments_in args = map (λ p. p.0) args

  pub from : (x : IExpr-F IExpr Argument) (e : IExpr) → roll-IExpr x ≡ e
      → BackAs (expr_step writer locals (map-IExpr _ _ _ _ spelled spelled_argument x)) e
      (kept_step writer locals (map-IExpr _ _ _ _ kept kept_argument x))
      → Back (roll-IExpr x)
  from x e rolls back =
      subst (λ z. BackAs z (roll-IExpr x) (kept (roll-IExpr x)))
      (sym (fold-roll-IExpr SpelledExpr SpelledExpr (expr_step writer locals) (argument_step writer locals) x))
      (subst (BackAs (expr_step writer locals (map-IExpr _ _ _ _ spelled spelled_argument x)) (roll-IExpr x))
      (sym (fold-roll-IExpr Bool KeptArgument (kept_step writer locals) (kept_argument_step writer locals) x))
      (subst (λ e. BackAs (expr_step writer locals (map-IExpr _ _ _ _ spelled spelled_argument x)) e
      (kept_step writer locals (map-IExpr _ _ _ _ kept kept_argument x))) (sym rolls) back))

  -- ---- arguments

  abbrev pub trees_of : List SpelledExpr → List Expr
  trees_of parts = map (λ (part : SpelledExpr). part.tree) parts

  abbrev pub values : List SpelledExpr → Outcome (List IExpr)
  values parts = values_of reader locals (map (reading reader) (trees_of parts))

  pub exprs-back : (es : List With) → IsTrue (list_all (λ (k : Bool). k) (map kept (exprs_in es)))
      → AreAnswered writer (each_alone writer locals (map spelled (exprs_in es)))
      → (saids : List IExpr) × (values (map spelled (exprs_in es)) ≡ fine saids) × SaysAll saids (exprs_in es)
      × (length saids ≡ length (map spelled (exprs_in es)))
  exprs-back [] kept all = ([], refl, no_exprs, refl)
  exprs-back (e ∷ es) are all =
      let tests = and-split (kept e.0) (list_all (λ (k : Bool). k) (map kept (exprs_in es))) are in
      let parts = answered-split ((spelled e.0).references None) (each_alone writer locals (map spelled (exprs_in es))) all in
      let first = e.1.2 None tests.0 parts.0 in
      let rest = exprs-back es tests.1 parts.1 in (
        first.0 ∷ rest.0,
        (λ i. mapped put_first (both (mapped (λ (v : Meant Id). v.tree) (first.1 i)) (rest.1 i))),
        more_exprs first.2 rest.2,
        ap (λ n. suc n) rest.3,
      )

  pub arguments-back : (args : List WithArgument)
      → IsTrue (list_all (λ (a : KeptArgument). a.kept) (map kept_argument (arguments_in args)))
      → AreAnswered writer (each_alone writer locals (map spelled_argument (arguments_in args)))
      → (saids : List IExpr) × (values (map spelled_argument (arguments_in args)) ≡ fine saids)
      × SaysArguments (with_params (map (λ (a : KeptArgument). a.param) (map kept_argument (arguments_in args))) saids) (arguments_in args)
  arguments-back [] are all = ([], refl, no_arguments)
  arguments-back (a ∷ args) are all =
      let tests = and-split (kept_argument a.0).kept
      (list_all (λ (a : KeptArgument). a.kept) (map kept_argument (arguments_in args))) are in
      let parts = answered-split ((spelled_argument a.0).references None)
      (each_alone writer locals (map spelled_argument (arguments_in args))) all in
      let first = a.1.0.2 None tests.0 parts.0 in
      let rest = arguments-back args tests.1 parts.1 in (
        first.0 ∷ rest.0,
        (λ i. mapped put_first (both (mapped (λ (v : Meant Id). v.tree) (first.1 i)) (rest.1 i))),
        subst (λ p. SaysArguments (record { param = p; value = first.0 }
            ∷ with_params (map (λ (a : KeptArgument). a.param) (map kept_argument (arguments_in args))) rest.0) (a.0 ∷ arguments_in args))
            (sym a.1.1) (more_arguments first.2 rest.2),
      )

  -- for the parameters of a method
  pub called-back : (method : Id) (args : List WithArgument)
      → IsTrue (are_kept writer locals method (map kept_argument (arguments_in args)))
      → AreAnswered writer (each_alone writer locals (map spelled_argument (arguments_in args)))
      → (saids : List IExpr) × (values (map spelled_argument (arguments_in args)) ≡ fine saids)
      × SaysArguments (with_params (ids_of writer sees locals method) saids) (arguments_in args)
  called-back method args are all =
      let tests = and-split (same_ids (map (λ (a : KeptArgument). a.param) (map kept_argument (arguments_in args)))
      (ids_of writer sees locals method)) (list_all (λ (a : KeptArgument). a.kept) (map kept_argument (arguments_in args))) are in
      let back = arguments-back args tests.1 all in (
        back.0,
        back.1,
        subst (λ ids. SaysArguments (with_params ids back.0) (arguments_in args)) (ids-same _ _ tests.0) back.2,
      )
