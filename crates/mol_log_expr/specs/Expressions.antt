-- The word form of expressions: which words spell which tree, within the limits.
use Rattle.std.specs.Prelude.{◌≡◌, ℕ, suc, true, if◌then◌else◌, List, [], ◌∷◌, ◌++◌, codes, length, Some}
use Rattle.mol_base.specs.Operators.{is_step}
use Rattle.mol_base.specs.Spelled.{id_of}
use Rattle.mol_base.specs.declared.ident.Id.{Id}
use Rattle.mol_values_types.specs.declared.iexpr.Argument.{Argument}
use Rattle.mol_values_types.specs.declared.iexpr.IExpr.{IExpr}
use Rattle.mol_values_types.specs.declared.iexpr.IExpr.TheVariants as exprs
use Rattle.mol_values_types.specs.declared.itype.IType.{IType}
use Rattle.mol_log_words.specs.Words.{Word, has_form, counts, pairs_fit, IsCount}
use Rattle.mol_log_words.specs.Types.{IsType, most_dimensions}
use Rattle.mol_log_expr.specs.Scope.{has}
use Rattle.mol_log_expr.specs.ExpressionHeads.{allows, unary_form}
use Rattle.mol_log_words.specs.declared.bounds.Bounds.TheVariants.{Few, Sizes, Any}
use Rattle.mol_log_expr.specs.declared.expr_role.ExprRole.{ExprRole}
use Rattle.mol_log_expr.specs.declared.expr_role.ExprRole.TheVariants.{Value, First, Target}
use Rattle.mol_log_words.specs.declared.type_role.TypeRole.TheVariants as type_role
use Rattle.mol_log_words.specs.declared.text_form.TextForm.TheVariants as form
use Rattle.mol_log_expr.specs.declared.expr_head.Head.TheVariants.{Leaf, Call, Outside, Items, Operator, Part}
use Rattle.mol_log_expr.specs.declared.expr_head.LeafHead.TheVariants as leaf_at
use Rattle.mol_log_expr.specs.declared.expr_head.CallHead.TheVariants as call_at
use Rattle.mol_log_expr.specs.declared.expr_head.OutsideHead.TheVariants as outside_at
use Rattle.mol_log_expr.specs.declared.expr_head.ItemsHead.TheVariants as items_at
use Rattle.mol_log_expr.specs.declared.expr_head.OperatorHead.TheVariants as operator_at
use Rattle.mol_log_expr.specs.declared.expr_head.PartHead.TheVariants as part_at

abbrev pub argument_of : Id → IExpr → Argument
argument_of param value = record { param = param; value = value }

-- what the operand of a prefix operator may be: `++` and `--` step a variable, a field or an item (JLS 15.15)
abbrev pub operand_role : Word → ExprRole
operand_role op = if is_step op then Target else Value

mutual
  -- IsExpr r d s e ts: the words ts spell the expression e, which may stand at a place of the role r, is no higher than d, and
  -- names locals among s
  pub data IsExpr : ExprRole → ℕ → List ℕ → IExpr → List Word → Type 0 where
    literal : {r : ExprRole} {d : ℕ} {s : List ℕ} {t : Word} → allows r (Leaf leaf_at.Lit) ≡ true → has_form form.Literal t ≡ true
        → IsExpr r (suc d) s (exprs.Lit t) (codes "lit" ∷ t ∷ [])
    this : {r : ExprRole} {d : ℕ} {s : List ℕ} → allows r (Leaf leaf_at.This) ≡ true
        → IsExpr r (suc d) s (exprs.This) (codes "this" ∷ [])
    local : {r : ExprRole} {d : ℕ} {s : List ℕ} {n : ℕ} {w : Word} → allows r (Leaf leaf_at.Local) ≡ true → counts w ≡ Some n
        → has n s ≡ true
        → IsExpr r (suc d) s (exprs.Local n) (codes "local" ∷ w ∷ [])
    param : {r : ExprRole} {d : ℕ} {s : List ℕ} {id : Id} {w : Word} → allows r (Leaf leaf_at.Param) ≡ true → id_of w ≡ Some id
        → IsExpr r (suc d) s (exprs.Param id) (codes "param" ∷ w ∷ [])
    own : {r : ExprRole} {d : ℕ} {s : List ℕ} {id : Id} {w : Word} → allows r (Leaf leaf_at.Own) ≡ true → id_of w ≡ Some id
        → IsExpr r (suc d) s (exprs.Own id) (codes "own" ∷ w ∷ [])
    static_field : {r : ExprRole} {d : ℕ} {s : List ℕ} {id : Id} {w : Word} → allows r (Leaf leaf_at.StaticField) ≡ true → id_of w ≡ Some id
        → IsExpr r (suc d) s (exprs.StaticField id) (codes "sfield" ∷ w ∷ [])
    new_default : {r : ExprRole} {d : ℕ} {s : List ℕ} {id : Id} {w : Word} → allows r (Leaf leaf_at.NewDefault) ≡ true → id_of w ≡ Some id
        → IsExpr r (suc d) s (exprs.NewDefault id) (codes "newd" ∷ w ∷ [])
    outside_name : {r : ExprRole} {d : ℕ} {s : List ℕ} {t : Word} → allows r (Leaf leaf_at.OutsideName) ≡ true → has_form form.Name t ≡ true
        → IsExpr r (suc d) s (exprs.OutsideName t) (codes "outname" ∷ t ∷ [])
    outside_class : {r : ExprRole} {d : ℕ} {s : List ℕ} {t : Word} → allows r (Leaf leaf_at.OutsideClass) ≡ true
        → has_form form.Dotted t ≡ true
        → IsExpr r (suc d) s (exprs.OutsideClass t) (codes "outclass" ∷ t ∷ [])
    call : {r : ExprRole} {d : ℕ} {s : List ℕ} {id : Id} {w k : Word} {args : List Argument} {ts : List Word}
        → allows r (Call call_at.Own) ≡ true → id_of w ≡ Some id → IsCount Few k (length args) → AreArguments d s args ts
        → IsExpr r (suc d) s (exprs.Call id args) (codes "call" ∷ w ∷ k ∷ ts)
    static_call : {r : ExprRole} {d : ℕ} {s : List ℕ} {id : Id} {w k : Word} {args : List Argument} {ts : List Word}
        → allows r (Call call_at.Static) ≡ true → id_of w ≡ Some id → IsCount Few k (length args) → AreArguments d s args ts
        → IsExpr r (suc d) s (exprs.StaticCall id args) (codes "scall" ∷ w ∷ k ∷ ts)
    super_call : {r : ExprRole} {d : ℕ} {s : List ℕ} {id : Id} {w k : Word} {args : List Argument} {ts : List Word}
        → allows r (Call call_at.Super) ≡ true → id_of w ≡ Some id → IsCount Few k (length args) → AreArguments d s args ts
        → IsExpr r (suc d) s (exprs.SuperCall id args) (codes "super" ∷ w ∷ k ∷ ts)
    new : {r : ExprRole} {d : ℕ} {s : List ℕ} {id : Id} {w k : Word} {args : List Argument} {ts : List Word}
        → allows r (Call call_at.New) ≡ true → id_of w ≡ Some id → IsCount Few k (length args) → AreArguments d s args ts
        → IsExpr r (suc d) s (exprs.New id args) (codes "newc" ∷ w ∷ k ∷ ts)
    call_on : {r : ExprRole} {d : ℕ} {s : List ℕ} {id : Id} {w : Word} {e : IExpr} (k : Word) {args : List Argument} {ts us : List Word}
        → allows r (Call call_at.On) ≡ true → id_of w ≡ Some id → IsExpr Value d s e ts → IsCount Few k (length args)
        → AreArguments d s args us
        → IsExpr r (suc d) s (exprs.CallOn id e args) (codes "callon" ∷ w ∷ (ts ++ k ∷ us))
    outside_call : {r : ExprRole} {d : ℕ} {s : List ℕ} {t k : Word} {es : List IExpr} {ts : List Word}
        → allows r (Outside outside_at.Own) ≡ true → has_form form.Name t ≡ true → IsCount Few k (length es) → AreExprs Value d s es ts
        → IsExpr r (suc d) s (exprs.OutsideCall t es) (codes "outcall" ∷ t ∷ k ∷ ts)
    outside_super : {r : ExprRole} {d : ℕ} {s : List ℕ} {t k : Word} {es : List IExpr} {ts : List Word}
        → allows r (Outside outside_at.Super) ≡ true → has_form form.Name t ≡ true → IsCount Few k (length es) → AreExprs Value d s es ts
        → IsExpr r (suc d) s (exprs.OutsideSuperCall t es) (codes "outsuper" ∷ t ∷ k ∷ ts)
    outside_call_on : {r : ExprRole} {d : ℕ} {s : List ℕ} {t : Word} {e : IExpr} (k : Word) {es : List IExpr} {ts us : List Word}
        → allows r (Outside outside_at.On) ≡ true → has_form form.Name t ≡ true → IsExpr Value d s e ts → IsCount Few k (length es)
        → AreExprs Value d s es us
        → IsExpr r (suc d) s (exprs.OutsideCallOn t e es) (codes "outcallon" ∷ t ∷ (ts ++ k ∷ us))
    new_outside : {r : ExprRole} {d : ℕ} {s : List ℕ} {t : IType} (k : Word) {es : List IExpr} {ts us : List Word}
        → allows r (Outside outside_at.New) ≡ true → IsType type_role.Outside most_dimensions t ts → IsCount Few k (length es)
        → AreExprs Value d s es us
        → IsExpr r (suc d) s (exprs.NewOutside t es) (codes "newout" ∷ (ts ++ k ∷ us))
    new_array : {r : ExprRole} {d : ℕ} {s : List ℕ} {t : IType} (k : Word) {es : List IExpr} {n : ℕ} (p : Word) {ts us : List Word}
        → allows r (Items items_at.NewArray) ≡ true → IsType type_role.Item most_dimensions t ts → IsCount Sizes k (length es)
        → AreExprs Value d s es us → counts p ≡ Some n → pairs_fit (length es) n ≡ true
        → IsExpr r (suc d) s (exprs.NewArray t es n) (codes "newarr" ∷ (ts ++ k ∷ (us ++ p ∷ [])))
    array_literal : {r : ExprRole} {d : ℕ} {s : List ℕ} {t : IType} (k : Word) {es : List IExpr} {ts us : List Word}
        → allows r (Items items_at.ArrayLit) ≡ true → IsType type_role.Array most_dimensions t ts → IsCount Any k (length es)
        → AreExprs First d s es us
        → IsExpr r (suc d) s (exprs.ArrayLit t es) (codes "arrlit" ∷ (ts ++ k ∷ us))
    braces : {r : ExprRole} {d : ℕ} {s : List ℕ} {k : Word} {es : List IExpr} {ts : List Word} → allows r (Items items_at.Braces) ≡ true
        → IsCount Any k (length es) → AreExprs First d s es ts
        → IsExpr r (suc d) s (exprs.Braces es) (codes "braces" ∷ k ∷ ts)
    index : {r : ExprRole} {d : ℕ} {s : List ℕ} {a i : IExpr} {ts us : List Word} → allows r (Items items_at.Index) ≡ true
        → IsExpr Value d s a ts → IsExpr Value d s i us
        → IsExpr r (suc d) s (exprs.Index a i) (codes "index" ∷ (ts ++ us))
    unary : {r : ExprRole} {d : ℕ} {s : List ℕ} {op : Word} {e : IExpr} {ts : List Word} → allows r (Operator operator_at.Unary) ≡ true
        → has_form (unary_form r) op ≡ true → IsExpr (operand_role op) d s e ts
        → IsExpr r (suc d) s (exprs.Unary op e) (codes "unary" ∷ op ∷ ts)
    post : {r : ExprRole} {d : ℕ} {s : List ℕ} {op : Word} {e : IExpr} {ts : List Word} → allows r (Operator operator_at.Post) ≡ true
        → has_form form.Step op ≡ true → IsExpr Target d s e ts
        → IsExpr r (suc d) s (exprs.Post op e) (codes "post" ∷ op ∷ ts)
    binary : {r : ExprRole} {d : ℕ} {s : List ℕ} {op : Word} {a b : IExpr} {ts us : List Word}
        → allows r (Operator operator_at.Binary) ≡ true → has_form form.Binary op ≡ true → IsExpr Value d s a ts → IsExpr Value d s b us
        → IsExpr r (suc d) s (exprs.Binary op a b) (codes "binary" ∷ op ∷ (ts ++ us))
    assign : {r : ExprRole} {d : ℕ} {s : List ℕ} {op : Word} {a b : IExpr} {ts us : List Word}
        → allows r (Operator operator_at.Assign) ≡ true → has_form form.Assignment op ≡ true → IsExpr Target d s a ts
        → IsExpr Value d s b us
        → IsExpr r (suc d) s (exprs.Assign op a b) (codes "assign" ∷ op ∷ (ts ++ us))
    cond : {r : ExprRole} {d : ℕ} {s : List ℕ} {c a b : IExpr} {ts us vs : List Word} → allows r (Operator operator_at.Cond) ≡ true
        → IsExpr Value d s c ts → IsExpr Value d s a us → IsExpr Value d s b vs
        → IsExpr r (suc d) s (exprs.Cond c a b) (codes "cond" ∷ (ts ++ (us ++ vs)))
    field : {r : ExprRole} {d : ℕ} {s : List ℕ} {id : Id} {w : Word} {e : IExpr} {ts : List Word} → allows r (Part part_at.Field) ≡ true
        → id_of w ≡ Some id → IsExpr Value d s e ts
        → IsExpr r (suc d) s (exprs.Field id e) (codes "field" ∷ w ∷ ts)
    outside_field : {r : ExprRole} {d : ℕ} {s : List ℕ} {t : Word} {e : IExpr} {ts : List Word}
        → allows r (Part part_at.OutsideField) ≡ true → has_form form.Name t ≡ true → IsExpr Value d s e ts
        → IsExpr r (suc d) s (exprs.OutsideField t e) (codes "outfield" ∷ t ∷ ts)
    cast : {r : ExprRole} {d : ℕ} {s : List ℕ} {t : IType} {e : IExpr} {ts us : List Word} → allows r (Part part_at.Cast) ≡ true
        → IsType type_role.Value most_dimensions t ts → IsExpr Value d s e us
        → IsExpr r (suc d) s (exprs.Cast t e) (codes "cast" ∷ (ts ++ us))
    instance_of : {r : ExprRole} {d : ℕ} {s : List ℕ} {e : IExpr} {t : IType} {ts us : List Word}
        → allows r (Part part_at.InstanceOf) ≡ true → IsExpr Value d s e ts → IsType type_role.Value most_dimensions t us
        → IsExpr r (suc d) s (exprs.InstanceOf e t) (codes "instanceof" ∷ (ts ++ us))

  -- pairs of a parameter and an expression, one after the other
  pub data AreArguments : ℕ → List ℕ → List Argument → List Word → Type 0 where
    no_arguments : {d : ℕ} {s : List ℕ} → AreArguments d s [] []
    more_arguments : {d : ℕ} {s : List ℕ} {id : Id} {w : Word} {e : IExpr} {args : List Argument} {ts us : List Word} → id_of w ≡ Some id
        → IsExpr Value d s e ts
        → AreArguments d s args us → AreArguments d s (argument_of id e ∷ args) (w ∷ (ts ++ us))

  -- expressions, one after the other
  pub data AreExprs : ExprRole → ℕ → List ℕ → List IExpr → List Word → Type 0 where
    no_exprs : {r : ExprRole} {d : ℕ} {s : List ℕ} → AreExprs r d s [] []
    more_exprs : {r : ExprRole} {d : ℕ} {s : List ℕ} {e : IExpr} {es : List IExpr} {ts us : List Word} → IsExpr r d s e ts
        → AreExprs r d s es us
        → AreExprs r d s (e ∷ es) (ts ++ us)
