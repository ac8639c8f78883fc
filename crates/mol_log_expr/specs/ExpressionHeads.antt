-- The words with which expressions begin, and which expressions may stand where.
use Rattle.std.specs.Prelude.{ℕ, Bool, true, false, ◌&&◌, nat_lt, [], ◌∷◌, Option, option_map, codes}
use Rattle.mol_log_words.specs.Words.{Word, kept}
use Rattle.mol_log_words.specs.Heads.{named, or_else}
use Rattle.mol_log_expr.specs.declared.expr_role.ExprRole.{ExprRole}
use Rattle.mol_log_expr.specs.declared.expr_role.ExprRole.TheVariants as role
use Rattle.mol_log_words.specs.declared.text_form.TextForm.{TextForm}
use Rattle.mol_log_words.specs.declared.text_form.TextForm.TheVariants as form
use Rattle.mol_log_expr.specs.declared.expr_head.Head.{Head}
use Rattle.mol_log_expr.specs.declared.expr_head.Head.TheVariants.{Leaf, Call, Outside, Items, Operator, Part}
use Rattle.mol_log_expr.specs.declared.expr_head.LeafHead.{LeafHead}
use Rattle.mol_log_expr.specs.declared.expr_head.LeafHead.TheVariants as leaf
use Rattle.mol_log_expr.specs.declared.expr_head.CallHead.{CallHead}
use Rattle.mol_log_expr.specs.declared.expr_head.CallHead.TheVariants as call
use Rattle.mol_log_expr.specs.declared.expr_head.OutsideHead.{OutsideHead}
use Rattle.mol_log_expr.specs.declared.expr_head.OutsideHead.TheVariants as outside
use Rattle.mol_log_expr.specs.declared.expr_head.ItemsHead.{ItemsHead}
use Rattle.mol_log_expr.specs.declared.expr_head.ItemsHead.TheVariants as items
use Rattle.mol_log_expr.specs.declared.expr_head.OperatorHead.{OperatorHead}
use Rattle.mol_log_expr.specs.declared.expr_head.OperatorHead.TheVariants as operator
use Rattle.mol_log_expr.specs.declared.expr_head.PartHead.{PartHead}
use Rattle.mol_log_expr.specs.declared.expr_head.PartHead.TheVariants as part

abbrev pub leaf_spelled : LeafHead → Word
leaf_spelled leaf.Lit = codes "lit"
leaf_spelled leaf.This = codes "this"
leaf_spelled leaf.Local = codes "local"
leaf_spelled leaf.Param = codes "param"
leaf_spelled leaf.Own = codes "own"
leaf_spelled leaf.StaticField = codes "sfield"
leaf_spelled leaf.NewDefault = codes "newd"
leaf_spelled leaf.OutsideName = codes "outname"
leaf_spelled leaf.OutsideClass = codes "outclass"

unfoldable pub leaf_head : Word → Option LeafHead
leaf_head word = named leaf_spelled
    (leaf.Lit ∷ leaf.This ∷ leaf.Local ∷ leaf.Param ∷ leaf.Own ∷ leaf.StaticField ∷ leaf.NewDefault ∷ leaf.OutsideName ∷
    leaf.OutsideClass ∷ [])
    word

abbrev pub call_spelled : CallHead → Word
call_spelled call.Own = codes "call"
call_spelled call.Static = codes "scall"
call_spelled call.On = codes "callon"
call_spelled call.Super = codes "super"
call_spelled call.New = codes "newc"

unfoldable pub call_head : Word → Option CallHead
call_head word = named call_spelled (call.Own ∷ call.Static ∷ call.On ∷ call.Super ∷ call.New ∷ []) word

abbrev pub outside_spelled : OutsideHead → Word
outside_spelled outside.Own = codes "outcall"
outside_spelled outside.On = codes "outcallon"
outside_spelled outside.Super = codes "outsuper"
outside_spelled outside.New = codes "newout"

unfoldable pub outside_head : Word → Option OutsideHead
outside_head word = named outside_spelled (outside.Own ∷ outside.On ∷ outside.Super ∷ outside.New ∷ []) word

abbrev pub items_spelled : ItemsHead → Word
items_spelled items.NewArray = codes "newarr"
items_spelled items.ArrayLit = codes "arrlit"
items_spelled items.Braces = codes "braces"
items_spelled items.Index = codes "index"

unfoldable pub items_head : Word → Option ItemsHead
items_head word = named items_spelled (items.NewArray ∷ items.ArrayLit ∷ items.Braces ∷ items.Index ∷ []) word

abbrev pub operator_spelled : OperatorHead → Word
operator_spelled operator.Unary = codes "unary"
operator_spelled operator.Post = codes "post"
operator_spelled operator.Binary = codes "binary"
operator_spelled operator.Assign = codes "assign"
operator_spelled operator.Cond = codes "cond"

unfoldable pub operator_head : Word → Option OperatorHead
operator_head word = named operator_spelled (operator.Unary ∷ operator.Post ∷ operator.Binary ∷ operator.Assign ∷ operator.Cond ∷ []) word

abbrev pub part_spelled : PartHead → Word
part_spelled part.Field = codes "field"
part_spelled part.OutsideField = codes "outfield"
part_spelled part.Cast = codes "cast"
part_spelled part.InstanceOf = codes "instanceof"

unfoldable pub part_head : Word → Option PartHead
part_head word = named part_spelled (part.Field ∷ part.OutsideField ∷ part.Cast ∷ part.InstanceOf ∷ []) word

abbrev pub spelled : Head → Word
spelled (Leaf head) = leaf_spelled head
spelled (Call head) = call_spelled head
spelled (Outside head) = outside_spelled head
spelled (Items head) = items_spelled head
spelled (Operator head) = operator_spelled head
spelled (Part head) = part_spelled head

unfoldable pub any_head : Word → Option Head
any_head word =
    or_else (option_map Leaf (leaf_head word))
    (or_else (option_map Call (call_head word))
    (or_else (option_map Outside (outside_head word))
    (or_else (option_map Items (items_head word)) (or_else (option_map Operator (operator_head word)) (option_map Part (part_head word))))))

-- a variable or a class by its name
abbrev pub is_name_leaf : LeafHead → Bool
is_name_leaf leaf.Lit = false
is_name_leaf leaf.This = false
is_name_leaf leaf.NewDefault = false
is_name_leaf head = true

-- what may stand left of an assignment: a name, a field access or an array access (JLS 15.26)
abbrev pub is_target : Head → Bool
is_target (Leaf head) = is_name_leaf head
is_target (Items items.Index) = true
is_target (Part part.Field) = true
is_target (Part part.OutsideField) = true
is_target head = false

-- what may be a statement: an assignment, `++` or `--`, a call, or a creation that is no array's (JLS 14.8)
abbrev pub is_action : Head → Bool
is_action (Leaf leaf.NewDefault) = true
is_action (Call head) = true
is_action (Outside head) = true
is_action (Operator operator.Unary) = true
is_action (Operator operator.Post) = true
is_action (Operator operator.Assign) = true
is_action head = false

-- anything but items in braces (JLS 10.6)
abbrev pub is_value : Head → Bool
is_value (Items items.Braces) = false
is_value head = true

-- which expressions may stand where
abbrev pub allows : ExprRole → Head → Bool
allows role.Value head = is_value head
allows role.First head = true
allows role.Target head = is_target head
allows role.Statement head = is_action head

-- the operators of a unary expression: as a statement, `++` and `--` alone (JLS 14.8)
abbrev pub unary_form : ExprRole → TextForm
unary_form role.Statement = form.Step
unary_form role = form.Unary

-- whether there is an expression of this form with parts no higher than d, where a local is in scope or not
abbrev pub is_high_enough : ℕ → Bool → Head → Bool
is_high_enough d has_locals (Leaf leaf.Local) = has_locals
is_high_enough d has_locals (Leaf head) = true
is_high_enough d has_locals (Call call.On) = nat_lt 0 d
is_high_enough d has_locals (Call head) = true
is_high_enough d has_locals (Outside outside.On) = nat_lt 0 d
is_high_enough d has_locals (Outside head) = true
is_high_enough d has_locals (Items items.ArrayLit) = true
is_high_enough d has_locals (Items items.Braces) = true
is_high_enough d has_locals (Items head) = nat_lt 0 d
is_high_enough d has_locals (Operator head) = nat_lt 0 d
is_high_enough d has_locals (Part head) = nat_lt 0 d

abbrev pub fits : ExprRole → ℕ → Bool → Head → Bool
fits role d has_locals head = allows role head && is_high_enough d has_locals head

abbrev pub head_of : ExprRole → ℕ → Bool → Word → Option Head
head_of role d has_locals word = kept (fits role d has_locals) (any_head word)
