-- Expressions that are what they look like, a token list and its tree each.
use Rattle.std.proofs.Common.{[], ◌∷◌, codes, Some, None, refl, lit≤, inl}
use Rattle.jav_tree.specs.declared.types.TypeName.TheVariants as ty
use Rattle.jav_tree.specs.declared.expr.ExprNode.TheVariants as node
use Rattle.mol_base.specs.Token.{Token}
use Rattle.jav_tree.specs.Types.{IsPrimitive, WholeType}
use Rattle.jav_tree.specs.Types as type
use Rattle.jav_tree.specs.Expressions.{Expression, expr_at}
use Rattle.jav_tree.specs.Expressions as is
use Rattle.jav_tree.proofs.PrimitiveTypes.{primitive-Prim}
use Rattle.jav_tree.proofs.Spelled.{sym, key, word, lit, symbol, keyword, named, operator, assigns, steps, prefixes, int_at, class_at, nm, num, un, bin, set, name_at, is_nm, is_num}

-- `a - -y`: a binary minus before a prefix one
minus_minus : Expression 255 1 3 (bin "-" (nm 0 "a") (un 4 "-" (nm 5 "y"))) (word "a" 0 ∷ sym "-" 2 ∷ sym "-" 4 ∷ word "y" 5 ∷ [])
minus_minus = is.binary (lit≤ tt) (operator 11 "-" 2 refl) (is_nm "a" 0) (is.prefix (lit≤ tt) (prefixes "-" 4 refl) (is_nm "y" 5))

-- `- -1`: two prefix operators
two_minus : Expression 255 1 3 (un 0 "-" (un 2 "-" (num 3 "1"))) (sym "-" 0 ∷ sym "-" 2 ∷ lit "1" 3 ∷ [])
two_minus = is.prefix (lit≤ tt) (prefixes "-" 0 refl) (is.prefix (lit≤ tt) (prefixes "-" 2 refl) (is_num "1" 3))

-- `x = y = z` groups to the right
two_assignments : Expression 255 1 3 (set "=" (nm 0 "x") (set "=" (nm 4 "y") (nm 8 "z"))) (word "x" 0 ∷ sym "=" 2 ∷ word "y" 4 ∷ sym "=" 6 ∷ word "z" 8 ∷ [])
two_assignments = is.assign (lit≤ tt) (name_at "x" 0) (assigns "=" 2 refl) (is.assign (lit≤ tt) (name_at "y" 4) (assigns "=" 6 refl) (is_nm "z" 8))

-- `c ? a : d ? e : f`: the last operand may be a conditional itself
two_conditions : Expression 255 1 3 (expr_at 0 (node.Cond (nm 0 "c") (nm 4 "a") (expr_at 8 (node.Cond (nm 8 "d") (nm 12 "e") (nm 16 "f")))))
    (word "c" 0 ∷ sym "?" 2 ∷ word "a" 4 ∷ sym ":" 6 ∷ word "d" 8 ∷ sym "?" 10 ∷ word "e" 12 ∷ sym ":" 14 ∷ word "f" 16 ∷ [])
two_conditions = is.cond (lit≤ tt) (is_nm "c" 0) (symbol "?" 2) (is_nm "a" 4) (symbol ":" 6)
    (is.cond (lit≤ tt) (is_nm "d" 8) (symbol "?" 10) (is_nm "e" 12) (symbol ":" 14) (is_nm "f" 16))

-- `a + b * c`: the tighter operator is the operand; `a - b - c` groups to the left
tighter : Expression 255 1 3 (bin "+" (nm 0 "a") (bin "*" (nm 4 "b") (nm 8 "c"))) (word "a" 0 ∷ sym "+" 2 ∷ word "b" 4 ∷ sym "*" 6 ∷ word "c" 8 ∷ [])
tighter = is.binary (lit≤ tt) (operator 11 "+" 2 refl) (is_nm "a" 0) (is.binary (lit≤ tt) (operator 12 "*" 6 refl) (is_nm "b" 4) (is_nm "c" 8))

to_the_left : Expression 255 1 3 (bin "-" (bin "-" (nm 0 "a") (nm 4 "b")) (nm 8 "c")) (word "a" 0 ∷ sym "-" 2 ∷ word "b" 4 ∷ sym "-" 6 ∷ word "c" 8 ∷ [])
to_the_left = is.binary (lit≤ tt) (operator 11 "-" 6 refl) (is.binary (lit≤ tt) (operator 11 "-" 2 refl) (is_nm "a" 0) (is_nm "b" 4)) (is_nm "c" 8)

-- `(int) -x`: a cast
cast_of_minus : Expression 255 1 3 (expr_at 0 (node.Cast (ty.Prim (codes "int")) (un 6 "-" (nm 7 "x"))))
    (sym "(" 0 ∷ key "int" 1 ∷ sym ")" 4 ∷ sym "-" 6 ∷ word "x" 7 ∷ [])
cast_of_minus = is.cast (lit≤ tt) (symbol "(" 0) (type.whole (int_at 1) type.none (lit≤ tt)) (symbol ")" 4) (inl (primitive-Prim _))
    (is.prefix (lit≤ tt) (prefixes "-" 6 refl) (is_nm "x" 7))

-- `(C) -x`: a binary minus
minus_after_parens : Expression 255 1 3 (bin "-" (expr_at 0 (node.Paren (nm 1 "C"))) (nm 5 "x"))
    (sym "(" 0 ∷ word "C" 1 ∷ sym ")" 2 ∷ sym "-" 4 ∷ word "x" 5 ∷ [])
minus_after_parens = is.binary (lit≤ tt) (operator 11 "-" 4 refl) (is.primary (is.paren (symbol "(" 0) (is_nm "C" 1) (symbol ")" 2))) (is_nm "x" 5)

-- `x instanceof int[]`
tested : Expression 255 1 2 (expr_at 0 (node.InstanceOf (nm 0 "x") (ty.ArrayOf (ty.Prim (codes "int")))))
    (word "x" 0 ∷ key "instanceof" 2 ∷ key "int" 13 ∷ sym "[" 16 ∷ sym "]" 17 ∷ [])
tested = is.instance_of (lit≤ tt) (is_nm "x" 0) (keyword "instanceof" 2) (type.whole (int_at 13) (type.pair (symbol "[" 16) (symbol "]" 17) type.none) (lit≤ tt))

-- `++x` and `a[0]--`
stepped : Expression 255 1 2 (un 0 "++" (nm 2 "x")) (sym "++" 0 ∷ word "x" 2 ∷ [])
stepped = is.step_before (lit≤ tt) (steps "++" 0 refl) (name_at "x" 2)

stepped_after : Expression 255 1 3 (expr_at 0 (node.Post (expr_at 0 (node.Index (nm 0 "a") (num 2 "0"))) (codes "--")))
    (word "a" 0 ∷ sym "[" 1 ∷ lit "0" 2 ∷ sym "]" 3 ∷ sym "--" 4 ∷ [])
stepped_after = is.step_after (lit≤ tt) (is.index (name_at "a" 0) (symbol "[" 1) (is_num "0" 2) (symbol "]" 3)) (steps "--" 4 refl)

-- `a.b.c` and `this.b`
two_dots : Expression 255 1 3 (expr_at 0 (node.Dot (expr_at 0 (node.Dot (nm 0 "a") (codes "b"))) (codes "c")))
    (word "a" 0 ∷ sym "." 1 ∷ word "b" 2 ∷ sym "." 3 ∷ word "c" 4 ∷ [])
two_dots = is.primary (is.field (is.primary_before_dot (is.field (is.primary_before_dot (name_at "a" 0)) (symbol "." 1) (named "b" 2))) (symbol "." 3) (named "c" 4))

of_this : Expression 255 1 2 (expr_at 0 (node.Dot (expr_at 0 node.This) (codes "b"))) (key "this" 0 ∷ sym "." 4 ∷ word "b" 5 ∷ [])
of_this = is.primary (is.field (is.primary_before_dot (is.this (keyword "this" 0))) (symbol "." 4) (named "b" 5))

-- `f()`, `a.f(x, y)` and `super.f()`
called : Expression 255 1 1 (expr_at 0 (node.Call None (codes "f") [])) (word "f" 0 ∷ sym "(" 1 ∷ sym ")" 2 ∷ [])
called = is.primary (is.call (named "f" 0) (is.no_arguments (symbol "(" 1) (symbol ")" 2)))

called_on : Expression 255 1 2 (expr_at 0 (node.Call (Some (nm 0 "a")) (codes "f") (nm 4 "x" ∷ nm 7 "y" ∷ [])))
    (word "a" 0 ∷ sym "." 1 ∷ word "f" 2 ∷ sym "(" 3 ∷ word "x" 4 ∷ sym "," 5 ∷ word "y" 7 ∷ sym ")" 8 ∷ [])
called_on = is.primary (is.call_on (is.primary_before_dot (name_at "a" 0)) (symbol "." 1) (named "f" 2)
    (is.some_arguments (symbol "(" 3) (is.more_listed (is_nm "x" 4) (symbol "," 5) (is.last_listed (is_nm "y" 7))) (symbol ")" 8) (lit≤ tt)))

called_super : Expression 255 1 1 (expr_at 0 (node.SuperCall (codes "f") [])) (key "super" 0 ∷ sym "." 5 ∷ word "f" 6 ∷ sym "(" 7 ∷ sym ")" 8 ∷ [])
called_super = is.primary (is.super_call (keyword "super" 0) (symbol "." 5) (named "f" 6) (is.no_arguments (symbol "(" 7) (symbol ")" 8)))

-- `new a.C()`
created : Expression 255 1 1 (expr_at 0 (node.New (ty.Named (codes "a.C")) []))
    (key "new" 0 ∷ word "a" 4 ∷ sym "." 5 ∷ word "C" 6 ∷ sym "(" 7 ∷ sym ")" 8 ∷ [])
created = is.primary (is.new (keyword "new" 0) (type.dotted (type.name (named "a" 4)) (symbol "." 5) (named "C" 6)) (is.no_arguments (symbol "(" 7) (symbol ")" 8)))

-- `new int[2][]`: one size, one pair of empty brackets
sized : Expression 255 1 2 (expr_at 0 (node.NewArray (ty.Prim (codes "int")) (num 8 "2" ∷ []) 1))
    (key "new" 0 ∷ key "int" 4 ∷ sym "[" 7 ∷ lit "2" 8 ∷ sym "]" 9 ∷ sym "[" 10 ∷ sym "]" 11 ∷ [])
sized = is.creation (lit≤ tt) (is.sized (keyword "new" 0) (int_at 4) (is.last_size (symbol "[" 7) (is_num "2" 8) (symbol "]" 9))
    (type.pair (symbol "[" 10) (symbol "]" 11) type.none) (lit≤ tt))

-- `new C[2][n].length`: an array creation before a dot
length_of_sized : Expression 255 1 3 (expr_at 0 (node.Dot (expr_at 0 (node.NewArray (ty.Named (codes "C")) (num 6 "2" ∷ nm 9 "n" ∷ []) 0)) (codes "length")))
    (key "new" 0 ∷ word "C" 4 ∷ sym "[" 5 ∷ lit "2" 6 ∷ sym "]" 7 ∷ sym "[" 8 ∷ word "n" 9 ∷ sym "]" 10 ∷ sym "." 11 ∷ word "length" 12 ∷ [])
length_of_sized = is.primary (is.field (is.array_before_dot (is.sized (keyword "new" 0) (class_at "C" 4)
    (is.more_sizes (symbol "[" 5) (is_num "2" 6) (symbol "]" 7) (is.last_size (symbol "[" 8) (is_nm "n" 9) (symbol "]" 10))) type.none (lit≤ tt)))
    (symbol "." 11) (named "length" 12))

-- `new int[] {1, {2}}`: the whole array type, and the items, of which the second has braces of its own
filled : Expression 255 1 3 (expr_at 0 (node.ArrayLit (ty.ArrayOf (ty.Prim (codes "int"))) (num 11 "1" ∷ expr_at 14 (node.Braces (num 15 "2" ∷ [])) ∷ [])))
    (key "new" 0 ∷ key "int" 4 ∷ sym "[" 7 ∷ sym "]" 8 ∷ sym "{" 10 ∷ lit "1" 11 ∷ sym "," 12 ∷ sym "{" 14 ∷ lit "2" 15 ∷ sym "}" 16 ∷ sym "}" 17 ∷ [])
filled = is.creation (lit≤ tt) (is.filled (keyword "new" 0) (int_at 4) (type.pair (symbol "[" 7) (symbol "]" 8) type.none) (lit≤ tt)
    (is.some_items (symbol "{" 10) (is.more_items (is.value (is_num "1" 11)) (symbol "," 12)
    (is.last_item (is.braces (is.some_items (symbol "{" 14) (is.last_item (is.value (is_num "2" 15))) (symbol "}" 16))))) (symbol "}" 17)))

-- `{}` and `{1,}` as first values
empty_braces : is.Init 255 1 (expr_at 0 (node.Braces [])) (sym "{" 0 ∷ sym "}" 1 ∷ [])
empty_braces = is.braces (is.no_items (symbol "{" 0) (symbol "}" 1))

last_comma : is.Init 255 2 (expr_at 0 (node.Braces (num 1 "1" ∷ []))) (sym "{" 0 ∷ lit "1" 1 ∷ sym "," 2 ∷ sym "}" 3 ∷ [])
last_comma = is.braces (is.items_comma (symbol "{" 0) (is.last_item (is.value (is_num "1" 1))) (symbol "," 2) (symbol "}" 3))

-- the primitive types
one_type : {t : Token} → IsPrimitive t → WholeType 255 (ty.Prim t.text) (t ∷ [])
one_type p = type.whole (type.primitive p) type.none (lit≤ tt)

boolean_type : WholeType 255 (ty.Prim (codes "boolean")) (key "boolean" 0 ∷ [])
boolean_type = one_type (type.boolean refl refl)

byte_type : WholeType 255 (ty.Prim (codes "byte")) (key "byte" 0 ∷ [])
byte_type = one_type (type.byte refl refl)

short_type : WholeType 255 (ty.Prim (codes "short")) (key "short" 0 ∷ [])
short_type = one_type (type.short refl refl)

char_type : WholeType 255 (ty.Prim (codes "char")) (key "char" 0 ∷ [])
char_type = one_type (type.char refl refl)

int_type : WholeType 255 (ty.Prim (codes "int")) (key "int" 0 ∷ [])
int_type = one_type (type.int refl refl)

long_type : WholeType 255 (ty.Prim (codes "long")) (key "long" 0 ∷ [])
long_type = one_type (type.long refl refl)
