-- Expressions (JLS 15), and first values (JLS 10.6).
use Rattle.std.specs.Prelude.{◌≡◌, ◌⊎◌, ℕ, suc, ◌+◌, ◌≤◌, max, List, [], ◌∷◌, ◌++◌, length, Some, None, true}
use Rattle.mol_base.specs.Token.{Token}
use Rattle.jav_tree.specs.declared.types.TypeName.{TypeName}
use Rattle.jav_tree.specs.declared.types.TypeName.TheVariants as ty
use Rattle.jav_tree.specs.declared.expr.Expr.{Expr}
use Rattle.jav_tree.specs.declared.expr.ExprNode.{ExprNode}
use Rattle.jav_tree.specs.declared.expr.ExprNode.TheVariants as node
use Rattle.jav_tree.specs.Tokens.{IsSymbol, IsKeyword, IsName, IsLiteral, start_of}
use Rattle.jav_tree.specs.Types.{Qualified, BaseType, Brackets, WholeType, array_of, is_primitive}
use Rattle.jav_tree.specs.Operators.{IsBinary, IsAssignment, IsStep, IsPrefix, BeginsWithSign}

-- the expression that begins at this offset
abbrev pub expr_at : ℕ → ExprNode → Expr
expr_at at n = record { at = at; node = n }

-- Whether a cast may have this operand: only after a primitive type may it begin with `+`, `-`, `++` or `--` (JLS 15.16).
abbrev pub MayBeCast : TypeName → List Token → Type 0
MayBeCast to operand = (is_primitive to ≡ true) ⊎ (¬ (BeginsWithSign operand))

-- what an expression of level 15 is
pub data Shape : Type 0 where
  -- a variable: a name, a field or an item of an array, with no parentheses around it. It may stand left of an
  -- assignment, and `++` and `--` may change it (JLS 15.14.2, 15.15.1, 15.26)
  target : Shape
  -- a call, or `new T(..)`: what is a statement as it stands (JLS 14.8)
  invocation : Shape
  -- a literal, `this`, or an expression in parentheses
  atom : Shape

mutual
  -- Expression limit level height e ts: the tokens ts spell e, whose operators outside parentheses have this
  -- level or a greater one, which has this height, and in which no list of arguments and no array type or array
  -- creation has more than `limit` items.
  pub data Expression (limit : ℕ) : ℕ → ℕ → Expr → List Token → Type 0 where
    -- level 1: assignments, which group to the right
    assign : {level h k : ℕ} {op : Token} {a b : Expr} {ts us : List Token} → level ≤ 1 → Primary limit target h a ts → IsAssignment op
        → Expression limit 1 k b us
        → Expression limit level (suc (max h k)) (expr_at a.at (node.Assign a op.text b)) (ts ++ op ∷ us)
    -- level 2: `test ? a : b`
    cond : {level h j k : ℕ} {question colon : Token} {test a b : Expr} {ts us vs : List Token} → level ≤ 2
        → Expression limit 3 h test ts → IsSymbol "?" question → Expression limit 1 j a us → IsSymbol ":" colon → Expression limit 2 k b vs
        → Expression limit level (suc (max h (max j k))) (expr_at test.at (node.Cond test a b)) (ts ++ (question ∷ us ++ colon ∷ vs))
    -- levels 3 to 12: operators between two operands, which group to the left
    binary : {level own h k : ℕ} {op : Token} {a b : Expr} {ts us : List Token} → level ≤ own → IsBinary own op
        → Expression limit own h a ts → Expression limit (suc own) k b us
        → Expression limit level (suc (max h k)) (expr_at a.at (node.Binary a op.text b)) (ts ++ op ∷ us)
    -- level 9: `e instanceof T`
    instance_of : {level h : ℕ} {word : Token} {e : Expr} {to : TypeName} {ts us : List Token} → level ≤ 9
        → Expression limit 9 h e ts → IsKeyword "instanceof" word → WholeType limit to us
        → Expression limit level (suc h) (expr_at e.at (node.InstanceOf e to)) (ts ++ word ∷ us)
    -- level 13: operators before an operand, and casts
    prefix : {level h : ℕ} {op : Token} {e : Expr} {ts : List Token} → level ≤ 13 → IsPrefix op → Expression limit 13 h e ts
        → Expression limit level (suc h) (expr_at op.start (node.Unary op.text e)) (op ∷ ts)
    step_before : {level h : ℕ} {op : Token} {e : Expr} {ts : List Token} → level ≤ 13 → IsStep op → Primary limit target h e ts
        → Expression limit level (suc h) (expr_at op.start (node.Unary op.text e)) (op ∷ ts)
    cast : {level h : ℕ} {left right : Token} {to : TypeName} {e : Expr} {ts us : List Token} → level ≤ 13 → IsSymbol "(" left
        → WholeType limit to ts → IsSymbol ")" right → MayBeCast to us → Expression limit 13 h e us
        → Expression limit level (suc h) (expr_at left.start (node.Cast to e)) (left ∷ ts ++ right ∷ us)
    -- level 14: `++` and `--` after their operand, and array creations
    step_after : {level h : ℕ} {op : Token} {e : Expr} {ts : List Token} → level ≤ 14 → Primary limit target h e ts → IsStep op
        → Expression limit level (suc h) (expr_at e.at (node.Post e op.text)) (ts ++ op ∷ [])
    creation : {level h : ℕ} {e : Expr} {ts : List Token} → level ≤ 14 → ArrayCreation limit h e ts → Expression limit level h e ts
    -- level 15
    primary : {level h : ℕ} {shape : Shape} {e : Expr} {ts : List Token} → Primary limit shape h e ts → Expression limit level h e ts

  -- Primary limit shape height e ts: the tokens ts spell e, which is of level 15 and has this shape.
  pub data Primary (limit : ℕ) : Shape → ℕ → Expr → List Token → Type 0 where
    literal : {t : Token} → IsLiteral t → Primary limit atom 1 (expr_at t.start (node.Lit t.text)) (t ∷ [])
    this : {t : Token} → IsKeyword "this" t → Primary limit atom 1 (expr_at t.start node.This) (t ∷ [])
    paren : {h : ℕ} {left right : Token} {e : Expr} {ts : List Token} → IsSymbol "(" left → Expression limit 1 h e ts → IsSymbol ")" right
        → Primary limit atom (suc h) (expr_at left.start (node.Paren e)) (left ∷ ts ++ right ∷ [])
    name : {t : Token} → IsName t → Primary limit target 1 (expr_at t.start (node.Name t.text)) (t ∷ [])
    field : {h : ℕ} {dot t : Token} {e : Expr} {ts : List Token} → BeforeDot limit h e ts → IsSymbol "." dot → IsName t
        → Primary limit target (suc h) (expr_at e.at (node.Dot e t.text)) (ts ++ dot ∷ t ∷ [])
    index : {h k : ℕ} {shape : Shape} {left right : Token} {e i : Expr} {ts us : List Token} → Primary limit shape h e ts → IsSymbol "[" left
        → Expression limit 1 k i us → IsSymbol "]" right
        → Primary limit target (suc (max h k)) (expr_at e.at (node.Index e i)) (ts ++ (left ∷ us ++ right ∷ []))
    call_on : {h k : ℕ} {dot t : Token} {e : Expr} {args : List Expr} {ts us : List Token} → BeforeDot limit h e ts → IsSymbol "." dot
        → IsName t → Arguments limit k args us
        → Primary limit invocation (suc (max h k)) (expr_at e.at (node.Call (Some e) t.text args)) (ts ++ dot ∷ t ∷ us)
    call : {h : ℕ} {t : Token} {args : List Expr} {ts : List Token} → IsName t → Arguments limit h args ts
        → Primary limit invocation (suc h) (expr_at t.start (node.Call None t.text args)) (t ∷ ts)
    super_call : {h : ℕ} {word dot t : Token} {args : List Expr} {ts : List Token} → IsKeyword "super" word → IsSymbol "." dot
        → IsName t → Arguments limit h args ts
        → Primary limit invocation (suc h) (expr_at word.start (node.SuperCall t.text args)) (word ∷ dot ∷ t ∷ ts)
    new : {h : ℕ} {word : Token} {q : List ℕ} {args : List Expr} {ts us : List Token} → IsKeyword "new" word → Qualified q ts
        → Arguments limit h args us
        → Primary limit invocation (suc h) (expr_at word.start (node.New (ty.Named q) args)) (word ∷ ts ++ us)

  -- What stands before a dot: an expression of level 15, or an array creation.
  pub data BeforeDot (limit : ℕ) : ℕ → Expr → List Token → Type 0 where
    primary_before_dot : {h : ℕ} {shape : Shape} {e : Expr} {ts : List Token} → Primary limit shape h e ts → BeforeDot limit h e ts
    array_before_dot : {h : ℕ} {e : Expr} {ts : List Token} → ArrayCreation limit h e ts → BeforeDot limit h e ts

  -- `new T[e]..[]..`, at most `limit` pairs of brackets in all, and `new T[].. {..}` with the whole array type.
  pub data ArrayCreation (limit : ℕ) : ℕ → Expr → List Token → Type 0 where
    sized : {n h : ℕ} {word : Token} {base : TypeName} {sizes : List Expr} {ts us vs : List Token} → IsKeyword "new" word → BaseType base ts
        → Sizes limit h sizes us → Brackets n vs → length sizes + n ≤ limit
        → ArrayCreation limit (suc h) (expr_at word.start (node.NewArray base sizes n)) (word ∷ ts ++ (us ++ vs))
    filled : {n h : ℕ} {word : Token} {base : TypeName} {items : List Expr} {ts us vs : List Token} → IsKeyword "new" word → BaseType base ts
        → Brackets (suc n) us → suc n ≤ limit → Items limit h items vs
        → ArrayCreation limit (suc h) (expr_at word.start (node.ArrayLit (array_of (suc n) base) items)) (word ∷ ts ++ (us ++ vs))

  -- Sizes in brackets, at least one; the height is that of the highest.
  pub data Sizes (limit : ℕ) : ℕ → List Expr → List Token → Type 0 where
    last_size : {h : ℕ} {left right : Token} {e : Expr} {ts : List Token} → IsSymbol "[" left → Expression limit 1 h e ts → IsSymbol "]" right
        → Sizes limit h (e ∷ []) (left ∷ ts ++ right ∷ [])
    more_sizes : {h k : ℕ} {left right : Token} {e : Expr} {es : List Expr} {ts us : List Token} → IsSymbol "[" left → Expression limit 1 h e ts
        → IsSymbol "]" right → Sizes limit k es us
        → Sizes limit (max h k) (e ∷ es) (left ∷ ts ++ right ∷ us)

  -- Arguments in parentheses, at most `limit`; the height is that of the highest, 0 where there is none.
  pub data Arguments (limit : ℕ) : ℕ → List Expr → List Token → Type 0 where
    no_arguments : {left right : Token} → IsSymbol "(" left → IsSymbol ")" right → Arguments limit 0 [] (left ∷ right ∷ [])
    some_arguments : {h : ℕ} {left right : Token} {es : List Expr} {ts : List Token} → IsSymbol "(" left → Listed limit h es ts → IsSymbol ")" right
        → length es ≤ limit → Arguments limit h es (left ∷ ts ++ right ∷ [])

  -- Expressions separated by commas, at least one; the height is that of the highest.
  pub data Listed (limit : ℕ) : ℕ → List Expr → List Token → Type 0 where
    last_listed : {h : ℕ} {e : Expr} {ts : List Token} → Expression limit 1 h e ts → Listed limit h (e ∷ []) ts
    more_listed : {h k : ℕ} {comma : Token} {e : Expr} {es : List Expr} {ts us : List Token} → Expression limit 1 h e ts → IsSymbol "," comma
        → Listed limit k es us → Listed limit (max h k) (e ∷ es) (ts ++ comma ∷ us)

  -- What stands after the `=` of a variable, and between braces: an expression, or items in braces.
  pub data Init (limit : ℕ) : ℕ → Expr → List Token → Type 0 where
    value : {h : ℕ} {e : Expr} {ts : List Token} → Expression limit 1 h e ts → Init limit h e ts
    braces : {h : ℕ} {items : List Expr} {ts : List Token} → Items limit h items ts
        → Init limit (suc h) (expr_at (start_of ts) (node.Braces items)) ts

  -- Items in braces, any number of them, with or without a comma after the last; the height is that of the highest.
  pub data Items (limit : ℕ) : ℕ → List Expr → List Token → Type 0 where
    no_items : {left right : Token} → IsSymbol "{" left → IsSymbol "}" right → Items limit 0 [] (left ∷ right ∷ [])
    some_items : {h : ℕ} {left right : Token} {es : List Expr} {ts : List Token} → IsSymbol "{" left → Inits limit h es ts → IsSymbol "}" right
        → Items limit h es (left ∷ ts ++ right ∷ [])
    items_comma : {h : ℕ} {left last right : Token} {es : List Expr} {ts : List Token} → IsSymbol "{" left → Inits limit h es ts → IsSymbol "," last
        → IsSymbol "}" right → Items limit h es (left ∷ ts ++ last ∷ right ∷ [])

  -- Items separated by commas, at least one.
  pub data Inits (limit : ℕ) : ℕ → List Expr → List Token → Type 0 where
    last_item : {h : ℕ} {e : Expr} {ts : List Token} → Init limit h e ts → Inits limit h (e ∷ []) ts
    more_items : {h k : ℕ} {comma : Token} {e : Expr} {es : List Expr} {ts us : List Token} → Init limit h e ts → IsSymbol "," comma
        → Inits limit k es us → Inits limit (max h k) (e ∷ es) (ts ++ comma ∷ us)
