-- Every expression of the grammar is read, as that tree with that height.
use Rattle.std.proofs.Common.{◌≡◌, ℕ, ◌<◌, false, List, [], ◌∷◌, ◌++◌, length, refl, arith}
use Rattle.mol_base.specs.Token.{Token}
use Rattle.jav_tree.specs.declared.expr.Expr.{Expr}
use Rattle.jav_tree.specs.Expressions as grammar
use Rattle.jav_tree.specs.Expressions.{Expression, Primary, BeforeDot, primary_before_dot, array_before_dot, ArrayCreation, Sizes, last_size, more_sizes, Arguments, no_arguments, some_arguments, Listed, last_listed, more_listed, Init, value, braces, Items, no_items, some_items, items_comma, Inits, last_item, more_items}
use Rattle.jav_parse_cursor.specs.declared.limits.Limits.{Limits}
use Rattle.jav_parse_cursor.specs.declared.tall.Shape.{Shape}
use Rattle.jav_parse_cursor.specs.declared.tall.Shape.TheVariants.{Target, Invocation, Atom, Array}
use Rattle.jav_parse_cursor.specs.Nodes.{is_array}
use Rattle.jav_parse_cursor.specs.Reading.{sort as next}
use Rattle.jav_parse.proofs.CompleteItems.{value_whole, braces_whole, no_items_whole, some_items_whole, items_comma_whole, last_item_whole, more_items_whole}
use Rattle.jav_parse.proofs.CompleteLists.{no_arguments_whole, some_arguments_whole, last_listed_whole, more_listed_whole, last_size_whole, more_sizes_whole, sized_whole, filled_whole}
use Rattle.jav_parse.proofs.CompleteOperators.{part_whole, step_after_whole, prefix_whole, step_before_whole, cast_whole, operand_whole, binary_whole, instance_whole, assign_whole, cond_whole}
use Rattle.jav_parse.proofs.CompletePrimary.{literal_read, this_read, name_read, paren_read, field_read, index_read, call_on_read, call_read, super_call_read, new_read}
use Rattle.jav_parse.proofs.FirstTokens.{Begins, primary_begins, array_begins, expression_begins, cast_begins}
use Rattle.jav_parse.proofs.WholeReadings.{Builds, PartRead, DottedRead, ExprRead, ArgumentsRead, ListedRead, InitRead, ItemsRead, InitsRead, SizesRead}

-- the shape of a part as the rules tell it
abbrev pub shape_of : grammar.Shape → Shape
shape_of grammar.target = Target
shape_of grammar.invocation = Invocation
shape_of grammar.atom = Atom

no_array : (s : grammar.Shape) → is_array (shape_of s) ≡ false
no_array grammar.target = refl
no_array grammar.invocation = refl
no_array grammar.atom = refl

before_dot : {l : Limits} {h : ℕ} {e : Expr} {ts : List Token} (s : Shape) → PartRead l s h e ts → DottedRead l h e ts
before_dot s x = record { shape = s; part = x }

-- items in braces are not empty
items_long : {limit h : ℕ} {es : List Expr} {ts : List Token} → Items limit h es ts → 0 < length ts
items_long (no_items a c) = omega arith
items_long (some_items a x c) = omega arith
items_long (items_comma a x b c) = omega arith

begins_long : (ts : List Token) → Begins (next (ts ++ [])) → 0 < length ts
unfolding next
begins_long [] b = absurd b
begins_long (t ∷ ts) b = omega arith

expression_long : {limit level h : ℕ} {e : Expr} {ts : List Token} → Expression limit level h e ts → 0 < length ts
expression_long {ts = ts} x = begins_long ts (expression_begins x [])

init_long : {limit h : ℕ} {e : Expr} {ts : List Token} → Init limit h e ts → 0 < length ts
init_long (value x) = expression_long x
init_long (braces x) = items_long x

module _ (l : Limits) (w : Builds l) where
  mutual
    pub expression_read : {level h : ℕ} {e : Expr} {ts : List Token} → Expression l.most level h e ts → ExprRead l level h e ts
    expression_read (grammar.assign low x o y) = assign_whole l w (expression_begins (grammar.assign low x o y)) low (part_whole l w (primary_begins x) (primary_read x)) o (expression_read y)
    expression_read (grammar.cond low x q a c b) = cond_whole l w (expression_begins (grammar.cond low x q a c b)) low (expression_read x) q (expression_read a) c (expression_read b)
    expression_read (grammar.binary low o x y) = binary_whole l w (expression_begins (grammar.binary low o x y)) low o (expression_read x) (expression_read y)
    expression_read (grammar.instance_of low x k to) = instance_whole l w (expression_begins (grammar.instance_of low x k to)) low (expression_read x) k to
    expression_read (grammar.prefix low o x) = operand_whole l w (expression_begins (grammar.prefix low o x)) (prefix_whole l w o (expression_read x))
    expression_read (grammar.step_before low o x) = operand_whole l w (expression_begins (grammar.step_before low o x)) (step_before_whole l w o (primary_read x))
    expression_read (grammar.cast low a to c may x) = operand_whole l w (expression_begins (grammar.cast low a to c may x)) (cast_whole l w a to c may (cast_begins x) (expression_read x))
    expression_read (grammar.step_after low x o) = operand_whole l w (expression_begins (grammar.step_after low x o)) (step_after_whole l w (primary_begins x) (primary_read x) o)
    expression_read (grammar.creation low x) = operand_whole l w (expression_begins (grammar.creation low x)) (part_whole l w (array_begins x) (array_read x))
    expression_read {level} (grammar.primary x) = operand_whole l w (expression_begins {level = level} (grammar.primary x)) (part_whole l w (primary_begins x) (primary_read x))

    pub primary_read : {shape : grammar.Shape} {h : ℕ} {e : Expr} {ts : List Token} → Primary l.most shape h e ts → PartRead l (shape_of shape) h e ts
    primary_read (grammar.literal t) = literal_read l w t
    primary_read (grammar.this t) = this_read l w t
    primary_read (grammar.paren a x c) = paren_read l w a (expression_read x) c
    primary_read (grammar.name t) = name_read l w t
    primary_read (grammar.field x d t) = field_read l w (before_dot_read x) d t
    primary_read (grammar.index {shape = s} x a i c) = index_read l w (shape_of s) (no_array s) (primary_read x) a (expression_read i) c
    primary_read (grammar.call_on x d t args) = call_on_read l w (before_dot_read x) d t (arguments_read args)
    primary_read (grammar.call t args) = call_read l w t (arguments_read args)
    primary_read (grammar.super_call k d t args) = super_call_read l w k d t (arguments_read args)
    primary_read (grammar.new k q args) = new_read l w k q (arguments_read args)

    before_dot_read : {h : ℕ} {e : Expr} {ts : List Token} → BeforeDot l.most h e ts → DottedRead l h e ts
    before_dot_read (primary_before_dot {shape = s} x) = before_dot (shape_of s) (primary_read x)
    before_dot_read (array_before_dot x) = before_dot Array (array_read x)

    pub array_read : {h : ℕ} {e : Expr} {ts : List Token} → ArrayCreation l.most h e ts → PartRead l Array h e ts
    array_read (grammar.sized k b s n few) = sized_whole l w k b (sizes_read s) n few
    array_read (grammar.filled k b n few i) = filled_whole l w k b n few (items_read i)

    sizes_read : {h : ℕ} {es : List Expr} {ts : List Token} → Sizes l.most h es ts → SizesRead l h es ts
    sizes_read (last_size a x c) = last_size_whole l w a (expression_read x) c
    sizes_read (more_sizes a x c y) = more_sizes_whole l w a (expression_read x) c (sizes_read y)

    pub arguments_read : {h : ℕ} {es : List Expr} {ts : List Token} → Arguments l.most h es ts → ArgumentsRead l h es ts
    arguments_read (no_arguments a c) = no_arguments_whole l w a c
    arguments_read (some_arguments a x c few) = some_arguments_whole l w a (listed_read x) c few

    listed_read : {h : ℕ} {es : List Expr} {ts : List Token} → Listed l.most h es ts → ListedRead l h es ts
    listed_read (last_listed x) = last_listed_whole l w (expression_read x)
    listed_read (more_listed x c y) = more_listed_whole l w (expression_read x) c (listed_read y)

    pub init_read : {h : ℕ} {e : Expr} {ts : List Token} → Init l.most h e ts → InitRead l h e ts
    init_read (value x) = value_whole l (expression_read x)
    init_read (braces x) = braces_whole l (items_read x)

    items_read : {h : ℕ} {es : List Expr} {ts : List Token} → Items l.most h es ts → ItemsRead l h es ts
    items_read (no_items a c) = no_items_whole l a c
    items_read (some_items a x c) = some_items_whole l a (inits_read x) c
    items_read (items_comma a x b c) = items_comma_whole l a (inits_read x) b c

    inits_read : {h : ℕ} {es : List Expr} {ts : List Token} → Inits l.most h es ts → InitsRead l h es ts
    inits_read (last_item x) = last_item_whole l (init_long x) (init_read x)
    inits_read (more_items x c y) = more_items_whole l (init_read x) c (inits_read y)
