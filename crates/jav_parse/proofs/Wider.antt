-- A tree in which no list has more than m items has none with more than k, where k is no less.
use Rattle.std.proofs.Common.{ℕ, ◌≤◌, Bool, List, Option, arith}
use Rattle.mol_base.specs.Token.{Token}
use Rattle.jav_tree.specs.declared.types.TypeName.{TypeName}
use Rattle.jav_tree.specs.declared.expr.Expr.{Expr}
use Rattle.jav_tree.specs.declared.stmt.Declarator.{Declarator}
use Rattle.jav_tree.specs.declared.stmt.Let.{Let}
use Rattle.jav_tree.specs.declared.stmt.ForStart.{ForStart}
use Rattle.jav_tree.specs.declared.stmt.Else.{Else}
use Rattle.jav_tree.specs.declared.stmt.StmtNode.{StmtNode}
use Rattle.jav_tree.specs.declared.stmt.Stmt.{Stmt}
use Rattle.jav_tree.specs.declared.unit.Param.{Param}
use Rattle.jav_tree.specs.declared.unit.Member.{Member}
use Rattle.jav_tree.specs.declared.unit.Unit.{Unit as Source}
use Rattle.jav_tree.specs.Expressions.{Shape, Expression, Primary, BeforeDot, ArrayCreation, Sizes, Arguments, Listed, Init, Items, Inits}
use Rattle.jav_tree.specs.Members.{Result, Parameter, ParameterList, Parameters, Declared, Body}
use Rattle.jav_tree.specs.Statements.{MaybeExpression, Variable, Variables, Declaration, Start, Update, SuperStart, Plain, Choice, Otherwise, Branch, Enclosed, BlockOf, Single, Statements, ConstructorBlock}
use Rattle.jav_tree.specs.Types.{WholeType}
use Rattle.jav_tree.specs.Units.{SourceFile}

module _ {m k : ℕ} (le : m ≤ k) where
  pub wider_whole_type : {to : TypeName} {ts : List Token} → WholeType m to ts → WholeType k to ts
  wider_whole_type (WholeType.whole a b c) = WholeType.whole a b (omega arith)

  mutual
    pub wider_expression : {level h : ℕ} {e : Expr} {ts : List Token} → Expression m level h e ts → Expression k level h e ts
    wider_expression (Expression.assign a b c d) = Expression.assign a (wider_primary b) c (wider_expression d)
    wider_expression (Expression.cond a b c d e f) = Expression.cond a (wider_expression b) c (wider_expression d) e (wider_expression f)
    wider_expression (Expression.binary a b c d) = Expression.binary a b (wider_expression c) (wider_expression d)
    wider_expression (Expression.instance_of a b c d) = Expression.instance_of a (wider_expression b) c (wider_whole_type d)
    wider_expression (Expression.prefix a b c) = Expression.prefix a b (wider_expression c)
    wider_expression (Expression.step_before a b c) = Expression.step_before a b (wider_primary c)
    wider_expression (Expression.cast a b c d e f) = Expression.cast a b (wider_whole_type c) d e (wider_expression f)
    wider_expression (Expression.step_after a b c) = Expression.step_after a (wider_primary b) c
    wider_expression (Expression.creation a b) = Expression.creation a (wider_array_creation b)
    wider_expression (Expression.primary a) = Expression.primary (wider_primary a)

    pub wider_primary : {shape : Shape} {h : ℕ} {e : Expr} {ts : List Token} → Primary m shape h e ts → Primary k shape h e ts
    wider_primary (Primary.literal a) = Primary.literal a
    wider_primary (Primary.this a) = Primary.this a
    wider_primary (Primary.paren a b c) = Primary.paren a (wider_expression b) c
    wider_primary (Primary.name a) = Primary.name a
    wider_primary (Primary.field a b c) = Primary.field (wider_before_dot a) b c
    wider_primary (Primary.index a b c d) = Primary.index (wider_primary a) b (wider_expression c) d
    wider_primary (Primary.call_on a b c d) = Primary.call_on (wider_before_dot a) b c (wider_arguments d)
    wider_primary (Primary.call a b) = Primary.call a (wider_arguments b)
    wider_primary (Primary.super_call a b c d) = Primary.super_call a b c (wider_arguments d)
    wider_primary (Primary.new a b c) = Primary.new a b (wider_arguments c)

    pub wider_before_dot : {h : ℕ} {e : Expr} {ts : List Token} → BeforeDot m h e ts → BeforeDot k h e ts
    wider_before_dot (BeforeDot.primary_before_dot a) = BeforeDot.primary_before_dot (wider_primary a)
    wider_before_dot (BeforeDot.array_before_dot a) = BeforeDot.array_before_dot (wider_array_creation a)

    pub wider_array_creation : {h : ℕ} {e : Expr} {ts : List Token} → ArrayCreation m h e ts → ArrayCreation k h e ts
    wider_array_creation (ArrayCreation.sized a b c d e) = ArrayCreation.sized a b (wider_sizes c) d (omega arith)
    wider_array_creation (ArrayCreation.filled a b c d e) = ArrayCreation.filled a b c (omega arith) (wider_items e)

    pub wider_sizes : {h : ℕ} {es : List Expr} {ts : List Token} → Sizes m h es ts → Sizes k h es ts
    wider_sizes (Sizes.last_size a b c) = Sizes.last_size a (wider_expression b) c
    wider_sizes (Sizes.more_sizes a b c d) = Sizes.more_sizes a (wider_expression b) c (wider_sizes d)

    pub wider_arguments : {h : ℕ} {es : List Expr} {ts : List Token} → Arguments m h es ts → Arguments k h es ts
    wider_arguments (Arguments.no_arguments a b) = Arguments.no_arguments a b
    wider_arguments (Arguments.some_arguments a b c d) = Arguments.some_arguments a (wider_listed b) c (omega arith)

    pub wider_listed : {h : ℕ} {es : List Expr} {ts : List Token} → Listed m h es ts → Listed k h es ts
    wider_listed (Listed.last_listed a) = Listed.last_listed (wider_expression a)
    wider_listed (Listed.more_listed a b c) = Listed.more_listed (wider_expression a) b (wider_listed c)

    pub wider_init : {h : ℕ} {e : Expr} {ts : List Token} → Init m h e ts → Init k h e ts
    wider_init (Init.value a) = Init.value (wider_expression a)
    wider_init (Init.braces a) = Init.braces (wider_items a)

    pub wider_items : {h : ℕ} {es : List Expr} {ts : List Token} → Items m h es ts → Items k h es ts
    wider_items (Items.no_items a b) = Items.no_items a b
    wider_items (Items.some_items a b c) = Items.some_items a (wider_inits b) c
    wider_items (Items.items_comma a b c d) = Items.items_comma a (wider_inits b) c d

    pub wider_inits : {h : ℕ} {es : List Expr} {ts : List Token} → Inits m h es ts → Inits k h es ts
    wider_inits (Inits.last_item a) = Inits.last_item (wider_init a)
    wider_inits (Inits.more_items a b c) = Inits.more_items (wider_init a) b (wider_inits c)

  pub wider_maybe_expression : {h : ℕ} {e : Option Expr} {ts : List Token} → MaybeExpression m h e ts → MaybeExpression k h e ts
  wider_maybe_expression MaybeExpression.no = MaybeExpression.no
  wider_maybe_expression (MaybeExpression.yes a) = MaybeExpression.yes (wider_expression a)

  pub wider_variable : {h : ℕ} {d : ℕ × Declarator} {ts : List Token} → Variable m h d ts → Variable k h d ts
  wider_variable (Variable.alone a) = Variable.alone a
  wider_variable (Variable.valued a b c) = Variable.valued a b (wider_init c)

  pub wider_variables : {h : ℕ} {ds : List (ℕ × Declarator)} {ts : List Token} → Variables m h ds ts → Variables k h ds ts
  wider_variables (Variables.last a) = Variables.last (wider_variable a)
  wider_variables (Variables.more a b c) = Variables.more (wider_variable a) b (wider_variables c)

  pub wider_declaration : {h : ℕ} {l : Let} {ts : List Token} → Declaration m h l ts → Declaration k h l ts
  wider_declaration (Declaration.declaration a b c) = Declaration.declaration a (wider_whole_type b) (wider_variables c)

  pub wider_start : {h : ℕ} {start : ForStart} {ts : List Token} → Start m h start ts → Start k h start ts
  wider_start Start.none = Start.none
  wider_start (Start.variables a) = Start.variables (wider_declaration a)
  wider_start (Start.expressions a b) = Start.expressions (wider_listed a) b

  pub wider_update : {h : ℕ} {es : List Expr} {ts : List Token} → Update m h es ts → Update k h es ts
  wider_update Update.none = Update.none
  wider_update (Update.some a b) = Update.some (wider_listed a) b

  pub wider_super_start : {h : ℕ} {n : StmtNode} {ts : List Token} → SuperStart m h n ts → SuperStart k h n ts
  wider_super_start (SuperStart.super_start a b c) = SuperStart.super_start a (wider_arguments b) c

  mutual
    pub wider_plain : {h : ℕ} {b : Bool} {n : StmtNode} {ts : List Token} → Plain m h b n ts → Plain k h b n ts
    wider_plain (Plain.expression a b c) = Plain.expression (wider_expression a) b c
    wider_plain (Plain.while a b c d e) = Plain.while a b (wider_expression c) d (wider_branch e)
    wider_plain (Plain.for a b c d e f g h i) = Plain.for a b (wider_start c) d (wider_maybe_expression e) f (wider_update g) h (wider_branch i)
    wider_plain (Plain.each a b c d e f g h i) = Plain.each a b c (wider_whole_type d) e f (wider_expression g) h (wider_branch i)
    wider_plain (Plain.return a b c) = Plain.return a (wider_maybe_expression b) c
    wider_plain (Plain.throw a b c) = Plain.throw a (wider_expression b) c
    wider_plain (Plain.break a b) = Plain.break a b
    wider_plain (Plain.continue a b) = Plain.continue a b
    wider_plain (Plain.nothing a) = Plain.nothing a

    pub wider_choice : {h : ℕ} {b : Bool} {n : StmtNode} {ts : List Token} → Choice m h b n ts → Choice k h b n ts
    wider_choice (Choice.short a b c d e) = Choice.short a b (wider_expression c) d (wider_branch e)
    wider_choice (Choice.long a b c d e f g h) = Choice.long a b (wider_expression c) d (wider_branch e) f g (wider_otherwise h)

    pub wider_otherwise : {h : ℕ} {b : Bool} {other : Else} {ts : List Token} → Otherwise m h b other ts → Otherwise k h b other ts
    wider_otherwise (Otherwise.else_if a) = Otherwise.else_if (wider_choice a)
    wider_otherwise (Otherwise.else_enclosed a) = Otherwise.else_enclosed (wider_enclosed a)

    pub wider_branch : {h : ℕ} {b : Bool} {items : List Stmt} {notes : List (List ℕ)} {ts : List Token} → Branch m h b items notes ts → Branch k h b items notes ts
    wider_branch (Branch.enclosed_branch a) = Branch.enclosed_branch (wider_enclosed a)
    wider_branch (Branch.choice_branch a b) = Branch.choice_branch a (wider_choice b)

    pub wider_enclosed : {h : ℕ} {b : Bool} {items : List Stmt} {notes : List (List ℕ)} {ts : List Token} → Enclosed m h b items notes ts → Enclosed k h b items notes ts
    wider_enclosed (Enclosed.enclosed_block a b) = Enclosed.enclosed_block a (wider_block_of b)
    wider_enclosed (Enclosed.enclosed_plain a b) = Enclosed.enclosed_plain a (wider_plain b)

    pub wider_block_of : {h : ℕ} {items : List Stmt} {notes : List (List ℕ)} {ts : List Token} → BlockOf m h items notes ts → BlockOf k h items notes ts
    wider_block_of (BlockOf.braced a b c d) = BlockOf.braced a (wider_statements b) c d

    pub wider_single : {h : ℕ} {n : StmtNode} {ts : List Token} → Single m h n ts → Single k h n ts
    wider_single (Single.single_block a) = Single.single_block (wider_block_of a)
    wider_single (Single.single_declaration a b) = Single.single_declaration (wider_declaration a) b
    wider_single (Single.single_plain a) = Single.single_plain (wider_plain a)
    wider_single (Single.single_choice a) = Single.single_choice (wider_choice a)

    pub wider_statements : {h : ℕ} {items : List Stmt} {ts : List Token} → Statements m h items ts → Statements k h items ts
    wider_statements Statements.no_statements = Statements.no_statements
    wider_statements (Statements.more_statements a b c) = Statements.more_statements a (wider_single b) (wider_statements c)

  pub wider_constructor_block : {h : ℕ} {items : List Stmt} {notes : List (List ℕ)} {ts : List Token} → ConstructorBlock m h items notes ts → ConstructorBlock k h items notes ts
  wider_constructor_block (ConstructorBlock.usual a) = ConstructorBlock.usual (wider_block_of a)
  wider_constructor_block (ConstructorBlock.super_first a b c d e f) = ConstructorBlock.super_first a b (wider_super_start c) (wider_statements d) e f

  pub wider_result : {to : TypeName} {ts : List Token} → Result m to ts → Result k to ts
  wider_result (Result.void a) = Result.void a
  wider_result (Result.type a) = Result.type (wider_whole_type a)

  pub wider_parameter : {p : Param} {ts : List Token} → Parameter m p ts → Parameter k p ts
  wider_parameter (Parameter.parameter a b c) = Parameter.parameter a (wider_whole_type b) c

  pub wider_parameter_list : {ps : List Param} {ts : List Token} → ParameterList m ps ts → ParameterList k ps ts
  wider_parameter_list (ParameterList.last a) = ParameterList.last (wider_parameter a)
  wider_parameter_list (ParameterList.more a b c) = ParameterList.more (wider_parameter a) b (wider_parameter_list c)

  pub wider_parameters : {ps : List Param} {ts : List Token} → Parameters m ps ts → Parameters k ps ts
  wider_parameters (Parameters.none a b) = Parameters.none a b
  wider_parameters (Parameters.some a b c d) = Parameters.some a (wider_parameter_list b) c (omega arith)

  pub wider_declared : {name : Option (List ℕ)} {h : ℕ} {ms : List Member} {ts : List Token} → Declared m name h ms ts → Declared k name h ms ts
  wider_declared (Declared.field a b c d e f) = Declared.field a b c (wider_whole_type d) (wider_variables e) f
  wider_declared (Declared.method a b c d e f g h) = Declared.method a b c (wider_result d) e (wider_parameters f) g (wider_block_of h)
  wider_declared (Declared.abstract_method a b c d e f g) = Declared.abstract_method a b c (wider_result d) e (wider_parameters f) g
  wider_declared (Declared.constructor_of a b c d e f g h) = Declared.constructor_of a b c d e (wider_parameters f) g (wider_constructor_block h)

  pub wider_body : {name : Option (List ℕ)} {h : ℕ} {ms : List Member} {ts : List Token} → Body m name h ms ts → Body k name h ms ts
  wider_body Body.none = Body.none
  wider_body (Body.more a b) = Body.more (wider_declared a) (wider_body b)

  pub wider_source_file : {h : ℕ} {u : Source} {ts : List Token} → SourceFile m h u ts → SourceFile k h u ts
  wider_source_file (SourceFile.source a b c d e f g h i j p q r s t u) = SourceFile.source a b c d e f g h i j p q (wider_body r) s t u
