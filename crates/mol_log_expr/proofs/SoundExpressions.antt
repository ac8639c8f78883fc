-- What is read of an expression is in the form, and what is refused could have gone on up to the bad word.
use Rattle.std.proofs.Common.{◌≡◌, ℕ, zero, suc, ◌<◌, Bool, true, ◌==◌, List, [], ◌∷◌, ◌++◌, length, Option}
use Rattle.std.proofs.Common.{Some, refl, arith, codes, nat_lt, option_map}
use Rattle.std.proofs.lemmas.List.{append-nil}
use Rattle.std.proofs.lemmas.Bool.Decides.{nat_tests}
use Rattle.mol_base.specs.Spelled.{id_of}
use Rattle.mol_base.specs.declared.ident.Id.{Id}
use Rattle.mol_values_types.specs.declared.iexpr.Argument.{Argument}
use Rattle.mol_values_types.specs.declared.iexpr.IExpr.{IExpr}
use Rattle.mol_values_types.specs.declared.iexpr.IExpr.TheVariants as exprs
use Rattle.mol_log_words.specs.Words.{Word, has_form, counts, numeral, count_fits, within, pairs_fit}
use Rattle.mol_log_expr.specs.Scope.{has, any, local_of}
use Rattle.mol_log_words.specs.Heads.{or_else}
use Rattle.mol_log_expr.specs.Expressions.{IsExpr, literal, this, local, param, own, static_field, new_default, outside_name}
use Rattle.mol_log_expr.specs.Expressions.{outside_class, call, static_call, super_call, new, call_on, outside_call, outside_super}
use Rattle.mol_log_expr.specs.Expressions.{outside_call_on, new_outside, new_array, array_literal, braces, index, unary, post, binary}
use Rattle.mol_log_expr.specs.Expressions.{assign, cond, field, outside_field, cast, instance_of, AreArguments, no_arguments}
use Rattle.mol_log_expr.specs.Expressions.{more_arguments, AreExprs, no_exprs, more_exprs, argument_of, operand_role}
use Rattle.mol_log_expr.specs.ExpressionHeads.{allows, unary_form, is_high_enough, fits, spelled, leaf_spelled, call_spelled}
use Rattle.mol_log_expr.specs.ExpressionHeads.{outside_spelled, items_spelled, operator_spelled, part_spelled, any_head, leaf_head}
use Rattle.mol_log_expr.specs.ExpressionHeads.{call_head, outside_head, items_head, operator_head, part_head}
use Rattle.mol_log_expr.specs.ExpressionReader.{leaf_by, argument, arguments, exprs_in, call_by, outside_by, items_by}
use Rattle.mol_log_expr.specs.ExpressionReader.{operator_by, part_by, expr_by, expr}
use Rattle.mol_log_words.specs.Reader.{take}
use Rattle.mol_log_words.specs.declared.bounds.Bounds.{Bounds}
use Rattle.mol_log_words.specs.declared.bounds.Bounds.TheVariants.{Few, Sizes, Any}
use Rattle.mol_log_expr.specs.declared.expr_role.ExprRole.{ExprRole}
use Rattle.mol_log_expr.specs.declared.expr_role.ExprRole.TheVariants as role
use Rattle.mol_log_words.specs.declared.type_role.TypeRole.TheVariants as type_role
use Rattle.mol_log_words.specs.declared.text_form.TextForm.TheVariants as form
use Rattle.mol_log_expr.specs.declared.expr_head.Head.{Head}
use Rattle.mol_log_expr.specs.declared.expr_head.Head.TheVariants.{Leaf, Call, Outside, Items, Operator, Part}
use Rattle.mol_log_expr.specs.declared.expr_head.LeafHead.{LeafHead}
use Rattle.mol_log_expr.specs.declared.expr_head.LeafHead.TheVariants as leaf_at
use Rattle.mol_log_expr.specs.declared.expr_head.CallHead.{CallHead}
use Rattle.mol_log_expr.specs.declared.expr_head.CallHead.TheVariants as call_at
use Rattle.mol_log_expr.specs.declared.expr_head.OutsideHead.{OutsideHead}
use Rattle.mol_log_expr.specs.declared.expr_head.OutsideHead.TheVariants as outside_at
use Rattle.mol_log_expr.specs.declared.expr_head.ItemsHead.{ItemsHead}
use Rattle.mol_log_expr.specs.declared.expr_head.ItemsHead.TheVariants as items_at
use Rattle.mol_log_expr.specs.declared.expr_head.OperatorHead.{OperatorHead}
use Rattle.mol_log_expr.specs.declared.expr_head.OperatorHead.TheVariants as operator_at
use Rattle.mol_log_expr.specs.declared.expr_head.PartHead.{PartHead}
use Rattle.mol_log_expr.specs.declared.expr_head.PartHead.TheVariants as part_at
use Rattle.mol_log_words.proofs.Repeats.{Counted, reads_list}
use Rattle.mol_log_words.proofs.Numerals.{and_left, and_right, counts_numeral}
use Rattle.mol_log_words.proofs.Prefix.{Reads, reads_bind, reads_pure}
use Rattle.mol_log_words.proofs.Single.{reads_passing, reads_id, reads_counted, reads_head, named_is, or_is, wrapped_is}
use Rattle.mol_log_words.proofs.SoundTypes.{sound_most}
use Rattle.mol_log_words.proofs.Texts.{a_literal, a_name, a_dotted}

-- ---- a head is spelled by its word alone

leaf_is : (v : Word) (h : Head) → option_map Leaf (leaf_head v) ≡ Some h → v ≡ spelled h
unfolding leaf_head
leaf_is v h e =
    wrapped_is Leaf (leaf_head v) h (λ x. v ≡ spelled x) (λ k q. named_is leaf_spelled
    (leaf_at.Lit ∷ leaf_at.This ∷ leaf_at.Local ∷ leaf_at.Param ∷ leaf_at.Own ∷ leaf_at.StaticField ∷ leaf_at.NewDefault ∷
    leaf_at.OutsideName ∷ leaf_at.OutsideClass ∷ []) v k q) e

call_is : (v : Word) (h : Head) → option_map Call (call_head v) ≡ Some h → v ≡ spelled h
unfolding call_head
call_is v h e =
    wrapped_is Call (call_head v) h (λ x. v ≡ spelled x) (λ k q. named_is call_spelled
    (call_at.Own ∷ call_at.Static ∷ call_at.On ∷ call_at.Super ∷ call_at.New ∷ []) v k q) e

outside_is : (v : Word) (h : Head) → option_map Outside (outside_head v) ≡ Some h → v ≡ spelled h
unfolding outside_head
outside_is v h e =
    wrapped_is Outside (outside_head v) h (λ x. v ≡ spelled x) (λ k q. named_is outside_spelled
    (outside_at.Own ∷ outside_at.On ∷ outside_at.Super ∷ outside_at.New ∷ []) v k q) e

items_is : (v : Word) (h : Head) → option_map Items (items_head v) ≡ Some h → v ≡ spelled h
unfolding items_head
items_is v h e =
    wrapped_is Items (items_head v) h (λ x. v ≡ spelled x) (λ k q. named_is items_spelled
    (items_at.NewArray ∷ items_at.ArrayLit ∷ items_at.Braces ∷ items_at.Index ∷ []) v k q) e

operator_is : (v : Word) (h : Head) → option_map Operator (operator_head v) ≡ Some h → v ≡ spelled h
unfolding operator_head
operator_is v h e =
    wrapped_is Operator (operator_head v) h (λ x. v ≡ spelled x) (λ k q. named_is operator_spelled
    (operator_at.Unary ∷ operator_at.Post ∷ operator_at.Binary ∷ operator_at.Assign ∷ operator_at.Cond ∷ []) v k q) e

part_is : (v : Word) (h : Head) → option_map Part (part_head v) ≡ Some h → v ≡ spelled h
unfolding part_head
part_is v h e =
    wrapped_is Part (part_head v) h (λ x. v ≡ spelled x) (λ k q. named_is part_spelled
    (part_at.Field ∷ part_at.OutsideField ∷ part_at.Cast ∷ part_at.InstanceOf ∷ []) v k q) e

pub head_is : (v : Word) (h : Head) → any_head v ≡ Some h → v ≡ spelled h
unfolding any_head
head_is v h e =
    let P : Type 0 = v ≡ spelled h in
    let parts : Option Head = option_map Part (part_head v) in
    let operators : Option Head = or_else (option_map Operator (operator_head v)) parts in
    let arrays : Option Head = or_else (option_map Items (items_head v)) operators in
    let outsides : Option Head = or_else (option_map Outside (outside_head v)) arrays in
    let calls : Option Head = or_else (option_map Call (call_head v)) outsides in
    or_is (option_map Leaf (leaf_head v)) calls h P (leaf_is v h)
    (λ q. or_is (option_map Call (call_head v)) outsides h P (call_is v h)
    (λ q. or_is (option_map Outside (outside_head v)) arrays h P (outside_is v h)
    (λ q. or_is (option_map Items (items_head v)) operators h P (items_is v h)
    (λ q. or_is (option_map Operator (operator_head v)) parts h P (operator_is v h) (part_is v h) q) q) q) q) e

pub zero_counts : counts (codes "0") ≡ Some 0
unfolding counts
zero_counts = refl

pub one_counts : counts (codes "1") ≡ Some 1
unfolding counts
one_counts = refl

-- some expression that may stand at a place of the role
example : ExprRole → Head
example role.Value = Leaf leaf_at.NewDefault
example role.First = Leaf leaf_at.NewDefault
example role.Target = Leaf leaf_at.OutsideName
example role.Statement = Leaf leaf_at.NewDefault

example_head : (r : ExprRole) → any_head (spelled (example r)) ≡ Some (example r)
unfolding any_head leaf_head example
example_head role.Value = refl
example_head role.First = refl
example_head role.Target = refl
example_head role.Statement = refl

example_fits : (r : ExprRole) (d : ℕ) (b : Bool) → fits r d b (example r) ≡ true
unfolding example
example_fits role.Value d b = refl
example_fits role.First d b = refl
example_fits role.Target d b = refl
example_fits role.Statement d b = refl

step_form : (r : ExprRole) → has_form (unary_form r) (codes "++") ≡ true
step_form role.Value = refl
step_form role.First = refl
step_form role.Target = refl
step_form role.Statement = refl

first_has : (n : ℕ) (ns : List ℕ) → has n (n ∷ ns) ≡ true
first_has n ns = let q : (n == n) ≡ true = grind (arith, nat_tests) in rw q refl

reads_local : (ns : List ℕ) → any ns ≡ true
    → Reads (λ m us. (v : Word) × (us ≡ v ∷ []) × (counts v ≡ Some m) × (has m ns ≡ true)) (take (local_of ns))
reads_local [] f = absurd cc
reads_local (n ∷ ns) f = reads_counted (λ m. has m (n ∷ ns)) (numeral n) n (counts_numeral n) (first_has n ns)

no_pairs : (n : ℕ) → within Sizes n ≡ true → pairs_fit n 0 ≡ true
no_pairs n h = grind (arith, nat_tests)

pub high : (d : ℕ) → nat_lt 0 d ≡ true → 0 < d
high d h = grind (arith, nat_tests)

one_fits : (d : ℕ) → nat_lt 0 d ≡ true → count_fits Sizes (nat_lt 0 d) 1 ≡ true
one_fits d h = rw h refl

-- an argument, and what words spell it
data IsArgument : ℕ → List ℕ → Argument → List Word → Type 0 where
  pair : {d : ℕ} {s : List ℕ} {id : Id} {w : Word} {e : IExpr} {ts : List Word} → id_of w ≡ Some id → IsExpr role.Value d s e ts
      → IsArgument d s (argument_of id e) (w ∷ ts)

one_more : (d : ℕ) (s : List ℕ) (a : Argument) (more : List Argument) (us vs : List Word) → IsArgument d s a us → AreArguments d s more vs
    → AreArguments d s (a ∷ more) (us ++ vs)
one_more d s a more us vs (pair i x) list = more_arguments i x list

module _ (d : ℕ) (s : List ℕ) (inner : 0 < d → (r : ExprRole) → Reads (IsExpr r d s) (expr d s r)) where
  sound_argument : nat_lt 0 d ≡ true → Reads (IsArgument d s) (argument d (expr d s))
  sound_argument f = reads_bind reads_id (λ id us q. reads_bind (inner (high d f) role.Value) (λ e vs x.
      reads_pure (argument_of id e) (rw (q.1, append-nil) (pair q.2 x))))

  pub sound_arguments : Reads (Counted (AreArguments d s) Few) (arguments d (expr d s))
  sound_arguments = reads_list (IsArgument d s) (AreArguments d s) (argument d (expr d s)) no_arguments (one_more d s) Few (nat_lt 0 d)
      (codes "0") 0 zero_counts refl sound_argument

  pub sound_exprs : (bounds : Bounds) (r : ExprRole) (w : Word) (n : ℕ) → counts w ≡ Some n → count_fits bounds (nat_lt 0 d) n ≡ true
      → Reads (Counted (AreExprs r d s) bounds) (exprs_in d (expr d s) bounds r)
  sound_exprs bounds r w n c f = reads_list (IsExpr r d s) (AreExprs r d s) (expr d s r) no_exprs
      (λ a more us vs x list. more_exprs x list) bounds (nat_lt 0 d) w n c f
      (λ p. inner (high d p) r)

  sound_leaf_by : (r : ExprRole) (h : LeafHead) → allows r (Leaf h) ≡ true → is_high_enough d (any s) (Leaf h) ≡ true
      → Reads (λ y vs. IsExpr r (suc d) s y (spelled (Leaf h) ∷ vs)) (leaf_by s h)
  sound_leaf_by r leaf_at.Lit a f =
      reads_bind (reads_passing (has_form form.Literal) (codes "0") a_literal) (λ t us q. reads_pure (exprs.Lit t) (rw q.0 (literal a q.1)))
  sound_leaf_by r leaf_at.This a f = reads_pure exprs.This (this a)
  sound_leaf_by r leaf_at.Local a f = reads_bind (reads_local s f) (λ n us q. reads_pure (exprs.Local n) (rw q.1 (local a q.2 q.3)))
  sound_leaf_by r leaf_at.Param a f = reads_bind reads_id (λ id us q. reads_pure (exprs.Param id) (rw q.1 (param a q.2)))
  sound_leaf_by r leaf_at.Own a f = reads_bind reads_id (λ id us q. reads_pure (exprs.Own id) (rw q.1 (own a q.2)))
  sound_leaf_by r leaf_at.StaticField a f = reads_bind reads_id (λ id us q. reads_pure (exprs.StaticField id) (rw q.1 (static_field a q.2)))
  sound_leaf_by r leaf_at.NewDefault a f = reads_bind reads_id (λ id us q. reads_pure (exprs.NewDefault id) (rw q.1 (new_default a q.2)))
  sound_leaf_by r leaf_at.OutsideName a f = reads_bind (reads_passing (has_form form.Name) (codes "a") a_name)
      (λ t us q. reads_pure (exprs.OutsideName t) (rw q.0 (outside_name a q.1)))
  sound_leaf_by r leaf_at.OutsideClass a f = reads_bind (reads_passing (has_form form.Dotted) (codes "a") a_dotted)
      (λ t us q. reads_pure (exprs.OutsideClass t) (rw q.0 (outside_class a q.1)))

  sound_call_by : (r : ExprRole) (h : CallHead) → allows r (Call h) ≡ true → is_high_enough d (any s) (Call h) ≡ true
      → Reads (λ y vs. IsExpr r (suc d) s y (spelled (Call h) ∷ vs)) (call_by d (expr d s) h)
  sound_call_by r call_at.Own a f = reads_bind reads_id (λ id us q. reads_bind sound_arguments (λ es vs k.
      reads_pure (exprs.Call id es) (rw (q.1, k.2, append-nil) (call a q.2 k.3 k.4))))
  sound_call_by r call_at.Static a f = reads_bind reads_id (λ id us q. reads_bind sound_arguments (λ es vs k.
      reads_pure (exprs.StaticCall id es) (rw (q.1, k.2, append-nil) (static_call a q.2 k.3 k.4))))
  sound_call_by r call_at.Super a f = reads_bind reads_id (λ id us q. reads_bind sound_arguments (λ es vs k.
      reads_pure (exprs.SuperCall id es) (rw (q.1, k.2, append-nil) (super_call a q.2 k.3 k.4))))
  sound_call_by r call_at.New a f = reads_bind reads_id (λ id us q. reads_bind sound_arguments (λ es vs k.
      reads_pure (exprs.New id es) (rw (q.1, k.2, append-nil) (new a q.2 k.3 k.4))))
  sound_call_by r call_at.On a f =
      reads_bind reads_id (λ id us q. reads_bind (inner (high d f) role.Value) (λ e vs x. reads_bind sound_arguments (λ es ws k.
      reads_pure (exprs.CallOn id e es) (rw (q.1, k.2, append-nil) (call_on k.0 a q.2 x k.3 k.4)))))

  sound_few : Reads (Counted (AreExprs role.Value d s) Few) (exprs_in d (expr d s) Few role.Value)
  sound_few = sound_exprs Few role.Value (codes "0") 0 zero_counts refl

  sound_many : Reads (Counted (AreExprs role.First d s) Any) (exprs_in d (expr d s) Any role.First)
  sound_many = sound_exprs Any role.First (codes "0") 0 zero_counts refl

  sound_outside_by : (r : ExprRole) (h : OutsideHead) → allows r (Outside h) ≡ true → is_high_enough d (any s) (Outside h) ≡ true
      → Reads (λ y vs. IsExpr r (suc d) s y (spelled (Outside h) ∷ vs)) (outside_by d (expr d s) h)
  sound_outside_by r outside_at.Own a f =
      reads_bind (reads_passing (has_form form.Name) (codes "a") a_name) (λ t us q. reads_bind sound_few (λ es vs k.
      reads_pure (exprs.OutsideCall t es) (rw (q.0, k.2, append-nil) (outside_call a q.1 k.3 k.4))))
  sound_outside_by r outside_at.Super a f =
      reads_bind (reads_passing (has_form form.Name) (codes "a") a_name) (λ t us q. reads_bind sound_few (λ es vs k.
      reads_pure (exprs.OutsideSuperCall t es) (rw (q.0, k.2, append-nil) (outside_super a q.1 k.3 k.4))))
  sound_outside_by r outside_at.On a f =
      reads_bind (reads_passing (has_form form.Name) (codes "a") a_name) (λ t us q. reads_bind (inner (high d f) role.Value) (λ e vs x.
      reads_bind sound_few (λ es ws k. reads_pure (exprs.OutsideCallOn t e es)
      (rw (q.0, k.2, append-nil) (outside_call_on k.0 a q.1 x k.3 k.4)))))
  sound_outside_by r outside_at.New a f = reads_bind (sound_most type_role.Outside) (λ t us x. reads_bind sound_few (λ es vs k.
      reads_pure (exprs.NewOutside t es) (rw (k.2, append-nil) (new_outside k.0 a x k.3 k.4))))

  sound_items_by : (r : ExprRole) (h : ItemsHead) → allows r (Items h) ≡ true → is_high_enough d (any s) (Items h) ≡ true
      → Reads (λ y vs. IsExpr r (suc d) s y (spelled (Items h) ∷ vs)) (items_by d (expr d s) h)
  sound_items_by r items_at.NewArray a f = reads_bind (sound_most type_role.Item)
      (λ t us x. reads_bind (sound_exprs Sizes role.Value (codes "1") 1 one_counts (one_fits d f)) (λ es vs k.
      reads_bind (reads_counted (pairs_fit (length es)) (codes "0") 0 zero_counts (no_pairs (length es) k.3.1)) (λ n ws q.
      reads_pure (exprs.NewArray t es n) (rw (k.2, q.1) (new_array k.0 q.0 a x k.3 k.4 q.2 q.3)))))
  sound_items_by r items_at.ArrayLit a f = reads_bind (sound_most type_role.Array) (λ t us x. reads_bind sound_many (λ es vs k.
      reads_pure (exprs.ArrayLit t es) (rw (k.2, append-nil) (array_literal k.0 a x k.3 k.4))))
  sound_items_by r items_at.Braces a f =
      reads_bind sound_many (λ es vs k. reads_pure (exprs.Braces es) (rw (k.2, append-nil) (braces a k.3 k.4)))
  sound_items_by r items_at.Index a f =
      reads_bind (inner (high d f) role.Value) (λ e us x. reads_bind (inner (high d f) role.Value) (λ i vs y.
      reads_pure (exprs.Index e i) (rw append-nil (index a x y))))

  sound_operator_by : (r : ExprRole) (h : OperatorHead) → allows r (Operator h) ≡ true → is_high_enough d (any s) (Operator h) ≡ true
      → Reads (λ y vs. IsExpr r (suc d) s y (spelled (Operator h) ∷ vs)) (operator_by d (expr d s) r h)
  sound_operator_by r operator_at.Unary a f = reads_bind (reads_passing (has_form (unary_form r)) (codes "++") (step_form r)) (λ op us q.
      reads_bind (inner (high d f) (operand_role op)) (λ e vs x. reads_pure (exprs.Unary op e) (rw (q.0, append-nil) (unary a q.1 x))))
  sound_operator_by r operator_at.Post a f = reads_bind (reads_passing (has_form form.Step) (codes "++") refl) (λ op us q.
      reads_bind (inner (high d f) role.Target) (λ e vs x. reads_pure (exprs.Post op e) (rw (q.0, append-nil) (post a q.1 x))))
  sound_operator_by r operator_at.Binary a f = reads_bind (reads_passing (has_form form.Binary) (codes "+") refl) (λ op us q.
      reads_bind (inner (high d f) role.Value) (λ e vs x. reads_bind (inner (high d f) role.Value) (λ e' ws y.
      reads_pure (exprs.Binary op e e') (rw (q.0, append-nil) (binary a q.1 x y)))))
  sound_operator_by r operator_at.Assign a f = reads_bind (reads_passing (has_form form.Assignment) (codes "=") refl) (λ op us q.
      reads_bind (inner (high d f) role.Target) (λ e vs x. reads_bind (inner (high d f) role.Value) (λ e' ws y.
      reads_pure (exprs.Assign op e e') (rw (q.0, append-nil) (assign a q.1 x y)))))
  sound_operator_by r operator_at.Cond a f =
      reads_bind (inner (high d f) role.Value) (λ c us x. reads_bind (inner (high d f) role.Value) (λ e vs y.
      reads_bind (inner (high d f) role.Value) (λ e' ws z. reads_pure (exprs.Cond c e e') (rw append-nil (cond a x y z)))))

  sound_part_by : (r : ExprRole) (h : PartHead) → allows r (Part h) ≡ true → is_high_enough d (any s) (Part h) ≡ true
      → Reads (λ y vs. IsExpr r (suc d) s y (spelled (Part h) ∷ vs)) (part_by d (expr d s) h)
  sound_part_by r part_at.Field a f = reads_bind reads_id (λ id us q. reads_bind (inner (high d f) role.Value) (λ e vs x.
      reads_pure (exprs.Field id e) (rw (q.1, append-nil) (field a q.2 x))))
  sound_part_by r part_at.OutsideField a f =
      reads_bind (reads_passing (has_form form.Name) (codes "a") a_name) (λ t us q. reads_bind (inner (high d f) role.Value) (λ e vs x.
      reads_pure (exprs.OutsideField t e) (rw (q.0, append-nil) (outside_field a q.1 x))))
  sound_part_by r part_at.Cast a f = reads_bind (sound_most type_role.Value) (λ t us x. reads_bind (inner (high d f) role.Value) (λ e vs y.
      reads_pure (exprs.Cast t e) (rw append-nil (cast a x y))))
  sound_part_by r part_at.InstanceOf a f =
      reads_bind (inner (high d f) role.Value) (λ e us x. reads_bind (sound_most type_role.Value) (λ t vs y.
      reads_pure (exprs.InstanceOf e t) (rw append-nil (instance_of a x y))))

  sound_by : (r : ExprRole) (h : Head) → fits r d (any s) h ≡ true
      → Reads (λ y vs. IsExpr r (suc d) s y (spelled h ∷ vs)) (expr_by d (expr d s) s r h)
  sound_by r (Leaf h) f = sound_leaf_by r h (and_left (allows r (Leaf h)) (is_high_enough d (any s) (Leaf h)) f)
      (and_right (allows r (Leaf h)) (is_high_enough d (any s) (Leaf h)) f)
  sound_by r (Call h) f = sound_call_by r h (and_left (allows r (Call h)) (is_high_enough d (any s) (Call h)) f)
      (and_right (allows r (Call h)) (is_high_enough d (any s) (Call h)) f)
  sound_by r (Outside h) f = sound_outside_by r h (and_left (allows r (Outside h)) (is_high_enough d (any s) (Outside h)) f)
      (and_right (allows r (Outside h)) (is_high_enough d (any s) (Outside h)) f)
  sound_by r (Items h) f = sound_items_by r h (and_left (allows r (Items h)) (is_high_enough d (any s) (Items h)) f)
      (and_right (allows r (Items h)) (is_high_enough d (any s) (Items h)) f)
  sound_by r (Operator h) f = sound_operator_by r h (and_left (allows r (Operator h)) (is_high_enough d (any s) (Operator h)) f)
      (and_right (allows r (Operator h)) (is_high_enough d (any s) (Operator h)) f)
  sound_by r (Part h) f = sound_part_by r h (and_left (allows r (Part h)) (is_high_enough d (any s) (Part h)) f)
      (and_right (allows r (Part h)) (is_high_enough d (any s) (Part h)) f)

pub sound_expr : (d : ℕ) (s : List ℕ) → 0 < d → (r : ExprRole) → Reads (IsExpr r d s) (expr d s r)
unfolding expr
sound_expr zero s p r = absurd (omega arith)
sound_expr (suc d) s p r = reads_head spelled any_head head_is (fits r d (any s)) (example r) (example_head r) (example_fits r d (any s))
    (sound_by d s (λ q r'. sound_expr d s q r') r)
