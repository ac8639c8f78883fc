-- What is read of a body is in the form, and what is refused could have gone on up to the bad word.
use Rattle.std.proofs.Common.{◌≡◌, ℕ, zero, suc, ◌<◌, Bool, true, false, ◌||◌, List, [], ◌∷◌, ◌++◌, length, Option, Some}
use Rattle.std.proofs.Common.{None, refl, sym, ap, ◌∙◌, append_assoc, arith, codes, nat_lt, ◌==◌, subst}
use Rattle.std.proofs.lemmas.List.{append-nil, take-take}
use Rattle.std.proofs.lemmas.Slice.Eq.{bytes_eq-Decides}
use Rattle.std.specs.Bool.{then_some}
use Rattle.mol_values_types.specs.Blocks.{block_of}
use Rattle.mol_values_types.specs.declared.iblock.IBlock.{IBlock}
use Rattle.mol_values_types.specs.declared.iblock.IDeclarator.{IDeclarator}
use Rattle.mol_values_types.specs.declared.iblock.IElse.TheVariants as elses
use Rattle.mol_values_types.specs.declared.iblock.IForStart.TheVariants as starts
use Rattle.mol_values_types.specs.declared.iblock.IStmt.{IStmt}
use Rattle.mol_values_types.specs.declared.iblock.IStmtNode.TheVariants as nodes
use Rattle.mol_values_types.specs.declared.iexpr.IExpr.{IExpr}
use Rattle.mol_log_expr.specs.Scope.{Scope, declaring, closed, no_locals}
use Rattle.mol_log_words.specs.Words.{Word, has_form, counts, count_fits, within}
use Rattle.mol_log_words.specs.Heads.{named}
use Rattle.mol_log_words.specs.FirstBad.{Form}
use Rattle.mol_log_words.specs.Reader.{Parser, take}
use Rattle.mol_log_expr.specs.Expressions.{IsExpr, AreExprs}
use Rattle.mol_log_words.specs.Words.{IsCount}
use Rattle.mol_log_expr.specs.ExpressionReader.{expr, exprs_in}
use Rattle.mol_log_body.specs.Bodies.{declarator_of, let_of, stmt_of, body_of, are_comments, IsMaybe, without, with, AreDeclared}
use Rattle.mol_log_body.specs.Bodies.{no_names, more_names, IsLet, variables, IsStart, no_start, let_start, do_start, IsSimple, does}
use Rattle.mol_log_body.specs.Bodies.{returns, throws, breaks, continues, empties, IsSuper, super_by, super_default, super_outside}
use Rattle.mol_log_body.specs.Bodies.{IsNode, simple, parent, block, lets, branch, while_loop, for_loop, each_loop, IsBlock, blocks}
use Rattle.mol_log_body.specs.Bodies.{AreStmts, no_stmts, more_stmts, IsStmt, stmt, IsIf, branches, IsElse, no_else, otherwise, else_if}
use Rattle.mol_log_body.specs.Bodies.{IsBody}
use Rattle.mol_log_body.specs.BodyReader as reader
use Rattle.mol_log_body.specs.BodyReader.{after, Level, level, comments, opening}
use Rattle.mol_log_body.specs.StatementHeads.{choice_spelled, choice_fits, choice_of, start_spelled, start_heads, start_fits}
use Rattle.mol_log_body.specs.StatementHeads.{else_spelled, else_heads, else_fits, node_spelled, node_fits, simple_spelled, super_spelled}
use Rattle.mol_log_body.specs.StatementHeads.{loop_spelled, is_block, marked}
use Rattle.mol_log_words.specs.declared.bounds.Bounds.{Bounds}
use Rattle.mol_log_words.specs.declared.bounds.Bounds.TheVariants as bound
use Rattle.mol_log_body.specs.declared.loop_header.LoopHeader.{LoopHeader}
use Rattle.mol_log_body.specs.declared.loop_header.LoopHeader.TheVariants as header
use Rattle.mol_log_expr.specs.declared.expr_role.ExprRole.{ExprRole}
use Rattle.mol_log_expr.specs.declared.expr_role.ExprRole.TheVariants as role
use Rattle.mol_log_words.specs.declared.type_role.TypeRole.TheVariants as type_role
use Rattle.mol_log_body.specs.declared.stmt_head.Choice.{Choice}
use Rattle.mol_log_body.specs.declared.stmt_head.Choice.TheVariants as choice
use Rattle.mol_log_body.specs.declared.stmt_head.NodeHead.{NodeHead}
use Rattle.mol_log_body.specs.declared.stmt_head.NodeHead.TheVariants as head
use Rattle.mol_log_body.specs.declared.stmt_head.LoopHead.{LoopHead}
use Rattle.mol_log_body.specs.declared.stmt_head.LoopHead.TheVariants as repeated
use Rattle.mol_log_body.specs.declared.stmt_head.SimpleHead.{SimpleHead}
use Rattle.mol_log_body.specs.declared.stmt_head.SimpleHead.TheVariants as simple_at
use Rattle.mol_log_body.specs.declared.stmt_head.SuperHead.{SuperHead}
use Rattle.mol_log_body.specs.declared.stmt_head.SuperHead.TheVariants as parent_at
use Rattle.mol_log_body.specs.declared.stmt_head.ElseHead.{ElseHead}
use Rattle.mol_log_body.specs.declared.stmt_head.ElseHead.TheVariants as else_at
use Rattle.mol_log_body.specs.declared.stmt_head.StartHead.{StartHead}
use Rattle.mol_log_body.specs.declared.stmt_head.StartHead.TheVariants as start_at
use Rattle.mol_log_words.specs.declared.text_form.TextForm.TheVariants as form
use Rattle.mol_log_words.proofs.Numerals.{and_left, and_right}
use Rattle.mol_log_body.proofs.Openings.{sound_opening, noted_append}
use Rattle.mol_log_words.proofs.Prefix.{Reads, reads_map, reads_bind, reads_pure, reads_take}
use Rattle.mol_log_words.proofs.Repeats.{Counted, reads_list, counted_list, positive_deeper}
use Rattle.mol_log_words.proofs.Single.{reads_passing, reads_id, reads_counted, reads_head, named_is, kept_is}
use Rattle.mol_log_expr.proofs.Locals.{scope_of}
use Rattle.mol_log_expr.proofs.SoundExpressions.{sound_expr, sound_exprs, sound_arguments, high, zero_counts, one_counts}
use Rattle.mol_log_words.proofs.SoundTypes.{sound_most}
use Rattle.mol_log_words.proofs.Texts.{a_name, a_comment}

or_true : (b : Bool) → (b || true) ≡ true
or_true true = refl
or_true false = refl

or_false : (b : Bool) → (b || false) ≡ true → b ≡ true
or_false true h = refl
or_false false h = absurd cc

-- ---- comments

abbrev pub Comments : Form (List Word)
Comments es ts = (ts ≡ es) × (are_comments es ≡ true)

one_comment : (a : Word) (more us vs : List Word) → (us ≡ a ∷ []) × (has_form form.Comment a ≡ true) → Comments more vs
    → Comments (a ∷ more) (us ++ vs)
one_comment a more us vs h k = (ap (λ z. z ++ vs) h.0 ∙ ap (λ z. a ∷ z) k.0, rw h.1 k.1)

sound_comments : Reads (Counted Comments bound.Any) comments
sound_comments = reads_list (λ t us. (us ≡ t ∷ []) × (has_form form.Comment t ≡ true)) Comments reader.comment
    (refl, refl) one_comment bound.Any true (codes "0") 0 zero_counts refl
    (λ e. reads_passing (has_form form.Comment) (codes "//") a_comment)

-- ---- parts of statements

sound_expr_at : (d : ℕ) (s : List ℕ) (r : ExprRole) → nat_lt 0 d ≡ true → Reads (IsExpr r d s) (expr d s r)
sound_expr_at d s r f = sound_expr d s (high d f) r

no_word : (c : Choice) → named (choice_spelled c) (false ∷ true ∷ []) (choice_spelled c false) ≡ Some false
no_word choice.Final = refl
no_word choice.Init = refl
no_word choice.Some = refl

sound_maybe_by : (c : Choice) (r : ExprRole) (d : ℕ) (s : List ℕ) (b : Bool) → choice_fits (nat_lt 0 d) b ≡ true
    → Reads (λ y vs. IsMaybe c r d s y (choice_spelled c b ∷ vs)) (reader.maybe_by r d s b)
sound_maybe_by c r d s false f = reads_pure None without
sound_maybe_by c r d s true f =
    reads_bind (sound_expr_at d s r (or_false (nat_lt 0 d) f)) (λ e us x. reads_pure (Some e) (rw append-nil (with x)))

sound_maybe : (c : Choice) (r : ExprRole) (d : ℕ) (s : List ℕ) → Reads (IsMaybe c r d s) (reader.maybe c r d s)
sound_maybe c r d s = reads_head (choice_spelled c) (named (choice_spelled c) (false ∷ true ∷ []))
    (named_is (choice_spelled c) (false ∷ true ∷ [])) (choice_fits (nat_lt 0 d)) false (no_word c)
    (or_true (nat_lt 0 d)) (sound_maybe_by c r d s)

sound_final : Reads (λ b us. us ≡ choice_spelled choice.Final b ∷ []) (take (choice_of choice.Final true))
sound_final = reads_map (reads_take (choice_of choice.Final true) (codes "plain") false refl) (λ b us one.
    let both = kept_is (choice_fits true) (named (choice_spelled choice.Final) (false ∷ true ∷ []) one.0) b one.1 in
    one.2 ∙ ap (λ v. v ∷ []) (named_is (choice_spelled choice.Final) (false ∷ true ∷ []) one.0 b both.0))

-- a variable, and what words spell it
data IsDeclarator : ℕ → Scope → IDeclarator → Scope → List Word → Type 0 where
  named_so : {d : ℕ} {s : Scope} {name : Word} {init : Option IExpr} {ts : List Word} → has_form form.Name name ≡ true
      → IsMaybe choice.Init role.First d (declaring s).locals init ts → IsDeclarator d s (declarator_of name init) (declaring s) (name ∷ ts)

sound_declarator : (d : ℕ) (s : Scope) → Reads (λ x ts. IsDeclarator d s x.0 x.1 ts) (reader.declarator d s)
sound_declarator d s = reads_bind (reads_passing (has_form form.Name) (codes "a") a_name)
    (λ name us q. reads_bind (sound_maybe choice.Init role.First d (declaring s).locals) (λ i vs x.
    reads_pure (after (declaring s) (declarator_of name i)) (rw (q.0, append-nil) (named_so q.1 x))))

one_declared : {d : ℕ} {s s' s'' : Scope} {x : IDeclarator} {ds : List IDeclarator} {us ws : List Word} → IsDeclarator d s x s' us
    → AreDeclared d s' ds s'' ws → AreDeclared d s (x ∷ ds) s'' (us ++ ws)
one_declared (named_so h i) list = more_names h i list

sound_declared : (d n : ℕ) (all : List IDeclarator) (s : Scope)
    → Reads (λ x ts. (ds : List IDeclarator) × (x.0 ≡ all ++ ds) × (length ds ≡ n) × AreDeclared d s ds x.1 ts) (reader.declared d n all s)
unfolding reader.declared
sound_declared d zero all s = reads_pure (after s all) ([], sym (append-nil all), refl, no_names)
sound_declared d (suc n) all s = reads_bind (sound_declarator d s) (λ x us k.
    reads_map (sound_declared d n (all ++ x.0 ∷ []) x.1)
    (λ y ws l. (x.0 ∷ l.0, l.1 ∙ append_assoc all (x.0 ∷ []) l.0, ap suc l.2, one_declared k l.3)))

sound_declarators : (d : ℕ) (s : Scope)
    → Reads (λ x ts. (w : Word) × (us : List Word) × (ts ≡ w ∷ us) × IsCount bound.Positive w (length x.0) × AreDeclared d s x.0 x.1 us)
    (reader.declarators d s)
sound_declarators d s = reads_bind (reads_counted (count_fits bound.Positive true) (codes "1") 1 one_counts refl)
    (λ n us r. reads_map (sound_declared d n [] s) (λ ds vs k.
    let list = counted_list (λ es ts. AreDeclared d s es ds.1 ts) bound.Positive ds.0 k.0 n r.0 us vs r.1 r.2
    (and_left (within bound.Positive n) (n == 0 || true) r.3) k.1 k.2 k.3 in
    (list.0, list.1, list.2, list.3, list.4)))

sound_variables : (d : ℕ) (s : Scope) → Reads (λ x ts. IsLet d s x.0 x.1 ts) (reader.variables d s)
sound_variables d s =
    reads_bind sound_final (λ b us q. reads_bind (sound_most type_role.Value) (λ t vs x. reads_bind (sound_declarators d s) (λ ds ws k.
    reads_pure (after ds.1 (let_of b t ds.0)) (rw (q, k.2, append-nil) (variables k.0 x k.3 k.4)))))

one_fits : (d : ℕ) → nat_lt 0 d ≡ true → count_fits bound.Positive (nat_lt 0 d) 1 ≡ true
one_fits d h = rw h refl

exprs_at : (d : ℕ) (s : List ℕ) (bounds : Bounds) (r : ExprRole) (w : Word) (n : ℕ) → counts w ≡ Some n
    → count_fits bounds (nat_lt 0 d) n ≡ true
    → Reads (Counted (AreExprs r d s) bounds) (exprs_in d (expr d s) bounds r)
exprs_at d s bounds r w n c f = sound_exprs d s (sound_expr d s) bounds r w n c f

sound_start_by : (d : ℕ) (s : Scope) (h : StartHead) → start_fits d h ≡ true
    → Reads (λ y vs. IsStart d s y.0 y.1 (start_spelled h ∷ vs)) (reader.start_by d s h)
sound_start_by d s start_at.None f = reads_pure (after s starts.None) no_start
sound_start_by d s start_at.Let f =
    reads_bind (sound_variables d s) (λ l us x. reads_pure (after l.1 (starts.Let l.0)) (rw append-nil (let_start x)))
sound_start_by d s start_at.Do f =
    reads_bind (exprs_at d s.locals bound.Positive role.Statement (codes "1") 1 one_counts (one_fits d f)) (λ es us k.
    reads_pure (after s (starts.Do es)) (rw (k.2, append-nil) (do_start k.3 k.4)))

sound_start : (d : ℕ) (s : Scope) → Reads (λ x ts. IsStart d s x.0 x.1 ts) (reader.for_start d s)
sound_start d s = reads_head start_spelled (named start_spelled start_heads) (named_is start_spelled start_heads)
    (start_fits d) start_at.None refl refl (sound_start_by d s)

sound_simple_by : (first : Bool) (d : ℕ) (s : List ℕ) (h : SimpleHead) → node_fits first d (head.Simple h) ≡ true
    → Reads (λ y vs. IsSimple d s y (simple_spelled h ∷ vs)) (reader.simple_by d s h)
sound_simple_by first d s simple_at.Do f =
    reads_bind (sound_expr_at d s role.Statement f) (λ e us x. reads_pure (nodes.Do e) (rw append-nil (does x)))
sound_simple_by first d s simple_at.Return f =
    reads_bind (sound_maybe choice.Some role.Value d s) (λ e us x. reads_pure (nodes.Return e) (rw append-nil (returns x)))
sound_simple_by first d s simple_at.Throw f =
    reads_bind (sound_expr_at d s role.Value f) (λ e us x. reads_pure (nodes.Throw e) (rw append-nil (throws x)))
sound_simple_by first d s simple_at.Break f = reads_pure nodes.Break breaks
sound_simple_by first d s simple_at.Continue f = reads_pure nodes.Continue continues
sound_simple_by first d s simple_at.Empty f = reads_pure nodes.Empty empties

sound_super_by : (d : ℕ) (s : List ℕ) (h : SuperHead) → Reads (λ y vs. IsSuper d s y (super_spelled h ∷ vs)) (reader.super_by d s h)
sound_super_by d s parent_at.Constructor = reads_bind reads_id (λ id us q. reads_bind (sound_arguments d s (sound_expr d s)) (λ es vs k.
    reads_pure (nodes.Super id es) (rw (q.1, k.2, append-nil) (super_by q.2 k.3 k.4))))
sound_super_by d s parent_at.Default = reads_bind reads_id (λ id us q. reads_pure (nodes.SuperDefault id) (rw q.1 (super_default q.2)))
sound_super_by d s parent_at.Outside = reads_bind (exprs_at d s bound.Few role.Value (codes "0") 0 zero_counts refl) (λ es us k.
    reads_pure (nodes.SuperOutside es) (rw (k.2, append-nil) (super_outside k.3 k.4)))

-- ---- statements and blocks

record SoundLevel (d : ℕ) (low : Level) : Type 0 where
  stmt' : (first : Bool) (s : Scope) → Reads (λ x ts. IsStmt first d s x.0 x.1 ts) (low.stmt first s)
  items'' : (first : Bool) (s : Scope) → Reads (λ x ts. IsBlock first d s x.0 x.1 (codes "block" ∷ ts)) (low.items' first s)
  else_part' : (s : Scope) → Reads (λ x ts. IsElse d s x.0 x.1 ts) (low.else_part s)

block_word : (v : Word) (mark : Unit {0}) → marked is_block v ≡ Some mark → v ≡ codes "block"
block_word v mark e = (bytes_eq-Decides v (codes "block")).0 (by_test (is_block v) e) where
  by_test : (b : Bool) → then_some b (tt {0}) ≡ Some mark → b ≡ true
  by_test true k = refl
  by_test false k = absurd cc

sound_block : (first : Bool) (d : ℕ) (s : Scope) (rest : Scope → Parser (IBlock × Scope))
    → Reads (λ x ts. IsBlock first d s x.0 x.1 (codes "block" ∷ ts)) (rest s)
    → Reads (λ x ts. IsBlock first d s x.0 x.1 ts) (reader.block_by rest s)
sound_block first d s rest h = reads_bind (reads_take (marked is_block) (codes "block") (tt {0}) refl) (λ mark us r.
    rw (r.2, block_word r.0 mark r.1) h)

-- a block leaves no local of its own
pub block_closed : {first : Bool} {d : ℕ} {s s' : Scope} {b : IBlock} {ts : List Word} → IsBlock first d s b s' ts → closed s s' ≡ s'
block_closed {first} {d} {s} (blocks {s' = inner} n tail c list t a) =
    let n : ℕ = length s.locals in ap (scope_of inner.next) (take-take n n inner.locals (omega arith))

-- what a loop is whose header was read, with a block after it
abbrev Headed : Bool → ℕ → Scope → LoopHead → LoopHeader → Scope → List Word → Type 0
Headed first d s h x inner us = (b : IBlock) (s' : Scope) (vs : List Word) → IsBlock false d inner b s' vs
    → IsNode first d s (reader.looped x b) (closed s s') (loop_spelled h ∷ (us ++ vs))

sound_each : (first : Bool) (d : ℕ) (s : Scope) → 0 < d
    → Reads (λ x us. Headed first d s repeated.Each x (declaring s) us) (reader.each_parts d s.locals)
sound_each first d s p =
    reads_bind sound_final (λ b us q. reads_bind (sound_most type_role.Value)
    (λ t vs x. reads_bind (reads_passing (has_form form.Name) (codes "a") a_name) (λ name ws r.
    reads_bind (sound_expr d s.locals p role.Value) (λ e xs y.
    reads_pure (header.Each b t name e) (λ z s' ys c.
    rw (q, r.0, append-nil, append_assoc vs (name ∷ xs) ys) (each_loop name x r.1 y c))))))

sound_header : (first : Bool) (d : ℕ) (s : Scope) (h : LoopHead) → 0 < d
    → Reads (λ x us. Headed first d s h x.0 x.1 us) (reader.header_by d s h)
sound_header first d s repeated.While p = reads_bind (sound_expr d s.locals p role.Value) (λ e us x.
    reads_pure (after s (header.While e)) (λ b s' vs y.
    subst (λ (z : Scope). IsNode first d s (nodes.While e b) z (codes "while" ∷ ((us ++ []) ++ vs))) (sym (block_closed y))
    (rw append-nil (while_loop x y))))
sound_header first d s repeated.For p =
    reads_bind (sound_start d s) (λ x us a. reads_bind (sound_maybe choice.Some role.Value d x.1.locals) (λ e vs b.
    reads_bind (exprs_at d x.1.locals bound.Any role.Statement (codes "0") 0 zero_counts refl) (λ es ws k.
    reads_pure (after x.1 (header.For x.0 e es)) (λ y s' xs c.
    rw (k.2, append-nil, append_assoc us (vs ++ k.0 ∷ k.1) xs, append_assoc vs (k.0 ∷ k.1) xs) (for_loop k.0 a b k.3 k.4 c)))))
sound_header first d s repeated.Each p = reads_bind (sound_each first d s p) (λ x us k.
    reads_pure (after (declaring s) x) (λ b s' vs y. rw append-nil (k b s' vs y)))

module _ (d : ℕ) (low : Level) (inner : 0 < d → SoundLevel d low) where
  sound_statements : (first : Bool) (n : ℕ) (all : List IStmt) (s : Scope) → (0 < n → 0 < d)
      → Reads (λ x ts. (xs : List IStmt) × (x.0 ≡ all ++ xs) × (length xs ≡ n) × AreStmts first d s xs x.1 ts)
      (reader.statements low.stmt first n all s)
  unfolding reader.statements
  sound_statements first zero all s p = reads_pure (after s all) ([], sym (append-nil all), refl, no_stmts)
  sound_statements first (suc n) all s p = reads_bind ((inner (p (omega arith))).stmt' first s) (λ x us r.
      reads_map (sound_statements false n (all ++ x.0 ∷ []) x.1 (λ _. p (omega arith)))
      (λ y ws k. (x.0 ∷ k.0, k.1 ∙ append_assoc all (x.0 ∷ []) k.0, ap suc k.2, more_stmts r k.3)))

  sound_counted : (first : Bool) (s : Scope)
      → Reads (λ x ts. (w : Word) × (us : List Word) × (ts ≡ w ∷ us) × IsCount bound.Any w (length x.0) × AreStmts first d s x.0 x.1 us)
      (reader.counted_statements d low.stmt first s)
  sound_counted first s = reads_bind (reads_counted (count_fits bound.Any (nat_lt 0 d)) (codes "0") 0 zero_counts refl) (λ n us r.
      reads_map (sound_statements first n [] s (λ some. high d
      (positive_deeper n (nat_lt 0 d) some (and_right true (n == 0 || nat_lt 0 d) r.3)))) (λ xs vs k.
      let list = counted_list (λ es ts. AreStmts first d s es xs.1 ts) bound.Any xs.0 k.0 n r.0 us vs r.1 r.2 refl k.1 k.2 k.3 in
      (list.0, list.1, list.2, list.3, list.4)))

  sound_after : (first : Bool) (s : Scope) (xs : List IStmt) (s' : Scope) (us : List Word) (k : Word) (ts : List Word) → us ≡ k ∷ ts
      → counts k ≡ Some (length xs) → AreStmts first d s xs s' ts
      → Reads (λ b vs. IsBlock first (suc d) s b (closed s s') (codes "block" ∷ (us ++ vs))) (reader.block_after xs)
  sound_after first s xs s' us k ts e c list = reads_bind sound_comments (λ tail ws t.
      reads_pure (block_of xs tail) (rw (e, t.2, append-nil, t.4.0) (blocks t.0 tail c list t.3.0 t.4.1)))

  sound_items : (first : Bool) (s : Scope)
      → Reads (λ x ts. IsBlock first (suc d) s x.0 x.1 (codes "block" ∷ ts)) (reader.items d low.stmt first s)
  sound_items first s = reads_bind (sound_counted first s) (λ xs us k.
      reads_bind (sound_after first s xs.0 xs.1 us k.0 k.1 k.2 k.3.0 k.4)
      (λ b vs y. reads_pure (after (closed s xs.1) b) (rw append-nil y)))

  sound_branches : 0 < d → (e : IExpr) (s : Scope) (us : List Word) → IsExpr role.Value d s.locals e us
      → Reads (λ x ts. IsIf d s (reader.if_of e x.0) x.1 (us ++ ts)) (reader.branches_by low s)
  sound_branches p e s us x = reads_bind (sound_block false d s (low.items' false) ((inner p).items'' false s)) (λ b vs y.
      reads_bind ((inner p).else_part' b.1) (λ o ws z.
      reads_pure (after o.1 (reader.branches_of b.0 o.0)) (rw append-nil (branches x y z))))

  sound_if : nat_lt 0 d ≡ true → (s : Scope) → Reads (λ x ts. IsIf d s x.0 x.1 ts) (reader.if_by d low s)
  sound_if f s =
      let p : 0 < d = high d f in
      reads_bind (sound_expr d s.locals p role.Value)
      (λ e us x. reads_bind (sound_branches p e s us x) (λ all vs y.
      reads_pure (after all.1 (reader.if_of e all.0)) (rw append-nil y)))

  sound_loop_by : (first : Bool) (s : Scope) (h : LoopHead) → nat_lt 0 d ≡ true
      → Reads (λ y vs. IsNode first d s y.0 y.1 (loop_spelled h ∷ vs)) (reader.loop_by d low s h)
  sound_loop_by first s h f =
      let p : 0 < d = high d f in
      reads_bind (sound_header first d s h p)
      (λ x us k. reads_bind (sound_block false d x.1 (low.items' false) ((inner p).items'' false x.1)) (λ b vs y.
      reads_pure (after (closed s b.1) (reader.looped x.0 b.0)) (rw append-nil (k b.0 b.1 vs y))))

  sound_node_by : (first : Bool) (s : Scope) (h : NodeHead) → node_fits first d h ≡ true
      → Reads (λ y vs. IsNode first d s y.0 y.1 (node_spelled h ∷ vs)) (reader.node_by d low s h)
  sound_node_by first s head.Block f =
      reads_bind ((inner (high d f)).items'' false s) (λ b us x. reads_pure (after b.1 (nodes.Block b.0)) (rw append-nil (block x)))
  sound_node_by first s head.Let f =
      reads_bind (sound_variables d s) (λ l us x. reads_pure (after l.1 (nodes.Let l.0)) (rw append-nil (lets x)))
  sound_node_by first s head.If f = reads_bind (sound_if f s) (λ i us x. reads_pure (after i.1 (nodes.If i.0)) (rw append-nil (branch x)))
  sound_node_by first s (head.Loop h) f = sound_loop_by first s h f
  sound_node_by first s (head.Simple h) f =
      reads_bind (sound_simple_by first d s.locals h f) (λ x us k. reads_pure (after s x) (rw append-nil (simple k)))
  sound_node_by first s (head.Super h) f =
      reads_bind (sound_super_by d s.locals h) (λ x us k. reads_pure (after s x) (rw (append-nil, f) (parent k)))

  sound_stmt_by : (first : Bool) (s : Scope) → Reads (λ y ts. IsStmt first (suc d) s y.0 y.1 ts) (reader.stmt_by d low s first)
  sound_stmt_by first s = reads_bind (sound_opening first d []) (λ o us k. reads_bind (sound_node_by first s o.head k.4) (λ x vs y.
      let same : o.notes ≡ k.0 = k.1 in
      reads_pure (after x.1 (stmt_of o.notes x.0)) (rw (append-nil, k.3, noted_append, same) (stmt (node_spelled o.head ∷ vs) k.2 y))))

  sound_else_by : (s : Scope) (h : ElseHead) → else_fits d h ≡ true
      → Reads (λ y vs. IsElse (suc d) s y.0 y.1 (else_spelled h ∷ vs)) (reader.else_by d low s (reader.items d low.stmt) h)
  sound_else_by s else_at.None f = reads_pure (after s elses.None) no_else
  sound_else_by s else_at.Block f =
      reads_bind (sound_block false (suc d) s (reader.items d low.stmt false) (sound_items false s)) (λ b us x.
      reads_pure (after b.1 (elses.Block b.0)) (rw append-nil (otherwise x)))
  sound_else_by s else_at.If f = reads_bind (sound_if f s) (λ i us x. reads_pure (after i.1 (elses.If i.0)) (rw append-nil (else_if x)))

sound_level : (d : ℕ) → 0 < d → SoundLevel d (level d)
unfolding level
sound_level zero p = absurd (omega arith)
sound_level (suc d) p = record {
  stmt' = λ first s. sound_stmt_by d (level d) (λ q. sound_level d q) first s;
  items'' = λ first s. sound_items d (level d) (λ q. sound_level d q) first s;
  else_part' = λ s. reads_head else_spelled (named else_spelled else_heads) (named_is else_spelled else_heads)
      (else_fits d) else_at.None refl refl (sound_else_by d (level d) (λ q. sound_level d q) s);
}

pub sound_body : (d : ℕ) → 0 < d → Reads (IsBody d) (reader.body d)
sound_body d p = reads_bind (sound_block true d no_locals ((level d).items' true) ((sound_level d p).items'' true no_locals)) (λ b us x.
    reads_pure (body_of b.0) (b.1, rw append-nil x))
