-- What is in the form of a body is read.
use Rattle.std.proofs.Common.{◌≡◌, ℕ, suc, ◌<◌, Bool, true, false, ◌||◌, ◌==◌, List, [], ◌∷◌, ◌++◌, length, Option}
use Rattle.std.proofs.Common.{Ok, ap, refl, append_assoc, arith, codes, nat_lt}
use Rattle.std.proofs.lemmas.List.{append-nil}
use Rattle.mol_values_types.specs.declared.iblock.IBlock.{IBlock}
use Rattle.mol_values_types.specs.declared.iblock.IDeclarator.{IDeclarator}
use Rattle.mol_values_types.specs.declared.iblock.IElse.{IElse}
use Rattle.mol_values_types.specs.declared.iblock.IForStart.{IForStart}
use Rattle.mol_values_types.specs.declared.iblock.IIf.{IIf}
use Rattle.mol_values_types.specs.declared.iblock.ILet.{ILet}
use Rattle.mol_values_types.specs.declared.iblock.IStmt.{IStmt}
use Rattle.mol_values_types.specs.declared.iblock.IStmtNode.{IStmtNode}
use Rattle.mol_values_types.specs.declared.iblock.IStmtNode.TheVariants as nodes
use Rattle.mol_values_types.specs.declared.iexpr.IExpr.{IExpr}
use Rattle.mol_log_expr.specs.Scope.{Scope, declaring}
use Rattle.mol_log_words.specs.Words.{Word, has_form, count_fits, within}
use Rattle.mol_log_words.specs.Reader.{take, repeat}
use Rattle.mol_log_expr.specs.Expressions.{AreExprs}
use Rattle.mol_log_body.specs.Bodies.{declarator_of, are_comments, IsMaybe, without, with, AreDeclared}
use Rattle.mol_log_body.specs.Bodies.{no_names, more_names, IsLet, variables, IsStart, no_start, let_start, do_start, IsSimple, does}
use Rattle.mol_log_body.specs.Bodies.{returns, throws, breaks, continues, empties, IsSuper, super_by, super_default, super_outside}
use Rattle.mol_log_body.specs.Bodies.{IsNode, simple, parent, block, lets, branch, while_loop, for_loop, each_loop, IsBlock, blocks}
use Rattle.mol_log_body.specs.Bodies.{AreStmts, no_stmts, more_stmts, IsStmt, stmt, IsIf, branches, IsElse, no_else, otherwise, else_if}
use Rattle.mol_log_body.specs.Bodies.{IsBody}
use Rattle.mol_log_body.specs.BodyReader as reader
use Rattle.mol_log_body.specs.BodyReader.{after, level, comment, comments, opened, opening, statements, declared}
use Rattle.mol_log_body.specs.StatementHeads.{choice_spelled, choice_of, node_spelled, node_fits}
use Rattle.mol_log_words.specs.declared.bounds.Bounds.TheVariants as bound
use Rattle.mol_log_expr.specs.declared.expr_role.ExprRole.{ExprRole}
use Rattle.mol_log_expr.specs.declared.expr_role.ExprRole.TheVariants as role
use Rattle.mol_log_body.specs.declared.stmt_head.Choice.{Choice}
use Rattle.mol_log_body.specs.declared.stmt_head.Choice.TheVariants as choice
use Rattle.mol_log_body.specs.declared.stmt_head.NodeHead.{NodeHead}
use Rattle.mol_log_body.specs.declared.stmt_head.NodeHead.TheVariants as head
use Rattle.mol_log_body.specs.declared.stmt_head.LoopHead.TheVariants as repeated
use Rattle.mol_log_body.specs.declared.stmt_head.SimpleHead.TheVariants as simple_at
use Rattle.mol_log_body.specs.declared.stmt_head.SuperHead.TheVariants as parent_at
use Rattle.mol_log_words.specs.declared.text_form.TextForm.TheVariants as form
use Rattle.mol_log_expr.proofs.BackExpressions.{tall, below, back, back_arguments, back_exprs, arguments_fit, exprs_fit, exprs_room}
use Rattle.mol_log_words.proofs.BackTypes.{back_type}
use Rattle.mol_log_words.proofs.FirstBad.{Laws}
use Rattle.mol_log_words.proofs.Numerals.{and_left, and_right}
use Rattle.mol_log_body.proofs.Openings.{back_opening, noted_append}
use Rattle.mol_log_words.proofs.Repeats.{list_fits}
use Rattle.mol_log_body.proofs.SoundBodies.{block_closed, sound_body}

back_comments : (ts all rest : List Word) → are_comments ts ≡ true → repeat comment (length ts) all (ts ++ rest) ≡ Ok (all ++ ts, rest)
unfolding repeat take
back_comments [] all rest c = rw append-nil refl
back_comments (t ∷ ts) all rest c =
    rw (
      and_left (has_form form.Comment t) (are_comments ts) c,
      back_comments ts (all ++ t ∷ []) rest
          (and_right (has_form form.Comment t) (are_comments ts) c),
      append_assoc all (t ∷ []) ts,
    ) refl

or_one : (b : Bool) → (b || true) ≡ true
or_one true = refl
or_one false = refl

all_counts : (n : ℕ) → count_fits bound.Any true n ≡ true
all_counts n = or_one (n == 0)

some_counts : (n : ℕ) → within bound.Positive n ≡ true → count_fits bound.Positive true n ≡ true
some_counts n w = rw (w, or_one (n == 0)) refl

back_maybe : (c : Choice) (r : ExprRole) (d : ℕ) (s : List ℕ) (e : Option IExpr) (ts : List Word) → IsMaybe c r d s e ts
    → (rest : List Word) → reader.maybe c r d s (ts ++ rest) ≡ Ok (e, rest)
unfolding take
back_maybe choice.Final r d s e ts without rest = rw (or_one (nat_lt 0 d)) refl
back_maybe choice.Init r d s e ts without rest = rw (or_one (nat_lt 0 d)) refl
back_maybe choice.Some r d s e ts without rest = rw (or_one (nat_lt 0 d)) refl
back_maybe choice.Final r d s e ts (with x) rest = rw (below d (tall x), back x rest) refl
back_maybe choice.Init r d s e ts (with x) rest = rw (below d (tall x), back x rest) refl
back_maybe choice.Some r d s e ts (with x) rest = rw (below d (tall x), back x rest) refl

back_final : (b : Bool) (rest : List Word) → take (choice_of choice.Final true) (choice_spelled choice.Final b ∷ rest) ≡ Ok (b, rest)
unfolding take
back_final true rest = refl
back_final false rest = refl

back_declared : {d : ℕ} {s s' : Scope} {ds : List IDeclarator} {ts : List Word} → AreDeclared d s ds s' ts
    → (all : List IDeclarator) (rest : List Word)
    → declared d (length ds) all s (ts ++ rest) ≡ Ok ((all ++ ds, s'), rest)
unfolding declared take
back_declared no_names all rest = rw append-nil refl
back_declared {d} {s} (more_names {name = name} {init = i} {ds = ds} {ts = ts} {us = us} h x list) all rest =
    rw (
      h,
      append_assoc ts us rest,
      back_maybe choice.Init role.First d (declaring s).locals i ts x (us ++ rest),
      back_declared list (all ++ declarator_of name i ∷ []) rest,
      append_assoc all (declarator_of name i ∷ []) ds,
    ) refl

back_let : {d : ℕ} {s s' : Scope} {l : ILet} {ts : List Word} → IsLet d s l s' ts → (rest : List Word)
    → reader.variables d s (ts ++ rest) ≡ Ok ((l, s'), rest)
unfolding take
back_let (variables {is_final = b} k {ds = ds} {ts = ts} {us = us} t c list) rest =
    rw (
      back_final b (ts ++ k ∷ us ++ rest),
      append_assoc ts (k ∷ us) rest,
      back_type t (k ∷ us ++ rest),
      c.0,
      some_counts
          (length ds) c.1,
      back_declared list [] rest,
    ) refl

-- statements that start a `for` have a height
started : {d : ℕ} {s : List ℕ} {ts : List Word} (es : List IExpr) → AreExprs role.Statement d s es ts
    → within bound.Positive (length es) ≡ true → nat_lt 0 d ≡ true
started [] list w = absurd cc
started {d} (e ∷ es) list w = exprs_room list (omega arith)

back_start : {d : ℕ} {s s' : Scope} {x : IForStart} {ts : List Word} → IsStart d s x s' ts → (rest : List Word)
    → reader.for_start d s (ts ++ rest) ≡ Ok ((x, s'), rest)
unfolding take
back_start no_start rest = refl
back_start (let_start l) rest = rw (back_let l rest) refl
back_start {d} (do_start {es = es} c list) rest =
    rw (started es list c.1, c.0, exprs_fit bound.Positive list c.1, back_exprs list [] rest) refl

tall_block : {first : Bool} {d : ℕ} {s s' : Scope} {b : IBlock} {ts : List Word} → IsBlock first d s b s' ts → 0 < d
tall_block (blocks n tail c list t k) = omega arith

tall_stmt : {first : Bool} {d : ℕ} {s s' : Scope} {x : IStmt} {ts : List Word} → IsStmt first d s x s' ts → 0 < d
tall_stmt (stmt ts c x) = omega arith

tall_if : {d : ℕ} {s s' : Scope} {i : IIf} {ts : List Word} → IsIf d s i s' ts → 0 < d
tall_if (branches x y z) = tall x

stmts_room : {first : Bool} {d : ℕ} {s s' : Scope} {xs : List IStmt} {ts : List Word} → AreStmts first d s xs s' ts → 0 < length xs
    → nat_lt 0 d ≡ true
stmts_room no_stmts p = absurd (omega arith)
stmts_room {first} {d} (more_stmts x list) p = below d (tall_stmt x)

stmts_fit : {first : Bool} {d : ℕ} {s s' : Scope} {xs : List IStmt} {ts : List Word} → AreStmts first d s xs s' ts
    → count_fits bound.Any (nat_lt 0 d) (length xs) ≡ true
stmts_fit {first} {d} {s} {s'} {xs} list = list_fits bound.Any (nat_lt 0 d) xs refl (stmts_room list)

-- what stands after the word `block` is read as the block
record Items (first : Bool) (d : ℕ) (s : Scope) (b : IBlock) (s' : Scope) (ts rest : List Word) : Type 0 where
  after' : List Word
  begins : ts ≡ codes "block" ∷ after'
  reads : (level d).items' first s (after' ++ rest) ≡ Ok ((b, s'), rest)

by_items : {first : Bool} {d : ℕ} {s s' : Scope} {b : IBlock} {ts rest : List Word} → Items first d s b s' ts rest
    → reader.block_by ((level d).items' first) s (ts ++ rest) ≡ Ok ((b, s'), rest)
unfolding take
by_items k = rw (k.begins, k.reads) refl

-- what stands after the first word of a statement is read as the statement
record Node (first : Bool) (d : ℕ) (s : Scope) (x : IStmtNode) (s' : Scope) (ts rest : List Word) : Type 0 where
  which : NodeHead
  after' : List Word
  begins : ts ≡ node_spelled which ∷ after'
  fits' : node_fits first d which ≡ true
  reads : reader.node_by d (level d) s which (after' ++ rest) ≡ Ok ((x, s'), rest)

back_simple : {first : Bool} {d : ℕ} {s : Scope} {x : IStmtNode} {ts : List Word} → IsSimple d s.locals x ts → (rest : List Word)
    → Node first d s x s ts rest
unfolding take
back_simple {first} {d} (does {ts = ts} x) rest = record {
  which = head.Simple simple_at.Do;
  after' = ts;
  begins = refl;
  fits' = below d
      (tall x);
  reads = rw (back x rest) refl;
}
back_simple {first} {d} {s} (returns {e = e} {ts = ts} x) rest =
    record {
      which = head.Simple simple_at.Return;
      after' = ts;
      begins = refl;
      fits' = refl;
      reads = rw
          (back_maybe choice.Some role.Value d s.locals e ts x rest) refl;
    }
back_simple {first} {d} (throws {ts = ts} x) rest =
    record { which = head.Simple simple_at.Throw; after' = ts; begins = refl; fits' = below d (tall x); reads = rw (back x rest) refl }
back_simple breaks rest = record { which = head.Simple simple_at.Break; after' = []; begins = refl; fits' = refl; reads = refl }
back_simple continues rest = record { which = head.Simple simple_at.Continue; after' = []; begins = refl; fits' = refl; reads = refl }
back_simple empties rest = record { which = head.Simple simple_at.Empty; after' = []; begins = refl; fits' = refl; reads = refl }

back_super : {d : ℕ} {s : Scope} {x : IStmtNode} {ts : List Word} → IsSuper d s.locals x ts → (rest : List Word) → Node true d s x s ts rest
unfolding take
back_super (super_by {w = w} {k = k} {ts = ts} i c list) rest =
    record {
      which = head.Super parent_at.Constructor;
      after' = w ∷ k ∷ ts;
      begins = refl;
      fits' = refl;
      reads = rw
          (i, c.0, arguments_fit list c.1, back_arguments list [] rest) refl;
    }
back_super (super_default {w = w} i) rest =
    record { which = head.Super parent_at.Default; after' = w ∷ []; begins = refl; fits' = refl; reads = rw i refl }
back_super (super_outside {k = k} {ts = ts} c list) rest =
    record {
      which = head.Super parent_at.Outside;
      after' = k ∷ ts;
      begins = refl;
      fits' = refl;
      reads = rw
          (c.0, exprs_fit bound.Few list c.1, back_exprs list [] rest) refl;
    }

mutual
  unfolding level statements take

  back_items : {first : Bool} {d : ℕ} {s s' : Scope} {b : IBlock} {ts : List Word} → IsBlock first d s b s' ts → (rest : List Word)
      → Items first d s b s' ts rest
  back_items (blocks {k = k} {ts = ts} n tail c list t a) rest = record {
    after' = k ∷ (ts ++ n ∷ tail);
    begins = refl;
    reads = rw (
      c,
      stmts_fit list,
      append_assoc ts (n ∷ tail) rest,
      back_stmts list [] (n ∷ tail ++ rest),
      t,
      all_counts (length tail),
      back_comments tail [] rest a,
    ) refl;
  }

  back_stmts : {first : Bool} {d : ℕ} {s s' : Scope} {xs : List IStmt} {ts : List Word} → AreStmts first d s xs s' ts
      → (all : List IStmt) (rest : List Word)
      → statements (level d).stmt first (length xs) all s (ts ++ rest) ≡ Ok ((all ++ xs, s'), rest)
  back_stmts no_stmts all rest = rw append-nil refl
  back_stmts (more_stmts {x = x} {xs = xs} {ts = ts} {us = us} h list) all rest =
      rw (append_assoc ts us rest, back_stmt h (us ++ rest), back_stmts list (all ++ x ∷ []) rest, append_assoc all (x ∷ []) xs) refl

  back_stmt : {first : Bool} {d : ℕ} {s s' : Scope} {x : IStmt} {ts : List Word} → IsStmt first d s x s' ts → (rest : List Word)
      → (level d).stmt first s (ts ++ rest) ≡ Ok ((x, s'), rest)
  back_stmt {first} {d = suc d} (stmt {notes = notes} ts c x) rest =
      let k = back_node x rest in
      rw (noted_append notes ts rest, k.begins, back_opening first d notes [] k.which (k.after' ++ rest) c k.fits', k.reads) refl

  back_node : {first : Bool} {d : ℕ} {s s' : Scope} {x : IStmtNode} {ts : List Word} → IsNode first d s x s' ts → (rest : List Word)
      → Node first d s x s' ts rest
  back_node (simple x) rest = back_simple x rest
  back_node (parent x) rest = back_super x rest
  back_node {first} {d} (block x) rest =
      let k = back_items x rest in
      record { which = head.Block; after' = k.after'; begins = k.begins; fits' = below d (tall_block x); reads = rw k.reads refl }
  back_node (lets {ts = ts} l) rest =
      record { which = head.Let; after' = ts; begins = refl; fits' = refl; reads = rw (back_let l rest) refl }
  back_node {first} {d} (branch {ts = ts} i) rest =
      record { which = head.If; after' = ts; begins = refl; fits' = below d (tall_if i); reads = rw (back_if i rest) refl }
  back_node {first} {d} (while_loop {e = e} {b = b} {ts = ts} {us = us} x y) rest = record {
    which = head.Loop repeated.While;
    after' = ts ++ us;
    begins = refl;
    fits' = below d (tall x);
    reads = rw (append_assoc ts us rest, back x (us ++ rest), by_items (back_items y rest))
        (ap (λ (s' : Scope). Ok ((nodes.While e b, s'), rest)) (block_closed y));
  }
  back_node {first} {d} (for_loop {s' = s'} {e = e} k {ts = ts} {us = us} {vs = vs} {ws = ws} x y c list z) rest = record {
    which = head.Loop repeated.For;
    after' = ts ++ (us ++ k ∷ (vs ++ ws));
    begins = refl;
    fits' = below d (tall_block z);
    reads = rw (
      append_assoc ts (us ++ k ∷ (vs ++ ws)) rest,
      append_assoc us (k ∷ (vs ++ ws)) rest,
      append_assoc vs ws rest,
      back_start x (us ++ k ∷ (vs ++ (ws ++ rest))),
      back_maybe choice.Some role.Value d s'.locals e us y (k ∷ (vs ++ (ws ++ rest))),
      c.0,
      exprs_fit bound.Any list c.1,
      back_exprs list [] (ws ++ rest),
      by_items (back_items z rest),
    ) refl;
  }
  back_node {first} {d} (each_loop {is_final = b} name {ts = ts} {us = us} {vs = vs} t h x z) rest = record {
    which = head.Loop repeated.Each;
    after' = choice_spelled choice.Final b ∷ (ts ++ name ∷ (us ++ vs));
    begins = refl;
    fits' = below d (tall x);
    reads = rw (
      append_assoc ts (name ∷ (us ++ vs)) rest,
      append_assoc us vs rest,
      back_final b (ts ++ name ∷ (us ++ (vs ++ rest))),
      back_type t (name ∷ (us ++ (vs ++ rest))),
      h,
      back x (vs ++ rest),
      by_items (back_items z rest),
    ) refl;
  }

  back_if : {d : ℕ} {s s' : Scope} {i : IIf} {ts : List Word} → IsIf d s i s' ts → (rest : List Word)
      → reader.if_by d (level d) s (ts ++ rest) ≡ Ok ((i, s'), rest)
  back_if (branches {ts = ts} {us = us} {vs = vs} x y z) rest =
      rw (
        append_assoc ts (us ++ vs) rest,
        append_assoc us vs rest,
        back x (us ++ (vs ++ rest)),
        by_items (back_items y (vs ++ rest)),
        back_else z rest,
      ) refl

  back_else : {d : ℕ} {s s' : Scope} {x : IElse} {ts : List Word} → IsElse d s x s' ts → (rest : List Word)
      → (level d).else_part s (ts ++ rest) ≡ Ok ((x, s'), rest)
  back_else no_else rest = refl
  back_else (otherwise y) rest = rw (by_items (back_items y rest)) refl
  back_else {d = suc d} (else_if i) rest = rw (below d (tall_if i), back_if i rest) refl

pub laws_body : (d : ℕ) → 0 < d → Laws (IsBody d) (reader.body d)
laws_body d p = record { sound = sound_body d p; back = λ b ts rest h. rw (by_items (back_items h.1 rest)) refl }
