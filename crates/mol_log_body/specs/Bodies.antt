-- The word form of bodies: which words spell which tree, within the limits, and which locals are in scope afterwards.
use Rattle.std.specs.Prelude.{◌≡◌, ℕ, suc, Bool, true, false, List, [], ◌∷◌, ◌++◌, codes, length, Some, None, Option}
use Rattle.std.specs.List.{list_all}
use Rattle.mol_base.specs.Spelled.{id_of}
use Rattle.mol_base.specs.declared.ident.Id.{Id}
use Rattle.mol_values_types.specs.Blocks.{block_of, branch_of}
use Rattle.mol_values_types.specs.declared.iblock.IBlock.{IBlock}
use Rattle.mol_values_types.specs.declared.iblock.IBody.{IBody}
use Rattle.mol_values_types.specs.declared.iblock.IDeclarator.{IDeclarator}
use Rattle.mol_values_types.specs.declared.iblock.IElse.{IElse}
use Rattle.mol_values_types.specs.declared.iblock.IElse.TheVariants as elses
use Rattle.mol_values_types.specs.declared.iblock.IForStart.{IForStart}
use Rattle.mol_values_types.specs.declared.iblock.IForStart.TheVariants as starts
use Rattle.mol_values_types.specs.declared.iblock.IIf.{IIf}
use Rattle.mol_values_types.specs.declared.iblock.ILet.{ILet}
use Rattle.mol_values_types.specs.declared.iblock.IStmt.{IStmt}
use Rattle.mol_values_types.specs.declared.iblock.IStmtNode.{IStmtNode}
use Rattle.mol_values_types.specs.declared.iblock.IStmtNode.TheVariants as nodes
use Rattle.mol_values_types.specs.declared.iexpr.Argument.{Argument}
use Rattle.mol_values_types.specs.declared.iexpr.IExpr.{IExpr}
use Rattle.mol_values_types.specs.declared.itype.IType.{IType}
use Rattle.mol_log_words.specs.Words.{Word, has_form, counts}
use Rattle.mol_log_expr.specs.Scope.{Scope, declaring, closed, no_locals}
use Rattle.mol_log_words.specs.Types.{IsType}
use Rattle.mol_log_expr.specs.Expressions.{IsExpr, AreExprs, AreArguments}
use Rattle.mol_log_words.specs.Types.{most_dimensions}
use Rattle.mol_log_words.specs.Words.{IsCount}
use Rattle.mol_log_body.specs.StatementHeads.{choice_spelled}
use Rattle.mol_log_words.specs.declared.bounds.Bounds.TheVariants as bound
use Rattle.mol_log_expr.specs.declared.expr_role.ExprRole.{ExprRole}
use Rattle.mol_log_expr.specs.declared.expr_role.ExprRole.TheVariants as role
use Rattle.mol_log_words.specs.declared.type_role.TypeRole.TheVariants as type_role
use Rattle.mol_log_body.specs.declared.stmt_head.Choice.{Choice}
use Rattle.mol_log_body.specs.declared.stmt_head.Choice.TheVariants as choice
use Rattle.mol_log_words.specs.declared.text_form.TextForm.TheVariants as form

abbrev pub declarator_of : Word → Option IExpr → IDeclarator
declarator_of name init = record { name = name; init = init }

abbrev pub let_of : Bool → IType → List IDeclarator → ILet
let_of is_final ty names = record { is_final = is_final; ty = ty; names = names }

abbrev pub stmt_of : List Word → IStmtNode → IStmt
stmt_of notes node = record { notes = notes; node = node }

abbrev pub body_of : IBlock → IBody
body_of block = record { block = block }

-- comments, one word each
abbrev pub are_comments : List Word → Bool
are_comments ts = list_all (has_form form.Comment) ts

-- comments before a statement, each after the word `note`
abbrev pub noted : List Word → List Word → List Word
noted [] ts = ts
noted (comment ∷ notes) ts = codes "note" ∷ comment ∷ noted notes ts

-- a word that says that no expression follows, or another and an expression no higher than d
pub data IsMaybe : Choice → ExprRole → ℕ → List ℕ → Option IExpr → List Word → Type 0 where
  without : {c : Choice} {r : ExprRole} {d : ℕ} {s : List ℕ} → IsMaybe c r d s None (choice_spelled c false ∷ [])
  with : {c : Choice} {r : ExprRole} {d : ℕ} {s : List ℕ} {e : IExpr} {ts : List Word} → IsExpr r d s e ts
      → IsMaybe c r d s (Some e) (choice_spelled c true ∷ ts)

-- variables, each in scope from its own first value on
pub data AreDeclared : ℕ → Scope → List IDeclarator → Scope → List Word → Type 0 where
  no_names : {d : ℕ} {s : Scope} → AreDeclared d s [] s []
  more_names : {d : ℕ} {s s' : Scope} {name : Word} {init : Option IExpr} {ds : List IDeclarator} {ts us : List Word}
      → has_form form.Name name ≡ true
      → IsMaybe choice.Init role.First d (declaring s).locals init ts → AreDeclared d (declaring s) ds s' us
      → AreDeclared d s (declarator_of name init ∷ ds) s' (name ∷ (ts ++ us))

-- a declaration of variables, after the word `let`
pub data IsLet : ℕ → Scope → ILet → Scope → List Word → Type 0 where
  variables : {d : ℕ} {s s' : Scope} {is_final : Bool} {t : IType} (k : Word) {ds : List IDeclarator} {ts us : List Word}
      → IsType type_role.Value most_dimensions t ts
      → IsCount bound.Positive k (length ds) → AreDeclared d s ds s' us
      → IsLet d s (let_of is_final t ds) s' (choice_spelled choice.Final is_final ∷ (ts ++ k ∷ us))

-- what stands before the first `;` in the header of a `for`
pub data IsStart : ℕ → Scope → IForStart → Scope → List Word → Type 0 where
  no_start : {d : ℕ} {s : Scope} → IsStart d s starts.None s (codes "none" ∷ [])
  let_start : {d : ℕ} {s s' : Scope} {l : ILet} {ts : List Word} → IsLet d s l s' ts → IsStart d s (starts.Let l) s' (codes "let" ∷ ts)
  do_start : {d : ℕ} {s : Scope} {k : Word} {es : List IExpr} {ts : List Word} → IsCount bound.Positive k (length es)
      → AreExprs role.Statement d s.locals es ts
      → IsStart d s (starts.Do es) s (codes "do" ∷ k ∷ ts)

-- a statement that holds no other, with expressions no higher than d
pub data IsSimple : ℕ → List ℕ → IStmtNode → List Word → Type 0 where
  does : {d : ℕ} {s : List ℕ} {e : IExpr} {ts : List Word} → IsExpr role.Statement d s e ts → IsSimple d s (nodes.Do e) (codes "do" ∷ ts)
  returns : {d : ℕ} {s : List ℕ} {e : Option IExpr} {ts : List Word} → IsMaybe choice.Some role.Value d s e ts
      → IsSimple d s (nodes.Return e) (codes "return" ∷ ts)
  throws : {d : ℕ} {s : List ℕ} {e : IExpr} {ts : List Word} → IsExpr role.Value d s e ts
      → IsSimple d s (nodes.Throw e) (codes "throw" ∷ ts)
  breaks : {d : ℕ} {s : List ℕ} → IsSimple d s nodes.Break (codes "break" ∷ [])
  continues : {d : ℕ} {s : List ℕ} → IsSimple d s nodes.Continue (codes "continue" ∷ [])
  empties : {d : ℕ} {s : List ℕ} → IsSimple d s nodes.Empty (codes "empty" ∷ [])

-- a call of a constructor of the superclass (JLS 8.8.7.1)
pub data IsSuper : ℕ → List ℕ → IStmtNode → List Word → Type 0 where
  super_by : {d : ℕ} {s : List ℕ} {id : Id} {w k : Word} {args : List Argument} {ts : List Word} → id_of w ≡ Some id
      → IsCount bound.Few k (length args) → AreArguments d s args ts
      → IsSuper d s (nodes.Super id args) (codes "superc" ∷ w ∷ k ∷ ts)
  super_default : {d : ℕ} {s : List ℕ} {id : Id} {w : Word} → id_of w ≡ Some id
      → IsSuper d s (nodes.SuperDefault id) (codes "superd" ∷ w ∷ [])
  super_outside : {d : ℕ} {s : List ℕ} {k : Word} {es : List IExpr} {ts : List Word} → IsCount bound.Few k (length es)
      → AreExprs role.Value d s es ts
      → IsSuper d s (nodes.SuperOutside es) (codes "superout" ∷ k ∷ ts)

mutual
  -- IsNode first d s x s' ts: the words ts spell the statement x without the comments before it. Its parts are no higher
  -- than d, and s is in scope before it and s' after it. It may be `super(..)` only where it is the first of a body.
  pub data IsNode : Bool → ℕ → Scope → IStmtNode → Scope → List Word → Type 0 where
    simple : {first : Bool} {d : ℕ} {s : Scope} {x : IStmtNode} {ts : List Word} → IsSimple d s.locals x ts → IsNode first d s x s ts
    parent : {d : ℕ} {s : Scope} {x : IStmtNode} {ts : List Word} → IsSuper d s.locals x ts → IsNode true d s x s ts
    block : {first : Bool} {d : ℕ} {s s' : Scope} {b : IBlock} {ts : List Word} → IsBlock false d s b s' ts
        → IsNode first d s (nodes.Block b) s' ts
    lets : {first : Bool} {d : ℕ} {s s' : Scope} {l : ILet} {ts : List Word} → IsLet d s l s' ts
        → IsNode first d s (nodes.Let l) s' (codes "let" ∷ ts)
    branch : {first : Bool} {d : ℕ} {s s' : Scope} {i : IIf} {ts : List Word} → IsIf d s i s' ts
        → IsNode first d s (nodes.If i) s' (codes "if" ∷ ts)
    while_loop : {first : Bool} {d : ℕ} {s s' : Scope} {e : IExpr} {b : IBlock} {ts us : List Word} → IsExpr role.Value d s.locals e ts
        → IsBlock false d s b s' us
        → IsNode first d s (nodes.While e b) s' (codes "while" ∷ (ts ++ us))
    for_loop : {first : Bool} {d : ℕ} {s s' s'' : Scope} {x : IForStart} {e : Option IExpr} (k : Word)
        {es : List IExpr} {b : IBlock} {ts us vs ws : List Word}
        → IsStart d s x s' ts → IsMaybe choice.Some role.Value d s'.locals e us → IsCount bound.Any k (length es)
        → AreExprs role.Statement d s'.locals es vs
        → IsBlock false d s' b s'' ws → IsNode first d s (nodes.For x e es b) (closed s s'') (codes "for" ∷ (ts ++ (us ++ k ∷ (vs ++ ws))))
    each_loop : {first : Bool} {d : ℕ} {s s' : Scope} {is_final : Bool} {t : IType} (name : Word)
        {e : IExpr} {b : IBlock} {ts us vs : List Word}
        → IsType type_role.Value most_dimensions t ts → has_form form.Name name ≡ true → IsExpr role.Value d s.locals e us
        → IsBlock false d (declaring s) b s' vs
        → IsNode first d s (nodes.Each is_final t name e b) (closed s s')
        (codes "each" ∷ choice_spelled choice.Final is_final ∷ (ts ++ name ∷ (us ++ vs)))

  -- a block no higher than d; `super(..)` may stand first in it where it is a body
  pub data IsBlock : Bool → ℕ → Scope → IBlock → Scope → List Word → Type 0 where
    blocks : {first : Bool} {d : ℕ} {s s' : Scope} {k : Word} {items : List IStmt} {ts : List Word} (n : Word) (tail : List Word)
        → counts k ≡ Some (length items)
        → AreStmts first d s items s' ts → counts n ≡ Some (length tail) → are_comments tail ≡ true
        → IsBlock first (suc d) s (block_of items tail) (closed s s') (codes "block" ∷ k ∷ (ts ++ n ∷ tail))

  -- statements no higher than d, one after the other, each after its comments
  pub data AreStmts : Bool → ℕ → Scope → List IStmt → Scope → List Word → Type 0 where
    no_stmts : {first : Bool} {d : ℕ} {s : Scope} → AreStmts first d s [] s []
    more_stmts : {first : Bool} {d : ℕ} {s s' s'' : Scope} {x : IStmt} {xs : List IStmt} {ts us : List Word} → IsStmt first d s x s' ts
        → AreStmts false d s' xs s'' us
        → AreStmts first d s (x ∷ xs) s'' (ts ++ us)

  -- a statement no higher than d, and the comments before it
  pub data IsStmt : Bool → ℕ → Scope → IStmt → Scope → List Word → Type 0 where
    stmt : {first : Bool} {d : ℕ} {s s' : Scope} {notes : List Word} {x : IStmtNode} (ts : List Word) → are_comments notes ≡ true
        → IsNode first d s x s' ts
        → IsStmt first (suc d) s (stmt_of notes x) s' (noted notes ts)

  -- the test and the branches of an `if`, none higher than d
  pub data IsIf : ℕ → Scope → IIf → Scope → List Word → Type 0 where
    branches : {d : ℕ} {s s' s'' : Scope} {e : IExpr} {b : IBlock} {x : IElse} {ts us vs : List Word} → IsExpr role.Value d s.locals e ts
        → IsBlock false d s b s' us
        → IsElse d s' x s'' vs → IsIf d s (branch_of e b x) s'' (ts ++ (us ++ vs))

  -- what follows the branch of an `if`, no higher than d; an `if` there is a statement of its own
  pub data IsElse : ℕ → Scope → IElse → Scope → List Word → Type 0 where
    no_else : {d : ℕ} {s : Scope} → IsElse (suc d) s elses.None s (codes "none" ∷ [])
    otherwise : {d : ℕ} {s s' : Scope} {b : IBlock} {ts : List Word} → IsBlock false (suc d) s b s' ts
        → IsElse (suc d) s (elses.Block b) s' (codes "else" ∷ ts)
    else_if : {d : ℕ} {s s' : Scope} {i : IIf} {ts : List Word} → IsIf d s i s' ts → IsElse (suc d) s (elses.If i) s' (codes "elif" ∷ ts)

-- a body: a block with no local in scope before it
abbrev pub IsBody : ℕ → IBody → List Word → Type 0
IsBody d body ts = (s : Scope) × IsBlock true d no_locals body.block s ts
