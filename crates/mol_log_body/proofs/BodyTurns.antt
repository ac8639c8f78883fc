-- The reader's steps for statements, in the shape of the code.
use Rattle.std.proofs.Common.{◌≡◌, ℕ, zero, suc, ◌+◌, ◌-◌, ◌<◌, Bool, true, false, List, [], ◌∷◌, ◌++◌, Option, Some, None, Ok, Err, refl, ap}
use Rattle.std.proofs.Common.{arith, if◌then◌else◌, length}
use Rattle.mol_values_types.specs.declared.iblock.IDeclarator.{IDeclarator}
use Rattle.mol_values_types.specs.declared.iblock.IStmt.{IStmt}
use Rattle.mol_log_words.specs.Words.{Word, has_form}
use Rattle.mol_log_expr.specs.Scope.{Scope}
use Rattle.mol_log_words.specs.Reader.{Outcome, Parser, and_then, ◌>>=◌, pure, taken, take}
use Rattle.mol_log_body.specs.StatementHeads.{is_note, marked, node_head_of, else_head_of}
use Rattle.mol_log_body.specs.BodyReader.{after, comment, at_note, opened, headed, opening, declarator, declared, statements, items}
use Rattle.mol_log_body.specs.BodyReader.{stmt_by, else_by, level}
use Rattle.mol_log_body.specs.declared.lists.Opening.{Opening}
use Rattle.mol_log_body.specs.declared.stmt_head.NodeHead.{NodeHead}
use Rattle.mol_log_words.specs.declared.text_form.TextForm.TheVariants as form

comment_choice : (b : Bool) (c : Word) (ts : List Word) (f : Word → Parser Opening)
    → (if b then f c ts else Err (c ∷ ts)) ≡ and_then (taken c ts (if b then Some c else None)) f
comment_choice true c ts f = refl
comment_choice false c ts f = refl

head_choice : (notes : List Word) (w : Word) (ts : List Word) (o : Option NodeHead)
    → headed notes w ts o ≡ and_then (taken w ts o) (λ h. pure (opened notes h))
head_choice notes w ts (Some h) = refl
head_choice notes w ts None = refl

-- at the word `note`
pub opening_note : (first : Bool) (d : ℕ) (notes ts : List Word) → at_note ts ≡ true
    → opening first d notes ts ≡ and_then (take (marked is_note) ts) (λ mark. comment >>= (λ c. opening first d (notes ++ c ∷ [])))
unfolding opening take at_note
opening_note first d notes [] h = absurd cc
opening_note first d notes (w ∷ []) h = rw h refl
opening_note first d notes (w ∷ c ∷ ts) h = rw h (comment_choice (has_form form.Comment c) c ts (λ v. opening first d (notes ++ v ∷ [])))

-- at any other word, or where there is none
pub opening_head : (first : Bool) (d : ℕ) (notes ts : List Word) → at_note ts ≡ false
    → opening first d notes ts ≡ and_then (take (node_head_of first d) ts) (λ h. pure (opened notes h))
unfolding opening take at_note
opening_head first d notes [] h = refl
opening_head first d notes (w ∷ []) h = rw h (head_choice notes w [] (node_head_of first d w))
opening_head first d notes (w ∷ c ∷ ts) h = rw h (head_choice notes w (c ∷ ts) (node_head_of first d w))

pub declared_none : (d n : ℕ) (all : List IDeclarator) (s : Scope) (ts : List Word) → n ≡ 0 → declared d n all s ts ≡ Ok (after s all, ts)
unfolding declared
declared_none d zero all s ts z = refl
declared_none d (suc n) all s ts z = absurd (omega arith)

pub declared_steps : (d n at : ℕ) (all : List IDeclarator) (s : Scope) (ts : List Word) → at < n
    → declared d (n - at) all s ts ≡ and_then (declarator d s ts) (λ x. declared d (n - (at + 1)) (all ++ x.0 ∷ []) x.1)
unfolding declared
declared_steps d n at all s ts p = let turn : n - at ≡ suc (n - (at + 1)) = omega arith in rw turn refl

pub statements_none : (stmt : Bool → Scope → Parser (IStmt × Scope)) (first : Bool) (n : ℕ) (all : List IStmt) (s : Scope) (ts : List Word)
    → n ≡ 0
    → statements stmt first n all s ts ≡ Ok (after s all, ts)
unfolding statements
statements_none stmt first zero all s ts z = refl
statements_none stmt first (suc n) all s ts z = absurd (omega arith)

pub statements_steps : (stmt : Bool → Scope → Parser (IStmt × Scope)) (first : Bool) (n at : ℕ) (all : List IStmt) (s : Scope)
    (ts : List Word) → at < n
    → statements stmt first (n - at) all s ts ≡ and_then (stmt first s ts) (λ x. statements stmt false (n - (at + 1)) (all ++ x.0 ∷ []) x.1)
unfolding statements
statements_steps stmt first n at all s ts p = let turn : n - at ≡ suc (n - (at + 1)) = omega arith in rw turn refl

pub stmt_none : (first : Bool) (d : ℕ) (s : Scope) (ts : List Word) → d ≡ 0 → (level d).stmt first s ts ≡ Err ts
unfolding level
stmt_none first zero s ts e = refl
stmt_none first (suc d) s ts e = absurd (omega arith)

pub items_none : (first : Bool) (d : ℕ) (s : Scope) (ts : List Word) → d ≡ 0 → (level d).items' first s ts ≡ Err ts
unfolding level
items_none first zero s ts e = refl
items_none first (suc d) s ts e = absurd (omega arith)

pub else_part_none : (d : ℕ) (s : Scope) (ts : List Word) → d ≡ 0 → (level d).else_part s ts ≡ Err ts
unfolding level
else_part_none zero s ts e = refl
else_part_none (suc d) s ts e = absurd (omega arith)

pub stmt_steps : (first : Bool) (d : ℕ) (s : Scope) (ts : List Word) → 0 < d
    → (level d).stmt first s ts ≡ stmt_by (d - 1) (level (d - 1)) s first ts
unfolding level
stmt_steps first zero s ts p = absurd (omega arith)
stmt_steps first (suc d) s ts p = let e : suc d - 1 ≡ d = omega arith in rw e refl

pub items_steps : (first : Bool) (d : ℕ) (s : Scope) (ts : List Word) → 0 < d
    → (level d).items' first s ts ≡ items (d - 1) (level (d - 1)).stmt first s ts
unfolding level
items_steps first zero s ts p = absurd (omega arith)
items_steps first (suc d) s ts p = let e : suc d - 1 ≡ d = omega arith in rw e refl

pub else_part_steps : (d : ℕ) (s : Scope) (ts : List Word) → 0 < d
    → (level d).else_part s ts ≡ and_then (take (else_head_of (d - 1)) ts) (else_by (d - 1) (level (d - 1)) s (level d).items')
unfolding level
else_part_steps zero s ts p = absurd (omega arith)
else_part_steps (suc d) s ts p = let e : suc d - 1 ≡ d = omega arith in rw e refl

same_rest : {A : Type 0} (v w : A) (ts us : List Word) → ◌≡◌ {A = Outcome A} (Ok (v, ts)) (Ok (w, us)) → ts ≡ us
same_rest {A} v w ts us h =
    let same : ◌≡◌ {A = A × List Word} (v, ts) (w, us) = cc in ap (λ (read : A × List Word). read.1) same

pub shorter : {A : Type 0} (f : Word → Option A) (w : A) (ts us : List Word) → take f ts ≡ Ok (w, us) → length us < length ts
unfolding take
shorter f w [] us e = absurd cc
shorter {A} f w (t ∷ ts) us e = by_word (f t) e where
  by_word : (o : Option A) → taken t ts o ≡ Ok (w, us) → length us < length (t ∷ ts)
  by_word (Some v) k = let size : length ts ≡ length us = ap length (same_rest v w ts us k) in omega (arith, size)
  by_word None k = absurd cc
