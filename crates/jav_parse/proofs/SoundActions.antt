-- Expressions that may be statements, and what begins with names where a declaration may stand too, are in the grammar, and
-- what is refused could have gone on.
use Rattle.std.proofs.Common.{◌≡◌, inl, ℕ, ◌-◌, ◌<◌, ◌≤◌, ◌||◌, not, Bool, true, false, List, [], ◌∷◌, ◌++◌, Some, None, nat_eq, nat_le, if◌then◌else◌, refl, sym, ◌∙◌, subst, append_assoc, arith}
use Rattle.std.proofs.Math.Numerals.{add-one}
use Rattle.std.proofs.lemmas.List.{append-nil}
use Rattle.mol_base.specs.Token.{Token}
use Rattle.jav_tree.specs.Operators.{IsStep}
use Rattle.jav_tree.specs.Tokens.{IsKeyword}
use Rattle.jav_tree.specs.declared.expr.Expr.{Expr}
use Rattle.jav_tree.specs.declared.types.TypeName.TheVariants as ty
use Rattle.jav_tree.specs.Expressions as tree
use Rattle.jav_tree.specs.Expressions.{Expression, Primary}
use Rattle.jav_tree.specs.Statements.{MayBeStatement}
use Rattle.jav_tree.proofs.StatementExpressions.{statement-Call, statement-SuperCall, statement-New, statement-Assign, statement-Unary, statement-Post}
use Rattle.jav_parse_expr.specs.declared.action.Lead.TheVariants.{Declaration, Part}
use Rattle.jav_parse_cursor.specs.declared.limits.Limits.{Limits}
use Rattle.jav_parse_expr.specs.declared.primary.Goal.TheVariants as goals
use Rattle.jav_parse_cursor.specs.declared.sort.Sort.{Sort}
use Rattle.jav_parse_cursor.specs.declared.sort.Sort.TheVariants as sort
use Rattle.jav_parse_cursor.specs.declared.tall.Shape.{Shape}
use Rattle.jav_parse_cursor.specs.declared.tall.Shape.TheVariants.{Target, Invocation, Atom, Array, Loose}
use Rattle.jav_parse_cursor.specs.declared.tall.Tall.{Tall}
use Rattle.jav_parse_cursor.specs.Nodes as made
use Rattle.jav_parse_cursor.specs.Nodes.{is_target, is_invocation, text_of, array_type}
use Rattle.jav_parse_expr.specs.PrimaryRules as primaries
use Rattle.jav_parse_expr.specs.PrimaryRules.{acting}
use Rattle.jav_parse_expr.specs.ActionRules.{ending, goes_on, acts, action, acting_on, super_action, indexed_or_array, lead_by, type_or_part}
use Rattle.jav_parse_expr.specs.ExprRules.{expr, inside, is_assignment, step_after, assign_to, assignment, prefixed}
use Rattle.jav_parse_cursor.specs.Reading.{◌>>=◌, peek, pure, refuse}
use Rattle.jav_parse_cursor.specs.Sorts.{sort_of, same_sort}
use Rattle.jav_parse_cursor.specs.TypeRules.{brackets}
use Rattle.jav_parse.proofs.ExpressionLaws.{IsAction, IsLead, ExpressionLaws}
use Rattle.jav_parse.proofs.Meets.{Some_of, some_of, ReadsAt, Reads, reads_pure, reads_refuse, reads_map, reads_bind, reads_made, reads_if, reads_when, reads_where, reads_any, reads_token, reads_expect, reads_peek}
use Rattle.jav_parse.proofs.Samples.{a_name, a_dot, a_right}
use Rattle.jav_parse.proofs.SoundExpressions.{reads_expr, reads_inside}
use Rattle.jav_parse.proofs.SoundLists.{reads_arguments}
use Rattle.jav_parse.proofs.SoundNamed.{reads_named, reads_named_item}
use Rattle.jav_parse.proofs.SoundOperators.{not_target, target_part, no_assignment}
use Rattle.jav_parse.proofs.SoundPrimary.{or_false, some_part, reads_part, reads_chain, reads_super_call}
use Rattle.jav_parse.proofs.SoundTypes.{IsNames, reads_qualified, reads_brackets, reads_whole_type, named_type, array_named}
use Rattle.jav_parse.proofs.Steps.{Tries, tries_if}
use Rattle.jav_parse.proofs.Tests.{le_not, some_is, eq_is}
use Rattle.jav_parse.proofs.TokenSorts.{name_is, dot_is, step_is, assignment_is}
use Rattle.jav_parse.proofs.Written.{is_same}
use Rattle.jav_parse.proofs.Within.{IsBuilding, IsTarget, IsPart, Shaped, room, HasRoom, ReadsInside, whole_part, tall_part, before_dot}

-- an invocation may be a statement
pub invocation_acts : {m h : ℕ} {s : tree.Shape} {e : Expr} {ts : List Token} → Primary m s h e ts → s ≡ tree.invocation → MayBeStatement e
invocation_acts (tree.call_on {t = t} {e = e} {args = args} a b c d) q = statement-Call (Some e) t.text args
invocation_acts (tree.call {t = t} {args = args} a b) q = statement-Call None t.text args
invocation_acts (tree.super_call {t = t} {args = args} a b c d) q = statement-SuperCall t.text args
invocation_acts (tree.new {q = name} {args = args} a b c) q = statement-New (ty.Named name) args
invocation_acts p q = absurd (cc)

shape_acts : (m : ℕ) (s : Shape) (h : ℕ) (e : Expr) (ts : List Token) → is_invocation s ≡ true → Shaped m s h e ts → MayBeStatement e
shape_acts m Invocation h e ts b p = invocation_acts p refl
shape_acts m s h e ts b p = absurd (cc)

-- what is no invocation has one less room where a statement must follow
acting_low : (d : ℕ) (s : Shape) → is_invocation s ≡ false → room (acting d) s ≡ d - 1
acting_low d Invocation b = absurd (cc)
acting_low d s b = refl

acting_high : (d : ℕ) (s : Shape) → room (acting d) s ≤ d
acting_high d Invocation = omega arith
acting_high d Target = omega arith
acting_high d Atom = omega arith
acting_high d Array = omega arith
acting_high d Loose = omega arith

module _ (l : Limits) (good : IsBuilding l) (top : ℕ) (some : 0 < top) where
  roomy : HasRoom top (acting top)
  roomy = record { some = some; goes_on = inl (omega arith) }

  inner : ReadsInside l (acting top) (inside l (acting top))
  inner = reads_inside l good (acting top)

  invocation_part : (x : Tall) (front : List Token) → IsPart l (acting top) x front → is_invocation x.shape ≡ true → IsAction l top x front
  invocation_part x front h b = (whole_part l.most 1 (omega arith) x.shape x.height x.expr front h.0, shape_acts l.most x.shape x.height x.expr front b h.0, let a = acting_high top x.shape in let c = h.1 in omega arith)

  call_acts : (x : Tall) (front : List Token) → IsPart l (acting top) x front → is_invocation x.shape ≡ false → Some_of (λ y vs. IsAction l top y (front ++ vs))
  call_acts x front h b =
      let low = subst (λ r. x.height ≤ r) (acting_low top x.shape b) h.1 in
      let args = some_of (reads_arguments l top (expr l (top - 1) (goals.Level 1)) {P = λ s. Unit {0}} good.some some (λ q. (reads_expr l good (top - 1) (omega arith)).level 1 (omega arith))) in
      let y = made.called_on x a_name.token args.0 in (
        y,
        a_dot.token ∷ a_name.token ∷ args.1,
        (
          rw add-one (tree.primary (tree.call_on (before_dot l.most x.shape x.height x.expr front h.0) (dot_is a_dot.token a_dot.is) (name_is a_name.token a_name.is) args.2.0)),
          statement-Call (Some x.expr) a_name.token.text args.0.exprs,
          let a = args.2.1 in omega arith,
        ),
      )

  acts_by : (x : Tall) (front : List Token) → IsPart l (acting top) x front → (b : Bool) → is_invocation x.shape ≡ b → Some_of (λ y vs. IsAction l top y (front ++ vs))
  acts_by x front h true e = (x, [], rw append-nil (invocation_part x front h e))
  acts_by x front h false e = call_acts x front h e

  -- each part with room for it goes on to what may be a statement
  pub acts_on : (x : Tall) (front : List Token) → IsPart l (acting top) x front → Some_of (λ y vs. IsAction l top y (front ++ vs))
  acts_on x front h = acts_by x front h (is_invocation x.shape) refl

  stepped_action : (x : Tall) (front : List Token) → IsPart l (acting top) x front → not (is_target x.shape) ≡ false → x.height < top → (op : Token) → sort_of op ≡ sort.Step
      → IsAction l top (made.stepped x op) (front ++ op ∷ [])
  stepped_action x front h t low op ho =
      (rw add-one (tree.step_after {level = 1} (omega arith) (target_part l.most x.shape x.height x.expr front t h.0) (step_is op ho)), statement-Post x.expr op.text, omega arith)

  reads_step_after : (x : Tall) (front : List Token) → IsPart l (acting top) x front
      → ReadsAt (λ y vs. IsAction l top y (front ++ vs)) (λ u. u ≡ sort.Step) (step_after l top (expr l (top - 1)) (expr l (top - 1 - 1)) x)
  unfolding step_after
  reads_step_after x front h = reads_if (not (is_target x.shape) || nat_le top x.height) (λ b. reads_refuse (acts_on x front h))
      (λ b. let k = or_false (not (is_target x.shape)) (nat_le top x.height) b in
      reads_token (λ z. cc) (λ op ho. reads_pure (made.stepped x op) (stepped_action x front h k.0 (le_not top x.height k.1) op ho)))

  reads_assigned : (x : Tall) (front : List Token) → IsPart l (acting top) x front → is_target x.shape ≡ true → (s : Sort) → is_assignment s ≡ true
      → ReadsAt (λ y vs. IsAction l top y (front ++ vs)) (λ u. u ≡ s) (assignment l top (expr l (top - 1)) (expr l (top - 1 - 1)) x)
  unfolding assignment assign_to
  reads_assigned x front h t s a = reads_if (nat_le top x.height) (λ b. reads_refuse (acts_on x front h))
      (λ b. let low = le_not top x.height b in let tall = tall_part l.most x.shape x.height x.expr front h.0 in
      reads_token (no_assignment s a) (λ op ho. reads_made (λ y. made.assigned x op y) ((reads_expr l good (top - 1) (omega arith)).level 1 (omega arith))
      (λ y us hy. (
        rw add-one (tree.assign {level = 1} (omega arith) (target_part l.most x.shape x.height x.expr front (not_target x.shape t) h.0) (assignment_is op s ho a) hy.0),
        statement-Assign x.expr op.text y.expr,
        let b = hy.1 in omega arith,
      ))))

  reads_ending : (x : Tall) (front : List Token) → IsPart l (acting top) x front → Reads (λ y vs. IsAction l top y (front ++ vs)) (ending l top x)
  unfolding ending
  reads_ending x front h = reads_peek (λ s. reads_if (same_sort s sort.Step)
      (λ b. reads_where (reads_step_after x front h) (λ u e. e ∙ is_same s sort.Step b))
      (λ b. reads_if (is_assignment s)
      (λ a. reads_if (is_target x.shape) (λ t. reads_assigned x front h t s a) (λ t. reads_refuse (acts_on x front h)))
      (λ a. reads_if (is_invocation x.shape) (λ i. reads_pure x (rw append-nil (invocation_part x front h i))) (λ i. reads_refuse (acts_on x front h)))))

  reads_goes_on : (x : Tall) (front : List Token) → IsPart l (acting top) x front → Reads (λ y vs. IsAction l top y (front ++ vs)) (goes_on l top x)
  unfolding goes_on
  reads_goes_on x front h = reads_bind (reads_chain l good top (acting top) roomy (inside l (acting top)) inner top x front h)
      (λ y us k. reads_map (reads_ending y (front ++ us) k) (λ z ws j. rw append_assoc at j))

  -- ---- `++` and `--` in front

  some_action : Some_of (IsAction l top)
  some_action = let x = some_part l good top (acting top) roomy (inside l (acting top)) inner in let k = acts_on x.0 x.1 x.2 in (k.0, x.1 ++ k.1, k.2)

  step_action : (op : Token) → IsStep op → 1 < top → (x : Tall) (us : List Token) → IsTarget l (top - 1) x us → IsAction l top (made.unary op x) (op ∷ us)
  step_action op ho high x us hx = (rw add-one (tree.step_before {level = 1} (omega arith) ho hx.0), statement-Unary op.text x.expr ∙ ho.written, let a = hx.1 in omega arith)

  reads_step_action : ReadsAt (IsAction l top) (λ u. u ≡ sort.Step) (prefixed l top (expr l (top - 1)) (expr l (top - 1 - 1)) goals.Target)
  unfolding prefixed
  reads_step_action = reads_if (nat_le top 1) (λ b. reads_refuse some_action) (λ b. let high = le_not top 1 b in
      reads_token (λ z. cc) (λ op ho. reads_made (λ x. made.unary op x) (reads_expr l good (top - 1) (omega arith)).target (λ x us hx. step_action op (step_is op ho) high x us hx)))

  reads_acts : Reads (IsAction l top) (acts l top)
  unfolding acts
  reads_acts = reads_when sort.Step reads_step_action
      (reads_bind (reads_part l good top (acting top) roomy (inside l (acting top)) inner) (λ x us h. reads_ending x us h))

pub reads_action : (l : Limits) → IsBuilding l → (top : ℕ) → 0 < top → Reads (IsAction l top) (action l top)
unfolding action
reads_action l good top some = reads_if (nat_eq top 0) (λ b. absurd (let z = eq_is top 0 b in omega arith)) (λ b. reads_acts l good top some)

pub reads_acting_on : (l : Limits) → IsBuilding l → (top : ℕ) → 0 < top → (x : Tall) (front : List Token) → IsPart l (acting top) x front → Reads (λ y vs. IsAction l top y (front ++ vs)) (acting_on l top x)
unfolding acting_on
reads_acting_on l good top some x front h = reads_if (nat_eq top 0) (λ b. absurd (let z = eq_is top 0 b in omega arith)) (λ b. reads_goes_on l good top some x front h)

super_acts : (l : Limits) → IsBuilding l → (top : ℕ) (word : Token) → IsKeyword "super" word → Tries (λ x ts. IsAction l top x (word ∷ ts)) (super_action l top word.start)
unfolding super_action
super_acts l good top word hw = tries_if (nat_eq top 0) (λ b. let some = some_is top b in
    reads_bind (reads_super_call l good top (acting top) (roomy l good top some) (inside l (acting top)) (inner l good top some) some word hw) (λ x us h. reads_goes_on l good top some x (word ∷ us) h))

-- ---- what begins with names

module _ (l : Limits) (good : IsBuilding l) (top : ℕ) (names : List Token) (are : IsNames names) where
  a_declaration : Some_of (λ y vs. IsLead l top y (names ++ vs))
  a_declaration = (Declaration (ty.Named (text_of names)), [], rw append-nil (named_type l names are))

  part_lead : (some : 0 < top) (y : Tall) (front : List Token) → IsPart l (acting top) y front → IsLead l top (Part y) front
  part_lead some y front h = reads_acting_on l good top some y front h

  reads_array_lead : (left right : Token) → sort_of left ≡ sort.Left → sort_of right ≡ sort.Right
      → Reads (λ y vs. IsLead l top y (names ++ (left ∷ right ∷ vs))) (brackets (l.most - 1) 1 >>= (λ n. pure (Declaration (array_type l.builds n (ty.Named (text_of names))))))
  reads_array_lead left right hl hr = reads_made (λ n. Declaration (array_type l.builds n (ty.Named (text_of names)))) (reads_brackets (l.most - 1) 1)
      (λ n us b. array_named l good.builds good.some names are left right hl hr n us b)

  reads_indexed_or_array : (left : Token) → sort_of left ≡ sort.Left → Reads (λ y vs. IsLead l top y (names ++ (left ∷ vs))) (indexed_or_array l top names)
  unfolding indexed_or_array
  reads_indexed_or_array left hl =
      let array = some_of (reads_expect a_right (λ right hr. reads_array_lead left right hl hr)) in
      reads_when sort.Right
      (reads_token (λ z. cc) (λ right hr. reads_array_lead left right hl hr))
      (reads_any (reads_if (nat_eq top 0) (λ b. reads_refuse array)
      (λ b. let some = some_is top b in reads_named_item l good top (acting top) (roomy l good top some) (inside l (acting top)) (inner l good top some) names are (λ x. pure (Part x)) left hl array
      (λ y vs h. reads_pure (Part y) (rw append-nil (part_lead some y (names ++ (left ∷ vs)) h))))))

  reads_named_lead : {P : Sort → Type 0} → ReadsAt (λ y vs. IsLead l top y (names ++ vs)) P (if nat_eq top 0 then refuse else (primaries.named l top (acting top) (inside l (acting top)) names >>= (λ x. pure (Part x))))
  reads_named_lead = reads_if (nat_eq top 0) (λ b. reads_refuse a_declaration)
      (λ b. let some = some_is top b in reads_named l good top (acting top) (roomy l good top some) (inside l (acting top)) (inner l good top some) names are (λ x. pure (Part x)) a_declaration
      (λ y vs h. reads_pure (Part y) (rw append-nil (part_lead some y (names ++ vs) h))))

  reads_lead_by : (s : Sort) → ReadsAt (λ y vs. IsLead l top y (names ++ vs)) (λ u. u ≡ s) (lead_by l top names s)
  reads_lead_by sort.Name = reads_pure (Declaration (ty.Named (text_of names))) (rw append-nil (named_type l names are))
  reads_lead_by sort.Left = reads_token (λ z. cc) (λ left hl. reads_indexed_or_array left hl)
  reads_lead_by s = reads_named_lead

reads_lead : (l : Limits) → IsBuilding l → (top : ℕ) → Reads (IsLead l top) (type_or_part l top)
unfolding type_or_part
reads_lead l good top = reads_bind (reads_qualified l.turns) (λ names us k.
    subst (λ r. Reads (λ y vs. IsLead l top y (r ++ vs)) (peek >>= lead_by l top names)) k.0 (reads_peek (reads_lead_by l good top names (subst IsNames (sym k.0) k.1))))

-- what statements rest on
pub expression_laws : (l : Limits) → IsBuilding l → ExpressionLaws l
expression_laws l good = record {
  type = reads_whole_type l good.builds;
  level = λ top p. (reads_expr l good top p).level 1 (omega arith);
  value = λ top p. (reads_expr l good top p).init;
  arguments_are = λ room p. reads_arguments l room (expr l (room - 1) (goals.Level 1)) good.some p (λ q. (reads_expr l good (room - 1) (omega arith)).level 1 (omega arith));
  acts = λ top p. reads_action l good top p;
  super_acts = λ top word h. super_acts l good top word h;
  lead = λ top. reads_lead l good top;
}
