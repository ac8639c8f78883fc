-- Casts and expressions in parentheses that are read are in the grammar, and what is refused could have gone on.
use Rattle.std.proofs.Common.{◌≡◌, inl, inr, ℕ, ◌-◌, ◌<◌, ◌≤◌, true, List, [], ◌∷◌, ◌++◌, Ok, Err, nat_le, nat_eq, refl, sym, ap, ◌∙◌, subst, append_assoc, arith}
use Rattle.std.proofs.Math.Numerals.{add-one}
use Rattle.mol_base.specs.Token.{Token}
use Rattle.jav_tree.specs.Operators.{BeginsWithSign}
use Rattle.jav_tree.specs.declared.types.TypeName.{TypeName}
use Rattle.jav_tree.specs.declared.types.TypeName.TheVariants as ty
use Rattle.jav_tree.specs.Expressions as tree
use Rattle.jav_tree.specs.Expressions.{Expression, Primary, MayBeCast}
use Rattle.jav_tree.specs.Types as types
use Rattle.jav_tree.specs.Types.{WholeType, array_of, is_primitive}
use Rattle.jav_tree.proofs.PrimitiveTypes.{primitive-Prim}
use Rattle.jav_parse_cursor.specs.declared.limits.Limits.{Limits}
use Rattle.jav_parse_expr.specs.declared.primary.Goal.{Goal}
use Rattle.jav_parse_expr.specs.declared.primary.Goal.TheVariants.{Level}
use Rattle.jav_parse_cursor.specs.declared.sort.Sort.{Sort}
use Rattle.jav_parse_cursor.specs.declared.sort.Sort.TheVariants as sort
use Rattle.jav_parse_cursor.specs.declared.tall.Tall.{Tall}
use Rattle.jav_parse_cursor.specs.Nodes as made
use Rattle.jav_parse_cursor.specs.Nodes.{count_of, text_of, array_type}
use Rattle.jav_parse_expr.specs.PrimaryRules.{free, named, named_item}
use Rattle.jav_parse_cursor.specs.TypeRules.{brackets}
use Rattle.jav_parse_expr.specs.ExprRules.{begins_operand, inside_by, cast, array_cast, primitive_cast, after_parens, closed, goes_on, name_closed, opened_by, opened_name, opened_at, opened}
use Rattle.jav_parse_cursor.specs.Reading.{Parser, Outcome, sort as next_sort, ◌>>=◌, peek}
use Rattle.jav_parse_cursor.specs.Sorts.{sort_of}
use Rattle.jav_parse.proofs.Meets.{Spelling, Meets, Some_of, some_of, ReadsAt, Reads, reads_refuse, reads_map, reads_bind, reads_made, reads_if, reads_when, reads_any, reads_token, reads_expect, reads_peek}
use Rattle.jav_parse.proofs.Samples.{a_name, a_close, a_right}
use Rattle.jav_parse.proofs.SoundNamed.{reads_named, reads_named_item}
use Rattle.jav_parse.proofs.SoundNames.{named_is}
use Rattle.jav_parse.proofs.SoundOperators.{IsOperand, reads_postfix}
use Rattle.jav_parse.proofs.SoundPrimary.{paren_part, reads_chain}
use Rattle.jav_parse.proofs.SoundTypes.{IsPrimitiveType, primitive_base, reads_primitive, AreBrackets, reads_brackets, array_is, IsNames, reads_qualified, named_type, array_named}
use Rattle.jav_parse.proofs.Tests.{le_not, eq_is}
use Rattle.jav_parse.proofs.TokenSorts.{name_is, open_is, close_is, no_sign}
use Rattle.jav_parse.proofs.Within.{IsBuilding, IsLevel, IsPart, HasRoom, ReadsInside, ReadsExpr}

-- rooms where nothing must follow
pub free_rooms : (d : ℕ) → 0 < d → HasRoom d (free d)
free_rooms d p = record { some = p; goes_on = inl (omega arith) }

pub free_inside : (l : Limits) (d : ℕ) (p : Goal → Parser Tall) → (0 < d - 1 → ReadsExpr l (d - 1) p) → ReadsInside l (free d) (inside_by p p p)
free_inside l d p h = record {
  argument = λ q. (h (omega arith)).level 1 (omega arith);
  index = λ q. (h (omega arith)).level 1 (omega arith);
  within = λ q. (h (omega arith)).level 1 (omega arith);
  init = λ q. (h (omega arith)).init;
}

-- what begins as an operand of any cast may
abbrev IsUnsigned : Limits → ℕ → Spelling Tall
IsUnsigned l d y ts = IsLevel l 13 d y ts × (¬ (BeginsWithSign ts))

some_unsigned : (l : Limits) (d : ℕ) → 0 < d → Some_of (IsUnsigned l d)
some_unsigned l d p = (made.name a_name.token, a_name.token ∷ [], ((tree.primary (tree.name (name_is a_name.token a_name.is)), omega arith), no_sign a_name.token sort.Name a_name.is refl))

unsigned_meets : (l : Limits) (d : ℕ) → 0 < d → (s : Sort) → begins_operand s ≡ true → (ts : List Token) → next_sort ts ≡ s → (o : Outcome Tall) → Meets (IsLevel l 13 d) ts o → Meets (IsUnsigned l d) ts o
unfolding next_sort
unsigned_meets l d p s b ts e (Ok x) ([], f, k) = ([], f, (k, λ n. n))
unsigned_meets l d p s b ts e (Ok x) (t ∷ front, f, k) = (t ∷ front, f, (k, no_sign t s (sym (ap next_sort f) ∙ e) b))
unsigned_meets l d p s b ts e (Err bad) ([], f, more, x, k) = let w = some_unsigned l d p in ([], f, w.1, w.0, w.2)
unsigned_meets l d p s b ts e (Err bad) (t ∷ front, f, more, x, k) = (t ∷ front, f, more, x, (k, no_sign t s (sym (ap next_sort f) ∙ e) b))

reads_unsigned : (l : Limits) (d : ℕ) → 0 < d → (p : Parser Tall) → Reads (IsLevel l 13 d) p → (s : Sort) → begins_operand s ≡ true → ReadsAt (IsUnsigned l d) (λ u. u ≡ s) p
reads_unsigned l d some p h s b = record { at = λ ts e. unsigned_meets l d some s b ts e (p ts) (h.at ts tt) }

module _ (l : Limits) (good : IsBuilding l) (top : ℕ) (high : 1 < top) (once twice : Goal → Parser Tall) (one : ReadsExpr l (top - 1) once) where
  -- ---- casts

  cast_operand : (left right : Token) → sort_of left ≡ sort.Open → sort_of right ≡ sort.Close → (to : TypeName) (ts : List Token) → WholeType l.most to ts
      → (x : Tall) (us : List Token) → IsLevel l 13 (top - 1) x us → MayBeCast to us → IsOperand l top (made.cast left.start to x) (left ∷ (ts ++ (right ∷ us)))
  cast_operand left right hl hr to ts ht x us hx may = (rw add-one (tree.cast {level = 13} (omega arith) (open_is left hl) ht (close_is right hr) may hx.0), let a = hx.1 in omega arith)

  reads_primitive_operand : (left right : Token) → sort_of left ≡ sort.Open → sort_of right ≡ sort.Close → (to : TypeName) (ts : List Token) → WholeType l.most to ts → is_primitive to ≡ true
      → Reads (λ y vs. IsOperand l top y (left ∷ (ts ++ (right ∷ vs)))) (cast l top once twice left.start to)
  unfolding cast
  reads_primitive_operand left right hl hr to ts ht p = reads_made (λ x. made.cast left.start to x) (one.level 13 (omega arith)) (λ x us hx. cast_operand left right hl hr to ts ht x us hx (inl p))

  reads_unsigned_operand : (left right : Token) → sort_of left ≡ sort.Open → sort_of right ≡ sort.Close → (to : TypeName) (ts : List Token) → WholeType l.most to ts → (s : Sort) → begins_operand s ≡ true
      → ReadsAt (λ y vs. IsOperand l top y (left ∷ (ts ++ (right ∷ vs)))) (λ u. u ≡ s) (cast l top once twice left.start to)
  unfolding cast
  reads_unsigned_operand left right hl hr to ts ht s b = reads_made (λ x. made.cast left.start to x) (reads_unsigned l (top - 1) (omega arith) (once (Level 13)) (one.level 13 (omega arith)) s b)
      (λ x us hx. cast_operand left right hl hr to ts ht x us hx.0 (inr hx.1))

  some_cast : (left right : Token) → sort_of left ≡ sort.Open → sort_of right ≡ sort.Close → (to : TypeName) (ts : List Token) → WholeType l.most to ts
      → Some_of (λ y vs. IsOperand l top y (left ∷ (ts ++ (right ∷ vs))))
  some_cast left right hl hr to ts ht = let w = some_unsigned l (top - 1) (omega arith) in
      (made.cast left.start to w.0, w.1, cast_operand left right hl hr to ts ht w.0 w.1 w.2.0 (inr w.2.1))

  reads_array_cast : (left : Token) → sort_of left ≡ sort.Open → (base : TypeName) (n : ℕ) (ts : List Token) → WholeType l.most (array_type l.builds n base) ts
      → Reads (λ y vs. IsOperand l top y (left ∷ (ts ++ vs))) (array_cast l top once twice left.start base n)
  unfolding array_cast
  reads_array_cast left hl base n ts ht = reads_expect a_close (λ right hr. reads_peek (λ s. reads_if (begins_operand s)
      (λ b. reads_unsigned_operand left right hl hr (array_type l.builds n base) ts ht s b)
      (λ b. reads_refuse (some_cast left right hl hr (array_type l.builds n base) ts ht))))

  primitive_type : (base : TypeName) (us : List Token) → IsPrimitiveType base us → (n : ℕ) (vs : List Token) → AreBrackets l.most 0 n vs → WholeType l.most (array_of n base) (us ++ vs)
  primitive_type base us k n vs b = let e : b.count ≡ n = let s = b.sum in omega arith in
      subst (λ r. WholeType l.most (array_of r base) (us ++ vs)) e (types.whole (primitive_base base us k) b.pairs b.few)

  reads_primitive_cast : (left : Token) → sort_of left ≡ sort.Open → Reads (λ y vs. IsOperand l top y (left ∷ vs)) (primitive_cast l top once twice left.start)
  unfolding primitive_cast
  reads_primitive_cast left hl = reads_bind reads_primitive (λ base us k. reads_bind (reads_brackets l.most 0) (λ n vs b.
      let whole = primitive_type base us k n vs b in
      reads_if (nat_eq n 0)
      (λ z. let plain : WholeType l.most base (us ++ vs) = subst (λ r. WholeType l.most (array_of r base) (us ++ vs)) (eq_is n 0 z) whole in
      reads_expect a_close (λ right hr. reads_map (reads_primitive_operand left right hl hr base (us ++ vs) plain (ap is_primitive k.type_is ∙ primitive-Prim k.token.text))
      (λ y ws j. rw append_assoc at j)))
      (λ z. reads_map (reads_array_cast left hl base n (us ++ vs) (subst (λ r. WholeType l.most r (us ++ vs)) (sym (array_is l good.builds n base)) whole)) (λ y ws j. rw append_assoc at j))))

  -- ---- what goes on from an expression in parentheses

  pub reads_after_parens : (x : Tall) (front : List Token) → IsPart l (free top) x front → Reads (λ y vs. IsOperand l top y (front ++ vs)) (after_parens l top once twice x)
  unfolding after_parens
  reads_after_parens x front h = reads_bind (reads_chain l good top (free top) (free_rooms top (omega arith)) (inside_by once once once) (free_inside l top once (λ p. one)) top x front h)
      (λ y us k. reads_map (reads_postfix l good top once twice (λ p. one) y (front ++ us) k) (λ z ws j. rw append_assoc at j))

  reads_closed : (left : Token) → sort_of left ≡ sort.Open → (x : Tall) (us : List Token) → IsLevel l 1 (top - 1) x us → Reads (λ y vs. IsOperand l top y (left ∷ (us ++ vs))) (closed l top once twice left.start x)
  unfolding closed
  reads_closed left hl x us hx = reads_expect a_close (λ right hr.
      reads_map (reads_after_parens (made.in_parens left.start x) (left ∷ (us ++ right ∷ [])) (paren_part l (free top) left right hl hr x us hx high)) (λ y ws j. rw append_assoc at j))

  reads_goes_on : (left : Token) → sort_of left ≡ sort.Open → (x : Tall) (front : List Token) → IsPart l (free (top - 1)) x front
      → Reads (λ y vs. IsOperand l top y (left ∷ (front ++ vs))) (goes_on l top once twice left.start x)
  unfolding goes_on
  reads_goes_on left hl x front h = reads_bind (one.after x front h) (λ y us k. reads_map (reads_closed left hl y (front ++ us) k) (λ z ws j. rw append_assoc at j))

  -- ---- what begins with a parenthesis and a name

  named_level : (names : List Token) → IsNames names → count_of names ≤ top - 1 → IsLevel l 1 (top - 1) (made.named l.builds names) names
  named_level names are low = let k = named_is l good.builds names are in (tree.primary k.primary, let h = k.height in omega arith)

  reads_name_closed : (left right : Token) → sort_of left ≡ sort.Open → sort_of right ≡ sort.Close → (names : List Token) → IsNames names
      → Reads (λ y vs. IsOperand l top y (left ∷ (names ++ (right ∷ vs)))) (name_closed l top once twice left.start names)
  unfolding name_closed
  reads_name_closed left right hl hr names are =
      let to = ty.Named (text_of names) in
      let ht = named_type l names are in
      reads_peek (λ s. reads_if (begins_operand s)
      (λ b. reads_unsigned_operand left right hl hr to names ht s b)
      (λ b. reads_if (nat_le top (count_of names))
      (λ c. reads_refuse (some_cast left right hl hr to names ht))
      (λ c. let low = le_not top (count_of names) c in
      reads_any (reads_map (reads_after_parens (made.in_parens left.start (made.named l.builds names)) (left ∷ (names ++ right ∷ []))
      (paren_part l (free top) left right hl hr (made.named l.builds names) names (named_level names are (omega arith)) high)) (λ y ws j. rw append_assoc at j)))))

  reads_array_named : (left : Token) → sort_of left ≡ sort.Open → (names : List Token) → IsNames names → (first second : Token) → sort_of first ≡ sort.Left → sort_of second ≡ sort.Right
      → Reads (λ y vs. IsOperand l top y (left ∷ (names ++ (first ∷ second ∷ vs)))) (brackets (l.most - 1) 1 >>= (λ n. array_cast l top once twice left.start (ty.Named (text_of names)) n))
  reads_array_named left hl names are first second hf hs = reads_bind (reads_brackets (l.most - 1) 1)
      (λ n us b. reads_map (reads_array_cast left hl (ty.Named (text_of names)) n (names ++ (first ∷ second ∷ us)) (array_named l good.builds good.some names are first second hf hs n us b)) (λ y ws j. rw append_assoc at j))

  module _ (two : 0 < top - 1 - 1 → ReadsExpr l (top - 1 - 1) twice) where
    -- the names as a part, and what goes on from it
    reads_part_opened : {P : Sort → Type 0} (left : Token) → sort_of left ≡ sort.Open → (names : List Token) → IsNames names
        → ReadsAt (λ y vs. IsOperand l top y (left ∷ (names ++ vs))) P (named l (top - 1) (free (top - 1)) (inside_by twice twice twice) names >>= goes_on l top once twice left.start)
    reads_part_opened left hl names are = reads_named l good (top - 1) (free (top - 1)) (free_rooms (top - 1) (omega arith)) (inside_by twice twice twice) (free_inside l (top - 1) twice two) names are
        (goes_on l top once twice left.start) (some_of (reads_expect a_close (λ right hr. reads_name_closed left right hl hr names are)))
        (λ y vs h. reads_map (reads_goes_on left hl y (names ++ vs) h) (λ z ws j. rw append_assoc at j))

    reads_item_opened : (left : Token) → sort_of left ≡ sort.Open → (names : List Token) → IsNames names → (first : Token) → sort_of first ≡ sort.Left
        → Reads (λ y vs. IsOperand l top y (left ∷ (names ++ (first ∷ vs)))) (named_item l (top - 1) (free (top - 1)) (inside_by twice twice twice) names >>= goes_on l top once twice left.start)
    reads_item_opened left hl names are first hf = reads_named_item l good (top - 1) (free (top - 1)) (free_rooms (top - 1) (omega arith)) (inside_by twice twice twice) (free_inside l (top - 1) twice two) names are
        (goes_on l top once twice left.start) first hf (some_of (reads_expect a_right (λ second hs. reads_array_named left hl names are first second hf hs)))
        (λ y vs h. reads_map (reads_goes_on left hl y (names ++ (first ∷ vs)) h) (λ z ws j. rw append_assoc at j))

    reads_opened_by : (left : Token) → sort_of left ≡ sort.Open → (names : List Token) → IsNames names → (s : Sort)
        → ReadsAt (λ y vs. IsOperand l top y (left ∷ (names ++ vs))) (λ u. u ≡ s) (opened_by l top once twice left.start names s)
    reads_opened_by left hl names are sort.Close = reads_token (λ z. cc) (λ right hr. reads_name_closed left right hl hr names are)
    reads_opened_by left hl names are sort.Left = reads_token (λ z. cc) (λ first hf. reads_when sort.Right
        (reads_token (λ z. cc) (λ second hs. reads_array_named left hl names are first second hf hs))
        (reads_any (reads_item_opened left hl names are first hf)))
    reads_opened_by left hl names are s = reads_part_opened left hl names are

    reads_opened_name : (left : Token) → sort_of left ≡ sort.Open → Reads (λ y vs. IsOperand l top y (left ∷ vs)) (opened_name l top once twice left.start)
    unfolding opened_name
    reads_opened_name left hl = reads_bind (reads_qualified l.turns) (λ names us k.
        subst (λ r. Reads (λ y vs. IsOperand l top y (left ∷ (r ++ vs))) (peek >>= opened_by l top once twice left.start names)) k.0 (reads_peek (reads_opened_by left hl names (subst IsNames (sym k.0) k.1))))

    reads_opened_at : (left : Token) → sort_of left ≡ sort.Open → (s : Sort) → ReadsAt (λ y vs. IsOperand l top y (left ∷ vs)) (λ u. u ≡ s) (opened_at l top once twice left.start s)
    reads_opened_at left hl sort.Prim = reads_any (reads_primitive_cast left hl)
    reads_opened_at left hl sort.Name = reads_any (reads_opened_name left hl)
    reads_opened_at left hl s = reads_any (reads_bind (one.level 1 (omega arith)) (λ x us hx. reads_closed left hl x us hx))

    pub reads_opened : ReadsAt (IsOperand l top) (λ u. u ≡ sort.Open) (opened l top once twice)
    unfolding opened
    reads_opened = reads_token (λ z. cc) (λ left hl. reads_peek (reads_opened_at left hl))
