-- Declarations, and the parts of the header of a `for`, are read whole.
use Rattle.std.proofs.Common.{◌≡◌, ◌⊎◌, inl, inr, ℕ, ◌+◌, ◌-◌, ◌<◌, Bool, true, false, List, ◌∷◌, ◌++◌, length, Ok, refl, ◌∙◌, append_assoc}
use Rattle.mol_base.specs.Token.{Token}
use Rattle.jav_tree.specs.declared.types.TypeName.{TypeName}
use Rattle.jav_tree.specs.declared.stmt.ForStart.TheVariants as for_start
use Rattle.jav_tree.specs.declared.stmt.StmtNode.TheVariants as node
use Rattle.jav_tree.specs.Statements.{MayBeStatement, MaybeFinal, MaybeExpression}
use Rattle.jav_tree.specs.Statements as grammar
use Rattle.jav_tree.specs.Tokens.{start_of}
use Rattle.jav_tree.specs.Types as types
use Rattle.jav_tree.specs.Types.{BaseType, Brackets, WholeType}
use Rattle.jav_parse_expr.specs.declared.action.Lead.TheVariants.{Declaration}
use Rattle.jav_parse_stmt.specs.declared.flow.HeaderPart.TheVariants.{Start, Each}
use Rattle.jav_parse_cursor.specs.declared.limits.Limits.{Limits}
use Rattle.jav_parse_stmt.specs.declared.local.VariableList.{VariableList}
use Rattle.jav_parse_cursor.specs.declared.sort.Sort.{Sort}
use Rattle.jav_parse_cursor.specs.declared.sort.Sort.TheVariants as sort
use Rattle.jav_parse_stmt.specs.declared.stmt.Place.{Place}
use Rattle.jav_parse_stmt.specs.declared.stmt_tall.TallStmt.{TallStmt}
use Rattle.jav_parse_expr.specs.ActionRules.{type_or_part}
use Rattle.jav_parse_stmt.specs.LocalRules.{no_variables, declarators, variables, with_variable, further_variables}
use Rattle.jav_parse_cursor.specs.Reading.{Parser, ◌>>=◌, sort as next}
use Rattle.jav_parse_cursor.specs.Sorts.{sort_of, same_sort}
use Rattle.jav_parse_stmt.specs.StmtRules as rules
use Rattle.jav_parse_stmt.specs.StmtRules.{closed, local, local_of, named, header, header_by, header_named, header_of, header_let, header_led, doing, for_test, updates}
use Rattle.jav_parse_cursor.specs.TypeRules.{whole_type}
use Rattle.jav_parse.proofs.CompleteLeads.{declared_lead, is_not_at}
use Rattle.jav_parse.proofs.CompletePlain.{item_is}
use Rattle.jav_parse.proofs.CompleteTypes.{whole_read, qualified_begins}
use Rattle.jav_parse.proofs.ReadingSteps.{IsNot, same_self, sort_at, take_goes, expect_goes}
use Rattle.jav_parse.proofs.SortsOfTokens.{keyword_sort, primitive_sort}

-- ---- types

-- a type begins with a primitive type or a name
pub type_begins : (limit : ℕ) (to : TypeName) (us : List Token) → WholeType limit to us → (rest : List Token) → (next (us ++ rest) ≡ sort.Prim) ⊎ (next (us ++ rest) ≡ sort.Name)
unfolding next
type_begins limit to us (types.whole {us = vs} (types.primitive p) y few) rest = inl (primitive_sort p)
type_begins limit to us (types.whole {ts = ts} {us = vs} (types.named q) y few) rest = inr (rw append_assoc (qualified_begins q (vs ++ rest)))

module _ (l : Limits) (top : ℕ) where
  -- ---- declarations in a block

  local_final : (t : Token) (us : List Token) (to : TypeName) (rest : List Token) → sort_of t ≡ sort.Final → whole_type l us ≡ Ok (to, rest) → local l top (t ∷ us) ≡ local_of l top t.start true to rest
  unfolding local next
  local_final t us to rest h q = rw (h, same_self sort.Final, take_goes t us, q) refl

  local_plain : (us : List Token) (to : TypeName) (rest : List Token) → IsNot sort.Final us → whole_type l us ≡ Ok (to, rest) → local l top us ≡ local_of l top (start_of us) false to rest
  unfolding local
  local_plain us to rest n q = rw (n, q) refl

  local_named : (us : List Token) (to : TypeName) (rest : List Token) → type_or_part l (top - 1) us ≡ Ok (Declaration to, rest) → named l top us ≡ local_of l top (start_of us) false to rest
  unfolding named
  local_named us to rest q = rw q refl

  -- variables and the semicolon
  pub local_of_goes : (at : ℕ) (is_final : Bool) (to : TypeName) (first : Token) (us : List Token) (all : VariableList) (semi : Token) (rest : List Token) → sort_of first ≡ sort.Name
      → (with_variable l (top - 1) no_variables first >>= further_variables l (top - 1) l.turns) us ≡ Ok (all, semi ∷ rest) → sort_of semi ≡ sort.Semi
      → local_of l top at is_final to (first ∷ us) ≡ Ok (closed at (node.Let (record { is_final = is_final; ty = to; names = declarators all.items })) (all.height + 1), rest)
  unfolding local_of variables
  local_of_goes at is_final to first us all semi rest h q hs = rw (expect_goes first us h, q, expect_goes semi rest hs) refl

  -- ---- declarations in a header

  header_is : (s : Sort) (ts : List Token) → next ts ≡ s → header l top ts ≡ header_by l top s ts
  unfolding header
  header_is s ts h = rw h refl

  header_final : (t : Token) (us : List Token) (to : TypeName) (rest : List Token) → sort_of t ≡ sort.Final → whole_type l us ≡ Ok (to, rest) → header l top (t ∷ us) ≡ header_of l top true to rest
  unfolding header next
  header_final t us to rest h q = rw (h, take_goes t us, q) refl

  header_primitive : (us : List Token) (to : TypeName) (rest : List Token) → next us ≡ sort.Prim → whole_type l us ≡ Ok (to, rest) → header l top us ≡ header_of l top false to rest
  unfolding header
  header_primitive us to rest h q = rw (h, q) refl

  header_name : (us : List Token) (to : TypeName) (rest : List Token) → next us ≡ sort.Name → type_or_part l top us ≡ Ok (Declaration to, rest) → header l top us ≡ header_of l top false to rest
  unfolding header header_named
  header_name us to rest h q = rw (h, q) refl

  pub header_let_goes : (is_final : Bool) (to : TypeName) (first : Token) (us : List Token) (all : VariableList) (rest : List Token) → sort_of first ≡ sort.Name → IsNot sort.Colon us
      → (with_variable l top no_variables first >>= further_variables l top l.turns) us ≡ Ok (all, rest)
      → header_of l top is_final to (first ∷ us) ≡ Ok (Start (for_start.Let (record { is_final = is_final; ty = to; names = declarators all.items })) all.height, rest)
  unfolding header_of header_let variables
  header_let_goes is_final to first us all rest h n q = rw (expect_goes first us h, n, q) refl

  pub header_each : (is_final : Bool) (to : TypeName) (name colon : Token) (rest : List Token) → sort_of name ≡ sort.Name → sort_of colon ≡ sort.Colon
      → header_of l top is_final to (name ∷ colon ∷ rest) ≡ Ok (Each is_final to name.text, colon ∷ rest)
  unfolding header_of next
  header_each is_final to name colon rest h c = rw (expect_goes name (colon ∷ rest) h, c, same_self sort.Colon) refl

  name_apart : (rest : List Token) → next rest ≡ sort.Name → IsNot sort.Dot rest × IsNot sort.Left rest
  unfolding same_sort
  name_apart rest h = (rw h refl, rw h refl)

  -- what begins a declaration in a header, up to its first variable
  header_type : l.builds ≡ true → (to : TypeName) (us : List Token) → WholeType l.most to us → (rest : List Token) → next rest ≡ sort.Name → length us < l.turns → header l top (us ++ rest) ≡ header_of l top false to rest
  header_type b to us x rest h few =
      let a = name_apart rest h in
      elim (type_begins l.most to us x rest) [
        | inl p ↦ header_primitive (us ++ rest) to rest p (whole_read l b x few rest a.0 a.1)
        | inr p ↦ header_name (us ++ rest) to rest p (declared_lead l top b to us x rest p h few)
      ]

  pub header_declares : l.builds ≡ true → (is_final : Bool) (ts : List Token) → MaybeFinal is_final ts → (to : TypeName) (us : List Token) → WholeType l.most to us → (rest : List Token) → next rest ≡ sort.Name → length us < l.turns
      → header l top (ts ++ (us ++ rest)) ≡ header_of l top is_final to rest
  header_declares b is_final ts grammar.no to us x rest h few = header_type b to us x rest h few
  header_declares b is_final ts (grammar.yes {t = t} f) to us x rest h few =
      let a = name_apart rest h in header_final t (us ++ rest) to rest (keyword_sort "final" t f) (whole_read l b x few rest a.0 a.1)

module _ (l : Limits) (top : ℕ) (once twice : Place → Parser TallStmt) where
  item_type : l.builds ≡ true → (to : TypeName) (us : List Token) → WholeType l.most to us → (rest : List Token) → next rest ≡ sort.Name → length us < l.turns
      → rules.item l top once twice (us ++ rest) ≡ local_of l top (start_of (us ++ rest)) false to rest
  unfolding same_sort
  item_type b to us x rest h few =
      let a = name_apart l top rest h in
      elim (type_begins l.most to us x rest) [
        | inl p ↦ item_is l top once twice sort.Prim (us ++ rest) p ∙ local_plain l top (us ++ rest) to rest (is_not_at sort.Prim sort.Final (us ++ rest) p refl) (whole_read l b x few rest a.0 a.1)
        | inr p ↦ item_is l top once twice sort.Name (us ++ rest) p ∙ local_named l top (us ++ rest) to rest (declared_lead l (top - 1) b to us x rest p h few)
      ]

  -- what begins a declaration in a block, up to its first variable
  pub item_declares : l.builds ≡ true → (is_final : Bool) (ts : List Token) → MaybeFinal is_final ts → (to : TypeName) (us : List Token) → WholeType l.most to us → (rest : List Token) → next rest ≡ sort.Name → length us < l.turns
      → rules.item l top once twice (ts ++ (us ++ rest)) ≡ local_of l top (start_of (ts ++ (us ++ rest))) is_final to rest
  item_declares b is_final ts grammar.no to us x rest h few = item_type b to us x rest h few
  item_declares b is_final ts (grammar.yes {t = t} f) to us x rest h few =
      let a = name_apart l top rest h in
      item_is l top once twice sort.Final (t ∷ us ++ rest) (sort_at t (us ++ rest) ∙ keyword_sort "final" t f)
      ∙ local_final l top t (us ++ rest) to rest (keyword_sort "final" t f) (whole_read l b x few rest a.0 a.1)
