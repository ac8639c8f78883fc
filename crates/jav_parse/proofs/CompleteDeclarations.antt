-- Declarations of local variables are read whole, as a statement and in a header.
use Rattle.std.proofs.Common.{◌≡◌, inl, inr, ℕ, suc, ◌+◌, ◌-◌, ◌<◌, ◌≤◌, max, Bool, List, [], ◌∷◌, ◌++◌, length, map, Ok, refl, sym, ap, ◌∙◌, subst, append_assoc, append-nil, arith}
use Rattle.std.proofs.lemmas.List.{length-append}
use Rattle.mol_base.specs.Token.{Token}
use Rattle.jav_tree.specs.declared.types.TypeName.{TypeName}
use Rattle.jav_tree.specs.declared.stmt.Declarator.{Declarator}
use Rattle.jav_tree.specs.declared.stmt.ForStart.TheVariants as for_start
use Rattle.jav_tree.specs.declared.stmt.Let.{Let}
use Rattle.jav_tree.specs.declared.stmt.StmtNode.TheVariants as node
use Rattle.jav_tree.specs.Statements.{MaybeFinal}
use Rattle.jav_tree.specs.Statements as grammar
use Rattle.jav_tree.specs.Tokens.{start_of}
use Rattle.jav_tree.specs.Types.{WholeType}
use Rattle.jav_parse_stmt.specs.declared.flow.HeaderPart.TheVariants.{Start}
use Rattle.jav_parse_cursor.specs.declared.limits.Limits.{Limits}
use Rattle.jav_parse_cursor.specs.declared.sort.Sort.{Sort}
use Rattle.jav_parse_cursor.specs.declared.sort.Sort.TheVariants as sort
use Rattle.jav_parse_stmt.specs.declared.stmt.Place.{Place}
use Rattle.jav_parse_stmt.specs.declared.stmt_tall.TallStmt.{TallStmt}
use Rattle.jav_parse_stmt.specs.LocalRules.{no_variables, declarators}
use Rattle.jav_parse_cursor.specs.Reading.{Parser, sort as next}
use Rattle.jav_parse_cursor.specs.Sorts.{sort_of, same_sort}
use Rattle.jav_parse_stmt.specs.StmtRules as rules
use Rattle.jav_parse_stmt.specs.StmtRules.{stmt, closed, header}
use Rattle.jav_parse.proofs.CompleteHeaders.{type_begins, local_of_goes, header_let_goes, header_declares, item_declares}
use Rattle.jav_parse.proofs.CompleteLocals.{VariablesRead, AfterVariables, added, variable, declared_are, variables_read}
use Rattle.jav_parse.proofs.CompletePlain.{semi_ends, start_same}
use Rattle.jav_parse.proofs.ReadingSteps.{IsNot, is_not, sort_at}
use Rattle.jav_parse.proofs.SortsOfTokens.{keyword_sort}
use Rattle.jav_parse.proofs.StatementReadings.{Fits}
use Rattle.jav_parse.proofs.WholeLaws.{WholeLaws}

pub after_semi : (semi : Token) (rest : List Token) → sort_of semi ≡ sort.Semi → AfterVariables (semi ∷ rest)
unfolding same_sort
after_semi semi rest h = record { comma = is_not sort.Comma sort.Semi semi rest h refl; equals = is_not sort.Equals sort.Semi semi rest h refl; ends = semi_ends semi rest h }

-- the sorts with which a declaration begins
abbrev pub BeginsDeclaration : Sort → Type 0
BeginsDeclaration sort.Final = Unit {0}
BeginsDeclaration sort.Prim = Unit {0}
BeginsDeclaration sort.Name = Unit {0}
BeginsDeclaration s = ⊥

pub record DeclarationRead (l : Limits) (h : ℕ) (declared : Let) (ts : List Token) : Type 0 where
  pub begins : (rest : List Token) → BeginsDeclaration (next (ts ++ rest))
  pub item : (top : ℕ) → h < top → (once twice : Place → Parser TallStmt) (semi : Token) (rest : List Token) → sort_of semi ≡ sort.Semi → Fits l (ts ++ (semi ∷ rest))
      → rules.item l top once twice (ts ++ (semi ∷ rest)) ≡ Ok (closed (start_of ts) (node.Let declared) (suc h), rest)
  pub header : (top : ℕ) → h ≤ top → (semi : Token) (rest : List Token) → sort_of semi ≡ sort.Semi → Fits l (ts ++ (semi ∷ rest))
      → header l top (ts ++ (semi ∷ rest)) ≡ Ok (Start (for_start.Let declared) h, semi ∷ rest)

begins_type : (limit : ℕ) (to : TypeName) (us : List Token) → WholeType limit to us → (rest : List Token) → BeginsDeclaration (next (us ++ rest))
begins_type limit to us x rest = elim (type_begins limit to us x rest) [ inl p ↦ rw p tt | inr p ↦ rw p tt ]

begins_final : (limit : ℕ) (is_final : Bool) (ts : List Token) → MaybeFinal is_final ts → (to : TypeName) (us : List Token) → WholeType limit to us → (rest : List Token) → BeginsDeclaration (next (ts ++ (us ++ rest)))
begins_final limit is_final ts grammar.no to us x rest = begins_type limit to us x rest
begins_final limit is_final ts (grammar.yes {t = t} f) to us x rest = let e = sort_at t (us ++ rest) ∙ keyword_sort "final" t f in rw e tt

module _ (l : Limits) (w : WholeLaws l) (h : ℕ) (is_final : Bool) (to : TypeName) (ds : List (ℕ × Declarator)) (ts us vs : List Token) (f : MaybeFinal is_final ts) (x : WholeType l.most to us) (v : VariablesRead l h ds vs) where
  abbrev declared : Let
  declared = record { is_final = is_final; ty = to; names = map (λ d. d.1) ds }

  split : (rest : List Token) → (ts ++ (us ++ vs)) ++ rest ≡ ts ++ (us ++ (v.name ∷ (v.us ++ rest)))
  split rest = append_assoc ts (us ++ vs) rest ∙ ap (λ r. ts ++ r) (append_assoc us vs rest ∙ ap (λ r. us ++ (r ++ rest)) v.split)

  begins : (rest : List Token) → BeginsDeclaration (next ((ts ++ (us ++ vs)) ++ rest))
  begins rest = rw (split rest) (begins_final l.most is_final ts f to us x (v.name ∷ (v.us ++ rest)))

  some_tokens : ts ++ (us ++ vs) ≡ [] → ⊥
  unfolding next
  some_tokens e = subst (λ r. BeginsDeclaration (next (r ++ []))) e (begins [])

  names_are : ◌≡◌ {A = Let} (record { is_final = is_final; ty = to; names = declarators (map variable ds) }) declared
  names_are = ap (λ r. record { is_final = is_final; ty = to; names = r }) (declared_are ds)

  short_us : (semi : Token) (rest : List Token) → Fits l ((ts ++ (us ++ vs)) ++ (semi ∷ rest)) → length us + (suc (length v.us) + suc (length rest)) < l.turns
  short_us semi rest short =
      let a = length-append (ts ++ (us ++ vs)) (semi ∷ rest) in let b = length-append ts (us ++ vs) in let c = length-append us vs in let d = ap length v.split in omega arith

  item_goes : (top : ℕ) → h < top → (once twice : Place → Parser TallStmt) (semi : Token) (rest : List Token) → sort_of semi ≡ sort.Semi → Fits l ((ts ++ (us ++ vs)) ++ (semi ∷ rest))
      → rules.item l top once twice ((ts ++ (us ++ vs)) ++ (semi ∷ rest)) ≡ Ok (closed (start_of (ts ++ (us ++ vs))) (node.Let declared) (suc h), rest)
  item_goes top fits once twice semi rest hs short =
      let few = short_us semi rest short in
      let e : max 0 h + 1 ≡ suc h = omega arith in
      ap (rules.item l top once twice) (split (semi ∷ rest))
      ∙ item_declares l top once twice w.builds is_final ts f to us x (v.name ∷ (v.us ++ (semi ∷ rest))) (sort_at v.name (v.us ++ (semi ∷ rest)) ∙ v.is_name) (omega arith)
      ∙ local_of_goes l top (start_of (ts ++ (us ++ (v.name ∷ (v.us ++ (semi ∷ rest)))))) is_final to v.name (v.us ++ (semi ∷ rest)) (added no_variables ds h) semi rest v.is_name
      (v.read (top - 1) (omega arith) l.turns no_variables (semi ∷ rest) (after_semi semi rest hs) (omega arith) (omega arith)) hs
      ∙ ap (λ k. Ok (closed (start_of (ts ++ (us ++ (v.name ∷ (v.us ++ (semi ∷ rest)))))) (node.Let k) (max 0 h + 1), rest)) names_are
      ∙ ap (λ at. Ok (closed at (node.Let declared) (max 0 h + 1), rest)) (ap start_of (sym (split (semi ∷ rest))) ∙ start_same (ts ++ (us ++ vs)) (semi ∷ rest) [] some_tokens ∙ ap start_of (append-nil (ts ++ (us ++ vs))))
      ∙ ap (λ k. Ok (closed (start_of (ts ++ (us ++ vs))) (node.Let declared) k, rest)) e

  semi_not_colon : (semi : Token) (rest : List Token) → sort_of semi ≡ sort.Semi → IsNot sort.Colon (semi ∷ rest)
  unfolding same_sort
  semi_not_colon semi rest hs = is_not sort.Colon sort.Semi semi rest hs refl

  header_goes : (top : ℕ) → h ≤ top → (semi : Token) (rest : List Token) → sort_of semi ≡ sort.Semi → Fits l ((ts ++ (us ++ vs)) ++ (semi ∷ rest))
      → header l top ((ts ++ (us ++ vs)) ++ (semi ∷ rest)) ≡ Ok (Start (for_start.Let declared) h, semi ∷ rest)
  header_goes top fits semi rest hs short =
      let few = short_us semi rest short in
      let e : max 0 h ≡ h = omega arith in
      ap (header l top) (split (semi ∷ rest))
      ∙ header_declares l top w.builds is_final ts f to us x (v.name ∷ (v.us ++ (semi ∷ rest))) (sort_at v.name (v.us ++ (semi ∷ rest)) ∙ v.is_name) (omega arith)
      ∙ header_let_goes l top is_final to v.name (v.us ++ (semi ∷ rest)) (added no_variables ds h) (semi ∷ rest) v.is_name (v.colon (semi ∷ rest) (semi_not_colon semi rest hs))
      (v.read top fits l.turns no_variables (semi ∷ rest) (after_semi semi rest hs) (omega arith) (omega arith))
      ∙ ap (λ k. Ok (Start (for_start.Let k) (max 0 h), semi ∷ rest)) names_are
      ∙ ap (λ k. Ok (Start (for_start.Let declared) k, semi ∷ rest)) e

  declared_read : DeclarationRead l h declared (ts ++ (us ++ vs))
  declared_read = record {
    begins = begins;
    item = λ top fits once twice semi rest hs short. item_goes top fits once twice semi rest hs short;
    header = λ top fits semi rest hs short. header_goes top fits semi rest hs short;
  }

pub declaration_read : (l : Limits) → WholeLaws l → (h : ℕ) (d : Let) (ts : List Token) → grammar.Declaration l.most h d ts → DeclarationRead l h d ts
declaration_read l w h d all (grammar.declaration {is_final = is_final} {to = to} {ds = ds} {ts = us} {us = vs} {vs = ws} f x v) =
    declared_read l w h is_final to ds us vs ws f x (variables_read l w h ds ws v)
