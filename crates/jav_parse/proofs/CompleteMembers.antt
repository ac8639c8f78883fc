-- Declarations of members of the grammar are read.
use Rattle.std.proofs.Common.{◌≡◌, ◌⊎◌, inl, inr, ℕ, suc, ◌+◌, ◌-◌, ◌<◌, ◌≤◌, true, false, List, [], ◌∷◌, ◌++◌, map, length, Option, Some, None, Ok, refl, sym, ap, ◌∙◌, subst, append_assoc, append-nil, arith}
use Rattle.std.proofs.lemmas.List.{length-append}
use Rattle.std.proofs.lemmas.Slice.Eq.{bytes_eq-Decides}
use Rattle.mol_base.specs.Token.{Token}
use Rattle.jav_tree.specs.declared.types.TypeName.{TypeName}
use Rattle.jav_tree.specs.declared.types.TypeName.TheVariants as ty
use Rattle.jav_tree.specs.declared.stmt.Block.{Block}
use Rattle.jav_tree.specs.declared.stmt.Declarator.{Declarator}
use Rattle.jav_tree.specs.declared.stmt.Stmt.{Stmt}
use Rattle.jav_tree.specs.declared.unit.Param.{Param}
use Rattle.jav_tree.specs.declared.unit.Member.TheVariants as member
use Rattle.jav_tree.specs.Blocks.{block_of}
use Rattle.jav_tree.specs.Tokens.{IsSymbol, IsName, Comments, start_of}
use Rattle.jav_tree.specs.Types as types
use Rattle.jav_tree.specs.Types.{WholeType, BaseType, Brackets, array_of}
use Rattle.jav_tree.specs.Statements as stmts
use Rattle.jav_tree.specs.Statements.{Variables, BlockOf, ConstructorBlock, fronted, tailed}
use Rattle.jav_tree.specs.Members as tree
use Rattle.jav_tree.specs.Members.{Declared, Parameters, Result, MayBeConstructor}
use Rattle.jav_tree.specs.Words.{Words, FieldWords, MethodWords, AbstractWords, ConstructorWords, in_order, kept_of_method, has}
use Rattle.jav_parse_cursor.specs.declared.limits.Limits.{Limits}
use Rattle.jav_parse_stmt.specs.declared.local.VariableList.{VariableList}
use Rattle.jav_parse_unit.specs.declared.member.Front.{Front}
use Rattle.jav_parse_cursor.specs.declared.sort.Sort.{Sort}
use Rattle.jav_parse_cursor.specs.declared.sort.Sort.TheVariants as sort
use Rattle.jav_parse_stmt.specs.declared.stmt.Place.TheVariants as place
use Rattle.jav_parse_stmt.specs.declared.stmt_tall.TallBlock.{TallBlock}
use Rattle.jav_parse_unit.specs.declared.words.Words.{Words as Modifiers}
use Rattle.jav_parse_stmt.specs.LocalRules.{variables}
use Rattle.jav_parse_unit.specs.MemberRules.{params, method_block, body_or_semi, method_of, method, constructor_of, constructor, fields_of, fields, one_member, typed, fits_class, named, void_method, member_by, declared}
use Rattle.jav_parse_cursor.specs.Nodes.{text_of}
use Rattle.jav_parse_cursor.specs.Reading.{take_token, comments, sort as next}
use Rattle.jav_parse_cursor.specs.Sorts.{same_sort, sort_of}
use Rattle.jav_parse_stmt.specs.StmtRules.{stmt, block, constructor_block}
use Rattle.jav_parse_cursor.specs.TypeRules.{qualified, brackets, type_after, whole_type}
use Rattle.jav_parse_unit.specs.WordRules as rules
use Rattle.jav_parse.proofs.AllowedMarks.{field_marks, field_may, method_marks, method_may, abstract_marks, abstract_may, constructor_marks, constructor_may}
use Rattle.jav_parse.proofs.CompleteComments.{comments_read}
use Rattle.jav_parse.proofs.CompleteParameters.{Short, type_next, params_read, params_next}
use Rattle.jav_parse.proofs.CompleteTypes.{whole_read, qualified_read, qualified_begins, text_read, brackets_read, brackets_not, array_built}
use Rattle.jav_parse.proofs.CompleteWords.{WordsRead, words_read, marks_of, within_total}
use Rattle.jav_parse.proofs.ModifierFits.{abstract_no_static}
use Rattle.jav_parse.proofs.Modifiers.{Marked, Within, bits, texts_in_order, kept_texts, static_is, abstract_is}
use Rattle.jav_parse.proofs.ReadingSteps.{IsNot, is_not, expect_goes, same_self}
use Rattle.jav_parse.proofs.SortsOfTokens.{name_sort, semi_sort, comma_sort, equals_sort, primitive_sort, keyword_sort}
use Rattle.jav_parse.proofs.SoundLocals.{placed}
use Rattle.jav_parse.proofs.SoundMembers.{fields_are, start_front, type_some, after_some}
use Rattle.jav_parse.proofs.StatementReads.{StatementReads, variable}

-- ---- types before a name

after_goes : (l : Limits) (base : TypeName) (n : ℕ) (ts rest : List Token) → l.builds ≡ true → brackets (l.most - 0) 0 ts ≡ Ok (n, rest) → type_after l base 0 ts ≡ Ok (array_of n base, rest)
unfolding type_after
after_goes l base n ts rest b h = rw h (ap (λ r. Ok (r, rest)) (array_built l.builds n base b))

named_goes : (l : Limits) (top : ℕ) (class : Option (List ℕ)) (f : Front) (ts mid rest : List Token) (names : List Token) (to : TypeName) → qualified l.turns ts ≡ Ok (names, mid) → IsNot sort.Open mid
    → type_after l (ty.Named (text_of names)) 0 mid ≡ Ok (to, rest) → named l top class f ts ≡ typed l top f to rest
unfolding named
named_goes l top class f ts mid rest names to h n k = rw (h, n, k) refl

member_name : (l : Limits) (top : ℕ) (class : Option (List ℕ)) (f : Front) (ts : List Token) → next ts ≡ sort.Name → member_by l top class f (next ts) ts ≡ named l top class f ts
member_name l top class f ts h = rw h refl

member_prim : (l : Limits) (top : ℕ) (class : Option (List ℕ)) (f : Front) (ts rest : List Token) (to : TypeName) → next ts ≡ sort.Prim → whole_type l ts ≡ Ok (to, rest)
    → member_by l top class f (next ts) ts ≡ typed l top f to rest
member_prim l top class f ts rest to h k = rw (h, k) refl

type_goes : (l : Limits) (b : l.builds ≡ true) (top : ℕ) (class : Option (List ℕ)) (f : Front) (to : TypeName) (vs : List Token) → WholeType l.most to vs → (name : Token) → IsName name → (rest : List Token)
    → length vs + suc (length rest) < l.turns → member_by l top class f (next (vs ++ name ∷ rest)) (vs ++ name ∷ rest) ≡ typed l top f to (name ∷ rest)
unfolding same_sort next
type_goes l b top class f to vs (types.whole {us = us} (types.primitive {t = t} h) k few) name hn rest short =
    member_prim l top class f (t ∷ us ++ name ∷ rest) (name ∷ rest) to (primitive_sort h)
    (whole_read l b (types.whole (types.primitive h) k few) (omega arith) (name ∷ rest) (is_not sort.Dot sort.Name name rest (name_sort hn) refl) (is_not sort.Left sort.Name name rest (name_sort hn) refl))
type_goes l b top class f to vs (types.whole {n = n} {us = us} (types.named {q = q} {ts = ts} h) k few) name hn rest short =
    let size = length-append ts us in
    let not : (s : Sort) → same_sort sort.Left s ≡ false → same_sort sort.Name s ≡ false → IsNot s (us ++ name ∷ rest) = λ s p r. brackets_not k s p (name ∷ rest) (is_not s sort.Name name rest (name_sort hn) r) in
    let after : type_after l (ty.Named q) 0 (us ++ name ∷ rest) ≡ Ok (array_of n (ty.Named q), name ∷ rest) =
    after_goes l (ty.Named q) n (us ++ name ∷ rest) (name ∷ rest) b
    (brackets_read k (l.most - 0) 0 (omega arith) (name ∷ rest) (is_not sort.Left sort.Name name rest (name_sort hn) refl) ∙ ap (λ r. Ok (r, name ∷ rest)) (omega arith)) in
    rw (append_assoc ts us (name ∷ rest)) (member_name l top class f (ts ++ (us ++ name ∷ rest)) (qualified_begins h (us ++ name ∷ rest))
    ∙ named_goes l top class f (ts ++ (us ++ name ∷ rest)) (us ++ name ∷ rest) (name ∷ rest) ts to (qualified_read h l.turns (omega arith) (us ++ name ∷ rest) (not sort.Dot refl refl)) (not sort.Open refl refl)
    (ap (λ r. type_after l (ty.Named r) 0 (us ++ name ∷ rest)) (text_read h) ∙ after))

-- ---- steps

typed_fields : (l : Limits) (top : ℕ) (f : Front) (to : TypeName) (name : Token) (rest : List Token) → sort_of name ≡ sort.Name → IsNot sort.Open rest → typed l top f to (name ∷ rest) ≡ fields l top f to name rest
unfolding typed
typed_fields l top f to name rest h n = rw (expect_goes name rest h, n) refl

typed_method : (l : Limits) (top : ℕ) (f : Front) (to : TypeName) (name : Token) (rest : List Token) → sort_of name ≡ sort.Name → next rest ≡ sort.Open
    → typed l top f to (name ∷ rest) ≡ one_member (method l top f to name) rest
unfolding typed
typed_method l top f to name rest h n = rw (expect_goes name rest h, n, same_self sort.Open) refl

fields_go : (l : Limits) (top : ℕ) (f : Front) (to : TypeName) (name : Token) (ts rest : List Token) (all : VariableList) (semi : Token) → rules.fit_field f.words ≡ true
    → variables l top name ts ≡ Ok (all, semi ∷ rest) → sort_of semi ≡ sort.Semi → fields l top f to name ts ≡ Ok (fields_of f to all.items, rest)
unfolding fields
fields_go l top f to name ts rest all semi fit h k = rw (fit, h, expect_goes semi rest k) refl

method_goes : (l : Limits) (top : ℕ) (f : Front) (to : TypeName) (name : Token) (ts mid rest : List Token) (ps : List Param) (body : Option Block) → rules.fit_method f.words ≡ true
    → params l ts ≡ Ok (ps, mid) → body_or_semi l top f.words.is_abstract mid ≡ Ok (body, rest) → one_member (method l top f to name) ts ≡ Ok (method_of f to name ps body ∷ [], rest)
unfolding method
method_goes l top f to name ts mid rest ps body fit h k = rw (fit, h, k) refl

body_semi : (l : Limits) (top : ℕ) (semi : Token) (rest : List Token) → sort_of semi ≡ sort.Semi → body_or_semi l top true (semi ∷ rest) ≡ Ok (None, rest)
unfolding body_or_semi
body_semi l top semi rest h = rw (expect_goes semi rest h) refl

body_block : (l : Limits) (top : ℕ) (ts mid rest : List Token) (notes : List (List ℕ)) (b : TallBlock) → comments l.turns [] ts ≡ Ok (notes, mid) → block l (stmt l (top - 1) place.Item) top notes mid ≡ Ok (b, rest)
    → body_or_semi l top false ts ≡ Ok (Some (block_of b.items b.tail), rest)
unfolding body_or_semi method_block
body_block l top ts mid rest notes b h k = rw (h, k) refl

void_goes : (l : Limits) (top : ℕ) (class : Option (List ℕ)) (f : Front) (t name : Token) (rest : List Token) → rules.fit_method f.words ≡ true → sort_of t ≡ sort.Void → sort_of name ≡ sort.Name
    → member_by l top class f (next (t ∷ name ∷ rest)) (t ∷ name ∷ rest) ≡ one_member (method l top f ty.Void name) rest
unfolding void_method next take_token
void_goes l top class f t name rest fit h k = rw (h, fit, expect_goes name rest k) refl

constructor_goes : (l : Limits) (top : ℕ) (f : Front) (ts mid back rest : List Token) (ps : List Param) (notes : List (List ℕ)) (b : TallBlock) → params l ts ≡ Ok (ps, mid) → comments l.turns [] mid ≡ Ok (notes, back)
    → constructor_block l (stmt l (top - 1) place.Item) top notes back ≡ Ok (b, rest) → one_member (constructor l top f) ts ≡ Ok (constructor_of f ps b ∷ [], rest)
unfolding constructor
constructor_goes l top f ts mid back rest ps notes b h k j = rw (h, k, j) refl

named_constructor : (l : Limits) (top : ℕ) (class : Option (List ℕ)) (f : Front) (name : Token) (rest : List Token) → qualified l.turns (name ∷ rest) ≡ Ok (name ∷ [], rest) → next rest ≡ sort.Open
    → fits_class class name.text ≡ true → rules.fit_constructor f.words ≡ true → named l top class f (name ∷ rest) ≡ one_member (constructor l top f) rest
unfolding named
named_constructor l top class f name rest h n a b = rw (h, n, same_self sort.Open, a, b) refl

declared_goes : (l : Limits) (top : ℕ) (class : Option (List ℕ)) (notes : List (List ℕ)) (ts mid : List Token) (w : Modifiers) → rules.words rules.fit_member l.turns rules.no_words ts ≡ Ok (w, mid)
    → declared l top class notes ts ≡ member_by l top class (record { notes = notes; at = start_of ts; words = w }) (next mid) mid
unfolding declared
declared_goes l top class notes ts mid w h = rw h refl

-- ---- declarations

no_word_by : (ts : List Token) → (next ts ≡ sort.Name) ⊎ (next ts ≡ sort.Prim) → rules.is_word (next ts) ≡ false
no_word_by ts (inl e) = rw e refl
no_word_by ts (inr e) = rw e refl

result_no_word : {limit : ℕ} {to : TypeName} {vs : List Token} → Result limit to vs → (rest : List Token) → rules.is_word (next (vs ++ rest)) ≡ false
unfolding next
result_no_word (tree.void {t = t} h) rest = let e : sort_of t ≡ sort.Void = keyword_sort "void" t h in rw e refl
result_no_word (tree.type {ts = ts} h) rest = no_word_by (ts ++ rest) (type_next h rest)

result_some : {limit : ℕ} {to : TypeName} {vs : List Token} → Result limit to vs → vs ≡ [] → ⊥
result_some (tree.void h) = λ e. cc
result_some (tree.type h) = type_some h

-- where words and a type begin
begins_same : (us vs rest : List Token) → (vs ≡ [] → ⊥) → start_of (us ++ (vs ++ rest)) ≡ start_of (us ++ vs)
begins_same us vs rest n = ap start_of (sym (append_assoc us vs rest)) ∙ start_front (us ++ vs) rest (after_some us vs n)

abbrev pub behind : List Token → List Token
behind [] = []
behind (t ∷ ts) = ts

-- no parenthesis stands after the first name of variables
variable_apart : {limit h : ℕ} {d : ℕ × Declarator} {ts : List Token} → stmts.Variable limit h d ts → (rest : List Token) → IsNot sort.Open rest → IsNot sort.Open (behind ts ++ rest)
unfolding same_sort
variable_apart (stmts.alone h) rest n = n
variable_apart (stmts.valued {equals = e} {ts = ts} h k v) rest n = is_not sort.Open sort.Equals e (ts ++ rest) (equals_sort k) refl

behind_some : (ts us : List Token) → (ts ≡ [] → ⊥) → behind (ts ++ us) ≡ behind ts ++ us
behind_some [] us n = absurd (n refl)
behind_some (t ∷ ts) us n = refl

variable_some : {limit h : ℕ} {d : ℕ × Declarator} {ts : List Token} → stmts.Variable limit h d ts → ts ≡ [] → ⊥
variable_some (stmts.alone h) = λ e. cc
variable_some (stmts.valued h k v) = λ e. cc

pub variables_apart : {limit h : ℕ} {ds : List (ℕ × Declarator)} {ts : List Token} → Variables limit h ds ts → (rest : List Token) → IsNot sort.Open rest → IsNot sort.Open (behind ts ++ rest)
unfolding same_sort
variables_apart (stmts.last v) rest n = variable_apart v rest n
variables_apart (stmts.more {comma = comma} {ts = ts} {us = us} v c k) rest n =
    rw (behind_some ts (comma ∷ us) (variable_some v), append_assoc (behind ts) (comma ∷ us) rest) (variable_apart v (comma ∷ (us ++ rest)) (is_not sort.Open sort.Comma comma (us ++ rest) (comma_sort c) refl))

placed_variables : (ds : List (ℕ × Declarator)) → map placed (map variable ds) ≡ ds
placed_variables [] = refl
placed_variables (d ∷ ds) = ap (λ r. d ∷ r) (placed_variables ds)

-- the marks of all words
all_marks : (w : Modifiers) (words : List (List ℕ)) → Marked w words → Within (bits w) (marks_of words)
all_marks w words m = subst (λ r. Within (bits w) (marks_of r)) (append-nil words) (within_total w words [] m)

module _ (l : Limits) (b : l.builds ≡ true) (reads : StatementReads l) (top : ℕ) (class : Option (List ℕ)) (notes : List (List ℕ)) where
  after_words : (words : List (List ℕ)) (us : List Token) (w : WordsRead rules.fit_member words us) → (mid : List Token) → length us < l.turns → rules.is_word (next mid) ≡ false
      → declared l top class notes (us ++ mid) ≡ member_by l top class (record { notes = notes; at = start_of (us ++ mid); words = w.last }) (next mid) mid
  after_words words us w mid few h = declared_goes l top class notes (us ++ mid) mid w.last (w.read l.turns mid few h)

  pub field_read : (h : ℕ) → h ≤ top → (words : List (List ℕ)) (us : List Token) → Words words us → FieldWords words → (to : TypeName) (vs : List Token) → WholeType l.most to vs
      → (ds : List (ℕ × Declarator)) (name : Token) (others : List Token) → IsName name → ((rest : List Token) → IsNot sort.Open rest → IsNot sort.Open (others ++ rest)) → ((rest : List Token) → next rest ≡ sort.Semi → Short l others rest → variables l top name (others ++ rest) ≡ Ok (record { items = map variable ds; height = h }, rest))
      → (semi : Token) → IsSymbol ";" semi → (rest : List Token) → length us + (length vs + suc (length others + suc (length rest))) < l.turns
      → declared l top class notes (us ++ (vs ++ name ∷ (others ++ semi ∷ rest))) ≡ Ok (tree.fields_of notes (start_of (us ++ vs)) (in_order words) to ds, rest)
  unfolding same_sort next
  field_read h low words us hw fit to vs ht ds name others hn apart read semi hs rest short =
      let tail = others ++ semi ∷ rest in
      let w = words_read rules.fit_member (field_may words fit) hw in
      let f : Front = record { notes = notes; at = start_of (us ++ (vs ++ name ∷ tail)); words = w.last } in
      let size = length-append others (semi ∷ rest) in
      let whole = length-append vs (name ∷ tail) in
      let same : fields_of f to (map variable ds) ≡ tree.fields_of notes (start_of (us ++ vs)) (in_order words) to ds =
      fields_are f to (map variable ds) ∙ rw (placed_variables ds, texts_in_order w.last words w.marks, begins_same us vs (name ∷ tail) (type_some ht)) refl in
      after_words words us w (vs ++ name ∷ tail) (omega arith) (no_word_by (vs ++ name ∷ tail) (type_next ht (name ∷ tail)))
      ∙ type_goes l b top class f to vs ht name hn tail (omega arith)
      ∙ typed_fields l top f to name tail (name_sort hn) (apart (semi ∷ rest) (is_not sort.Open sort.Semi semi rest (semi_sort hs) refl))
      ∙ fields_go l top f to name tail rest (record { items = map variable ds; height = h }) semi (field_marks words fit w.last (all_marks w.last words w.marks)) (read (semi ∷ rest) (semi_sort hs) (omega arith)) (semi_sort hs)
      ∙ ap (λ r. Ok (r, rest)) same

  -- a method from its words on to its parameters
  result_goes : (f : Front) → rules.fit_method f.words ≡ true → (to : TypeName) (vs : List Token) → Result l.most to vs → (name : Token) → IsName name → (rest : List Token) → next rest ≡ sort.Open
      → length vs + suc (length rest) < l.turns → member_by l top class f (next (vs ++ name ∷ rest)) (vs ++ name ∷ rest) ≡ one_member (method l top f to name) rest
  result_goes f fit to vs (tree.void {t = t} h) name hn rest n short = void_goes l top class f t name rest fit (keyword_sort "void" t h) (name_sort hn)
  result_goes f fit to vs (tree.type h) name hn rest n short = type_goes l b top class f to vs h name hn rest short ∙ typed_method l top f to name rest (name_sort hn) n

  pub method_read : (h : ℕ) → h ≤ top → (words : List (List ℕ)) (us : List Token) → Words words us → MethodWords words → (to : TypeName) (vs : List Token) → Result l.most to vs → (name : Token) → IsName name
      → (ps : List Param) (ws : List Token) → Parameters l.most ps ws → (before : List (List ℕ)) (xs : List Token) → Comments before xs → (items : List Stmt) (tail : List (List ℕ)) (ys : List Token) → BlockOf l.most h items tail ys
      → (rest : List Token) → length us + (length vs + suc (length ws + (length xs + (length ys + length rest)))) < l.turns
      → declared l top class notes (us ++ (vs ++ name ∷ (ws ++ (xs ++ (ys ++ rest)))))
      ≡ Ok (member.Method (record { front = notes; at = start_of (us ++ vs); words = kept_of_method words; is_static = has words "static"; result = to; name = name.text; params = ps; block = Some (block_of (fronted before items) (tailed before items tail)) }) ∷ [], rest)
  unfolding same_sort
  method_read h low words us hw fit to vs ht name hn ps ws hp before xs hc items tail ys hb rest short =
      let w = words_read rules.fit_member (method_may words fit) hw in
      let marks = method_marks words fit w.last (all_marks w.last words w.marks) in
      let r = reads.block h items tail ys hb in
      let back = ys ++ rest in
      let mid = xs ++ back in
      let params_on = ws ++ mid in
      let f : Front = record { notes = notes; at = start_of (us ++ (vs ++ name ∷ params_on)); words = w.last } in
      let body : Option Block = Some (block_of (fronted before items) (tailed before items tail)) in
      let n1 = length-append ys rest in
      let n2 = length-append xs back in
      let n3 = length-append ws mid in
      let n4 = length-append vs (name ∷ params_on) in
      let read : body_or_semi l top w.last.is_abstract mid ≡ Ok (body, rest) =
      ap (λ a. body_or_semi l top a mid) marks.1 ∙ body_block l top mid back rest before (record { items = fronted before items; tail = tailed before items tail; height = h; is_open = false; after = [] })
      (comments_read hc l.turns (omega arith) [] back (ap (λ s. same_sort s sort.Comment) (r.begins rest))) (r.read top low before rest (omega arith)) in
      let same : method_of f to name ps body ≡ member.Method (record { front = notes; at = start_of (us ++ vs); words = kept_of_method words; is_static = has words "static"; result = to; name = name.text; params = ps; block = body }) =
      rw (kept_texts w.last words w.marks, static_is w.last words w.marks, begins_same us vs (name ∷ params_on) (result_some ht)) refl in
      after_words words us w (vs ++ name ∷ params_on) (omega arith) (result_no_word ht (name ∷ params_on))
      ∙ result_goes f (marks.0) to vs ht name hn params_on (params_next hp mid) (omega arith)
      ∙ method_goes l top f to name params_on mid rest ps body (marks.0) (params_read l b ps ws hp mid (omega arith)) read
      ∙ ap (λ m. Ok (m ∷ [], rest)) same

  pub abstract_read : (words : List (List ℕ)) (us : List Token) → Words words us → AbstractWords words → (to : TypeName) (vs : List Token) → Result l.most to vs → (name : Token) → IsName name
      → (ps : List Param) (ws : List Token) → Parameters l.most ps ws → (semi : Token) → IsSymbol ";" semi
      → (rest : List Token) → length us + (length vs + suc (length ws + suc (length rest))) < l.turns
      → declared l top class notes (us ++ (vs ++ name ∷ (ws ++ semi ∷ rest)))
      ≡ Ok (member.Method (record { front = notes; at = start_of (us ++ vs); words = kept_of_method words; is_static = false; result = to; name = name.text; params = ps; block = None }) ∷ [], rest)
  abstract_read words us hw fit to vs ht name hn ps ws hp semi hs rest short =
      let w = words_read rules.fit_member (abstract_may words fit) hw in
      let method_fits = abstract_marks words fit w.last (all_marks w.last words w.marks) in
      let is_abstract : w.last.is_abstract ≡ true = abstract_is w.last words w.marks ∙ fit.1 in
      let mid = semi ∷ rest in
      let params_on = ws ++ mid in
      let f : Front = record { notes = notes; at = start_of (us ++ (vs ++ name ∷ params_on)); words = w.last } in
      let n3 = length-append ws mid in
      let n4 = length-append vs (name ∷ params_on) in
      let read : body_or_semi l top w.last.is_abstract mid ≡ Ok (None, rest) = ap (λ a. body_or_semi l top a mid) is_abstract ∙ body_semi l top semi rest (semi_sort hs) in
      let same : method_of f to name ps None ≡ member.Method (record { front = notes; at = start_of (us ++ vs); words = kept_of_method words; is_static = false; result = to; name = name.text; params = ps; block = None }) =
      rw (kept_texts w.last words w.marks, abstract_no_static w.last method_fits is_abstract, begins_same us vs (name ∷ params_on) (result_some ht)) refl in
      after_words words us w (vs ++ name ∷ params_on) (omega arith) (result_no_word ht (name ∷ params_on))
      ∙ result_goes f method_fits to vs ht name hn params_on (params_next hp mid) (omega arith)
      ∙ method_goes l top f to name params_on mid rest ps None method_fits (params_read l b ps ws hp mid (omega arith)) read
      ∙ ap (λ m. Ok (m ∷ [], rest)) same

  may_be : (c : Option (List ℕ)) (name : List ℕ) → MayBeConstructor c name → fits_class c name ≡ true
  may_be None name h = refl
  may_be (Some own) name h = (bytes_eq-Decides own name).1 (sym h)

  pub constructor_read : (h : ℕ) → h ≤ top → (words : List (List ℕ)) (us : List Token) → Words words us → ConstructorWords words → (name : Token) → IsName name → MayBeConstructor class name.text
      → (ps : List Param) (vs : List Token) → Parameters l.most ps vs → (before : List (List ℕ)) (ws : List Token) → Comments before ws → (items : List Stmt) (tail : List (List ℕ)) (xs : List Token) → ConstructorBlock l.most h items tail xs
      → (rest : List Token) → length us + suc (length vs + (length ws + (length xs + length rest))) < l.turns
      → declared l top class notes (us ++ name ∷ (vs ++ (ws ++ (xs ++ rest))))
      ≡ Ok (member.Ctor (record { front = notes; at = start_of (us ++ name ∷ []); words = in_order words; params = ps; block = block_of (fronted before items) (tailed before items tail) }) ∷ [], rest)
  unfolding same_sort next
  constructor_read h low words us hw fit name hn may ps vs hp before ws hc items tail xs hb rest short =
      let w = words_read rules.fit_member (constructor_may words fit) hw in
      let fits = constructor_marks words fit w.last (all_marks w.last words w.marks) in
      let r = reads.constructor h items tail xs hb in
      let back = xs ++ rest in
      let mid = ws ++ back in
      let params_on = vs ++ mid in
      let f : Front = record { notes = notes; at = start_of (us ++ name ∷ params_on); words = w.last } in
      let n1 = length-append xs rest in
      let n2 = length-append ws back in
      let n3 = length-append vs mid in
      let opens : next params_on ≡ sort.Open = params_next hp mid in
      let is_name = name_sort hn in
      let block_read = r.read top low before rest (omega arith) in
      let names : qualified l.turns (name ∷ params_on) ≡ Ok (name ∷ [], params_on) = qualified_read (types.name hn) l.turns (omega arith) params_on (ap (λ s. same_sort s sort.Dot) opens) in
      let same : constructor_of f ps (record { items = fronted before items; tail = tailed before items tail; height = h; is_open = false; after = [] })
      ≡ member.Ctor (record { front = notes; at = start_of (us ++ name ∷ []); words = in_order words; params = ps; block = block_of (fronted before items) (tailed before items tail) }) =
      rw (texts_in_order w.last words w.marks, begins_same us (name ∷ []) params_on (λ e. cc)) refl in
      after_words words us w (name ∷ params_on) (omega arith) (rw is_name refl)
      ∙ member_name l top class f (name ∷ params_on) is_name
      ∙ named_constructor l top class f name params_on names opens (may_be class name.text may) fits
      ∙ constructor_goes l top f params_on mid back rest ps before (record { items = fronted before items; tail = tailed before items tail; height = h; is_open = false; after = [] })
      (params_read l b ps vs hp mid (omega arith)) (comments_read hc l.turns (omega arith) [] back (ap (λ s. same_sort s sort.Comment) (r.begins rest))) block_read
      ∙ ap (λ m. Ok (m ∷ [], rest)) same
