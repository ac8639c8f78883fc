-- Declarations of members that are read.
use Rattle.std.proofs.Common.{◌≡◌, ℕ, suc, ◌+◌, ◌-◌, ◌<◌, ◌≤◌, ◌||◌, Bool, true, false, List, [], ◌∷◌, ◌++◌, map, Option, Some, None, refl, sym, ap, ◌∙◌, subst, append_assoc, arith}
use Rattle.std.proofs.lemmas.Slice.Eq.{bytes_eq-Decides}
use Rattle.mol_base.specs.Token.{Token}
use Rattle.jav_tree.specs.declared.types.TypeName.{TypeName}
use Rattle.jav_tree.specs.declared.types.TypeName.TheVariants as ty
use Rattle.jav_tree.specs.declared.stmt.Block.{Block}
use Rattle.jav_tree.specs.declared.unit.Param.{Param}
use Rattle.jav_tree.specs.declared.unit.Member.{Member}
use Rattle.jav_tree.specs.Blocks.{block_of}
use Rattle.jav_tree.specs.Tokens.{IsSymbol, IsName, Comments, start_of}
use Rattle.jav_tree.specs.Types.{WholeType, Brackets, BaseType}
use Rattle.jav_tree.specs.Types as types
use Rattle.jav_tree.specs.Statements.{BlockOf, ConstructorBlock}
use Rattle.jav_tree.specs.Members as tree
use Rattle.jav_tree.specs.Members.{Declared, Parameters, Result, MayBeConstructor}
use Rattle.jav_parse_cursor.specs.declared.limits.Limits.{Limits}
use Rattle.jav_parse_stmt.specs.declared.local.Variable.{Variable}
use Rattle.jav_parse_stmt.specs.declared.local.VariableList.{VariableList}
use Rattle.jav_parse_unit.specs.declared.member.Front.{Front}
use Rattle.jav_parse_cursor.specs.declared.sort.Sort.{Sort}
use Rattle.jav_parse_cursor.specs.declared.sort.Sort.TheVariants as sort
use Rattle.jav_parse_stmt.specs.declared.stmt.Place.TheVariants as place
use Rattle.jav_parse_stmt.specs.declared.stmt_tall.TallBlock.{TallBlock}
use Rattle.jav_parse_unit.specs.declared.words.Words.{Words as Modifiers}
use Rattle.jav_parse_unit.specs.MemberRules.{method_block, body_or_semi, method_of, method, constructor_of, constructor, further_fields, fields_of, fields, one_member, typed, fits_class, may_construct, named, void_method, member_by, declared}
use Rattle.jav_parse_cursor.specs.Nodes.{text_of}
use Rattle.jav_parse_cursor.specs.Reading.{◌>>=◌, refuse}
use Rattle.jav_parse_stmt.specs.StmtRules.{stmt}
use Rattle.jav_parse_cursor.specs.TypeRules.{type_after, whole_type}
use Rattle.jav_parse_unit.specs.WordRules as rules
use Rattle.jav_parse.proofs.ExpressionLaws.{ExpressionLaws}
use Rattle.jav_parse.proofs.Meets.{Some_of, ReadsAt, Reads, some_of, reads_pure, reads_refuse, reads_map, reads_if, reads_if_then, reads_any, reads_bind, reads_made, reads_token, reads_peek, reads_when, reads_place}
use Rattle.jav_parse.proofs.ModifierFits.{both_true, field_fits, method_fits, abstract_fits, abstract_no_static, constructor_fits}
use Rattle.jav_parse.proofs.Modifiers.{texts_in_order, kept_texts, static_is}
use Rattle.jav_parse.proofs.SoundBlocks.{Braces, reads_block, reads_constructor}
use Rattle.jav_parse.proofs.SoundComments.{comments_here}
use Rattle.jav_parse.proofs.SoundLocals.{placed, AreVariables, reads_variables}
use Rattle.jav_parse.proofs.SoundParameters.{reads_params}
use Rattle.jav_parse.proofs.SoundPlaces.{reads_stmt}
use Rattle.jav_parse.proofs.SoundTypes.{AreNames, IsNames, qualified_is, reads_qualified, IsTypeAfter, reads_type_after}
use Rattle.jav_parse.proofs.SoundWords.{AreModifiers, no_modifiers, reads_words}
use Rattle.jav_parse.proofs.TokenSorts as token
use Rattle.jav_parse.proofs.TokenSteps.{expect_semi, expect_name, symbol, a_symbol, a_word, word_is_name}
use Rattle.jav_parse.proofs.Within.{IsBuilding}

-- ---- where members begin

pub start_front : (xs ys : List Token) → (xs ≡ [] → ⊥) → start_of (xs ++ ys) ≡ start_of xs
start_front [] ys n = absurd (n refl)
start_front (x ∷ xs) ys n = refl

front_some : (xs ys : List Token) → (xs ≡ [] → ⊥) → xs ++ ys ≡ [] → ⊥
front_some [] ys n = λ e. n refl
front_some (x ∷ xs) ys n = λ e. cc

pub after_some : (xs ys : List Token) → (ys ≡ [] → ⊥) → xs ++ ys ≡ [] → ⊥
after_some [] ys n = n
after_some (x ∷ xs) ys n = λ e. cc

qualified_some : {q : List ℕ} {ts : List Token} → types.Qualified q ts → ts ≡ [] → ⊥
qualified_some (types.name h) = λ e. cc
qualified_some (types.dotted {dot = dot} {t = t} {ts = ts} q d h) = after_some ts (dot ∷ t ∷ []) (λ e. cc)

base_some : {to : TypeName} {ts : List Token} → BaseType to ts → ts ≡ [] → ⊥
base_some (types.primitive h) = λ e. cc
base_some (types.named q) = qualified_some q

pub type_some : {limit : ℕ} {to : TypeName} {ts : List Token} → WholeType limit to ts → ts ≡ [] → ⊥
type_some (types.whole {ts = ts} {us = us} b k few) = front_some ts us (base_some b)

-- ---- fields

pub further_are : (w : Modifiers) (to : TypeName) (vs : List Variable) → further_fields w to vs ≡ map (λ e. tree.field_of [] e.0 (rules.texts w) to e.1) (map placed vs)
further_are w to [] = refl
further_are w to (v ∷ vs) = ap (λ r. tree.field_of [] v.at (rules.texts w) to (placed v).1 ∷ r) (further_are w to vs)

pub fields_are : (f : Front) (to : TypeName) (vs : List Variable) → fields_of f to vs ≡ tree.fields_of f.notes f.at (rules.texts f.words) to (map placed vs)
fields_are f to [] = refl
fields_are f to (v ∷ vs) = ap (λ r. tree.field_of f.notes f.at (rules.texts f.words) to (placed v).1 ∷ r) (further_are f.words to vs)

-- ---- bodies of methods

-- a semicolon
record HasNone (body : Option Block) (ts : List Token) : Type 0 where
  semi : Token
  tokens : ts ≡ semi ∷ []
  ends : IsSymbol ";" semi
  is : body ≡ None

-- a block and the comments before it
record MethodBlock (l : Limits) (top : ℕ) (b : TallBlock) (ts : List Token) : Type 0 where
  before : List (List ℕ)
  front : List Token
  back : List Token
  tokens : ts ≡ front ++ back
  noted : Comments before front
  braces : Braces (BlockOf l.most) top before b back

abbrev HasBlock : Limits → ℕ → Option Block → List Token → Type 0
HasBlock l top body ts = (b : TallBlock) × MethodBlock l top b ts × (body ≡ Some (block_of b.items b.tail))

abbrev IsBody : Limits → ℕ → Bool → Option Block → List Token → Type 0
IsBody l top true = HasNone
IsBody l top false = HasBlock l top

reads_body : (l : Limits) → ExpressionLaws l → (top : ℕ) → 0 < top → (b : Bool) → Reads (IsBody l top b) (body_or_semi l top b)
unfolding body_or_semi method_block
reads_body l laws top p true = expect_semi (λ semi hs. reads_pure None (record { semi = semi; tokens = refl; ends = hs; is = refl }))
reads_body l laws top p false = reads_made _ (reads_bind (comments_here l.turns) (λ before front c. reads_map (reads_block l (stmt l (top - 1) place.Item) top (λ q. reads_stmt l laws (top - 1) q) p before)
    (λ b back k. record { before = before; front = front; back = back; tokens = refl; noted = c; braces = k }))) (λ b us k. (b, k, refl))

module _ (l : Limits) (good : IsBuilding l) (laws : ExpressionLaws l) (top : ℕ) (p : 0 < top) (class : Option (List ℕ)) where
  -- declarations of members, no higher than `top`
  pub record AreDeclared (ms : List Member) (ts : List Token) : Type 0 where
    pub height : ℕ
    pub low : height ≤ top
    pub are : Declared l.most class height ms ts

  module _ (notes : List (List ℕ)) (cs : List Token) (noted : Comments notes cs) where
    -- What begins at this offset, if its first token does. It has a first token.
    record Begins (at : ℕ) (ms : List Member) (ts : List Token) : Type 0 where
      some : ts ≡ [] → ⊥
      are : at ≡ start_of ts → AreDeclared ms (cs ++ ts)

    module _ (at : ℕ) (w : Modifiers) (us : List Token) (m : AreModifiers rules.fit_member w us) where
      abbrev front : Front
      front = record { notes = notes; at = at; words = w }

      begins_at : (ms : List Member) (vs rest : List Token) → (vs ≡ [] → ⊥) → (at ≡ start_of (us ++ vs) → AreDeclared ms (cs ++ (us ++ (vs ++ rest)))) → Begins at ms (us ++ (vs ++ rest))
      begins_at ms vs rest some f = record {
        some = after_some us (vs ++ rest) (front_some vs rest some);
        are = λ e. f (e ∙ ap start_of (sym (append_assoc us vs rest)) ∙ start_front (us ++ vs) rest (after_some us vs some));
      }

      fields_is : (to : TypeName) (vs : List Token) → WholeType l.most to vs → rules.fit_field w ≡ true → (all : VariableList) (ws : List Token) → AreVariables l laws top all ws → (semi : Token) → IsSymbol ";" semi
          → Begins at (fields_of front to all.items) (us ++ (vs ++ (ws ++ semi ∷ [])))
      fields_is to vs ht fits all ws ha semi hs = begins_at (fields_of front to all.items) vs (ws ++ semi ∷ []) (type_some ht) (λ e. record {
        height = all.height;
        low = ha.1;
        are = subst (λ ms. Declared l.most class all.height ms (cs ++ (us ++ (vs ++ (ws ++ semi ∷ []))))) (sym (fields_are front to all.items))
            (rw (e, texts_in_order w m.list m.marks) (tree.field noted m.are (field_fits w m.list m.marks fits) ht ha.0 hs));
      })

      -- ---- fields

      reads_fitting_fields : rules.fit_field w ≡ true → (to : TypeName) (vs : List Token) → WholeType l.most to vs → (name : Token) → IsName name
          → Reads (λ y zs. Begins at y (us ++ (vs ++ name ∷ zs))) (fields l top front to name)
      unfolding fields
      reads_fitting_fields fits to vs ht name hn = reads_if (rules.fit_field w)
          (λ q. reads_bind (reads_variables l laws top name hn) (λ all ws ha. expect_semi (λ semi hs. reads_pure (fields_of front to all.items) (fields_is to vs ht fits all (name ∷ ws) ha semi hs))))
          (λ q. absurd (cc))

      method_is : (b : Bool) → w.is_abstract ≡ b → rules.fit_method w ≡ true → (to : TypeName) (vs : List Token) → Result l.most to vs → (vs ≡ [] → ⊥) → (name : Token) → IsName name
          → (ps : List Param) (ws : List Token) → Parameters l.most ps ws → (body : Option Block) (xs : List Token) → IsBody l top b body xs
          → Begins at (method_of front to name ps body ∷ []) (us ++ (vs ++ (name ∷ ws ++ xs)))
      method_is true e fits to vs ht some name hn ps ws hp body xs k = begins_at (method_of front to name ps body ∷ []) vs (name ∷ ws ++ xs) some (λ start. record {
        height = 0;
        low = omega arith;
        are = rw (k.is, k.tokens, start, abstract_no_static w fits e, kept_texts w m.list m.marks) (tree.abstract_method noted m.are (abstract_fits w m.list m.marks fits e) ht hn hp k.ends);
      })
      method_is false e fits to vs ht some name hn ps ws hp body xs k = let block = k.1 in let braces = block.braces in
          begins_at (method_of front to name ps body ∷ []) vs (name ∷ ws ++ xs) some (λ start. record {
            height = suc braces.h;
            low = let a = braces.low in omega arith;
            are = rw (k.2, block.tokens, start, braces.is, static_is w m.list m.marks, kept_texts w m.list m.marks) (tree.method noted m.are (method_fits w m.list m.marks fits e) ht hn hp block.noted braces.form_is);
          })

      reads_fitting_method : rules.fit_method w ≡ true → (to : TypeName) (vs : List Token) → Result l.most to vs → (vs ≡ [] → ⊥) → (name : Token) → IsName name
          → Reads (λ y zs. Begins at y (us ++ (vs ++ name ∷ zs))) (one_member (method l top front to name))
      unfolding method
      reads_fitting_method fits to vs ht some name hn = reads_made {R = λ y zs. Begins at (y ∷ []) (us ++ (vs ++ name ∷ zs))} (λ y. y ∷ []) (reads_if (rules.fit_method w)
          (λ q. reads_bind (reads_params l good laws) (λ ps ws hp. reads_made (method_of front to name ps) (reads_body l laws top p w.is_abstract)
          (λ body xs k. method_is w.is_abstract refl fits to vs ht some name hn ps ws hp body xs k)))
          (λ q. absurd (cc))) (λ y zs k. k)

      fits_one : (a b : Bool) → (a || b) ≡ true → a ≡ false → b ≡ true
      fits_one true b h e = absurd (cc)
      fits_one false b h e = h

      by_field : (b : Bool) → rules.fit_field w ≡ b → (to : TypeName) (vs : List Token) → WholeType l.most to vs → (name : Token) → IsName name → Some_of (λ y zs. Begins at y (us ++ (vs ++ name ∷ zs)))
      by_field true e to vs ht name hn = some_of (reads_fitting_fields e to vs ht name hn)
      by_field false e to vs ht name hn = some_of (reads_fitting_method (fits_one (rules.fit_field w) (rules.fit_method w) m.fits e) to vs (tree.type ht) (type_some ht) name hn)

      unfit_method : (to : TypeName) (vs : List Token) → WholeType l.most to vs → (name : Token) → IsName name → rules.fit_method w ≡ false
          → Reads (λ y zs. Begins at y (us ++ (vs ++ name ∷ zs))) (one_member (method l top front to name))
      unfolding method
      unfit_method to vs ht name hn e = reads_if_then (rules.fit_method w) _ refuse _ (λ q. absurd (cc)) (λ q. reads_refuse (by_field (rules.fit_field w) refl to vs ht name hn))

      reads_fields : (to : TypeName) (vs : List Token) → WholeType l.most to vs → (name : Token) → IsName name
          → (b : Bool) → rules.fit_field w ≡ b → Reads (λ y zs. Begins at y (us ++ (vs ++ name ∷ zs))) (fields l top front to name)
      unfolding fields
      reads_fields to vs ht name hn true e = reads_fitting_fields e to vs ht name hn
      reads_fields to vs ht name hn false e = reads_if (rules.fit_field w) (λ q. absurd (cc)) (λ q. reads_refuse (by_field (rules.fit_field w) refl to vs ht name hn))

      reads_method : (to : TypeName) (vs : List Token) → WholeType l.most to vs → (name : Token) → IsName name
          → (b : Bool) → rules.fit_method w ≡ b → Reads (λ y zs. Begins at y (us ++ (vs ++ name ∷ zs))) (one_member (method l top front to name))
      reads_method to vs ht name hn true e = reads_fitting_method e to vs (tree.type ht) (type_some ht) name hn
      reads_method to vs ht name hn false e = unfit_method to vs ht name hn e

      -- a method or fields after their type
      reads_typed : (to : TypeName) (vs : List Token) → WholeType l.most to vs → Reads (λ y zs. Begins at y (us ++ (vs ++ zs))) (typed l top front to)
      unfolding typed
      reads_typed to vs ht = expect_name (λ name hn. reads_when sort.Open
          (reads_any (reads_method to vs ht name hn (rules.fit_method w) refl))
          (reads_any (reads_fields to vs ht name hn (rules.fit_field w) refl)))

      -- ---- constructors

      constructor_is : (name : Token) → IsName name → rules.fit_constructor w ≡ true → MayBeConstructor class name.text → (ps : List Param) (ws : List Token) → Parameters l.most ps ws
          → (before : List (List ℕ)) (xs : List Token) → Comments before xs → (b : TallBlock) (ys : List Token) → Braces (ConstructorBlock l.most) top before b ys
          → Begins at (constructor_of front ps b ∷ []) (us ++ (name ∷ ws ++ (xs ++ ys)))
      constructor_is name hn fits may ps ws hp before xs c b ys k = begins_at (constructor_of front ps b ∷ []) (name ∷ []) (ws ++ (xs ++ ys)) (λ e. cc) (λ start. record {
        height = suc k.h;
        low = let a = k.low in omega arith;
        are = rw (start, k.is, texts_in_order w m.list m.marks) (tree.constructor_of noted m.are (constructor_fits w m.list m.marks fits) hn may hp c k.form_is);
      })

      reads_constructor_of : (name : Token) → IsName name → rules.fit_constructor w ≡ true → MayBeConstructor class name.text
          → Reads (λ y zs. Begins at y (us ++ (name ∷ zs))) (one_member (constructor l top front))
      unfolding constructor
      reads_constructor_of name hn fits may = reads_made {R = λ y zs. Begins at (y ∷ []) (us ++ (name ∷ zs))} (λ y. y ∷ []) (reads_bind (reads_params l good laws)
          (λ ps ws hp. reads_bind (comments_here l.turns) (λ before xs c. reads_made (constructor_of front ps) (reads_constructor l laws (stmt l (top - 1) place.Item) top (λ q. reads_stmt l laws (top - 1) q) p before)
          (λ b ys k. constructor_is name hn fits may ps ws hp before xs c b ys k)))) (λ y zs k. k)

      may_be : (c : Option (List ℕ)) (name : List ℕ) → fits_class c name ≡ true → MayBeConstructor c name
      may_be None name e = tt
      may_be (Some own) name e = sym ((bytes_eq-Decides own name).0 e)

      by_names : (names : List Token) → IsNames names → may_construct class names w ≡ true → Reads (λ y zs. Begins at y (us ++ (names ++ zs))) (one_member (constructor l top front))
      by_names [] h e = absurd h
      by_names (t ∷ []) h e =
          let k = both_true (fits_class class t.text) (rules.fit_constructor w) e in
          reads_constructor_of t h.0 k.1 (may_be class t.text k.0)
      by_names (t ∷ u ∷ rest) h e = absurd (cc)

      named_type : (names vs : List Token) → AreNames names vs → (to : TypeName) (bs : List Token) → IsTypeAfter l (ty.Named (text_of names)) 0 to bs → WholeType l.most to (vs ++ bs)
      named_type names vs h to bs k =
          let e : 0 + k.count ≡ k.count = omega arith in let few = k.few in
          rw (k.type_is, e, h.0) (types.whole (types.named (qualified_is vs h.1)) k.pairs (omega arith))

      reads_after_names : (names vs : List Token) → AreNames names vs → Reads (λ y zs. Begins at y (us ++ (vs ++ zs))) (type_after l (ty.Named (text_of names)) 0 >>= typed l top front)
      reads_after_names names vs h = reads_bind (reads_type_after l good.builds (ty.Named (text_of names)) 0)
          (λ to bs k. reads_map (reads_typed to (vs ++ bs) (named_type names vs h to bs k)) (λ y zs q. rw append_assoc at q))

      reads_named : Reads (λ y zs. Begins at y (us ++ zs)) (named l top class front)
      unfolding named
      reads_named = reads_bind (reads_qualified l.turns) (λ names vs h. reads_when sort.Open
          (reads_any (reads_if (may_construct class names w)
          (λ e. subst (λ ts. Reads (λ y zs. Begins at y (us ++ (ts ++ zs))) (one_member (constructor l top front))) (h.0) (by_names names (rw (h.0) h.1) e))
          (λ e. reads_refuse (some_of (reads_after_names names vs h)))))
          (reads_any (reads_after_names names vs h)))

      reads_of_type : Reads (λ y zs. Begins at y (us ++ zs)) (whole_type l >>= typed l top front)
      reads_of_type = reads_bind laws.type (λ to vs ht. reads_typed to vs ht)

      reads_void : ReadsAt (λ y zs. Begins at y (us ++ zs)) (λ u. u ≡ sort.Void) (void_method l top front)
      unfolding void_method
      reads_void = reads_if (rules.fit_method w)
          (λ e. reads_token (λ z. cc) (λ t ht. expect_name (λ name hn. reads_fitting_method e ty.Void (t ∷ []) (tree.void (token.void_is t ht)) (λ q. cc) name hn)))
          (λ e. reads_refuse (some_of reads_of_type))

      reads_member_by : (s : Sort) → ReadsAt (λ y zs. Begins at y (us ++ zs)) (λ u. u ≡ s) (member_by l top class front s)
      reads_member_by sort.Void = reads_void
      reads_member_by sort.Prim = reads_any reads_of_type
      reads_member_by s = reads_any reads_named

    -- a field
    some_field : Some_of (λ y zs. AreDeclared y (cs ++ zs))
    some_field =
        let v = some_of (reads_variables l laws top a_word word_is_name) in
        let to : WholeType l.most (ty.Named a_word.text) (a_word ∷ []) = types.whole (types.named (types.name word_is_name)) types.none (omega arith) in
        let k = fields_is a_word.start rules.no_words [] (no_modifiers rules.fit_member refl) (ty.Named a_word.text) (a_word ∷ []) to refl v.0 (a_word ∷ v.1) v.2 (symbol ";") (a_symbol ";") in
        (_, _, k.are refl)

    -- a declaration of members after the comments before it
    pub reads_declared : Reads (λ y zs. AreDeclared y (cs ++ zs)) (declared l top class notes)
    unfolding declared
    reads_declared = reads_place Begins
        (λ at. reads_bind (reads_words rules.fit_member l.turns rules.no_words [] (no_modifiers rules.fit_member refl)) (λ w us m. reads_peek (reads_member_by at w us m)))
        (λ at y t us e k. k.are e) (λ at y k. k.some refl) some_field
