-- Names with dots and types that are read are in the grammar, and what is refused could have gone on.
use Rattle.std.proofs.Common.{◌≡◌, ℕ, zero, suc, ◌+◌, ◌-◌, ◌<◌, ◌≤◌, true, false, List, [], ◌∷◌, ◌++◌, codes, refl, sym, ap, ◌∙◌, subst, append_assoc, arith, if◌then◌else◌}
use Rattle.std.proofs.lemmas.List.{append-nil}
use Rattle.mol_base.specs.Token.{Token}
use Rattle.jav_tree.specs.declared.types.TypeName.{TypeName}
use Rattle.jav_tree.specs.declared.types.TypeName.TheVariants as ty
use Rattle.jav_tree.specs.Tokens.{IsSymbol, IsName}
use Rattle.jav_tree.specs.Types as types
use Rattle.jav_tree.specs.Types.{Qualified, IsPrimitive, BaseType, Brackets, WholeType, array_of}
use Rattle.jav_parse_cursor.specs.declared.limits.Limits.{Limits}
use Rattle.jav_parse_cursor.specs.declared.sort.Sort.{Sort}
use Rattle.jav_parse_cursor.specs.declared.sort.Sort.TheVariants as sort
use Rattle.jav_parse_cursor.specs.Nodes.{text_of, array_type}
use Rattle.jav_parse_cursor.specs.Reading.{◌>>=◌, pure, sort as next_sort}
use Rattle.jav_parse_cursor.specs.Sorts.{same_sort, sort_of}
use Rattle.jav_parse_cursor.specs.TypeRules.{further_names, qualified, primitive, base_type, brackets, type_after, whole_type}
use Rattle.jav_parse.proofs.Meets.{Spelling, ReadsAt, Reads, reads_pure, reads_refuse, reads_map, reads_bind, reads_if, reads_when, reads_any, reads_token, reads_expect}
use Rattle.jav_parse.proofs.Samples.{a_name, a_right, a_prim}
use Rattle.jav_parse.proofs.TokenSorts.{dot_is, name_is, left_is, right_is, primitive_is}

-- ---- names with dots

-- Dots ts: the tokens ts are dots and names in turn.
pub data Dots : List Token → Type 0 where
  none : Dots []
  more : {dot t : Token} {ts : List Token} → IsSymbol "." dot → IsName t → Dots ts → Dots (dot ∷ t ∷ ts)

abbrev pub IsNames : List Token → Type 0
IsNames [] = ⊥
IsNames (t ∷ ts) = IsName t × Dots ts

-- names with dots are their own tokens
abbrev pub AreNames : Spelling (List Token)
AreNames names ts = (names ≡ ts) × IsNames ts

further_text : (q : List ℕ) (front rest : List Token) → Qualified q front → Dots rest → Qualified (q ++ text_of rest) (front ++ rest)
unfolding text_of
further_text q front rest h none = subst (λ r. Qualified r (front ++ [])) (sym (append-nil q)) (subst (λ r. Qualified q r) (sym (append-nil front)) h)
further_text q front rest h (more {dot} {t} {ts} hd ht k) =
    let go = further_text (q ++ codes "." ++ t.text) (front ++ dot ∷ t ∷ []) ts (types.dotted h hd ht) k in
    let e : (q ++ codes "." ++ t.text) ++ text_of ts ≡ q ++ (dot.text ++ (t.text ++ text_of ts)) =
    append_assoc (q ++ codes ".") t.text (text_of ts) ∙ append_assoc q (codes ".") (t.text ++ text_of ts) ∙ ap (λ r. q ++ (r ++ (t.text ++ text_of ts))) (sym hd.written) in
    subst (λ r. Qualified r (front ++ dot ∷ t ∷ ts)) e (subst (λ r. Qualified ((q ++ codes "." ++ t.text) ++ text_of ts) r) (append_assoc front (dot ∷ t ∷ []) ts) go)

pub qualified_is : (ts : List Token) → IsNames ts → Qualified (text_of ts) ts
unfolding text_of
qualified_is [] h = absurd h
qualified_is (t ∷ ts) h = further_text t.text (t ∷ []) ts (types.name h.0) h.1

reads_further : (n : ℕ) (names : List Token) → Reads (λ y vs. (y ≡ names ++ vs) × Dots vs) (further_names n names)
unfolding further_names
reads_further zero names = reads_refuse (names, [], (sym (append-nil names), none))
reads_further (suc n) names = reads_when sort.Dot
    (reads_token (λ z. cc) (λ dot hd. reads_expect a_name (λ t ht. reads_map (reads_further n (names ++ dot ∷ t ∷ []))
    (λ y ws k. (k.0 ∙ append_assoc names (dot ∷ t ∷ []) ws, more (dot_is dot hd) (name_is t ht) k.1)))))
    (reads_pure names (sym (append-nil names), none))

pub reads_qualified : (n : ℕ) → Reads AreNames (qualified n)
unfolding qualified
reads_qualified n = reads_expect a_name (λ t ht. reads_map (reads_further n (t ∷ [])) (λ y vs k. (k.0, (name_is t ht, k.1))))

-- ---- types without brackets

pub record IsPrimitiveType (to : TypeName) (ts : List Token) : Type 0 where
  pub token : Token
  pub tokens : ts ≡ token ∷ []
  pub is : IsPrimitive token
  pub type_is : to ≡ ty.Prim token.text

abbrev pub IsNamedType : Spelling TypeName
IsNamedType to ts = (to ≡ ty.Named (text_of ts)) × IsNames ts

pub primitive_base : (to : TypeName) (ts : List Token) → IsPrimitiveType to ts → BaseType to ts
primitive_base to ts h = subst (λ r. BaseType r ts) (sym h.type_is) (subst (λ r. BaseType (ty.Prim h.token.text) r) (sym h.tokens) (types.primitive h.is))

pub named_base : (to : TypeName) (ts : List Token) → IsNamedType to ts → BaseType to ts
named_base to ts h = subst (λ r. BaseType r ts) (sym h.0) (types.named (qualified_is ts h.1))

pub reads_primitive : {P : Sort → Type 0} → ReadsAt IsPrimitiveType P primitive
unfolding primitive
reads_primitive = reads_expect a_prim (λ t ht. reads_pure (ty.Prim t.text) (record { token = t; tokens = refl; is = primitive_is t ht; type_is = refl }))

reads_named : (n : ℕ) → Reads IsNamedType (qualified n >>= (λ names. pure (ty.Named (text_of names))))
reads_named n = reads_bind (reads_qualified n) (λ names us h. reads_pure (ty.Named (text_of names)) (ap (λ r. ty.Named (text_of r)) (h.0 ∙ sym (append-nil us)), subst IsNames (sym (append-nil us)) h.1))

pub reads_base : (n : ℕ) → Reads BaseType (base_type n)
unfolding base_type
reads_base n = reads_when sort.Prim (reads_map reads_primitive primitive_base) (reads_any (reads_map (reads_named n) named_base))

named_by : (n : ℕ) (s : Sort) → same_sort s sort.Prim ≡ false → Reads IsNamedType (if same_sort s sort.Prim then primitive else (qualified n >>= (λ names. pure (ty.Named (text_of names)))))
named_by n s h = reads_if (same_sort s sort.Prim) (λ b. absurd (cc)) (λ b. reads_named n)

-- where no primitive type stands
pub reads_named_type : (n : ℕ) → ReadsAt IsNamedType (λ u. same_sort u sort.Prim ≡ false) (base_type n)
unfolding base_type
reads_named_type n = record { at = λ ts q. (named_by n (next_sort ts) q).at ts tt }

-- ---- brackets

-- at most n further pairs of brackets, after k
pub record AreBrackets (n k m : ℕ) (ts : List Token) : Type 0 where
  pub count : ℕ
  pub sum : m ≡ k + count
  pub few : count ≤ n
  pub pairs : Brackets count ts

no_brackets : (n k : ℕ) → AreBrackets n k k []
no_brackets n k = record { count = 0; sum = omega arith; few = omega arith; pairs = types.none }

one_pair : (n k m : ℕ) (left right : Token) (ts : List Token) → sort_of left ≡ sort.Left → sort_of right ≡ sort.Right → AreBrackets n (k + 1) m ts → AreBrackets (suc n) k m (left ∷ right ∷ ts)
one_pair n k m left right ts hl hr b = record {
  count = suc b.count;
  sum = let e = b.sum in omega arith;
  few = let e = b.few in omega arith;
  pairs = types.pair (left_is left hl) (right_is right hr) b.pairs;
}

pub reads_brackets : (n k : ℕ) → Reads (AreBrackets n k) (brackets n k)
unfolding brackets
reads_brackets zero k = reads_pure k (no_brackets 0 k)
reads_brackets (suc n) k = reads_when sort.Left
    (reads_token (λ z. cc) (λ left hl. reads_expect a_right (λ right hr. reads_map (reads_brackets n (k + 1)) (λ m ws b. one_pair n k m left right ws hl hr b))))
    (reads_pure k (no_brackets (suc n) k))

-- ---- whole types

pub array_is : (l : Limits) → l.builds ≡ true → (n : ℕ) (base : TypeName) → array_type l.builds n base ≡ array_of n base
unfolding array_type
array_is l h n base = rw h refl

-- the type of this base with k pairs of brackets and those that ts are
pub record IsTypeAfter (l : Limits) (base : TypeName) (k : ℕ) (to : TypeName) (ts : List Token) : Type 0 where
  pub count : ℕ
  pub type_is : to ≡ array_of (k + count) base
  pub few : count ≤ l.most - k
  pub pairs : Brackets count ts

pub reads_type_after : (l : Limits) → l.builds ≡ true → (base : TypeName) (k : ℕ) → Reads (IsTypeAfter l base k) (type_after l base k)
unfolding type_after
reads_type_after l h base k = reads_bind (reads_brackets (l.most - k) k)
    (λ n us b. reads_pure (array_type l.builds n base) (record {
      count = b.count;
      type_is = array_is l h n base ∙ ap (λ r. array_of r base) b.sum;
      few = b.few;
      pairs = subst (λ r. Brackets b.count r) (sym (append-nil us)) b.pairs;
    }))

pub reads_whole_type : (l : Limits) → l.builds ≡ true → Reads (WholeType l.most) (whole_type l)
unfolding whole_type
reads_whole_type l h = reads_bind (reads_base l.turns)
    (λ base us hb. reads_map (reads_type_after l h base 0)
    (λ to vs k. let e : 0 + k.count ≡ k.count = omega arith in let few : k.count ≤ l.most = let f = k.few in omega arith in
    subst (λ r. WholeType l.most r (us ++ vs)) (sym (k.type_is ∙ ap (λ r. array_of r base) e)) (types.whole hb k.pairs few)))

-- names with dots as a type
pub named_type : (l : Limits) (names : List Token) → IsNames names → WholeType l.most (ty.Named (text_of names)) names
named_type l names are = subst (λ r. WholeType l.most (ty.Named (text_of names)) r) (append-nil names) (types.whole {n = 0} (types.named (qualified_is names are)) types.none (omega arith))

-- an array type of these names, whose first pair of brackets was read before the others
pub array_named : (l : Limits) → l.builds ≡ true → 0 < l.most → (names : List Token) → IsNames names → (left right : Token) → sort_of left ≡ sort.Left → sort_of right ≡ sort.Right
    → (n : ℕ) (us : List Token) → AreBrackets (l.most - 1) 1 n us → WholeType l.most (array_type l.builds n (ty.Named (text_of names))) (names ++ (left ∷ right ∷ us))
array_named l builds some names are left right hl hr n us b =
    let e : suc b.count ≡ n = let s = b.sum in omega arith in
    let few : suc b.count ≤ l.most = let f = b.few in omega arith in
    subst (λ r. WholeType l.most r (names ++ (left ∷ right ∷ us))) (ap (λ r. array_of r (ty.Named (text_of names))) e ∙ sym (array_is l builds n (ty.Named (text_of names))))
    (types.whole (types.named (qualified_is names are)) (types.pair (left_is left hl) (right_is right hr) b.pairs) few)
