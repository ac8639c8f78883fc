-- Limits that are large enough for n tokens: modifiers, members and source files.
use Rattle.std.proofs.Common.{◌≡◌, ℕ, zero, suc, ◌+◌, ◌-◌, ◌<◌, ◌≤◌, Bool, List, [], ◌∷◌, ◌++◌, Option, Some, None, refl, ap, arith}
use Rattle.mol_base.specs.Token.{Token}
use Rattle.jav_tree.specs.declared.types.TypeName.{TypeName}
use Rattle.jav_tree.specs.declared.types.TypeName.TheVariants as ty
use Rattle.jav_tree.specs.declared.unit.Member.{Member}
use Rattle.jav_tree.specs.declared.unit.Param.{Param}
use Rattle.jav_parse_cursor.specs.declared.limits.Limits.{Limits}
use Rattle.jav_parse_unit.specs.declared.member.Front.{Front}
use Rattle.jav_parse_cursor.specs.declared.sort.Sort.{Sort}
use Rattle.jav_parse_cursor.specs.declared.sort.Sort.TheVariants as sort
use Rattle.jav_parse_stmt.specs.declared.stmt.Place.TheVariants.{Item}
use Rattle.jav_parse_unit.specs.declared.unit.ImportList.{ImportList}
use Rattle.jav_parse_unit.specs.declared.words.Words.{Words as Modifiers}
use Rattle.jav_parse_unit.specs.MemberRules as member
use Rattle.jav_parse_unit.specs.MemberRules.{param_of, param, further_params, some_params, params, method_block, body_or_semi, method, constructor, fields, one_member, typed, may_construct, void_method, member_by, declared}
use Rattle.jav_parse_cursor.specs.Nodes.{text_of}
use Rattle.jav_parse_cursor.specs.Reading.{Parser}
use Rattle.jav_parse_stmt.specs.StmtRules.{stmt}
use Rattle.jav_parse_unit.specs.UnitRules as units
use Rattle.jav_parse_unit.specs.UnitRules.{further_imports, import_list, members, parent, class_body, class, unit}
use Rattle.jav_parse_unit.specs.WordRules.{no_words, fit_class, fit_field, fit_method, fit_member, is_word, and_word, take_word, words}
use Rattle.jav_parse.proofs.Agree.{Agree, Same, Any, Turns, Enough, agree_pure, agree_refuse, agree_known, agree_with, agree_frame, agree_bind, agree_then, agree_if, agree_peek, agree_place, agree_when, agree_take, agree_expect, agree_self, take_agrees, agree_comments, enough, enough_for, turns, turned, agree_turns, agree_turns'}
use Rattle.jav_parse.proofs.EnoughFlow.{agree_stmt}
use Rattle.jav_parse.proofs.EnoughStmt.{BelowStmt, agree_variables, agree_block, agree_constructor_block}
use Rattle.jav_parse.proofs.EnoughTypes.{LikeLimits, like_less, agree_qualified, agree_whole_type, agree_type_after}
use Rattle.jav_parse.proofs.LookaheadUnit.{local_override, more_words}

-- ---- modifiers

agree_take_word : {n h : ℕ} → Agree Same (λ _. suc h) n h take_word take_word
unfolding take_word
agree_take_word = agree_when sort.At (agree_take (λ _. agree_self local_override)) take_agrees

agree_more : {n h : ℕ} (fit : Modifiers → Bool) (f g : ℕ) → ((w : Modifiers) → Agree Same (λ _. h) n (suc h) (words fit f w) (words fit g w)) → (more : Option Modifiers)
    → Agree Same (λ _. h) n h (more_words fit f more) (more_words fit g more)
agree_more fit f g k (Some w) = agree_if (fit w) (fit w) refl (agree_then agree_take_word (λ _. k w)) agree_refuse
agree_more fit f g k None = agree_refuse

agree_words : (f g : ℕ) {n h : ℕ} (j : ℕ) (fit : Modifiers → Bool) (all : Modifiers) → j ≤ h → n < f + h → n < g + h → Agree Same (λ _. j) n h (words fit f all) (words fit g all)
unfolding words
agree_words zero g j fit all le a b = agree_known (λ z. absurd (omega arith))
agree_words (suc f) zero j fit all le a b = agree_known (λ z. absurd (omega arith))
agree_words (suc f) (suc g) {n} {h} j fit all le a b = agree_peek (λ s. agree_if (is_word s) (is_word s) refl
    (agree_with (λ x y r. r) (λ x. omega arith) (agree_more {h = h} fit f g (λ w. agree_words f g h fit w (omega arith) (omega arith) (omega arith)) (and_word all s)))
    (agree_pure {a = all} {b = all} refl (omega arith)))

-- ---- members

-- the modifiers are the same
record LikeFront (x y : Front) : Type 0 where
  words : x.words ≡ y.words

module _ {n : ℕ} (l l' : Limits) (like : LikeLimits n l l') where
  agree_param : {h : ℕ} → Agree Any (λ _. suc h) n h (param l) (param l')
  unfolding param param_of
  agree_param = agree_when sort.Final (agree_take (λ _. agree_with (λ x y r. r) (λ x. omega arith) of)) of where
    of : {h : ℕ} → Agree Any (λ _. suc h) n h (param_of l) (param_of l')
    of = agree_bind (agree_whole_type l l' like) (λ x y r. agree_expect sort.Name (λ t. agree_pure tt (omega arith)))

  agree_further_params : (f g : ℕ) {h : ℕ} (all other : List Param) → Turns n h f g → Agree Any (λ _. 0) n h (further_params l f all) (further_params l' g other)
  unfolding further_params
  agree_further_params zero zero all other a = agree_pure tt (omega arith)
  agree_further_params zero (suc g) all other a = agree_turns a
  agree_further_params (suc f) zero all other a = agree_turns' a
  agree_further_params (suc f) (suc g) all other a = agree_when sort.Comma
      (agree_take (λ _. agree_bind agree_param (λ x y r. agree_further_params f g (all ++ x ∷ []) (other ++ y ∷ []) (turned _ (omega arith) a))))
      (agree_pure tt (omega arith))

  agree_params : {h : ℕ} → Agree Any (λ _. 1) n h (params l) (params l')
  unfolding params some_params
  agree_params = agree_expect sort.Open (λ _. agree_when sort.Close (agree_take (λ _. agree_pure tt (omega arith)))
      (agree_bind agree_param (λ x y r. agree_bind
      (agree_further_params (l.most - 1) (l'.most - 1) (x ∷ []) (y ∷ []) (turns _ 1 (omega arith) like.most))
      (λ all other s. agree_expect sort.Close (λ _. agree_pure tt (omega arith))))))

  module _ (top top' : ℕ) (tops : Enough 5 n top top') where
    low : Enough 3 n top top'
    low = enough_for 3 n (omega arith) tops

    item : BelowStmt n (stmt l (top - 1) Item) (stmt l' (top' - 1) Item)
    item m le = agree_stmt (top - 1) (top' - 1) l l' (like_less m (omega arith) like) (enough 4 m 1 (omega arith) tops) Item

    agree_body : {h : ℕ} (is_abstract : Bool) → Agree Any (λ _. 1) n h (body_or_semi l top is_abstract) (body_or_semi l' top' is_abstract)
    unfolding body_or_semi method_block
    agree_body is_abstract = agree_if is_abstract is_abstract refl (agree_expect sort.Semi (λ _. agree_pure tt (omega arith)))
        (agree_bind {R = Any} {r = λ _. 1} (agree_bind (agree_comments l.turns l'.turns [] [] (let t = like.turns in omega arith) (let t = like.turns' in omega arith)) (λ notes notes' k.
        agree_with (λ x y r. tt) (λ x. omega arith) (agree_block l l' like (stmt l (top - 1) Item) (stmt l' (top' - 1) Item) item top top' notes notes' low)))
        (λ x y r. agree_pure tt (omega arith)))

    agree_method : {h : ℕ} (front front' : Front) (to to' : TypeName) (name : Token) → LikeFront front front' → Agree Any (λ _. 1) n h (method l top front to name) (method l' top' front' to' name)
    unfolding method
    agree_method front front' to to' name r = agree_if _ _ (ap fit_method r.words)
        (agree_bind agree_params (λ x y s. agree_bind (agree_body_of front front' r) (λ b b' i. agree_pure tt (omega arith)))) agree_refuse where
          agree_body_of : {h : ℕ} (front front' : Front) → LikeFront front front' → Agree Any (λ _. 1) n h (body_or_semi l top front.words.is_abstract) (body_or_semi l' top' front'.words.is_abstract)
          agree_body_of front front' r = rw (← r.words) (agree_body front.words.is_abstract)

    agree_constructor : {h : ℕ} (front front' : Front) → Agree Any (λ _. 1) n h (constructor l top front) (constructor l' top' front')
    unfolding constructor
    agree_constructor front front' = agree_bind agree_params (λ x y s.
        agree_bind (agree_comments l.turns l'.turns [] [] (let t = like.turns in omega arith) (let t = like.turns' in omega arith)) (λ notes notes' k.
        agree_bind (agree_constructor_block l l' like (stmt l (top - 1) Item) (stmt l' (top' - 1) Item) item top top' notes notes' tops) (λ b b' i. agree_pure tt (omega arith))))

    agree_fields : {h : ℕ} (front front' : Front) (to to' : TypeName) (name : Token) → LikeFront front front' → Agree Any (λ _. 1) n h (fields l top front to name) (fields l' top' front' to' name)
    unfolding fields
    agree_fields front front' to to' name r = agree_if _ _ (ap fit_field r.words)
        (agree_bind (agree_variables l l' like top top' low name) (λ x y s. agree_expect sort.Semi (λ _. agree_pure tt (omega arith)))) agree_refuse

    one_agrees : {h : ℕ} {p q : Parser Member} → Agree Any (λ _. 1) n h p q → Agree Any (λ _. 1) n h (one_member p) (one_member q)
    one_agrees a = agree_bind a (λ x y r. agree_pure tt (omega arith))

    agree_typed : {h : ℕ} (front front' : Front) (to to' : TypeName) → LikeFront front front' → Agree Any (λ _. 1) n h (typed l top front to) (typed l' top' front' to')
    unfolding typed
    agree_typed front front' to to' r = agree_expect sort.Name (λ name. agree_when sort.Open
        (one_agrees (agree_method front front' to to' name r)) (agree_fields front front' to to' name r))

    agree_named : {h : ℕ} (name : Option (List ℕ)) (front front' : Front) → LikeFront front front' → Agree Any (λ _. 1) n h (member.named l top name front) (member.named l' top' name front')
    unfolding member.named
    agree_named name front front' r = agree_then (agree_qualified l.turns l'.turns like.turns like.turns') (λ names. agree_when sort.Open
        (agree_if _ _ (ap (may_construct name names) r.words) (one_agrees (agree_constructor front front')) agree_refuse)
        (agree_bind (agree_type_after l l' like (ty.Named (text_of names)) (ty.Named (text_of names)) 0 (omega arith)) (λ x y s. agree_typed front front' x y r)))

    agree_void_method : {h : ℕ} (front front' : Front) → LikeFront front front' → Agree Any (λ _. 1) n h (void_method l top front) (void_method l' top' front')
    unfolding void_method
    agree_void_method front front' r = agree_if _ _ (ap fit_method r.words)
        (agree_take (λ _. agree_expect sort.Name (λ name. one_agrees (agree_method front front' ty.Void ty.Void name r)))) agree_refuse

    agree_member_by : {h : ℕ} (name : Option (List ℕ)) (front front' : Front) → LikeFront front front' → (s : Sort) → Agree Any (λ _. 1) n h (member_by l top name front s) (member_by l' top' name front' s)
    agree_member_by name front front' r sort.Void = agree_void_method front front' r
    agree_member_by name front front' r sort.Prim = agree_bind (agree_whole_type l l' like) (λ x y s. agree_typed front front' x y r)
    agree_member_by name front front' r s = agree_named name front front' r

    pub agree_declared : {h : ℕ} (name : Option (List ℕ)) (notes notes' : List (List ℕ)) → Agree Any (λ _. 1) n h (declared l top name notes) (declared l' top' name notes')
    unfolding declared
    agree_declared {h} name notes notes' = agree_place (λ at. agree_then
        (agree_words l.turns l'.turns h fit_member no_words (omega arith) (let t = like.turns in omega arith) (let t = like.turns' in omega arith)) (λ w.
        agree_peek (agree_member_by name (record { notes = notes; at = at; words = w }) (record { notes = notes'; at = at; words = w }) (record { words = refl }))))

-- ---- source files

module _ {n : ℕ} (l l' : Limits) (like : LikeLimits n l l') (top top' : ℕ) (tops : Enough 5 n top top') where
  declared_at : {h : ℕ} (name : Option (List ℕ)) (notes notes' : List (List ℕ)) → Agree Any (λ _. 1 + h) n h (declared l top name notes) (declared l' top' name notes')
  declared_at {h} name notes notes' = agree_frame h 0 (omega arith) (λ m le.
      agree_declared l l' (like_less m (omega arith) like) top top' (enough_for 5 m (omega arith) tops) name notes notes')

  agree_semi_name : {h : ℕ} → Agree Any (λ _. h) n h (units.named l.turns) (units.named l'.turns)
  unfolding units.named
  agree_semi_name = agree_then (agree_qualified l.turns l'.turns like.turns like.turns') (λ names. agree_expect sort.Semi (λ _. agree_pure tt (omega arith)))

  agree_further_imports : (f g : ℕ) {h : ℕ} (all other : ImportList) → n < f + h → n < g + h → Agree Any (λ _. 0) n h (further_imports l f all) (further_imports l' g other)
  unfolding further_imports
  agree_further_imports zero g all other a b = agree_known (λ z. absurd (omega arith))
  agree_further_imports (suc f) zero all other a b = agree_known (λ z. absurd (omega arith))
  agree_further_imports (suc f) (suc g) all other a b = agree_when sort.Import
      (agree_take (λ _. agree_bind agree_semi_name (λ q q' r.
      agree_bind (agree_comments l.turns l'.turns all.notes other.notes (let t = like.turns in omega arith) (let t = like.turns' in omega arith)) (λ notes notes' k.
      agree_further_imports f g (record { names = all.names ++ q ∷ []; notes = notes }) (record { names = other.names ++ q' ∷ []; notes = notes' }) (omega arith) (omega arith)))))
      (agree_pure tt (omega arith))

  agree_import_list : {h : ℕ} → Agree Any (λ _. 0) n h (import_list l) (import_list l')
  unfolding import_list
  agree_import_list = agree_bind (agree_comments l.turns l'.turns [] [] (let t = like.turns in omega arith) (let t = like.turns' in omega arith)) (λ notes notes' k.
      agree_further_imports l.turns l'.turns (record { names = []; notes = notes }) (record { names = []; notes = notes' }) (let t = like.turns in omega arith) (let t = like.turns' in omega arith))

  agree_members : (f g : ℕ) {h : ℕ} (name : Option (List ℕ)) (all other : List Member) → n < f + h → n < g + h → Agree Any (λ _. 0) n h (members l top name f all) (members l' top' name g other)
  unfolding members
  agree_members zero g name all other a b = agree_known (λ z. absurd (omega arith))
  agree_members (suc f) zero name all other a b = agree_known (λ z. absurd (omega arith))
  agree_members (suc f) (suc g) name all other a b =
      agree_bind (agree_comments l.turns l'.turns [] [] (let t = like.turns in omega arith) (let t = like.turns' in omega arith)) (λ notes notes' k.
      agree_when sort.Finish (agree_take (λ _. agree_pure tt (omega arith)))
      (agree_bind (declared_at name notes notes') (λ ms ms' i. agree_members f g name (all ++ ms) (other ++ ms') (omega arith) (omega arith))))

  agree_parent : {h : ℕ} → Agree Any (λ _. 0) n h (parent l.turns) (parent l'.turns)
  unfolding parent
  agree_parent = agree_when sort.Extends
      (agree_take (λ _. agree_then (agree_qualified l.turns l'.turns like.turns like.turns') (λ names. agree_pure tt (omega arith))))
      (agree_pure tt (omega arith))

  agree_class_body : {h : ℕ} (name : Token) → Agree Any (λ _. 0) n h (class_body l top name) (class_body l' top' name)
  unfolding class_body
  agree_class_body name = agree_expect sort.Begin (λ _. agree_bind
      (agree_members l.turns l'.turns (Some name.text) [] [] (let t = like.turns in omega arith) (let t = like.turns' in omega arith)) (λ all other r.
      agree_bind (agree_comments l.turns l'.turns all.tail other.tail (let t = like.turns in omega arith) (let t = like.turns' in omega arith)) (λ notes notes' k.
      agree_pure tt (omega arith))))

  agree_class : {h : ℕ} (front front' : List (List ℕ)) → Agree Any (λ _. 0) n h (class l top front) (class l' top' front')
  unfolding class
  agree_class front front' = agree_then (agree_words l.turns l'.turns 0 fit_class no_words (omega arith) (let t = like.turns in omega arith) (let t = like.turns' in omega arith)) (λ w.
      agree_expect sort.Class (λ _. agree_expect sort.Name (λ name. agree_bind agree_parent (λ to to' r.
      agree_bind (agree_class_body name) (λ body body' s. agree_pure tt (omega arith))))))

  pub agree_unit : {h : ℕ} → Agree Any (λ _. 0) n h (unit l top) (unit l' top')
  unfolding unit
  agree_unit = agree_bind (agree_comments l.turns l'.turns [] [] (let t = like.turns in omega arith) (let t = like.turns' in omega arith)) (λ notes notes' k.
      agree_expect sort.Package (λ _. agree_bind agree_semi_name (λ q q' r. agree_bind agree_import_list (λ all other s.
      agree_bind (agree_class all.notes other.notes) (λ c c' i. agree_pure tt (omega arith))))))
