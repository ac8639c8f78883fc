-- The rules of members of classes.
use Rattle.std.specs.Prelude.{ℕ, zero, suc, ◌+◌, ◌-◌, ◌&&◌, not, Bool, true, false, if◌then◌else◌, nat_eq, List, [], ◌∷◌, ◌++◌, Option, Some, None}
use Rattle.std.specs.Str.{bytes_eq}
use Rattle.mol_base.specs.Token.{Token}
use Rattle.jav_tree.specs.declared.types.TypeName.{TypeName}
use Rattle.jav_tree.specs.declared.types.TypeName.TheVariants as ty
use Rattle.jav_tree.specs.declared.stmt.Block.{Block}
use Rattle.jav_tree.specs.declared.unit.Param.{Param}
use Rattle.jav_tree.specs.declared.unit.Member.{Member}
use Rattle.jav_tree.specs.declared.unit.Member.TheVariants as member
use Rattle.jav_tree.specs.Blocks.{block_of}
use Rattle.jav_parse_cursor.specs.declared.limits.Limits.{Limits}
use Rattle.jav_parse_stmt.specs.declared.local.Variable.{Variable}
use Rattle.jav_parse_stmt.specs.declared.local.VariableList.{VariableList}
use Rattle.jav_parse_unit.specs.declared.member.Front.{Front}
use Rattle.jav_parse_cursor.specs.declared.sort.Sort.{Sort}
use Rattle.jav_parse_cursor.specs.declared.sort.Sort.TheVariants as sort
use Rattle.jav_parse_stmt.specs.declared.stmt.Place.TheVariants.{Item}
use Rattle.jav_parse_stmt.specs.declared.stmt_tall.TallBlock.{TallBlock}
use Rattle.jav_parse_stmt.specs.LocalRules.{variables}
use Rattle.jav_parse_cursor.specs.Nodes.{text_of, is_one, first_text}
use Rattle.jav_parse_cursor.specs.Reading.{Parser, ◌>>=◌, ◌>>◌, pure, refuse, peek, place, take_token, expect, when_next, comments}
use Rattle.jav_parse_stmt.specs.StmtRules.{stmt, block, constructor_block}
use Rattle.jav_parse_cursor.specs.TypeRules.{qualified, type_after, whole_type}
use Rattle.jav_parse_unit.specs.declared.words.Words.{Words as Modifiers}
use Rattle.jav_parse_unit.specs.WordRules as words

-- a parameter after `final`
unfoldable pub param_of : Limits → Parser Param
param_of l = do
  to ← whole_type l
  t ← expect sort.Name
  pure (record { ty = to; name = t.text })

unfoldable pub param : Limits → Parser Param
param l = when_next sort.Final (take_token >> param_of l) (param_of l)

unfoldable pub further_params : Limits → ℕ → List Param → Parser (List Param)
further_params l zero all = pure all
further_params l (suc n) all = when_next sort.Comma
    (do
      take_token
      x ← param l
      further_params l n (all ++ x ∷ []))
    (pure all)

unfoldable pub some_params : Limits → Parser (List Param)
some_params l = do
  x ← param l
  all ← further_params l (l.most - 1) (x ∷ [])
  expect sort.Close
  pure all

-- parameters after their parenthesis
abbrev pub params_after : Limits → Parser (List Param)
params_after l = when_next sort.Close (take_token >> pure []) (some_params l)

unfoldable pub params : Limits → Parser (List Param)
params l = expect sort.Open >> params_after l

-- the block of a method, with comments before it
unfoldable pub method_block : Limits → ℕ → Parser TallBlock
method_block l top = do
  notes ← comments l.turns []
  block l (stmt l (top - 1) Item) top notes

-- the block of a method, or a semicolon where it is abstract
unfoldable pub body_or_semi : Limits → ℕ → Bool → Parser (Option Block)
body_or_semi l top is_abstract = if is_abstract then expect sort.Semi >> pure None else
    (method_block l top >>= (λ b. pure (Some (block_of b.items b.tail))))

abbrev pub method_of : Front → TypeName → Token → List Param → Option Block → Member
method_of front to name ps body = member.Method (record { front = front.notes; at = front.at; words = words.method_texts front.words; is_static = front.words.is_static; result = to; name = name.text; params = ps; block = body })

-- a method from its parameters on
unfoldable pub method : Limits → ℕ → Front → TypeName → Token → Parser Member
method l top front to name = if words.fit_method front.words then (do
  ps ← params l
  body ← body_or_semi l top front.words.is_abstract
  pure (method_of front to name ps body)) else refuse

abbrev pub constructor_of : Front → List Param → TallBlock → Member
constructor_of front ps b = member.Ctor (record { front = front.notes; at = front.at; words = words.texts front.words; params = ps; block = block_of b.items b.tail })

-- a constructor from its parameters on
unfoldable pub constructor : Limits → ℕ → Front → Parser Member
constructor l top front = do
  ps ← params l
  notes ← comments l.turns []
  b ← constructor_block l (stmt l (top - 1) Item) top notes
  pure (constructor_of front ps b)

abbrev pub field_of : List (List ℕ) → ℕ → Modifiers → TypeName → Variable → Member
field_of notes at w to v = member.Field (record { front = notes; at = at; words = words.texts w; ty = to; name = v.name; init = v.init })

-- the further fields of a declaration, each at its name and without comments
abbrev pub further_fields : Modifiers → TypeName → List Variable → List Member
further_fields w to [] = []
further_fields w to (v ∷ vs) = field_of [] v.at w to v ∷ further_fields w to vs

-- the fields of a declaration
abbrev pub fields_of : Front → TypeName → List Variable → List Member
fields_of front to [] = []
fields_of front to (v ∷ vs) = field_of front.notes front.at front.words to v ∷ further_fields front.words to vs

-- fields after the name of the first
unfoldable pub fields : Limits → ℕ → Front → TypeName → Token → Parser (List Member)
fields l top front to name = if words.fit_field front.words then (do
  all ← variables l top name
  expect sort.Semi
  pure (fields_of front to all.items)) else refuse

abbrev pub one_member : Parser Member → Parser (List Member)
one_member p = p >>= (λ m. pure (m ∷ []))

-- a method or fields after their type
unfoldable pub typed : Limits → ℕ → Front → TypeName → Parser (List Member)
typed l top front to = do
  name ← expect sort.Name
  when_next sort.Open (one_member (method l top front to name)) (fields l top front to name)

-- whether a constructor may have this name
abbrev pub fits_class : Option (List ℕ) → List ℕ → Bool
fits_class None name = true
fits_class (Some class) name = bytes_eq class name

-- whether these names may begin a constructor
abbrev pub may_construct : Option (List ℕ) → List Token → Modifiers → Bool
may_construct class names w = is_one names && (fits_class class (first_text names) && words.fit_constructor w)

-- members that begin with a name, after their modifiers
unfoldable pub named : Limits → ℕ → Option (List ℕ) → Front → Parser (List Member)
named l top class front = do
  names ← qualified l.turns
  when_next sort.Open
      (if may_construct class names front.words then one_member (constructor l top front) else refuse)
      (type_after l (ty.Named (text_of names)) 0 >>= typed l top front)

unfoldable pub void_method : Limits → ℕ → Front → Parser (List Member)
void_method l top front = if words.fit_method front.words then (do
  take_token
  name ← expect sort.Name
  one_member (method l top front ty.Void name)) else refuse

abbrev pub member_by : Limits → ℕ → Option (List ℕ) → Front → Sort → Parser (List Member)
member_by l top class front sort.Void = void_method l top front
member_by l top class front sort.Prim = whole_type l >>= typed l top front
member_by l top class front _ = named l top class front

-- a declaration of members after the comments before it
unfoldable pub declared : Limits → ℕ → Option (List ℕ) → List (List ℕ) → Parser (List Member)
declared l top class notes = do
  at ← place
  w ← words.words words.fit_member l.turns words.no_words
  s ← peek
  member_by l top class (record { notes = notes; at = at; words = w }) s
