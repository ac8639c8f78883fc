-- Each rule depends on the tokens that it read and on the next one alone: modifiers, members and source files.
use Rattle.std.proofs.Common.{◌≡◌, ℕ, zero, suc, ◌-◌, Bool, true, false, if◌then◌else◌, List, [], ◌∷◌, Option, Some, None, Ok, Err, refl, ap}
use Rattle.mol_base.specs.Token.{Token}
use Rattle.jav_tree.specs.declared.types.TypeName.{TypeName}
use Rattle.jav_tree.specs.declared.unit.Member.{Member}
use Rattle.jav_tree.specs.declared.unit.Param.{Param}
use Rattle.jav_parse_cursor.specs.declared.limits.Limits.{Limits}
use Rattle.jav_parse_unit.specs.declared.member.Front.{Front}
use Rattle.jav_parse_cursor.specs.declared.sort.Sort.{Sort}
use Rattle.jav_parse_cursor.specs.declared.sort.Sort.TheVariants as sort
use Rattle.jav_parse_stmt.specs.declared.stmt.Place.TheVariants.{Item}
use Rattle.jav_parse_unit.specs.declared.unit.ImportList.{ImportList}
use Rattle.jav_parse_unit.specs.declared.words.Words.{Words as Modifiers}
use Rattle.jav_parse_unit.specs.MemberRules as member
use Rattle.jav_parse_unit.specs.MemberRules.{param_of, param, further_params, some_params, params, method_block, body_or_semi, method, constructor, fields, one_member, typed, void_method, member_by, declared}
use Rattle.jav_parse_cursor.specs.Reading.{Parser, ◌>>◌, refuse}
use Rattle.jav_parse_stmt.specs.StmtRules.{stmt}
use Rattle.jav_parse_unit.specs.UnitRules as units
use Rattle.jav_parse_unit.specs.UnitRules.{further_imports, import_list, members, parent, class_body, class, unit}
use Rattle.jav_parse_unit.specs.WordRules.{and_word, is_word, take_word, words}
use Rattle.jav_parse_cursor.specs.Reading.{is_override, expect_override}
use Rattle.jav_parse.proofs.Lookahead.{SameHead, Keeps, Local, local_refuse, local_bind, local_if, local_pure, local_then, local_take, local_when, local_peek, steps}
use Rattle.jav_parse.proofs.LookaheadStmt.{local_variables, local_stmt, local_block, local_constructor_block}
use Rattle.jav_parse.proofs.LookaheadTypes.{local_qualified, local_type_after, local_whole_type}

-- ---- modifiers

none_left : (rest : List Token) → SameHead [] rest → expect_override rest ≡ Err rest
unfolding expect_override
none_left [] s = refl
none_left (t ∷ ts) s = absurd s

refused : (t : Token) → is_override t ≡ false → (rest : List Token) → SameHead (t ∷ []) rest → expect_override rest ≡ Err rest
unfolding expect_override
refused t e [] s = absurd s
refused t e (u ∷ us) s = rw (← s, e) refl

override_by : (t : Token) (ts : List Token) (b : Bool) → is_override t ≡ b → Keeps expect_override (t ∷ ts) (if b then Ok (t, ts) else Err (t ∷ ts))
unfolding expect_override
override_by t ts true e = (t ∷ [], refl, λ rest s. ap (λ b. if b then Ok (t, rest) else Err (t ∷ rest)) e)
override_by t ts false e = ([], refl, refused t e)

override_keeps : (ts : List Token) → Keeps expect_override ts (expect_override ts)
unfolding expect_override
override_keeps [] = ([], refl, none_left)
override_keeps (t ∷ ts) = override_by t ts (is_override t) refl

pub local_override : Local expect_override
local_override = record { at = override_keeps }

local_take_word : Local take_word
unfolding take_word
local_take_word = local_when sort.At (local_then local_take local_override) local_take

abbrev pub more_words : (Modifiers → Bool) → ℕ → Option Modifiers → Parser Modifiers
more_words fit n more = elim more [ Some w ↦ (if fit w then take_word >> words fit n w else refuse) | None ↦ refuse ]

local_more : (fit : Modifiers → Bool) (n : ℕ) → ((w : Modifiers) → Local (words fit n w)) → (more : Option Modifiers) → Local (more_words fit n more)
local_more fit n h (Some w) = local_if (fit w) (local_then local_take_word (h w)) local_refuse
local_more fit n h None = local_refuse

local_words : (fit : Modifiers → Bool) (n : ℕ) (all : Modifiers) → Local (words fit n all)
unfolding words
local_words fit zero all = local_refuse
local_words fit (suc n) all = local_bind local_peek (λ s. local_if (is_word s) (local_more fit n (local_words fit n) (and_word all s)) (local_pure all))

-- ---- members

local_param : (l : Limits) → Local (param l)
unfolding param param_of
local_param l = search (steps, local_whole_type) depth 20

local_further_params : (l : Limits) (n : ℕ) (all : List Param) → Local (further_params l n all)
unfolding further_params
local_further_params l zero all = search steps
local_further_params l (suc n) all = search (steps, local_param, local_further_params l n) depth 20

local_params : (l : Limits) → Local (params l)
unfolding params some_params
local_params l = search (steps, local_param, local_further_params) depth 20

local_method_block : (l : Limits) (top : ℕ) → Local (method_block l top)
unfolding method_block
local_method_block l top = search (steps, local_block l (stmt l (top - 1) Item) (local_stmt l (top - 1) Item))

local_body_or_semi : (l : Limits) (top : ℕ) (is_abstract : Bool) → Local (body_or_semi l top is_abstract)
unfolding body_or_semi
local_body_or_semi l top is_abstract = search (steps, local_method_block) depth 20

local_method : (l : Limits) (top : ℕ) (front : Front) (to : TypeName) (name : Token) → Local (method l top front to name)
unfolding method
local_method l top front to name = search (steps, local_params, local_body_or_semi) depth 20

local_constructor : (l : Limits) (top : ℕ) (front : Front) → Local (constructor l top front)
unfolding constructor
local_constructor l top front = search (steps, local_params, local_constructor_block l (stmt l (top - 1) Item) (local_stmt l (top - 1) Item)) depth 20

local_fields : (l : Limits) (top : ℕ) (front : Front) (to : TypeName) (name : Token) → Local (fields l top front to name)
unfolding fields
local_fields l top front to name = search (steps, local_variables) depth 20

local_one_member : (p : Parser Member) → Local p → Local (one_member p)
local_one_member p h = search steps

local_typed : (l : Limits) (top : ℕ) (front : Front) (to : TypeName) → Local (typed l top front to)
unfolding typed
local_typed l top front to = search (steps, local_method, local_fields) depth 20

local_named : (l : Limits) (top : ℕ) (class : Option (List ℕ)) (front : Front) → Local (member.named l top class front)
unfolding member.named
local_named l top class front = search (steps, local_qualified, local_constructor, local_type_after, local_typed) depth 20

local_void_method : (l : Limits) (top : ℕ) (front : Front) → Local (void_method l top front)
unfolding void_method
local_void_method l top front = search (steps, local_method) depth 20

local_member_by : (l : Limits) (top : ℕ) (class : Option (List ℕ)) (front : Front) (s : Sort) → Local (member_by l top class front s)
local_member_by l top class front sort.Void = local_void_method l top front
local_member_by l top class front sort.Prim = search (steps, local_whole_type, local_typed)
local_member_by l top class front s = local_named l top class front

pub local_declared : (l : Limits) (top : ℕ) (class : Option (List ℕ)) (notes : List (List ℕ)) → Local (declared l top class notes)
unfolding declared
local_declared l top class notes = search (steps, local_words, local_member_by) depth 20

-- ---- source files

local_semi_name : (n : ℕ) → Local (units.named n)
unfolding units.named
local_semi_name n = search (steps, local_qualified) depth 20

local_further_imports : (l : Limits) (n : ℕ) (all : ImportList) → Local (further_imports l n all)
unfolding further_imports
local_further_imports l zero all = search steps
local_further_imports l (suc n) all = search (steps, local_semi_name, local_further_imports l n) depth 20

local_import_list : (l : Limits) → Local (import_list l)
unfolding import_list
local_import_list l = search (steps, local_further_imports)

local_members : (l : Limits) (top : ℕ) (class : Option (List ℕ)) (n : ℕ) (all : List Member) → Local (members l top class n all)
unfolding members
local_members l top class zero all = search steps
local_members l top class (suc n) all = search (steps, local_declared, local_members l top class n) depth 20

local_parent : (n : ℕ) → Local (parent n)
unfolding parent
local_parent n = search (steps, local_qualified) depth 20

local_class_body : (l : Limits) (top : ℕ) (name : Token) → Local (class_body l top name)
unfolding class_body
local_class_body l top name = search (steps, local_members) depth 20

local_class : (l : Limits) (top : ℕ) (front : List (List ℕ)) → Local (class l top front)
unfolding class
local_class l top front = search (steps, local_words, local_parent, local_class_body) depth 20

pub local_unit : (l : Limits) (top : ℕ) → Local (unit l top)
unfolding unit
local_unit l top = search (steps, local_semi_name, local_import_list, local_class) depth 20
