-- The condition of an operation (docs/FORMATS.md, "The condition"): a list of tests. The first one that fails is the fault.
use Rattle.std.specs.Prelude.{◌≡◌, ℕ, ◌==◌, Result, MatchResult, Bool, true, false, ◌||◌, List, [], ◌∷◌, ◌++◌, Option, None, Some, is_some, if◌then◌else◌}
use Rattle.std.specs.Cmp.Lexicographic.{pointwise}
use Rattle.std.specs.FinMap.{get}
use Rattle.std.specs.List.{list_any}
use Rattle.std.specs.Option.{option_or}
use Rattle.mol_base.specs.declared.ident.Id.{Id}
use Rattle.mol_table_rules.specs.Mentions.{Role, Mention, a_listed_param}
use Rattle.mol_table_rules.specs.Program.{Knowns, same_id}
use Rattle.mol_table_rules.specs.Rules.{fills}
use Rattle.mol_values_types.specs.declared.kind.MethodKind.{MethodKind}
use Rattle.mol_values_types.specs.declared.kind.MethodKind.TheVariants.{Instance, Static, Constructor}
use Rattle.mol_values_types.specs.declared.known.Known.{Known}
use Rattle.mol_values_types.specs.declared.known.Known.TheVariants as knowns
use Rattle.mol_op.specs.Changes.{Name, know_all}
use Rattle.mol_op.specs.declared.fault.OpFault.{OpFault}
use Rattle.mol_op.specs.declared.fault.OpFault.TheVariants.{Unknown, WrongKind, BadTag, NotFresh}
use Rattle.mol_op.specs.declared.conditions.Want.{Want}
use Rattle.mol_op.specs.declared.conditions.Want.TheVariants as wants

-- what a test answers: its fault
abbrev pub IsVerdict : {A : Type 0} → Option OpFault → Result A OpFault → Type 0
IsVerdict fault result = MatchResult result (λ _. fault ≡ None) (λ why. fault ≡ Some why)

-- ---- what an identity has to be known as

-- a constructor is no method that is called; a class, a declaration and a field can be deleted
abbrev pub wanted : Want → Known → Bool
wanted wants.Class knowns.Class = true
wanted wants.Field knowns.Field = true
wanted wants.Decl (knowns.Decl method) = true
wanted wants.Method (knowns.Method kind) = true
wanted wants.Called (knowns.Method Instance) = true
wanted wants.Called (knowns.Method Static) = true
wanted wants.Overridden (knowns.Method Instance) = true
wanted wants.Deleted knowns.Class = true
wanted wants.Deleted knowns.Field = true
wanted wants.Deleted (knowns.Decl method) = true
wanted want known = false

-- the fault of an identity that is not known as it should be
abbrev pub not_as_wanted : Id → Option Known → OpFault
not_as_wanted id None = Unknown id
not_as_wanted id (Some known) = WrongKind id

-- it is known, and as what is wanted
abbrev pub need_fault : Want → Id → Option Known → Option OpFault
need_fault want id None = Some (Unknown id)
need_fault want id (Some known) = if wanted want known then None else Some (WrongKind id)

-- ---- new identities

abbrev pub same_tag : List ℕ → List ℕ → Bool
same_tag = pointwise ◌==◌

-- whether the operation names the identity as new already
abbrev pub is_named : List Name → Id → Bool
is_named own id = list_any (λ name. same_id id name.0) own

-- A new identity has the entry's tag, is not known, and is not named as new already.
abbrev pub new_fault : List ℕ → Bool → Id → Option Known → Option OpFault
new_fault tag named id known =
    if same_tag id.tag tag then (if is_some known || named then Some (NotFresh id) else None) else Some (BadTag id)

-- A parameter that a known method is given is one of this very method and is not named already, or it is new.
abbrev pub list_fault : List ℕ → Bool → Id → Id → Option Known → Option OpFault
list_fault tag named method id None = new_fault tag named id None
list_fault tag named method id (Some (knowns.Param own)) =
    if same_id own method then (if named then Some (NotFresh id) else None) else Some (WrongKind id)
list_fault tag named method id (Some known) = Some (WrongKind id)

-- ---- what a value mentions

-- A type or an expression may mention this: what the rules of programs ask. Neither lists parameters.
abbrev pub may_mention : Role → Id → Option Known → Bool
may_mention a_listed_param id known = false
may_mention role id known = fills id role known

abbrev pub mention_fault : Knowns → Mention → Option OpFault
mention_fault known mention =
    if may_mention mention.role mention.id (get known mention.id) then None else Some (not_as_wanted mention.id (get known mention.id))

-- the fault of the first thing that is mentioned wrongly
abbrev pub mentions_fault : Knowns → List Mention → Option OpFault
mentions_fault known [] = None
mentions_fault known (mention ∷ mentions) = option_or (mention_fault known mention) (mentions_fault known mentions)

-- ---- kinds of methods

abbrev pub same_kind : MethodKind → MethodKind → Bool
same_kind Instance Instance = true
same_kind Static Static = true
same_kind Constructor Constructor = true
same_kind first second = false

abbrev pub is_of_kind : MethodKind → Option Known → Bool
is_of_kind kind (Some (knowns.Method own)) = same_kind own kind
is_of_kind kind known = false

-- whether something is known as a declaration of a method of this kind
abbrev pub declares_kind : Knowns → MethodKind → Option Known → Bool
declares_kind known kind (Some (knowns.Decl method)) = is_of_kind kind (get known method)
declares_kind known kind what = false

-- ---- tests

pub data Test : Type 0 where
  -- the identity is known as what is wanted
  needs : Want → Id → Test
  -- the identity is new, and will be known as this
  makes : Known → Id → Test
  -- the identity is a parameter of the method, or is new and will be one
  lists : Id → Id → Test
  -- what is mentioned is known, and of the right kind
  mentioned : Mention → Test
  -- the same, and what the operation itself adds counts as known
  mentioned_inside : Mention → Test
  -- the identity is known as a declaration of a method of this kind; else this is the fault
  declares : MethodKind → OpFault → Id → Test
  -- this is the fault
  fails : OpFault → Test

-- Of the entry's tag, what the operation has named as new, and what is known: the fault of a test.
abbrev pub test_fault : List ℕ → List Name → Knowns → Test → Option OpFault
test_fault tag own known (needs want id) = need_fault want id (get known id)
test_fault tag own known (makes what id) = new_fault tag (is_named own id) id (get known id)
test_fault tag own known (lists method id) = list_fault tag (is_named own id) method id (get known id)
test_fault tag own known (mentioned mention) = mention_fault known mention
test_fault tag own known (mentioned_inside mention) = mention_fault (know_all known own) mention
test_fault tag own known (declares kind fault id) = if declares_kind known kind (get known id) then None else Some fault
test_fault tag own known (fails fault) = Some fault

-- what the operation has named as new after a test
abbrev pub named_after : List Name → Test → List Name
named_after own (makes what id) = own ++ (id, what) ∷ []
named_after own (lists method id) = own ++ (id, knowns.Param method) ∷ []
named_after own test = own

-- the fault of the first test that fails
abbrev pub tests_fault : List ℕ → List Name → Knowns → List Test → Option OpFault
tests_fault tag own known [] = None
tests_fault tag own known (test ∷ tests) = option_or (test_fault tag own known test) (tests_fault tag (named_after own test) known tests)

-- what an operation names as new, in the order of its tests
abbrev pub tests_names : List Test → List Name
tests_names [] = []
tests_names (makes what id ∷ tests) = (id, what) ∷ tests_names tests
tests_names (lists method id ∷ tests) = (id, knowns.Param method) ∷ tests_names tests
tests_names (test ∷ tests) = tests_names tests

-- the condition of an operation: none of its tests fails
abbrev pub condition : List Test → List ℕ → Knowns → Option OpFault
condition tests tag known = tests_fault tag [] known tests
