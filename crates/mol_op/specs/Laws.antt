-- The laws of conditions, once for all lists of tests: what holds goes on holding where more is known, and what an operation
-- names is new with the entry's tag, or known as that.
use Rattle.std.specs.Prelude.{◌≡◌, ◌⊎◌, ℕ, Bool, true, false, ◌||◌, cond, List, [], ◌∷◌, ◌++◌, Option, None, Some, is_some, if◌then◌else◌}
use Rattle.std.proofs.Common.{refl, sym, ap, ◌∙◌}
use mathlib.Core.Logic.{inl, inr}
use Rattle.std.specs.Cmp.Lexicographic.{same_text}
use Rattle.std.specs.FinMap.{get}
use Rattle.std.specs.Option.{option_or}
use Rattle.mol_base.specs.declared.ident.Id.{Id}
use Rattle.mol_table_rules.specs.Mentions.{Role, Mention, a_class, a_field, a_method, a_called_method, a_static_method, a_constructor, a_param, a_listed_param}
use Rattle.mol_table_rules.specs.Program.{Knowns, same_id}
use Rattle.mol_values_types.specs.declared.kind.MethodKind.{MethodKind}
use Rattle.mol_values_types.specs.declared.known.Known.{Known}
use Rattle.mol_values_types.specs.declared.known.Known.TheVariants.{Class, Method, Decl, Field, Param}
use Rattle.mol_op.specs.Changes.{Name, know_all, first_name}
use Rattle.mol_op.specs.Operation.{Within, AreNamed, StayNew}
use Rattle.mol_op.specs.Tests.{Test, needs, makes, lists, mentioned, mentioned_inside, declares, fails, same_tag, is_named, need_fault, new_fault, list_fault, may_mention, mention_fault, not_as_wanted, is_of_kind, declares_kind, test_fault, tests_fault, tests_names, condition}
use Rattle.mol_op.specs.declared.fault.OpFault.{OpFault}
use Rattle.mol_op.specs.declared.fault.OpFault.TheVariants.{Unknown, WrongKind, BadTag, NotFresh}
use Rattle.mol_op.specs.ChangeLaws.{none-some, both-none, id_is, get-know_all}

-- ---- single tests

pub passed : (b : Bool) (fault : OpFault) → (if b then None else Some fault) ≡ None → b ≡ true
passed true fault e = refl
passed false fault e = absurd cc

pub tag_is : (x y : List ℕ) → same_tag x y ≡ true → x ≡ y
tag_is x y e = same_text x y (sym e)

-- a test of what an identity is known as that holds, holds where more is known
kept-at : (fault : Option Known → Option OpFault) (was now : Option Known) → ((what : Known) → was ≡ Some what → now ≡ Some what)
    → (was ≡ None → fault None ≡ None → now ≡ None)
    → fault was ≡ None → fault now ≡ None
kept-at fault (Some what) now within new e = ap fault (within what refl) ∙ e
kept-at fault None now within new e = ap fault (new refl e) ∙ e

-- a new identity is not known, has the tag and is not named before
pub new-is : (tag : List ℕ) (named : Bool) (id : Id) (o : Option Known) → new_fault tag named id o ≡ None
    → (o ≡ None) × ((id.tag ≡ tag) × (named ≡ false))
new-is tag named id o e = by (same_tag id.tag tag) refl o named e where
  by : (b : Bool) → same_tag id.tag tag ≡ b → (o : Option Known) (named : Bool)
      → (if b then (if is_some o || named then Some (NotFresh id) else None) else Some (BadTag id)) ≡ None
      → (o ≡ None) × ((id.tag ≡ tag) × (named ≡ false))
  by true t None false e = (refl, (tag_is id.tag tag t, refl))
  by true t None true e = absurd cc
  by true t (Some known) named e = absurd cc
  by false t o named e = absurd cc

-- a listed parameter is known as that, or new; and not named before
pub list-is : (tag : List ℕ) (named : Bool) (method id : Id) (o : Option Known) → list_fault tag named method id o ≡ None
    → ((o ≡ Some (Param method)) ⊎ ((o ≡ None) × (id.tag ≡ tag))) × (named ≡ false)
list-is tag named method id None e = let new = new-is tag named id None e in (inr (refl, new.1.0), new.1.1)
list-is tag named method id (Some (Param own)) e = by (same_id own method) refl named e where
  by : (b : Bool) → same_id own method ≡ b → (named : Bool)
      → (if b then (if named then Some (NotFresh id) else None) else Some (WrongKind id)) ≡ None
      → ((Some (Param own) ≡ Some (Param method)) ⊎ ((Some (Param own) ≡ None) × (id.tag ≡ tag))) × (named ≡ false)
  by true t false e = (inl (ap (λ m. Some (Param m)) (id_is own method t)), refl)
  by true t true e = absurd cc
  by false t named e = absurd cc
list-is tag named method id (Some Class) e = absurd cc
list-is tag named method id (Some (Method kind)) e = absurd cc
list-is tag named method id (Some (Decl of)) e = absurd cc
list-is tag named method id (Some Field) e = absurd cc

-- only a parameter may be mentioned that is not known
mention-none : (role : Role) (id : Id) (now : Option Known) → may_mention role id None ≡ true → may_mention role id now ≡ true
mention-none a_class id now e = absurd cc
mention-none a_field id now e = absurd cc
mention-none a_method id now e = absurd cc
mention-none a_called_method id now e = absurd cc
mention-none a_static_method id now e = absurd cc
mention-none a_constructor id now e = absurd cc
mention-none a_param id now e = refl
mention-none a_listed_param id now e = absurd cc

pub mention-grows : (role : Role) (id : Id) (was now : Option Known) → ((what : Known) → was ≡ Some what → now ≡ Some what)
    → may_mention role id was ≡ true → may_mention role id now ≡ true
mention-grows role id (Some what) now within e = ap (may_mention role id) (within what refl) ∙ e
mention-grows role id None now within e = mention-none role id now e

kind-grows : (kind : MethodKind) (was now : Option Known) → ((what : Known) → was ≡ Some what → now ≡ Some what)
    → is_of_kind kind was ≡ true → is_of_kind kind now ≡ true
kind-grows kind (Some what) now within e = ap (is_of_kind kind) (within what refl) ∙ e
kind-grows kind None now within e = absurd cc

declares-grows : (kind : MethodKind) (known more : Knowns) → Within known more → (was now : Option Known)
    → ((what : Known) → was ≡ Some what → now ≡ Some what)
    → declares_kind known kind was ≡ true → declares_kind more kind now ≡ true
declares-grows kind known more within (Some (Decl method)) now kept e =
    ap (declares_kind more kind) (kept (Decl method) refl) ∙ kind-grows kind (get known method) (get more method) (within method) e
declares-grows kind known more within (Some Class) now kept e = absurd cc
declares-grows kind known more within (Some (Method own)) now kept e = absurd cc
declares-grows kind known more within (Some Field) now kept e = absurd cc
declares-grows kind known more within (Some (Param own)) now kept e = absurd cc
declares-grows kind known more within None now kept e = absurd cc

-- ---- what the operation itself adds, where more is known

first-new : (known more : Knowns) (own : List Name) → StayNew known more own → (id : Id) (what : Known)
    → first_name own id ≡ Some what → get known id ≡ None → get more id ≡ None
first-new known more [] stay id what is none = absurd (none-some what is)
first-new known more (name ∷ own) stay id what is none =
    by (same_id id name.0) refl is (λ is. first-new known more own stay.1 id what is none) where
      by : (b : Bool) → same_id id name.0 ≡ b → cond b (Some name.1) (first_name own id) ≡ Some what
          → (first_name own id ≡ Some what → get more id ≡ None) → get more id ≡ None
      by true t is rest = ap (get more) (id_is id name.0 t) ∙ stay.0 (sym (ap (get known) (id_is id name.0 t)) ∙ none)
      by false t is rest = rest is

mention-holds : (known : Knowns) (mention : Mention) → may_mention mention.role mention.id (get known mention.id) ≡ true
    → mention_fault known mention ≡ None
mention-holds known mention e = ap (λ b. if b then None else Some (not_as_wanted mention.id (get known mention.id))) e

-- what a body may mention grows with what is known
inside-grows : (known more : Knowns) (own : List Name) → Within known more → StayNew known more own
    → Within (know_all known own) (know_all more own)
inside-grows known more own within stay id what is =
    get-know_all own more id ∙ by (get known id) refl (sym (get-know_all own known id) ∙ is) where
      by : (o : Option Known) → get known id ≡ o → option_or o (first_name own id) ≡ Some what
          → option_or (get more id) (first_name own id) ≡ Some what
      by (Some was) e is = ap (λ o. option_or o (first_name own id)) (within id was e) ∙ is
      by None e is = ap (λ o. option_or o (first_name own id)) (first-new known more own stay id what is e) ∙ is

-- ---- a test that holds, holds where more is known

-- the name that a test makes stays new
abbrev StaysNew : Knowns → Knowns → Test → Type 0
StaysNew known more (makes what id) = get known id ≡ None → get more id ≡ None
StaysNew known more (lists method id) = get known id ≡ None → get more id ≡ None
StaysNew known more test = Unit {0}

test-grows : (test : Test) (tag : List ℕ) (own : List Name) (known more : Knowns) → Within known more → StayNew known more own
    → StaysNew known more test
    → test_fault tag own known test ≡ None → test_fault tag own more test ≡ None
test-grows (needs want id) tag own known more within stay new e =
    kept-at (need_fault want id) (get known id) (get more id) (within id) (λ _ f. absurd (none-some (Unknown id) (sym f))) e
test-grows (makes what id) tag own known more within stay new e =
    kept-at (new_fault tag (is_named own id) id) (get known id) (get more id) (within id) (λ none _. new none) e
test-grows (lists method id) tag own known more within stay new e =
    kept-at (list_fault tag (is_named own id) method id) (get known id) (get more id) (within id) (λ none _. new none) e
test-grows (mentioned mention) tag own known more within stay new e =
    mention-holds more mention
    (mention-grows mention.role mention.id (get known mention.id) (get more mention.id) (within mention.id) (passed _ _ e))
test-grows (mentioned_inside mention) tag own known more within stay new e =
    mention-holds (know_all more own) mention
    (mention-grows mention.role mention.id (get (know_all known own) mention.id) (get (know_all more own) mention.id)
    (inside-grows known more own within stay mention.id) (passed _ _ e))
test-grows (declares kind fault id) tag own known more within stay new e =
    ap (λ b. if b then None else Some fault) (declares-grows kind known more within (get known id) (get more id) (within id) (passed _ _ e))
test-grows (fails fault) tag own known more within stay new e = absurd (none-some fault (sym e))

-- ---- lists of tests

stay-append : (known more : Knowns) (own : List Name) (name : Name) → StayNew known more own
    → (get known name.0 ≡ None → get more name.0 ≡ None) → StayNew known more (own ++ name ∷ [])
stay-append known more [] name stay new = (new, tt {0})
stay-append known more (first ∷ own) name stay new = (stay.0, stay-append known more own name stay.1 new)

tests-grow : (tests : List Test) (tag : List ℕ) (own : List Name) (known more : Knowns) → tests_fault tag own known tests ≡ None
    → Within known more → StayNew known more own → StayNew known more (tests_names tests) → tests_fault tag own more tests ≡ None
tests-grow [] tag own known more e within stay new = refl
tests-grow (needs want id ∷ tests) tag own known more e within stay new =
    let both = both-none (test_fault tag own known (needs want id)) _ e in
    ap (λ o. option_or o (tests_fault tag own more tests)) (test-grows (needs want id) tag own known more within stay (tt {0}) both.0)
    ∙ tests-grow tests tag own known more both.1 within stay new
tests-grow (makes what id ∷ tests) tag own known more e within stay new =
    let both = both-none (test_fault tag own known (makes what id)) _ e in
    ap (λ o. option_or o (tests_fault tag (own ++ (id, what) ∷ []) more tests))
    (test-grows (makes what id) tag own known more within stay new.0 both.0)
    ∙ tests-grow tests tag (own ++ (id, what) ∷ []) known more both.1 within (stay-append known more own (id, what) stay new.0) new.1
tests-grow (lists method id ∷ tests) tag own known more e within stay new =
    let both = both-none (test_fault tag own known (lists method id)) _ e in
    ap (λ o. option_or o (tests_fault tag (own ++ (id, Param method) ∷ []) more tests))
    (test-grows (lists method id) tag own known more within stay new.0 both.0)
    ∙ tests-grow tests tag (own ++ (id, Param method) ∷ []) known more both.1 within
    (stay-append known more own (id, Param method) stay new.0) new.1
tests-grow (mentioned mention ∷ tests) tag own known more e within stay new =
    let both = both-none (test_fault tag own known (mentioned mention)) _ e in
    ap (λ o. option_or o (tests_fault tag own more tests)) (test-grows (mentioned mention) tag own known more within stay (tt {0}) both.0)
    ∙ tests-grow tests tag own known more both.1 within stay new
tests-grow (mentioned_inside mention ∷ tests) tag own known more e within stay new =
    let both = both-none (test_fault tag own known (mentioned_inside mention)) _ e in
    ap (λ o. option_or o (tests_fault tag own more tests))
    (test-grows (mentioned_inside mention) tag own known more within stay (tt {0}) both.0)
    ∙ tests-grow tests tag own known more both.1 within stay new
tests-grow (declares kind fault id ∷ tests) tag own known more e within stay new =
    let both = both-none (test_fault tag own known (declares kind fault id)) _ e in
    ap (λ o. option_or o (tests_fault tag own more tests))
    (test-grows (declares kind fault id) tag own known more within stay (tt {0}) both.0)
    ∙ tests-grow tests tag own known more both.1 within stay new
tests-grow (fails fault ∷ tests) tag own known more e within stay new =
    absurd (none-some fault (sym (both-none (Some fault) (tests_fault tag own known tests) e).0))

tests-named : (tests : List Test) (tag : List ℕ) (own : List Name) (known : Knowns) → tests_fault tag own known tests ≡ None
    → AreNamed tag known (tests_names tests)
tests-named [] tag own known e = tt {0}
tests-named (needs want id ∷ tests) tag own known e =
    tests-named tests tag own known (both-none (test_fault tag own known (needs want id)) _ e).1
tests-named (makes what id ∷ tests) tag own known e =
    let both = both-none (test_fault tag own known (makes what id)) _ e in
    let new = new-is tag (is_named own id) id (get known id) both.0 in
    (inr (new.0, new.1.0), tests-named tests tag (own ++ (id, what) ∷ []) known both.1)
tests-named (lists method id ∷ tests) tag own known e =
    let both = both-none (test_fault tag own known (lists method id)) _ e in
    ((list-is tag (is_named own id) method id (get known id) both.0).0, tests-named tests tag (own ++ (id, Param method) ∷ []) known both.1)
tests-named (mentioned mention ∷ tests) tag own known e =
    tests-named tests tag own known (both-none (test_fault tag own known (mentioned mention)) _ e).1
tests-named (mentioned_inside mention ∷ tests) tag own known e =
    tests-named tests tag own known (both-none (test_fault tag own known (mentioned_inside mention)) _ e).1
tests-named (declares kind fault id ∷ tests) tag own known e =
    tests-named tests tag own known (both-none (test_fault tag own known (declares kind fault id)) _ e).1
tests-named (fails fault ∷ tests) tag own known e =
    absurd (none-some fault (sym (both-none (Some fault) (tests_fault tag own known tests) e).0))

-- ---- the two laws

pub condition-named : (tests : List Test) (tag : List ℕ) (known : Knowns) → condition tests tag known ≡ None
    → AreNamed tag known (tests_names tests)
condition-named tests tag known e = tests-named tests tag [] known e

pub condition-grows : (tests : List Test) (tag : List ℕ) (known more : Knowns) → condition tests tag known ≡ None
    → Within known more → StayNew known more (tests_names tests) → condition tests tag more ≡ None
condition-grows tests tag known more e within new = tests-grow tests tag [] known more e within (tt {0}) new
