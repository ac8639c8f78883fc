-- Conditions, part by part.
use Rattle.std.specs.Prelude.{◌≡◌, ℕ, ◌+◌, ◌<◌, Bool, true, false, ◌||◌, List, [], ◌∷◌, ◌++◌, drop, take, length, map, Option, None, Some}
use Rattle.std.proofs.Common.{suc, refl, sym, ap, ◌∙◌, arith, get_or, append_assoc}
use Rattle.std.proofs.Math.Seq.{take-suc}
use Rattle.std.proofs.lemmas.List.{append-nil}
use Rattle.std.specs.List.{list_any}
use Rattle.std.specs.Option.{option_or}
use Rattle.mol_base.specs.declared.ident.Id.{Id}
use Rattle.mol_table_rules.specs.Mentions.{Mention, type_mentions}
use Rattle.mol_table_rules.specs.Program.{Knowns, same_id}
use Rattle.mol_values_types.proofs.Ties.{any_tied}
use Rattle.mol_values_types.specs.Order.{id_eq}
use Rattle.mol_values_types.specs.declared.iblock.IBody.{IBody}
use Rattle.mol_values_types.specs.declared.kind.MethodKind.{MethodKind}
use Rattle.mol_values_types.specs.declared.kind.MethodKind.TheVariants.{Instance, Static, Constructor}
use Rattle.mol_values_types.specs.declared.known.Known.TheVariants as knowns
use Rattle.mol_values_types.specs.declared.param.Param.{Param}
use Rattle.mol_op.specs.Changes.{Name, know_all}
use Rattle.mol_op.specs.Rows.{type_tests, param_tests, block_tests, known_block_tests}
use Rattle.mol_op.specs.Seen.{named_params}
use Rattle.mol_op.specs.Tests.{Test, makes, lists, declares, mentioned, mentioned_inside, mention_fault, mentions_fault, is_named, test_fault, tests_fault, named_after, tests_names}
use Rattle.mol_op.specs.declared.fault.OpFault.{OpFault}
use Rattle.mol_op.specs.declared.fault.OpFault.TheVariants.{WrongKind}
use Rattle.mol_op.specs.ChangeLaws.{or-assoc}
use Rattle.mol_op.specs.Names.{drop-item}

-- ---- what is mentioned

module _ (tag : List ℕ) (own : List Name) (known : Knowns) where
  pub types-then : (ms : List Mention) (rest : List Test) → tests_fault tag own known (map mentioned ms ++ rest) ≡ option_or (mentions_fault known ms) (tests_fault tag own known rest)
  types-then [] rest = refl
  types-then (m ∷ ms) rest = ap (option_or (mention_fault known m)) (types-then ms rest) ∙ sym (or-assoc (mention_fault known m) (mentions_fault known ms) _)

  pub types-only : (ms : List Mention) → tests_fault tag own known (map mentioned ms) ≡ mentions_fault known ms
  types-only [] = refl
  types-only (m ∷ ms) = ap (option_or (mention_fault known m)) (types-only ms)

  pub inside-only : (ms : List Mention) → tests_fault tag own known (map mentioned_inside ms) ≡ mentions_fault (know_all known own) ms
  inside-only [] = refl
  inside-only (m ∷ ms) = ap (option_or (mention_fault (know_all known own) m)) (inside-only ms)

  pub block-then : (body : Option IBody) (kind : MethodKind) (decl : Id) (rest : List Test)
      → tests_fault tag own known (block_tests body kind decl ++ rest) ≡ option_or (tests_fault tag own known (block_tests body kind decl)) (tests_fault tag own known rest)
  block-then (Some body) kind decl rest = refl
  block-then None Instance decl rest = refl
  block-then None Static decl rest = refl
  block-then None Constructor decl rest = refl

  pub known-block-then : (body : Option IBody) (decl : Id) (rest : List Test)
      → tests_fault tag own known (known_block_tests body decl ++ rest) ≡ option_or (tests_fault tag own known (known_block_tests body decl)) (tests_fault tag own known rest)
  known-block-then (Some body) decl rest = refl
  known-block-then None decl rest = sym (or-assoc (test_fault tag own known (declares Instance (WrongKind decl) decl)) None (tests_fault tag own known rest))

-- ---- what is named

pub names-types : (ms : List Mention) (rest : List Test) → tests_names (map mentioned ms ++ rest) ≡ tests_names rest
names-types [] rest = refl
names-types (m ∷ ms) rest = names-types ms rest

pub names-types-only : (ms : List Mention) → tests_names (map mentioned ms) ≡ []
names-types-only [] = refl
names-types-only (m ∷ ms) = names-types-only ms

pub names-inside : (ms : List Mention) → tests_names (map mentioned_inside ms) ≡ []
names-inside [] = refl
names-inside (m ∷ ms) = names-inside ms

pub names-block : (body : Option IBody) (kind : MethodKind) (decl : Id) (rest : List Test) → tests_names (block_tests body kind decl ++ rest) ≡ tests_names rest
names-block (Some body) kind decl rest = refl
names-block None Instance decl rest = refl
names-block None Static decl rest = refl
names-block None Constructor decl rest = refl

pub names-known-block : (body : Option IBody) (decl : Id) (rest : List Test) → tests_names (known_block_tests body decl ++ rest) ≡ tests_names rest
names-known-block (Some body) decl rest = refl
names-known-block None decl rest = refl

-- ---- parameters

-- what is named before a parameter of a list
abbrev pub own-at : Id → List Name → List Param → ℕ → List Name
own-at method entities params k = entities ++ named_params method (take k params)

named-append : (method : Id) (params : List Param) (param : Param) → named_params method (params ++ param ∷ []) ≡ named_params method params ++ (param.id, knowns.Param method) ∷ []
named-append method [] param = refl
named-append method (first ∷ params) param = ap (λ names. (first.id, knowns.Param method) ∷ names) (named-append method params param)

own-next : (method : Id) (entities : List Name) (params : List Param) (k : ℕ) (param : Param) → k < length params → param ≡ get_or params k param
    → own-at method entities params (k + 1) ≡ own-at method entities params k ++ (param.id, knowns.Param method) ∷ []
own-next method entities params k param within is-item =
    let next : k + 1 ≡ suc k = omega arith in
    ap (λ n. entities ++ named_params method (take n params)) next
    ∙ ap (λ ps. entities ++ named_params method ps) (take-suc params k param within ∙ ap (λ x. take k params ++ x ∷ []) (sym is-item))
    ∙ ap (λ names. entities ++ names) (named-append method (take k params) param)
    ∙ sym (append_assoc entities (named_params method (take k params)) ((param.id, knowns.Param method) ∷ []))

any-append : {A : Type 0} (p : A → Bool) (xs ys : List A) → list_any p (xs ++ ys) ≡ (list_any p xs || list_any p ys)
any-append p [] ys = refl
any-append p (x ∷ xs) ys = by (p x) (any-append p xs ys) where
  by : (b : Bool) → list_any p (xs ++ ys) ≡ (list_any p xs || list_any p ys) → (b || list_any p (xs ++ ys)) ≡ ((b || list_any p xs) || list_any p ys)
  by true rest = refl
  by false rest = rest

any-named : (method id : Id) (params : List Param) → list_any (λ (name : Name). same_id id name.0) (named_params method params) ≡ list_any (λ (param : Param). same_id id param.id) params
any-named method id [] = refl
any-named method id (param ∷ params) = ap (λ b. same_id id param.id || b) (any-named method id params)

-- whether something is named before a parameter
pub named-at : (method : Id) (entities : List Name) (params : List Param) (k : ℕ) (id : Id)
    → is_named (own-at method entities params k) id ≡ (list_any (λ (entity : Name). id_eq id entity.0) entities || list_any (λ (param : Param). id_eq id param.id) (take k params))
named-at method entities params k id =
    any-append (λ (name : Name). same_id id name.0) entities (named_params method (take k params))
    ∙ (λ i. sym (any_tied (λ (entity : Name). entity.0) id entities) i || (any-named method id (take k params) ∙ sym (any_tied (λ (param : Param). param.id) id (take k params))) i)

-- a test of a parameter of this method names it as that
abbrev pub IsParamTest : Id → (Id → Test) → Type 0
IsParamTest method test =
    ((own : List Name) (id : Id) → named_after own (test id) ≡ own ++ (id, knowns.Param method) ∷ [])
    × ((id : Id) (rest : List Test) → tests_names (test id ∷ rest) ≡ (id, knowns.Param method) ∷ tests_names rest)

pub makes-param : (method : Id) → IsParamTest method (makes (knowns.Param method))
makes-param method = (λ own id. refl, λ id rest. refl)

pub lists-param : (method : Id) → IsParamTest method (lists method)
lists-param method = (λ own id. refl, λ id rest. refl)

module _ (method : Id) (test : Id → Test) (is : IsParamTest method test) where
  pub names-params : (params : List Param) (rest : List Test) → tests_names (param_tests test params ++ rest) ≡ named_params method params ++ tests_names rest
  names-params [] rest = refl
  names-params (param ∷ params) rest =
      is.1 param.id ((type_tests param.ty ++ param_tests test params) ++ rest)
      ∙ ap (λ tests. (param.id, knowns.Param method) ∷ tests_names tests) (append_assoc (type_tests param.ty) (param_tests test params) rest)
      ∙ ap (λ names. (param.id, knowns.Param method) ∷ names) (names-types (type_mentions param.ty) (param_tests test params ++ rest) ∙ names-params params rest)

  module _ (tag : List ℕ) (known : Knowns) where
    -- the first parameter, its type, and then the others
    pub param-step : (own : List Name) (param : Param) (params : List Param) → tests_fault tag own known (param_tests test (param ∷ params))
        ≡ option_or (test_fault tag own known (test param.id)) (option_or (mentions_fault known (type_mentions param.ty)) (tests_fault tag (own ++ (param.id, knowns.Param method) ∷ []) known (param_tests test params)))
    param-step own param params =
        ap (λ names. option_or (test_fault tag own known (test param.id)) (tests_fault tag names known (type_tests param.ty ++ param_tests test params))) (is.0 own param.id)
        ∙ ap (option_or (test_fault tag own known (test param.id))) (types-then tag (own ++ (param.id, knowns.Param method) ∷ []) known (type_mentions param.ty) (param_tests test params))

    -- the parameters, and then the other tests
    pub params-then : (own : List Name) (params : List Param) (rest : List Test) → tests_fault tag own known (param_tests test params ++ rest)
        ≡ option_or (tests_fault tag own known (param_tests test params)) (tests_fault tag (own ++ named_params method params) known rest)
    params-then own [] rest = ap (λ names. tests_fault tag names known rest) (sym (append-nil own))
    params-then own (param ∷ params) rest =
        let next = own ++ (param.id, knowns.Param method) ∷ [] in
        let own-fault = test_fault tag own known (test param.id) in
        let ty-fault = mentions_fault known (type_mentions param.ty) in
        let params-fault = tests_fault tag next known (param_tests test params) in
        let rest-fault = tests_fault tag (own ++ named_params method (param ∷ params)) known rest in
        ap (λ names. option_or own-fault (tests_fault tag names known ((type_tests param.ty ++ param_tests test params) ++ rest))) (is.0 own param.id)
        ∙ ap (λ tests. option_or own-fault (tests_fault tag next known tests)) (append_assoc (type_tests param.ty) (param_tests test params) rest)
        ∙ ap (option_or own-fault) (types-then tag next known (type_mentions param.ty) (param_tests test params ++ rest)
        ∙ ap (option_or ty-fault) (params-then next params rest
        ∙ ap (λ names. option_or params-fault (tests_fault tag names known rest)) (append_assoc own ((param.id, knowns.Param method) ∷ []) (named_params method params)))
        ∙ sym (or-assoc ty-fault params-fault rest-fault))
        ∙ sym (or-assoc own-fault (option_or ty-fault params-fault) rest-fault)
        ∙ ap (λ o. option_or o rest-fault) (sym (param-step own param params))

    -- ---- the parameters of a list, one after another

    pub step-at : (entities : List Name) (params : List Param) (k : ℕ) (param : Param) → k < length params → param ≡ get_or params k param
        → tests_fault tag (own-at method entities params k) known (param_tests test (drop k params))
        ≡ option_or (test_fault tag (own-at method entities params k) known (test param.id))
        (option_or (mentions_fault known (type_mentions param.ty)) (tests_fault tag (own-at method entities params (k + 1)) known (param_tests test (drop (k + 1) params))))
    step-at entities params k param within is-item =
        let now = own-at method entities params k in
        ap (λ ps. tests_fault tag now known (param_tests test ps)) (drop-item params k param within is-item)
        ∙ param-step now param (drop (k + 1) params)
        ∙ ap (λ names. option_or (test_fault tag now known (test param.id)) (option_or (mentions_fault known (type_mentions param.ty)) (tests_fault tag names known (param_tests test (drop (k + 1) params)))))
        (sym (own-next method entities params k param within is-item))

    pub first-at : (entities : List Name) (params : List Param) → tests_fault tag (own-at method entities params 0) known (param_tests test (drop 0 params)) ≡ tests_fault tag entities known (param_tests test params)
    first-at entities params = ap (λ names. tests_fault tag names known (param_tests test params)) (append-nil entities)

    -- a parameter that is tested, and its type
    module _ (entities : List Name) (params : List Param) (k : ℕ) (param : Param) (within : k < length params) (is-item : param ≡ get_or params k param) where
      abbrev own_fault : Option OpFault
      own_fault = test_fault tag (own-at method entities params k) known (test param.id)

      abbrev ty_fault : Option OpFault
      ty_fault = mentions_fault known (type_mentions param.ty)

      abbrev from_here : Option OpFault
      from_here = tests_fault tag (own-at method entities params k) known (param_tests test (drop k params))

      abbrev after : Option OpFault
      after = tests_fault tag (own-at method entities params (k + 1)) known (param_tests test (drop (k + 1) params))

      pub own-refused : (why : OpFault) → own_fault ≡ Some why → from_here ≡ Some why
      own-refused why own = step-at entities params k param within is-item ∙ ap (λ fault. option_or fault (option_or ty_fault after)) own

      pub type-refused : (why : OpFault) → own_fault ≡ None → ty_fault ≡ Some why → from_here ≡ Some why
      type-refused why own ty =
          step-at entities params k param within is-item ∙ ap (λ fault. option_or fault (option_or ty_fault after)) own ∙ ap (λ fault. option_or fault after) ty

      pub both-passed : own_fault ≡ None → ty_fault ≡ None → after ≡ from_here
      both-passed own ty =
          sym (step-at entities params k param within is-item ∙ ap (λ fault. option_or fault (option_or ty_fault after)) own ∙ ap (λ fault. option_or fault after) ty)
