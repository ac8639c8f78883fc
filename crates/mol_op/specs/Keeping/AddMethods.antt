-- A method, and a constructor, may be added where the operation applies.
use Rattle.std.specs.Prelude.{◌≡◌, ℕ, Bool, true, false, ◌&&◌, ◌||◌, not, List, [], ◌∷◌, ◌++◌, length, Option, None, Some}
use Rattle.std.proofs.Common.{refl, sym, ap, ◌∙◌, true≢false}
use Rattle.std.specs.FinMap.{get}
use Rattle.std.specs.List.{list_all}
use Rattle.std.specs.Cmp.Lexicographic.{pointwise}
use Rattle.std.specs.Str.{bytes_eq}
use Rattle.std.specs.Prelude.{codes}
use Rattle.mol_base.specs.Among.{among}
use Rattle.mol_base.specs.Modifiers.{kept_words, constructor_words, in_order, has_one_access}
use Rattle.mol_base.specs.declared.ident.Id.{Id}
use Rattle.mol_table_rules.specs.Forms.{is_formed}
use Rattle.mol_table_rules.specs.Mentions.{Mention, type_step, type_mentions, body_mentions}
use Rattle.mol_table_rules.specs.Program.{Program, Knowns, same_id}
use Rattle.mol_table_rules.specs.Rules.{IsProgram}
use Rattle.mol_table_rules.specs.TypeForms.{is_void, void_step}
use Rattle.mol_values_types.specs.Words.{are_words, is_declaration}
use Rattle.mol_table_rules.specs.Writes.{AreNew, with_entities}
use Rattle.mol_values_types.specs.declared.iblock.IBody.{IBody}
use Rattle.mol_values_types.specs.declared.itype.IType.{IType}
use Rattle.mol_values_types.specs.declared.itype.IType.TheFolds.{fold-roll-IType}
use Rattle.mol_values_types.specs.declared.itype.IType.TheOpen.{IType-F}
use Rattle.mol_values_types.specs.declared.itype.IType.TheVariants as types
use Rattle.mol_values_types.specs.declared.kind.MethodKind.{MethodKind}
use Rattle.mol_values_types.specs.declared.kind.MethodKind.TheVariants.{Instance, Static, Constructor}
use Rattle.mol_values_types.specs.declared.known.Known.TheVariants as knowns
use Rattle.mol_values_types.specs.declared.value.Value.TheVariants as values
use Rattle.mol_op.specs.Changes.{Name, written}
use Rattle.jav_names.specs.Members.{is_object_method}
use Rattle.mol_op.specs.Kept.{is_constructor, may_be_params, are_formed}
use Rattle.mol_op.specs.Rows.{add_method_tests, add_method_entities, add_constructor_tests, add_constructor_entities, entities_writes, param_tests, block_tests, body_tests}
use Rattle.mol_op.specs.Seen.{named_params}
use Rattle.mol_op.specs.Tests.{makes, condition, tests_fault, tests_names, new_fault, need_fault, mentions_fault}
use Rattle.mol_op.specs.declared.add_constructor.AddConstructor.{AddConstructor}
use Rattle.mol_op.specs.declared.add_method.AddMethod.{AddMethod}
use Rattle.mol_op.specs.declared.conditions.Want.TheVariants as wants
use Rattle.mol_op.specs.Keeping.AddedTwo.{MayAdd, two-may, two-written}
use Rattle.mol_op.specs.ChangeLaws.{none-some, both-none}
use Rattle.mol_op.specs.Laws.{new-is}
use Rattle.mol_op.specs.Keeping.ParamsPass.{params-pass, made-holds}
use Rattle.mol_op.specs.Parts.{makes-param, types-then, inside-only, block-then, params-then, names-params, names-types, names-block, names-inside}
use Rattle.mol_op.specs.RulesKept.{all-more}
use Rattle.mol_op.specs.Keeping.Sets.{and-left, and-right, and-both, class-wanted}

or-false : (a b : Bool) → (a || b) ≡ false → (a ≡ false) × (b ≡ false)
or-false false b e = (refl, e)
or-false true b e = absurd (true≢false e)

append-nil : {A : Type 0} (xs : List A) → xs ++ [] ≡ xs
append-nil [] = refl
append-nil (x ∷ xs) = ap (λ ys. x ∷ ys) (append-nil xs)

-- ---- forms

no-constructor : not true ≡ true → ⊥
no-constructor e = true≢false (sym e)

kind-name : (kind : MethodKind) (name : List ℕ) → not (is_constructor kind) ≡ true → is_formed (knowns.Method Instance) (values.Name name) ≡ true → is_formed (knowns.Method kind) (values.Name name) ≡ true
kind-name Instance name is e = e
kind-name Static name is e = e
kind-name Constructor name is e = absurd (no-constructor is)

kind-result : (kind : MethodKind) (ty : IType) → not (is_constructor kind) ≡ true → is_formed (knowns.Method Instance) (values.Result ty) ≡ true → is_formed (knowns.Method kind) (values.Result ty) ≡ true
kind-result Instance ty is e = e
kind-result Static ty is e = e
kind-result Constructor ty is e = absurd (no-constructor is)

kind-fixed : (kind : MethodKind) (fixed : Bool) → not (is_constructor kind) ≡ true → is_formed (knowns.Method kind) (values.Fixed fixed) ≡ true
kind-fixed Instance fixed is = refl
kind-fixed Static fixed is = refl
kind-fixed Constructor fixed is = absurd (no-constructor is)

-- a new declaration has a block where its kind asks for one
declared-new : (tag : List ℕ) (own : List Name) (known : Knowns) (decl : Id) (body : Option IBody) (kind : MethodKind) (words : List (List ℕ)) → not (is_constructor kind) ≡ true
    → are_words kept_words words ≡ true → tests_fault tag own known (block_tests body kind decl) ≡ None → is_declaration kind words body ≡ true
declared-new tag own known decl (Some body) Instance words is e block = e
declared-new tag own known decl (Some body) Static words is e block = e
declared-new tag own known decl None Instance words is e block = e
declared-new tag own known decl None Static words is e block = absurd (none-some _ (sym block))
declared-new tag own known decl body Constructor words is e block = absurd (no-constructor is)

declared-constructor : (tag : List ℕ) (own : List Name) (known : Knowns) (decl : Id) (body : Option IBody) (words : List (List ℕ)) → are_words constructor_words words ≡ true
    → tests_fault tag own known (block_tests body Constructor decl) ≡ None → is_declaration Constructor words body ≡ true
declared-constructor tag own known decl (Some body) words e block = e
declared-constructor tag own known decl None words e block = absurd (none-some _ (sym block))

-- what a constructor may have, a method may
or-more : (o p q r f : Bool) → (p || (q || (r || false))) ≡ true → (o || (p || (q || (r || (f || false))))) ≡ true
or-more true p q r f e = refl
or-more false true q r f e = refl
or-more false false true r f e = refl
or-more false false false true f e = refl
or-more false false false false f e = absurd (true≢false (sym e))

constructor-kept : (words : List (List ℕ)) → are_words constructor_words words ≡ true → are_words kept_words words ≡ true
constructor-kept words e =
    let order = pointwise bytes_eq (in_order words) words in
    let access = has_one_access words in
    let both = and-left (list_all (among constructor_words) words && order) access e in
    and-both (list_all (among kept_words) words && order) access
    (and-both (list_all (among kept_words) words) order
    (all-more (among constructor_words) (among kept_words)
    (λ word h. or-more (bytes_eq word (codes "@Override")) (bytes_eq word (codes "public")) (bytes_eq word (codes "protected")) (bytes_eq word (codes "private")) (bytes_eq word (codes "final")) h)
    words (and-left (list_all (among constructor_words) words) order both))
    (and-right (list_all (among constructor_words) words) order both))
    (and-right (list_all (among constructor_words) words && order) access e)

-- `void` mentions nothing
void-mentions : type_mentions types.Void ≡ []
void-mentions = ap type_mentions (sym types.rolls-Void) ∙ fold-roll-IType (List Mention) type_step IType-F.Void

void-is : is_void types.Void ≡ true
void-is = ap is_void (sym types.rolls-Void) ∙ fold-roll-IType Bool void_step IType-F.Void

-- ---- add-method

module _ (program : Program) (rules : IsProgram program) (op : AddMethod) (tag : List ℕ) (holds : condition (add_method_tests op) tag program.known ≡ None) where
  abbrev own : List Name
  own = (op.method, knowns.Method op.kind) ∷ (op.decl, knowns.Decl op.method) ∷ []

  abbrev all : List Name
  all = (op.method, knowns.Method op.kind) ∷ (op.decl, knowns.Decl op.method) ∷ named_params op.method op.params

  pub method-names : tests_names (add_method_tests op) ≡ all
  method-names =
      ap (λ names. (op.method, knowns.Method op.kind) ∷ (op.decl, knowns.Decl op.method) ∷ names)
      (names-types (type_mentions op.result) (param_tests (makes (knowns.Param op.method)) op.params ++ (block_tests op.body op.kind op.decl ++ body_tests op.body))
      ∙ names-params op.method (makes (knowns.Param op.method)) (makes-param op.method) op.params (block_tests op.body op.kind op.decl ++ body_tests op.body)
      ∙ ap (λ names. named_params op.method op.params ++ names) (names-block op.body op.kind op.decl (body_tests op.body) ∙ names-inside (body_mentions op.body))
      ∙ append-nil (named_params op.method op.params))

  method-may-add : MayAdd program op.method op.decl op.owner op.name op.result op.params op.kind (is_object_method op.name (length op.params)) op.words op.notes op.body
  method-may-add =
      let known = program.known in
      let test = makes (knowns.Param op.method) in
      let blocks = block_tests op.body op.kind op.decl in
      let bodies = body_tests op.body in
      let first = both-none (new_fault tag false op.method (get known op.method)) _ holds in
      let second = both-none (new_fault tag (same_id op.decl op.method || false) op.decl (get known op.decl)) _ first.1 in
      let third = both-none (need_fault wants.Class op.owner (get known op.owner)) _ second.1 in
      let fourth = both-none (mentions_fault known (type_mentions op.result)) _ (sym (types-then tag own known (type_mentions op.result) (param_tests test op.params ++ (blocks ++ bodies))) ∙ third.1) in
      let fifth = both-none (tests_fault tag own known (param_tests test op.params)) _ (sym (params-then op.method test (makes-param op.method) tag known own op.params (blocks ++ bodies)) ∙ fourth.1) in
      let sixth = both-none (tests_fault tag all known blocks) _ (sym (block-then tag all known op.body op.kind op.decl bodies) ∙ fifth.1) in
      let new = new-is tag false op.method (get known op.method) first.0 in
      let new-decl = new-is tag (same_id op.decl op.method || false) op.decl (get known op.decl) second.0 in
      let pass = params-pass tag known op.method test (makes-param op.method) (made-holds tag known op.method) own op.params fifth.0 in
      let formed = and-right (not (is_constructor op.kind) && may_be_params op.params) (are_formed (knowns.Method Instance) (values.Name op.name ∷ values.Result op.result ∷ values.Words op.words ∷ values.Notes op.notes ∷ values.Body op.body ∷ [])) op.formed in
      let both = and-left (not (is_constructor op.kind) && may_be_params op.params) (are_formed (knowns.Method Instance) (values.Name op.name ∷ values.Result op.result ∷ values.Words op.words ∷ values.Notes op.notes ∷ values.Body op.body ∷ [])) op.formed in
      let ordinary = and-left (not (is_constructor op.kind)) (may_be_params op.params) both in
      let after-name = and-right (is_formed (knowns.Method Instance) (values.Name op.name)) _ formed in
      let after-result = and-right (is_formed (knowns.Method Instance) (values.Result op.result)) _ after-name in
      let after-words = and-right (is_formed (knowns.Method Instance) (values.Words op.words)) _ after-result in
      let after-notes = and-right (is_formed (knowns.Method Instance) (values.Notes op.notes)) _ after-words in
      record {
        method_new = new.0;
        decl_new = new-decl.0;
        apart = (or-false (same_id op.decl op.method) false new-decl.1.1).0;
        owner_class = class-wanted op.owner (get known op.owner) third.0;
        pass = pass.0;
        differ_all = pass.1;
        may = and-right (not (is_constructor op.kind)) (may_be_params op.params) both;
        name_formed = kind-name op.kind op.name ordinary (and-left (is_formed (knowns.Method Instance) (values.Name op.name)) _ formed);
        result_formed = kind-result op.kind op.result ordinary (and-left (is_formed (knowns.Method Instance) (values.Result op.result)) _ after-name);
        fixed_formed = kind-fixed op.kind (is_object_method op.name (length op.params)) ordinary;
        words_formed = and-left (is_formed (knowns.Method Instance) (values.Words op.words)) _ after-result;
        notes_formed = and-left (is_formed (knowns.Method Instance) (values.Notes op.notes)) _ after-words;
        body_formed = and-left (is_formed (knowns.Method Instance) (values.Body op.body)) _ after-notes;
        result_right = fourth.0;
        body_right = sym (inside-only tag all known (body_mentions op.body)) ∙ sixth.1;
        declared = declared-new tag all known op.decl op.body op.kind op.words.texts ordinary (and-left (is_formed (knowns.Method Instance) (values.Words op.words)) _ after-result) sixth.0;
      }

  pub method-may : AreNew program (add_method_entities op)
  method-may = two-may program rules op.method op.decl op.owner op.name op.result op.params op.kind (is_object_method op.name (length op.params)) op.words op.notes op.body method-may-add

  pub method-written : with_entities program (add_method_entities op) ≡ written program (entities_writes (add_method_entities op)) (tests_names (add_method_tests op))
  method-written =
      two-written program rules op.method op.decl op.owner op.name op.result op.params op.kind (is_object_method op.name (length op.params)) op.words op.notes op.body method-may-add
      ∙ ap (written program (entities_writes (add_method_entities op))) (sym method-names)

-- ---- add-constructor

module _ (program : Program) (rules : IsProgram program) (op : AddConstructor) (tag : List ℕ) (holds : condition (add_constructor_tests op) tag program.known ≡ None) where
  abbrev own-constructor : List Name
  own-constructor = (op.method, knowns.Method Constructor) ∷ (op.decl, knowns.Decl op.method) ∷ []

  abbrev all-constructor : List Name
  all-constructor = (op.method, knowns.Method Constructor) ∷ (op.decl, knowns.Decl op.method) ∷ named_params op.method op.params

  pub constructor-names : tests_names (add_constructor_tests op) ≡ all-constructor
  constructor-names =
      ap (λ names. (op.method, knowns.Method Constructor) ∷ (op.decl, knowns.Decl op.method) ∷ names)
      (names-params op.method (makes (knowns.Param op.method)) (makes-param op.method) op.params (block_tests op.body Constructor op.decl ++ body_tests op.body)
      ∙ ap (λ names. named_params op.method op.params ++ names) (names-block op.body Constructor op.decl (body_tests op.body) ∙ names-inside (body_mentions op.body))
      ∙ append-nil (named_params op.method op.params))

  constructor-may-add : MayAdd program op.method op.decl op.owner [] types.Void op.params Constructor false op.words op.notes op.body
  constructor-may-add =
      let known = program.known in
      let test = makes (knowns.Param op.method) in
      let blocks = block_tests op.body Constructor op.decl in
      let bodies = body_tests op.body in
      let first = both-none (new_fault tag false op.method (get known op.method)) _ holds in
      let second = both-none (new_fault tag (same_id op.decl op.method || false) op.decl (get known op.decl)) _ first.1 in
      let third = both-none (need_fault wants.Class op.owner (get known op.owner)) _ second.1 in
      let fifth = both-none (tests_fault tag own-constructor known (param_tests test op.params)) _ (sym (params-then op.method test (makes-param op.method) tag known own-constructor op.params (blocks ++ bodies)) ∙ third.1) in
      let sixth = both-none (tests_fault tag all-constructor known blocks) _ (sym (block-then tag all-constructor known op.body Constructor op.decl bodies) ∙ fifth.1) in
      let new = new-is tag false op.method (get known op.method) first.0 in
      let new-decl = new-is tag (same_id op.decl op.method || false) op.decl (get known op.decl) second.0 in
      let pass = params-pass tag known op.method test (makes-param op.method) (made-holds tag known op.method) own-constructor op.params fifth.0 in
      let both = and-left (may_be_params op.params && are_words constructor_words op.words.texts) (are_formed (knowns.Decl op.method) (values.Notes op.notes ∷ values.Body op.body ∷ [])) op.formed in
      let formed = and-right (may_be_params op.params && are_words constructor_words op.words.texts) (are_formed (knowns.Decl op.method) (values.Notes op.notes ∷ values.Body op.body ∷ [])) op.formed in
      let words = and-right (may_be_params op.params) (are_words constructor_words op.words.texts) both in
      record {
        method_new = new.0;
        decl_new = new-decl.0;
        apart = (or-false (same_id op.decl op.method) false new-decl.1.1).0;
        owner_class = class-wanted op.owner (get known op.owner) third.0;
        pass = pass.0;
        differ_all = pass.1;
        may = and-left (may_be_params op.params) (are_words constructor_words op.words.texts) both;
        name_formed = refl;
        result_formed = void-is;
        fixed_formed = refl;
        words_formed = constructor-kept op.words.texts words;
        notes_formed = and-left (is_formed (knowns.Decl op.method) (values.Notes op.notes)) _ formed;
        body_formed = and-left (is_formed (knowns.Decl op.method) (values.Body op.body)) _ (and-right (is_formed (knowns.Decl op.method) (values.Notes op.notes)) _ formed);
        result_right = ap (mentions_fault known) void-mentions;
        body_right = sym (inside-only tag all-constructor known (body_mentions op.body)) ∙ sixth.1;
        declared = declared-constructor tag all-constructor known op.decl op.body op.words.texts words sixth.0;
      }

  pub constructor-may : AreNew program (add_constructor_entities op)
  constructor-may = two-may program rules op.method op.decl op.owner [] types.Void op.params Constructor false op.words op.notes op.body constructor-may-add

  pub constructor-written : with_entities program (add_constructor_entities op) ≡ written program (entities_writes (add_constructor_entities op)) (tests_names (add_constructor_tests op))
  constructor-written =
      two-written program rules op.method op.decl op.owner [] types.Void op.params Constructor false op.words op.notes op.body constructor-may-add
      ∙ ap (written program (entities_writes (add_constructor_entities op))) (sym constructor-names)
