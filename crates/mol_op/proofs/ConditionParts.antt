-- The conditions of the operations whose values are trees, part by part.
use Rattle.std.specs.Prelude.{◌≡◌, ℕ, Bool, true, false, ◌||◌, List, [], ◌∷◌, ◌++◌, Option, None, Some, if◌then◌else◌}
use Rattle.std.proofs.Common.{refl, sym, ap, ◌∙◌}
use Rattle.std.specs.FinMap.{get}
use Rattle.std.specs.Option.{option_or}
use Rattle.mol_base.specs.declared.ident.Id.{Id}
use Rattle.mol_table_rules.specs.Mentions.{type_mentions, maybe_mentions, body_mentions, parent_mentions}
use Rattle.mol_table_rules.specs.Program.{Knowns, same_id}
use Rattle.mol_table_rules.specs.TypeForms.{is_void}
use Rattle.mol_values_types.proofs.Ties.{id_ties}
use Rattle.mol_values_types.specs.Order.{id_eq}
use Rattle.mol_values_types.specs.declared.iblock.IBody.{IBody}
use Rattle.mol_values_types.specs.declared.kind.MethodKind.{MethodKind}
use Rattle.mol_values_types.specs.declared.kind.MethodKind.TheVariants.{Constructor}
use Rattle.mol_values_types.specs.declared.known.Known.TheVariants as knowns
use Rattle.mol_values_types.specs.declared.param.Param.{Param}
use Rattle.mol_op.specs.Changes.{Name, know_all}
use Rattle.mol_op.specs.Rows.{add_class_tests, add_field_tests, add_method_tests, add_override_tests, add_constructor_tests, set_body_tests, set_value_tests, change_signature_tests, type_tests, param_tests, block_tests, known_block_tests, body_tests, value_tests, new_method_names, new_method_tests, new_method_fault}
use Rattle.mol_op.specs.Seen.{named_params}
use Rattle.mol_op.specs.Tests.{makes, lists, condition, tests_fault, new_fault, need_fault, mentions_fault}
use Rattle.mol_op.specs.declared.add_class.AddClass.{AddClass}
use Rattle.mol_op.specs.declared.add_constructor.AddConstructor.{AddConstructor}
use Rattle.mol_op.specs.declared.add_field.AddField.{AddField}
use Rattle.mol_op.specs.declared.add_method.AddMethod.{AddMethod}
use Rattle.mol_op.specs.declared.add_override.AddOverride.{AddOverride}
use Rattle.mol_op.specs.declared.change_signature.ChangeSignature.{ChangeSignature}
use Rattle.mol_op.specs.declared.set_body.SetBody.{SetBody}
use Rattle.mol_op.specs.declared.set_value.SetValue.{SetValue}
use Rattle.mol_op.specs.declared.conditions.Want.TheVariants as wants
use Rattle.mol_op.specs.Parts.{makes-param, types-then, types-only, inside-only, block-then, known-block-then, params-then}

-- whether a declaration has its method's identity
named-is : (decl method : Id) → (same_id decl method || false) ≡ id_eq decl method
named-is decl method = by (same_id decl method) ∙ sym (id_ties decl method) where
  by : (b : Bool) → (b || false) ≡ b
  by true = refl
  by false = refl

pub add_class_parts : (op : AddClass) (tag : List ℕ) (known : Knowns) → condition (add_class_tests op) tag known
    ≡ option_or (new_fault tag false op.class (get known op.class)) (mentions_fault known (parent_mentions op.parent))
add_class_parts op tag known = ap (option_or (new_fault tag false op.class (get known op.class))) (types-only tag ((op.class, knowns.Class) ∷ []) known (parent_mentions op.parent))

pub add_field_parts : (op : AddField) (tag : List ℕ) (known : Knowns) → condition (add_field_tests op) tag known
    ≡ option_or (new_fault tag false op.field (get known op.field)) (option_or (need_fault wants.Class op.owner (get known op.owner))
    (option_or (mentions_fault known (type_mentions op.ty)) (mentions_fault (know_all known ((op.field, knowns.Field) ∷ [])) (maybe_mentions op.value))))
add_field_parts op tag known =
    ap (λ o. option_or (new_fault tag false op.field (get known op.field)) (option_or (need_fault wants.Class op.owner (get known op.owner)) o))
    (types-then tag ((op.field, knowns.Field) ∷ []) known (type_mentions op.ty) (value_tests op.value)
    ∙ ap (option_or (mentions_fault known (type_mentions op.ty))) (inside-only tag ((op.field, knowns.Field) ∷ []) known (maybe_mentions op.value)))

pub add_override_parts : (op : AddOverride) (tag : List ℕ) (known : Knowns) → condition (add_override_tests op) tag known
    ≡ option_or (new_fault tag false op.decl (get known op.decl)) (option_or (need_fault wants.Overridden op.method (get known op.method))
    (option_or (need_fault wants.Class op.owner (get known op.owner)) (mentions_fault (know_all known ((op.decl, knowns.Decl op.method) ∷ [])) (body_mentions op.body))))
add_override_parts op tag known =
    ap (λ o. option_or (new_fault tag false op.decl (get known op.decl)) (option_or (need_fault wants.Overridden op.method (get known op.method)) (option_or (need_fault wants.Class op.owner (get known op.owner)) o)))
    (inside-only tag ((op.decl, knowns.Decl op.method) ∷ []) known (body_mentions op.body))

pub new_method_parts : (method decl : Id) (kind : MethodKind) (params : List Param) (body : Option IBody) (tag : List ℕ) (known : Knowns)
    → new_method_fault tag known method decl kind params body
    ≡ option_or (tests_fault tag (new_method_names method decl kind) known (param_tests (makes (knowns.Param method)) params))
    (option_or (tests_fault tag (new_method_names method decl kind ++ named_params method params) known (block_tests body kind decl))
    (mentions_fault (know_all known (new_method_names method decl kind ++ named_params method params)) (body_mentions body)))
new_method_parts method decl kind params body tag known =
    let own : List Name = new_method_names method decl kind in
    let all : List Name = own ++ named_params method params in
    let test = makes (knowns.Param method) in
    let blocks = block_tests body kind decl in
    params-then method test (makes-param method) tag known own params (blocks ++ body_tests body)
    ∙ ap (option_or (tests_fault tag own known (param_tests test params))) (block-then tag all known body kind decl (body_tests body)
    ∙ ap (option_or (tests_fault tag all known blocks)) (inside-only tag all known (body_mentions body)))

pub add_method_parts : (op : AddMethod) (tag : List ℕ) (known : Knowns) → condition (add_method_tests op) tag known
    ≡ option_or (new_fault tag false op.method (get known op.method)) (option_or (new_fault tag (id_eq op.decl op.method) op.decl (get known op.decl))
    (option_or (need_fault wants.Class op.owner (get known op.owner)) (option_or (mentions_fault known (type_mentions op.result))
    (new_method_fault tag known op.method op.decl op.kind op.params op.body))))
add_method_parts op tag known =
    let own : List Name = new_method_names op.method op.decl op.kind in
    let rest = new_method_tests op.method op.decl op.kind op.params op.body in
    ap (λ b. option_or (new_fault tag false op.method (get known op.method)) (option_or (new_fault tag b op.decl (get known op.decl)) (option_or (need_fault wants.Class op.owner (get known op.owner))
    (tests_fault tag own known (type_tests op.result ++ rest))))) (named-is op.decl op.method)
    ∙ ap (λ o. option_or (new_fault tag false op.method (get known op.method)) (option_or (new_fault tag (id_eq op.decl op.method) op.decl (get known op.decl)) (option_or (need_fault wants.Class op.owner (get known op.owner)) o)))
    (types-then tag own known (type_mentions op.result) rest)

pub add_constructor_parts : (op : AddConstructor) (tag : List ℕ) (known : Knowns) → condition (add_constructor_tests op) tag known
    ≡ option_or (new_fault tag false op.method (get known op.method)) (option_or (new_fault tag (id_eq op.decl op.method) op.decl (get known op.decl))
    (option_or (need_fault wants.Class op.owner (get known op.owner))
    (new_method_fault tag known op.method op.decl Constructor op.params op.body)))
add_constructor_parts op tag known =
    ap (λ b. option_or (new_fault tag false op.method (get known op.method)) (option_or (new_fault tag b op.decl (get known op.decl)) (option_or (need_fault wants.Class op.owner (get known op.owner))
    (new_method_fault tag known op.method op.decl Constructor op.params op.body)))) (named-is op.decl op.method)

-- whether there is a block does not ask for the tag
known-block-same : (tag : List ℕ) (known : Knowns) (body : Option IBody) (decl : Id) → tests_fault tag [] known (known_block_tests body decl) ≡ tests_fault [] [] known (known_block_tests body decl)
known-block-same tag known (Some body) decl = refl
known-block-same tag known None decl = refl

pub set_body_parts : (op : SetBody) (tag : List ℕ) (known : Knowns) → condition (set_body_tests op) tag known
    ≡ option_or (need_fault wants.Decl op.decl (get known op.decl)) (option_or (tests_fault [] [] known (known_block_tests op.body op.decl)) (mentions_fault known (body_mentions op.body)))
set_body_parts op tag known =
    ap (option_or (need_fault wants.Decl op.decl (get known op.decl))) (known-block-then tag [] known op.body op.decl _
    ∙ (λ i. option_or (known-block-same tag known op.body op.decl i) (types-only tag [] known (body_mentions op.body) i)))

pub set_value_parts : (op : SetValue) (tag : List ℕ) (known : Knowns) → condition (set_value_tests op) tag known
    ≡ option_or (need_fault wants.Field op.field (get known op.field)) (option_or (mentions_fault known (type_mentions op.ty)) (mentions_fault known (maybe_mentions op.value)))
set_value_parts op tag known =
    ap (option_or (need_fault wants.Field op.field (get known op.field))) (types-then tag [] known (type_mentions op.ty) _
    ∙ ap (option_or (mentions_fault known (type_mentions op.ty))) (types-only tag [] known (maybe_mentions op.value)))

pub change_signature_parts : (op : ChangeSignature) (tag : List ℕ) (known : Knowns) → condition (change_signature_tests op) tag known
    ≡ option_or (need_fault (if is_void op.result then wants.Method else wants.Called) op.method (get known op.method))
    (option_or (mentions_fault known (type_mentions op.result)) (tests_fault tag [] known (param_tests (lists op.method) op.params)))
change_signature_parts op tag known =
    ap (option_or (need_fault (if is_void op.result then wants.Method else wants.Called) op.method (get known op.method)))
    (types-then tag [] known (type_mentions op.result) (param_tests (lists op.method) op.params))
