-- Values that have the form of their slots, and such that have none.
use Rattle.std.specs.Prelude.{◌≡◌, ℕ, true, false, ◌&&◌, ◌||◌, not, nat_le, List, [], ◌∷◌, map, length, codes, None, Some}
use Rattle.std.proofs.Common.{refl, ap, ◌∙◌}
use Rattle.std.specs.List.{list_all}
use Rattle.mol_base.specs.declared.ident.Id.{Id}
use Rattle.mol_table_rules.specs.Forms.{are_params, differ, is_formed, is_param}
use Rattle.mol_values_types.specs.TokenForms.{is_filler, is_name}
use Rattle.mol_table_rules.specs.TypeForms.{is_type}
use Rattle.mol_values_types.specs.declared.itype.IType.{IType}
use Rattle.mol_values_types.specs.declared.itype.IType.TheVariants as types
use Rattle.mol_values_types.specs.declared.kind.MethodKind.TheVariants.{Instance, Constructor}
use Rattle.mol_values_types.specs.declared.known.Known.TheVariants as knowns
use Rattle.mol_values_types.specs.declared.param.Param.{Param}
use Rattle.mol_values_types.specs.declared.value.Value.TheVariants as values
use Rattle.mol_table_rules.proofs.Living.{same_id-own}
use Rattle.test_table_rules.proofs.Given.{base, never, never-then, param}
use Rattle.test_table_rules.proofs.TokenForms.{a_comment, no_comment, no_dotted, no_filler, no_name}
use Rattle.test_table_rules.proofs.TypeForms.{class_of_the_program, int_result, int_type, no_class, no_void, no_void_int, void_result}

-- ---- names, packages and comments

empty_package : is_formed knowns.Class (values.Package []) ≡ false
empty_package = no_dotted

nameless_method : is_formed (knowns.Method Instance) (values.Name []) ≡ false
nameless_method = no_name

nameless_constructor : is_formed (knowns.Method Constructor) (values.Name []) ≡ true
nameless_constructor = refl

no_comment_of_a_field : is_formed knowns.Field (values.Notes (record { front = [] ∷ []; head = []; tail = [] })) ≡ false
no_comment_of_a_field = ap (λ b. ((b && true) && true) && true) no_comment

comment_of_a_field : is_formed knowns.Field (values.Notes (record { front = codes "//a" ∷ []; head = []; tail = [] })) ≡ true
comment_of_a_field = ap (λ b. ((b && true) && true) && true) a_comment

-- comments at the head and at the tail of braces are a class's
comment_at_the_tail_of_a_field : is_formed knowns.Field (values.Notes (record { front = []; head = []; tail = codes "//a" ∷ [] })) ≡ false
comment_at_the_tail_of_a_field = refl

comments_in_a_class : is_formed knowns.Class (values.Notes (record { front = []; head = codes "//a" ∷ []; tail = codes "//a" ∷ [] })) ≡ true
comments_in_a_class = λ i. (true && (a_comment i && true)) && (a_comment i && true)

-- ---- modifiers

modifiers_of_a_class : is_formed knowns.Class (values.Words (record { texts = codes "public" ∷ codes "final" ∷ [] })) ≡ true
modifiers_of_a_class = refl

override_of_a_field : is_formed knowns.Field (values.Words (record { texts = codes "@Override" ∷ [] })) ≡ false
override_of_a_field = refl

modifiers_of_a_field : is_formed knowns.Field (values.Words (record { texts = codes "private" ∷ codes "static" ∷ [] })) ≡ true
modifiers_of_a_field = refl

-- `static` is the kind of its method
static_declaration : is_formed (knowns.Decl (base 1)) (values.Words (record { texts = codes "static" ∷ [] })) ≡ false
static_declaration = refl

-- ---- a constructor is never fixed

free_constructor : is_formed (knowns.Method Constructor) (values.Fixed false) ≡ true
free_constructor = refl

-- ---- `void` is a result alone, and that of each constructor; a superclass is a class

void_field : is_formed knowns.Field (values.Value types.Void None) ≡ false
void_field = ap (λ b. b && true) no_void

int_field : is_formed knowns.Field (values.Value types.Int None) ≡ true
int_field = ap (λ b. b && true) int_type

int_method : is_formed (knowns.Method Instance) (values.Result types.Int) ≡ true
int_method = int_result

int_constructor : is_formed (knowns.Method Constructor) (values.Result types.Int) ≡ false
int_constructor = no_void_int

void_constructor : is_formed (knowns.Method Constructor) (values.Result types.Void) ≡ true
void_constructor = void_result

int_superclass : is_formed knowns.Class (values.Super (Some types.Int)) ≡ false
int_superclass = no_class

superclass_of_the_program : (id : Id) → is_formed knowns.Class (values.Super (Some (types.Class id))) ≡ true
superclass_of_the_program id = class_of_the_program id

-- ---- a parameter has a name, a type and a filler; a list has at most 255, and none twice

nameless_parameter : (id : Id) (ty : IType) (filler : List ℕ) → is_param (param id [] ty filler) ≡ false
nameless_parameter id ty filler = ap (λ b. (b && is_type ty) && is_filler filler) no_name

void_parameter : (id : Id) (name filler : List ℕ) → is_param (param id name types.Void filler) ≡ false
void_parameter id name filler =
    ap (λ b. (is_name name && b) && is_filler filler) no_void ∙ never-then (is_name name) (is_filler filler)

parameter_without_filler : (id : Id) (name : List ℕ) (ty : IType) → is_param (param id name ty []) ≡ false
parameter_without_filler id name ty =
    ap (λ b. (is_name name && is_type ty) && b) no_filler ∙ never (is_name name && is_type ty)

too_many_parameters : (params : List Param) → nat_le (length params) 255 ≡ false → are_params params ≡ false
too_many_parameters params more =
    ap (λ b. (list_all is_param params && b) && differ (map (λ (param : Param). param.id) params)) more
    ∙ never-then (list_all is_param params) _

twice_the_same : (first : Param) → are_params (first ∷ first ∷ []) ≡ false
twice_the_same first =
    ap (λ b. (list_all is_param (first ∷ first ∷ []) && true) && b) (ap (λ b. not (b || false) && true) (same_id-own first.id))
    ∙ never (list_all is_param (first ∷ first ∷ []) && true)
