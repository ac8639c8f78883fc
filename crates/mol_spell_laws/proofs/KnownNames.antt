-- What the rules of programs say of the names that are printed.
use Rattle.std.proofs.Common.{◌≡◌, Bool, true, false, cond, List, [], ◌∷◌, Option, Some, None, refl, sym, ◌∙◌, ap, subst, true≢false}
use Rattle.std.specs.Prelude.{find, is_some}
use Rattle.std.specs.FinMap.{get, entries}
use Rattle.std.specs.List.{list_all}
use Rattle.std.specs.Option.{option_and_then}
use Rattle.std.proofs.lemmas.Bool.{and_parts}
use Rattle.mol_base.specs.declared.ident.Id.{Id}
use Rattle.jav_tree.specs.TokenTexts.{is_name, is_dotted_name}
use Rattle.mol_resolve_rules.specs.StaticTypes.{present_param, class_of_only_declaration}
use Rattle.mol_spell_rules.specs.Writers.{Importable, program_class, outside_import, full_of, simple_of}
use Rattle.mol_table_rules.proofs.TidyRules.{params-formed}
use Rattle.mol_table_rules.specs.Forms.{is_param, has_form}
use Rattle.mol_table_rules.specs.Life.{is_decl_of}
use Rattle.mol_table_rules.specs.Mentions.{a_class, a_field, a_called_method, a_static_method, a_constructor}
use Rattle.mol_table_rules.specs.Program.{Program, same_id, value_at, package_in, package_at, name_in, name_at, owner_in, owner_at, params_at, method_of_param}
use Rattle.mol_table_rules.specs.Rules.{IsProgram, fills}
use Rattle.mol_values_types.specs.Slots.{has_slot}
use Rattle.mol_values_types.specs.declared.cell.Slot.{Slot}
use Rattle.mol_values_types.specs.declared.cell.Slot.TheVariants as slots
use Rattle.mol_values_types.specs.declared.kind.MethodKind.TheVariants.{Instance, Static, Constructor}
use Rattle.mol_values_types.specs.declared.known.Known.{Known}
use Rattle.mol_values_types.specs.declared.known.Known.TheVariants as knowns
use Rattle.mol_values_types.specs.declared.param.Param.{Param}
use Rattle.mol_values_types.specs.declared.value.Value.{Value}
use Rattle.mol_values_types.specs.declared.value.Value.TheVariants as values
use Rattle.mol_spell_laws.proofs.Names.{name-dotted, dotted-behind, simple-name-is}

-- ---- what is known as

pub class-fills : (owner : Id) (known : Option Known) → fills owner a_class known ≡ true → known ≡ Some knowns.Class
class-fills owner None h = absurd (true≢false (sym h))
class-fills owner (Some knowns.Class) h = refl
class-fills owner (Some (knowns.Method Instance)) h = absurd (true≢false (sym h))
class-fills owner (Some (knowns.Method Static)) h = absurd (true≢false (sym h))
class-fills owner (Some (knowns.Method Constructor)) h = absurd (true≢false (sym h))
class-fills owner (Some (knowns.Decl method)) h = absurd (true≢false (sym h))
class-fills owner (Some knowns.Field) h = absurd (true≢false (sym h))
class-fills owner (Some (knowns.Param method)) h = absurd (true≢false (sym h))

pub field-fills : (owner : Id) (known : Option Known) → fills owner a_field known ≡ true → known ≡ Some knowns.Field
field-fills owner None h = absurd (true≢false (sym h))
field-fills owner (Some knowns.Class) h = absurd (true≢false (sym h))
field-fills owner (Some (knowns.Method Instance)) h = absurd (true≢false (sym h))
field-fills owner (Some (knowns.Method Static)) h = absurd (true≢false (sym h))
field-fills owner (Some (knowns.Method Constructor)) h = absurd (true≢false (sym h))
field-fills owner (Some (knowns.Decl method)) h = absurd (true≢false (sym h))
field-fills owner (Some knowns.Field) h = refl
field-fills owner (Some (knowns.Param method)) h = absurd (true≢false (sym h))

pub static-fills : (owner : Id) (known : Option Known) → fills owner a_static_method known ≡ true → known ≡ Some (knowns.Method Static)
static-fills owner None h = absurd (true≢false (sym h))
static-fills owner (Some knowns.Class) h = absurd (true≢false (sym h))
static-fills owner (Some (knowns.Method Instance)) h = absurd (true≢false (sym h))
static-fills owner (Some (knowns.Method Static)) h = refl
static-fills owner (Some (knowns.Method Constructor)) h = absurd (true≢false (sym h))
static-fills owner (Some (knowns.Decl method)) h = absurd (true≢false (sym h))
static-fills owner (Some knowns.Field) h = absurd (true≢false (sym h))
static-fills owner (Some (knowns.Param method)) h = absurd (true≢false (sym h))

pub constructor-fills : (owner : Id) (known : Option Known) → fills owner a_constructor known ≡ true
    → known ≡ Some (knowns.Method Constructor)
constructor-fills owner None h = absurd (true≢false (sym h))
constructor-fills owner (Some knowns.Class) h = absurd (true≢false (sym h))
constructor-fills owner (Some (knowns.Method Instance)) h = absurd (true≢false (sym h))
constructor-fills owner (Some (knowns.Method Static)) h = absurd (true≢false (sym h))
constructor-fills owner (Some (knowns.Method Constructor)) h = refl
constructor-fills owner (Some (knowns.Decl method)) h = absurd (true≢false (sym h))
constructor-fills owner (Some knowns.Field) h = absurd (true≢false (sym h))
constructor-fills owner (Some (knowns.Param method)) h = absurd (true≢false (sym h))

-- a method that is no constructor
pub data IsCalled : Option Known → Type 0 where
  instance : IsCalled (Some (knowns.Method Instance))
  static : IsCalled (Some (knowns.Method Static))

pub called-fills : (owner : Id) (known : Option Known) → fills owner a_called_method known ≡ true → IsCalled known
called-fills owner (Some (knowns.Method Instance)) h = instance
called-fills owner (Some (knowns.Method Static)) h = static
called-fills owner None h = absurd (true≢false (sym h))
called-fills owner (Some knowns.Class) h = absurd (true≢false (sym h))
called-fills owner (Some (knowns.Method Constructor)) h = absurd (true≢false (sym h))
called-fills owner (Some (knowns.Decl method)) h = absurd (true≢false (sym h))
called-fills owner (Some knowns.Field) h = absurd (true≢false (sym h))
called-fills owner (Some (knowns.Param method)) h = absurd (true≢false (sym h))

-- ---- what a value is that has the form of a slot

class-name-in : (value : Value) → has_form knowns.Class slots.Name value ≡ true → is_name (name_in (Some value)) ≡ true
class-name-in (values.Name name) h = h
class-name-in (values.Live x) h = absurd (true≢false (sym h))
class-name-in (values.Package x) h = absurd (true≢false (sym h))
class-name-in (values.Owner x) h = absurd (true≢false (sym h))
class-name-in (values.Method x) h = absurd (true≢false (sym h))
class-name-in (values.Super x) h = absurd (true≢false (sym h))
class-name-in (values.Result x) h = absurd (true≢false (sym h))
class-name-in (values.Params x) h = absurd (true≢false (sym h))
class-name-in (values.Kind x) h = absurd (true≢false (sym h))
class-name-in (values.Fixed x) h = absurd (true≢false (sym h))
class-name-in (values.Words x) h = absurd (true≢false (sym h))
class-name-in (values.Notes x) h = absurd (true≢false (sym h))
class-name-in (values.Body x) h = absurd (true≢false (sym h))
class-name-in (values.Value type init) h = absurd (true≢false (sym h))

field-name-in : (value : Value) → has_form knowns.Field slots.Name value ≡ true → is_name (name_in (Some value)) ≡ true
field-name-in (values.Name name) h = h
field-name-in (values.Live x) h = absurd (true≢false (sym h))
field-name-in (values.Package x) h = absurd (true≢false (sym h))
field-name-in (values.Owner x) h = absurd (true≢false (sym h))
field-name-in (values.Method x) h = absurd (true≢false (sym h))
field-name-in (values.Super x) h = absurd (true≢false (sym h))
field-name-in (values.Result x) h = absurd (true≢false (sym h))
field-name-in (values.Params x) h = absurd (true≢false (sym h))
field-name-in (values.Kind x) h = absurd (true≢false (sym h))
field-name-in (values.Fixed x) h = absurd (true≢false (sym h))
field-name-in (values.Words x) h = absurd (true≢false (sym h))
field-name-in (values.Notes x) h = absurd (true≢false (sym h))
field-name-in (values.Body x) h = absurd (true≢false (sym h))
field-name-in (values.Value type init) h = absurd (true≢false (sym h))

instance-name-in : (value : Value) → has_form (knowns.Method Instance) slots.Name value ≡ true → is_name (name_in (Some value)) ≡ true
instance-name-in (values.Name name) h = h
instance-name-in (values.Live x) h = absurd (true≢false (sym h))
instance-name-in (values.Package x) h = absurd (true≢false (sym h))
instance-name-in (values.Owner x) h = absurd (true≢false (sym h))
instance-name-in (values.Method x) h = absurd (true≢false (sym h))
instance-name-in (values.Super x) h = absurd (true≢false (sym h))
instance-name-in (values.Result x) h = absurd (true≢false (sym h))
instance-name-in (values.Params x) h = absurd (true≢false (sym h))
instance-name-in (values.Kind x) h = absurd (true≢false (sym h))
instance-name-in (values.Fixed x) h = absurd (true≢false (sym h))
instance-name-in (values.Words x) h = absurd (true≢false (sym h))
instance-name-in (values.Notes x) h = absurd (true≢false (sym h))
instance-name-in (values.Body x) h = absurd (true≢false (sym h))
instance-name-in (values.Value type init) h = absurd (true≢false (sym h))

static-name-in : (value : Value) → has_form (knowns.Method Static) slots.Name value ≡ true → is_name (name_in (Some value)) ≡ true
static-name-in (values.Name name) h = h
static-name-in (values.Live x) h = absurd (true≢false (sym h))
static-name-in (values.Package x) h = absurd (true≢false (sym h))
static-name-in (values.Owner x) h = absurd (true≢false (sym h))
static-name-in (values.Method x) h = absurd (true≢false (sym h))
static-name-in (values.Super x) h = absurd (true≢false (sym h))
static-name-in (values.Result x) h = absurd (true≢false (sym h))
static-name-in (values.Params x) h = absurd (true≢false (sym h))
static-name-in (values.Kind x) h = absurd (true≢false (sym h))
static-name-in (values.Fixed x) h = absurd (true≢false (sym h))
static-name-in (values.Words x) h = absurd (true≢false (sym h))
static-name-in (values.Notes x) h = absurd (true≢false (sym h))
static-name-in (values.Body x) h = absurd (true≢false (sym h))
static-name-in (values.Value type init) h = absurd (true≢false (sym h))

package-in : (value : Value) → has_form knowns.Class slots.Package value ≡ true → is_dotted_name (package_in (Some value)) ≡ true
package-in (values.Package name) h = h
package-in (values.Live x) h = absurd (true≢false (sym h))
package-in (values.Owner x) h = absurd (true≢false (sym h))
package-in (values.Method x) h = absurd (true≢false (sym h))
package-in (values.Name x) h = absurd (true≢false (sym h))
package-in (values.Super x) h = absurd (true≢false (sym h))
package-in (values.Result x) h = absurd (true≢false (sym h))
package-in (values.Params x) h = absurd (true≢false (sym h))
package-in (values.Kind x) h = absurd (true≢false (sym h))
package-in (values.Fixed x) h = absurd (true≢false (sym h))
package-in (values.Words x) h = absurd (true≢false (sym h))
package-in (values.Notes x) h = absurd (true≢false (sym h))
package-in (values.Body x) h = absurd (true≢false (sym h))
package-in (values.Value type init) h = absurd (true≢false (sym h))

-- an owner that is read is one that is held
owned-by : (value : Option Value) (owner : Id) → owner_in value ≡ Some owner → value ≡ Some (values.Owner owner)
owned-by None owner h = absurd cc
owned-by (Some (values.Live x)) owner h = absurd cc
owned-by (Some (values.Package x)) owner h = absurd cc
owned-by (Some (values.Owner x)) owner h = ap (λ (o : Option Id). owned o) h where
  owned : Option Id → Option Value
  owned None = None
  owned (Some x) = Some (values.Owner x)
owned-by (Some (values.Method x)) owner h = absurd cc
owned-by (Some (values.Name x)) owner h = absurd cc
owned-by (Some (values.Super x)) owner h = absurd cc
owned-by (Some (values.Result x)) owner h = absurd cc
owned-by (Some (values.Params x)) owner h = absurd cc
owned-by (Some (values.Kind x)) owner h = absurd cc
owned-by (Some (values.Fixed x)) owner h = absurd cc
owned-by (Some (values.Words x)) owner h = absurd cc
owned-by (Some (values.Notes x)) owner h = absurd cc
owned-by (Some (values.Body x)) owner h = absurd cc
owned-by (Some (values.Value type init)) owner h = absurd cc

-- ---- found in a list

-- what holds of each of a list holds of what is found
found-passes : (p q : Param → Bool) (params : List Param) (param : Param) → list_all q params ≡ true → find p params ≡ Some param
    → q param ≡ true
found-passes p q [] param all is = absurd cc
found-passes p q (first ∷ params) param all is = by (p first) is (found-passes p q params param parts.1) where
  parts : (q first ≡ true) × (list_all q params ≡ true)
  parts = and_parts (q first) (list_all q params) all

  by : (b : Bool) → cond b (Some first) (find p params) ≡ Some param → (find p params ≡ Some param → q param ≡ true) → q param ≡ true
  by true same more = let is : first ≡ param = cc in subst (λ (x : Param). q x ≡ true) is parts.0
  by false same more = more same

-- ---- what may be imported: a class that is known, or a full name

abbrev pub MayBeImported : Program → Importable → Type 0
MayBeImported program (program_class class) = get program.known class ≡ Some knowns.Class
MayBeImported program (outside_import full) = is_dotted_name full ≡ true

module _ (program : Program) (rules : IsProgram program) where
  pub value-there : (id : Id) (slot : Slot) (known : Known) → get program.known id ≡ Some known → has_slot (Some known) slot ≡ true
      → (value : Value) × (value_at program id slot ≡ Some value) × (has_form known slot value ≡ true)
  value-there id slot known is has = by (value_at program id slot) refl where
    some : is_some (value_at program id slot) ≡ true
    some = rules.whole id slot ∙ ap (λ (k : Option Known). has_slot k slot) is ∙ has

    by : (o : Option Value) → value_at program id slot ≡ o
        → (value : Value) × (value_at program id slot ≡ Some value) × (has_form known slot value ≡ true)
    by None held = absurd (true≢false (sym some ∙ ap is_some held))
    by (Some value) held = (value, held, rules.forms id slot known value is held)

  -- ---- names

  named : (id : Id) (known : Known) → get program.known id ≡ Some known → has_slot (Some known) slots.Name ≡ true
      → ((value : Value) → has_form known slots.Name value ≡ true → is_name (name_in (Some value)) ≡ true)
      → is_name (name_at program id) ≡ true
  named id known is has each =
      let there = value-there id slots.Name known is has in
      ap (λ (o : Option Value). is_name (name_in o)) there.1 ∙ each there.0 there.2

  pub class-named : (class : Id) → get program.known class ≡ Some knowns.Class → is_name (name_at program class) ≡ true
  class-named class is = named class knowns.Class is refl class-name-in

  pub field-named : (field : Id) → get program.known field ≡ Some knowns.Field → is_name (name_at program field) ≡ true
  field-named field is = named field knowns.Field is refl field-name-in

  pub method-named : (method : Id) → IsCalled (get program.known method) → is_name (name_at program method) ≡ true
  method-named method is = by (get program.known method) refl is where
    by : (known : Option Known) → get program.known method ≡ known → IsCalled known → is_name (name_at program method) ≡ true
    by known same instance = named method (knowns.Method Instance) same refl instance-name-in
    by known same static = named method (knowns.Method Static) same refl static-name-in

  pub class-packaged : (class : Id) → get program.known class ≡ Some knowns.Class → is_dotted_name (package_at program class) ≡ true
  class-packaged class is =
      let there = value-there class slots.Package knowns.Class is refl in
      ap (λ (o : Option Value). is_dotted_name (package_in o)) there.1 ∙ package-in there.0 there.2

  -- ---- what may be imported

  pub full-dotted : (what : Importable) → MayBeImported program what → is_dotted_name (full_of program what) ≡ true
  full-dotted (program_class class) is =
      dotted-behind (package_at program class) (name_at program class) (class-packaged class is)
      (name-dotted (name_at program class) (class-named class is))
  full-dotted (outside_import full) is = is

  pub simple-named : (what : Importable) → MayBeImported program what → is_name (simple_of program what) ≡ true
  simple-named (program_class class) is = class-named class is
  simple-named (outside_import full) is = simple-name-is full is

  -- ---- owners

  pub owner-known : (id owner : Id) → owner_at program id ≡ Some owner → get program.known owner ≡ Some knowns.Class
  owner-known id owner is = class-fills id (get program.known owner)
      (and_parts _ true (rules.references id slots.Owner (values.Owner owner) (owned-by (value_at program id slots.Owner) owner is))).0

  declaring-known : (entry : Option (Id × Known)) (class : Id) → option_and_then (λ (entry : Id × Known). owner_at program entry.0) entry
      ≡ Some class
      → get program.known class ≡ Some knowns.Class
  declaring-known None class is = absurd cc
  declaring-known (Some entry) class is = owner-known entry.0 class is

  pub constructed-known : (constructor class : Id) → class_of_only_declaration program constructor ≡ Some class
      → get program.known class ≡ Some knowns.Class
  constructed-known constructor class is =
      declaring-known (find (λ (entry : Id × Known). is_decl_of constructor entry.1) (entries program.known)) class is

  -- ---- parameters

  pub params-are : (method : Id) → list_all is_param (params_at program method) ≡ true
  params-are method = (and_parts _ _ (and_parts _ _ (params-formed program rules method)).0).0

  listed-named : (id : Id) (method : Option Id) (param : Param)
      → option_and_then (λ method. find (λ (param : Param). same_id id param.id) (params_at program method)) method ≡ Some param
      → is_name param.name ≡ true
  listed-named id None param is = absurd cc
  listed-named id (Some method) param is =
      (and_parts _ _ (and_parts _ _ (found-passes (λ (param : Param). same_id id param.id) is_param (params_at program method) param
      (params-are method) is)).0).0

  pub param-named : (id : Id) (param : Param) → present_param program id ≡ Some param → is_name param.name ≡ true
  param-named id param is = listed-named id (method_of_param program id) param is
