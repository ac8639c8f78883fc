-- What is known of identities by the roles in which values name them; a parameter is no entity.
use Rattle.std.proofs.Common.{None, Option, Some, ap, false, refl, sym, true, true≢false, ◌∙◌, ◌≡◌}
use Rattle.mol_base.specs.declared.ident.Id.{Id}
use Rattle.mol_table_rules.specs.Life.{entity_in}
use Rattle.mol_table_rules.specs.Mentions.{Role, a_class, a_field, a_method, a_called_method, a_static_method, a_constructor, a_param, a_listed_param}
use Rattle.mol_table_rules.specs.Rules.{fills}
use Rattle.mol_values_types.specs.declared.kind.MethodKind.{MethodKind}
use Rattle.mol_values_types.specs.declared.kind.MethodKind.TheVariants.{Instance, Static, Constructor}
use Rattle.mol_values_types.specs.declared.known.Known.{Known}
use Rattle.mol_values_types.specs.declared.known.Known.TheVariants as knowns
use Rattle.mol_table_rules.proofs.Living.{id_tied}

-- ---- what is known

-- a function of what is known that takes a parameter for nothing
pub by-entity : {X : Type 0} (f : Option Known → X) → ((method : Id) → f (Some (knowns.Param method)) ≡ f None)
    → (o : Option Known) → f o ≡ f (entity_in o)
by-entity f none None = refl
by-entity f none (Some knowns.Class) = refl
by-entity f none (Some (knowns.Method kind)) = refl
by-entity f none (Some (knowns.Decl method)) = refl
by-entity f none (Some knowns.Field) = refl
by-entity f none (Some (knowns.Param method)) = none method

pub known-method : (owner : Id) (o : Option Known) → fills owner a_method o ≡ true → (kind : MethodKind) × (o ≡ Some (knowns.Method kind))
known-method owner None is = absurd (true≢false (sym is))
known-method owner (Some knowns.Class) is = absurd (true≢false (sym is))
known-method owner (Some (knowns.Method kind)) is = (kind, refl)
known-method owner (Some (knowns.Decl method)) is = absurd (true≢false (sym is))
known-method owner (Some knowns.Field) is = absurd (true≢false (sym is))
known-method owner (Some (knowns.Param method)) is = absurd (true≢false (sym is))

-- what some roles ask of what is known
abbrev pub IsRight : Role → Option Known → Type 0
IsRight a_class o = o ≡ Some knowns.Class
IsRight a_static_method o = o ≡ Some (knowns.Method Static)
IsRight a_constructor o = o ≡ Some (knowns.Method Constructor)
IsRight role o = Unit {0}

class-right : (owner : Id) (o : Option Known) → fills owner a_class o ≡ true → o ≡ Some knowns.Class
class-right owner None is = absurd (true≢false (sym is))
class-right owner (Some knowns.Class) is = refl
class-right owner (Some (knowns.Method kind)) is = absurd (true≢false (sym is))
class-right owner (Some (knowns.Decl method)) is = absurd (true≢false (sym is))
class-right owner (Some knowns.Field) is = absurd (true≢false (sym is))
class-right owner (Some (knowns.Param method)) is = absurd (true≢false (sym is))

static-right : (owner : Id) (o : Option Known) → fills owner a_static_method o ≡ true → o ≡ Some (knowns.Method Static)
static-right owner None is = absurd (true≢false (sym is))
static-right owner (Some knowns.Class) is = absurd (true≢false (sym is))
static-right owner (Some (knowns.Method Instance)) is = absurd (true≢false (sym is))
static-right owner (Some (knowns.Method Static)) is = refl
static-right owner (Some (knowns.Method Constructor)) is = absurd (true≢false (sym is))
static-right owner (Some (knowns.Decl method)) is = absurd (true≢false (sym is))
static-right owner (Some knowns.Field) is = absurd (true≢false (sym is))
static-right owner (Some (knowns.Param method)) is = absurd (true≢false (sym is))

constructor-right : (owner : Id) (o : Option Known) → fills owner a_constructor o ≡ true → o ≡ Some (knowns.Method Constructor)
constructor-right owner None is = absurd (true≢false (sym is))
constructor-right owner (Some knowns.Class) is = absurd (true≢false (sym is))
constructor-right owner (Some (knowns.Method Instance)) is = absurd (true≢false (sym is))
constructor-right owner (Some (knowns.Method Static)) is = absurd (true≢false (sym is))
constructor-right owner (Some (knowns.Method Constructor)) is = refl
constructor-right owner (Some (knowns.Decl method)) is = absurd (true≢false (sym is))
constructor-right owner (Some knowns.Field) is = absurd (true≢false (sym is))
constructor-right owner (Some (knowns.Param method)) is = absurd (true≢false (sym is))

pub role-right : (role : Role) (owner : Id) (o : Option Known) → fills owner role o ≡ true → IsRight role o
role-right a_class owner o is = class-right owner o is
role-right a_field owner o is = tt {0}
role-right a_method owner o is = tt {0}
role-right a_called_method owner o is = tt {0}
role-right a_static_method owner o is = static-right owner o is
role-right a_constructor owner o is = constructor-right owner o is
role-right a_param owner o is = tt {0}
role-right a_listed_param owner o is = tt {0}

pub listed-right : (owner : Id) (o : Option Known) → fills owner a_listed_param o ≡ true → o ≡ Some (knowns.Param owner)
listed-right owner None is = absurd (true≢false (sym is))
listed-right owner (Some knowns.Class) is = absurd (true≢false (sym is))
listed-right owner (Some (knowns.Method kind)) is = absurd (true≢false (sym is))
listed-right owner (Some (knowns.Decl method)) is = absurd (true≢false (sym is))
listed-right owner (Some knowns.Field) is = absurd (true≢false (sym is))
listed-right owner (Some (knowns.Param method)) is = ap (λ (id : Id). Some (knowns.Param id)) (id_tied method owner is)

-- what is mentioned as no parameter is none
abbrev pub IsRightly : Role → Option Known → Type 0
IsRightly a_param o = Unit {0}
IsRightly a_listed_param o = Unit {0}
IsRightly role o = entity_in o ≡ o

class-entity : (owner : Id) (role : Role) (o : Option Known) → fills owner role o ≡ true
    → ((id : Id) → fills owner role (Some (knowns.Param id)) ≡ false)
    → entity_in o ≡ o
class-entity owner role None is not_param = refl
class-entity owner role (Some knowns.Class) is not_param = refl
class-entity owner role (Some (knowns.Method kind)) is not_param = refl
class-entity owner role (Some (knowns.Decl method)) is not_param = refl
class-entity owner role (Some knowns.Field) is not_param = refl
class-entity owner role (Some (knowns.Param method)) is not_param = absurd (true≢false (sym is ∙ not_param method))

pub rightly : (role : Role) (owner : Id) (o : Option Known) → fills owner role o ≡ true → IsRightly role o
rightly a_class owner o is = class-entity owner a_class o is (λ id. refl)
rightly a_field owner o is = class-entity owner a_field o is (λ id. refl)
rightly a_method owner o is = class-entity owner a_method o is (λ id. refl)
rightly a_called_method owner o is = class-entity owner a_called_method o is (λ id. refl)
rightly a_static_method owner o is = class-entity owner a_static_method o is (λ id. refl)
rightly a_constructor owner o is = class-entity owner a_constructor o is (λ id. refl)
rightly a_param owner o is = tt {0}
rightly a_listed_param owner o is = tt {0}
