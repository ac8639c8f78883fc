-- Where names of a program are written: how classes and imported types are spelled there, and what a name that is printed asks.
use Rattle.std.specs.Prelude.{ℕ, Bool, true, false, ◌&&◌, not, [], ◌∷◌, Option, if◌then◌else◌}
use Rattle.mol_base.specs.declared.ident.Id.{Id}
use Rattle.mol_spell_rules.specs.references.References.{Target}
use Rattle.mol_table_rules.specs.Program.{Program, package_at, name_at}
use Rattle.jav_names.specs.DottedNames.{Name, Names, Dotted, joined, cut, simple_name}
use Rattle.jav_names.specs.LookUps.{variable}
use Rattle.jav_names.specs.OnValues.{StaticType}
use Rattle.jav_names.specs.Variables.{Variable}
use Rattle.jav_names.specs.Views.{Found, found, outside, not_found}
use Rattle.mol_resolve_rules.specs.Locals.{Locals}
use Rattle.mol_resolve_rules.specs.Readers.{Reader, place_of}

-- ---- what may be imported

-- What may be imported (JLS 7.5.1): a class of the program, or a type outside by its full name.
pub data Importable : Type 0 where
  program_class : Id → Importable
  outside_import : Name → Importable

-- the full name (JLS 6.7): of a class by its cells, whether or not it lives
abbrev pub full_of : Program → Importable → Name
full_of program (program_class class) = joined (package_at program class) (name_at program class ∷ [])
full_of program (outside_import full) = full

abbrev pub simple_of : Program → Importable → Name
simple_of program (program_class class) = name_at program class
simple_of program (outside_import full) = simple_name full

-- ---- a place of writing

-- The program whose values are written, where the names are read that are printed, and what has a simple name in the file.
pub record Writer : Type 0 where
  pub program : Program
  pub reader : Reader Id Id
  pub is_simple : Importable → Bool

abbrev pub is_variable : Found (Variable Id Id) → Bool
is_variable (found variable) = true
is_variable outside = false
is_variable not_found = false

-- A local, a parameter or a field of the program has this name here, so that it goes before a class of this name (JLS 6.4.2).
abbrev pub is_hidden : Reader Id Id → Locals Id → Name → Bool
is_hidden reader locals name = is_variable (variable reader.view (place_of reader locals) name)

-- No name is hidden where nothing but a type can stand: in the type of a declaration, and after `extends`.
abbrev pub hides_none : Name → Bool
hides_none name = false

-- By its simple name, where it has one in the file and that is not hidden here; else by its full name.
abbrev pub spelled : Writer → (hides : Name → Bool) → Importable → Dotted
spelled writer hides what =
    if writer.is_simple what && not (hides (simple_of writer.program what))
    then record { first = simple_of writer.program what; rest = [] } else cut (full_of writer.program what)

abbrev pub text_of : Dotted → Name
text_of names = joined names.first names.rest

-- ---- uses

-- What a printed name uses, beside members and variables. Of what may be imported it is also said whether its simple name is hidden here.
-- The first name of what is printed as it is written stands for something outside.
pub data Use : Type 0 where
  importable_use : Importable → (hidden : Bool) → Use
  written_use : Name → Use

abbrev pub use_of : Writer → (hides : Name → Bool) → Importable → Use
use_of writer hides what = importable_use what (hides (simple_of writer.program what))

-- ---- references

-- What a printed name asks for, by its text and where it stands. Names that follow it after dots, up to a call, are with it where they may
-- decide what it is.
pub data Asked : Type 0 where
  -- a type
  type_asked : Name → Asked
  -- a variable: a name that stands alone, and one before a dot
  name_asked : Name → Asked
  name_before_asked : Name → (follow : Names) → Asked
  -- a type outside, where a value might stand
  path_asked : Dotted → (follow : Names) → Asked
  -- a static member, with the name of its class
  static_field_asked : Dotted → Name → (follow : Names) → Asked
  static_method_asked : Dotted → Name → (arity : ℕ) → Asked
  -- a member of a value of this type
  field_asked : StaticType Id → Name → Asked
  method_asked : StaticType Id → Name → (arity : ℕ) → Asked
  -- a method without anything before it, and one after `super.`
  call_asked : Name → (arity : ℕ) → Asked
  super_method_asked : Name → (arity : ℕ) → Asked
  -- a constructor after `new` and this name of a type, and by `super(..)`
  constructor_asked : Name → (arity : ℕ) → Asked
  super_constructor_asked : (arity : ℕ) → Asked
  -- the brackets after a value of this type
  index_asked : StaticType Id → Asked

-- A name that is printed: what it is the name of, what it asks, what it uses, and the locals where it stands.
pub record Reference : Type 0 where
  pub target : Target
  pub asked : Asked
  pub uses : Option Use
  pub locals : Locals Id
