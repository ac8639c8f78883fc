-- Members as they are found, beside those that the rules on names find.
use Rattle.std.specs.Prelude.{◌≡◌, ℕ, List, Contains, if◌then◌else◌}
use Rattle.jav_names.specs.seen.Kept.{view_type}
use Rattle.jav_names.specs.DottedNames.{Name}
use Rattle.jav_names.specs.Members.{Constructor, declared_constructor, default_constructor, is_object_method}
use Rattle.jav_names.specs.OnValues.{is_static_kind}
use Rattle.jav_names.specs.UnitViews.{MemberKey}
use Rattle.jav_names.specs.Views.{ViewDeclaration, ViewField, Found as Result, found, outside, not_found}
use Rattle.jav_scope.specs.Answers.{declaration_ref}
use Rattle.jav_scope.specs.Entries.{view_in}
use Rattle.jav_scope.specs.declared.found.Found.{Found}
use Rattle.jav_scope.specs.declared.found.Found.TheVariants as answer
use Rattle.jav_scope.specs.declared.source.SourceUnit.{SourceUnit}
use Rattle.mol_resolve_members.specs.declared.found.found_member.FoundConstructor.{FoundConstructor}
use Rattle.mol_resolve_members.specs.declared.found.found_member.FoundConstructor.TheVariants as constructor
use Rattle.mol_resolve_members.specs.declared.found.found_member.FoundField.{FoundField}
use Rattle.mol_resolve_members.specs.declared.found.found_member.FoundMethod.{FoundMethod}
use Rattle.mol_resolve_members.specs.sources.Sources.{files_of}
use Rattle.mol_resolve_rules.specs.Numbering.{ids_of}

-- The answer is as the rules have it: something that is what they find, or outside, or nothing.
abbrev pub Answers : {A B : Type 0} → (B → A → Type 0) → Found A → Result B → Type 0
Answers is (answer.Found x) (found y) = is y x
Answers is answer.Outside outside = Unit {0}
Answers is answer.NotFound not_found = Unit {0}
Answers is result read = ⊥

-- This is the field.
pub record IsField (sources : List SourceUnit) (field : ViewField ℕ MemberKey) (kept : FoundField) : Type 0 where
  pub identity : kept.id ≡ (ids_of (files_of sources)).member_id field.key
  pub type : view_type kept.ty.now ≡ field.type
  pub static : kept.is_static ≡ field.is_static

-- This is the method of the declaration, which stands in the files.
pub record IsMethod (sources : List SourceUnit) (declared : ViewDeclaration ℕ MemberKey) (kept : FoundMethod) : Type 0 where
  pub stands : Contains (view_in sources).declarations declared
  pub place : kept.at ≡ declaration_ref declared
  pub takes : kept.arity ≡ declared.arity
  pub identity : kept.id ≡ (ids_of (files_of sources)).method_id declared
  pub gives : view_type kept.result.now ≡ declared.result
  pub static : kept.is_static ≡ is_static_kind declared.kind

-- It is the method of some declaration.
pub record HasMethod (sources : List SourceUnit) (kept : FoundMethod) : Type 0 where
  pub declared : ViewDeclaration ℕ MemberKey
  pub is : IsMethod sources declared kept

-- This is the constructor.
abbrev pub IsConstructor : List SourceUnit → Constructor ℕ MemberKey → FoundConstructor → Type 0
IsConstructor sources (declared_constructor declared) (constructor.Declared kept) = IsMethod sources declared kept
IsConstructor sources (default_constructor class) (constructor.Default id) = id ≡ (ids_of (files_of sources)).class_id class
IsConstructor sources read kept = ⊥

-- a method that no class has
abbrev pub of_object : {A : Type 0} → Name → ℕ → Found A
of_object name arity = if is_object_method name arity then answer.Outside else answer.NotFound
