-- Source files that read as a program.
use Rattle.std.specs.Prelude.{◌≡◌, ◌≢◌, ◌↔◌, ℕ, IsTrue, List, Option, Some, is_some, Contains}
use Rattle.std.specs.List.{AllZip}
use Rattle.std.specs.FinMap.{get}
use Rattle.mol_base.specs.Limits.{most, max_items}
use Rattle.mol_base.specs.Source.{IsSource}
use Rattle.mol_base.specs.Token.{Token}
use Rattle.mol_base.specs.declared.ident.Id.{Id}
use Rattle.mol_base.specs.declared.limit.Which.TheVariants.{Height}
use Rattle.mol_table_rules.specs.Life.{lives}
use Rattle.mol_table_rules.specs.Program.{Program, value_at}
use Rattle.mol_table_rules.specs.Tidy.{tidy}
use Rattle.mol_values_types.specs.Slots.{has_slot}
use Rattle.mol_values_types.specs.declared.cell.Slot.{Slot}
use Rattle.mol_values_types.specs.declared.cell.Slot.TheVariants as slots
use Rattle.mol_values_types.specs.declared.iexpr.IExpr.{IExpr}
use Rattle.mol_values_types.specs.declared.itype.IType.{IType}
use Rattle.mol_values_types.specs.declared.iblock.IBlock.{IBlock}
use Rattle.mol_values_types.specs.declared.known.Known.{Known}
use Rattle.mol_values_types.specs.declared.param.Param.{Param}
use Rattle.mol_values_types.specs.declared.value.Value.{Value}
use Rattle.mol_values_types.specs.declared.value.Value.TheVariants as values
use Rattle.jav_tree.specs.Trees.{IsUnit}
use Rattle.jav_names.specs.DottedNames.{Name}
use Rattle.jav_names.specs.Standing.{IsMethodOf}
use Rattle.jav_names.specs.UnitViews.{MemberKey}
use Rattle.jav_names.specs.Views.{constructor, ViewDeclaration}
use Rattle.mol_resolve_rules.specs.Expected.{known_of, value_of}
use Rattle.mol_resolve_rules.specs.FaultKinds.{FaultKind}
use Rattle.mol_resolve_rules.specs.Files.{File, Files, files_view}
use Rattle.mol_resolve_rules.specs.Numbering.{Numbered, numbered_member, in_order, id_at}
use Rattle.mol_resolve_rules.specs.ResolveFaults.{Fails}
use Rattle.mol_resolve_rules.specs.Says.{SaysType, SaysMaybe}
use Rattle.mol_resolve_rules.specs.SaysStatements.{SaysBlock}

-- ---- values of cells

-- a parameter by its identity, its name and its type; whatever its filler is
pub record SaysParam (said held : Param) : Type 0 where
  pub id : said.id ≡ held.id
  pub name : said.name ≡ held.name
  pub type : SaysType said.ty held.ty

-- The value of a cell says what source text says.
pub data SaysValue : Value → Value → Type 0 where
  equal_value : {value : Value} → SaysValue value value
  says_super : {said held : IType} → SaysType said held → SaysValue (values.Super (Some said)) (values.Super (Some held))
  says_result : {said held : IType} → SaysType said held → SaysValue (values.Result said) (values.Result held)
  says_params : {all_said all_held : List Param} → AllZip SaysParam all_said all_held
      → SaysValue (values.Params all_said) (values.Params all_held)
  says_body : {said held : IBlock} → SaysBlock said held
      → SaysValue (values.Body (Some (record { block = said }))) (values.Body (Some (record { block = held })))
  says_value : {said held : IType} {said_init held_init : Option IExpr} → SaysType said held → SaysMaybe said_init held_init
      → SaysValue (values.Value said said_init) (values.Value held held_init)

-- ---- what a program holds

-- Each class, member, method and parameter of the files has its number as identity, and is known as what it is; and nothing else is
-- known.
pub record IsNumbered (files : Files) (program : Program) : Type 0 where
  pub each : (item : Numbered) → Contains (in_order files) item
      → (known : Known) × ((known_of files item ≡ Some known) × (get program.known (id_at files item) ≡ Some known))
  pub only : (id : Id) (known : Known) → get program.known id ≡ Some known
      → (item : Numbered) × (Contains (in_order files) item × (id_at files item ≡ id))

-- a cell holds a value that agrees with what the files say
pub record Holds (Agree : Value → Value → Type 0) (program : Program) (id : Id) (slot : Slot) (said : Option Value) : Type 0 where
  pub text : Value
  pub held : Value
  pub says : said ≡ Some text
  pub holds : value_at program id slot ≡ Some held
  pub agree : Agree text held

-- so does each cell of each class, member and method of the files
abbrev pub HoldsAll : (Value → Value → Type 0) → Files → Program → Type 0
HoldsAll Agree files program = (item : Numbered) → Contains (in_order files) item → (slot : Slot)
    → IsTrue (has_slot (known_of files item) slot) → Holds Agree program (id_at files item) slot (value_of files item slot)

-- Each name reads as what the program has there, all other words agree, and `fixed` is as the name and the number of parameters say.
abbrev pub HoldsWhatIsSaid : Files → Program → Type 0
HoldsWhatIsSaid = HoldsAll SaysValue

-- ---- methods

-- Two declarations have one name and number of parameters, and one declaration of these stands in the class of each or above it.
pub record ShareMethod (files : Files) (first second : ViewDeclaration ℕ MemberKey) : Type 0 where
  pub named : first.name ≡ second.name
  pub as_many : first.arity ≡ second.arity
  pub above : ViewDeclaration ℕ MemberKey
  pub first_below : IsMethodOf (files_view files) first.owner first.name first.arity above
  pub second_below : IsMethodOf (files_view files) second.owner second.name second.arity above

-- the cell that holds the method of a declaration
abbrev pub method_held : Files → Program → ViewDeclaration ℕ MemberKey → Option Value
method_held files program declared = value_at program (id_at files (numbered_member declared.key)) slots.Method

-- But for constructors, two declarations have the same method in their cells exactly where they share a method as above.
abbrev pub MethodsByName : Files → Program → Type 0
MethodsByName files program = (first second : ViewDeclaration ℕ MemberKey) → Contains (files_view files).declarations first
    → Contains (files_view files).declarations second → first.kind ≢ constructor → second.kind ≢ constructor
    → (method_held files program first ≡ method_held files program second) ↔ ShareMethod files first second

-- ---- files that read as a program

-- none of the fourteen faults holds
abbrev pub HasNoFault : Files → Type 0
HasNoFault files = (kind : FaultKind) (number at : ℕ) → ¬ Fails files kind number at

-- each identity that a program knows lives
abbrev pub KnowsLivingAlone : Program → Type 0
KnowsLivingAlone program = (id : Id) → IsTrue (is_some (get program.known id)) → IsTrue (lives program id)

-- The files read as the program: they have no fault, it has what they say under their numbers, and else nothing.
pub record FilesReadAs (files : Files) (program : Program) : Type 0 where
  pub no_fault : HasNoFault files
  pub numbered : IsNumbered files program
  pub holds : HoldsWhatIsSaid files program
  pub methods : MethodsByName files program
  pub tidied : tidy program ≡ program
  pub all_live : KnowsLivingAlone program

-- The program is in plain form: each identity has exactly the cells of its kind; where the program could say the same in several words it
-- has those that reading gives, and fillers are those of the types of parameters.
pub record IsPlain (files : Files) (program : Program) : Type 0 where
  pub no_fault : HasNoFault files
  pub numbered : IsNumbered files program
  pub whole : (id : Id) (slot : Slot) → is_some (value_at program id slot) ≡ has_slot (get program.known id) slot
  pub holds : HoldsAll (λ said held. held ≡ said) files program

-- ---- texts that do

-- a path, and the bytes that stand there
pub record SourceText : Type 0 where
  pub path : Name
  pub bytes : List ℕ

-- The bytes are the text of this file, which is within the limits of height and number.
pub record IsParsed (text : SourceText) (file : File) : Type 0 where
  pub path : file.path ≡ text.path
  pub tokens : List Token
  pub lexes : IsSource text.bytes tokens
  pub parses : IsUnit max_items (most Height) file.unit tokens

-- The texts read as the program.
pub record ReadAs (texts : List SourceText) (program : Program) : Type 0 where
  pub files : Files
  pub parsed : AllZip IsParsed texts files
  pub read : FilesReadAs files program
